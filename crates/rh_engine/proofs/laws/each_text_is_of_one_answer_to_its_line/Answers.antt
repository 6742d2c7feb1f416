use Rattle.rh_engine.proofs.OneCycleAnswer.{begin_text-injective, shade_text-injective, deal_text-injective, give_text-injective, join_text-injective, flip_text-injective, recall_text-injective, abandon_text-injective, idle_text-injective, resize_text-injective}
use Rattle.rh_engine.proofs.OneWatchAnswer.{tickets_text-injective, watch_text-injective, unwatch_text-injective, gone_text-injective}
use Rattle.rh_engine.proofs.laws.each_text_is_of_one_answer_to_its_line.Goals as goal

pub returns-clause-begin : goal.returns-clause-begin
returns-clause-begin c = begin_text-injective

pub returns-clause-shade : goal.returns-clause-shade
returns-clause-shade c = shade_text-injective

pub returns-clause-deal : goal.returns-clause-deal
returns-clause-deal c = deal_text-injective

pub returns-clause-give : goal.returns-clause-give
returns-clause-give c = give_text-injective

pub returns-clause-join : goal.returns-clause-join
returns-clause-join c = join_text-injective

pub returns-clause-flip : goal.returns-clause-flip
returns-clause-flip c = flip_text-injective

pub returns-clause-recall : goal.returns-clause-recall
returns-clause-recall c = recall_text-injective

pub returns-clause-abandon : goal.returns-clause-abandon
returns-clause-abandon c = abandon_text-injective

pub returns-clause-idle : goal.returns-clause-idle
returns-clause-idle c = idle_text-injective

pub returns-clause-resize : goal.returns-clause-resize
returns-clause-resize c = resize_text-injective

pub returns-clause-tickets : goal.returns-clause-tickets
returns-clause-tickets c = tickets_text-injective

pub returns-clause-watch : goal.returns-clause-watch
returns-clause-watch c = watch_text-injective

pub returns-clause-unwatch : goal.returns-clause-unwatch
returns-clause-unwatch c = unwatch_text-injective

pub returns-clause-gone : goal.returns-clause-gone
returns-clause-gone c = gone_text-injective
