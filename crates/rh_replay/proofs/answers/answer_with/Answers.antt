use Rattle.std.proofs.Common.{rules}
use Rattle.rh_replay.specs.Reading.{answer_with}
use Rattle.rh_replay.proofs.answers.answer_with.Goals as goal

pub returns-then-is_text-3 : goal.returns-then-is_text-3
unfolding answer_with
returns-then-is_text-3 c = search rules
