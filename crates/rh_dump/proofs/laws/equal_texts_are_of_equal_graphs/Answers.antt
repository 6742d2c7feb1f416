use Rattle.rh_dump.proofs.texts.SpelledIsRead.{dump_text-injective, text_in-injective}
use Rattle.rh_dump.proofs.laws.equal_texts_are_of_equal_graphs.Goals as goal

pub returns-clause-dumps : goal.returns-clause-dumps
returns-clause-dumps c = dump_text-injective

pub returns-clause-versions : goal.returns-clause-versions
returns-clause-versions c = text_in-injective
