use Rattle.rh_dump.specs.declared.reading.due.Version.TheVariants.{One}
use Rattle.rh_dump.specs.texts.Line.{dump_text, text_in}
use Rattle.rh_cli.proofs.WorkedCounts.{counted_as, counted_one, counted_raw, counted_two}
use Rattle.rh_cli.proofs.laws.the_counts_are_those_of_the_graph.Goals as goal

pub returns-clause-counted : goal.returns-clause-counted
returns-clause-counted c = λ g old new is few. counted_as (dump_text g) g old new (c.what_is_spelled_is_read.ensures.spelled g is few)

pub returns-clause-version_1 : goal.returns-clause-version_1
returns-clause-version_1 c = λ g old new is plain few. counted_as (text_in One g) g old new ((c.what_is_spelled_is_read.ensures.version_1 g is few).1 plain)

pub returns-clause-one : goal.returns-clause-one
returns-clause-one c = counted_one

pub returns-clause-worked : goal.returns-clause-worked
returns-clause-worked c = counted_two

pub returns-clause-raw : goal.returns-clause-raw
returns-clause-raw c = counted_raw
