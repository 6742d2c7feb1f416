use Rattle.rh_syntax.specs.lemmas.TrayNames.{name-from_read, read-from_name}
use Rattle.rh_syntax.proofs.laws.the_names_of_trays_are_read.Goals as goal

pub returns-clause-read : goal.returns-clause-read
returns-clause-read c = name-from_read

pub returns-clause-named : goal.returns-clause-named
returns-clause-named c = read-from_name
