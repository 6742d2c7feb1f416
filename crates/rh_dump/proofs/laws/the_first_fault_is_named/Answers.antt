use Rattle.rh_dump.proofs.texts.FirstFault.{first_fault, no_fault_of_dump, faultless_is_dump}
use Rattle.rh_dump.proofs.laws.the_first_fault_is_named.Goals as goal

pub returns-clause-first : goal.returns-clause-first
returns-clause-first c = first_fault

pub returns-clause-none : goal.returns-clause-none
returns-clause-none c = no_fault_of_dump

pub returns-clause-spelled : goal.returns-clause-spelled
returns-clause-spelled c = faultless_is_dump
