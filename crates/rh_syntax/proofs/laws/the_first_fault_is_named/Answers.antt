use Rattle.rh_syntax.specs.lemmas.FirstFault.{first_fault, no_fault_of_trace, spelled_line, spelled_header}
use Rattle.rh_syntax.proofs.laws.the_first_fault_is_named.Goals as goal

pub returns-clause-first : goal.returns-clause-first
returns-clause-first c = first_fault

pub returns-clause-none : goal.returns-clause-none
returns-clause-none c = no_fault_of_trace

pub returns-clause-spelled_header : goal.returns-clause-spelled_header
returns-clause-spelled_header c = spelled_header

pub returns-clause-spelled_line : goal.returns-clause-spelled_line
returns-clause-spelled_line c = spelled_line
