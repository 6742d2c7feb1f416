use Rattle.rh_shared_trace.proofs.Takes.{most, needed, none, one, others, stores, sum}
use Rattle.rh_shared_trace.proofs.laws.what_a_line_takes_is_what_a_heap_needs.Goals as goal

pub returns-clause-space : goal.returns-clause-space
returns-clause-space c = needed

pub returns-clause-none : goal.returns-clause-none
returns-clause-none c = none

pub returns-clause-log : goal.returns-clause-log
returns-clause-log c = stores

pub returns-clause-others : goal.returns-clause-others
returns-clause-others c = others

pub returns-clause-most : goal.returns-clause-most
returns-clause-most c = most

pub returns-clause-one : goal.returns-clause-one
returns-clause-one c = one

pub returns-clause-sum : goal.returns-clause-sum
returns-clause-sum c = sum
