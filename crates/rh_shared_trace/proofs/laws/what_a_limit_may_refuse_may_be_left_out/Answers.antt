use Rattle.std.proofs.lemmas.Bool.Decides.{Decides-ltb}
use Rattle.rh_shared_trace.specs.declared.trace_limits.Limit.TheVariants.{Space, Log}
use Rattle.rh_shared_trace.specs.Limiting.{taken_by_all}
use Rattle.rh_shared_trace.proofs.LeftOut.{left_out_is_limited, made_is_left_out, stored_is_left_out}
use Rattle.rh_shared_trace.proofs.laws.what_a_limit_may_refuse_may_be_left_out.Goals as goal

pub returns-clause-only : goal.returns-clause-only
returns-clause-only c = left_out_is_limited

pub returns-clause-space : goal.returns-clause-space
returns-clause-space c = made_is_left_out

pub returns-clause-stored : goal.returns-clause-stored
returns-clause-stored c = λ command m limit space is holds. stored_is_left_out command space is

pub returns-clause-comes : goal.returns-clause-comes
returns-clause-comes c = λ header lines.
    (Decides-ltb header.words (taken_by_all Space lines), Decides-ltb header.log (taken_by_all Log lines))
