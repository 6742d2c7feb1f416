use Rattle.std.proofs.Common.{refl}
use Rattle.rh_paced_trace.specs.Pacing.{pace_at}
use Rattle.rh_paced_trace.proofs.laws.a_run_at_a_mark_has_its_pace.Goals as goal

pub returns-clause-always : goal.returns-clause-always
returns-clause-always c = λ mark script. (pace_at mark script.header, refl)
