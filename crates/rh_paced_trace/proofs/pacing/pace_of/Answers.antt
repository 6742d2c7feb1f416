use Rattle.std.proofs.Common.{ℕ, subst}
use Rattle.rh_paced_trace.specs.Pacing.{IsFilling}
use Rattle.rh_paced_trace.proofs.Fillings.{filling}
use Rattle.rh_paced_trace.proofs.pacing.pace_of.Goals as goal

pub returns-in-None : goal.returns-in-None
returns-in-None c =
    let h = c.args.header in
    let told = c.filling.ensures in
    let filled = filling h.words c.biggest_of.result h.ratio c.filling.result told.keeps_up told.lowest told.log_limit told.exactly told.ratio told.need in
    rw c.in-None.is (subst (λ (n : ℕ). IsFilling h.words n h.ratio c.filling.result) c.biggest_of.ensures filled)
