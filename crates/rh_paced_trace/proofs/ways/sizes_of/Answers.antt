use Rattle.std.proofs.Common.{◌<◌, List, length, sym, subst}
use Rattle.rh_syntax.specs.declared.request.Request.{Request}
use Rattle.rh_paced_trace.proofs.ways.sizes_of.Goals as goal

pub other_fault-requires : goal.other_fault-requires
other_fault-requires g c = subst (λ (requests : List Request). length requests < 1048576) (sym c.requests.ensures) c.requires.few
