use Rattle.std.proofs.Common.{sym}
use Rattle.rh_explain.proofs.Parts.{number_passes, number_fails}
use Rattle.rh_explain.proofs.finding.why_no_number.Goals as goal

pub returns-in-Some : goal.returns-in-Some
returns-in-Some c = number_passes c.args.part.now _ (sym c.in-Some.ensures)

pub returns-in-None : goal.returns-in-None
returns-in-None c = rw c.why_number.ensures (number_fails c.args.part.now (sym c.in-None.ensures))
