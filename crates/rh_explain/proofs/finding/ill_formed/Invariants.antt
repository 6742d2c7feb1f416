use Rattle.std.proofs.Common.{true, take}
use Rattle.rh_explain.proofs.Bytes.{Leads}
use Rattle.rh_explain.proofs.finding.ill_formed.Given as goal

abbrev pub invariant-loop-index : goal.invariant-loop-index
invariant-loop-index l = Leads true (take l.index l.line) l.is_part_empty
