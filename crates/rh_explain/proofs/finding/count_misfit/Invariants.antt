use Rattle.std.proofs.Common.{◌≡◌, ◌+◌, length}
use Rattle.rh_text.specs.Parts.{parts_of, parts_left}
use Rattle.rh_explain.proofs.finding.count_misfit.Given as goal

abbrev pub invariant-loop-index : goal.invariant-loop-index
invariant-loop-index l = l.index + length (parts_left l.rest) ≡ length (parts_of l.line)
