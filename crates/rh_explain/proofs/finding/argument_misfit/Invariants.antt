use Rattle.std.proofs.Common.{drop, map}
use Rattle.rh_text.specs.Parts.{parts_of, parts_left}
use Rattle.rh_explain.specs.Explain.{sort_of}
use Rattle.rh_explain.proofs.Walk.{Walked}
use Rattle.rh_explain.proofs.finding.argument_misfit.Given as goal

abbrev pub invariant-loop-index : goal.invariant-loop-index
invariant-loop-index l = Walked (map sort_of l.form) (map sort_of (drop l.index l.form)) (parts_of l.line) (parts_left l.rest) l.index
