use Rattle.std.proofs.Common.{◌≡◌, drop, map}
use Rattle.rh_syntax.specs.Faults.{lookup}
use Rattle.rh_explain.specs.Explain.{entry_of}
use Rattle.rh_explain.proofs.rows.row_in.Given as goal

abbrev pub invariant-loop-row : goal.invariant-loop-row
invariant-loop-row l = lookup l.word (map entry_of (drop l.row-index l.rows)) ≡ lookup l.word (map entry_of l.rows)
