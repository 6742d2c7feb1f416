use Rattle.std.proofs.Common.{◌≡◌, ◌++◌, take}
use Rattle.rh_trace.specs.Answers.{trays_text}
use Rattle.rh_trace_views.proofs.answering.put_tray_lines.Given as goal

abbrev pub invariant-loop-i : goal.invariant-loop-i
invariant-loop-i g l = l.told.items ≡ l.fn.told.items ++ trays_text (take l.i l.trays)
