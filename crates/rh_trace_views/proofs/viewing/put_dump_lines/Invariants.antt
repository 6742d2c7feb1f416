use Rattle.std.proofs.Common.{◌≡◌, ◌++◌, length}
use Rattle.rh_trace_views.specs.Views.{json_dump_lines}
use Rattle.rh_trace_views.proofs.viewing.put_dump_lines.Given as goal

-- the text so far, and the objects of the lines that are left, are the whole text
abbrev pub invariant-loop-rest : goal.invariant-loop-rest
invariant-loop-rest g l = l.text.items ++ json_dump_lines l.line l.rest ≡ l.fn.text.items ++ json_dump_lines l.line l.dump

abbrev pub decreases-loop-rest : goal.decreases-loop-rest
decreases-loop-rest g l = length l.rest
