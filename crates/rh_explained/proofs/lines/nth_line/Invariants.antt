use Rattle.std.proofs.Common.{◌≡◌, ◌-◌, get_or}
use Rattle.rh_text.specs.RawLine.{lines_of}
use Rattle.rh_explained.specs.Line.{no_line}
use Rattle.rh_explained.proofs.lines.nth_line.Given as goal

abbrev pub invariant-loop : goal.invariant-loop
invariant-loop l = get_or (lines_of l.rest) (l.ahead - l.counter) no_line ≡ get_or (lines_of l.fn.text) l.ahead no_line
