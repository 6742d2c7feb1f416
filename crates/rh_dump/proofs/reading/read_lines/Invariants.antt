use Rattle.std.proofs.Common.{◌≡◌, ◌+◌, ◌-◌, ◌≤◌, length}
use Rattle.rh_text.specs.RawLine.{lines_of}
use Rattle.rh_dump.specs.texts.Reading.{lines_from}
use Rattle.rh_dump.specs.texts.Putting.{put_lines, IsDue}
use Rattle.rh_dump.specs.declared.reading.due.Due.TheVariants as dues
use Rattle.rh_dump.proofs.reading.read_lines.Given as goal

abbrev pub invariant-loop-rest : goal.invariant-loop-rest
invariant-loop-rest g l = record {
  read : put_lines l.builder (lines_from 268435456 l.due l.number (length l.bytes - length l.rest) (lines_of l.rest)) ≡ put_lines l.fn.builder (lines_from 268435456 dues.Header 1 0 (lines_of l.bytes));
  due : IsDue l.due;
  left : length l.rest ≤ length l.bytes;
  size : length l.bytes - length l.rest ≤ 268435456;
  count : l.number ≤ (length l.bytes - length l.rest) + 1;
}

abbrev pub decreases-loop-rest : goal.decreases-loop-rest
decreases-loop-rest g l = length l.rest
