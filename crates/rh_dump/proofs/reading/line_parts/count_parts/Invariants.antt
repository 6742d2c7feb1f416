use Rattle.std.proofs.Common.{◌≡◌, ◌+◌, ◌≤◌, length, drop}
use Rattle.rh_text.specs.Parts.{parts_of}
use Rattle.rh_dump.proofs.reading.line_parts.count_parts.Given as goal

abbrev pub invariant-loop-byte : goal.invariant-loop-byte
invariant-loop-byte l = record {
  counted : l.count + length (parts_of (drop l.byte-index l.line)) ≡ length (parts_of l.line) + 1;
  few : l.count ≤ l.byte-index + 1;
}
