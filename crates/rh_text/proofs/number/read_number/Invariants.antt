use Rattle.std.proofs.Common.{◌≢◌, ◌≤◌, ◌<◌, length, get_or}
use Rattle.rh_text.proofs.ReadNumber.{ReadsTo}
use Rattle.rh_text.proofs.number.read_number.Given as goal

abbrev pub invariant-loop-digit : goal.invariant-loop-digit
invariant-loop-digit l = record {
  reads : ReadsTo l.part l.digit-index l.number;
  short : length l.part ≤ 10;
  filled : 0 < length l.part;
  leading : get_or l.part 0 0 ≢ 48;
}
