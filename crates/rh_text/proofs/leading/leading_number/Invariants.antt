use Rattle.std.proofs.Common.{◌≡◌, ◌≢◌, ◌≤◌, ◌<◌, length, get_or, drop}
use Rattle.rh_text.proofs.ReadNumber.{ReadsTo}
use Rattle.rh_text.proofs.leading.leading_number.Given as goal

abbrev pub invariant-loop-i : goal.invariant-loop-i
invariant-loop-i l = record {
  reads : ReadsTo l.text l.i l.number;
  rest : l.rest ≡ drop l.i l.text;
  filled : 0 < l.i;
  within : l.i ≤ length l.text;
  leading : get_or l.text 0 0 ≢ 48;
}
