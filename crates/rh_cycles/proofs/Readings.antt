-- What one reading makes of a cycle that is on.
use Rattle.std.proofs.Common.{◌≡◌, refl, true, false, Some}
use Rattle.rh_cycles.specs.declared.running.Running.{Running}
use Rattle.rh_cycles.specs.Cycles.{Reading, ReaderState, cycle_of, cycle_told, going, goes_on, running_after}

-- the cycle that was on goes on
pub running_after-going : (r : ReaderState) (x : Reading) (c : Running) → x.stat.cycle ≡ true → goes_on r.last x.stat ≡ true → r.running ≡ Some c → running_after r x ≡ Some (going r.last x c)
running_after-going r x c on same is = rw (on, same, is) refl

-- a cycle that ended is told
pub cycle_told-ended : (r : ReaderState) (x : Reading) (c : Running) → x.stat.cycle ≡ false → r.running ≡ Some c → cycle_told r x ≡ Some (cycle_of r x (going r.last x c))
cycle_told-ended r x c off is = rw (off, is) refl
