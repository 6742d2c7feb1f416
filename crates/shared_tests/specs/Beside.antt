-- Replicators beside a heap without a lock.
use Rattle.std.specs.Prelude.{◌≡◌, List, Option, Some, None, slice_get}
use Rattle.rh_replicator.specs.Ends.{EndsState}
use Rattle.rh_replicator.specs.Link.{RingState}
use Rattle.rh_collector.specs.Settling.{AreEndsHere, RingPair, ends_pair}

-- the replicator, where it is there, has ends of these rings
abbrev pub IsHere : {A : Type 0} → List (RingState A) → Option (EndsState A) → Type 0
IsHere rings None = Unit {0}
IsHere rings (Some ends) = AreEndsHere rings ends

-- the ends are of the pair of rings that stands among these for the replicator of this number
abbrev pub AreEndsOf : {A : Type 0} → List (RingPair A) → EndsState A → Type 0
AreEndsOf pairs ends = slice_get pairs ends.replicator ≡ Some (ends_pair ends)
