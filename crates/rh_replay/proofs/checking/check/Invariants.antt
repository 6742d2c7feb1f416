use Rattle.std.proofs.Common.{◌≡◌, ℕ, ◌<◌, take}
use Rattle.rh_model.specs.Plain.{empty_plain}
use Rattle.rh_replay.specs.Legal.{heap_after, IsRightAt}
use Rattle.rh_replay.proofs.checking.check.Given as goal

abbrev pub invariant-loop-call : goal.invariant-loop-call
invariant-loop-call g l = record {
  played : l.plain ≡ heap_after (empty_plain l.history.contents.owners l.history.contents.slots) (take l.call-index l.calls);
  count : l.count ≡ l.call-index;
  right : (position : ℕ) → position < l.call-index → IsRightAt l.history.contents position;
}
