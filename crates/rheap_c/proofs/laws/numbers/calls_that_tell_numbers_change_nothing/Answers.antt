use Rattle.std.proofs.Common.{ℕ, Option, Some, None}
use Rattle.rh_pace.specs.Paced.{PacedState}
use Rattle.rheap_c.specs.Numbers.{IsRead, did_in, no_did, no_pace, no_room, no_stats, pace_in, room_in, stats_of}
use Rattle.rheap_c.specs.Runs.{IsTelling}
use Rattle.rheap_c.proofs.laws.numbers.calls_that_tell_numbers_change_nothing.Goals as goal

telling : {X : Type 0} (read : PacedState → X) (nothing : X) (old new : Option PacedState) (status : ℕ) (told : X)
    → IsRead read nothing old new status told → IsTelling old new status
telling read nothing None new status told (left, is, said) = (left, is)
telling read nothing (Some s) new status told (left, is, said) = (left, is)

pub returns : goal.returns
returns c = record {
  stat = telling stats_of no_stats;
  last_did = telling did_in no_did;
  pace = telling pace_in no_pace;
  room = λ fields. telling (room_in fields) no_room;
}
