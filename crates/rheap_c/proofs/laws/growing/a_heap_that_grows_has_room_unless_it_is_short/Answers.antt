use Rattle.rheap_c.proofs.GrownRuns.{has_room, stays_in_time}
use Rattle.rheap_c.proofs.laws.growing.a_heap_that_grows_has_room_unless_it_is_short.Goals as goal

pub returns : goal.returns
returns c = record { room = has_room; in_time = stays_in_time }
