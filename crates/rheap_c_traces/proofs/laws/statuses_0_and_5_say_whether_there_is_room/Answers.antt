use Rattle.rheap_c_traces.proofs.Statuses.{done_fits, no_room_is_5}
use Rattle.rheap_c_traces.proofs.laws.statuses_0_and_5_say_whether_there_is_room.Goals as goal

pub returns-clause-done : goal.returns-clause-done
returns-clause-done c = done_fits

pub returns-clause-no_room : goal.returns-clause-no_room
returns-clause-no_room c = no_room_is_5
