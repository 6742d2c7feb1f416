use Rattle.std.proofs.Common.{refl, arith}
use Rattle.rh_core.specs.declared.event.Event.TheVariants as events
use Rattle.rh_pace.proofs.PacedPrograms.{ProgramLaws}
use Rattle.rh_growing.specs.Growth.{config_at, pace_at}
use Rattle.rh_growing.proofs.Grown.{new-growing, new-in_time}
use Rattle.rh_growing.proofs.Programs.{well-paced_step}
use Rattle.rh_growing.proofs.Steps.{StepsLaws}
use Rattle.rh_paced_trace.specs.Growing.{growth_of, new_growing_run}
use Rattle.rh_paced_trace.specs.Lines.{commands_in}
use Rattle.rh_paced_trace.proofs.GrownRooms.{fulls, rooms-short}
use Rattle.rh_paced_trace.proofs.laws.growing.a_growing_run_is_refused_for_room_only_where_it_is_short.Goals as goal

pub returns-clause-space : goal.returns-clause-space
returns-clause-space g c = λ script at_most grows given.
    let laws : ProgramLaws g.row.A.Denot = record {
      kept = λ h well owner command. c.every_event_keeps_a_heap_well_formed.ensures.event h well (events.Command owner command);
      answered = λ h well p stands owner command. c.an_event_answers_as_the_plain_heap.ensures h well p stands (events.Command owner command);
      idle = c.what_collectors_do_adds_up.ensures.idle;
      increment = c.increments_and_collections_are_collector_work.ensures.increment;
      collect = c.increments_and_collections_are_collector_work.ensures.collect;
      heap = c.what_collectors_do_adds_up.ensures.heap;
      stands = c.what_collectors_do_adds_up.ensures.stands;
    } in
    let steps : StepsLaws = record {
      called = c.a_step_is_a_paced_call.ensures;
      well = well-paced_step g.row.A.Denot laws c.every_heap_stands_for_a_plain_heap.ensures.stands;
      plain = c.every_heap_stands_for_a_plain_heap.ensures.stands;
      limits = c.limits_refuse_exactly_where_they_are_met.ensures;
      room = c.heaps_in_time_whatever_lives_have_room.ensures.room;
      goes_on = c.heaps_in_time_whatever_lives_have_room.ensures.command;
    } in
    let growth = growth_of script at_most in
    let well = c.a_new_heap_is_well_formed.ensures.well_formed (config_at growth growth.at_least) grows.config in
    let paced = c.every_call_keeps_a_heap_paced.ensures.new (config_at growth growth.at_least) grows.config (pace_at growth growth.at_least) in
    fulls steps c.every_call_keeps_a_heap_paced.ensures.command growth (commands_in script.requests) given (new_growing_run script at_most)
    (record { well = well; paced = paced; growing = new-growing growth grows; in_time = new-in_time growth grows well; growth = refl }) (omega arith)

pub returns-clause-room : goal.returns-clause-room
returns-clause-room g c = λ script at_most grows log given.
    let laws : ProgramLaws g.row.A.Denot = record {
      kept = λ h well owner command. c.every_event_keeps_a_heap_well_formed.ensures.event h well (events.Command owner command);
      answered = λ h well p stands owner command. c.an_event_answers_as_the_plain_heap.ensures h well p stands (events.Command owner command);
      idle = c.what_collectors_do_adds_up.ensures.idle;
      increment = c.increments_and_collections_are_collector_work.ensures.increment;
      collect = c.increments_and_collections_are_collector_work.ensures.collect;
      heap = c.what_collectors_do_adds_up.ensures.heap;
      stands = c.what_collectors_do_adds_up.ensures.stands;
    } in
    let steps : StepsLaws = record {
      called = c.a_step_is_a_paced_call.ensures;
      well = well-paced_step g.row.A.Denot laws c.every_heap_stands_for_a_plain_heap.ensures.stands;
      plain = c.every_heap_stands_for_a_plain_heap.ensures.stands;
      limits = c.limits_refuse_exactly_where_they_are_met.ensures;
      room = c.heaps_in_time_whatever_lives_have_room.ensures.room;
      goes_on = c.heaps_in_time_whatever_lives_have_room.ensures.command;
    } in
    let growth = growth_of script at_most in
    let well = c.a_new_heap_is_well_formed.ensures.well_formed (config_at growth growth.at_least) grows.config in
    let paced = c.every_call_keeps_a_heap_paced.ensures.new (config_at growth growth.at_least) grows.config (pace_at growth growth.at_least) in
    rooms-short steps c.every_call_keeps_a_heap_paced.ensures.command growth log (commands_in script.requests) given (new_growing_run script at_most)
    (record { well = well; paced = paced; growing = new-growing growth grows; in_time = new-in_time growth grows well; growth = refl }) (omega arith)
