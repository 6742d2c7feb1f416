use Rattle.std.proofs.Common.{map, sym, subst}
use Rattle.std.specs.declared.alloc.Global.{Global}
use Rattle.rh_model.specs.Plain.{empty_plain}
use Rattle.rh_core.specs.declared.event.Event.TheVariants as events
use Rattle.rh_pace.specs.Paced.{PacedState}
use Rattle.rh_pace.proofs.PacedPrograms.{ProgramLaws}
use Rattle.rh_pace.proofs.StepLaws.{step_laws}
use Rattle.rh_pace.proofs.in_time.Calls.{IsInTime-paced_heap}
use Rattle.rh_pace.proofs.in_time.PlainCalls.{StandsInTime}
use Rattle.rh_pace.proofs.kept_up.PacedSteps.{IsPaced-paced_heap}
use Rattle.rheap_c.specs.Runs.{doing}
use Rattle.rheap_c.proofs.Bounded.{AreCallsBounded-doing, FindRoomIfFit-bounded, FindRoomToLimit-doing}
use Rattle.rheap_c.proofs.laws.room.calls_bounded_on_a_plain_heap_find_room.Goals as goal

pub returns-clause-calls : goal.returns-clause-calls
returns-clause-calls c = λ config pace s is_new live biggest up log new calls answers made bounded.
    let laws = step_laws Global c.every_event_keeps_a_heap_well_formed.ensures.event c.a_new_heap_is_well_formed.ensures.well_formed c.classes_are_told_apart.ensures c.a_flip_is_refused_exactly_where_its_cycle_is_not_closed.ensures.flipped in
    let told : ProgramLaws Global = record {
      kept = λ h well owner command. c.every_event_keeps_a_heap_well_formed.ensures.event h well (events.Command owner command);
      answered = λ h well p stands owner command. c.an_event_answers_as_the_plain_heap.ensures h well p stands (events.Command owner command);
      idle = c.what_collectors_do_adds_up.ensures.idle;
      increment = c.increments_and_collections_are_collector_work.ensures.increment;
      collect = c.increments_and_collections_are_collector_work.ensures.collect;
      heap = c.what_collectors_do_adds_up.ensures.heap;
      stands = c.what_collectors_do_adds_up.ensures.stands;
    } in
    let plain = empty_plain config.owners config.slots in
    FindRoomIfFit-bounded laws told live biggest calls s plain new answers
    (subst (λ (t : PacedState). StandsInTime live biggest t plain) (sym is_new.made) (record {
      well = laws.new config is_new.sound;
      paced = IsPaced-paced_heap laws config pace is_new.sound;
      in_time = IsInTime-paced_heap live biggest config pace up;
      stands = c.heaps_answer_as_plain_heaps.ensures.new config;
      log = log;
    })) bounded made

pub returns-clause-commands : goal.returns-clause-commands
returns-clause-commands c = λ config pace s is_new live biggest up log new given answers made bounded.
    FindRoomToLimit-doing biggest s given answers
    (returns-clause-calls c config pace s is_new live biggest up log new (map doing given) answers made
    (AreCallsBounded-doing live biggest given (empty_plain config.owners config.slots) bounded))
