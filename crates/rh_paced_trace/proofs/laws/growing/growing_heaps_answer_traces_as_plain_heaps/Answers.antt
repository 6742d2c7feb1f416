use Rattle.rh_core.specs.declared.event.Event.TheVariants as events
use Rattle.rh_model.specs.Plain.{empty_plain}
use Rattle.rh_pace.proofs.PacedPrograms.{ProgramLaws}
use Rattle.rh_growing.specs.Growth.{config_at}
use Rattle.rh_growing.proofs.Grown.{new-growing}
use Rattle.rh_paced_trace.specs.Growing.{growth_of, new_growing_run}
use Rattle.rh_paced_trace.specs.Lines.{commands_in}
use Rattle.rh_paced_trace.proofs.GrownAnswers.{grown-transparent}
use Rattle.rh_paced_trace.proofs.laws.growing.growing_heaps_answer_traces_as_plain_heaps.Goals as goal

pub returns : goal.returns
returns g c = λ script at_most grows given.
    let laws : ProgramLaws g.row.A.Denot = record {
      kept = λ h well owner command. c.every_event_keeps_a_heap_well_formed.ensures.event h well (events.Command owner command);
      answered = λ h well p stands owner command. c.an_event_answers_as_the_plain_heap.ensures h well p stands (events.Command owner command);
      idle = c.what_collectors_do_adds_up.ensures.idle;
      increment = c.increments_and_collections_are_collector_work.ensures.increment;
      collect = c.increments_and_collections_are_collector_work.ensures.collect;
      heap = c.what_collectors_do_adds_up.ensures.heap;
      stands = c.what_collectors_do_adds_up.ensures.stands;
    } in
    let config = config_at (growth_of script at_most) script.header.words in
    grown-transparent g.row.A.Denot laws (commands_in script.requests) given (new_growing_run script at_most) (empty_plain script.header.owners script.header.slots)
    (record {
      well = c.a_new_heap_is_well_formed.ensures.well_formed config grows.config;
      growing = new-growing (growth_of script at_most) grows;
      stands = c.heaps_answer_as_plain_heaps.ensures.new config;
    })
