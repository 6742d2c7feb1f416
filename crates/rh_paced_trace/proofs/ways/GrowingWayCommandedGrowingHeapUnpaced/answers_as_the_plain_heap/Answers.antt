use Rattle.std.proofs.Common.{sym, ap, subst, ◌∙◌}
use Rattle.rh_core.specs.declared.event.Event.TheVariants as events
use Rattle.rh_model.specs.Plain.{empty_plain}
use Rattle.rh_pace.proofs.PacedPrograms.{ProgramLaws}
use Rattle.rh_growing.specs.Growing.{GrowingState}
use Rattle.rh_growing.specs.Growth.{config_at}
use Rattle.rh_growing.proofs.Grown.{new-growing}
use Rattle.rh_paced_trace.specs.Growing.{growing_replies, growth_of, new_growing_run}
use Rattle.rh_paced_trace.specs.Lines.{commands_in}
use Rattle.rh_paced_trace.specs.Run.{AreTransparent}
use Rattle.rh_paced_trace.proofs.CommandLines.{played_plainly}
use Rattle.rh_paced_trace.proofs.GrownAnswers.{grown-transparent}
use Rattle.rh_paced_trace.proofs.Played.{aided_step, at_first, replies-aided}
use Rattle.rh_paced_trace.proofs.WayEnds.{none_given}
use Rattle.rh_paced_trace.proofs.ways.GrowingWayCommandedGrowingHeapUnpaced.answers_as_the_plain_heap.Goals as goal

pub returns : goal.returns
returns g c = λ way script player start requests seen played.
    let laws : ProgramLaws g.row.A.Denot = record {
      kept = λ h well owner command. c.every_event_keeps_a_heap_well_formed.ensures.event h well (events.Command owner command);
      answered = λ h well p stands owner command. c.an_event_answers_as_the_plain_heap.ensures h well p stands (events.Command owner command);
      idle = c.what_collectors_do_adds_up.ensures.idle;
      increment = c.increments_and_collections_are_collector_work.ensures.increment;
      collect = c.increments_and_collections_are_collector_work.ensures.collect;
      heap = c.what_collectors_do_adds_up.ensures.heap;
      stands = c.what_collectors_do_adds_up.ensures.stands;
    } in
    let growth = growth_of script way.at_most in
    let config = config_at growth script.header.words in
    let commands = commands_in requests in
    let plain = empty_plain script.header.owners script.header.slots in
    played_plainly none_given aided_step 2 player requests seen plain played (λ given.
    subst (AreTransparent plain commands) (sym (replies-aided given player commands ∙ ap (λ (s : GrowingState). growing_replies (at_first given) s commands) start.2))
    (grown-transparent g.row.A.Denot laws commands (at_first given) (new_growing_run script way.at_most) plain
    (record {
      well = c.a_new_heap_is_well_formed.ensures.well_formed config start.1.config;
      growing = new-growing growth start.1;
      stands = c.heaps_answer_as_plain_heaps.ensures.new config;
    })))
