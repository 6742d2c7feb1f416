use Rattle.std.proofs.Common.{sym, ap, subst, ◌∙◌}
use Rattle.rh_model.specs.Plain.{empty_plain}
use Rattle.rh_pace.specs.InTime.{paced_replies}
use Rattle.rh_pace.specs.Paced.{PacedState}
use Rattle.rh_paced_trace.specs.Lines.{commands_in}
use Rattle.rh_paced_trace.specs.Run.{AreTransparent}
use Rattle.rh_paced_trace.proofs.CommandLines.{played_plainly}
use Rattle.rh_paced_trace.proofs.PlainAnswers.{laws_of, started_plainly}
use Rattle.rh_paced_trace.proofs.Played.{replies-unaided, unaided_step}
use Rattle.rh_paced_trace.proofs.ways.PacedWayCommandedPacedHeapUnpaced.answers_as_the_plain_heap.Goals as goal

pub returns : goal.returns
returns g c = λ way script player start requests seen played.
    let work = c.what_collectors_do_adds_up.ensures in
    let laws = laws_of work.none work.both work.begin work.shade work.hold work.flip work.idle work.heap work.stands
    c.a_new_heap_is_well_formed.ensures.well_formed c.heaps_answer_as_plain_heaps.ensures.new c.an_event_answers_as_the_plain_heap.ensures c.every_event_keeps_a_heap_well_formed.ensures.event in
    let commands = commands_in requests in
    let plain = empty_plain script.header.owners script.header.slots in
    played_plainly tt unaided_step 2 player requests seen plain played (λ given.
    subst (AreTransparent plain commands) (sym (replies-unaided given player commands ∙ ap (λ (s : PacedState). paced_replies s commands) start.3))
    (started_plainly laws script start.1.1 start.0 commands))
