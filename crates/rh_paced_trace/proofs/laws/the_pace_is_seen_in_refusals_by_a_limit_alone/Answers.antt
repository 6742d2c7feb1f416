use Rattle.rh_paced_trace.proofs.PlainAnswers.{laws_of, unseen}
use Rattle.rh_paced_trace.proofs.laws.the_pace_is_seen_in_refusals_by_a_limit_alone.Goals as goal

pub returns : goal.returns
returns c =
    let work = c.what_collectors_do_adds_up.ensures in
    let laws = laws_of work.none work.both work.begin work.shade work.hold work.flip work.idle work.heap work.stands
    c.a_new_heap_is_well_formed.ensures.well_formed c.heaps_answer_as_plain_heaps.ensures.new c.an_event_answers_as_the_plain_heap.ensures c.every_event_keeps_a_heap_well_formed.ensures.event in
    unseen laws
