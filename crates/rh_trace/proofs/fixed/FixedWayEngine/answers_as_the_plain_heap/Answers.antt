use Rattle.rh_trace.proofs.PlainAnswers.{fixed-transparent}
use Rattle.rh_trace.proofs.fixed.FixedWayEngine.answers_as_the_plain_heap.Goals as goal

pub returns : goal.returns
returns g c = λ way script player fit requests seen runs.
    let keeps = c.every_event_keeps_a_heap_well_formed.ensures.event in
    let steps = c.an_event_answers_as_the_plain_heap.ensures in
    fixed-transparent keeps steps c.heaps_answer_as_plain_heaps.ensures.new c.a_heap_has_the_dump_of_its_plain_heap.ensures script player fit requests seen runs
