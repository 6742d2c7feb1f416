use Rattle.rh_paced_trace.proofs.PlainAnswers.{laws_of, plain, plain_prefix}
use Rattle.rh_paced_trace.proofs.laws.ways.a_paced_run_tells_what_a_plain_heap_answers.Goals as goal

pub returns-clause-plain : goal.returns-clause-plain
returns-clause-plain g c = λ mark input result from to old new consumed ends.
    let work = c.what_collectors_do_adds_up.ensures in
    let laws = laws_of work.none work.both work.begin work.shade work.hold work.flip work.idle work.heap work.stands
    c.a_new_heap_is_well_formed.ensures.well_formed c.heaps_answer_as_plain_heaps.ensures.new c.an_event_answers_as_the_plain_heap.ensures c.every_event_keeps_a_heap_well_formed.ensures.event in
    plain laws mark input from to old new consumed result ends

pub returns-clause-plain_prefix : goal.returns-clause-plain_prefix
returns-clause-plain_prefix g c = λ mark input from to old new consumed ends.
    let work = c.what_collectors_do_adds_up.ensures in
    let laws = laws_of work.none work.both work.begin work.shade work.hold work.flip work.idle work.heap work.stands
    c.a_new_heap_is_well_formed.ensures.well_formed c.heaps_answer_as_plain_heaps.ensures.new c.an_event_answers_as_the_plain_heap.ensures c.every_event_keeps_a_heap_well_formed.ensures.event in
    plain_prefix laws mark input from to old new consumed ends
