use Rattle.rh_trace.proofs.FixedRuns.{plain_as, plain_memory_as, plain_prefix_as}
use Rattle.rh_trace.proofs.laws.ways.a_fixed_run_answers_as_the_plain_heap.Goals as goal

pub returns-clause-plain : goal.returns-clause-plain
returns-clause-plain g c = λ input result from to old new consumed ended.
    let keeps = c.every_event_keeps_a_heap_well_formed.ensures.event in
    let steps = c.an_event_answers_as_the_plain_heap.ensures in
    plain_as keeps steps c.heaps_answer_as_plain_heaps.ensures.new c.a_heap_has_the_dump_of_its_plain_heap.ensures input from to old new consumed result g.row.F.Denot ended

pub returns-clause-plain_prefix : goal.returns-clause-plain_prefix
returns-clause-plain_prefix g c = λ input result from to old new consumed ended.
    let keeps = c.every_event_keeps_a_heap_well_formed.ensures.event in
    let steps = c.an_event_answers_as_the_plain_heap.ensures in
    plain_prefix_as keeps steps c.heaps_answer_as_plain_heaps.ensures.new c.a_heap_has_the_dump_of_its_plain_heap.ensures input from to old new consumed result g.row.F.Denot ended

pub returns-clause-plain_memory : goal.returns-clause-plain_memory
returns-clause-plain_memory g c = λ input result from to old new consumed ended.
    let keeps = c.every_event_keeps_a_heap_well_formed.ensures.event in
    let steps = c.an_event_answers_as_the_plain_heap.ensures in
    plain_memory_as keeps steps c.heaps_answer_as_plain_heaps.ensures.new c.a_heap_has_the_dump_of_its_plain_heap.ensures input from to old new consumed result g.row.F.Denot ended
