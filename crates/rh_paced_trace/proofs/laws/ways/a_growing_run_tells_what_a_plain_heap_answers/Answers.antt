use Rattle.rh_paced_trace.proofs.GrownAnswers.{grown-plain, grown-plain_prefix}
use Rattle.rh_paced_trace.proofs.laws.ways.a_growing_run_tells_what_a_plain_heap_answers.Goals as goal

pub returns-clause-plain : goal.returns-clause-plain
returns-clause-plain g c = λ at_most input result from to old new consumed ends.
    grown-plain c.growing_heaps_answer_traces_as_plain_heaps.ensures at_most input from to old new consumed result ends

pub returns-clause-plain_prefix : goal.returns-clause-plain_prefix
returns-clause-plain_prefix g c = λ at_most input from to old new consumed ends.
    grown-plain_prefix c.growing_heaps_answer_traces_as_plain_heaps.ensures at_most input from to old new consumed ends
