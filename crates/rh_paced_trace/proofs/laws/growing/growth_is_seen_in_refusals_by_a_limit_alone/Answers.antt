use Rattle.rh_model.specs.Plain.{empty_plain}
use Rattle.rh_pace.specs.InTime.{paced_replies}
use Rattle.rh_paced_trace.specs.Growing.{growing_answers_of}
use Rattle.rh_paced_trace.specs.Lines.{commands_in}
use Rattle.rh_paced_trace.specs.Run.{new_run}
use Rattle.rh_paced_trace.proofs.PlainAnswers.{alike, answered_plainly, laws_of}
use Rattle.rh_paced_trace.proofs.laws.growing.growth_is_seen_in_refusals_by_a_limit_alone.Goals as goal

pub returns-clause-words : goal.returns-clause-words
returns-clause-words g c = λ script first second grows grows_also given also within within_also.
    let plainly = c.growing_heaps_answer_traces_as_plain_heaps.ensures in
    alike (commands_in script.requests) (empty_plain script.header.owners script.header.slots) (growing_answers_of script first given) (growing_answers_of script second also)
    (plainly script first grows given) (plainly script second grows_also also) within within_also

pub returns-clause-paced : goal.returns-clause-paced
returns-clause-paced g c = λ script at_most grows sizes given pace within within_also.
    let plainly = c.growing_heaps_answer_traces_as_plain_heaps.ensures in
    let work = c.what_collectors_do_adds_up.ensures in
    let laws = laws_of work.none work.both work.begin work.shade work.hold work.flip work.idle work.heap work.stands
    c.a_new_heap_is_well_formed.ensures.well_formed c.heaps_answer_as_plain_heaps.ensures.new c.an_event_answers_as_the_plain_heap.ensures c.every_event_keeps_a_heap_well_formed.ensures.event in
    alike (commands_in script.requests) (empty_plain script.header.owners script.header.slots) (growing_answers_of script at_most given) (paced_replies (new_run script pace) (commands_in script.requests))
    (plainly script at_most grows given) (answered_plainly laws script sizes pace) within within_also
