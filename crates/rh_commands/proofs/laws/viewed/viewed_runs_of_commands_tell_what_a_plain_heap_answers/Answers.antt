use Rattle.rh_paced_trace.proofs.PlainAnswers.{answered_plainly, laws_of}
use Rattle.rh_commands.proofs.WayPlain.{told-growing, told-paced}
use Rattle.rh_commands.proofs.laws.viewed.viewed_runs_of_commands_tell_what_a_plain_heap_answers.Goals as goal

pub returns-clause-paced : goal.returns-clause-paced
returns-clause-paced g c =
    let work = c.what_collectors_do_adds_up.ensures in
    let laws = laws_of work.none work.both work.begin work.shade work.hold work.flip work.idle work.heap work.stands
    c.a_new_heap_is_well_formed.ensures.well_formed c.heaps_answer_as_plain_heaps.ensures.new c.an_event_answers_as_the_plain_heap.ensures c.every_event_keeps_a_heap_well_formed.ensures.event in
    λ mark telling input from to read result w ends. told-paced c.the_history_of_plain_replies_is_legal.ensures telling input from to w read (answered_plainly laws) mark result ends

pub returns-clause-growing : goal.returns-clause-growing
returns-clause-growing g c =
    λ at_most telling input from to read result w ends. told-growing c.the_history_of_plain_replies_is_legal.ensures telling input from to w read c.growing_heaps_answer_traces_as_plain_heaps.ensures at_most result ends
