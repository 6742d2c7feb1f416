use Rattle.std.proofs.Common.{[], Some, Ok, sym}
use Rattle.std.proofs.lemmas.List.{append-nil}
use Rattle.rh_paced_trace.proofs.PlainAnswers.{laws_of, plain}
use Rattle.rh_cli.proofs.StatusLaws.{concludes_paced_0}
use Rattle.rh_cli.proofs.laws.a_paced_run_answers_as_the_plain_heap.Goals as goal

pub returns : goal.returns
returns c = λ mark input old new concluded.
    let work = c.what_collectors_do_adds_up.ensures in
    let laws = laws_of work.none work.both work.begin work.shade work.hold work.flip work.idle work.heap work.stands
    c.a_new_heap_is_well_formed.ensures.well_formed c.heaps_answer_as_plain_heaps.ensures.new c.an_event_answers_as_the_plain_heap.ensures c.every_event_keeps_a_heap_well_formed.ensures.event in
    let done = concludes_paced_0 mark input old new concluded in
    let run = plain laws mark input (Some input) (Some []) old new (sym (append-nil input)) (Ok done.0) done.1 in
    (run.0, run.1, done.0, run.2, run.3, run.4)
