use Rattle.std.proofs.Common.{List, [], ℕ, Option, Some, Ok, subst}
use Rattle.rh_paced_trace.specs.Run.{Ends}
use Rattle.rh_paced_trace.proofs.PlainAnswers.{laws_of}
use Rattle.rheap_c_traces.specs.Told.{AnswersText, mark_of}
use Rattle.rheap_c_traces.proofs.PlainText.{delivers_paced}
use Rattle.rheap_c_traces.proofs.paced.rheap_run_paced.Goals as goal

pub returns-in-Ok-clause-plain : goal.returns-in-Ok-clause-plain
returns-in-Ok-clause-plain c = λ done.
    let text = c.run_text.new.text.items in
    let work = c.what_collectors_do_adds_up.ensures in
    let laws = laws_of work.none work.both work.begin work.shade work.hold work.flip work.idle work.heap work.stands
    c.a_new_heap_is_well_formed.ensures.well_formed c.heaps_answer_as_plain_heaps.ensures.new c.an_event_answers_as_the_plain_heap.ensures c.every_event_keeps_a_heap_well_formed.ensures.event in
    let begun = subst (λ (bs : List ℕ). Ends c.asked_mark.result c.args.trace.now (Ok c.in-Ok.field-0) (Some bs) (Some text)) c.new-text.ensures.items c.in-Ok.ensures.told in
    let ends = subst (λ (mark : Option ℕ). Ends mark c.args.trace.now (Ok c.in-Ok.field-0) (Some []) (Some text)) c.asked_mark.ensures begun in
    let told = subst (λ (ts : List ℕ). AnswersText ts c.deliver.result c.args.answers.now c.deliver.new.answers c.deliver.new.length) c.deref.ensures.value c.deliver.ensures in
    delivers_paced c.deliver.result c.args.answers.now c.deliver.new.answers c.deliver.new.length c.args.trace.now text c.in-Ok.field-0 told done laws (mark_of c.args.mark) ends
