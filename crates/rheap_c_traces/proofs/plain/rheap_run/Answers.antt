use Rattle.std.proofs.Common.{List, ℕ, Some, Ok, subst}
use Rattle.rh_trace.specs.Run.{run_of, Ends}
use Rattle.rheap_c_traces.specs.Told.{AnswersText}
use Rattle.rheap_c_traces.proofs.PlainText.{delivers_plain}
use Rattle.rheap_c_traces.proofs.plain.rheap_run.Goals as goal

pub returns-in-Ok-clause-plain : goal.returns-in-Ok-clause-plain
returns-in-Ok-clause-plain c = λ done.
    let text = c.run_text.new.text.items in
    let ends = subst (λ (begun : List ℕ). Ends (run_of c.args.trace.now) (Ok c.in-Ok.field-0) (Some begun) (Some text)) c.new-text.ensures.items c.in-Ok.ensures.told in
    let told = subst (λ (ts : List ℕ). AnswersText ts c.deliver.result c.args.answers.now c.deliver.new.answers c.deliver.new.length) c.deref.ensures.value c.deliver.ensures in
    delivers_plain c.deliver.result c.args.answers.now c.deliver.new.answers c.deliver.new.length c.args.trace.now text c.in-Ok.field-0 told done
    c.every_event_keeps_a_heap_well_formed.ensures.event c.an_event_answers_as_the_plain_heap.ensures c.heaps_answer_as_plain_heaps.ensures.new c.a_heap_has_the_dump_of_its_plain_heap.ensures ends
