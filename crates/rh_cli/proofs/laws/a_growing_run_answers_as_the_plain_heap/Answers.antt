use Rattle.std.proofs.Common.{[], Some, Ok, sym}
use Rattle.std.proofs.lemmas.List.{append-nil}
use Rattle.rh_paced_trace.proofs.GrownAnswers.{grown-plain}
use Rattle.rh_cli.proofs.StatusLaws.{concludes_growing_0}
use Rattle.rh_cli.proofs.laws.a_growing_run_answers_as_the_plain_heap.Goals as goal

pub returns : goal.returns
returns c = λ at_most input old new concluded.
    let done = concludes_growing_0 at_most input old new concluded in
    let run = grown-plain c.growing_heaps_answer_traces_as_plain_heaps.ensures at_most input (Some input) (Some []) old new (sym (append-nil input)) (Ok done.0) done.1 in
    (run.0, run.1, done.0, run.2, run.3, run.4)
