use Rattle.std.proofs.Common.{ℕ, List, subst, ◌∙◌}
use Rattle.rh_trace.specs.Lines.{Shows}
use Rattle.rh_trace.proofs.LinesInTurn.{sent_shows}
use Rattle.rh_trace.proofs.answers.AnswersListener.end.Goals as goal

pub returns-clause-shown : goal.returns-clause-shown
returns-clause-shown g c = λ w.
    let old = g.W.Write.contents c.args.out.now in
    let new = g.W.Write.contents c.send.new.writer in
    subst (λ (text : List ℕ). Shows text c.send.result old new) (c.as_bytes.ensures ∙ c.put_total.ensures) (sent_shows c.send.result old new c.as_bytes.result.now c.send.ensures.ok c.send.ensures.err)
