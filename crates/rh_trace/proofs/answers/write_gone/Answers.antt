use Rattle.std.proofs.Common.{ℕ, List, subst, ◌∙◌}
use Rattle.std.specs.Io.KnownBytes.{Appends}
use Rattle.std.proofs.lemmas.Result.{err_from_is_err_and}
use Rattle.rh_text.specs.Output.{AppendsLess}
use Rattle.rh_engine.specs.WatchAnswers.{gone_text}
use Rattle.rh_trace.proofs.WrittenInTurn.{nothing_of_line}
use Rattle.rh_trace.proofs.answers.write_gone.Goals as goal

pub returns-in_err-line-clause-written : goal.returns-in_err-line-clause-written
returns-in_err-line-clause-written g c =
    let p = err_from_is_err_and c.from_residual.result c.from_residual.ensures.1 in
    rw p.1 (nothing_of_line (g.W.Write.contents c.args.writer.now) (gone_text c.args.tickets.now))

pub returns-in_err-send-clause-written : goal.returns-in_err-send-clause-written
returns-in_err-send-clause-written g c =
    let known = g.W.Write.contents in
    let p = err_from_is_err_and c.from_residual-in_err-send.result c.from_residual-in_err-send.ensures.1 in
    let is = c.deref.ensures.value ∙ c.in_ok-line.ensures in
    rw p.1 (subst (λ (text : List ℕ). AppendsLess (known c.args.writer.now) (known c.send.new.writer) text) is c.in_err-send.ensures.err)

pub returns-clause-written : goal.returns-clause-written
returns-clause-written g c =
    let known = g.W.Write.contents in
    let is = c.deref.ensures.value ∙ c.in_ok-line.ensures in
    subst (λ (text : List ℕ). Appends (known c.args.writer.now) (known c.send.new.writer) text) is c.in_ok-send.ensures.ok
