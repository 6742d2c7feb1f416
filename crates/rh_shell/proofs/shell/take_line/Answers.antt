use Rattle.std.proofs.Common.{◌≡◌, true, inr, subst, Result, OnErr}
use Rattle.rh_trace.specs.declared.stop.Stop.{Stop}
use Rattle.rh_shell.proofs.Lines.{on_ok}
use Rattle.rh_shell.proofs.Shown.{shown_kept}
use Rattle.rh_shell.proofs.shell.take_line.Goals as goal

pub returns-in-Ok-clause-told : goal.returns-in-Ok-clause-told
returns-in-Ok-clause-told g c =
    let known = g.W.Write.contents in
    let told = c.in-Ok.ensures.told in
    (told.0, told.1, told.2, on_ok c.flush.result told.3, shown_kept c.flush.result (known c.args.writer.now) (known c.answer_line.new.writer) (known c.flush.new.writer) told.0 told.4 c.flush.ensures.kept)

pub returns-in-Ok-clause-failed : goal.returns-in-Ok-clause-failed
returns-in-Ok-clause-failed g c = λ e. inr (subst (λ (r : Result (Unit {0}) Stop). OnErr r (c.flush.new.self.flush_failed ≡ true)) e c.flush.ensures.failed)

pub returns-in-Ok-clause-spent : goal.returns-in-Ok-clause-spent
returns-in-Ok-clause-spent g c = λ e. inr (subst (λ (r : Result (Unit {0}) Stop). OnErr r (c.flush.new.self.flush_failed ≡ true)) e c.flush.ensures.failed)
