use Rattle.std.proofs.Common.{refl, subst}
use Rattle.rh_shell.specs.declared.own.Own.{Own}
use Rattle.rh_shell.specs.HelpText.{help_text}
use Rattle.rh_shell.specs.Session.{IsOtherAnswer}
use Rattle.rh_shell.proofs.Shown.{prefix_of_none}
use Rattle.rh_shell.proofs.Lines.{some_draw_answer}
use Rattle.rh_shell.proofs.answering.answer_other.Goals as goal

pub returns-in-Help-clause-told : goal.returns-in-Help-clause-told
returns-in-Help-clause-told g c =
    let p = c.args.session.now.playing in
    (help_text, subst (λ (o : Own). IsOtherAnswer o p c.args.kind help_text) c.in-Help.ensures.value refl, c.tell.ensures.written)

pub returns-in-Err-clause-told : goal.returns-in-Err-clause-told
returns-in-Err-clause-told g c =
    let p = c.args.session.now.playing in
    let q = some_draw_answer p in
    (q.0, subst (λ (o : Own). IsOtherAnswer o p c.args.kind q.0) c.in-Draw.ensures.value q.1, prefix_of_none (g.W.Write.contents c.args.writer.now) q.0)
