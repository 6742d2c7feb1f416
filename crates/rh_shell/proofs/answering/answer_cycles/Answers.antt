use Rattle.std.proofs.Common.{◌≡◌, List, ℕ, ◌++◌, Option, refl, sym, ap, subst, ◌∙◌}
use Rattle.rh_shell.specs.Session.{PlayingState, IsCyclesAnswer}
use Rattle.rh_cycles.specs.Line.{cycles_header}
use Rattle.rh_shell.proofs.Shown.{prefix_more, some_then}
use Rattle.rh_shell.proofs.answering.answer_cycles.Goals as goal

pub returns-in-Err-clause-told : goal.returns-in-Err-clause-told
returns-in-Err-clause-told g c =
    let known = g.W.Write.contents in
    let p = c.in-Some.playing in
    let text = cycles_header ++ p.told in
    (text, subst (λ (o : Option PlayingState). IsCyclesAnswer o text) (sym c.in-Some.is) refl, prefix_more (known c.args.writer.now) (known c.tell-2.new.writer) cycles_header p.told c.in-Err.ensures.written)

pub returns-clause-told : goal.returns-clause-told
returns-clause-told g c =
    let known = g.W.Write.contents in
    let told = c.deref.result.now in
    let text = cycles_header ++ told in
    let is : told ≡ c.in-Some.playing.told = c.deref.ensures.value ∙ ap (λ x. x.told) c.playing.view_is in
    (text, subst (λ (o : Option PlayingState). IsCyclesAnswer o text) (sym c.in-Some.is) (ap (λ (x : List ℕ). cycles_header ++ x) is), some_then c.tell-3.result (known c.args.writer.now) (known c.tell-2.new.writer) (known c.tell-3.new.writer) cycles_header told c.in_default-tell.ensures.written c.tell-3.ensures.written)
