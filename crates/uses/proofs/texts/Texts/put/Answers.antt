use Rattle.std.proofs.Common.{◌≡◌, ◌<◌, None, length, sym, subst}
use Rattle.uses.specs.Texts.{TextsState, text_at}
use Rattle.uses.proofs.TextTables.{put-is, put-kept}
use Rattle.uses.proofs.texts.Texts.put.Goals as goal

pub invariant_of-self-2 : goal.invariant_of-self-2
invariant_of-self-2 g c =
    let here = subst (λ (s : TextsState). c.in-Some.place < length s.texts) (sym c.self.view_is) c.in-Some.ensures.0 in
    let free = subst (λ (s : TextsState). text_at s c.in-Some.place ≡ None) (sym c.self.view_is) c.in-Some.ensures.1 in
    put-kept c.self.inside.files c.add.new.self c.self.inside.texts.items c.args.root c.in_ok-add.field-0 c.in-Some.place c.in-Ok.kept c.args.text.now c.self.invariant here free c.in_ok-add.ensures.opened c.in_ok-add.ensures.times c.in-Ok.ensures.ok

pub returns-clause-put : goal.returns-clause-put
returns-clause-put g c =
    let here = subst (λ (s : TextsState). c.in-Some.place < length s.texts) (sym c.self.view_is) c.in-Some.ensures.0 in
    let free = subst (λ (s : TextsState). text_at s c.in-Some.place ≡ None) (sym c.self.view_is) c.in-Some.ensures.1 in
    rw (← c.self.view_is) (put-is c.self.inside.files c.add.new.self c.self.inside.texts.items c.args.root c.in_ok-add.field-0 c.in-Some.place c.in-Ok.kept c.args.text.now c.self.invariant here free c.in_ok-add.ensures.opened c.in_ok-add.ensures.times c.in-Ok.ensures.ok)
