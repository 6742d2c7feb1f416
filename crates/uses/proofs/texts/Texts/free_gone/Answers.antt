use Rattle.std.proofs.Common.{Some, inl, length, refl, sym, ap, subst, ◌∙◌, arith}
use Rattle.std.specs.Prelude.{option_map, string_bytes}
use Rattle.std.proofs.lemmas.List.{length-map}
use Rattle.uses.specs.Texts.{AreTexts, TextsState}
use Rattle.uses.proofs.TextTables.{files-few, freed-all, freeing-next}
use Rattle.uses.proofs.texts.Texts.free_gone.Goals as goal

pub loop-freed-init : goal.loop-freed-init
loop-freed-init g c =
    let were = subst (λ (s : TextsState). AreTexts s) c.self.view_is c.self.invariant in
    ((λ n. inl (refl, refl), λ n. inl refl), were, omega arith)

pub overflow_add-freed : goal.overflow_add-freed
overflow_add-freed g c =
    let few = files-few c.args.self.now (subst (λ (s : TextsState). AreTexts s) c.self.view_is c.self.invariant) in
    let places = ap (λ (s : TextsState). length s.texts) (sym c.self.view_is) ∙ length-map c.self.inside.texts.items (option_map string_bytes) in
    omega (arith, c.loop-freed.invariant.2, few, places, c.self.inside.texts.ok.0, c.self.inside.texts.ok.1, c.self.inside.texts.small)

pub loop-freed-preserved : goal.loop-freed-preserved
loop-freed-preserved g c =
    let before = c.loop-freed.invariant in
    let more = freeing-next c.args.self.now c.loop-freed.self c.free_next.new.self (Some c.in-Some.field-0) c.in-Some.field-0 refl c.in-Some.ensures.closed c.in-Some.ensures.texts before.1 before.0 in
    (more.0, c.in-Some.ensures.kept, omega (arith, before.2, more.1))

pub loop-freed-smaller : goal.loop-freed-smaller
loop-freed-smaller g c =
    let before = c.loop-freed.invariant in
    omega (arith, (freeing-next c.args.self.now c.loop-freed.self c.free_next.new.self (Some c.in-Some.field-0) c.in-Some.field-0 refl c.in-Some.ensures.closed c.in-Some.ensures.texts before.1 before.0).1)

pub returns-in-None-clause-freed : goal.returns-in-None-clause-freed
returns-in-None-clause-freed g c =
    let were = subst (λ (s : TextsState). AreTexts s) c.self.view_is c.self.invariant in
    freed-all c.args.self.now c.loop-freed.self were c.loop-freed.invariant.1 c.loop-freed.invariant.0 c.in-None.ensures.none.1 c.free_next.new.self c.in-None.ensures.none.0
