-- A part says a root exactly where it is that root's text.
use Rattle.std.proofs.Common.{◌≡◌, ℕ, Bool, true, false, cond, eqb, List, [], ◌∷◌, ◌++◌, Option, Some, None, refl, ap, subst, ◌∙◌, arith}
use Rattle.std.specs.Prelude.{decimal}
use Rattle.std.specs.List.{list_all}
use Rattle.std.specs.Option.{option_map}
use Rattle.std.proofs.lemmas.Bool.{and_parts, ne_eqb}
use Rattle.std.proofs.lemmas.List.{length-append}
use Rattle.rh_layout.specs.declared.command.RootId.{RootId}
use Rattle.rh_text.specs.Number.{number_of}
use Rattle.rh_text.specs.Parts.{cut_at, ◌>>=◌}
use Rattle.rh_text.specs.Root.{root_of, root_text, RootFits}
use Rattle.rh_text.specs.lemmas.Cuts.{some_is, cut_means}
use Rattle.rh_text.specs.lemmas.Joins.{IsPart, is_glyph, is_decimal_digit, bounds, decimal_digits, all_append, filled_append, length-decimal, number_part}
use Rattle.rh_text.specs.lemmas.Numbers.{number_means, number_of-decimal}

bind_some : {A B : Type 0} (o : Option A) (f : A → Option B) (y : B) → o >>= f ≡ Some y → (x : A) × (o ≡ Some x) × (f x ≡ Some y)
bind_some (Some x) f y e = (x, refl, e)
bind_some None f y e = absurd cc

pub root_means : (part : List ℕ) (root : RootId) → root_of part ≡ Some root → (part ≡ root_text root) × RootFits root
unfolding root_of
root_means part root e =
    let a = bind_some (cut_at 46 part) (λ halves. number_of halves.0 >>= λ owner. number_of halves.1 >>= λ slot. Some (record { owner = owner; slot = slot })) root e in
    let b = bind_some (number_of a.0.0) (λ owner. number_of a.0.1 >>= λ slot. Some (record { owner = owner; slot = slot })) root a.2 in
    let c = bind_some (number_of a.0.1) (λ slot. Some (record { owner = b.0; slot = slot })) root b.2 in
    let owner = number_means a.0.0 b.0 b.1 in
    let slot = number_means a.0.1 c.0 c.1 in
    let made : RootId = record { owner = b.0; slot = c.0 } in
    let whole : part ≡ root_text made = cut_means 46 part a.0.0 a.0.1 a.1 ∙ ap (λ (o : List ℕ). o ++ 46 ∷ a.0.1) owner.0 ∙ ap (λ (s : List ℕ). decimal b.0 ++ 46 ∷ s) slot.0 in
    subst (λ (r : RootId). (part ≡ root_text r) × RootFits r) (some_is made root c.2) (whole, (owner.1, slot.1))

pub cut_step : (c b : ℕ) (bs l r : List ℕ) → eqb b c ≡ false → cut_at c bs ≡ Some (l, r) → cut_at c (b ∷ bs) ≡ Some (b ∷ l, r)
cut_step c b bs l r other h =
    ap (λ (t : Bool). cond t (Some ([], bs)) (option_map (λ cut. (b ∷ cut.0, cut.1)) (cut_at c bs))) other ∙ ap (option_map (λ cut. (b ∷ cut.0, cut.1))) h

-- a number has no dot
cut_at-dot : (digits rest : List ℕ) → list_all is_decimal_digit digits ≡ true → cut_at 46 (digits ++ 46 ∷ rest) ≡ Some (digits, rest)
cut_at-dot [] rest h = refl
cut_at-dot (d ∷ digits) rest h =
    let p = and_parts (is_decimal_digit d) (list_all is_decimal_digit digits) h in
    cut_step 46 d (digits ++ 46 ∷ rest) digits rest (ne_eqb d 46 (λ e. omega (arith, (bounds 48 57 d p.0).0, e))) (cut_at-dot digits rest p.1)

pub root_of-text : (root : RootId) → RootFits root → root_of (root_text root) ≡ Some root
unfolding root_of
root_of-text root fits =
    rw (cut_at-dot (decimal root.owner) (decimal root.slot) (decimal_digits root.owner fits.0), number_of-decimal root.owner fits.0, number_of-decimal root.slot fits.1) refl

-- what the text of a root is like
pub root_part : (root : RootId) → RootFits root → IsPart (root_text root)
root_part root fits =
    let owner = number_part root.owner fits.0 in
    let slot = number_part root.slot fits.1 in
    record {
      filled = filled_append (decimal root.owner) (46 ∷ decimal root.slot) owner.filled;
      glyphs = all_append is_glyph (decimal root.owner) (46 ∷ decimal root.slot) owner.glyphs slot.glyphs;
      short = omega (arith, length-append (decimal root.owner) (46 ∷ decimal root.slot), length-decimal root.owner fits.0, length-decimal root.slot fits.1);
    }
