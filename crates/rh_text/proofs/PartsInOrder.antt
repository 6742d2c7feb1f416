-- How many parts there are, where a text is cut, and what a part begins with.
use Rattle.std.proofs.Common.{◌≡◌, ℕ, suc, ◌≤◌, Bool, true, false, cond, eqb, ◌||◌, List, [], ◌∷◌, ◌++◌, Option, Some, None, refl, ap, subst, ◌∙◌, arith, inl, inr}
use Rattle.std.specs.Prelude.{Contains}
use Rattle.std.specs.Option.{option_map}
use Rattle.std.proofs.lemmas.Bool.{false≢true, eqb-true, eq-eqb, ne_eqb, or_left, or_right}
use Rattle.rh_text.specs.Parts.{one_part, two_parts, three_parts, six_parts, cut_at, has_dot, begins_with_digit}
use Rattle.rh_text.specs.lemmas.Cuts.{some_is}
use Rattle.rh_text.specs.lemmas.Joins.{bounds, within}
use Rattle.rh_text.specs.lemmas.RawLines.{first_or_later, none_within, within_onto}
use Rattle.rh_text.specs.lemmas.Roots.{cut_step}

pub one_part-of : (a : List ℕ) → one_part (a ∷ []) ≡ Some a
unfolding one_part
one_part-of a = refl

pub two_parts-of : (a b : List ℕ) → two_parts (a ∷ b ∷ []) ≡ Some (a, b)
unfolding two_parts
two_parts-of a b = refl

pub three_parts-of : (a b c : List ℕ) → three_parts (a ∷ b ∷ c ∷ []) ≡ Some (a, b, c)
unfolding three_parts
three_parts-of a b c = refl

pub six_parts-of : (a b c d e f : List ℕ) → six_parts (a ∷ b ∷ c ∷ d ∷ e ∷ f ∷ []) ≡ Some (a, b, c, d, e, f)
unfolding six_parts
six_parts-of a b c d e f = refl

abbrev Six : Type 0
Six = List ℕ × List ℕ × List ℕ × List ℕ × List ℕ × List ℕ

pub six_parts-means : (args : List (List ℕ)) (x : Six) → six_parts args ≡ Some x → args ≡ x.0 ∷ x.1 ∷ x.2 ∷ x.3 ∷ x.4 ∷ x.5 ∷ []
unfolding six_parts
six_parts-means [] x is = absurd cc
six_parts-means (a ∷ []) x is = absurd cc
six_parts-means (a ∷ b ∷ []) x is = absurd cc
six_parts-means (a ∷ b ∷ c ∷ []) x is = absurd cc
six_parts-means (a ∷ b ∷ c ∷ d ∷ []) x is = absurd cc
six_parts-means (a ∷ b ∷ c ∷ d ∷ e ∷ []) x is = absurd cc
six_parts-means (a ∷ b ∷ c ∷ d ∷ e ∷ f ∷ []) x is = ap (λ (y : Six). y.0 ∷ y.1 ∷ y.2 ∷ y.3 ∷ y.4 ∷ y.5 ∷ []) (some_is (a, b, c, d, e, f) x is)
six_parts-means (a ∷ b ∷ c ∷ d ∷ e ∷ f ∷ g ∷ args) x is = absurd cc

first_step : (c b : ℕ) (bs : List ℕ) (here : Bool) (cut : Option (List ℕ × List ℕ)) → eqb b c ≡ here → ((l r : List ℕ) → cut ≡ Some (l, r) → ¬ Contains l c)
    → (l r : List ℕ) → cond {A = Option (List ℕ × List ℕ)} here (Some ([], bs)) (option_map (λ cut. (b ∷ cut.0, cut.1)) cut) ≡ Some (l, r) → ¬ Contains l c
first_step c b bs true cut is h l r e =
    let nothing : [] ≡ l = ap (λ (x : List ℕ × List ℕ). x.0) (some_is ([], bs) (l, r) e) in
    subst (λ (t : List ℕ). ¬ Contains t c) nothing (none_within c)
first_step c b bs false None is h l r e = absurd cc
first_step c b bs false (Some x) is h l r e =
    let first : b ∷ x.0 ≡ l = ap (λ (y : List ℕ × List ℕ). y.0) (some_is (b ∷ x.0, x.1) (l, r) e) in
    subst (λ (t : List ℕ). ¬ Contains t c) first (within_onto c b x.0 is (h x.0 x.1 refl))

-- a cut is at the first byte of its kind
pub cut_is_first : (c : ℕ) (bs l r : List ℕ) → cut_at c bs ≡ Some (l, r) → ¬ Contains l c
cut_is_first c [] l r e = absurd cc
cut_is_first c (b ∷ bs) l r e = first_step c b bs (eqb b c) (cut_at c bs) refl (cut_is_first c bs) l r e

pub cut_at-first : (c : ℕ) (l r : List ℕ) → ¬ Contains l c → cut_at c (l ++ c ∷ r) ≡ Some (l, r)
cut_at-first c [] r none = ap (λ (t : Bool). cond t (Some ([], r)) (option_map (λ cut. (c ∷ cut.0, cut.1)) (cut_at c r))) (eq-eqb c c refl)
cut_at-first c (b ∷ l) r none =
    cut_step c b (l ++ c ∷ r) l r (ne_eqb b c (λ same. none (0, omega arith, same))) (cut_at-first c l r (λ there. none (suc there.0, omega (arith, there.1), there.2)))

dot_step : (b : ℕ) (bs : List ℕ) (here : Bool) → eqb b 46 ≡ here → (has_dot bs ≡ true → Contains bs 46) → (here || has_dot bs) ≡ true → Contains (b ∷ bs) 46
dot_step b bs true is h e = (0, omega arith, eqb-true b 46 is)
dot_step b bs false is h e = let there = h e in (suc there.0, omega (arith, there.1), there.2)

pub has_dot-means : (part : List ℕ) → has_dot part ≡ true → Contains part 46
has_dot-means [] e = absurd (false≢true e)
has_dot-means (b ∷ bs) e = dot_step b bs (eqb b 46) refl (has_dot-means bs) e

pub has_dot-of : (part : List ℕ) → Contains part 46 → has_dot part ≡ true
has_dot-of [] there = absurd (none_within 46 there)
has_dot-of (b ∷ bs) there = elim (first_or_later 46 b bs there) [
  | inl same ↦ or_left (eqb b 46) (has_dot bs) (eq-eqb b 46 same)
  | inr later ↦ or_right (eqb b 46) (has_dot bs) (has_dot-of bs later)
]

abbrev BeginsWithDigit : List ℕ → Type 0
BeginsWithDigit part = (d : ℕ) × (rest : List ℕ) × (part ≡ d ∷ rest) × (48 ≤ d) × (d ≤ 57)

pub digit-means : (part : List ℕ) → begins_with_digit part ≡ true → BeginsWithDigit part
digit-means [] e = absurd (false≢true e)
digit-means (d ∷ rest) e = let p = bounds 48 57 d e in (d, rest, refl, p.0, p.1)

pub digit-of : (part : List ℕ) → BeginsWithDigit part → begins_with_digit part ≡ true
digit-of part h = ap begins_with_digit h.2 ∙ within 48 57 h.0 h.3 h.4
