-- The number that was found, and the number that a text begins with.
use Rattle.std.proofs.Common.{◌≡◌, ℕ, ◌^◌, ◌<◌, true, List, [], ◌∷◌, ◌++◌, get_or, sym, ap, subst, ◌∙◌, append_assoc, arith, inl, inr}
use Rattle.std.specs.Prelude.{decimal}
use Rattle.std.specs.Int.{IsOutOfRange}
use Rattle.std.specs.List.{list_all}
use Rattle.std.proofs.lemmas.Bool.{and_parts, cases_eq}
use Rattle.std.proofs.lemmas.List.{get_or_append_left}
use Rattle.std.proofs.lemmas.Fmt.{decimal_digit, decimal_is_IsNumeral, first_decimal}
use Rattle.rh_layout.specs.declared.command.RootId.{RootId}
use Rattle.rh_text.specs.Root.{root_text}
use Rattle.rh_text.specs.lemmas.Joins.{is_decimal_digit, bounds, decimal_digits}

not_both : (b : ℕ) → is_decimal_digit b ≡ true → IsOutOfRange 48 57 b → ⊥
not_both b digit out = let r = bounds 48 57 b digit in elim out [ inl low ↦ omega (arith, r.0, low) | inr high ↦ omega (arith, r.1, high) ]

pub tails : (b c : ℕ) (bs cs : List ℕ) → b ∷ bs ≡ c ∷ cs → bs ≡ cs
tails b c bs cs e = cc

heads : (b c : ℕ) (bs cs : List ℕ) → b ∷ bs ≡ c ∷ cs → b ≡ c
heads b c bs cs e = cc

-- what stands after digits, where both begin with a byte that is none
after_digits : (ds es : List ℕ) (b c : ℕ) (r s : List ℕ) → list_all is_decimal_digit ds ≡ true → list_all is_decimal_digit es ≡ true → IsOutOfRange 48 57 b → IsOutOfRange 48 57 c
    → ds ++ b ∷ r ≡ es ++ c ∷ s → b ∷ r ≡ c ∷ s
after_digits [] [] b c r s h k out other e = e
after_digits [] (x ∷ es) b c r s h k out other e =
    let digit = (and_parts (is_decimal_digit x) (list_all is_decimal_digit es) k).0 in
    absurd (not_both x digit (subst (IsOutOfRange 48 57) (heads b x r (es ++ c ∷ s) e) out))
after_digits (d ∷ ds) [] b c r s h k out other e =
    let digit = (and_parts (is_decimal_digit d) (list_all is_decimal_digit ds) h).0 in
    absurd (not_both d digit (subst (IsOutOfRange 48 57) (sym (heads d c (ds ++ b ∷ r) s e)) other))
after_digits (d ∷ ds) (x ∷ es) b c r s h k out other e =
    let p = and_parts (is_decimal_digit d) (list_all is_decimal_digit ds) h in
    let q = and_parts (is_decimal_digit x) (list_all is_decimal_digit es) k in
    after_digits ds es b c r s p.1 q.1 out other (tails d x (ds ++ b ∷ r) (es ++ c ∷ s) e)

-- a number of at most eight digits that a text begins with, and another way to say so, which has a byte that is no digit after it
module _ (text rest : List ℕ) (found n byte : ℕ) (tail : List ℕ) (small : found < 10 ^ 8) (is : text ≡ decimal found ++ rest) (fits : n < 10 ^ 8) (out : IsOutOfRange 48 57 byte) (e : text ≡ decimal n ++ byte ∷ tail) where
  only_zero : found ≡ 0 → n ≡ 0
  only_zero zero =
      elim (cases_eq n 0) [
        | inl same ↦ same
        | inr more ↦
            let first : 48 < get_or (decimal n) 0 0 = first_decimal n (omega (arith, more)) (omega (arith, fits)) in
            let filled = (decimal_is_IsNumeral n (omega (arith, fits))).0.0 in
            let begins : get_or text 0 0 ≡ get_or (decimal n) 0 0 = ap (λ (t : List ℕ). get_or t 0 0) e ∙ get_or_append_left (decimal n) (byte ∷ tail) 0 0 filled in
            let zeros : text ≡ 48 ∷ rest = is ∙ ap (λ (k : ℕ). decimal k ++ rest) zero ∙ ap (λ (t : List ℕ). t ++ rest) (decimal_digit 0 (omega arith)) in
            let leads : get_or text 0 0 ≡ 48 = ap (λ (t : List ℕ). get_or t 0 0) zeros in
            absurd (omega (arith, first, begins, leads))
      ]

  after_zero : found ≡ 0 → rest ≡ byte ∷ tail
  after_zero zero =
      let one = decimal_digit 0 (omega arith) in
      let here : text ≡ 48 ∷ rest = is ∙ ap (λ (k : ℕ). decimal k ++ rest) zero ∙ ap (λ (t : List ℕ). t ++ rest) one in
      let there : text ≡ 48 ∷ byte ∷ tail = e ∙ ap (λ (k : ℕ). decimal k ++ byte ∷ tail) (only_zero zero) ∙ ap (λ (t : List ℕ). t ++ byte ∷ tail) one in
      tails 48 48 rest (byte ∷ tail) (sym here ∙ there)

  -- what stands after it is the same
  pub after_number : ((found ≡ 0 → ⊥) → (b : ℕ) × (after : List ℕ) × IsOutOfRange 48 57 b × (rest ≡ b ∷ after)) → rest ≡ byte ∷ tail
  after_number more =
      elim (cases_eq found 0) [
        | inl zero ↦ after_zero zero
        | inr some ↦
            let m = more some in
            let whole : decimal found ++ m.0 ∷ m.1 ≡ decimal n ++ byte ∷ tail = ap (λ (t : List ℕ). decimal found ++ t) (sym m.3) ∙ sym is ∙ e in
            m.3 ∙ after_digits (decimal found) (decimal n) m.0 byte m.1 tail (decimal_digits found (omega (arith, small))) (decimal_digits n (omega (arith, fits))) m.2 out whole
      ]

-- a root's text, and then a byte, by its owner
pub root_then : (root : RootId) (byte : ℕ) (rest : List ℕ) → root_text root ++ byte ∷ rest ≡ decimal root.owner ++ 46 ∷ (decimal root.slot ++ byte ∷ rest)
root_then root byte rest = append_assoc (decimal root.owner) (46 ∷ decimal root.slot) (byte ∷ rest)
