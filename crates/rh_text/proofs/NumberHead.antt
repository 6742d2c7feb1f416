-- The number with which a text begins, read digit by digit.
use Rattle.std.proofs.Common.{◌≡◌, ℕ, zero, suc, ◌+◌, ◌-◌, ◌*◌, ◌^◌, ◌<◌, ◌≤◌, List, [], ◌∷◌, ◌++◌, length, get_or, take, drop, refl, sym, ap, subst, ◌∙◌, arith, inl, inr}
use Rattle.std.specs.Prelude.{decimal}
use Rattle.std.proofs.lemmas.Int.Digits.{digits_value-lt}
use Rattle.std.proofs.lemmas.Bool.{cases_lt}
use Rattle.std.proofs.lemmas.List.{length-take, length-drop, length-append, get_or-take, get_or_append_left, take-append-drop, take_all, drop_more}
use Rattle.std.proofs.Math.Nat.{pow-le-pow_right}
use Rattle.std.proofs.Math.Seq.{get_or-append_seam}
use Rattle.std.proofs.lemmas.Fmt.{decimal_digit, decimal_is_IsNumeral, length-decimal-le}
use Rattle.std.proofs.lemmas.Str.Parse.{digit_at}
use Rattle.std.specs.Str.Parse.{AllDigits}
use Rattle.rh_text.specs.lemmas.Numbers.{IsDecimal, number_means, number_found}
use Rattle.std.specs.Int.{IsInRange, IsOutOfRange}
use Rattle.rh_text.proofs.ReadNumber.{ReadsTo, digit_more}

first_of_take : (text : List ℕ) (i : ℕ) → 0 < i → get_or (take i text) 0 0 ≡ get_or text 0 0
first_of_take text zero lt = absurd (omega (arith, lt))
first_of_take [] (suc i) lt = refl
first_of_take (b ∷ bs) (suc i) lt = refl

-- so many digits make a number below that power of ten
pub below_power : (text : List ℕ) (i n k : ℕ) → i ≤ k → ReadsTo text i n → n < 10 ^ k
below_power text i n k few h =
    let below = digits_value-lt 10 (take i text) h.digits in
    let short : length (take i text) ≤ k = omega (arith, length-take i text, few) in
    let positive : 0 < 10 = omega arith in
    let more : 10 ^ length (take i text) ≤ 10 ^ k = pow-le-pow_right positive short in
    omega (arith, below, more, h.value)

-- what stands after the first so many bytes, as a slice of the text has it
after_take : (text : List ℕ) (i : ℕ) → take i text ++ take (length text - i) (drop i text) ≡ text
after_take text i = ap (λ (t : List ℕ). take i text ++ t) (take_all (length text - i) (drop i text) (omega (arith, length-drop i text))) ∙ take-append-drop i text

pub zero_leads : (text : List ℕ) → get_or text 0 0 ≡ 48 → text ≡ decimal 0 ++ take (length text - 1) (drop 1 text)
zero_leads [] is = absurd (omega (arith, is))
zero_leads (b ∷ bs) is =
    let rest = take (length (b ∷ bs) - 1) (drop 1 (b ∷ bs)) in
    sym (after_take (b ∷ bs) 1) ∙ ap (λ (c : ℕ). c ∷ rest) is ∙ ap (λ (t : List ℕ). t ++ rest) (sym (decimal_digit 0 (omega arith)))

-- one byte of what is left
first_and_after : (text rest : List ℕ) (i : ℕ) → rest ≡ drop i text → 0 < length rest → rest ≡ get_or text i 0 ∷ drop (i + 1) text
first_and_after text rest i is filled = is ∙ drop_more text i 0 (omega (arith, filled, ap length is, length-drop i text))

pub next_rest : (text rest : List ℕ) (i : ℕ) → rest ≡ drop i text → 0 < length rest → take (length rest - 1) (drop 1 rest) ≡ drop (i + 1) text
next_rest text rest i is filled =
    let after = drop (i + 1) text in
    ap (λ (r : List ℕ). take (length r - 1) (drop 1 r)) (first_and_after text rest i is filled) ∙ take_all (length (get_or text i 0 ∷ after) - 1) after (omega arith)

pub next_digit : (text rest : List ℕ) (i n d : ℕ) → rest ≡ drop i text → 0 < length rest → IsInRange 48 57 (get_or rest 0 0) → d ≡ get_or rest 0 0 - 48 → ReadsTo text i n → ReadsTo text (i + 1) (n * 10 + d)
next_digit text rest i n d is filled in_range value h =
    let first : get_or rest 0 0 ≡ get_or text i 0 = ap (λ (r : List ℕ). get_or r 0 0) (first_and_after text rest i is filled) in
    digit_more text i n d (omega (arith, filled, ap length is, length-drop i text)) (subst (IsInRange 48 57) first in_range) (value ∙ ap (λ (c : ℕ). c - 48) first) h

pub number_leads : (text rest : List ℕ) (i n : ℕ) → rest ≡ drop i text → 0 < i → i ≤ 8 → i ≤ length text → (get_or text 0 0 ≡ 48 → ⊥) → ReadsTo text i n → text ≡ decimal n ++ rest
number_leads text rest i n left filled few within leading h =
    let part = take i text in
    let long = length-take i text in
    let is_decimal : IsDecimal part n = record {
      small = omega (arith, below_power text i n 8 few h);
      digits = h.digits;
      filled = omega (arith, long, filled, within);
      short = omega (arith, long, few);
      leading = λ e. absurd (leading (sym (first_of_take text i filled) ∙ e));
      value = h.value;
    } in
    let is : part ≡ decimal n = (number_means part n (sym (number_found part n is_decimal))).0 in
    sym (take-append-drop i text) ∙ ap (λ (t : List ℕ). t ++ drop i text) is ∙ ap (λ (t : List ℕ). decimal n ++ t) (sym left)

-- a text that begins with a number of at most eight digits and then a byte that is no digit
module _ (text rest : List ℕ) (n byte : ℕ) (small : n < 10 ^ 8) (is : text ≡ decimal n ++ byte ∷ rest) where
  pub first_is_digit : IsInRange 48 57 (get_or text 0 0)
  first_is_digit =
      let numeral = (decimal_is_IsNumeral n (omega (arith, small))).0 in
      let same : get_or text 0 0 ≡ get_or (decimal n) 0 0 = ap (λ (t : List ℕ). get_or t 0 0) is ∙ get_or_append_left (decimal n) (byte ∷ rest) 0 0 numeral.0 in
      subst (IsInRange 48 57) (sym same) (digit_at (decimal n) 0 numeral.1 numeral.0)

  -- its first digits end before the text does, and are at most eight
  pub digits_end : (i : ℕ) → IsOutOfRange 48 57 byte → i ≤ length text → AllDigits 10 (take i text) → (i < length text) × (i ≤ 8)
  digits_end i out within digits =
      let d = decimal n in
      let long : length d ≤ 8 = length-decimal-le 8 n (omega arith) small (omega (arith, small)) in
      let whole : length text ≡ length d + length (byte ∷ rest) = ap length is ∙ length-append d (byte ∷ rest) in
      let met : get_or text (length d) 0 ≡ byte = ap (λ (t : List ℕ). get_or t (length d) 0) is ∙ get_or-append_seam d byte rest 0 in
      elim (cases_lt (length d) i) [
        | inl more ↦
            let lt : length d < length (take i text) = omega (arith, length-take i text, more, within) in
            let in_range = digit_at (take i text) (length d) digits lt in
            let same : get_or (take i text) (length d) 0 ≡ byte = get_or-take i text (length d) 0 more ∙ met in
            absurd (elim out [ inl low ↦ omega (arith, in_range.0, same, low) | inr high ↦ omega (arith, in_range.1, same, high) ])
        | inr few ↦ (omega (arith, whole, few), omega (arith, few, long))
      ]
