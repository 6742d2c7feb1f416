-- A number read digit by digit.
use Rattle.std.proofs.Common.{◌≡◌, ℕ, ◌+◌, ◌-◌, ◌*◌, ◌^◌, ◌<◌, ◌≤◌, true, false, ltb, List, [], ◌∷◌, length, get_or, take, Some, None, refl, sym, ap, subst, ◌∙◌, arith, inl, inr}
use Rattle.std.specs.Char.{digit_value}
use Rattle.std.specs.Int.{IsInRange, IsOutOfRange}
use Rattle.std.specs.Str.Parse.{AllDigits, digits_value}
use Rattle.std.proofs.lemmas.Bool.{lt-ltb, le-ltb}
use Rattle.std.proofs.lemmas.Str.Parse.{digit_at}
use Rattle.std.proofs.lemmas.Int.Digits.{digits_value-lt, digits_value_more, digits_more}
use Rattle.std.proofs.lemmas.List.{length-take, take_all}
use Rattle.std.proofs.Math.Nat.{pow-le-pow_right}
use Rattle.std.proofs.lemmas.Fmt.{decimal_digit}
use Rattle.rh_text.specs.Number.{number_of}
use Rattle.rh_text.specs.lemmas.Numbers.{no_number, number_found, number_of-decimal}

-- a digit's value
digit_value-digit : (c : ℕ) → IsInRange 48 57 c → digit_value c ≡ c - 48
digit_value-digit c h =
    let high : ltb c 48 ≡ false = le-ltb c 48 h.0 in
    let low : ltb c 58 ≡ true = lt-ltb c 58 (omega (arith, h.1)) in
    rw (high, low) refl

-- the loop: another byte than a digit, one more digit, and the end
pub not_digits : (part : List ℕ) (i : ℕ) → i < length part → IsOutOfRange 48 57 (get_or part i 0) → None ≡ number_of part
not_digits part i lt out = no_number part (λ n d.
    let in_range = digit_at part i d.digits lt in
    elim out [ inl low ↦ absurd (omega (arith, in_range.0, low)) | inr high ↦ absurd (omega (arith, in_range.1, high)) ])

pub record ReadsTo (part : List ℕ) (i n : ℕ) : Type 0 where
  pub value : n ≡ digits_value 10 (take i part)
  pub digits : AllDigits 10 (take i part)

pub small_so_far : (part : List ℕ) (i n : ℕ) → length part ≤ 10 → ReadsTo part i n → n < 10 ^ 10
small_so_far part i n short h =
    let below = digits_value-lt 10 (take i part) h.digits in
    let long : length (take i part) ≤ 10 = omega (arith, length-take i part) in
    let positive : 0 < 10 = omega arith in
    let more : 10 ^ length (take i part) ≤ 10 ^ 10 = pow-le-pow_right positive long in
    omega (arith, below, more, h.value)

pub digit_more : (part : List ℕ) (i n d : ℕ) → i < length part → IsInRange 48 57 (get_or part i 0) → d ≡ get_or part i 0 - 48 → ReadsTo part i n → ReadsTo part (i + 1) (n * 10 + d)
digit_more part i n d lt in_range is h =
    let c = get_or part i 0 in
    let value : digit_value c ≡ c - 48 = digit_value-digit c in_range in
    let more = digits_value_more 10 part i lt in
    record {
      value = omega (arith, more, value, is, h.value);
      digits = digits_more 10 part i lt h.digits (omega (arith, value, in_range.1));
    }

pub whole_number : (part : List ℕ) (i n : ℕ) → length part ≤ i → length part ≤ 10 → 0 < length part → (get_or part 0 0 ≡ 48 → ⊥) → ReadsTo part i n → n < 2 ^ 32 → Some n ≡ number_of part
whole_number part i n all short filled leading h small =
    let whole : take i part ≡ part = take_all i part all in
    number_found part n (record { small = small; digits = subst (AllDigits 10) whole h.digits; filled = filled; short = short; leading = λ e. absurd (leading e); value = h.value ∙ ap (digits_value 10) whole })

pub too_large : (part : List ℕ) (i n : ℕ) → length part ≤ i → ReadsTo part i n → 2 ^ 32 ≤ n → None ≡ number_of part
too_large part i n all h large =
    let whole : take i part ≡ part = take_all i part all in
    let value : n ≡ digits_value 10 part = h.value ∙ ap (digits_value 10) whole in
    no_number part (λ m d. absurd (omega (arith, value, d.value, d.small)))

pub zero_found : (part : List ℕ) → length part ≡ 1 → get_or part 0 0 ≡ 48 → Some 0 ≡ number_of part
zero_found [] one zero = absurd (omega arith)
zero_found (b ∷ []) one zero = sym (ap (λ (c : ℕ). number_of (c ∷ [])) zero ∙ ap number_of (sym (decimal_digit 0 (omega arith))) ∙ number_of-decimal 0 (omega arith))
zero_found (b ∷ c ∷ bs) one zero = absurd (omega arith)
