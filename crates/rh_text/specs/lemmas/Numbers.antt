-- A part says a number exactly where it is the decimal of one below 2^32.
use Rattle.std.proofs.Common.{◌≡◌, ℕ, ◌^◌, ◌<◌, ◌≤◌, Bool, true, false, cond, ltb, ◌&&◌, List, length, get_or, Option, Some, None, refl, sym, ap, subst, ◌∙◌, arith, inl, inr}
use Rattle.std.specs.Fmt.{decimal}
use Rattle.std.specs.Str.{bytes_eq}
use Rattle.std.specs.Str.Parse.{AllDigits, digits_value}
use Rattle.std.proofs.lemmas.Bool.{ltb-true, lt-ltb, and_parts, and_from, cases_eq, cond-true}
use Rattle.std.proofs.lemmas.Slice.Eq.{bytes_eq-Decides}
use Rattle.std.proofs.lemmas.Str.Parse.{IsNumeralModel, numerals_by_value, tells_digits}
use Rattle.std.proofs.lemmas.Fmt.{decimal_is_IsNumeral, decimal-digits_value, decimal_digit, first_decimal, length-decimal-le}
use Rattle.rh_text.specs.Number.{number_of}

own : IsNumeralModel (AllDigits 10) (digits_value 10)
own = numerals_by_value (AllDigits 10) tells_digits

-- a test that was passed
passed : (b : Bool) (v n : ℕ) → cond b (Some v) None ≡ Some n → (b ≡ true) × (v ≡ n)
passed true v n e = (refl, cc)
passed false v n e = absurd cc

pub number_means : (part : List ℕ) (n : ℕ) → number_of part ≡ Some n → (part ≡ decimal n) × (n < 2 ^ 32)
unfolding number_of
number_means part n e =
    let p = passed (ltb (digits_value 10 part) (2 ^ 32) && bytes_eq part (decimal (digits_value 10 part))) (digits_value 10 part) n e in
    let both = and_parts (ltb (digits_value 10 part) (2 ^ 32)) (bytes_eq part (decimal (digits_value 10 part))) p.0 in
    let small : digits_value 10 part < 2 ^ 32 = ltb-true (digits_value 10 part) (2 ^ 32) both.0 in
    ((bytes_eq-Decides part (decimal (digits_value 10 part))).0 both.1 ∙ ap decimal p.1, omega (arith, small, p.1))

pub number_here : (part : List ℕ) (n : ℕ) → n ≡ digits_value 10 part → n < 2 ^ 32 → part ≡ decimal n → number_of part ≡ Some n
unfolding number_of
number_here part n is small e =
    let v = digits_value 10 part in
    let below : v < 2 ^ 32 = omega (arith, small, is) in
    let same : bytes_eq part (decimal v) ≡ true = (bytes_eq-Decides part (decimal v)).1 (e ∙ ap decimal is) in
    cond-true (ltb v (2 ^ 32) && bytes_eq part (decimal v)) (Some v) None (and_from (ltb v (2 ^ 32)) (bytes_eq part (decimal v)) (lt-ltb v (2 ^ 32) below) same) ∙ ap (λ (k : ℕ). Some k) (sym is)

pub number_of-decimal : (n : ℕ) → n < 2 ^ 32 → number_of (decimal n) ≡ Some n
number_of-decimal n small = number_here (decimal n) n (sym (decimal_is_IsNumeral n (omega arith)).1) small refl

none_from : (o : Option ℕ) → ((n : ℕ) → o ≡ Some n → ⊥) → o ≡ None
none_from None h = refl
none_from (Some n) h = absurd (h n refl)

-- what the decimal of a number below 2^32 is like
pub record IsDecimal (part : List ℕ) (n : ℕ) : Type 0 where
  pub small : n < 2 ^ 32
  pub digits : AllDigits 10 part
  pub filled : 0 < length part
  pub short : length part ≤ 10
  pub leading : get_or part 0 0 ≡ 48 → length part ≡ 1
  pub value : n ≡ digits_value 10 part

one_digit : (n : ℕ) → n < 2 ^ 32 → get_or (decimal n) 0 0 ≡ 48 → length (decimal n) ≡ 1
one_digit n small e =
    elim (cases_eq n 0) [
      | inl zero ↦ ap (λ (k : ℕ). length (decimal k)) zero ∙ ap length (decimal_digit 0 (omega arith))
      | inr more ↦ let first : 48 < get_or (decimal n) 0 0 = first_decimal n (omega (arith, more)) (omega arith) in absurd (omega arith)
    ]

IsDecimal-decimal : (n : ℕ) → n < 2 ^ 32 → IsDecimal (decimal n) n
IsDecimal-decimal n small =
    let numeral = decimal_is_IsNumeral n (omega arith) in
    record {
      small = small;
      digits = numeral.0.1;
      filled = numeral.0.0;
      short = length-decimal-le 10 n (omega arith) (omega arith) (omega arith);
      leading = one_digit n small;
      value = sym numeral.1;
    }

-- what a part is like that says a number
pub IsDecimal-number : (part : List ℕ) (n : ℕ) → number_of part ≡ Some n → IsDecimal part n
IsDecimal-number part n e =
    let h = number_means part n e in
    subst (λ (p : List ℕ). IsDecimal p n) (sym h.0) (IsDecimal-decimal n h.1)

pub no_number : (part : List ℕ) → ((n : ℕ) → IsDecimal part n → ⊥) → None ≡ number_of part
no_number part h = sym (none_from (number_of part) (λ n e. h n (IsDecimal-number part n e)))

pub number_found : (part : List ℕ) (n : ℕ) → IsDecimal part n → Some n ≡ number_of part
number_found part n d =
    let v = digits_value 10 part in
    let value : n ≡ v = d.value in
    let text : decimal v ≡ part = decimal-digits_value own part d.digits d.filled d.leading (omega (arith, d.value, d.small)) in
    sym (number_here part n d.value d.small (sym text ∙ ap decimal (sym d.value)))
