-- A part says a whole number exactly where it is the decimal of one of 64 bits with sign.
use Rattle.std.proofs.Common.{◌≡◌, ℕ, suc, ◌-◌, ◌^◌, ◌<◌, Bool, true, false, cond, ◌&&◌, List, [], ◌∷◌, ℤ, pos, negsuc, neg_ℤ, FitsSigned, int_le, Some, None, refl, sym, ap, ◌∙◌, arith}
use Rattle.std.specs.Int.{w64}
use Rattle.std.specs.Fmt.{decimal, signed_decimal}
use Rattle.std.specs.Int.Signed.{mag}
use Rattle.std.specs.Str.{bytes_eq}
use Rattle.std.specs.Str.Parse.{IsNumeral, digits_value, signed_digits_value}
use Rattle.std.proofs.lemmas.Bool.{and_parts, and_from, cond-true, le-leb, ne_eqb}
use Rattle.std.proofs.lemmas.Int.{ints}
use Rattle.std.proofs.lemmas.Slice.Eq.{bytes_eq-Decides}
use Rattle.std.proofs.lemmas.Str.Parse.{digit_from_value}
use Rattle.std.proofs.lemmas.Fmt.{decimal_is_IsNumeral}
use Rattle.rh_text.specs.Number.{is_i64, IsI64, integer_of}

-- the range, said in three ways
pub i64_size : (n : ℤ) → IsI64 n → mag n < 2 ^ 63
i64_size (pos k) h = omega (arith, ints, h.1)
i64_size (negsuc k) h = omega (arith, ints, h.0)

pub i64_fits : (n : ℤ) → IsI64 n → FitsSigned w64 n
i64_fits n h = record { sfits = i64_size n h }

is_i64-true : (n : ℤ) → is_i64 n ≡ true → IsI64 n
is_i64-true n h =
    let p = and_parts (int_le (negsuc (2 ^ 63 - 1)) n) (int_le n (pos (2 ^ 63 - 1))) h in
    grind (arith, ints)

is_i64-from : (n : ℤ) → FitsSigned w64 n → is_i64 n ≡ true
is_i64-from (pos k) h = le-leb k (2 ^ 63 - 1) (omega (arith, h.sfits))
is_i64-from (negsuc k) h = and_from (int_le (negsuc (2 ^ 63 - 1)) (negsuc k)) true (le-leb k (2 ^ 63 - 1) (omega (arith, h.sfits))) refl

-- a test that was passed
passed : (b : Bool) (v n : ℤ) → cond b (Some v) None ≡ Some n → (b ≡ true) × (v ≡ n)
passed true v n e = (refl, cc)
passed false v n e = absurd cc

pub record Means (part : List ℕ) (n : ℤ) : Type 0 where
  pub text : part ≡ signed_decimal n
  pub range : IsI64 n
  pub value : signed_digits_value 10 part ≡ n

pub means : (part : List ℕ) (n : ℤ) → integer_of part ≡ Some n → Means part n
unfolding integer_of
means part n e =
    let v = signed_digits_value 10 part in
    let p = passed (is_i64 v && bytes_eq part (signed_decimal v)) v n e in
    let both = and_parts (is_i64 v) (bytes_eq part (signed_decimal v)) p.0 in
    record {
      text = (bytes_eq-Decides part (signed_decimal v)).0 both.1 ∙ ap signed_decimal p.1;
      range = rw (← p.1) (is_i64-true v both.0);
      value = p.1;
    }

pub integer_means : (part : List ℕ) (n : ℤ) → integer_of part ≡ Some n → (part ≡ signed_decimal n) × IsI64 n
integer_means part n e = let m = means part n e in (m.text, m.range)

pub integer_here : (part : List ℕ) (n : ℤ) → n ≡ signed_digits_value 10 part → FitsSigned w64 n → part ≡ signed_decimal n → integer_of part ≡ Some n
unfolding integer_of
integer_here part n is fits e =
    let v = signed_digits_value 10 part in
    let range : is_i64 v ≡ true = ap is_i64 (sym is) ∙ is_i64-from n fits in
    let same : bytes_eq part (signed_decimal v) ≡ true = (bytes_eq-Decides part (signed_decimal v)).1 (e ∙ ap signed_decimal is) in
    cond-true (is_i64 v && bytes_eq part (signed_decimal v)) (Some v) None (and_from (is_i64 v) (bytes_eq part (signed_decimal v)) range same) ∙ ap (λ (k : ℤ). Some k) (sym is)

-- digits have no sign
signed_digits_value-digits : (ds : List ℕ) → IsNumeral 10 ds → signed_digits_value 10 ds ≡ pos (digits_value 10 ds)
signed_digits_value-digits [] h = absurd (omega (arith, h.0))
signed_digits_value-digits (d ∷ ds) h =
    let r = digit_from_value d h.1.0 in
    rw (ne_eqb d 45 (λ e. omega (arith, r.0, e)), ne_eqb d 43 (λ e. omega (arith, r.0, e))) refl

signed_digits_value-signed_decimal : (n : ℤ) → IsI64 n → signed_digits_value 10 (signed_decimal n) ≡ n
signed_digits_value-signed_decimal (pos k) h =
    let small : k < 2 ^ 63 = i64_size (pos k) h in
    let numeral = decimal_is_IsNumeral k (omega (arith, small)) in
    signed_digits_value-digits (decimal k) numeral.0 ∙ ap pos numeral.1
signed_digits_value-signed_decimal (negsuc k) h =
    let small : k < 2 ^ 63 = i64_size (negsuc k) h in
    let numeral = decimal_is_IsNumeral (suc k) (omega (arith, small)) in
    ap (λ (m : ℕ). neg_ℤ (pos m)) numeral.1

pub integer_of-decimal : (n : ℤ) → IsI64 n → integer_of (signed_decimal n) ≡ Some n
integer_of-decimal n h = integer_here (signed_decimal n) n (sym (signed_digits_value-signed_decimal n h)) (i64_fits n h) refl
