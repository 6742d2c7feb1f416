-- A whole number read by the library's parser, and shown again.
use Rattle.std.proofs.Common.{◌≡◌, ℕ, true, false, List, ℤ, FitsSigned, Option, Some, None, Result, Ok, Err, IsUtf8, refl, sym, ap, ◌∙◌}
use Rattle.std.specs.Int.{w64}
use Rattle.std.specs.Fmt.{signed_decimal}
use Rattle.std.specs.Str.{bytes_eq}
use Rattle.std.specs.Str.Parse.{IsNumeral, ParsesSigned, signed_digits_value, without_leading_sign}
use Rattle.std.proofs.lemmas.Bool.{false≢true}
use Rattle.std.proofs.lemmas.Slice.Eq.{bytes_eq-Decides}
use Rattle.std.proofs.lemmas.Str.{IsUtf8-from_ascii}
use Rattle.std.proofs.lemmas.Fmt.{IsAscii-signed, parse-signed_decimal}
use Rattle.rh_text.specs.Number.{integer_of}
use Rattle.rh_text.specs.lemmas.Integers.{i64_size, i64_fits, means, integer_here}

-- reading: another text than UTF-8, no number, a number with another spelling, and a number
none_from : (o : Option ℤ) → ((n : ℤ) → o ≡ Some n → ⊥) → None ≡ o
none_from None h = refl
none_from (Some n) h = absurd (h n refl)

pub not_utf8 : (part : List ℕ) → (IsUtf8 part → ⊥) → None ≡ integer_of part
not_utf8 part other = none_from (integer_of part) (λ n e.
    let m = means part n e in
    other (IsUtf8-from_ascii part (rw m.text (IsAscii-signed n (i64_size n m.range)))))

pub not_parsed : {E : Type 0} (part : List ℕ) (error : E) → ParsesSigned {E = E} w64 10 part (Err error) → None ≡ integer_of part
not_parsed {E = E} part error fails = none_from (integer_of part) (λ n e.
    let m = means part n e in
    let read : ◌≡◌ {A = Result ℤ E} (Err error) (Ok n) = parse-signed_decimal w64 n part (Err error) (i64_fits n m.range) (i64_size n m.range) m.text fails in
    absurd cc)

-- the part parses as this number
abbrev pub Parses : List ℕ → ℤ → Type 0
Parses part n = (IsNumeral 10 (without_leading_sign part) × FitsSigned w64 (signed_digits_value 10 part)) × (n ≡ signed_digits_value 10 part)

pub parsed_fits : (part : List ℕ) (n : ℤ) → Parses part n → FitsSigned w64 n
parsed_fits part n read = rw read.1 read.0.1

pub other_spelling : (part shown : List ℕ) (n : ℤ) → Parses part n → shown ≡ signed_decimal n → bytes_eq shown part ≡ false → None ≡ integer_of part
other_spelling part shown n read is other = none_from (integer_of part) (λ k e.
    let m = means part k e in
    let same : shown ≡ part = is ∙ ap signed_decimal (read.1 ∙ m.value) ∙ sym m.text in
    absurd (false≢true (sym other ∙ (bytes_eq-Decides shown part).1 same)))

pub integer_found : (part shown : List ℕ) (n : ℤ) → Parses part n → shown ≡ signed_decimal n → bytes_eq shown part ≡ true → Some n ≡ integer_of part
integer_found part shown n read is same = sym (integer_here part n read.1 (parsed_fits part n read) (sym ((bytes_eq-Decides shown part).0 same) ∙ is))
