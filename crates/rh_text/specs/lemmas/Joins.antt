-- Parts that are joined into a line, and lines that are joined into a text, are cut from it again.
use Rattle.std.proofs.Common.{◌≡◌, ℕ, ℤ, pos, negsuc, suc, ◌+◌, ◌*◌, ◌^◌, ◌<◌, ◌≤◌, Bool, true, false, cond, leb, eqb, ◌&&◌, List, [], ◌∷◌, ◌++◌, length, refl, ap, ◌∙◌, arith}
use Rattle.std.specs.Prelude.{decimal}
use Rattle.std.specs.Fmt.{signed_decimal}
use Rattle.std.specs.List.{join_with_byte, AllByRecursion, list_all, onto_first}
use Rattle.std.specs.Str.Parse.{AllDigits}
use Rattle.std.proofs.lemmas.Bool.{and_parts, and_from, leb-true, le-leb, ne_eqb}
use Rattle.std.proofs.lemmas.List.{length-append}
use Rattle.std.proofs.lemmas.Str.Parse.{digit_from_value}
use Rattle.std.proofs.lemmas.Fmt.{decimal_is_IsNumeral, length-decimal-le, length_signed_le}
use Rattle.rh_text.specs.Number.{IsU32, IsI64}
use Rattle.rh_text.specs.Parts.{parts_of, is_printable, is_filled, is_formed}
use Rattle.rh_text.specs.lemmas.Integers.{i64_size}
use Rattle.rh_text.specs.RawLine.{RawLine, lines_of, onto_line}

abbrev pub is_glyph : ℕ → Bool
is_glyph b = leb 33 b && leb b 126

-- a part that has a byte, no space, and at most 21 bytes
pub record IsPart (part : List ℕ) : Type 0 where
  pub filled : is_filled part ≡ true
  pub glyphs : list_all is_glyph part ≡ true
  pub short : length part ≤ 21

pub all_append : (test : ℕ → Bool) (xs ys : List ℕ) → list_all test xs ≡ true → list_all test ys ≡ true → list_all test (xs ++ ys) ≡ true
all_append test [] ys h k = k
all_append test (x ∷ xs) ys h k =
    let p = and_parts (test x) (list_all test xs) h in
    and_from (test x) (list_all test (xs ++ ys)) p.0 (all_append test xs ys p.1 k)

all_weaker : (test other : ℕ → Bool) → ((b : ℕ) → test b ≡ true → other b ≡ true) → (xs : List ℕ) → list_all test xs ≡ true → list_all other xs ≡ true
all_weaker test other weaker [] h = refl
all_weaker test other weaker (x ∷ xs) h =
    let p = and_parts (test x) (list_all test xs) h in
    and_from (other x) (list_all other xs) (weaker x p.0) (all_weaker test other weaker xs p.1)

abbrev pub is_decimal_digit : ℕ → Bool
is_decimal_digit b = leb 48 b && leb b 57

pub bounds : (low high b : ℕ) → (leb low b && leb b high) ≡ true → (low ≤ b) × (b ≤ high)
bounds low high b h =
    let p = and_parts (leb low b) (leb b high) h in
    (leb-true low b p.0, leb-true b high p.1)

pub within : (low high b : ℕ) → low ≤ b → b ≤ high → (leb low b && leb b high) ≡ true
within low high b h k = and_from (leb low b) (leb b high) (le-leb low b h) (le-leb b high k)

digits_from : (ds : List ℕ) → AllDigits 10 ds → list_all is_decimal_digit ds ≡ true
digits_from [] h = refl
digits_from (d ∷ ds) h =
    let r = digit_from_value d h.0 in
    and_from (is_decimal_digit d) (list_all is_decimal_digit ds) (within 48 57 d r.0 r.1) (digits_from ds h.1)

pub decimal_digits : (n : ℕ) → IsU32 n → list_all is_decimal_digit (decimal n) ≡ true
decimal_digits n small = digits_from (decimal n) (decimal_is_IsNumeral n (omega arith)).0.1

digit-glyph : (b : ℕ) → is_decimal_digit b ≡ true → is_glyph b ≡ true
digit-glyph b h = let r = bounds 48 57 b h in within 33 126 b (omega (arith, r.0)) (omega (arith, r.1))

filled_from : (xs : List ℕ) → 0 < length xs → is_filled xs ≡ true
filled_from [] h = absurd (omega arith)
filled_from (x ∷ xs) h = refl

pub filled_append : (xs ys : List ℕ) → is_filled xs ≡ true → is_filled (xs ++ ys) ≡ true
filled_append [] ys h = absurd (cc)
filled_append (x ∷ xs) ys h = refl

pub length-decimal : (n : ℕ) → IsU32 n → length (decimal n) ≤ 10
length-decimal n small = length-decimal-le 10 n (omega arith) (omega arith) (omega arith)

pub filled-decimal : (n : ℕ) → IsU32 n → is_filled (decimal n) ≡ true
filled-decimal n small = filled_from (decimal n) (decimal_is_IsNumeral n (omega arith)).0.0

pub number_part : (n : ℕ) → IsU32 n → IsPart (decimal n)
number_part n small = record {
  filled = filled-decimal n small;
  glyphs = all_weaker is_decimal_digit is_glyph digit-glyph (decimal n) (decimal_digits n small);
  short = omega (arith, length-decimal n small);
}

-- the digits of a number below 2^64
pub wide_digits : (n : ℕ) → n < 2 ^ 64 → list_all is_decimal_digit (decimal n) ≡ true
wide_digits n small = digits_from (decimal n) (decimal_is_IsNumeral n small).0.1

wide_glyphs : (n : ℕ) → n < 2 ^ 64 → list_all is_glyph (decimal n) ≡ true
wide_glyphs n small = all_weaker is_decimal_digit is_glyph digit-glyph (decimal n) (wide_digits n small)

pub wide_filled : (n : ℕ) → n < 2 ^ 64 → is_filled (decimal n) ≡ true
wide_filled n small = filled_from (decimal n) (decimal_is_IsNumeral n small).0.0

length-signed_decimal : (n : ℤ) → IsI64 n → length (signed_decimal n) ≤ 20
length-signed_decimal n fits = length_signed_le 19 n (omega (arith, i64_size n fits)) (i64_size n fits)

pub integer_part : (n : ℤ) → IsI64 n → IsPart (signed_decimal n)
integer_part (pos k) fits = record {
  filled = wide_filled k (omega (arith, i64_size (pos k) fits));
  glyphs = wide_glyphs k (omega (arith, i64_size (pos k) fits));
  short = omega (arith, length-signed_decimal (pos k) fits);
}
integer_part (negsuc k) fits = record {
  filled = refl;
  glyphs = wide_glyphs (suc k) (omega (arith, i64_size (negsuc k) fits));
  short = omega (arith, length-signed_decimal (negsuc k) fits);
}

-- a line that is cut where it was joined

parts_of-prefix : (part rest : List ℕ) → list_all is_glyph part ≡ true → parts_of (part ++ 32 ∷ rest) ≡ part ∷ parts_of rest
parts_of-prefix [] rest h = refl
parts_of-prefix (b ∷ part) rest h =
    let p = and_parts (is_glyph b) (list_all is_glyph part) h in
    let other : eqb b 32 ≡ false = ne_eqb b 32 (λ e. omega (arith, (bounds 33 126 b p.0).0, e)) in
    ap (λ (t : Bool). cond t ([] ∷ parts_of (part ++ 32 ∷ rest)) (onto_first b (parts_of (part ++ 32 ∷ rest)))) other ∙ ap (onto_first b) (parts_of-prefix part rest p.1)

parts_of-part : (part : List ℕ) → list_all is_glyph part ≡ true → parts_of part ≡ part ∷ []
parts_of-part [] h = refl
parts_of-part (b ∷ part) h =
    let p = and_parts (is_glyph b) (list_all is_glyph part) h in
    let other : eqb b 32 ≡ false = ne_eqb b 32 (λ e. omega (arith, (bounds 33 126 b p.0).0, e)) in
    ap (λ (t : Bool). cond t ([] ∷ parts_of part) (onto_first b (parts_of part))) other ∙ ap (onto_first b) (parts_of-part part p.1)

pub parts_of-join : (first : List ℕ) (others : List (List ℕ)) → AllByRecursion IsPart (first ∷ others) → parts_of (join_with_byte 32 (first ∷ others)) ≡ first ∷ others
parts_of-join first [] h = parts_of-part first h.0.glyphs
parts_of-join first (second ∷ others) h = parts_of-prefix first (join_with_byte 32 (second ∷ others)) h.0.glyphs ∙ ap (λ (ps : List (List ℕ)). first ∷ ps) (parts_of-join second others h.1)

glyph-printable : (b : ℕ) → is_glyph b ≡ true → is_printable b ≡ true
glyph-printable b h = let r = bounds 33 126 b h in within 32 126 b (omega (arith, r.0)) r.1

pub printable-join : (first : List ℕ) (others : List (List ℕ)) → AllByRecursion IsPart (first ∷ others) → list_all is_printable (join_with_byte 32 (first ∷ others)) ≡ true
printable-join first [] h = all_weaker is_glyph is_printable glyph-printable first h.0.glyphs
printable-join first (second ∷ others) h =
    all_append is_printable first (32 ∷ join_with_byte 32 (second ∷ others)) (all_weaker is_glyph is_printable glyph-printable first h.0.glyphs) (printable-join second others h.1)

all_filled : (parts : List (List ℕ)) → AllByRecursion IsPart parts → list_all is_filled parts ≡ true
all_filled [] h = refl
all_filled (part ∷ parts) h = and_from (is_filled part) (list_all is_filled parts) h.0.filled (all_filled parts h.1)

pub length-join : (first : List ℕ) (others : List (List ℕ)) → AllByRecursion IsPart (first ∷ others) → length (join_with_byte 32 (first ∷ others)) ≤ 21 + 22 * length others
length-join first [] h = omega (arith, h.0.short)
length-join first (second ∷ others) h = omega (arith, h.0.short, length-append first (32 ∷ join_with_byte 32 (second ∷ others)), length-join second others h.1)

pub is_formed-join : (first : List ℕ) (others : List (List ℕ)) → AllByRecursion IsPart (first ∷ others) → is_formed (join_with_byte 32 (first ∷ others)) ≡ true
unfolding is_formed
is_formed-join first others h =
    and_from (list_all is_printable (join_with_byte 32 (first ∷ others))) (list_all is_filled (parts_of (join_with_byte 32 (first ∷ others)))) (printable-join first others h)
    (ap (list_all is_filled) (parts_of-join first others h) ∙ all_filled (first ∷ others) h)

-- a raw line that has its line end
abbrev pub ended_line : List ℕ → RawLine
ended_line bytes = record { bytes = bytes; ended = true }

pub lines_of-prefix : (line rest : List ℕ) → list_all is_printable line ≡ true → lines_of (line ++ 10 ∷ rest) ≡ ended_line line ∷ lines_of rest
lines_of-prefix [] rest h = refl
lines_of-prefix (b ∷ line) rest h =
    let p = and_parts (is_printable b) (list_all is_printable line) h in
    let other : eqb b 10 ≡ false = ne_eqb b 10 (λ e. omega (arith, (bounds 32 126 b p.0).0, e)) in
    ap (λ (t : Bool). cond t (ended_line [] ∷ lines_of (line ++ 10 ∷ rest)) (onto_line b (lines_of (line ++ 10 ∷ rest)))) other ∙ ap (onto_line b) (lines_of-prefix line rest p.1)
