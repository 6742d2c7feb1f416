-- How bytes of lines are heard, part by part.
use Rattle.std.proofs.Common.{◌≡◌, ◌≢◌, ℕ, ◌+◌, ◌-◌, ◌*◌, ◌/◌, ◌%◌, ◌^◌, ◌<◌, ◌≤◌, Bool, true, false, List, [], ◌∷◌, ◌++◌, length, get_or, set, refl, sym, ap, subst, ◌∙◌, arith}
use Rattle.std.specs.Prelude.{decimal, nat_eq, nat_le, ◌&&◌, if◌then◌else◌}
use Rattle.std.proofs.Math.Nat.{min-eq_left}
use Rattle.std.proofs.lemmas.Bool.{and_from, eqb-true, le-leb, lt-ltb}
use Rattle.std.proofs.lemmas.Fmt.{decimal_by_steps}
use Rattle.std.proofs.lemmas.List.{append_assoc, get_or-set_same, set-set}
use Rattle.rh_cycle_events.specs.declared.heard.Heard.{Heard}
use Rattle.rh_cycle_events.specs.declared.line.CycleLine.{CycleLine}
use Rattle.rh_cycle_events.specs.Events.{byte_events, byte_heard, events_in, heard_after, line_events, line_heard}
use Rattle.rh_cycle_events.specs.Line.{capped, capped_product, with_byte, with_digit}

-- what was heard, of these
abbrev pub hearing : Bool → ℕ → CycleLine → Heard
hearing begun freed line = record { begun = begun; freed = freed; line = line }

abbrev pub row : List ℕ → ℕ → Bool → CycleLine
row numbers column abandoned = record { numbers = numbers; column = column; is_abandoned = abandoned }

-- Bytes in parts.
pub heard-append : (h : Heard) (xs ys : List ℕ) → heard_after h (xs ++ ys) ≡ heard_after (heard_after h xs) ys
heard-append h [] ys = refl
heard-append h (x ∷ xs) ys = heard-append (byte_heard h x) xs ys

pub events-append : (h : Heard) (xs ys : List ℕ) → events_in h (xs ++ ys) ≡ events_in h xs ++ events_in (heard_after h xs) ys
events-append h [] ys = refl
events-append h (x ∷ xs) ys =
    ap (λ (e : List ℕ). byte_events h x ++ e) (events-append (byte_heard h x) xs ys)
    ∙ sym (append_assoc (byte_events h x) (events_in (byte_heard h x) xs) (events_in (heard_after (byte_heard h x) xs) ys))

-- After this line bytes come to this, and this is written of them.
abbrev pub Comes : CycleLine → List ℕ → (Bool → ℕ → Heard) → (Bool → ℕ → List ℕ) → Type 0
Comes line bytes after text = (begun : Bool) (freed : ℕ)
    → (heard_after (hearing begun freed line) bytes ≡ after begun freed) × (events_in (hearing begun freed line) bytes ≡ text begun freed)

-- they leave another line, and nothing is written
abbrev pub Reads : CycleLine → CycleLine → List ℕ → Type 0
Reads line next bytes = Comes line bytes (λ begun freed. hearing begun freed next) (λ begun freed. [])

pub reads-then : (line next : CycleLine) (xs ys : List ℕ) (after : Bool → ℕ → Heard) (text : Bool → ℕ → List ℕ) → Reads line next xs → Comes next ys after text → Comes line (xs ++ ys) after text
reads-then line next xs ys after text first second = λ begun freed. (
  heard-append (hearing begun freed line) xs ys ∙ ap (λ (h : Heard). heard_after h ys) (first begun freed).0 ∙ (second begun freed).0,
  events-append (hearing begun freed line) xs ys ∙ ap (λ (e : List ℕ). e ++ events_in (heard_after (hearing begun freed line) xs) ys) (first begun freed).1
      ∙ ap (λ (h : Heard). events_in h ys) (first begun freed).0 ∙ (second begun freed).1,
)

-- A byte.
eq-not : (n m : ℕ) → n ≢ m → nat_eq n m ≡ false
eq-not n m other = by_test (nat_eq n m) refl
  where
    by_test : (b : Bool) → nat_eq n m ≡ b → b ≡ false
    by_test true is = absurd (other (eqb-true n m is))
    by_test false is = refl

byte-reads : (line next : CycleLine) (byte : ℕ) → nat_eq byte 10 ≡ false → with_byte line byte ≡ next → Reads line next (byte ∷ [])
byte-reads line next byte other is = λ begun freed. (
  ap (λ (t : Bool). if t then line_heard (hearing begun freed line) else hearing begun freed (with_byte line byte)) other ∙ ap (λ (l : CycleLine). hearing begun freed l) is,
  ap (λ (t : Bool). (if t then line_events (hearing begun freed line) else []) ++ []) other,
)

-- which byte it is
abbrev chosen : Bool → Bool → Bool → ℕ → CycleLine → CycleLine
chosen tab digit letter byte line =
    if tab then record line { column = capped line.column 1 }
    else if digit then with_digit line (byte - 48)
    else if letter then record line { is_abandoned = true }
    else line

digit-byte : (byte : ℕ) (line : CycleLine) → 48 ≤ byte → byte ≤ 57 → with_byte line byte ≡ with_digit line (byte - 48)
digit-byte byte line low high =
    ap (λ (t : Bool). chosen t (nat_le 48 byte && nat_le byte 57) (nat_eq byte 97 && nat_eq line.column 1) byte line) (eq-not byte 9 (λ is. omega (arith, is, low)))
    ∙ ap (λ (t : Bool). chosen false t (nat_eq byte 97 && nat_eq line.column 1) byte line) (and_from (nat_le 48 byte) (nat_le byte 57) (le-leb 48 byte low) (le-leb byte 57 high))

-- a digit of a column's number
module _ (numbers : List ℕ) (column : ℕ) (abandoned : Bool) (value digit : ℕ) where
  digit-value : column < 19 → get_or numbers column 0 ≡ value → value * 10 + digit < 2 ^ 64
      → with_digit (row numbers column abandoned) digit ≡ row (set numbers column (value * 10 + digit)) column abandoned
  digit-value within is fits =
      let product : capped_product value 10 ≡ value * 10 = min-eq_left (omega (arith, fits)) in
      let sum : capped (value * 10) digit ≡ value * 10 + digit = min-eq_left (omega (arith, fits)) in
      ap (λ (t : Bool). if t then row (set numbers column (capped (capped_product (get_or numbers column 0) 10) digit)) column abandoned else row numbers column abandoned) (lt-ltb column 19 within)
      ∙ ap (λ (v : ℕ). row (set numbers column (capped (capped_product v 10) digit)) column abandoned) is
      ∙ ap (λ (p : ℕ). row (set numbers column (capped p digit)) column abandoned) product
      ∙ ap (λ (v : ℕ). row (set numbers column v) column abandoned) sum

  digit-reads : digit < 10 → column < 19 → get_or numbers column 0 ≡ value → value * 10 + digit < 2 ^ 64
      → Reads (row numbers column abandoned) (row (set numbers column (value * 10 + digit)) column abandoned) ((48 + digit) ∷ [])
  digit-reads few within is fits =
      let left : 48 + digit - 48 ≡ digit = omega arith in
      byte-reads (row numbers column abandoned) (row (set numbers column (value * 10 + digit)) column abandoned) (48 + digit) (eq-not (48 + digit) 10 (λ same. omega (arith, same)))
      (digit-byte (48 + digit) (row numbers column abandoned) (omega arith) (omega (arith, few))
      ∙ ap (λ (d : ℕ). with_digit (row numbers column abandoned) d) left ∙ digit-value within is fits)

-- The number in a column, where it has none before.
abbrev IsRead : ℕ → List ℕ → Type 0
IsRead n ds = n < 2 ^ 64 → (numbers : List ℕ) (column : ℕ) (abandoned : Bool) → column < 19 → length numbers ≡ 19 → get_or numbers column 0 ≡ 0
    → Reads (row numbers column abandoned) (row (set numbers column n) column abandoned) ds

one-read : (n : ℕ) → n < 10 → IsRead n ((48 + n) ∷ [])
one-read n few fits numbers column abandoned within long none =
    let same : 0 * 10 + n ≡ n = omega arith in
    subst (λ (v : ℕ). Reads (row numbers column abandoned) (row (set numbers column v) column abandoned) ((48 + n) ∷ [])) same
    (digit-reads numbers column abandoned 0 n few within none (omega (arith, fits)))

more-read : (n : ℕ) (ds : List ℕ) → 10 ≤ n → IsRead (n / 10) ds → IsRead n (ds ++ ((48 + n % 10) ∷ []))
more-read n ds many before fits numbers column abandoned within long none =
    let mid : List ℕ = set numbers column (n / 10) in
    let same : n / 10 * 10 + n % 10 ≡ n = omega arith in
    let last : Reads (row mid column abandoned) (row (set mid column (n / 10 * 10 + n % 10)) column abandoned) ((48 + n % 10) ∷ []) =
    digit-reads mid column abandoned (n / 10) (n % 10) (omega arith) within (get_or-set_same numbers column (n / 10) 0 (omega (arith, within, long))) (omega (arith, fits)) in
    let ends : row (set mid column (n / 10 * 10 + n % 10)) column abandoned ≡ row (set numbers column n) column abandoned =
    ap (λ (l : List ℕ). row l column abandoned) (set-set numbers column (n / 10) (n / 10 * 10 + n % 10)) ∙ ap (λ (v : ℕ). row (set numbers column v) column abandoned) same in
    reads-then (row numbers column abandoned) (row mid column abandoned) ds ((48 + n % 10) ∷ []) (λ begun freed. hearing begun freed (row (set numbers column n) column abandoned)) (λ begun freed. [])
    (before (omega (arith, fits)) numbers column abandoned within long none)
    (subst (λ (l : CycleLine). Reads (row mid column abandoned) l ((48 + n % 10) ∷ [])) ends last)

pub decimal-read : (n : ℕ) → n < 2 ^ 64 → (numbers : List ℕ) (column : ℕ) (abandoned : Bool) → column < 19 → length numbers ≡ 19 → get_or numbers column 0 ≡ 0
    → Reads (row numbers column abandoned) (row (set numbers column n) column abandoned) (decimal n)
decimal-read n fits = decimal_by_steps IsRead one-read more-read n fits fits

-- the next column
pub tab-read : (numbers : List ℕ) (column : ℕ) (abandoned : Bool) → column < 19 → Reads (row numbers column abandoned) (row numbers (column + 1) abandoned) (9 ∷ [])
tab-read numbers column abandoned within =
    let next : capped column 1 ≡ column + 1 = min-eq_left (omega (arith, within)) in
    byte-reads (row numbers column abandoned) (row numbers (column + 1) abandoned) 9 refl (ap (λ (c : ℕ). row numbers c abandoned) next)

pub column-read : (n : ℕ) → n < 2 ^ 64 → (numbers : List ℕ) (column : ℕ) (abandoned : Bool) → column + 1 < 19 → length numbers ≡ 19 → get_or numbers (column + 1) 0 ≡ 0
    → Reads (row numbers column abandoned) (row (set numbers (column + 1) n) (column + 1) abandoned) (9 ∷ decimal n)
column-read n fits numbers column abandoned within long none =
    reads-then (row numbers column abandoned) (row numbers (column + 1) abandoned) (9 ∷ []) (decimal n) (λ begun freed. hearing begun freed (row (set numbers (column + 1) n) (column + 1) abandoned)) (λ begun freed. [])
    (tab-read numbers column abandoned (omega (arith, within))) (decimal-read n fits numbers (column + 1) abandoned within long none)
