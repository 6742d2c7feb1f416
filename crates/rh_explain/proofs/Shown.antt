-- Bytes as they are shown, piece by piece.
use Rattle.std.proofs.Common.{◌≡◌, ℕ, ◌+◌, ◌-◌, ◌/◌, ◌%◌, ◌<◌, ◌≤◌, Bool, true, false, cond, List, [], ◌∷◌, ◌++◌, length, take, drop, get_or, refl, sym, ap, ◌∙◌, arith, append_assoc}
use Rattle.std.proofs.lemmas.List.{append-nil, take-append-drop, take-take, drop-take, drop-drop, drop_more, take_more, length-append}
use Rattle.rh_text.specs.Parts.{is_printable}
use Rattle.rh_explain.specs.Block.{hex_digit, shown, shown_byte, shown_from}

pub shown_append : (xs ys : List ℕ) → shown (xs ++ ys) ≡ shown xs ++ shown ys
shown_append [] ys = refl
shown_append (x ∷ xs) ys = ap (λ (t : List ℕ). shown_byte x ++ t) (shown_append xs ys) ∙ sym (append_assoc (shown_byte x) (shown xs) (shown ys))

-- a byte more
pub shown_more : (xs : List ℕ) (i d : ℕ) → i < length xs → shown (take (i + 1) xs) ≡ shown (take i xs) ++ shown_byte (get_or xs i d)
shown_more xs i d lt =
    ap shown (take_more xs i d lt) ∙ shown_append (take i xs) (get_or xs i d ∷ []) ∙ ap (λ (t : List ℕ). shown (take i xs) ++ t) (append-nil (shown_byte (get_or xs i d)))

byte_filled : (t : Bool) (a b : ℕ) (xs ys : List ℕ) → 0 < length (cond t (a ∷ xs) (b ∷ ys))
byte_filled true a b xs ys = omega arith
byte_filled false a b xs ys = omega arith

-- what is shown of the first bytes is shorter than what is shown of all
pub shown_within : (xs : List ℕ) (i d : ℕ) → i < length xs → length (shown (take i xs)) < length (shown xs)
shown_within xs i d lt =
    let b = get_or xs i d in
    let split : xs ≡ take i xs ++ b ∷ drop (i + 1) xs = sym (take-append-drop i xs) ∙ ap (λ (t : List ℕ). take i xs ++ t) (drop_more xs i d lt) in
    let whole : shown xs ≡ shown (take i xs) ++ (shown_byte b ++ shown (drop (i + 1) xs)) = ap shown split ∙ shown_append (take i xs) (b ∷ drop (i + 1) xs) in
    omega (
      arith,
      ap length whole,
      length-append (shown (take i xs)) (shown_byte b ++ shown (drop (i + 1) xs)),
      length-append (shown_byte b) (shown (drop (i + 1) xs)),
      byte_filled (is_printable b) b 92 [] (120 ∷ hex_digit (b / 16) ∷ hex_digit (b % 16) ∷ []),
    )

pieces : (xs : List ℕ) (m n : ℕ) → take (m + n) xs ≡ take m xs ++ take n (drop m xs)
pieces xs m n =
    sym (take-append-drop m (take (m + n) xs))
    ∙ ap (λ (t : List ℕ). t ++ drop m (take (m + n) xs)) (take-take m (m + n) xs (omega arith))
    ∙ ap (λ (t : List ℕ). take m xs ++ t) (drop-take m n xs)

-- what is shown from one column to another, in two pieces
pub shown_in_two : (line : List ℕ) (a b c : ℕ) → a ≤ b → b ≤ c → length (shown_from line a c) ≡ length (shown_from line a b) + length (shown_from line b c)
shown_in_two line a b c low high =
    let sum : c - a ≡ (b - a) + (c - b) = omega (arith, low, high) in
    let start : a + (b - a) ≡ b = omega (arith, low) in
    ap (λ (n : ℕ). length (shown (take n (drop a line)))) sum
    ∙ ap (λ (t : List ℕ). length (shown t)) (pieces (drop a line) (b - a) (c - b))
    ∙ ap length (shown_append (take (b - a) (drop a line)) (take (c - b) (drop (b - a) (drop a line))))
    ∙ length-append (shown (take (b - a) (drop a line))) (shown (take (c - b) (drop (b - a) (drop a line))))
    ∙ ap (λ (t : List ℕ). length (shown (take (b - a) (drop a line))) + length (shown (take (c - b) t))) (drop-drop (b - a) a line ∙ ap (λ (n : ℕ). drop n line) start)
