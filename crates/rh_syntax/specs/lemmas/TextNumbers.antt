-- The numbers that a text has, in order, and what the text is without its digits. Texts that tell an answer are told apart by these.
use Rattle.std.specs.Prelude.{◌≡◌, ℕ, ◌+◌, ◌*◌, ◌<◌, Bool, false, nat_lt, not, if◌then◌else◌, List, [], ◌∷◌, ◌++◌, length, decimal, Option, Some, None}
use Rattle.std.specs.List.{filter}
use Rattle.std.specs.Char.{digit_value}
use Rattle.std.specs.Str.Parse.{AllDigits, digits_value, digits_value_after}
use Rattle.std.proofs.Common.{refl, sym, ap, ◌∙◌, arith, append_assoc}
use Rattle.std.proofs.lemmas.Bool.{lt-ltb}
use Rattle.std.proofs.lemmas.List.{append-nil}
use Rattle.std.proofs.lemmas.Fmt.{decimal_is_IsNumeral_wide}
use Rattle.rh_syntax.specs.CommandAnswers.{IsU128}

-- whether a byte is a digit
abbrev pub is_digit : ℕ → Bool
is_digit b = nat_lt (digit_value b) 10

-- what follows a number and isn't part of it: the end of the text, or another byte than a digit
abbrev pub EndsNumber : List ℕ → Type 0
EndsNumber [] = Unit {0}
EndsNumber (b ∷ bs) = is_digit b ≡ false

-- the number that is being read becomes this one with one digit more
abbrev more : Option ℕ → ℕ → ℕ
more None b = 0 * 10 + digit_value b
more (Some n) b = n * 10 + digit_value b

-- the number that was being read
abbrev ended : Option ℕ → List ℕ
ended None = []
ended (Some n) = n ∷ []

-- the numbers of a text, in order, where one may be being read
abbrev numbers_after : Option ℕ → List ℕ → List ℕ
numbers_after reading [] = ended reading
numbers_after reading (b ∷ bs) =
    if is_digit b then numbers_after (Some (more reading b)) bs else ended reading ++ numbers_after None bs

-- the numbers of a text, in order
abbrev pub numbers_in : List ℕ → List ℕ
numbers_in text = numbers_after None text

-- the text without its digits
abbrev pub letters_in : List ℕ → List ℕ
letters_in text = filter (λ b. not (is_digit b)) text

numbers_after-digits : (n : ℕ) (ds x : List ℕ) → AllDigits 10 ds → numbers_after (Some n) (ds ++ x) ≡ numbers_after (Some (digits_value_after 10 n ds)) x
numbers_after-digits n [] x digits = refl
numbers_after-digits n (d ∷ ds) x digits =
    ap (λ t. if t then numbers_after (Some (n * 10 + digit_value d)) (ds ++ x) else n ∷ numbers_after None (ds ++ x)) (lt-ltb (digit_value d) 10 digits.0)
    ∙ numbers_after-digits (n * 10 + digit_value d) ds x digits.1

numbers_in-digits : (ds x : List ℕ) → 0 < length ds → AllDigits 10 ds → numbers_in (ds ++ x) ≡ numbers_after (Some (digits_value 10 ds)) x
numbers_in-digits [] x filled digits = absurd (omega (arith, filled))
numbers_in-digits (d ∷ ds) x filled digits =
    ap (λ t. if t then numbers_after (Some (0 * 10 + digit_value d)) (ds ++ x) else numbers_after None (ds ++ x)) (lt-ltb (digit_value d) 10 digits.0)
    ∙ numbers_after-digits (0 * 10 + digit_value d) ds x digits.1

number_ends : (n : ℕ) (x : List ℕ) → EndsNumber x → numbers_after (Some n) x ≡ n ∷ numbers_in x
number_ends n [] ends = refl
number_ends n (b ∷ bs) ends =
    ap (λ t. if t then numbers_after (Some (n * 10 + digit_value b)) bs else n ∷ numbers_after None bs) ends
    ∙ ap (λ t. n ∷ (if t then numbers_after (Some (0 * 10 + digit_value b)) bs else numbers_after None bs)) (sym ends)

-- a number is told where a text begins with it
pub numbers_in-decimal : (n : ℕ) (x : List ℕ) → IsU128 n → EndsNumber x → numbers_in (decimal n ++ x) ≡ n ∷ numbers_in x
numbers_in-decimal n x small ends =
    let numeral = decimal_is_IsNumeral_wide n (omega (arith, small)) in
    numbers_in-digits (decimal n) x numeral.0.0 numeral.0.1
    ∙ ap (λ m. numbers_after (Some m) x) numeral.1
    ∙ number_ends n x ends

-- and where it is the whole text
pub numbers_in-one : (n : ℕ) → IsU128 n → numbers_in (decimal n) ≡ n ∷ []
numbers_in-one n small = ap numbers_in (sym (append-nil (decimal n))) ∙ numbers_in-decimal n [] small tt

-- two numbers, with words between them that have no digits
module _ (m n : ℕ) (words : List ℕ) (first : IsU128 m) (second : IsU128 n) (wordy : (y : List ℕ) → numbers_in (words ++ y) ≡ numbers_in y) where
  -- where something follows
  pub numbers_in-two_then : (x : List ℕ) → EndsNumber (words ++ (decimal n ++ x)) → EndsNumber x → numbers_in ((decimal m ++ (words ++ decimal n)) ++ x) ≡ m ∷ n ∷ numbers_in x
  numbers_in-two_then x between after =
      ap numbers_in (append_assoc (decimal m) (words ++ decimal n) x ∙ ap (λ t. decimal m ++ t) (append_assoc words (decimal n) x))
      ∙ numbers_in-decimal m (words ++ (decimal n ++ x)) first between
      ∙ ap (λ ns. m ∷ ns) (wordy (decimal n ++ x) ∙ numbers_in-decimal n x second after)

  -- and where they end the text
  pub numbers_in-two : EndsNumber (words ++ decimal n) → numbers_in (decimal m ++ (words ++ decimal n)) ≡ m ∷ n ∷ []
  numbers_in-two between =
      numbers_in-decimal m (words ++ decimal n) first between ∙ ap (λ ns. m ∷ ns) (wordy (decimal n) ∙ numbers_in-one n second)

letters_in-digits : (ds x : List ℕ) → AllDigits 10 ds → letters_in (ds ++ x) ≡ letters_in x
letters_in-digits [] x digits = refl
letters_in-digits (d ∷ ds) x digits =
    ap (λ t. if not t then d ∷ letters_in (ds ++ x) else letters_in (ds ++ x)) (lt-ltb (digit_value d) 10 digits.0) ∙ letters_in-digits ds x digits.1

-- a number has no letters
pub letters_in-decimal : (n : ℕ) (x : List ℕ) → IsU128 n → letters_in (decimal n ++ x) ≡ letters_in x
letters_in-decimal n x small = letters_in-digits (decimal n) x (decimal_is_IsNumeral_wide n (omega (arith, small))).0.1
