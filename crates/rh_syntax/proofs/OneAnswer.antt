-- The text of an answer to a command tells the answer: it can be read back.
use Rattle.std.specs.Prelude.{◌≡◌, ℕ, ◌==◌, if◌then◌else◌, pos, true, false, List, drop, slice_index_or, unwrap_or, Result, Ok, Err, codes}
use Rattle.std.proofs.Common.{refl, sym, ap, ◌∙◌}
use Rattle.rh_layout.specs.declared.command.Reply.{Reply}
use Rattle.rh_layout.specs.declared.command.Reply.TheVariants.{Done, Nil, Int, Object, Raw, Same}
use Rattle.rh_layout.specs.declared.refusal.Refusal.{Refusal}
use Rattle.rh_layout.specs.declared.refusal.Refusal.TheVariants.{NoRoot, NotYours, NotObject, NoField, RawField, IntRange, FieldsRange, SpaceFull, LogFull, NumbersSpent}
use Rattle.rh_text.specs.Number.{integer_of}
use Rattle.rh_text.specs.lemmas.Integers.{integer_of-decimal}
use Rattle.rh_syntax.specs.CommandAnswers.{answer_text, refused_text, IsToldAnswer, IsToldRefusal}
use Rattle.rh_syntax.specs.lemmas.TextNumbers.{numbers_in, numbers_in-one, numbers_in-two}

-- the byte at a position of a text, and the number at a position of its numbers
abbrev byte : List ℕ → ℕ → ℕ
byte text i = slice_index_or text i 0

abbrev number : List ℕ → ℕ → ℕ
number text i = slice_index_or (numbers_in text) i 0

-- the refusal that a text tells, by two letters of its name
abbrev refusal_told : List ℕ → Refusal
refusal_told text =
    if byte text 10 == 82 then NoRoot
    else if byte text 10 == 70 then NoField
    else if byte text 10 == 116 then (if byte text 11 == 89 then NotYours else if byte text 11 == 79 then NotObject else IntRange)
    else if byte text 10 == 119 then RawField
    else if byte text 10 == 101 then FieldsRange
    else if byte text 10 == 97 then SpaceFull (number text 0) (number text 1)
    else if byte text 10 == 103 then LogFull
    else NumbersSpent

-- the answer that a text tells, by its first two letters
abbrev answer_told : List ℕ → Result Reply Refusal
answer_told text =
    if byte text 0 == 100 then Ok Done
    else if byte text 0 == 110 then Ok Nil
    else if byte text 0 == 105 then Ok (Int (unwrap_or (integer_of (drop 4 text)) (pos 0)))
    else if byte text 0 == 111 then Ok (Object (number text 0))
    else if byte text 0 == 115 then Ok (Same (byte text 5 == 121))
    else if byte text 1 == 97 then Ok (Raw (number text 0))
    else Err (refusal_told text)

refusal_told-text : (refusal : Refusal) → IsToldRefusal refusal → answer_told (refused_text refusal) ≡ Err refusal
refusal_told-text NoRoot fits = refl
refusal_told-text NotYours fits = refl
refusal_told-text NotObject fits = refl
refusal_told-text NoField fits = refl
refusal_told-text RawField fits = refl
refusal_told-text IntRange fits = refl
refusal_told-text FieldsRange fits = refl
refusal_told-text (SpaceFull need free) fits =
    ap (λ ns. Err (SpaceFull (slice_index_or ns 0 0) (slice_index_or ns 1 0))) (numbers_in-two need free (codes " free ") fits.0 fits.1 (λ y. refl) refl)
refusal_told-text LogFull fits = refl
refusal_told-text NumbersSpent fits = refl

answer_told-text : (answer : Result Reply Refusal) → IsToldAnswer answer → answer_told (answer_text answer) ≡ answer
answer_told-text (Ok Done) fits = refl
answer_told-text (Ok Nil) fits = refl
answer_told-text (Ok (Int n)) fits = ap (λ o. Ok (Int (unwrap_or o (pos 0)))) (integer_of-decimal n fits)
answer_told-text (Ok (Object fields)) fits = ap (λ ns. Ok (Object (slice_index_or ns 0 0))) (numbers_in-one fields fits)
answer_told-text (Ok (Raw fields)) fits = ap (λ ns. Ok (Raw (slice_index_or ns 0 0))) (numbers_in-one fields fits)
answer_told-text (Ok (Same true)) fits = refl
answer_told-text (Ok (Same false)) fits = refl
answer_told-text (Err refusal) fits = refusal_told-text refusal fits

-- so two answers with one text are one
pub answer_text-injective : (a b : Result Reply Refusal) → IsToldAnswer a → IsToldAnswer b → answer_text a ≡ answer_text b → a ≡ b
answer_text-injective a b one other same = sym (answer_told-text a one) ∙ ap answer_told same ∙ answer_told-text b other
