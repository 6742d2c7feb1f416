-- How far a session is, by the bytes that were typed.
use Rattle.std.proofs.Common.{◌≡◌, ℕ, ◌<◌, ◌≤◌, Bool, true, false, cond, ltb, eqb, List, [], ◌∷◌, ◌++◌, length, take, refl, sym, ap, subst, ◌∙◌, append_assoc, arith}
use Rattle.std.specs.List.{AllByRecursion}
use Rattle.std.proofs.lemmas.List.{append-nil, take_all, take-append-le, length-take-le, length-append}
use Rattle.std.proofs.lemmas.Bool.{ltb-true, ltb-false, lt-ltb}
use Rattle.rh_text.specs.RawLine.{RawLine, lines_of, onto_line}
use Rattle.rh_shell.specs.Session.{SessionState, new_session, IsAnswer, AreAnswers}
use Rattle.rh_shell.specs.Typing.{IsAfter, AnswersFirst}
use Rattle.rh_shell.proofs.Answered.{AreAnswers-more, answer_of_kept}

-- no byte ends a line
abbrev pub AreWithin : List ℕ → Type 0
AreWithin bytes = AllByRecursion (λ b. eqb b 10 ≡ false) bytes

abbrev ended_line : List ℕ → RawLine
ended_line bytes = record { bytes = bytes; ended = true }

abbrev open_line : List ℕ → RawLine
open_line bytes = record { bytes = bytes; ended = false }

within_more : (bytes : List ℕ) (b : ℕ) → AreWithin bytes → eqb b 10 ≡ false → AreWithin (bytes ++ b ∷ [])
within_more [] b h other = (other, tt)
within_more (c ∷ bytes) b h other = (h.0, within_more bytes b h.1 other)

-- bytes before a line end are a line
lines_ended : (bytes rest : List ℕ) → AreWithin bytes → lines_of (bytes ++ 10 ∷ rest) ≡ ended_line bytes ∷ lines_of rest
lines_ended [] rest h = refl
lines_ended (b ∷ bytes) rest h = ap (λ (t : Bool). cond t (ended_line [] ∷ lines_of (bytes ++ 10 ∷ rest)) (onto_line b (lines_of (bytes ++ 10 ∷ rest)))) h.0 ∙ ap (onto_line b) (lines_ended bytes rest h.1)

-- some bytes without a line end are a line
lines_open : (b : ℕ) (bytes : List ℕ) → AreWithin (b ∷ bytes) → lines_of (b ∷ bytes) ≡ open_line (b ∷ bytes) ∷ []
lines_open b [] h = ap (λ (t : Bool). cond t (ended_line [] ∷ []) (onto_line b [])) h.0
lines_open b (c ∷ bytes) h = ap (λ (t : Bool). cond t (ended_line [] ∷ lines_of (c ∷ bytes)) (onto_line b (lines_of (c ∷ bytes)))) h.0 ∙ ap (onto_line b) (lines_open c bytes h.1)

-- what is kept of a line after one more byte
kept_more : (bytes : List ℕ) (b : ℕ) → cond (ltb 256 (length (take 257 bytes))) (take 257 bytes) (take 257 bytes ++ b ∷ []) ≡ take 257 (bytes ++ b ∷ [])
kept_more bytes b = by_length (ltb 256 (length bytes)) refl where
  by_length : (long : Bool) → ltb 256 (length bytes) ≡ long → cond (ltb 256 (length (take 257 bytes))) (take 257 bytes) (take 257 bytes ++ b ∷ []) ≡ take 257 (bytes ++ b ∷ [])
  by_length false is =
      let few : length bytes ≤ 256 = ltb-false 256 (length bytes) is in
      let all : take 257 bytes ≡ bytes = take_all 257 bytes (omega (arith, few)) in
      let short : ltb 256 (length (take 257 bytes)) ≡ false = ap (λ (x : List ℕ). ltb 256 (length x)) all ∙ is in
      ap (λ (t : Bool). cond t (take 257 bytes) (take 257 bytes ++ b ∷ [])) short ∙ ap (λ (x : List ℕ). x ++ b ∷ []) all ∙ sym (take_all 257 (bytes ++ b ∷ []) (omega (arith, few, length-append bytes (b ∷ []))))
  by_length true is =
      let many : 256 < length bytes = ltb-true 256 (length bytes) is in
      let enough : 257 ≤ length bytes = omega (arith, many) in
      let long : ltb 256 (length (take 257 bytes)) ≡ true = lt-ltb 256 (length (take 257 bytes)) (omega (arith, length-take-le 257 bytes enough)) in
      ap (λ (t : Bool). cond t (take 257 bytes) (take 257 bytes ++ b ∷ [])) long ∙ sym (take-append-le 257 bytes (b ∷ []) enough)

-- before a session's first byte
pub IsAfter-none : IsAfter [] [] [] new_session
IsAfter-none = record { lines = []; partial = []; cut = λ rest. refl; unended = tt; first = refl; answered = (refl, refl) }

-- after a byte that ends no line
pub IsAfter-byte : (typed kept text : List ℕ) (s : SessionState) (b : ℕ) (new : List ℕ) → IsAfter typed kept text s → eqb b 10 ≡ false → new ≡ cond (ltb 256 (length kept)) kept (kept ++ b ∷ []) → IsAfter (typed ++ b ∷ []) new text s
IsAfter-byte typed kept text s b new h other is = record {
  lines = h.lines;
  partial = h.partial ++ b ∷ [];
  cut = λ rest. ap lines_of (append_assoc typed (b ∷ []) rest) ∙ h.cut (b ∷ rest) ∙ ap (λ (x : List ℕ). h.lines ++ lines_of x) (sym (append_assoc h.partial (b ∷ []) rest));
  unended = within_more h.partial b h.unended other;
  first = is ∙ ap (λ (x : List ℕ). cond (ltb 256 (length x)) x (x ++ b ∷ [])) h.first ∙ kept_more h.partial b;
  answered = h.answered;
}

-- after a line end, once its line was answered
pub IsAfter-line : (typed kept text : List ℕ) (s : SessionState) (said : List ℕ) (u : SessionState) → IsAfter typed kept text s → IsAnswer s (record { bytes = kept; ended = true }) said u → IsAfter (typed ++ 10 ∷ []) [] (text ++ said) u
IsAfter-line typed kept text s said u h a = record {
  lines = h.lines ++ ended_line h.partial ∷ [];
  partial = [];
  cut = λ rest. ap lines_of (append_assoc typed (10 ∷ []) rest) ∙ h.cut (10 ∷ rest) ∙ ap (λ (x : List RawLine). h.lines ++ x) (lines_ended h.partial rest h.unended) ∙ sym (append_assoc h.lines (ended_line h.partial ∷ []) (lines_of rest));
  unended = tt;
  first = refl;
  answered = AreAnswers-more new_session h.lines text s (ended_line h.partial) said u h.answered (answer_of_kept s h.partial true said u (subst (λ (x : List ℕ). IsAnswer s (ended_line x) said u) h.first a));
}

-- what was answered answers the first lines, whatever was typed behind
pub AnswersFirst-after : (typed kept text : List ℕ) (s : SessionState) (rest : List ℕ) → IsAfter typed kept text s → AnswersFirst (typed ++ rest) text
AnswersFirst-after typed kept text s rest h = (h.lines, lines_of (h.partial ++ rest), s, h.cut rest, h.answered)

nothing_kept : (bytes : List ℕ) → [] ≡ take 257 bytes → bytes ≡ []
nothing_kept [] e = refl
nothing_kept (b ∷ bytes) e = absurd cc

whole_typed : (typed : List ℕ) (lines others : List RawLine) → lines_of (typed ++ []) ≡ lines ++ others → lines_of typed ≡ lines ++ others
whole_typed typed lines others e = ap lines_of (sym (append-nil typed)) ∙ e

-- all lines were answered where the last one was ended
pub answered_whole : (typed text : List ℕ) (s : SessionState) → IsAfter typed [] text s → AreAnswers new_session (lines_of typed) text s
answered_whole typed text s h =
    let none : h.partial ≡ [] = nothing_kept h.partial h.first in
    let lines : lines_of typed ≡ h.lines = whole_typed typed h.lines (lines_of (h.partial ++ [])) (h.cut []) ∙ ap (λ (x : List ℕ). h.lines ++ lines_of (x ++ [])) none ∙ append-nil h.lines in
    subst (λ (x : List RawLine). AreAnswers new_session x text s) (sym lines) h.answered

open_typed : (bytes : List ℕ) → AreWithin bytes → 0 < length bytes → lines_of (bytes ++ []) ≡ open_line bytes ∷ []
open_typed [] h some = absurd (omega (arith, some))
open_typed (b ∷ bytes) h some = ap lines_of (append-nil (b ∷ bytes)) ∙ lines_open b bytes h

some_kept : (bytes kept : List ℕ) → kept ≡ take 257 bytes → 0 < length kept → 0 < length bytes
some_kept [] kept e some = subst (λ (x : List ℕ). 0 < length x) e some
some_kept (b ∷ bytes) kept e some = omega arith

-- all lines were answered once the last one, which isn't ended, was
pub answered_open : (typed kept text : List ℕ) (s : SessionState) (said : List ℕ) (u : SessionState) → IsAfter typed kept text s → 0 < length kept → IsAnswer s (record { bytes = kept; ended = false }) said u → AreAnswers new_session (lines_of typed) (text ++ said) u
answered_open typed kept text s said u h some a =
    let lines : lines_of typed ≡ h.lines ++ open_line h.partial ∷ [] = whole_typed typed h.lines (lines_of (h.partial ++ [])) (h.cut []) ∙ ap (λ (x : List RawLine). h.lines ++ x) (open_typed h.partial h.unended (some_kept h.partial kept h.first some)) in
    let answered = AreAnswers-more new_session h.lines text s (open_line h.partial) said u h.answered (answer_of_kept s h.partial false said u (subst (λ (x : List ℕ). IsAnswer s (open_line x) said u) h.first a)) in
    subst (λ (x : List RawLine). AreAnswers new_session x (text ++ said) u) (sym lines) answered
