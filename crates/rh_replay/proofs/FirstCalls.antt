-- How many first calls of a wrong history are legal, and how many calls an owner has.
use Rattle.std.proofs.Common.{◌≡◌, ◌≢◌, ◌↔◌, ℕ, zero, suc, ◌+◌, ◌<◌, ◌≤◌, List, [], ◌∷◌, Bool, cond, false, true, refl, inl, inr, take, Some, Result, sym, ap, ◌∙◌, arith}
use Rattle.std.specs.Prelude.{◌==◌, slice_get}
use Rattle.std.proofs.lemmas.Bool.{cases_lt}
use Rattle.std.proofs.lemmas.Bool.Decides.{eqb_tells}
use Rattle.std.proofs.lemmas.List.{take-take}
use Rattle.std.proofs.lemmas.List.Sums.{sum_by-append}
use Rattle.rh_layout.specs.declared.command.Reply.{Reply}
use Rattle.rh_layout.specs.declared.refusal.Refusal.{Refusal}
use Rattle.rh_model.specs.Plain.{empty_plain, step}
use Rattle.rh_replay.specs.declared.call.Call.{Call}
use Rattle.rh_replay.specs.History.{HistoryState, first_calls, with_call}
use Rattle.rh_replay.specs.Legal.{heap_after, replay, answer_after, IsLegal, IsFirstWrong}
use Rattle.rh_replay.specs.Report.{count_of}

-- what stands in the first elements stands in all of them
slice_get_of_take : (n : ℕ) (calls : List Call) (i : ℕ) (call : Call) → slice_get (take n calls) i ≡ Some call → (i < n) × (slice_get calls i ≡ Some call)
slice_get_of_take zero calls i call at = absurd cc
slice_get_of_take (suc n) [] i call at = absurd cc
slice_get_of_take (suc n) (x ∷ xs) zero call at = (omega arith, at)
slice_get_of_take (suc n) (x ∷ xs) (suc i) call at =
    let rest = slice_get_of_take n xs i call at in
    (omega (arith, rest.0), rest.1)

slice_get_in_take : (n : ℕ) (calls : List Call) (i : ℕ) → i < n → slice_get (take n calls) i ≡ slice_get calls i
slice_get_in_take zero calls i lt = absurd (omega (arith, lt))
slice_get_in_take (suc n) [] i lt = refl
slice_get_in_take (suc n) (x ∷ xs) zero lt = refl
slice_get_in_take (suc n) (x ∷ xs) (suc i) lt = slice_get_in_take n xs i (omega (arith, lt))

-- the heap before a call is the same where later calls are left out
answer_after-first_calls : (h : HistoryState) (n i : ℕ) (call : Call) → i ≤ n → answer_after (first_calls n h) i call ≡ answer_after h i call
answer_after-first_calls h n i call le = ap (λ (calls : List Call). (step (heap_after (empty_plain h.owners h.slots) calls) call.owner call.command).1) (take-take i n h.calls le)

module _ (h : HistoryState) (at : ℕ) (expected : Result Reply Refusal) (w : IsFirstWrong h at expected) where
  fewer_are_legal : (n : ℕ) → n < at → IsLegal (first_calls n h)
  fewer_are_legal n lt i call stands =
      let there = slice_get_of_take n h.calls i call stands in
      w.first i (omega (arith, lt, there.0, w.counted)) call there.1 ∙ sym (answer_after-first_calls h n i call (omega (arith, there.0)))

  more_are_wrong : (n : ℕ) → IsLegal (first_calls n h) → at ≤ n → ⊥
  more_are_wrong n legal le =
      let lt : w.position < n = omega (arith, le, w.counted) in
      let right = legal w.position w.call (slice_get_in_take n h.calls w.position lt ∙ w.stands) in
      w.wrong (right ∙ answer_after-first_calls h n w.position w.call (omega (arith, lt)) ∙ sym w.answered)

  pub legal_below : (n : ℕ) → IsLegal (first_calls n h) ↔ (n < at)
  legal_below n = (λ legal. elim (cases_lt n at) [ inl lt ↦ lt | inr le ↦ absurd (more_are_wrong n legal le) ], fewer_are_legal n)

pub first_wrong_answer : (h : HistoryState) (before : ℕ) (expected : Result Reply Refusal) → IsFirstWrong h (before + 1) expected
    → (call : Call) × (slice_get h.calls before ≡ Some call) × (expected ≡ (step (replay (first_calls before h)) call.owner call.command).1) × (call.answer ≢ expected)
first_wrong_answer h before expected w =
    let same : w.position ≡ before = omega (arith, w.counted) in
    (w.call, ap (slice_get h.calls) (sym same) ∙ w.stands, w.answered ∙ ap (λ (n : ℕ). answer_after h n w.call) same, w.wrong)

-- ---- an owner's calls

count_of-with_call : (h : HistoryState) (call : Call) (owner : ℕ) (own : Bool) → (call.owner == owner) ≡ own → count_of (with_call h call).calls owner ≡ count_of h.calls owner + cond own 1 0
count_of-with_call h call owner own is =
    let grown = sum_by-append (λ (c : Call). cond (c.owner == owner) 1 0) h.calls (call ∷ []) in
    let one = ap (λ (b : Bool). cond {A = ℕ} b 1 0) is in
    omega (arith, grown, one)

pub count_of-own : (h : HistoryState) (call : Call) → count_of (with_call h call).calls call.owner ≡ count_of h.calls call.owner + 1
count_of-own h call = elim (eqb_tells call.owner call.owner) [
  | inl same ↦ count_of-with_call h call call.owner true same.0
  | inr other ↦ absurd (other.1 refl)
]

pub count_of-other : (h : HistoryState) (call : Call) (owner : ℕ) → owner ≢ call.owner → count_of (with_call h call).calls owner ≡ count_of h.calls owner
count_of-other h call owner differs = elim (eqb_tells call.owner owner) [
  | inl same ↦ absurd (differs (sym same.1))
  | inr other ↦ let e = count_of-with_call h call owner false other.0 in omega (arith, e)
]
