-- When a history is legal: each answer is that of a heap that never moves.
use Rattle.std.specs.Prelude.{◌≡◌, ◌≢◌, ℕ, ◌+◌, ◌<◌, List, [], ◌∷◌, length, take, slice_get, Some, Result}
use Rattle.rh_layout.specs.declared.command.Reply.{Reply}
use Rattle.rh_layout.specs.declared.refusal.Refusal.{Refusal}
use Rattle.rh_model.specs.Plain.{PlainHeap, empty_plain, step}
use Rattle.rh_replay.specs.declared.call.Call.{Call}
use Rattle.rh_replay.specs.declared.checking.Verdict.{Verdict}
use Rattle.rh_replay.specs.declared.checking.Verdict.TheVariants.{Legal, Wrong}
use Rattle.rh_replay.specs.History.{HistoryState}

-- the plain heap after these calls, whatever their answers
abbrev pub heap_after : PlainHeap → List Call → PlainHeap
heap_after p [] = p
heap_after p (call ∷ calls) = heap_after (step p call.owner call.command).0 calls

-- the plain heap after all calls of a history, from all roots nil and no objects
abbrev pub replay : HistoryState → PlainHeap
replay h = heap_after (empty_plain h.owners h.slots) h.calls

-- the answer of the step to a call that comes after the first calls of a history, so many of them
abbrev pub answer_after : HistoryState → ℕ → Call → Result Reply Refusal
answer_after h count call =
    (step (heap_after (empty_plain h.owners h.slots) (take count h.calls))
    call.owner call.command).1

-- the call at this position, counted from 0, has the answer of the step at its position
abbrev pub IsRightAt : HistoryState → ℕ → Type 0
IsRightAt h position =
    (call : Call) → slice_get h.calls position ≡ Some call
    → call.answer ≡ answer_after h position call

-- each call has the answer of the step at its position
abbrev pub IsLegal : HistoryState → Type 0
IsLegal h = (position : ℕ) → IsRightAt h position

-- the first call that hasn't: which it is, counted from 1, and the step's answer there
pub record IsFirstWrong (h : HistoryState) (at : ℕ) (expected : Result Reply Refusal) : Type 0 where
  pub position : ℕ
  pub call : Call
  pub counted : at ≡ position + 1
  pub stands : slice_get h.calls position ≡ Some call
  pub answered : expected ≡ answer_after h position call
  pub wrong : call.answer ≢ expected
  pub first : (earlier : ℕ) → earlier < position → IsRightAt h earlier

-- The verdict on a history: that it is legal, with so many calls, or its first wrong call and the
-- answer that is expected there.
abbrev pub IsVerdict : HistoryState → Verdict → Type 0
IsVerdict h (Legal count) = IsLegal h × (count ≡ length h.calls)
IsVerdict h (Wrong at expected) = IsFirstWrong h at expected
