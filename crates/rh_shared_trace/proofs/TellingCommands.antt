-- Legal histories with the same commands.
use Rattle.std.proofs.Common.{◌≡◌, ℕ, suc, List, [], ◌∷◌, map, take, Some, refl, sym, ap, subst, ◌∙◌}
use Rattle.std.specs.Prelude.{slice_get}
use Rattle.rh_layout.specs.declared.command.Command.{Command}
use Rattle.rh_model.specs.Plain.{PlainHeap, empty_plain, step}
use Rattle.rh_replay.specs.declared.call.Call.{Call}
use Rattle.rh_replay.specs.History.{HistoryState}
use Rattle.rh_replay.specs.Legal.{heap_after, IsLegal}

-- who made a call, and its command
abbrev pub asked_by : Call → ℕ × Command
asked_by call = (call.owner, call.command)

-- from this plain heap on each call has the answer of the step
abbrev AreRight : PlainHeap → List Call → Type 0
AreRight p calls = (n : ℕ) (call : Call) → slice_get calls n ≡ Some call → call.answer ≡ (step (heap_after p (take n calls)) call.owner call.command).1

one_call : (x y : Call) → x.owner ≡ y.owner → x.command ≡ y.command → x.answer ≡ y.answer → x ≡ y
one_call x y owner command answer =
    ap (λ o. record { owner = o; command = x.command; answer = x.answer }) owner
    ∙ ap (λ c. record { owner = y.owner; command = c; answer = x.answer }) command
    ∙ ap (λ a. record { owner = y.owner; command = y.command; answer = a }) answer

same_calls : (p : PlainHeap) (xs ys : List Call) → AreRight p xs → AreRight p ys → map asked_by xs ≡ map asked_by ys → xs ≡ ys
same_calls p [] [] rx ry same = refl
same_calls p [] (y ∷ ys) rx ry same = absurd (cc (same))
same_calls p (x ∷ xs) [] rx ry same = absurd (cc (same))
same_calls p (x ∷ xs) (y ∷ ys) rx ry same =
    let asked : asked_by x ≡ asked_by y = cc (same) in
    let owner : x.owner ≡ y.owner = ap (λ (a : ℕ × Command). a.0) asked in
    let command : x.command ≡ y.command = ap (λ (a : ℕ × Command). a.1) asked in
    let more : map asked_by xs ≡ map asked_by ys = cc (same) in
    let answer : x.answer ≡ y.answer = rx 0 x refl ∙ ap (λ o. (step p o x.command).1) owner ∙ ap (λ c. (step p y.owner c).1) command ∙ sym (ry 0 y refl) in
    let after : (step p y.owner y.command).0 ≡ (step p x.owner x.command).0 = sym (ap (λ o. (step p o x.command).0) owner ∙ ap (λ c. (step p y.owner c).0) command) in
    let first : x ≡ y = one_call x y owner command answer in
    let rest : xs ≡ ys = same_calls (step p x.owner x.command).0 xs ys (λ n call at. rx (suc n) call at) (subst (λ q. AreRight q ys) after (λ n call at. ry (suc n) call at)) more in
    ap (λ c. c ∷ xs) first ∙ ap (λ cs. y ∷ cs) rest

pub told_by_commands : (h k : HistoryState) → IsLegal h → IsLegal k → h.owners ≡ k.owners → h.slots ≡ k.slots → map asked_by h.calls ≡ map asked_by k.calls → h ≡ k
told_by_commands h k legal_h legal_k owners slots same =
    let start : empty_plain k.owners k.slots ≡ empty_plain h.owners h.slots = sym (ap (λ o. empty_plain o h.slots) owners ∙ ap (λ s. empty_plain k.owners s) slots) in
    let calls : h.calls ≡ k.calls = same_calls (empty_plain h.owners h.slots) h.calls k.calls legal_h (subst (λ q. AreRight q k.calls) start legal_k) same in
    ap (λ o. record { owners = o; slots = h.slots; calls = h.calls }) owners
    ∙ ap (λ s. record { owners = k.owners; slots = s; calls = h.calls }) slots
    ∙ ap (λ c. record { owners = k.owners; slots = k.slots; calls = c }) calls
