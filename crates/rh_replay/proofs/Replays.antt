-- Replaying calls one after the other, and what the verdict says of them.
use Rattle.std.proofs.Common.{◌≡◌, ℕ, ◌+◌, ◌<◌, ◌≤◌, List, [], ◌∷◌, ◌++◌, length, take, get_or, Some, Option, Result, refl, sym, ap, subst, ◌∙◌, arith, inl, inr, below_more}
use Rattle.std.specs.Prelude.{slice_get}
use Rattle.std.proofs.Math.ListN.{get_or-append}
use Rattle.std.proofs.Math.Seq.{take-append_seam}
use Rattle.std.proofs.lemmas.Bool.{cases_order}
use Rattle.std.proofs.lemmas.List.{take_more, take-append-le, get_or_push, length_push}
use Rattle.std.proofs.lemmas.Option.{slice_get-get_or, slice_get_within}
use Rattle.rh_layout.specs.declared.command.Reply.{Reply}
use Rattle.rh_layout.specs.declared.refusal.Refusal.{Refusal}
use Rattle.rh_model.specs.Plain.{PlainHeap, empty_plain, step}
use Rattle.rh_replay.specs.declared.call.Call.{Call}
use Rattle.rh_replay.specs.declared.checking.Verdict.{Verdict}
use Rattle.rh_replay.specs.declared.checking.Verdict.TheVariants.{Legal, Wrong}
use Rattle.rh_replay.specs.History.{HistoryState, empty_history, with_call}
use Rattle.rh_replay.specs.Legal.{heap_after, replay, answer_after, IsRightAt, IsLegal, IsFirstWrong, IsVerdict}

same_call : (a b : Call) → ◌≡◌ {A = Option Call} (Some a) (Some b) → a ≡ b
same_call a b e = cc

-- the call that stands there has its answer, and it is the only one
pub right_where : (h : HistoryState) (i : ℕ) (call : Call) → slice_get h.calls i ≡ Some call → call.answer ≡ answer_after h i call → IsRightAt h i
right_where h i call stands right other at = subst (λ (c : Call). c.answer ≡ answer_after h i c) (same_call call other (sym stands ∙ at)) right

-- calls after others are played from the heap after these
pub heap_after-append : (p : PlainHeap) (xs ys : List Call) → heap_after p (xs ++ ys) ≡ heap_after (heap_after p xs) ys
heap_after-append p [] ys = refl
heap_after-append p (x ∷ xs) ys = heap_after-append (step p x.owner x.command).0 xs ys

-- ---- one call more is played

module _ (h : HistoryState) (calls : List Call) (i : ℕ) (d : Call) (p q : PlainHeap) (expected : Result Reply Refusal)
    (are : calls ≡ h.calls) (lt : i < length calls)
    (played : p ≡ heap_after (empty_plain h.owners h.slots) (take i calls))
    (next : q ≡ (step p (get_or calls i d).owner (get_or calls i d).command).0)
    (answered : expected ≡ (step p (get_or calls i d).owner (get_or calls i d).command).1) where
  pub played_more : q ≡ heap_after (empty_plain h.owners h.slots) (take (i + 1) calls)
  played_more =
      let start = empty_plain h.owners h.slots in
      let call = get_or calls i d in
      next ∙ ap (λ (r : PlainHeap). (step r call.owner call.command).0) played
      ∙ sym (heap_after-append start (take i calls) (call ∷ [])) ∙ sym (ap (heap_after start) (take_more calls i d lt))

  stands : slice_get h.calls i ≡ Some (get_or calls i d)
  stands = ap (λ (cs : List Call). slice_get cs i) (sym are) ∙ slice_get-get_or calls i d lt

  expected_is : expected ≡ answer_after h i (get_or calls i d)
  expected_is =
      let call = get_or calls i d in
      answered ∙ ap (λ (r : PlainHeap). (step r call.owner call.command).1) (played ∙ ap (λ (cs : List Call). heap_after (empty_plain h.owners h.slots) (take i cs)) are)

  right_here : (get_or calls i d).answer ≡ expected → IsRightAt h i
  right_here right = right_where h i (get_or calls i d) stands (right ∙ expected_is)

  pub right_more : (get_or calls i d).answer ≡ expected → ((position : ℕ) → position < i → IsRightAt h position) → (position : ℕ) → position < i + 1 → IsRightAt h position
  right_more right before = below_more (λ position. IsRightAt h position) i before (right_here right)

  pub first_wrong : ((get_or calls i d).answer ≡ expected → ⊥) → ((position : ℕ) → position < i → IsRightAt h position) → (at : ℕ) → at ≡ i + 1 → IsFirstWrong h at expected
  first_wrong wrong before at counted = record {
    position = i;
    call = get_or calls i d;
    counted = counted;
    stands = stands;
    answered = expected_is;
    wrong = wrong;
    first = before;
  }

-- all calls were right
pub all_right : (h : HistoryState) (calls : List Call) (i : ℕ) → calls ≡ h.calls → length calls ≤ i → ((position : ℕ) → position < i → IsRightAt h position) → IsLegal h
all_right h calls i are over before position call at =
    let within = slice_get_within h.calls position call at in
    let same : length calls ≡ length h.calls = ap length are in
    before position (omega (arith, within, same, over)) call at

-- ---- there is one verdict

legal_or_wrong : (h : HistoryState) (at : ℕ) (expected : Result Reply Refusal) → IsLegal h → IsFirstWrong h at expected → ⊥
legal_or_wrong h at expected legal w = w.wrong (legal w.position w.call w.stands ∙ sym w.answered)

not_earlier : (h : HistoryState) (m n : ℕ) (x y : Result Reply Refusal) → (v : IsFirstWrong h m x) → (w : IsFirstWrong h n y) → v.position < w.position → ⊥
not_earlier h m n x y v w lt = v.wrong (w.first v.position lt v.call v.stands ∙ sym v.answered)

same_position : (h : HistoryState) (m n : ℕ) (x y : Result Reply Refusal) → (v : IsFirstWrong h m x) → (w : IsFirstWrong h n y) → v.position ≡ w.position
same_position h m n x y v w = elim (cases_order v.position w.position) [
  | inl same ↦ same
  | inr other ↦ elim other [ inl lt ↦ absurd (not_earlier h m n x y v w lt) | inr lt ↦ absurd (not_earlier h n m y x w v lt) ]
]

pub one_verdict : (h : HistoryState) (v w : Verdict) → IsVerdict h v → IsVerdict h w → v ≡ w
one_verdict h (Legal m) (Legal n) v w = ap (λ (k : ℕ). Legal k) (v.1 ∙ sym w.1)
one_verdict h (Legal m) (Wrong n y) v w = absurd (legal_or_wrong h n y v.0 w)
one_verdict h (Wrong m x) (Legal n) v w = absurd (legal_or_wrong h m x w.0 v)
one_verdict h (Wrong m x) (Wrong n y) v w =
    let position = same_position h m n x y v w in
    let call : v.call ≡ w.call = same_call v.call w.call (sym v.stands ∙ ap (λ (i : ℕ). slice_get h.calls i) position ∙ w.stands) in
    let at : m ≡ n = v.counted ∙ ap (λ (i : ℕ). i + 1) position ∙ sym w.counted in
    let answer : x ≡ y = v.answered ∙ ap (λ (i : ℕ). answer_after h i v.call) position ∙ ap (λ (c : Call). answer_after h w.position c) call ∙ sym w.answered in
    ap (λ (k : ℕ). Wrong k x) at ∙ ap (λ (e : Result Reply Refusal). Wrong n e) answer

-- ---- a history grows

pub replay-with_call : (h : HistoryState) (call : Call) → replay (with_call h call) ≡ (step (replay h) call.owner call.command).0
replay-with_call h call = heap_after-append (empty_plain h.owners h.slots) h.calls (call ∷ [])

answer_after-earlier : (h : HistoryState) (call : Call) (i : ℕ) (c : Call) → i ≤ length h.calls → answer_after (with_call h call) i c ≡ answer_after h i c
answer_after-earlier h call i c le = ap (λ (cs : List Call). (step (heap_after (empty_plain h.owners h.slots) cs) c.owner c.command).1) (take-append-le i h.calls (call ∷ []) le)

answer_after-all : (h : HistoryState) (call : Call) → answer_after (with_call h call) (length h.calls) call ≡ (step (replay h) call.owner call.command).1
answer_after-all h call = ap (λ (cs : List Call). (step (heap_after (empty_plain h.owners h.slots) cs) call.owner call.command).1) (take-append_seam h.calls (call ∷ []))

earlier_call : (calls : List Call) (call : Call) (i : ℕ) → i < length calls → slice_get (calls ++ call ∷ []) i ≡ slice_get calls i
earlier_call calls call i lt =
    let more : i < length (calls ++ call ∷ []) = omega (arith, lt, length_push calls call) in
    slice_get-get_or (calls ++ call ∷ []) i call more ∙ ap (λ (c : Call). Some c) (get_or-append calls (call ∷ []) call i lt) ∙ sym (slice_get-get_or calls i call lt)

last_call : (calls : List Call) (call : Call) → slice_get (calls ++ call ∷ []) (length calls) ≡ Some call
last_call calls call =
    slice_get-get_or (calls ++ call ∷ []) (length calls) call (omega (arith, length_push calls call)) ∙ ap (λ (c : Call). Some c) (get_or_push calls call call (length calls) refl)

pub legal-with_call : (h : HistoryState) (call : Call) → IsLegal h → call.answer ≡ (step (replay h) call.owner call.command).1 → IsLegal (with_call h call)
legal-with_call h call legal right i c at = elim (cases_order i (length h.calls)) [
  | inl last ↦
      let stands : slice_get (h.calls ++ call ∷ []) (length h.calls) ≡ Some c = ap (λ (n : ℕ). slice_get (h.calls ++ call ∷ []) n) (sym last) ∙ at in
      let same : call ≡ c = same_call call c (sym (last_call h.calls call) ∙ stands) in
      let here : call.answer ≡ answer_after (with_call h call) i call = right ∙ sym (answer_after-all h call) ∙ ap (λ (n : ℕ). answer_after (with_call h call) n call) (sym last) in
      subst (λ (x : Call). x.answer ≡ answer_after (with_call h call) i x) same here
  | inr other ↦ elim other [
    | inl lt ↦ legal i c (sym (earlier_call h.calls call i lt) ∙ at) ∙ sym (answer_after-earlier h call i c (omega arith))
    | inr gt ↦
        let within = slice_get_within (h.calls ++ call ∷ []) i c at in
        absurd (omega (arith, within, gt, length_push h.calls call))
  ]
]

pub legal-before : (h : HistoryState) (call : Call) → IsLegal (with_call h call) → IsLegal h × (call.answer ≡ (step (replay h) call.owner call.command).1)
legal-before h call legal = (
  λ i c at.
      let lt = slice_get_within h.calls i c at in
      legal i c (earlier_call h.calls call i lt ∙ at) ∙ answer_after-earlier h call i c (omega arith),
  legal (length h.calls) call (last_call h.calls call) ∙ answer_after-all h call,
)

pub legal-empty : (owners slots : ℕ) → IsLegal (empty_history owners slots)
legal-empty owners slots i c at = let within = slice_get_within [] i c at in absurd (omega (arith, within))
