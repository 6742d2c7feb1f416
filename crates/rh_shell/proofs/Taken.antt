-- What was taken of what was typed, and what was written for it.
use Rattle.std.proofs.Common.{◌≡◌, ℕ, ◌+◌, ◌<◌, Bool, true, false, cond, ltb, eqb, List, [], ◌∷◌, ◌++◌, length, get_or, take, drop, Option, Result, Ok, Err, IfOk, IfErr, OnOk, inl, inr, refl, sym, ap, subst, ◌∙◌, append_assoc, arith}
use Rattle.std.specs.Io.KnownBytes.{Appends, Consumes, IsAtEnd}
use Rattle.std.proofs.lemmas.List.{append-nil, take-append-drop, take_more}
use Rattle.std.proofs.lemmas.Bool.{eqb-true}
use Rattle.rh_text.specs.lemmas.Appends.{Appends-then, Appends-none, Appends-at}
use Rattle.rh_text.specs.RawLine.{lines_of}
use Rattle.rh_trace.specs.Answers.{total_line}
use Rattle.rh_trace.specs.declared.summary.Summary.{Summary}
use Rattle.rh_trace.specs.declared.stop.Stop.{Stop}
use Rattle.rh_trace.specs.declared.stop.Stop.TheVariants as stops
use Rattle.rh_shell.specs.declared.fault.ShellFault.{ShellFault}
use Rattle.rh_shell.specs.declared.fault.ShellFault.TheVariants as faults
use Rattle.rh_shell.specs.Session.{SessionState, new_session, IsAnswer, AreAnswers, WritesSome}
use Rattle.rh_shell.specs.Typing.{IsAfter, AnswersFirst, AnswersSome, Ends, EndsAfter, Reads, Stopped, StopsWithin, Taken, Takes, fault_of_stop}
use Rattle.rh_shell.proofs.Shown.{prefix_of_none, prefix_after}
use Rattle.rh_shell.proofs.Typed.{IsAfter-byte, IsAfter-line, AnswersFirst-after, answered_whole, answered_open}

-- a line is answered, or some of its answer is written
abbrev pub Told : SessionState → List ℕ → Bool → Result (Unit {0}) Stop → SessionState → Option (List ℕ) → Option (List ℕ) → Type 0
Told s line ended r t old new =
    (said : List ℕ) × (u : SessionState) × IsAnswer s (record { bytes = line; ended = ended }) said u × OnOk r (t ≡ u) × WritesSome said r old new

-- a byte more, and what is left
pub one_taken : (typed bytes : List ℕ) (i d : ℕ) → i < length bytes → (typed ++ take i bytes) ++ get_or bytes i d ∷ [] ≡ typed ++ take (i + 1) bytes
one_taken typed bytes i d lt = append_assoc typed (take i bytes) (get_or bytes i d ∷ []) ∙ ap (λ (x : List ℕ). typed ++ x) (sym (take_more bytes i d lt))

module _ (typed before kept : List ℕ) (s : SessionState) (old : Option (List ℕ)) (h : IsAfter typed kept before s) where
  -- nothing more was typed
  pub taken_none : Taken (typed ++ []) before kept s old old
  taken_none = ([], subst (λ (x : List ℕ). IsAfter x kept (before ++ []) s) (sym (append-nil typed)) (subst (λ (x : List ℕ). IsAfter typed kept x s) (sym (append-nil before)) h), Appends-none old)

  -- what was answered stays so
  stays : (text more rest : List ℕ) → text ≡ [] → AnswersFirst ((typed ++ more) ++ rest) (before ++ text)
  stays text more rest e =
      let is : before ≡ before ++ text = sym (append-nil before) ∙ ap (λ (x : List ℕ). before ++ x) (sym e) in
      subst (AnswersFirst ((typed ++ more) ++ rest)) is (subst (λ (x : List ℕ). AnswersFirst x before) (sym (append_assoc typed more rest)) (AnswersFirst-after typed kept before s (more ++ rest) h))

  -- answering stopped before it began
  stopped_none : (more : List ℕ) → Stopped (typed ++ more) before old old
  stopped_none more = ([], λ rest. stays [] more rest refl, prefix_of_none old [])

  -- a byte that ends no line was kept, or there was no memory for it
  pub takes_byte : (b : ℕ) (r : Result (Unit {0}) Stop) (next : List ℕ) → eqb b 10 ≡ false → OnOk r (next ≡ cond (ltb 256 (length kept)) kept (kept ++ b ∷ [])) → Takes (typed ++ b ∷ []) before r next s old old
  takes_byte b (Ok x) next other is = ([], subst (λ (x : List ℕ). IsAfter (typed ++ b ∷ []) next x s) (sym (append-nil before)) (IsAfter-byte typed kept before s b next h other is), Appends-none old)
  takes_byte b (Err e) next other is = stopped_none (b ∷ [])

  -- a line was answered
  after_line : (x : Unit {0}) (t : SessionState) (new : Option (List ℕ)) → Told s kept true (Ok x) t old new → Taken (typed ++ 10 ∷ []) before [] t old new
  after_line x t new q = (q.0, subst (λ (u : SessionState). IsAfter (typed ++ 10 ∷ []) [] (before ++ q.0) u) (sym q.3) (IsAfter-line typed kept before s q.0 q.1 h q.2), q.4)

  pub takes_line : (b : ℕ) (next : List ℕ) (x : Unit {0}) (t : SessionState) (new : Option (List ℕ)) → b ≡ 10 → next ≡ [] → Told s kept true (Ok x) t old new → Taken (typed ++ b ∷ []) before next t old new
  takes_line b next x t new e f q = subst (λ (n : ℕ). Taken (typed ++ n ∷ []) before next t old new) (sym e) (subst (λ (l : List ℕ). Taken (typed ++ 10 ∷ []) before l t old new) (sym f) (after_line x t new q))

  -- of a line's answer some was written
  within_line : (e : Stop) (t : SessionState) (new : Option (List ℕ)) → Told s kept true (Err e) t old new → Stopped (typed ++ 10 ∷ []) before old new
  within_line e t new q = (q.0, λ rest. AnswersFirst-after (typed ++ 10 ∷ []) [] (before ++ q.0) q.1 rest (IsAfter-line typed kept before s q.0 q.1 h q.2), q.4)

  pub stops_line : (b : ℕ) (e : Stop) (t : SessionState) (new : Option (List ℕ)) → b ≡ 10 → Told s kept true (Err e) t old new → Stopped (typed ++ b ∷ []) before old new
  stops_line b e t new is q = subst (λ (n : ℕ). Stopped (typed ++ n ∷ []) before old new) (sym is) (within_line e t new q)

-- what is taken of more bytes, after what was written
module _ (typed before kept : List ℕ) (s : SessionState) (old now : Option (List ℕ)) (h : Taken typed before kept s old now) where
  pub taken_then : (all next : List ℕ) (t : SessionState) (new : Option (List ℕ)) → Taken all (before ++ h.0) next t now new → Taken all before next t old new
  taken_then all next t new q = (h.0 ++ q.0, subst (λ (x : List ℕ). IsAfter all next x t) (append_assoc before h.0 q.0) q.1, Appends-then old now new h.0 q.0 h.2 q.2)

  stopped_then : (all : List ℕ) (new : Option (List ℕ)) → Stopped all (before ++ h.0) now new → Stopped all before old new
  stopped_then all new q = (h.0 ++ q.0, λ rest. subst (AnswersFirst (all ++ rest)) (append_assoc before h.0 q.0) (q.1 rest), prefix_after old now new h.0 q.0 h.2 q.2)

  -- what is read of more bytes, up to a fault
  pub fails_then : (X Y : Type 0) (all : List ℕ) (f : ShellFault) (next : List ℕ) (t : SessionState) (new : Option (List ℕ)) → Reads {X = X} all (before ++ h.0) (Err f) next t now new → Reads {X = Y} all before (Err f) next t old new
  fails_then X Y all faults.Read next t new q = taken_then all next t new q
  fails_then X Y all faults.Write next t new q = stopped_then all new q
  fails_then X Y all faults.OutOfMemory next t new q = stopped_then all new q

-- answering stopped while more was read
pub reads_stopped : (X : Type 0) (typed before : List ℕ) (e : Stop) (f : ShellFault) (kept : List ℕ) (s : SessionState) (old new : Option (List ℕ)) → f ≡ fault_of_stop e → Stopped typed before old new → Reads {X = X} typed before (Err f) kept s old new
reads_stopped X typed before stops.Write f kept s old new is q = subst (λ (x : ShellFault). Reads {X = X} typed before (Err x) kept s old new) (sym is) q
reads_stopped X typed before stops.OutOfMemory f kept s old new is q = subst (λ (x : ShellFault). Reads {X = X} typed before (Err x) kept s old new) (sym is) q

same_fault : {X : Type 0} (f h : ShellFault) → ◌≡◌ {A = Result X ShellFault} (Err f) (Err h) → f ≡ h
same_fault f h e = cc

-- the same fault, of a call that answers something else
pub fault_moved : {X Y : Type 0} (f h : ShellFault) → ◌≡◌ {A = Result X ShellFault} (Err f) (Err h) → ◌≡◌ {A = Result Y ShellFault} (Err f) (Err h)
fault_moved f h e = ap Err (same_fault f h e)

-- a stop is no failed read
pub stop_no_read : {X : Type 0} (e : Stop) (f : ShellFault) → f ≡ fault_of_stop e → ◌≡◌ {A = Result X ShellFault} (Err f) (Err faults.Read) → ⊥
stop_no_read stops.Write f is same = cc
stop_no_read stops.OutOfMemory f is same = cc

-- a stop that is the fault Write is a failed write
pub stop_write : {X : Type 0} (e : Stop) (f : ShellFault) → f ≡ fault_of_stop e → ◌≡◌ {A = Result X ShellFault} (Err f) (Err faults.Write) → e ≡ stops.Write
stop_write stops.Write f is same = refl
stop_write stops.OutOfMemory f is same = absurd cc

-- a stop that is a failed write is the fault Write
pub write_stop : {X Y : Type 0} (e : Stop) (f : ShellFault) → f ≡ fault_of_stop e → ◌≡◌ {A = Result X Stop} (Err e) (Err stops.Write) → ◌≡◌ {A = Result Y ShellFault} (Err f) (Err faults.Write)
write_stop stops.Write f is same = ap Err is
write_stop stops.OutOfMemory f is same = absurd cc

-- what stopped stays so, whatever is typed after it
stops_before : (typed more all before : List ℕ) (old new : Option (List ℕ)) → all ≡ typed ++ more → Stopped typed before old new → Stopped all before old new
stops_before typed more all before old new is q = (q.0, λ rest. subst (λ (x : List ℕ). AnswersFirst x (before ++ q.0)) (sym (append_assoc typed more rest) ∙ ap (λ (x : List ℕ). x ++ rest) (sym is)) (q.1 (more ++ rest)), q.2)

-- one more of some bytes is taken
pub next_byte : (typed before kept : List ℕ) (s : SessionState) (old now : Option (List ℕ)) (bytes : List ℕ) (i d : ℕ) → i < length bytes → (h : Taken (typed ++ take i bytes) before kept s old now) → (next : List ℕ) (t : SessionState) (new : Option (List ℕ)) → Taken ((typed ++ take i bytes) ++ get_or bytes i d ∷ []) (before ++ h.0) next t now new → Taken (typed ++ take (i + 1) bytes) before next t old new
next_byte typed before kept s old now bytes i d lt h next t new q = subst (λ (x : List ℕ). Taken x before next t old new) (one_taken typed bytes i d lt) (taken_then (typed ++ take i bytes) before kept s old now h ((typed ++ take i bytes) ++ get_or bytes i d ∷ []) next t new q)

-- one of some bytes stops the session
pub stop_byte : (typed before kept : List ℕ) (s : SessionState) (old now : Option (List ℕ)) (bytes : List ℕ) (i d : ℕ) → i < length bytes → (h : Taken (typed ++ take i bytes) before kept s old now) → (new : Option (List ℕ)) → Stopped ((typed ++ take i bytes) ++ get_or bytes i d ∷ []) (before ++ h.0) now new → Stopped (typed ++ bytes) before old new
stop_byte typed before kept s old now bytes i d lt h new q =
    let until = (typed ++ take i bytes) ++ get_or bytes i d ∷ [] in
    let rest = drop (i + 1) bytes in
    let all : until ++ rest ≡ typed ++ bytes = ap (λ (x : List ℕ). x ++ rest) (one_taken typed bytes i d lt) ∙ append_assoc typed (take (i + 1) bytes) rest ∙ ap (λ (x : List ℕ). typed ++ x) (take-append-drop (i + 1) bytes) in
    stops_before until rest (typed ++ bytes) before old new (sym all) (stopped_then (typed ++ take i bytes) before kept s old now h until new q)

-- Only a write fails at the total line.
pub read_not : ◌≡◌ {A = ShellFault} faults.Read faults.Write → ⊥
read_not e = cc

memory_not : ◌≡◌ {A = ShellFault} faults.OutOfMemory faults.Write → ⊥
memory_not e = cc

-- the end where the total line is written, after all answers
totals : (typed before text : List ℕ) (t : SessionState) (r : Result Summary ShellFault) (old now new : Option (List ℕ)) → AreAnswers new_session (lines_of typed) (before ++ text) t → Appends old now text → IfOk r (λ sum. sum ≡ t.summary) → IfErr r (λ fault. fault ≡ faults.Write) → WritesSome (total_line t.summary) r now new → EndsAfter typed before r old new
totals typed before text t (Ok sum) old now new h a is only w = (text, t, h, is, Appends-then old now new text (total_line t.summary) a w)
totals typed before text t (Err faults.Read) old now new h a is only w = absurd (read_not only)
totals typed before text t (Err faults.Write) old now new h a is only w = inr (text, t, now, h, a, w)
totals typed before text t (Err faults.OutOfMemory) old now new h a is only w = absurd (memory_not only)

emptied : (kept : List ℕ) → eqb (length kept) 0 ≡ true → kept ≡ []
emptied [] e = refl
emptied (b ∷ bs) e = absurd (omega (arith, eqb-true (length (b ∷ bs)) 0 e))

filled : (kept : List ℕ) → eqb (length kept) 0 ≡ false → 0 < length kept
filled [] e = absurd cc
filled (b ∷ bs) e = omega arith

-- the end where nothing of a line is left
pub ends_empty : (typed before kept : List ℕ) (s : SessionState) (r : Result Summary ShellFault) (old new : Option (List ℕ)) → IsAfter typed kept before s → eqb (length kept) 0 ≡ true → IfOk r (λ sum. sum ≡ s.summary) → IfErr r (λ fault. fault ≡ faults.Write) → WritesSome (total_line s.summary) r old new → EndsAfter typed before r old new
ends_empty typed before kept s r old new h e =
    let whole = answered_whole typed before s (subst (λ (x : List ℕ). IsAfter typed x before s) (emptied kept e) h) in
    totals typed before [] s r old old new (subst (λ (x : List ℕ). AreAnswers new_session (lines_of typed) x s) (sym (append-nil before)) whole) (Appends-none old)

-- the end once a line that was left was answered
pub ends_open : (typed before kept : List ℕ) (s t : SessionState) (x : Unit {0}) (r : Result Summary ShellFault) (old now new : Option (List ℕ)) → IsAfter typed kept before s → eqb (length kept) 0 ≡ false → Told s kept false (Ok x) t old now → IfOk r (λ sum. sum ≡ t.summary) → IfErr r (λ fault. fault ≡ faults.Write) → WritesSome (total_line t.summary) r now new → EndsAfter typed before r old new
ends_open typed before kept s t x r old now new h some q =
    let answered = answered_open typed kept before s q.0 q.1 h (filled kept some) q.2 in
    totals typed before q.0 t r old now new (subst (λ (u : SessionState). AreAnswers new_session (lines_of typed) (before ++ q.0) u) (sym q.3) answered) q.4

-- the end where answering stopped
stopped_by : (typed before : List ℕ) (e : Stop) (f : ShellFault) (old new : Option (List ℕ)) → f ≡ fault_of_stop e → AnswersSome typed before old new → EndsAfter typed before (Err f) old new
stopped_by typed before stops.Write f old new is q = subst (λ (x : ShellFault). EndsAfter typed before (Err x) old new) (sym is) (inl q)
stopped_by typed before stops.OutOfMemory f old new is q = subst (λ (x : ShellFault). EndsAfter typed before (Err x) old new) (sym is) q

-- the end where a line is left that couldn't be answered whole
pub ends_stopped : (typed before kept : List ℕ) (s t : SessionState) (e : Stop) (f : ShellFault) (old new : Option (List ℕ)) → f ≡ fault_of_stop e → IsAfter typed kept before s → eqb (length kept) 0 ≡ false → Told s kept false (Err e) t old new → EndsAfter typed before (Err f) old new
ends_stopped typed before kept s t e f old new is h some q = stopped_by typed before e f old new is (q.0, q.1, answered_open typed kept before s q.0 q.1 h (filled kept some) q.2, q.4)

-- A session's ends.

module _ (input left : Option (List ℕ)) (old : Option (List ℕ)) where
  stops_within : (typed : List ℕ) (new : Option (List ℕ)) → Consumes input left typed → Stopped typed [] old new → StopsWithin input left old new
  stops_within typed new c q = (typed, q.0, c, inl q.1, q.2)

  -- a line wasn't read or answered
  pub ends_early : (f : ShellFault) (typed kept : List ℕ) (s : SessionState) (new : Option (List ℕ)) → Consumes input left typed → Reads {X = Unit {0}} typed [] (Err f) kept s old new → Ends (Err f) input left old new
  ends_early faults.Read typed kept s new c q = (typed, kept, q.0, s, c, q.1, q.2)
  ends_early faults.Write typed kept s new c q = inl (stops_within typed new c q)
  ends_early faults.OutOfMemory typed kept s new c q = stops_within typed new c q

  module _ (typed kept : List ℕ) (s : SessionState) (now new : Option (List ℕ)) (c : Consumes input left typed) (end : IsAtEnd left) (h : Taken typed [] kept s old now) where
    some_answers : AnswersSome typed h.0 now new → StopsWithin input left old new
    some_answers q = (typed, h.0 ++ q.0, c, inr (end, (lines_of typed, [], q.1, sym (append-nil (lines_of typed)), q.2)), prefix_after old now new h.0 q.0 h.2 q.3)

    -- at the end of the input
    pub ends_late : (r : Result Summary ShellFault) → EndsAfter typed h.0 r now new → Ends r input left old new
    ends_late (Ok sum) q =
        let total = total_line q.1.summary in
        let answers = h.0 ++ q.0 in
        (typed, answers ++ total, c, end, (answers, q.1, q.2, refl, q.3), Appends-at old new (h.0 ++ (q.0 ++ total)) (answers ++ total) (sym (append_assoc h.0 q.0 total)) (Appends-then old now new h.0 (q.0 ++ total) h.2 q.4))
    ends_late (Err faults.Read) q = absurd q
    ends_late (Err faults.Write) (inl q) = inl (some_answers q)
    ends_late (Err faults.Write) (inr q) = inr (typed, h.0 ++ q.0, q.1, q.2, c, end, q.3, Appends-then old now q.2 h.0 q.0 h.2 q.4, q.5)
    ends_late (Err faults.OutOfMemory) q = some_answers q
