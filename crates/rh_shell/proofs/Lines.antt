-- Answers to lines, by what is known of a line and of the heap.
use Rattle.std.proofs.Common.{◌≡◌, ℕ, true, false, List, [], ◌∷◌, ◌++◌, Option, Some, None, is_some, IfSome, Result, Ok, Err, OnOk, codes, refl, subst, inl}
use Rattle.rh_mutator.specs.declared.config.ConfigFault.{ConfigFault}
use Rattle.rh_core.specs.Heap.{new_heap}
use Rattle.rh_text.specs.RawLine.{RawLine}
use Rattle.rh_syntax.specs.declared.line.Header.{Header}
use Rattle.rh_syntax.specs.declared.request.Request.{Request}
use Rattle.rh_syntax.specs.declared.fault.Kind.TheVariants as kinds
use Rattle.rh_syntax.specs.declared.fault.TraceFault.{TraceFault}
use Rattle.rh_syntax.specs.Reading.{header_or_fault, request_or_fault}
use Rattle.rh_trace.specs.declared.stop.Stop.{Stop}
use Rattle.rh_trace.specs.declared.summary.Summary.{Summary}
use Rattle.rh_trace.specs.Answers.{answered_text}
use Rattle.rh_trace.specs.Run.{config_of, request_step}
use Rattle.rh_shell.specs.Session.{PlayingState, SessionState, new_playing, own_of, kind_name, size_fault_name, session_after, IsFaultLine, IsDrawAnswer, IsOtherAnswer, IsHeapAnswer, IsFirstAnswer, IsNextAnswer, IsAnswerAt, WritesSome}

pub on_ok : {X E P : Type 0} (r : Result X E) → P → OnOk r P
on_ok (Ok x) p = p
on_ok (Err e) p = tt

-- one session, by its parts
pub session_is : (p q : Option PlayingState) (a b : Summary) (n : ℕ) → p ≡ q → a ≡ b → ◌≡◌ {A = SessionState} (record { playing = p; summary = a; number = n }) (record { playing = q; summary = b; number = n })
session_is p q a b n e f = cc

-- some line tells this fault
fault_line : (name : List ℕ) → (text : List ℕ) × IsFaultLine name text
fault_line name = (codes "fault: " ++ (name ++ 10 ∷ []), inl refl)

-- a heap's line has some answer
pub some_heap_answer : (s : SessionState) (header : Header) (o : Option ConfigFault) → (text : List ℕ) × (t : SessionState) × IsHeapAnswer s header o text t
some_heap_answer s header (Some fault) = ((fault_line (size_fault_name fault)).0, s, ((fault_line (size_fault_name fault)).1, refl))
some_heap_answer s header None = ([], record s { playing = Some (new_playing (new_heap (config_of header))); number = 2 }, (refl, refl))

-- a line that asks for a picture has some answer
pub some_draw_answer : (o : Option PlayingState) → (text : List ℕ) × IsDrawAnswer o text
some_draw_answer None = fault_line (kind_name kinds.Header)
some_draw_answer (Some p) = (codes "drawn\n", inl refl)

pub none_of : {X : Type 0} (o : Option X) → is_some o ≡ false → o ≡ None
none_of None e = refl
none_of (Some x) e = absurd cc

-- a line that is none of a trace, before there is a heap and once there is one
pub first_fault : (o : Option PlayingState) (s : SessionState) (line : RawLine) (fault : TraceFault) (text : List ℕ) → is_some o ≡ false → Err fault ≡ header_or_fault line → IsOtherAnswer (own_of line) s.playing fault.kind text → IsAnswerAt o s line text s
first_fault None s line fault text e is h = subst (λ (r : Result Header TraceFault). IsFirstAnswer s line r text s) is (h, refl)
first_fault (Some p) s line fault text e is h = absurd cc

pub next_fault : (o : Option PlayingState) (s : SessionState) (line : RawLine) (fault : TraceFault) (text : List ℕ) → is_some o ≡ true → Err fault ≡ request_or_fault s.number line → IsOtherAnswer (own_of line) s.playing fault.kind text → IsAnswerAt o s line text s
next_fault None s line fault text e is h = absurd cc
next_fault (Some p) s line fault text e is h = subst (λ (r : Result Request TraceFault). IsNextAnswer s p line r text s) is (h, refl)

-- a request is answered
pub next_answer : (o : Option PlayingState) (s : SessionState) (line : RawLine) (request : Request) (u : SessionState) (r : Result (Unit {0}) Stop) (a b : Option (List ℕ)) → is_some o ≡ true → Ok request ≡ request_or_fault s.number line → IfSome o (λ p. OnOk r (u ≡ session_after s p request) × WritesSome (answered_text (request_step p.engine request).1) r a b) → (text : List ℕ) × (t : SessionState) × IsAnswerAt o s line text t × OnOk r (u ≡ t) × WritesSome text r a b
next_answer None s line request u r a b e is told = absurd cc
next_answer (Some p) s line request u r a b e is told =
    let text = answered_text (request_step p.engine request).1 in
    let t = session_after s p request in
    (text, t, subst (λ (x : Result Request TraceFault). IsNextAnswer s p line x text t) is (refl, refl), told.0, told.1)
