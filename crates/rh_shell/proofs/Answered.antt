-- Answers to lines: one more of them, and a line of which the first 257 bytes are kept.
use Rattle.std.proofs.Common.{◌≡◌, ℕ, ◌<◌, Bool, true, false, cond, ltb, not, ◌||◌, List, [], ◌∷◌, ◌++◌, length, take, Option, Some, None, Result, Ok, Err, bytes_eq, codes, refl, sym, ap, subst, ◌∙◌, append_assoc, arith}
use Rattle.std.proofs.lemmas.List.{append-nil, take_all, length-take-le}
use Rattle.std.proofs.lemmas.Bool.{ltb-true, ltb-false, lt-ltb}
use Rattle.rh_text.specs.RawLine.{RawLine}
use Rattle.rh_text.specs.Parts.{is_formed, parts_of}
use Rattle.rh_text.specs.Steps.{◌>>=◌, with_fault}
use Rattle.rh_syntax.specs.declared.fault.Kind.{Kind}
use Rattle.rh_syntax.specs.declared.fault.Kind.TheVariants.{Long, Cut, Form}
use Rattle.rh_syntax.specs.declared.fault.TraceFault.{TraceFault}
use Rattle.rh_syntax.specs.declared.line.Header.{Header}
use Rattle.rh_syntax.specs.declared.request.Request.{Request}
use Rattle.rh_syntax.specs.Reading.{fault_at, checked_parts, header_of_parts, request_of_parts, request_or_kind, request_or_fault, header_or_kind, header_or_fault}
use Rattle.rh_shell.specs.declared.own.Own.{Own}
use Rattle.rh_shell.specs.declared.own.Own.TheVariants as owns
use Rattle.rh_shell.specs.Session.{PlayingState, SessionState, own_of, IsOtherAnswer, IsFirstAnswer, IsNextAnswer, IsAnswerAt, IsAnswer, AreAnswers}

-- one more line is answered
pub AreAnswers-more : (s : SessionState) (lines : List RawLine) (text : List ℕ) (t : SessionState) (l : RawLine) (first : List ℕ) (u : SessionState) → AreAnswers s lines text t → IsAnswer t l first u → AreAnswers s (lines ++ l ∷ []) (text ++ first) u
AreAnswers-more s [] text t l first u h a = (first, [], u, subst (λ (x : SessionState). IsAnswer x l first u) h.1 a, (refl, refl), ap (λ (x : List ℕ). x ++ first) h.0 ∙ sym (append-nil first))
AreAnswers-more s (m ∷ lines) text t l first u h a = (h.0, h.1 ++ first, h.2, h.3, AreAnswers-more h.2 lines h.1 t l first u h.4 a, ap (λ (x : List ℕ). x ++ first) h.5 ∙ append_assoc h.0 h.1 first)

or_true : (a b : Bool) → b ≡ true → (a || b) ≡ true
or_true true b e = refl
or_true false b e = e

-- a line of more than 256 bytes has the fault Long
long_checked : (n : ℕ) (bytes : List ℕ) (e : Bool) → ltb 256 (length bytes) ≡ true → checked_parts n (record { bytes = bytes; ended = e }) ≡ Err Long
unfolding checked_parts
long_checked n bytes e h = ap (λ (t : Bool). cond t (Err Long) (cond (not e) (Err Cut) (cond (not (is_formed bytes)) (Err Form) (Ok (parts_of bytes))))) (or_true (ltb 1048576 n) (ltb 256 (length bytes)) h)

long_request : (n : ℕ) (bytes : List ℕ) (e : Bool) → ltb 256 (length bytes) ≡ true → request_or_fault n (record { bytes = bytes; ended = e }) ≡ Err (fault_at n Long)
unfolding request_or_kind
long_request n bytes e h = ap (λ (r : Result (List (List ℕ)) Kind). with_fault (fault_at n) (r >>= request_of_parts)) (long_checked n bytes e h)

long_header : (bytes : List ℕ) (e : Bool) → ltb 256 (length bytes) ≡ true → header_or_fault (record { bytes = bytes; ended = e }) ≡ Err (fault_at 1 Long)
unfolding header_or_kind
long_header bytes e h = ap (λ (r : Result (List (List ℕ)) Kind). with_fault (fault_at 1) (r >>= header_of_parts)) (long_checked 1 bytes e h)

long_own : (bytes : List ℕ) (e : Bool) → ltb 256 (length bytes) ≡ true → own_of (record { bytes = bytes; ended = e }) ≡ owns.Nothing
unfolding own_of
long_own bytes e h = ap (λ (t : Bool). cond t owns.Nothing (cond (not e) owns.Nothing (cond (bytes_eq bytes (codes "help")) owns.Help (cond (bytes_eq bytes (codes "cycles")) owns.Cycles (cond (not (ltb 5 (length bytes))) owns.Nothing (cond (bytes_eq (take 5 bytes) (codes "draw ")) owns.Draw owns.Nothing)))))) h

-- another line that is read in the same way has the same answers
module _ (s : SessionState) (a b : RawLine) (text : List ℕ) (t : SessionState) (own : own_of a ≡ own_of b) where
  first_moved : (x : Result Header TraceFault) → IsFirstAnswer s a x text t → IsFirstAnswer s b x text t
  first_moved (Ok header) p = p
  first_moved (Err fault) p = (subst (λ (o : Own). IsOtherAnswer o s.playing fault.kind text) own p.0, p.1)

  next_moved : (h : PlayingState) (x : Result Request TraceFault) → IsNextAnswer s h a x text t → IsNextAnswer s h b x text t
  next_moved h (Ok request) p = p
  next_moved h (Err fault) p = (subst (λ (o : Own). IsOtherAnswer o s.playing fault.kind text) own p.0, p.1)

  answer_moved : (o : Option PlayingState) → header_or_fault a ≡ header_or_fault b → request_or_fault s.number a ≡ request_or_fault s.number b → IsAnswerAt o s a text t → IsAnswerAt o s b text t
  answer_moved None h r p = first_moved (header_or_fault b) (subst (λ (x : Result Header TraceFault). IsFirstAnswer s a x text t) h p)
  answer_moved (Some e) h r p = next_moved e (request_or_fault s.number b) (subst (λ (x : Result Request TraceFault). IsNextAnswer s e a x text t) r p)

-- a line is answered by its first 257 bytes
pub answer_of_kept : (s : SessionState) (bytes : List ℕ) (e : Bool) (text : List ℕ) (t : SessionState) → IsAnswer s (record { bytes = take 257 bytes; ended = e }) text t → IsAnswer s (record { bytes = bytes; ended = e }) text t
answer_of_kept s bytes e text t p = by_length (ltb 257 (length bytes)) refl where
  by_length : (long : Bool) → ltb 257 (length bytes) ≡ long → IsAnswer s (record { bytes = bytes; ended = e }) text t
  by_length false is = subst (λ (x : List ℕ). IsAnswer s (record { bytes = x; ended = e }) text t) (take_all 257 bytes (ltb-false 257 (length bytes) is)) p
  by_length true is =
      let more : 257 < length bytes = ltb-true 257 (length bytes) is in
      let kept = take 257 bytes in
      let cut : ltb 256 (length kept) ≡ true = lt-ltb 256 (length kept) (omega (arith, length-take-le 257 bytes (omega (arith, more)))) in
      let whole : ltb 256 (length bytes) ≡ true = lt-ltb 256 (length bytes) (omega (arith, more)) in
      answer_moved s (record { bytes = kept; ended = e }) (record { bytes = bytes; ended = e }) text t (long_own kept e cut ∙ sym (long_own bytes e whole)) s.playing (long_header kept e cut ∙ sym (long_header bytes e whole)) (long_request s.number kept e cut ∙ sym (long_request s.number bytes e whole)) p
