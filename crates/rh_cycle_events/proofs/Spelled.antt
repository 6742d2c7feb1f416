-- A text to which parts were put, one after the other, and texts that were written so.
use Rattle.std.proofs.Common.{◌≡◌, ℕ, ◌+◌, ◌<◌, ◌≤◌, List, [], ◌∷◌, ◌++◌, length, get_or, take, Option, Result, Ok, Err, sym, ap, ◌∙◌, append_assoc, append-nil}
use Rattle.std.specs.Prelude.{OnOk}
use Rattle.std.specs.Io.KnownBytes.{Appends}
use Rattle.std.proofs.lemmas.List.{take_all, take_more}
use Rattle.rh_text.specs.lemmas.Appends.{Appends-at, Appends-then}
use Rattle.rh_cycle_events.specs.declared.heard.Heard.{Heard}
use Rattle.rh_cycle_events.specs.Events.{byte_events, byte_heard, events_in, heard_after}
use Rattle.rh_cycle_events.proofs.PartsHeard.{events-append, heard-append}

-- Parts that were put.
put-two : (none one two a b : List ℕ) → none ≡ [] → one ≡ none ++ a → two ≡ one ++ b → two ≡ a ++ b
put-two none one two a b empty first second = second ∙ ap (λ (t : List ℕ). t ++ b) (first ∙ ap (λ (t : List ℕ). t ++ a) empty)

pub put-three : (none one two three a b c : List ℕ) → none ≡ [] → one ≡ none ++ a → two ≡ one ++ b → three ≡ two ++ c → three ≡ a ++ (b ++ c)
put-three none one two three a b c empty first second third =
    third ∙ ap (λ (t : List ℕ). t ++ c) (put-two none one two a b empty first second) ∙ append_assoc a b c

pub put-five : (none one two three four five a b c d e : List ℕ) → none ≡ [] → one ≡ none ++ a → two ≡ one ++ b → three ≡ two ++ c → four ≡ three ++ d → five ≡ four ++ e
    → five ≡ a ++ (b ++ (c ++ (d ++ e)))
put-five none one two three four five a b c d e empty first second third fourth fifth =
    fifth ∙ ap (λ (t : List ℕ). t ++ e) (fourth ∙ ap (λ (t : List ℕ). t ++ d) (put-three none one two three a b c empty first second third))
    ∙ append_assoc (a ++ (b ++ c)) d e ∙ append_assoc a (b ++ c) (d ++ e) ∙ ap (λ (t : List ℕ). a ++ t) (append_assoc b c (d ++ e))

-- Texts that were written.
on_ok : {X E : Type 0} (r : Result X E) (P Q : Type 0) → (P → Q) → OnOk r P → OnOk r Q
on_ok (Ok x) P Q leads is = leads is
on_ok (Err e) P Q leads is = tt

module _ (p0 p1 p2 p3 p4 p5 p6 p7 : Option (List ℕ)) (a b c d e f g : List ℕ) where
  pub sent-seven : {X E : Type 0} (r : Result X E) → Appends p0 p1 a → Appends p1 p2 b → Appends p2 p3 c → Appends p3 p4 d → Appends p4 p5 e → Appends p5 p6 f → OnOk r (Appends p6 p7 g)
      → OnOk r (Appends p0 p7 (a ++ (b ++ (c ++ (d ++ (e ++ (f ++ g)))))))
  sent-seven r first second third fourth fifth sixth last =
      on_ok r (Appends p6 p7 g) (Appends p0 p7 (a ++ (b ++ (c ++ (d ++ (e ++ (f ++ g))))))) (λ seventh.
      Appends-then p0 p1 p7 a (b ++ (c ++ (d ++ (e ++ (f ++ g))))) first
      (Appends-then p1 p2 p7 b (c ++ (d ++ (e ++ (f ++ g)))) second
      (Appends-then p2 p3 p7 c (d ++ (e ++ (f ++ g))) third
      (Appends-then p3 p4 p7 d (e ++ (f ++ g)) fourth
      (Appends-then p4 p5 p7 e (f ++ g) fifth (Appends-then p5 p6 p7 f g sixth seventh)))))) last

-- The bytes of a buffer, one after the other.
module _ (p0 p1 p2 : Option (List ℕ)) (first old new : Heard) (buf : List ℕ) (i d : ℕ) (within : i < length buf) (so_far : old ≡ heard_after first (take i buf))
    (next : new ≡ byte_heard old (get_or buf i d)) where
  more : take (i + 1) buf ≡ take i buf ++ get_or buf i d ∷ []
  more = take_more buf i d within

  pub bytes-heard : new ≡ heard_after first (take (i + 1) buf)
  bytes-heard =
      next ∙ ap (λ (h : Heard). byte_heard h (get_or buf i d)) so_far ∙ sym (heard-append first (take i buf) (get_or buf i d ∷ []))
      ∙ ap (heard_after first) (sym more)

  grown : events_in first (take i buf) ++ byte_events old (get_or buf i d) ≡ events_in first (take (i + 1) buf)
  grown =
      ap (λ (h : Heard). events_in first (take i buf) ++ byte_events h (get_or buf i d)) so_far
      ∙ ap (λ (t : List ℕ). events_in first (take i buf) ++ t) (sym (append-nil (byte_events (heard_after first (take i buf)) (get_or buf i d))))
      ∙ sym (events-append first (take i buf) (get_or buf i d ∷ [])) ∙ ap (events_in first) (sym more)

  pub bytes-sent : Appends p0 p1 (events_in first (take i buf)) → Appends p1 p2 (byte_events old (get_or buf i d)) → Appends p0 p2 (events_in first (take (i + 1) buf))
  bytes-sent before now =
      Appends-at p0 p2 (events_in first (take i buf) ++ byte_events old (get_or buf i d)) (events_in first (take (i + 1) buf)) grown
      (Appends-then p0 p1 p2 (events_in first (take i buf)) (byte_events old (get_or buf i d)) before now)

-- all of them
pub all-taken : (buf : List ℕ) (i : ℕ) → length buf ≤ i → take i buf ≡ buf
all-taken buf i past = take_all _ _ past
