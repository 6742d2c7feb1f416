-- A cycle that a flip ended has the flip's numbers.
use Rattle.std.proofs.Common.{◌≡◌, ℕ, Bool, true, false, Option, Some, None, Result, Ok, Err, refl, sym, ap, ◌∙◌, arith}
use Rattle.std.specs.Prelude.{nat_lt, if◌then◌else◌}
use Rattle.std.specs.Option.{option_map}
use Rattle.std.proofs.lemmas.Bool.{le-ltb}
use Rattle.rh_core.specs.declared.answer.Answer.TheVariants as answers
use Rattle.rh_core.specs.declared.event.Event.{Event}
use Rattle.rh_core.specs.declared.event.Event.TheVariants as events
use Rattle.rh_core.specs.declared.errors.FlipError.{FlipError}
use Rattle.rh_core.specs.declared.outcomes.Flipped.{Flipped}
use Rattle.rh_core.specs.declared.stat.Stat.{Stat}
use Rattle.rh_core.specs.Heap.{HeapState}
use Rattle.rh_core.specs.Stat.{stat_of}
use Rattle.rh_core.specs.Cycle.{flip_step}
use Rattle.rh_core.specs.runs.Run.{event_step}
use Rattle.rh_cycles.specs.declared.cycle.Cycle.{Cycle}
use Rattle.rh_cycles.specs.declared.cycle.CycleEnd.TheVariants as ends
use Rattle.rh_cycles.specs.declared.running.Running.{Running}
use Rattle.rh_cycles.specs.Cycles.{Reading, ReaderState, cycle_of, end_of, going, read_step}
use Rattle.rh_cycles.specs.Runs.{IsEndedBy, step_of}
use Rattle.rh_cycles.proofs.Events.{FlipLaws}

None-not_Some : (c : Cycle) → None ≡ Some c → ⊥
None-not_Some c same = cc

Some-injective : (a b : Cycle) → Some a ≡ Some b → a ≡ b
Some-injective a b same = cc

Abandoned-not_Flipped : ends.Abandoned ≡ ends.Flipped → ⊥
Abandoned-not_Flipped same = cc

-- a cycle that is told is made of what was kept
told-of : (on : Bool) (o : Option Running) (f : Running → Cycle) (c : Cycle) → (if on then None else option_map f o) ≡ Some c → (k : Running) × (c ≡ f k)
told-of true o f c is = absurd (None-not_Some c is)
told-of false None f c is = absurd (None-not_Some c is)
told-of false (Some k) f c is = (k, sym (Some-injective (f k) c is))

told-is : (r : ReaderState) (x : Reading) (c : Cycle) → (read_step r x).1 ≡ Some c → (k : Running) × (c ≡ cycle_of r x (going r.last x k))
told-is r x c told = told-of x.stat.cycle r.running (λ k. cycle_of r x (going r.last x k)) c told

-- where the flips stay, none ended a cycle
no-flip : (before : Stat) (r : ReaderState) (x : Reading) (c : Cycle) → r.last ≡ before → x.stat.flips ≡ before.flips → (read_step r x).1 ≡ Some c → c.end ≡ ends.Flipped → ⊥
no-flip before r x c last same told flipped =
    let was : r.last.flips ≡ before.flips = ap (λ (s : Stat). s.flips) last in
    let none : nat_lt r.last.flips x.stat.flips ≡ false = le-ltb _ _ (omega (arith, was, same)) in
    let is : end_of r.last x.stat ≡ ends.Abandoned = rw (none) refl in
    Abandoned-not_Flipped (sym is ∙ (sym (ap (λ (c : Cycle). c.end) (told-is r x c told).1) ∙ flipped))

-- so an event after which they stay is no end by a flip
pub no-end : {A : Type 0} (h : HeapState) (r : ReaderState) → r.last ≡ stat_of h → (line : ℕ) (event : Event A) (c : Cycle) → (stat_of (event_step h event).0).flips ≡ (stat_of h).flips
    → (read_step r (step_of line h event).1).1 ≡ Some c → c.end ≡ ends.Flipped → IsEndedBy line h event c
no-end h r last line event c same told flipped = absurd (no-flip (stat_of h) r (step_of line h event).1 c last same told flipped)

-- a flip, as an event
abbrev pub flip_event : (A : Type 0) → Event A
flip_event A = events.Flip

pub flip-ended : (A : Type 0) (h : HeapState) → FlipLaws h → (r : ReaderState) → r.last ≡ stat_of h → (line : ℕ) (c : Cycle)
    → (read_step r (step_of line h (flip_event A)).1).1 ≡ Some c → c.end ≡ ends.Flipped → IsEndedBy line h (flip_event A) c
flip-ended A h laws r last line c told ended = by (flip_step h).1 refl
  where
    x : Reading
    x = (step_of line h (flip_event A)).1

    by : (answer : Result Flipped FlipError) → (flip_step h).1 ≡ answer → IsEndedBy line h (flip_event A) c
    by (Ok flipped) is =
        let all = (told-is r x c told).1 in
        let live : c.live ≡ flipped.live_words = ap (λ (c : Cycle). c.live) all ∙ (laws.told flipped is).0 in
        let used : r.last.used ≡ (stat_of h).used = ap (λ (s : Stat). s.used) last in
        let now : x.stat.used ≡ flipped.live_words = (laws.told flipped is).0 in
        let freed = ap (λ (c : Cycle). c.freed) all in
        let fits = laws.live flipped is in
        record {
          flipped = flipped;
          accepted = ap (λ a. answers.Flip a) is;
          ended = ap (λ (c : Cycle). c.ended) all;
          live = live;
          freed = omega (arith, live, used, now, freed, fits);
          objects = ap (λ (c : Cycle). c.objects) all ∙ ap (λ (s : Stat). s.placed) last;
        }
    by (Err why) is = absurd (no-flip (stat_of h) r x c last (ap (λ k. (stat_of k).flips) (laws.refused why is)) told ended)
