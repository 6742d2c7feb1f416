-- Each event is a step of a heap's numbers.
use Rattle.std.proofs.Common.{◌≡◌, ℕ, ◌+◌, ◌≤◌, true, false, List, [], ◌∷◌, Result, Ok, Err, refl, ap, inl, inr, arith}
use Rattle.rh_core.specs.declared.event.Event.{Event}
use Rattle.rh_core.specs.declared.errors.FlipError.{FlipError}
use Rattle.rh_core.specs.declared.outcomes.Flipped.{Flipped}
use Rattle.rh_core.specs.declared.stat.Stat.{Stat}
use Rattle.rh_core.specs.Heap.{HeapState, IsWellFormed}
use Rattle.rh_core.specs.Stat.{stat_of}
use Rattle.rh_core.specs.Cycle.{flip_step}
use Rattle.rh_core.specs.runs.Run.{event_step, heap_after}
use Rattle.rh_cycles.specs.Runs.{AreSteps, IsStep, readings_of, step_of, steps_of}
use Rattle.rh_cycles.specs.Cycles.{ReaderState, read_step, reader_after}

-- What is known of flips.
pub record FlipLaws (h : HeapState) : Type 0 where
  pub told : (flipped : Flipped) → (flip_step h).1 ≡ Ok flipped
      → ((stat_of (flip_step h).0).used ≡ flipped.live_words) × ((stat_of (flip_step h).0).cycle ≡ false) × ((stat_of (flip_step h).0).flips ≡ (stat_of h).flips + 1)
  pub on : (flipped : Flipped) → (flip_step h).1 ≡ Ok flipped → h.mutators.cycle ≡ true
  pub live : (flipped : Flipped) → (flip_step h).1 ≡ Ok flipped → flipped.live_words ≤ (stat_of h).used
  pub refused : (why : FlipError) → (flip_step h).1 ≡ Err why → (flip_step h).0 ≡ h

-- a step that leaves the used words and the flips
pub left : (before after : Stat) → after.used ≡ before.used → after.flips ≡ before.flips → IsStep 0 before after
left before after used flips = inl (record { used = omega (arith, used); flips = flips })

pub flip-step : (h : HeapState) → FlipLaws h → IsStep 0 (stat_of h) (stat_of (flip_step h).0)
flip-step h laws = by (flip_step h).1 refl
  where
    by : (answer : Result Flipped FlipError) → (flip_step h).1 ≡ answer → IsStep 0 (stat_of h) (stat_of (flip_step h).0)
    by (Ok flipped) is =
        let told = laws.told flipped is in
        let live = laws.live flipped is in
        inr (record {
          nothing = refl;
          on = laws.on flipped is;
          off = told.1;
          used = omega (arith, told.0, live);
          flips = told.2;
        })
    by (Err why) is = left (stat_of h) (stat_of (flip_step h).0) (ap (λ k. (stat_of k).used) (laws.refused why is)) (ap (λ k. (stat_of k).flips) (laws.refused why is))

-- the events of a run are steps
pub events-AreSteps : {A : Type 0} → ((h : HeapState) → IsWellFormed h → (line : ℕ) (event : Event A) → IsStep (step_of line h event).0 (stat_of h) (stat_of (event_step h event).0))
    → ((h : HeapState) → IsWellFormed h → (event : Event A) → IsWellFormed (event_step h event).0)
    → (line : ℕ) (h : HeapState) → IsWellFormed h → (run : List (Event A)) → AreSteps (stat_of h) (steps_of line h run)
events-AreSteps step well line h is [] = tt
events-AreSteps step well line h is (event ∷ rest) = (step h is line event, events-AreSteps step well (line + 1) (event_step h event).0 (well h is event) rest)

-- the numbers that are read last are those of the heap after the run
pub last-read : {A : Type 0} (line : ℕ) (h : HeapState) (run : List (Event A)) (r : ReaderState) → r.last ≡ stat_of h
    → (reader_after r (readings_of (steps_of line h run))).last ≡ stat_of (heap_after h run)
last-read line h [] r same = same
last-read line h (event ∷ rest) r same = last-read (line + 1) (event_step h event).0 rest (read_step r (step_of line h event).1).0 refl
