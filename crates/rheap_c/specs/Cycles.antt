-- What a call of C's reads of the cycles of a heap, by a reader in the caller's memory.
use Rattle.std.specs.Prelude.{◌≡◌, ℕ, Bool, true, false, nat_eq, not, if◌then◌else◌, List, [], ◌∷◌, Option, Some, None, is_some}
use Rattle.rh_core.specs.declared.stat.Stat.{Stat}
use Rattle.rh_pace.specs.Paced.{PacedState}
use Rattle.rh_cycles.specs.declared.cycle.Cycle.{Cycle}
use Rattle.rh_cycles.specs.declared.cycle.CycleEnd.{CycleEnd}
use Rattle.rh_cycles.specs.declared.cycle.CycleEnd.TheVariants.{Flipped, Abandoned}
use Rattle.rh_cycles.specs.declared.kept.CyclesKept.{CyclesKept}
use Rattle.rh_cycles.specs.declared.running.Running.{Running}
use Rattle.rh_cycles.specs.Cycles.{no_counts}
use Rattle.rh_cycles.specs.Heaps.{CyclesState, after_step, cycles_kept, kept_in, new_cycles}
use Rattle.rheap_c.specs.declared.cycle_numbers.RheapCycleReader.{RheapCycleReader}
use Rattle.rheap_c.specs.declared.cycle_numbers.RheapEndedCycle.{RheapEndedCycle}
use Rattle.rheap_c.specs.declared.numbers.RheapStats.{RheapStats}
use Rattle.rheap_c.specs.Numbers.{bit_of, stats_of_stat}

-- yes for each number but 0
abbrev pub is_set : ℕ → Bool
is_set n = not (nat_eq n 0)

-- the numbers of a heap, as they came back
abbrev pub stat_told : RheapStats → Stat
stat_told s = record {
  used = s.used;
  free = s.free;
  cycle = is_set s.cycle;
  epoch = s.epoch;
  number = s.number;
  log = s.log;
  granted = s.granted;
  idle = s.idle;
  spent = s.spent;
  placed = s.placed;
  missing = s.missing;
  flips = s.flips;
  root_words = s.root_words;
}

-- what a reader keeps of the cycle that is on, where it read its begin
abbrev pub running_kept : RheapCycleReader → Running
running_kept r = record {
  epoch = r.epoch;
  began = r.began;
  used = r.used;
  number = r.number;
  most = r.most;
  entries = no_counts;
}

-- what it keeps
abbrev pub kept_of : RheapCycleReader → CyclesKept
kept_of r = record {
  calls = r.reads;
  ended = r.ended;
  last = stat_told r.last;
  running = if is_set r.running then Some (running_kept r) else None;
}

-- a number of the cycle that is on; 0 where there is none whose begin was read
abbrev pub of_running : (Running → ℕ) → Option Running → ℕ
of_running number None = 0
of_running number (Some c) = number c

-- a reader that keeps this
abbrev pub reader_of : CyclesKept → RheapCycleReader
reader_of k = record {
  reads = k.calls;
  ended = k.ended;
  last = stats_of_stat k.last;
  epoch = of_running (λ c. c.epoch) k.running;
  began = of_running (λ c. c.began) k.running;
  used = of_running (λ c. c.used) k.running;
  number = of_running (λ c. c.number) k.running;
  most = of_running (λ c. c.most) k.running;
  running = bit_of (is_some k.running);
  begun = 1;
}

-- whether a cycle ended with a flip
abbrev pub is_flipped : CycleEnd → Bool
is_flipped Flipped = true
is_flipped Abandoned = false

-- no cycle
abbrev pub no_cycle : RheapEndedCycle
no_cycle = record {
  number = 0;
  epoch = 0;
  began = 0;
  ended = 0;
  used = 0;
  live = 0;
  freed = 0;
  objects = 0;
  granted = 0;
  idle = 0;
  spent = 0;
  most = 0;
  logged = 0;
  words = 0;
  flipped = 0;
  is = 0;
}

-- the cycle that ended
abbrev pub cycle_numbers : Option Cycle → RheapEndedCycle
cycle_numbers None = no_cycle
cycle_numbers (Some c) = record {
  number = c.number;
  epoch = c.epoch;
  began = c.began;
  ended = c.ended;
  used = c.used;
  live = c.live;
  freed = c.freed;
  objects = c.objects;
  granted = c.granted;
  idle = c.idle;
  spent = c.spent;
  most = c.most;
  logged = c.logged;
  words = c.words;
  flipped = bit_of (is_flipped c.end);
  is = 1;
}

-- The reader after one reading of the heap, and the cycle that it tells: the first reading begins,
-- and tells none; each other is a step of a reader of cycles.
abbrev pub cycle_read : RheapCycleReader → PacedState → RheapCycleReader × RheapEndedCycle
cycle_read r s =
    if is_set r.begun
    then (
      reader_of (kept_in (after_step (cycles_kept (kept_of r)) s).0),
      cycle_numbers (after_step (cycles_kept (kept_of r)) s).1,
    )
    else (reader_of (kept_in (new_cycles s)), no_cycle)

-- It reads the heap so, and changes nothing of it. Where no heap is open its status is 12, it tells
-- no cycle, and the reader stays as it is.
abbrev pub ReadsCycle : Option PacedState → Option PacedState → RheapCycleReader → RheapCycleReader
    → RheapEndedCycle → ℕ → Type 0
ReadsCycle None new before after told status =
    (new ≡ None) × (after ≡ before) × (told ≡ no_cycle) × (status ≡ 12)
ReadsCycle (Some s) new before after told status =
    (new ≡ Some s) × (after ≡ (cycle_read before s).0) × (told ≡ (cycle_read before s).1)
    × (status ≡ 0)

-- Readings one after the other, each of the heap as it is then.

-- the cycles that they tell
abbrev pub told_by_readings : RheapCycleReader → List PacedState → List RheapEndedCycle
told_by_readings r [] = []
told_by_readings r (s ∷ heaps) =
    (cycle_read r s).1 ∷ told_by_readings (cycle_read r s).0 heaps

-- the reader after them
abbrev pub after_readings : RheapCycleReader → List PacedState → RheapCycleReader
after_readings r [] = r
after_readings r (s ∷ heaps) = after_readings (cycle_read r s).0 heaps

-- what `Cycles` tells that is asked after each of some calls, by the heaps that these calls left
abbrev pub told_after_each : CyclesState → List PacedState → List (Option Cycle)
told_after_each c [] = []
told_after_each c (s ∷ heaps) = (after_step c s).1 ∷ told_after_each (after_step c s).0 heaps

-- and what it is then
abbrev pub after_each : CyclesState → List PacedState → CyclesState
after_each c [] = c
after_each c (s ∷ heaps) = after_each (after_step c s).0 heaps

-- `Cycles` was asked after each of these calls, and told so: each time as its contract says, from what
-- the time before left of it.
abbrev pub AreAsked : CyclesState → CyclesState → List PacedState → List (Option Cycle) → Type 0
AreAsked old new [] [] = new ≡ old
AreAsked old new [] (t ∷ told) = ⊥
AreAsked old new (s ∷ heaps) [] = ⊥
AreAsked old new (s ∷ heaps) (t ∷ told) =
    (between : CyclesState) × (between ≡ (after_step old s).0) × (t ≡ (after_step old s).1)
    × AreAsked between new heaps told
