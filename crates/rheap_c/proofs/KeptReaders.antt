-- A reader of cycles that a program in C keeps loses nothing of what `Cycles` keeps.
use Rattle.std.proofs.Common.{◌≡◌, ℕ, ◌-◌, ◌^◌, Bool, true, false, List, [], ◌∷◌, Option, Some, None, refl, sym, ap, ◌∙◌}
use Rattle.std.specs.Prelude.{◌==◌, ⊤, if◌then◌else◌, is_some, map, min, not}
use Rattle.std.specs.Option.{option_map}
use Rattle.rh_core.specs.declared.stat.Stat.{Stat}
use Rattle.rh_core.specs.Stat.{stat_of}
use Rattle.rh_pace.specs.Paced.{PacedState}
use Rattle.rh_cycles.specs.declared.cycle.Cycle.{Cycle}
use Rattle.rh_cycles.specs.declared.cycle.EntryCounts.{EntryCounts}
use Rattle.rh_cycles.specs.declared.running.Running.{Running}
use Rattle.rh_cycles.specs.Cycles.{ReaderState, added_counts, begun, capped, going, goes_on, no_counts, read_step, skip_step}
use Rattle.rh_cycles.specs.Heaps.{CyclesState, after_step, before_flip, cycles_kept, ends_with_flip, kept_in, new_cycles, read_call, read_flip, reading_of}
use Rattle.rheap_c.specs.declared.cycle_numbers.RheapCycleReader.{RheapCycleReader}
use Rattle.rheap_c.specs.declared.cycle_numbers.RheapEndedCycle.{RheapEndedCycle}
use Rattle.rheap_c.specs.Cycles.{AreAsked, after_each, after_readings, cycle_numbers, cycle_read, is_set, kept_of, no_cycle, of_running, reader_of, stat_told, told_after_each, told_by_readings}
use Rattle.rheap_c.specs.Numbers.{bit_of, stats_of_stat}

-- What crosses and comes back.

set-bit : (b : Bool) → is_set (bit_of b) ≡ b
set-bit true = refl
set-bit false = refl

-- the numbers of a heap with other words of roots
abbrev with_root_words : Stat → ℕ → Stat
with_root_words stat words = record stat { root_words = words }

stat-back : (stat : Stat) → stat_told (stats_of_stat stat) ≡ with_root_words stat (min stat.root_words (2 ^ 64 - 1))
stat-back stat = ap (λ (b : Bool). record stat { cycle = b; root_words = min stat.root_words (2 ^ 64 - 1) }) (set-bit stat.cycle)

-- no entries were counted of the cycle that is on
abbrev HasNoEntries : Option Running → Type 0
HasNoEntries None = ⊤
HasNoEntries (Some c) = c.entries ≡ no_counts

-- what is kept of it, as it comes back
abbrev running_back : Option Running → Option Running
running_back o =
    if is_set (bit_of (is_some o))
    then Some (record {
      epoch = of_running (λ (c : Running). c.epoch) o;
      began = of_running (λ (c : Running). c.began) o;
      used = of_running (λ (c : Running). c.used) o;
      number = of_running (λ (c : Running). c.number) o;
      most = of_running (λ (c : Running). c.most) o;
      entries = no_counts;
    })
    else None

running-back : (o : Option Running) → HasNoEntries o → running_back o ≡ o
running-back None none = refl
running-back (Some c) none = ap (λ (e : EntryCounts). Some (record c { entries = e })) (sym none)

-- The words of roots are never read.
abbrev with_last : CyclesState → Stat → CyclesState
with_last c last = record { calls = c.calls; reader = record { ended = c.reader.ended; last = last; running = c.reader.running } }

root_words-unread : (c : CyclesState) (words : ℕ) (s : PacedState) → after_step (with_last c (with_root_words c.reader.last words)) s ≡ after_step c s
root_words-unread c words s = refl

-- so a step of what comes back is that of what was kept
step-back : (c : CyclesState) → HasNoEntries c.reader.running → (s : PacedState) → after_step (cycles_kept (kept_of (reader_of (kept_in c)))) s ≡ after_step c s
step-back c none s =
    ap (λ (o : Option Running). after_step (record { calls = c.calls; reader = record { ended = c.reader.ended; last = stat_told (stats_of_stat c.reader.last); running = o } }) s) (running-back c.reader.running none)
    ∙ ap (λ (stat : Stat). after_step (with_last c stat) s) (stat-back c.reader.last)
    ∙ root_words-unread c (min c.reader.last.root_words (2 ^ 64 - 1)) s

-- No entries are ever counted.
at_if : {X : Type 0} (P : X → Type 0) (b : Bool) (x y : X) → P x → P y → P (if b then x else y)
at_if P true x y at_x at_y = at_x
at_if P false x y at_x at_y = at_y

going-none : (last : Stat) (call : ℕ) (stat : Stat) (o : Option Running) → HasNoEntries o → HasNoEntries (option_map (going last (reading_of call stat)) o)
going-none last call stat None none = tt
going-none last call stat (Some c) none = ap (λ (e : EntryCounts). added_counts e no_counts) none

read_step-none : (r : ReaderState) (call : ℕ) (stat : Stat) → HasNoEntries r.running → HasNoEntries (read_step r (reading_of call stat)).0.running
read_step-none r call stat none =
    by stat.cycle (goes_on r.last stat)
  where
    by : (on goes : Bool) → HasNoEntries (if not on then None else if goes then option_map (going r.last (reading_of call stat)) r.running else Some (begun (reading_of call stat)))
    by false goes = tt
    by true true = going-none r.last call stat r.running none
    by true false = refl

read_call-none : (call : ℕ) (r : ReaderState) (s : PacedState) → HasNoEntries r.running → HasNoEntries (read_call call r s).0.running
read_call-none call r s none =
    at_if HasNone (r.last.flips == s.heap.flips) (read_step r (reading_of call (stat_of s.heap)))
    (if ends_with_flip r.last s then read_flip call r s else (skip_step r call (stat_of s.heap), None))
    (read_step-none r call (stat_of s.heap) none)
    (at_if HasNone (ends_with_flip r.last s) (read_flip call r s) (skip_step r call (stat_of s.heap), None)
    (read_step-none (read_step r (reading_of call (before_flip r.last s))).0 call (stat_of s.heap) (read_step-none r call (before_flip r.last s) none))
    (at_if HasNoEntries (stat_of s.heap).cycle (Some (begun (reading_of call (stat_of s.heap)))) None refl tt))
  where
    HasNone : ReaderState × Option Cycle → Type 0
    HasNone p = HasNoEntries p.0.running

after_step-none : (c : CyclesState) (s : PacedState) → HasNoEntries c.reader.running → HasNoEntries (after_step c s).0.reader.running
after_step-none c s none = read_call-none (capped c.calls 1) c.reader s none

-- Readings after the first.
told-kept : (c : CyclesState) → HasNoEntries c.reader.running → (heaps : List PacedState) → told_by_readings (reader_of (kept_in c)) heaps ≡ map cycle_numbers (told_after_each c heaps)
told-kept c none [] = refl
told-kept c none (s ∷ heaps) =
    ap (λ (p : CyclesState × Option Cycle). cycle_numbers p.1 ∷ told_by_readings (reader_of (kept_in p.0)) heaps) (step-back c none s)
    ∙ ap (λ (rest : List RheapEndedCycle). cycle_numbers (after_step c s).1 ∷ rest) (told-kept (after_step c s).0 (after_step-none c s none) heaps)

left-kept : (c : CyclesState) → HasNoEntries c.reader.running → (heaps : List PacedState) → after_readings (reader_of (kept_in c)) heaps ≡ reader_of (kept_in (after_each c heaps))
left-kept c none [] = refl
left-kept c none (s ∷ heaps) =
    ap (λ (p : CyclesState × Option Cycle). after_readings (reader_of (kept_in p.0)) heaps) (step-back c none s)
    ∙ left-kept (after_step c s).0 (after_step-none c s none) heaps

-- The first reading begins.
first-read : (r : RheapCycleReader) (s : PacedState) → r.begun ≡ 0 → cycle_read r s ≡ (reader_of (kept_in (new_cycles s)), no_cycle)
first-read r s none =
    ap (λ (b : ℕ). if is_set b
    then (reader_of (kept_in (after_step (cycles_kept (kept_of r)) s).0), cycle_numbers (after_step (cycles_kept (kept_of r)) s).1)
    else (reader_of (kept_in (new_cycles s)), no_cycle)) none

pub told-read : (r : RheapCycleReader) (s : PacedState) (heaps : List PacedState) → r.begun ≡ 0
    → told_by_readings r (s ∷ heaps) ≡ no_cycle ∷ map cycle_numbers (told_after_each (new_cycles s) heaps)
told-read r s heaps none =
    ap (λ (p : RheapCycleReader × RheapEndedCycle). p.1 ∷ told_by_readings p.0 heaps) (first-read r s none)
    ∙ ap (λ (rest : List RheapEndedCycle). no_cycle ∷ rest) (told-kept (new_cycles s) tt heaps)

pub left-read : (r : RheapCycleReader) (s : PacedState) (heaps : List PacedState) → r.begun ≡ 0
    → after_readings r (s ∷ heaps) ≡ reader_of (kept_in (after_each (new_cycles s) heaps))
left-read r s heaps none = ap (λ (p : RheapCycleReader × RheapEndedCycle). after_readings p.0 heaps) (first-read r s none) ∙ left-kept (new_cycles s) tt heaps

-- What `Cycles` told that was asked after each call.
asked-told : (old new : CyclesState) (heaps : List PacedState) (told : List (Option Cycle)) → AreAsked old new heaps told → told ≡ told_after_each old heaps
asked-told old new [] [] same = refl
asked-told old new [] (t ∷ told) asked = absurd asked
asked-told old new (s ∷ heaps) [] asked = absurd asked
asked-told old new (s ∷ heaps) (t ∷ told) (between, left, is, asked) =
    ap (λ (c : Option Cycle). c ∷ told) is
    ∙ ap (λ (rest : List (Option Cycle)). (after_step old s).1 ∷ rest) (asked-told between new heaps told asked ∙ ap (λ (c : CyclesState). told_after_each c heaps) left)

asked-kept : (old new : CyclesState) (heaps : List PacedState) (told : List (Option Cycle)) → AreAsked old new heaps told → new ≡ after_each old heaps
asked-kept old new [] [] same = same
asked-kept old new [] (t ∷ told) asked = absurd asked
asked-kept old new (s ∷ heaps) [] asked = absurd asked
asked-kept old new (s ∷ heaps) (t ∷ told) (between, left, is, asked) =
    asked-kept between new heaps told asked ∙ ap (λ (c : CyclesState). after_each c heaps) left

pub asked-read : (r : RheapCycleReader) (s : PacedState) (heaps : List PacedState) (new : CyclesState) (told : List (Option Cycle)) → r.begun ≡ 0 → AreAsked (new_cycles s) new heaps told
    → (told_by_readings r (s ∷ heaps) ≡ no_cycle ∷ map cycle_numbers told) × (after_readings r (s ∷ heaps) ≡ reader_of (kept_in new))
asked-read r s heaps new told none asked = (
  told-read r s heaps none ∙ ap (λ (ts : List (Option Cycle)). no_cycle ∷ map cycle_numbers ts) (sym (asked-told (new_cycles s) new heaps told asked)),
  left-read r s heaps none ∙ ap (λ (c : CyclesState). reader_of (kept_in c)) (sym (asked-kept (new_cycles s) new heaps told asked)),
)
