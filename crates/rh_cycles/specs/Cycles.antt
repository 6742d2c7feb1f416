-- What a reader of a heap's numbers tells of its cycles.
use Rattle.std.specs.Prelude.{ℕ, ◌+◌, ◌-◌, ◌^◌, ◌==◌, min, max, nat_lt, Bool, not, ◌&&◌, if◌then◌else◌, List, [], ◌∷◌, ◌++◌, Option, Some, None}
use Rattle.std.specs.Option.{option_map}
use Rattle.rh_core.specs.declared.outcomes.Given.{Given}
use Rattle.rh_core.specs.declared.stat.Stat.{Stat}
use Rattle.rh_cycles.specs.declared.cycle.Cycle.{Cycle}
use Rattle.rh_cycles.specs.declared.cycle.CycleEnd.{CycleEnd}
use Rattle.rh_cycles.specs.declared.cycle.CycleEnd.TheVariants.{Flipped, Abandoned}
use Rattle.rh_cycles.specs.declared.cycle.EntryCounts.{EntryCounts}
use Rattle.rh_cycles.specs.declared.running.Running.{Running}

-- Counts.

-- the sum, as a number of 64 bits keeps it
abbrev pub capped : ℕ → ℕ → ℕ
capped m n = min (m + n) (2 ^ 64 - 1)

-- no entries, those that a deal passed over, and those of a give
abbrev pub no_counts : EntryCounts
no_counts = record { joined = 0; repeated = 0; stale = 0; passed = 0 }

abbrev pub dealt_counts : ℕ → EntryCounts
dealt_counts passed = record no_counts { passed = passed }

abbrev pub given_counts : Given → EntryCounts
given_counts g =
    record { joined = g.joined; repeated = g.repeated; stale = g.stale; passed = 0 }

-- both together
abbrev pub added_counts : EntryCounts → EntryCounts → EntryCounts
added_counts a b = record {
  joined = capped a.joined b.joined;
  repeated = capped a.repeated b.repeated;
  stale = capped a.stale b.stale;
  passed = capped a.passed b.passed;
}

-- Reading.

-- a reader: how many cycles ended, the heap's numbers as it read them last, and of the cycle that is
-- on what it keeps, if it read its begin
pub record ReaderState : Type 0 where
  pub ended : ℕ
  pub last : Stat
  pub running : Option Running

-- what is read: a line or call, the heap's numbers after it, and the entries of its deal or give
pub record Reading : Type 0 where
  pub line : ℕ
  pub stat : Stat
  pub entries : EntryCounts

-- a reader before it read anything
abbrev pub new_reader : Stat → ReaderState
new_reader stat = record { ended = 0; last = stat; running = None }

-- a cycle that began at a line
abbrev pub begun : Reading → Running
begun x = record {
  epoch = x.stat.epoch;
  began = x.line;
  used = x.stat.used;
  number = x.stat.number;
  most = x.stat.spent;
  entries = x.entries;
}

-- a cycle once one more line of it was read, of the numbers before the line
abbrev pub going : Stat → Reading → Running → Running
going last x c = record c {
  most = max c.most (x.stat.spent - last.spent);
  entries = added_counts c.entries x.entries;
}

-- whether the cycle that was on is on still: no flip was done
abbrev pub goes_on : Stat → Stat → Bool
goes_on last now = last.cycle && last.flips == now.flips

-- the cycle that is on once a line was read: none, that which was on, or one that began
abbrev pub running_after : ReaderState → Reading → Option Running
running_after r x =
    if not x.stat.cycle then None
    else if goes_on r.last x.stat then option_map (going r.last x) r.running
    else Some (begun x)

-- how a cycle ended, of the numbers before its last line and after it
abbrev pub end_of : Stat → Stat → CycleEnd
end_of last now = if nat_lt last.flips now.flips then Flipped else Abandoned

-- the cycle that ended at a line, of what was kept of it with this line
abbrev pub cycle_of : ReaderState → Reading → Running → Cycle
cycle_of r x c = record {
  number = capped r.ended 1;
  end = end_of r.last x.stat;
  epoch = c.epoch;
  began = c.began;
  ended = x.line;
  used = c.used;
  live = x.stat.used;
  freed = r.last.used - x.stat.used;
  objects = r.last.placed;
  granted = x.stat.granted;
  idle = x.stat.idle;
  spent = x.stat.spent;
  most = c.most;
  logged = x.stat.number - c.number;
  entries = Some c.entries;
  words = capped x.stat.used x.stat.free;
}

-- the cycle that a line ended, if there is one whose begin was read
abbrev pub cycle_told : ReaderState → Reading → Option Cycle
cycle_told r x =
    if x.stat.cycle then None
    else option_map (λ c. cycle_of r x (going r.last x c)) r.running

-- how many cycles ended then: one more, if one was on that isn't on still, told or not
abbrev pub ended_after : ReaderState → Stat → ℕ
ended_after r now =
    if r.last.cycle && not (now.cycle && goes_on r.last now) then capped r.ended 1 else r.ended

-- One line is read: the reader after it, and the cycle that the line ended.
abbrev pub read_step : ReaderState → Reading → ReaderState × Option Cycle
read_step r x = (
  record {
    ended = ended_after r x.stat;
    last = x.stat;
    running = running_after r x;
  },
  cycle_told r x,
)

-- Lines aren't read: the cycles that flips ended are counted, and what is on began at this line.
abbrev pub skip_step : ReaderState → ℕ → Stat → ReaderState
skip_step r line stat = record {
  ended = capped r.ended (stat.flips - r.last.flips);
  last = stat;
  running = if stat.cycle
      then Some (begun (record { line = line; stat = stat; entries = no_counts })) else None;
}

-- Lists of readings.

-- the cycle, where one was told
abbrev pub told_cycles : Option Cycle → List Cycle
told_cycles None = []
told_cycles (Some cycle) = cycle ∷ []

-- the cycles that lines ended, in order
abbrev pub cycles_of : ReaderState → List Reading → List Cycle
cycles_of r [] = []
cycles_of r (x ∷ xs) = told_cycles (read_step r x).1 ++ cycles_of (read_step r x).0 xs

-- the reader after them
abbrev pub reader_after : ReaderState → List Reading → ReaderState
reader_after r [] = r
reader_after r (x ∷ xs) = reader_after (read_step r x).0 xs
