-- What is told of the cycles of a heap that collects by itself.
use Rattle.std.specs.Prelude.{ℕ, ◌+◌, ◌-◌, ◌/◌, ◌==◌, Bool, true, ◌&&◌, ◌||◌, if◌then◌else◌, Option, None, is_some}
use Rattle.std.specs.Option.{option_map}
use Rattle.rh_core.specs.declared.stat.Stat.{Stat}
use Rattle.rh_core.specs.Stat.{stat_of}
use Rattle.rh_pace.specs.Paced.{PacedState}
use Rattle.rh_cycles.specs.declared.cycle.Cycle.{Cycle}
use Rattle.rh_cycles.specs.declared.kept.CyclesKept.{CyclesKept}
use Rattle.rh_cycles.specs.Cycles.{Reading, ReaderState, capped, new_reader, no_counts, read_step, skip_step}

-- how many calls were made, and the reader of the heap's numbers
pub record CyclesState : Type 0 where
  pub calls : ℕ
  pub reader : ReaderState

-- what it keeps, as plain numbers, and the same of these numbers
abbrev pub kept_in : CyclesState → CyclesKept
kept_in c = record {
  calls = c.calls;
  ended = c.reader.ended;
  last = c.reader.last;
  running = c.reader.running;
}

abbrev pub cycles_kept : CyclesKept → CyclesState
cycles_kept k = record {
  calls = k.calls;
  reader = record { ended = k.ended; last = k.last; running = k.running };
}

-- before the first call
abbrev pub new_cycles : PacedState → CyclesState
new_cycles s = record { calls = 0; reader = new_reader (stat_of s.heap) }

-- a reading without entries
abbrev pub reading_of : ℕ → Stat → Reading
reading_of line stat = record { line = line; stat = stat; entries = no_counts }

-- Whether a call did one flip, and this was the last that it did, in a cycle that was on before the
-- call or that the last increment began too.
abbrev pub ends_with_flip : Stat → PacedState → Bool
ends_with_flip last s =
    is_some s.did.flipped && (last.cycle || s.did.began) && (last.flips + 1 == s.heap.flips)

-- The words that were used just before that flip: those before the call, and, in a cycle that was on
-- then, those for which the call granted units. A call that begins a cycle allocates nothing in it.
abbrev pub used_at_flip : Stat → PacedState → ℕ
used_at_flip last s =
    if last.cycle
    then capped last.used ((s.heap.work.granted - last.granted) / s.heap.work.ratio)
    else last.used

-- the heap's numbers just before that flip
abbrev pub before_flip : Stat → PacedState → Stat
before_flip last s = record (stat_of s.heap) {
  used = used_at_flip last s;
  cycle = true;
  epoch = last.epoch;
  placed = s.did.objects;
  flips = last.flips;
}

-- a cycle whose entries aren't known
abbrev pub without_entries : Cycle → Cycle
without_entries c = record c { entries = None }

-- the reader once it read the numbers before the flip of a call, and those after it
abbrev pub read_flip : ℕ → ReaderState → PacedState → ReaderState × Option Cycle
read_flip call r s =
    read_step (read_step r (reading_of call (before_flip r.last s))).0
    (reading_of call (stat_of s.heap))

-- the reader after a call, and the cycle that ended at it: one flip is read with the numbers before
-- it, more aren't read, and where there was none the heap's numbers tell what began
abbrev pub read_call : ℕ → ReaderState → PacedState → ReaderState × Option Cycle
read_call call r s =
    if r.last.flips == s.heap.flips then read_step r (reading_of call (stat_of s.heap))
    else if ends_with_flip r.last s then read_flip call r s
    else (skip_step r call (stat_of s.heap), None)

-- One more call was made.
abbrev pub after_step : CyclesState → PacedState → CyclesState × Option Cycle
after_step c s = (
  record { calls = capped c.calls 1; reader = (read_call (capped c.calls 1) c.reader s).0 },
  option_map without_entries (read_call (capped c.calls 1) c.reader s).1,
)
