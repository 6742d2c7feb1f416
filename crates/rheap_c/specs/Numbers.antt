-- The numbers of a heap as they cross to C.
use Rattle.std.specs.Prelude.{◌≡◌, ℕ, ◌+◌, ◌-◌, ◌^◌, Bool, true, false, min, Option, Some, None, is_some}
use Rattle.rh_space.specs.Space.{free_words}
use Rattle.rh_core.specs.declared.outcomes.Flipped.{Flipped}
use Rattle.rh_core.specs.declared.stat.Stat.{Stat}
use Rattle.rh_core.specs.Stat.{stat_of}
use Rattle.rh_pace.specs.declared.did.Did.{Did}
use Rattle.rh_pace.specs.declared.pace.Pace.{Pace}
use Rattle.rh_pace.specs.Paced.{PacedState}
use Rattle.rheap_c.specs.declared.numbers.RheapStats.{RheapStats}
use Rattle.rheap_c.specs.declared.numbers.RheapDid.{RheapDid}
use Rattle.rheap_c.specs.declared.numbers.RheapPacing.{RheapPacing}
use Rattle.rheap_c.specs.declared.numbers.RheapWords.{RheapWords}

-- 1 for yes, 0 for no
abbrev pub bit_of : Bool → ℕ
bit_of true = 1
bit_of false = 0

-- the numbers of a heap; the words of roots that don't fit in 64 bits are told as the most that do
abbrev pub stats_of_stat : Stat → RheapStats
stats_of_stat stat = record {
  used = stat.used;
  free = stat.free;
  epoch = stat.epoch;
  number = stat.number;
  log = stat.log;
  granted = stat.granted;
  idle = stat.idle;
  spent = stat.spent;
  placed = stat.placed;
  missing = stat.missing;
  flips = stat.flips;
  root_words = min stat.root_words (2 ^ 64 - 1);
  cycle = bit_of stat.cycle;
}

abbrev pub stats_of : PacedState → RheapStats
stats_of s = stats_of_stat (stat_of s.heap)

-- all 0
abbrev pub no_stats : RheapStats
no_stats = record {
  used = 0;
  free = 0;
  epoch = 0;
  number = 0;
  log = 0;
  granted = 0;
  idle = 0;
  spent = 0;
  placed = 0;
  missing = 0;
  flips = 0;
  root_words = 0;
  cycle = 0;
}

-- the roots that a flip wrote, and the words that it kept; 0 where there was none
abbrev pub flipped_roots : Option Flipped → ℕ
flipped_roots None = 0
flipped_roots (Some flipped) = flipped.roots

abbrev pub flipped_words : Option Flipped → ℕ
flipped_words None = 0
flipped_words (Some flipped) = flipped.live_words

-- what an increment or a collection did
abbrev pub did_of : Did → RheapDid
did_of did = record {
  held = did.held;
  shaded = did.shaded;
  roots = flipped_roots did.flipped;
  live_words = flipped_words did.flipped;
  began = bit_of did.began;
  flipped = bit_of (is_some did.flipped);
}

abbrev pub did_in : PacedState → RheapDid
did_in s = did_of s.did

-- nothing
abbrev pub no_did : RheapDid
no_did = record {
  held = 0;
  shaded = 0;
  roots = 0;
  live_words = 0;
  began = 0;
  flipped = 0;
}

-- a pace
abbrev pub pace_of : Pace → RheapPacing
pace_of pace = record {
  mark = pace.mark;
  store_units = pace.store_units;
  log_limit = pace.log_limit;
}

abbrev pub pace_in : PacedState → RheapPacing
pace_in s = pace_of s.pace

-- all 0
abbrev pub no_pace : RheapPacing
no_pace = record { mark = 0; store_units = 0; log_limit = 0 }

-- the words that an object of so many fields needs, header and forward word with them, and those
-- that are free
abbrev pub room_in : ℕ → PacedState → RheapWords
room_in fields s = record { need = fields + 2; free = free_words s.heap.mutators.space }

-- all 0
abbrev pub no_room : RheapWords
no_room = record { need = 0; free = 0 }

-- A call that reads something of a heap, and changes nothing. Where no heap is open, its status is
-- 12, and what it tells is nothing.
abbrev pub IsRead : {X : Type 0} → (PacedState → X) → X → Option PacedState → Option PacedState
    → ℕ → X → Type 0
IsRead read nothing None new status told = (new ≡ None) × (status ≡ 12) × (told ≡ nothing)
IsRead read nothing (Some s) new status told = (new ≡ Some s) × (status ≡ 0) × (told ≡ read s)
