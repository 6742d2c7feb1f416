-- The events of cycles that are told.
use Rattle.std.specs.Prelude.{◌<◌, ◌^◌, ⊤, ℕ, Bool, true, false, List, [], ◌∷◌, ◌++◌, Option, Some, None}
use Rattle.rh_cycles.specs.declared.cycle.Cycle.{Cycle}
use Rattle.rh_cycles.specs.declared.cycle.CycleEnd.{CycleEnd}
use Rattle.rh_cycles.specs.declared.cycle.CycleEnd.TheVariants.{Flipped, Abandoned}
use Rattle.rh_cycles.specs.declared.cycle.EntryCounts.{EntryCounts}
use Rattle.rh_cycle_events.specs.Events.{events_of, freed_after}
use Rattle.rh_cycle_events.specs.Texts.{Told}

-- whether a cycle was abandoned
abbrev pub was_abandoned : CycleEnd → Bool
was_abandoned Flipped = false
was_abandoned Abandoned = true

-- what its events tell of a cycle
abbrev pub told_of : Cycle → Told
told_of c = record {
  number = c.number;
  abandoned = was_abandoned c.end;
  began = c.began;
  ended = c.ended;
  used = c.used;
  live = c.live;
  freed = c.freed;
  objects = c.objects;
  granted = c.granted;
  idle = c.idle;
  spent = c.spent;
  logged = c.logged;
}

-- The events of cycles, one after the other, after cycles that freed so many words.
abbrev pub events_of_cycles : ℕ → List Cycle → List ℕ
events_of_cycles freed [] = []
events_of_cycles freed (c ∷ cycles) =
    events_of freed (told_of c)
    ++ events_of_cycles (freed_after freed (told_of c)) cycles

-- The entries of a cycle are numbers of 64 bits, if they are known.
pub record AreWords (e : EntryCounts) : Type 0 where
  pub joined : e.joined < 2 ^ 64
  pub repeated : e.repeated < 2 ^ 64
  pub stale : e.stale < 2 ^ 64
  pub passed : e.passed < 2 ^ 64

abbrev pub AreWordsIfKnown : Option EntryCounts → Type 0
AreWordsIfKnown None = ⊤
AreWordsIfKnown (Some e) = AreWords e

-- All numbers of a cycle are, as those of each cycle that is told.
pub record IsOfWords (c : Cycle) : Type 0 where
  pub number : c.number < 2 ^ 64
  pub epoch : c.epoch < 2 ^ 64
  pub began : c.began < 2 ^ 64
  pub ended : c.ended < 2 ^ 64
  pub used : c.used < 2 ^ 64
  pub live : c.live < 2 ^ 64
  pub freed : c.freed < 2 ^ 64
  pub objects : c.objects < 2 ^ 64
  pub granted : c.granted < 2 ^ 64
  pub idle : c.idle < 2 ^ 64
  pub spent : c.spent < 2 ^ 64
  pub most : c.most < 2 ^ 64
  pub logged : c.logged < 2 ^ 64
  pub entries : AreWordsIfKnown c.entries
  pub words : c.words < 2 ^ 64
