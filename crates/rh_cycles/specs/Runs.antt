-- What the cycles of a run add up to.
use Rattle.std.specs.Prelude.{◌≡◌, ◌⊎◌, ℕ, ◌+◌, ◌≤◌, true, false, List, [], ◌∷◌, length, map, is_some, Ok}
use Rattle.rh_core.specs.declared.answer.Answer.{Answer}
use Rattle.rh_core.specs.declared.answer.Answer.TheVariants as answers
use Rattle.rh_core.specs.declared.event.Event.{Event}
use Rattle.rh_core.specs.declared.event.Event.TheVariants as events
use Rattle.rh_core.specs.declared.outcomes.Flipped.{Flipped}
use Rattle.rh_core.specs.declared.stat.Stat.{Stat}
use Rattle.rh_core.specs.Heap.{HeapState}
use Rattle.rh_core.specs.Stat.{stat_of}
use Rattle.rh_core.specs.runs.Progress.{words_made, words_where}
use Rattle.rh_core.specs.runs.Run.{event_step}
use Rattle.rh_cycles.specs.declared.cycle.Cycle.{Cycle}
use Rattle.rh_cycles.specs.declared.cycle.CycleEnd.{CycleEnd}
use Rattle.rh_cycles.specs.declared.cycle.CycleEnd.TheVariants as ends
use Rattle.rh_cycles.specs.declared.cycle.EntryCounts.{EntryCounts}
use Rattle.rh_cycles.specs.Cycles.{Reading, ReaderState, dealt_counts, given_counts, no_counts}

-- Sums over cycles.

-- the words that they freed
abbrev pub words_freed : List Cycle → ℕ
words_freed [] = 0
words_freed (c ∷ cs) = c.freed + words_freed cs

-- how many ended with a flip
abbrev pub flip_count : CycleEnd → ℕ
flip_count ends.Flipped = 1
flip_count ends.Abandoned = 0

abbrev pub flips_in : List Cycle → ℕ
flips_in [] = 0
flips_in (c ∷ cs) = flip_count c.end + flips_in cs

-- Steps of a heap, as its numbers tell them.

-- a step without a flip: so many words were made
pub record IsMade (made : ℕ) (before after : Stat) : Type 0 where
  pub used : after.used ≡ before.used + made
  pub flips : after.flips ≡ before.flips

-- a flip: it ends the cycle, makes nothing, and leaves no more words than were used
pub record IsFlip (made : ℕ) (before after : Stat) : Type 0 where
  pub nothing : made ≡ 0
  pub on : before.cycle ≡ true
  pub off : after.cycle ≡ false
  pub used : after.used ≤ before.used
  pub flips : after.flips ≡ before.flips + 1

-- one of these
abbrev pub IsStep : ℕ → Stat → Stat → Type 0
IsStep made before after = IsMade made before after ⊎ IsFlip made before after

-- a list of them from some numbers on, each with the words that it made and with what is read then
abbrev pub AreSteps : Stat → List (ℕ × Reading) → Type 0
AreSteps before [] = Unit {0}
AreSteps before (s ∷ steps) = IsStep s.0 before s.1.stat × AreSteps s.1.stat steps

-- what is read
abbrev pub readings_of : List (ℕ × Reading) → List Reading
readings_of steps = map (λ s. s.1) steps

-- the words that were made
abbrev pub words_in : List (ℕ × Reading) → ℕ
words_in [] = 0
words_in (s ∷ steps) = s.0 + words_in steps

-- the reader read the begin of the cycle that is on, if one is
abbrev pub IsWhole : ReaderState → Type 0
IsWhole r = is_some r.running ≡ r.last.cycle

-- lines rise from one on, or stay
abbrev pub AreRising : ℕ → List Reading → Type 0
AreRising line [] = Unit {0}
AreRising line (x ∷ xs) = line ≤ x.line × AreRising x.line xs

-- Runs of a heap.

-- the entries of a deal or a give that was answered so
abbrev pub entries_of : Answer → EntryCounts
entries_of (answers.Deal (Ok dealt)) = dealt_counts dealt.passed
entries_of (answers.Give (Ok given)) = given_counts given
entries_of answer = no_counts

module _ {A : Type 0} where
  -- the words that an event made which was answered so
  abbrev pub words_of : Event A → Answer → ℕ
  words_of (events.Command owner command) (answers.Command answer) =
      words_where answer (words_made command)
  words_of event answer = 0

  -- the step of a heap that an event is, read at a line
  abbrev pub step_of : ℕ → HeapState → Event A → ℕ × Reading
  step_of line h event = (
    words_of event (event_step h event).1,
    record {
      line = line;
      stat = stat_of (event_step h event).0;
      entries = entries_of (event_step h event).1;
    },
  )

  -- the steps of a run, read at lines one after the other
  abbrev pub steps_of : ℕ → HeapState → List (Event A) → List (ℕ × Reading)
  steps_of line h [] = []
  steps_of line h (event ∷ rest) =
      step_of line h event ∷ steps_of (line + 1) (event_step h event).0 rest

  -- A cycle was ended by this event at this line: its flip kept the words that live then, and the
  -- objects that were placed before it, and freed the other words.
  pub record IsEndedBy (line : ℕ) (h : HeapState) (event : Event A) (c : Cycle) : Type 0 where
    pub flipped : Flipped
    pub accepted : (event_step h event).1 ≡ answers.Flip (Ok flipped)
    pub ended : c.ended ≡ line
    pub live : c.live ≡ flipped.live_words
    pub freed : c.freed + c.live ≡ (stat_of h).used
    pub objects : c.objects ≡ length h.joint.placed
