-- What a growing run of an input gives, and how it ends.
use Rattle.std.specs.Prelude.{◌≡◌, ◌⊎◌, ℕ, suc, Bool, List, [], ◌∷◌, Option, Some, None, Result, Err, IsSome}
use Rattle.std.specs.Io.KnownBytes.{Appends, Keeps}
use Rattle.rh_layout.specs.declared.refusal.Refusal.TheVariants.{SpaceFull}
use Rattle.rh_mutator.specs.Config.{fault_of}
use Rattle.rh_core.specs.runs.Programs.{CommandAnswers}
use Rattle.rh_text.specs.Output.{AppendsLess}
use Rattle.rh_syntax.specs.Spelling.{Script}
use Rattle.rh_trace.specs.declared.summary.Summary.{Summary}
use Rattle.rh_trace.specs.declared.way_fault.WayFault.{WayFault}
use Rattle.rh_trace.specs.Run.{config_of}
use Rattle.rh_pace.specs.InTime.{HasRoom}
use Rattle.rh_pace.specs.Reaching.{AreEpochsSpent}
use Rattle.rh_growing.specs.declared.errors.GrowingError.TheVariants as growing_errors
use Rattle.rh_growing.specs.declared.growth.Growth.{Growth}
use Rattle.rh_growing.specs.Growth.{IsGrowth, fault_of_growth}
use Rattle.rh_growing.specs.Growing.{GrowingState, growing_heap, growing_step}
use Rattle.rh_paced_trace.specs.declared.fault.Unpaced.{Unpaced}
use Rattle.rh_paced_trace.specs.declared.fault.Unpaced.TheVariants as unpaced
use Rattle.rh_paced_trace.specs.Lines.{Commands, biggest_of, commands_in}
use Rattle.rh_paced_trace.specs.Playing.{after_by, replies_by}
use Rattle.rh_paced_trace.specs.Run.{CommandsEnd, IsCommandTrace, output_of, summary_of}

-- how the heap of a run grows: from the words of the first line to so many, to twice the words that
-- a flip left; for the biggest object that the trace asks for
abbrev pub growth_of : Script → ℕ → Growth
growth_of script at_most = record {
  at_least = script.header.words;
  at_most = at_most;
  factor = 200;
  biggest = biggest_of (commands_in script.requests);
  ratio = script.header.ratio;
  owners = script.header.owners;
  slots = script.header.slots;
}

-- What is answered to these commands, and the heap after them. For each of them, from 0, it is
-- given whether the allocator gives memory where the heap grows after it.
abbrev pub growing_replies : (ℕ → Bool) → GrowingState → Commands → CommandAnswers
growing_replies given s commands = replies_by growing_step given s commands

abbrev pub growing_after : (ℕ → Bool) → GrowingState → Commands → GrowingState
growing_after given s commands = after_by growing_step given s commands

-- what a run begins with: a new heap that grows so
abbrev pub new_growing_run : Script → ℕ → GrowingState
new_growing_run script at_most = growing_heap (growth_of script at_most)

-- what is answered to the lines of a run
abbrev pub growing_answers_of : Script → ℕ → (ℕ → Bool) → CommandAnswers
growing_answers_of script at_most given =
    growing_replies given (new_growing_run script at_most) (commands_in script.requests)

-- what that adds up to
abbrev pub growing_sum_of : Script → ℕ → (ℕ → Bool) → Summary
growing_sum_of script at_most given =
    summary_of (growing_answers_of script at_most given)
    (growing_after given (new_growing_run script at_most) (commands_in script.requests)).paced

-- the text of a run
abbrev pub growing_text_of : Script → ℕ → (ℕ → Bool) → List ℕ
growing_text_of script at_most given =
    output_of (growing_answers_of script at_most given) (growing_sum_of script at_most given)

-- the input is a trace of commands alone, the sizes of its first line have no fault, and a heap can
-- grow from these to so many words
pub record IsGrowingRun (at_most : ℕ) (input : List ℕ) (script : Script) : Type 0 where
  pub trace : IsCommandTrace input script
  pub sizes : fault_of (config_of script.header) ≡ None
  pub grows : IsGrowth (growth_of script at_most)

-- why no heap grows so: a fault of its limits or of its pace
abbrev pub HasNoGrowth : Growth → Unpaced → Type 0
HasNoGrowth growth unpaced.Limits = fault_of_growth growth ≡ Some growing_errors.BadLimits
HasNoGrowth growth (unpaced.Pace why) = fault_of_growth growth ≡ Some (growing_errors.Pace why)

-- How a growing run of an input ends, as a paced run does. Where its text was written, whole or a
-- prefix, the allocator gave what it gave.
abbrev pub EndsGrowing : ℕ → List ℕ → Result Summary (WayFault Unpaced) → Option (List ℕ)
    → Option (List ℕ) → Type 0
EndsGrowing at_most input result old new =
    CommandsEnd (λ script. HasNoGrowth (growth_of script at_most))
    (λ summary. (script : Script) × (given : ℕ → Bool) × IsGrowingRun at_most input script
    × (summary ≡ growing_sum_of script at_most given)
    × Appends old new (growing_text_of script at_most given))
    ((script : Script) × (given : ℕ → Bool) × IsGrowingRun at_most input script
    × AppendsLess old new (growing_text_of script at_most given)) (Keeps old new)
    (Keeps old new) input result

-- Laws.

-- Each command that is refused for room comes where the heap has too few words, or where its epochs
-- are spent: for room in the space alone, and in the log too.
abbrev pub AreFullOnlyWhereShort : (ℕ → Bool) → GrowingState → Commands → Type 0
AreFullOnlyWhereShort given s [] = Unit {0}
AreFullOnlyWhereShort given s (owned ∷ others) =
    ((need free : ℕ) → (growing_step (given 0) s owned.0 owned.1).1 ≡ Err (SpaceFull need free)
    → IsSome s.short ⊎ AreEpochsSpent s.paced.heap)
    × AreFullOnlyWhereShort (λ i. given (suc i))
    (growing_step (given 0) s owned.0 owned.1).0 others

abbrev pub HaveRoomUnlessShort : (ℕ → Bool) → GrowingState → Commands → Type 0
HaveRoomUnlessShort given s [] = Unit {0}
HaveRoomUnlessShort given s (owned ∷ others) =
    (IsSome s.short ⊎ HasRoom s.paced owned.0 owned.1)
    × HaveRoomUnlessShort (λ i. given (suc i))
    (growing_step (given 0) s owned.0 owned.1).0 others
