-- What a paced run of an input gives, and how it ends.
use Rattle.std.specs.Prelude.{◌≡◌, ℕ, ◌<◌, ◌≤◌, List, [], ◌∷◌, ◌++◌, length, count_by, is_err, Option, Some, None, Result, Ok, Err}
use Rattle.std.specs.List.{flat_map}
use Rattle.std.specs.Io.KnownBytes.{Appends, Consumes, Keeps}
use Rattle.rh_model.specs.Plain.{PlainHeap, empty_plain, step}
use Rattle.rh_mutator.specs.Config.{fault_of}
use Rattle.rh_mutator.specs.Commands.{is_limit_answer, AnswersAs, plain_unless}
use Rattle.rh_core.specs.Heap.{new_heap}
use Rattle.rh_core.specs.runs.Programs.{CommandAnswers}
use Rattle.rh_text.specs.Output.{AppendsLess}
use Rattle.rh_syntax.specs.Reading.{trace_of}
use Rattle.rh_syntax.specs.Spelling.{Script, IsScript, spelling}
use Rattle.rh_trace.specs.declared.summary.Summary.{Summary}
use Rattle.rh_trace.specs.declared.way_fault.WayFault.{WayFault}
use Rattle.rh_trace.specs.declared.way_fault.WayFault.TheVariants as ends
use Rattle.rh_trace.specs.Answers.{answer_line, total_line}
use Rattle.rh_trace.specs.Run.{config_of}
use Rattle.rh_pace.specs.declared.pace.Pace.{Pace}
use Rattle.rh_pace.specs.Paced.{PacedState, paced_heap}
use Rattle.rh_pace.specs.InTime.{paced_after, paced_replies}
use Rattle.rh_paced_trace.specs.declared.fault.Unpaced.{Unpaced}
use Rattle.rh_paced_trace.specs.declared.fault.Unpaced.TheVariants as unpaced
use Rattle.rh_paced_trace.specs.Lines.{Commands, commands_in, fault_in, other_fault}
use Rattle.rh_paced_trace.specs.Pacing.{IsPaceOf}

-- what the answers add up to, and what the heap counted that gave them
abbrev pub summary_of : CommandAnswers → PacedState → Summary
summary_of answers last = record {
  commands = length answers;
  refused = count_by is_err answers;
  flips = last.heap.flips;
  root_words = last.heap.root_words;
}

-- a line for each answer, and the total line
abbrev pub output_of : CommandAnswers → Summary → List ℕ
output_of answers summary = flat_map answer_line answers ++ total_line summary

-- what a paced heap answers to these commands, and what that adds up to
abbrev pub summary_to : PacedState → Commands → Summary
summary_to s commands = summary_of (paced_replies s commands) (paced_after s commands)

-- the text of that
abbrev pub output_to : PacedState → Commands → List ℕ
output_to s commands = output_of (paced_replies s commands) (summary_to s commands)

-- what a run begins with: a new heap of the sizes of the first line, at this pace
abbrev pub new_run : Script → Pace → PacedState
new_run script pace = paced_heap (new_heap (config_of script.header)) pace

-- the text of a run, and what it adds up to
abbrev pub text_of : Script → Pace → List ℕ
text_of script pace = output_to (new_run script pace) (commands_in script.requests)

abbrev pub sum_of : Script → Pace → Summary
sum_of script pace = summary_to (new_run script pace) (commands_in script.requests)

-- the input is this trace, of commands alone, and within the limit of bytes
pub record IsCommandTrace (input : List ℕ) (script : Script) : Type 0 where
  pub few : length input ≤ 16777216
  pub read : trace_of input ≡ Ok script
  pub commands : other_fault 2 script.requests ≡ None

-- the input is such a trace, the sizes of its heap have no fault, and this is the pace of its run,
-- by the mark where one is asked for
pub record IsRun (mark : Option ℕ) (input : List ℕ) (script : Script) (pace : Pace) : Type 0 where
  pub trace : IsCommandTrace input script
  pub sizes : fault_of (config_of script.header) ≡ None
  pub paced : IsPaceOf mark script (Ok pace)

module _ (lacks : Script → Unpaced → Type 0) (Done : Summary → Type 0)
    (Cut Refused Kept : Type 0) where
  -- How a run of commands of an input ends: with all done; with the first fault of the input, or why
  -- it lacks a heap, and nothing written; with a write that failed, or memory that was refused, and
  -- what is said then; and where a read failed with nothing written.
  abbrev pub CommandsEnd : List ℕ → Result Summary (WayFault Unpaced) → Type 0
  CommandsEnd input (Ok summary) = Done summary
  CommandsEnd input (Err ends.Write) = Cut
  CommandsEnd input (Err ends.OutOfMemory) = Refused
  CommandsEnd input (Err ends.Long) = (16777216 < length input) × Kept
  CommandsEnd input (Err (ends.Trace fault)) =
      (length input ≤ 16777216) × (fault_in (trace_of input) ≡ Some fault) × Kept
  CommandsEnd input (Err (ends.New fault)) =
      (script : Script) × IsCommandTrace input script
      × (fault_of (config_of script.header) ≡ Some fault) × Kept
  CommandsEnd input (Err (ends.Way why)) =
      (script : Script) × IsCommandTrace input script
      × (fault_of (config_of script.header) ≡ None) × lacks script why × Kept
  CommandsEnd input (Err ends.Read) = Kept

-- why a paced run has no pace: it has no limits of words, so that these are never bad
abbrev pub HasNoPace : Option ℕ → Script → Unpaced → Type 0
HasNoPace mark script (unpaced.Pace why) = IsPaceOf mark script (Err why)
HasNoPace mark script unpaced.Limits = ⊥

-- How a paced run of an input ends: with its whole text written; where a write failed with a prefix
-- of it, and not all; and else with nothing.
abbrev pub Ends : Option ℕ → List ℕ → Result Summary (WayFault Unpaced) → Option (List ℕ)
    → Option (List ℕ) → Type 0
Ends mark input result old new =
    CommandsEnd (HasNoPace mark)
    (λ summary. (script : Script) × (pace : Pace) × IsRun mark input script pace
    × (summary ≡ sum_of script pace) × Appends old new (text_of script pace))
    ((script : Script) × (pace : Pace) × IsRun mark input script pace
    × AppendsLess old new (text_of script pace)) (Keeps old new) (Keeps old new) input result

-- The answers to commands are those of a plain heap, one by one, but for limits; it goes on by each
-- command that no limit refused.
abbrev pub AreTransparent : PlainHeap → Commands → CommandAnswers → Type 0
AreTransparent p [] [] = Unit {0}
AreTransparent p [] (answer ∷ answers) = ⊥
AreTransparent p (owned ∷ others) [] = ⊥
AreTransparent p (owned ∷ others) (answer ∷ answers) =
    AnswersAs answer (step p owned.0 owned.1).1
    × AreTransparent (plain_unless (is_limit_answer answer) p owned.0 owned.1) others answers

-- The bytes that a reader gave spell this trace, it has commands alone, and the answers to them are
-- those of a plain heap that begins empty, but for limits.
pub record IsPlainRun (script : Script) (answers : CommandAnswers) (old new : Option (List ℕ))
    : Type 0 where
  pub fits : IsScript script
  pub read : Consumes old new (spelling script)
  pub commands : other_fault 2 script.requests ≡ None
  pub answered :
      AreTransparent (empty_plain script.header.owners script.header.slots)
      (commands_in script.requests) answers

-- the sums tell how many answers there are, and how many of them are refusals
pub record AreSumsOf (answers : CommandAnswers) (summary : Summary) : Type 0 where
  pub commands : summary.commands ≡ length answers
  pub refused : summary.refused ≡ count_by is_err answers
