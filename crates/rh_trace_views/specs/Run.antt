-- What a viewed run of an input gives, and how it ends.
use Rattle.std.specs.Prelude.{◌≡◌, ◌⊎◌, ℕ, ◌<◌, ◌≤◌, List, ◌++◌, length, Option, Some, None, Result, Ok, Err}
use Rattle.std.specs.Io.KnownBytes.{Appends, Keeps}
use Rattle.rh_core.specs.Config.{fault_of}
use Rattle.rh_core.specs.Stat.{stat_of}
use Rattle.rh_cycles.specs.declared.cycle.Cycle.{Cycle}
use Rattle.rh_cycles.specs.Cycles.{cycles_of, new_reader}
use Rattle.rh_text.specs.Output.{AppendsLess, AppendsPrefix}
use Rattle.rh_syntax.specs.declared.request.Request.{Request}
use Rattle.rh_syntax.specs.Reading.{trace_of}
use Rattle.rh_syntax.specs.Spelling.{Script}
use Rattle.rh_replay.specs.History.{HistoryState}
use Rattle.rh_replay.specs.Legal.{IsLegal}
use Rattle.rh_replay.specs.Spelling.{spelling}
use Rattle.rh_trace.specs.declared.summary.Summary.{Summary}
pub use Rattle.rh_trace.specs.Ways.{IsTrace}
use Rattle.rh_trace.specs.Answers.{Answered}
use Rattle.rh_trace.specs.Run.{IsPlainRun, answers_of, config_of, new_run, summary_of}
use Rattle.rh_trace.specs.declared.run_fault.RunFault.{RunFault}
use Rattle.rh_trace.specs.declared.run_fault.RunFault.TheVariants as faults
use Rattle.rh_choices.specs.declared.telling.Telling.{Telling}
use Rattle.rh_trace_views.specs.Cycles.{cycles_text, readings_to}
use Rattle.rh_trace_views.specs.History.{history_of}
use Rattle.rh_trace_views.specs.Views.{numbered, total_text, views_text}

-- what is told of requests that were answered so, and of what they add up to
abbrev pub told_of : Telling → List Request → List Answered → Summary → List ℕ
told_of telling requests answers summary =
    views_text telling (numbered 2 requests answers) ++ total_text telling summary

-- the history of a trace that was answered so
abbrev pub history_with : Script → List Answered → HistoryState
history_with script answers =
    history_of script.header.owners script.header.slots (numbered 2 script.requests answers)

-- the history of the commands of a run
abbrev pub run_history : Script → HistoryState
run_history script = history_with script (answers_of script)

-- what is told of a run: its lines, and what it adds up to
abbrev pub view_of_run : Telling → Script → List ℕ
view_of_run telling script =
    told_of telling script.requests (answers_of script) (summary_of (answers_of script))

-- the cycles that ended in it, of what is read of its heap after each line
abbrev pub run_cycles : Script → List Cycle
run_cycles script =
    cycles_of (new_reader (stat_of (new_run script).heap))
    (readings_to 2 (new_run script) script.requests)

-- the input is this trace, and the sizes of its heap have no fault
abbrev pub IsRun : List ℕ → Script → Type 0
IsRun input script = IsTrace input script × (fault_of (config_of script.header) ≡ None)

-- where the three writers were before, and where they are now
pub record Written : Type 0 where
  pub old : Option (List ℕ)
  pub new : Option (List ℕ)
  pub history_old : Option (List ℕ)
  pub history_new : Option (List ℕ)
  pub cycles_old : Option (List ℕ)
  pub cycles_new : Option (List ℕ)

-- nothing was written
abbrev pub KeepsAll : Written → Type 0
KeepsAll w =
    Keeps w.old w.new × Keeps w.history_old w.history_new × Keeps w.cycles_old w.cycles_new

-- All texts of a run that was answered so, and in which these cycles ended, were written; or a
-- prefix of each, and not all of the first; or a prefix of what is told of the lines and of their
-- cycles, and nothing of the history.
abbrev pub IsTold : Telling → Script → List Answered → Summary → List Cycle → Written → Type 0
IsTold telling script answered summary cycles w =
    Appends w.old w.new (told_of telling script.requests answered summary)
    × Appends w.history_old w.history_new (spelling (history_with script answered))
    × Appends w.cycles_old w.cycles_new (cycles_text cycles)

abbrev pub IsCut : Telling → Script → List Answered → Summary → List Cycle → Written → Type 0
IsCut telling script answered summary cycles w =
    AppendsLess w.old w.new (told_of telling script.requests answered summary)
    × AppendsPrefix w.history_old w.history_new (spelling (history_with script answered))
    × AppendsPrefix w.cycles_old w.cycles_new (cycles_text cycles)

abbrev pub IsStopped : Telling → Script → List Answered → List Cycle → Written → Type 0
IsStopped telling script answered cycles w =
    AppendsPrefix w.old w.new (views_text telling (numbered 2 script.requests answered))
    × Keeps w.history_old w.history_new
    × AppendsPrefix w.cycles_old w.cycles_new (cycles_text cycles)

-- How a viewed run of an input ends: with all texts written; with the first fault of the input and
-- nothing written; where a write failed with a prefix of each, and not all of the first; where
-- memory was refused with a prefix of what is told of the lines and of their cycles, or, if it was
-- before the first of them, with nothing; and where a read failed with nothing.
abbrev pub Ends : Telling → List ℕ → Result Summary RunFault → Written → Type 0
Ends telling input (Ok summary) w =
    (script : Script) × IsRun input script × (summary ≡ summary_of (answers_of script))
    × IsTold telling script (answers_of script) summary (run_cycles script) w
Ends telling input (Err faults.Write) w =
    (script : Script) × IsRun input script
    × IsCut telling script (answers_of script) (summary_of (answers_of script))
    (run_cycles script) w
Ends telling input (Err faults.OutOfMemory) w =
    KeepsAll w ⊎ ((script : Script) × IsRun input script
    × IsStopped telling script (answers_of script) (run_cycles script) w)
Ends telling input (Err faults.Long) w = (16777216 < length input) × KeepsAll w
Ends telling input (Err (faults.Trace fault)) w =
    (length input ≤ 16777216) × (trace_of input ≡ Err fault) × KeepsAll w
Ends telling input (Err (faults.New fault)) w =
    (script : Script) × IsTrace input script
    × (fault_of (config_of script.header) ≡ Some fault) × KeepsAll w
Ends telling input (Err faults.Read) w = KeepsAll w

-- Said of the plain heap alone: the bytes that a reader gave spell a trace, these are its answers but
-- for limits, what was told and noted is theirs, and that history is legal.
abbrev pub IsPlainlyViewed : Telling → Option (List ℕ) → Option (List ℕ) → Written → Summary → Type 0
IsPlainlyViewed telling from to w summary =
    (script : Script) × (answers : List Answered) × IsPlainRun script answers from to
    × (summary ≡ summary_of answers)
    × Appends w.old w.new (told_of telling script.requests answers summary)
    × Appends w.history_old w.history_new (spelling (history_with script answers))
    × IsLegal (history_with script answers)
