-- How what is asked ends the program where it is seen in other ways.
use Rattle.std.specs.Prelude.{◌≡◌, ◌≢◌, ◌⊎◌, ℕ, ◌<◌, true, None, List, length, Err}
use Rattle.std.specs.Io.KnownBytes.{Keeps}
use Rattle.rh_text.specs.IoLog.{IoLogState, AreSpent, no_calls}
use Rattle.rh_core.specs.Config.{fault_of}
use Rattle.rh_syntax.specs.declared.fault.TraceFault.{TraceFault}
use Rattle.rh_syntax.specs.Reading.{trace_of}
use Rattle.rh_syntax.specs.Spelling.{Script}
use Rattle.rh_trace.specs.Run.{config_of}
use Rattle.rh_choices.specs.declared.telling.Telling.{Telling}
use Rattle.rh_trace_views.specs.Run.{IsTrace, Written}
use Rattle.rh_command_line.specs.declared.ask.Subcommand.{Subcommand}
use Rattle.rh_command_line.specs.declared.ask.Subcommand.TheVariants.{Run, RunPaced, RunGrowing, Replay, Dump}
use Rattle.rh_commands.specs.ViewLog.{ViewLogState}
use Rattle.rh_commands.specs.Views.{ConcludesCounts, ConcludesReport, ConcludesView, ConcludesViewGrowing, ConcludesViewPaced}
use Rattle.rh_cli.specs.Drive.{Concludes}

-- the input of a run has a fault: it is too long, no trace, or its sizes make no heap
abbrev pub HasRunFault : List ℕ → Type 0
HasRunFault input =
    (16777216 < length input) ⊎ ((fault : TraceFault) × (trace_of input ≡ Err fault))
    ⊎ ((script : Script) × IsTrace input script × (fault_of (config_of script.header) ≢ None))

-- a read or a write failed, or none was left, or a flush failed
abbrev pub HasFailed : ViewLogState → Type 0
HasFailed log = AreSpent log.reads ⊎ AreSpent log.writes ⊎ (log.flush_failed ≡ true)

-- nothing was written but to the first writer
abbrev pub KeepsOthers : Written → Type 0
KeepsOthers w = Keeps w.history_old w.history_new × Keeps w.cycles_old w.cycles_new

-- how many reads may take the input of a subcommand that is viewed: a dump may be longer
abbrev pub reads_given : Subcommand → IoLogState
reads_given Dump = record no_calls { left = 536870912 }
reads_given subcommand = no_calls

-- how many texts what is viewed has, each with a writer of its own
abbrev pub viewed_texts : Subcommand → ℕ
viewed_texts Run = 3
viewed_texts (RunPaced mark) = 3
viewed_texts (RunGrowing at_most) = 3
viewed_texts Replay = 1
viewed_texts Dump = 1
viewed_texts subcommand = 0

-- What a subcommand that is viewed does with this input ended with this status, with these bytes
-- written, and its calls went so that it ended so. What has no views does what it does without.
abbrev pub ConcludesViewed : Telling → Subcommand → List ℕ → ℕ → ViewLogState → Written → Type 0
ConcludesViewed telling Run input status log w = ConcludesView telling input status log w
ConcludesViewed telling (RunPaced mark) input status log w =
    ConcludesViewPaced mark telling input status log w
ConcludesViewed telling (RunGrowing at_most) input status log w =
    ConcludesViewGrowing at_most telling input status log w
ConcludesViewed telling Replay input status log w =
    ConcludesReport telling input status log w.old w.new × KeepsOthers w
ConcludesViewed telling Dump input status log w =
    ConcludesCounts telling input status log w.old w.new × KeepsOthers w
ConcludesViewed telling subcommand input status log w =
    Concludes subcommand input status w.old w.new × KeepsOthers w
