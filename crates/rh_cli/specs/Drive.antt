-- How what was asked ends the program.
use Rattle.std.specs.Prelude.{ℕ, Option, List}
use Rattle.rh_trace.specs.Run.{run_of}
use Rattle.rh_command_line.specs.declared.ask.Subcommand.{Subcommand}
use Rattle.rh_command_line.specs.declared.ask.Subcommand.TheVariants.{Run, RunPaced, RunGrowing, Threads, Replay, Dump, Dot, Snapshot, Why, Draw, Session, Lisp, LispSession, Completions}
use Rattle.rh_commands.specs.Count.{ConcludesCount, ConcludesDot, ConcludesSnapshot, ConcludesWhy}
use Rattle.rh_commands.specs.Draw.{ConcludesDraw, ConcludesSent}
use Rattle.rh_commands.specs.Replay.{ConcludesReplay}
use Rattle.rh_commands.specs.Runs.{ConcludesGrowing, ConcludesPaced, ConcludesRun}
use Rattle.rh_commands.specs.Session.{ConcludesSession}
use Rattle.rh_commands.specs.Shared.{ConcludesShared}
use Rattle.rh_cli.specs.Lisp.{ConcludesLisp, ConcludesLispSession}

-- what a subcommand does with this input ended with this status, and with these bytes written
abbrev pub Concludes : Subcommand → List ℕ → ℕ → Option (List ℕ) → Option (List ℕ) → Type 0
Concludes Run input status old new = ConcludesRun (run_of input) status old new
Concludes (RunPaced mark) input status old new = ConcludesPaced mark input status old new
Concludes (RunGrowing at_most) input status old new =
    ConcludesGrowing at_most input status old new
Concludes (Threads replicators idle) input status old new =
    ConcludesShared (record { replicators = replicators; idle = idle }) input status old new
Concludes Replay input status old new = ConcludesReplay input status old new
Concludes Dump input status old new = ConcludesCount input status old new
Concludes Dot input status old new = ConcludesDot input status old new
Concludes Snapshot input status old new = ConcludesSnapshot input status old new
Concludes (Why object) input status old new = ConcludesWhy object input status old new
Concludes (Draw line) input status old new = ConcludesDraw status old new
Concludes Session input status old new = ConcludesSession input status old new
Concludes (Lisp limits) input status old new = ConcludesLisp limits.steps input status old new
Concludes (LispSession limits) input status old new = ConcludesLispSession limits status old new
Concludes (Completions shell) input status old new = ConcludesSent status old new
