-- What the statuses say of how a subcommand ended.
use Rattle.std.proofs.Common.{◌≡◌, ◌≢◌, ◌⊎◌, ◌↔◌, inl, inr, ℕ, Bool, List, Option, Some, Result, Ok, Err, refl, sym, ap, subst, ◌∙◌, arith}
use Rattle.std.specs.Io.KnownBytes.{Appends, Keeps}
use Rattle.clap.specs.Words.{kind_of}
use Rattle.clap.specs.declared.error.Error.{Error as ClapError}
use Rattle.clap.specs.declared.error.kind.ErrorKind.{ErrorKind}
use Rattle.clap.specs.declared.error.kind.ErrorKind.TheVariants.{DisplayHelp, DisplayVersion}
use Rattle.rh_dump.specs.Dump.{GraphState}
use Rattle.rh_dump.specs.declared.reading.fault.DumpFault.{DumpFault}
use Rattle.rh_dump.specs.texts.Reading.{graph_of_text}
use Rattle.rh_dot.specs.Dot.{dot_text}
use Rattle.rh_snapshot.specs.Text.{snapshot_text}
use Rattle.rh_why.specs.Path.{why_text}
use Rattle.rh_layout.specs.declared.command.Reply.{Reply}
use Rattle.rh_layout.specs.declared.refusal.Refusal.{Refusal}
use Rattle.rh_replay.specs.declared.checking.Verdict.{Verdict}
use Rattle.rh_replay.specs.declared.checking.Verdict.TheVariants.{Legal, Wrong}
use Rattle.rh_replay.specs.declared.fault.HistoryFault.{HistoryFault}
use Rattle.rh_replay.specs.History.{HistoryState}
use Rattle.rh_replay.specs.Reading.{history_of}
use Rattle.rh_replay.proofs.SpelledIsRead.{history_of-spelling}
use Rattle.rh_replay.specs.Report.{report_text}
use Rattle.rh_text.specs.declared.output.Write.{Write}
use Rattle.rh_trace.specs.Run.{Ends, StopsBeforeTotal, run_of, text_of}
use Rattle.rh_trace.specs.declared.run_fault.RunFault.{RunFault}
use Rattle.rh_trace.specs.declared.run_fault.RunFault.TheVariants as run_faults
use Rattle.rh_trace.specs.declared.way_fault.WayFault.{WayFault}
use Rattle.rh_trace.specs.declared.way_fault.WayFault.TheVariants as ends
use Rattle.rh_trace.specs.Fixed.{by_way}
use Rattle.rh_trace.specs.Ways.{of_run_fault}
use Rattle.rh_trace.specs.declared.summary.Summary.{Summary}
use Rattle.rh_commands.specs.Count.{DumpEnds, IsCountStatus, IsSentStatus, counts_line}
use Rattle.rh_commands.specs.Draw.{DrawEnds, SentEnds}
use Rattle.rh_cli.specs.Drive.{Concludes}
use Rattle.rh_commands.specs.Runs.{ConcludesGrowing, ConcludesPaced, IsWayStatus, way_status}
use Rattle.rh_command_line.specs.Fault.{arguments_status, line_status}
use Rattle.rh_command_line.specs.declared.fault.CommandLineFault.{CommandLineFault}
use Rattle.rh_command_line.specs.declared.fault.CommandLineFault.TheVariants as line_faults
use Rattle.rh_command_line.specs.lemmas.Statuses.{line_at_most_2}
use Rattle.rh_commands.specs.Fault.{ending_status, status_of, IsLateStatus}
use Rattle.rh_syntax.specs.Spelling.{Script}
use Rattle.rh_pace.specs.declared.pace.Pace.{Pace}
use Rattle.rh_paced_trace.specs.Run.{CommandsEnd, Ends as PacedEnds, HasNoPace, IsRun, text_of as paced_text_of}
use Rattle.rh_paced_trace.specs.Growing.{EndsGrowing, HasNoGrowth, IsGrowingRun, growing_text_of, growth_of}
use Rattle.rh_paced_trace.specs.declared.fault.Unpaced.{Unpaced}
use Rattle.rh_paced_trace.specs.declared.fault.Unpaced.TheVariants as unpaced
use Rattle.rh_cli.specs.Lisp.{outcome_in}
use Rattle.rh_cli.proofs.LispStatuses.{lisp_is_0, lisp_is_0_1_or_3, lisp_is_3, lisp_session_is_0_1_or_3}
use Rattle.rh_lisp_run.specs.Run.{IsRun as IsLispRun, as_new}
use Rattle.rh_choices.specs.declared.limits.Limits.{Limits}
use Rattle.rh_lisp.specs.Printed.{output_text}
use Rattle.rh_lisp.specs.Program.{ProgramState}
use Rattle.rh_machine.specs.declared.ending.Ending.TheVariants.{Halted}
use Rattle.rh_cli.proofs.SharedStatuses.{shared_is_0_1_3_or_4, shared_is_4}
use Rattle.rh_commands.specs.Replay.{IsJudged, IsReplayStatus, ReplayEnds}
use Rattle.rh_text.specs.RawLine.{lines_of}
use Rattle.rh_shell.specs.Session.{IsSession}
use Rattle.rh_shell.specs.declared.fault.ShellFault.{ShellFault}
use Rattle.rh_shell.specs.declared.fault.ShellFault.TheVariants as shell_faults
use Rattle.rh_commands.specs.Session.{IsSessionStatus, SessionEnds, session_status}
use Rattle.rh_command_line.specs.declared.ask.Shell.{Shell}
use Rattle.rh_command_line.specs.declared.ask.Subcommand.{Subcommand}
use Rattle.rh_command_line.specs.declared.ask.Subcommand.TheVariants.{Run, RunPaced, RunGrowing, Threads, Replay, Dump, Dot, Snapshot, Why, Draw, Session, Lisp, LispSession, Completions}
use Rattle.rh_commands.specs.declared.ending.Ending.{Ending}
use Rattle.rh_commands.specs.declared.ending.Ending.TheVariants.{Done, WrongHistory}
use Rattle.rh_commands.specs.declared.fault.LineFault.{LineFault}
use Rattle.rh_commands.specs.declared.fault.LineFault.TheVariants as faults

-- what only the ending that is done has
pub done_is_0 : (ending : Ending) → (ending_status ending ≡ 0) ↔ (ending ≡ Done)
done_is_0 Done = (λ is. refl, λ is. refl)
done_is_0 WrongHistory = (λ is. absurd (omega (arith, is)), λ is. cc)

pub wrong_is_4 : (ending : Ending) → (ending_status ending ≡ 4) ↔ (ending ≡ WrongHistory)
wrong_is_4 Done = (λ is. absurd (omega (arith, is)), λ is. cc)
wrong_is_4 WrongHistory = (λ is. refl, λ is. refl)

-- a run's fault has 1, or 3 for want of memory
pub way_memory_is_3 : (fault : WayFault Unpaced) → (way_status fault ≡ 3) ↔ (fault ≡ ends.OutOfMemory)
way_memory_is_3 ends.Read = (λ is. absurd (omega (arith, is)), λ is. cc)
way_memory_is_3 ends.Long = (λ is. absurd (omega (arith, is)), λ is. cc)
way_memory_is_3 (ends.Trace fault) = (λ is. absurd (omega (arith, is)), λ is. cc)
way_memory_is_3 (ends.New fault) = (λ is. absurd (omega (arith, is)), λ is. cc)
way_memory_is_3 (ends.Way unpaced.Limits) = (λ is. absurd (omega (arith, is)), λ is. cc)
way_memory_is_3 (ends.Way (unpaced.Pace why)) = (λ is. absurd (omega (arith, is)), λ is. cc)
way_memory_is_3 ends.Write = (λ is. absurd (omega (arith, is)), λ is. cc)
way_memory_is_3 ends.OutOfMemory = (λ is. refl, λ is. refl)

pub way_fault_is_1_or_3 : (fault : WayFault Unpaced) → (way_status fault ≡ 1) ⊎ (way_status fault ≡ 3)
way_fault_is_1_or_3 ends.Read = inl refl
way_fault_is_1_or_3 ends.Long = inl refl
way_fault_is_1_or_3 (ends.Trace fault) = inl refl
way_fault_is_1_or_3 (ends.New fault) = inl refl
way_fault_is_1_or_3 (ends.Way unpaced.Limits) = inl refl
way_fault_is_1_or_3 (ends.Way (unpaced.Pace why)) = inl refl
way_fault_is_1_or_3 ends.Write = inl refl
way_fault_is_1_or_3 ends.OutOfMemory = inr refl

pub way_fault_is_not_0 : (fault : WayFault Unpaced) → 0 ≡ way_status fault → ⊥
way_fault_is_not_0 fault is = elim (way_fault_is_1_or_3 fault) [ inl one ↦ omega (arith, is, one) | inr three ↦ omega (arith, is, three) ]

-- so the status after a run is one of 0, 1 and 3
pub way_is_0_1_or_3 : (outcome : Result Summary (WayFault Unpaced)) (status : ℕ) → IsWayStatus outcome status → (status ≡ 0) ⊎ ((status ≡ 1) ⊎ (status ≡ 3))
way_is_0_1_or_3 (Ok summary) status (inl is) = inl is
way_is_0_1_or_3 (Ok summary) status (inr is) = inr (inl is)
way_is_0_1_or_3 (Err fault) status is =
    elim (way_fault_is_1_or_3 fault) [ inl one ↦ inr (inl (is ∙ one)) | inr three ↦ inr (inr (is ∙ three)) ]

-- it is 1 or 3 where the run can't come to its end
way_is_1_or_3 : (outcome : Result Summary (WayFault Unpaced)) (status : ℕ) → ((summary : Summary) → outcome ≡ Ok summary → ⊥) → IsWayStatus outcome status → (status ≡ 1) ⊎ (status ≡ 3)
way_is_1_or_3 (Ok summary) status none own = absurd (none summary refl)
way_is_1_or_3 (Err fault) status none own =
    elim (way_fault_is_1_or_3 fault) [ inl one ↦ inl (own ∙ one) | inr three ↦ inr (own ∙ three) ]

-- of all faults want of memory alone has 3
pub memory_is_3 : (fault : LineFault) → (status_of fault ≡ 3) ↔ (fault ≡ faults.OutOfMemory)
memory_is_3 (faults.CommandLine line) = (λ is. absurd (omega (arith, is, line_at_most_2 line)), λ is. cc)
memory_is_3 faults.NoText = (λ is. absurd (omega (arith, is)), λ is. cc)
memory_is_3 faults.SameFile = (λ is. absurd (omega (arith, is)), λ is. cc)
memory_is_3 (faults.Program kind) = (λ is. absurd (omega (arith, is)), λ is. cc)
memory_is_3 faults.Stopped = (λ is. absurd (omega (arith, is)), λ is. cc)
memory_is_3 faults.NoLine = (λ is. absurd (omega (arith, is)), λ is. cc)
memory_is_3 (faults.Trace fault) = (λ is. absurd (omega (arith, is)), λ is. cc)
memory_is_3 (faults.History fault) = (λ is. absurd (omega (arith, is)), λ is. cc)
memory_is_3 (faults.Dump fault) = (λ is. absurd (omega (arith, is)), λ is. cc)
memory_is_3 (faults.Heap fault) = (λ is. absurd (omega (arith, is)), λ is. cc)
memory_is_3 (faults.Shared fault) = (λ is. absurd (omega (arith, is)), λ is. cc)
memory_is_3 faults.HistoryDiffers = (λ is. absurd (omega (arith, is)), λ is. cc)
memory_is_3 faults.Limits = (λ is. absurd (omega (arith, is)), λ is. cc)
memory_is_3 (faults.Pace why) = (λ is. absurd (omega (arith, is)), λ is. cc)
memory_is_3 faults.Open = (λ is. absurd (omega (arith, is)), λ is. cc)
memory_is_3 faults.Read = (λ is. absurd (omega (arith, is)), λ is. cc)
memory_is_3 faults.Write = (λ is. absurd (omega (arith, is)), λ is. cc)
memory_is_3 faults.TooLong = (λ is. absurd (omega (arith, is)), λ is. cc)
memory_is_3 faults.OutOfMemory = (λ is. refl, λ is. refl)

-- of all faults that of a history that differs alone has 4
pub differs_is_4 : (fault : LineFault) → (status_of fault ≡ 4) ↔ (fault ≡ faults.HistoryDiffers)
differs_is_4 (faults.CommandLine line) = (λ is. absurd (omega (arith, is, line_at_most_2 line)), λ is. cc)
differs_is_4 faults.NoText = (λ is. absurd (omega (arith, is)), λ is. cc)
differs_is_4 faults.SameFile = (λ is. absurd (omega (arith, is)), λ is. cc)
differs_is_4 (faults.Program kind) = (λ is. absurd (omega (arith, is)), λ is. cc)
differs_is_4 faults.Stopped = (λ is. absurd (omega (arith, is)), λ is. cc)
differs_is_4 faults.NoLine = (λ is. absurd (omega (arith, is)), λ is. cc)
differs_is_4 (faults.Trace fault) = (λ is. absurd (omega (arith, is)), λ is. cc)
differs_is_4 (faults.History fault) = (λ is. absurd (omega (arith, is)), λ is. cc)
differs_is_4 (faults.Dump fault) = (λ is. absurd (omega (arith, is)), λ is. cc)
differs_is_4 (faults.Heap fault) = (λ is. absurd (omega (arith, is)), λ is. cc)
differs_is_4 (faults.Shared fault) = (λ is. absurd (omega (arith, is)), λ is. cc)
differs_is_4 faults.Limits = (λ is. absurd (omega (arith, is)), λ is. cc)
differs_is_4 (faults.Pace why) = (λ is. absurd (omega (arith, is)), λ is. cc)
differs_is_4 faults.Open = (λ is. absurd (omega (arith, is)), λ is. cc)
differs_is_4 faults.Read = (λ is. absurd (omega (arith, is)), λ is. cc)
differs_is_4 faults.Write = (λ is. absurd (omega (arith, is)), λ is. cc)
differs_is_4 faults.TooLong = (λ is. absurd (omega (arith, is)), λ is. cc)
differs_is_4 faults.OutOfMemory = (λ is. absurd (omega (arith, is)), λ is. cc)
differs_is_4 faults.HistoryDiffers = (λ is. refl, λ is. refl)

-- a fault with 2 is one of the command line
pub only_the_line_is_2 : (fault : LineFault) → status_of fault ≡ 2
    → (fault ≡ faults.NoText) ⊎ ((line : CommandLineFault) × (fault ≡ faults.CommandLine line))
only_the_line_is_2 (faults.CommandLine line) is = inr (line, refl)
only_the_line_is_2 faults.NoText is = inl refl
only_the_line_is_2 (faults.Program kind) is = absurd (omega (arith, is))
only_the_line_is_2 faults.Stopped is = absurd (omega (arith, is))
only_the_line_is_2 faults.NoLine is = absurd (omega (arith, is))
only_the_line_is_2 (faults.Trace fault) is = absurd (omega (arith, is))
only_the_line_is_2 (faults.History fault) is = absurd (omega (arith, is))
only_the_line_is_2 (faults.Dump fault) is = absurd (omega (arith, is))
only_the_line_is_2 (faults.Heap fault) is = absurd (omega (arith, is))
only_the_line_is_2 (faults.Shared fault) is = absurd (omega (arith, is))
only_the_line_is_2 faults.Limits is = absurd (omega (arith, is))
only_the_line_is_2 (faults.Pace why) is = absurd (omega (arith, is))
only_the_line_is_2 faults.Open is = absurd (omega (arith, is))
only_the_line_is_2 faults.SameFile is = absurd (omega (arith, is))
only_the_line_is_2 faults.HistoryDiffers is = absurd (omega (arith, is))
only_the_line_is_2 faults.Read is = absurd (omega (arith, is))
only_the_line_is_2 faults.Write is = absurd (omega (arith, is))
only_the_line_is_2 faults.TooLong is = absurd (omega (arith, is))
only_the_line_is_2 faults.OutOfMemory is = absurd (omega (arith, is))

help_of_0 : (kind : ErrorKind) → arguments_status kind ≡ 0 → (kind ≡ DisplayHelp) ⊎ (kind ≡ DisplayVersion)
help_of_0 DisplayHelp is = inl refl
help_of_0 DisplayVersion is = inr refl
help_of_0 kind is = absurd (omega (arith, is))

-- a command line with 0 asks for help or the version
line_of_0 : (line : CommandLineFault) → line_status line ≡ 0
    → (error : ClapError) × (line ≡ line_faults.Arguments error) × ((kind_of error ≡ DisplayHelp) ⊎ (kind_of error ≡ DisplayVersion))
line_of_0 (line_faults.Arguments error) is = (error, refl, help_of_0 (kind_of error) is)
line_of_0 other is = absurd (omega (arith, is))

-- a fault with 0 is such a one
pub only_help_is_0 : (fault : LineFault) → status_of fault ≡ 0
    → (error : ClapError) × (fault ≡ faults.CommandLine (line_faults.Arguments error)) × ((kind_of error ≡ DisplayHelp) ⊎ (kind_of error ≡ DisplayVersion))
only_help_is_0 (faults.CommandLine line) is =
    let of = line_of_0 line is in
    (of.0, ap faults.CommandLine of.1, of.2)
only_help_is_0 faults.NoText is = absurd (omega (arith, is))
only_help_is_0 faults.SameFile is = absurd (omega (arith, is))
only_help_is_0 (faults.Program kind) is = absurd (omega (arith, is))
only_help_is_0 faults.Stopped is = absurd (omega (arith, is))
only_help_is_0 faults.NoLine is = absurd (omega (arith, is))
only_help_is_0 (faults.Trace fault) is = absurd (omega (arith, is))
only_help_is_0 (faults.History fault) is = absurd (omega (arith, is))
only_help_is_0 (faults.Dump fault) is = absurd (omega (arith, is))
only_help_is_0 (faults.Heap fault) is = absurd (omega (arith, is))
only_help_is_0 (faults.Shared fault) is = absurd (omega (arith, is))
only_help_is_0 faults.HistoryDiffers is = absurd (omega (arith, is))
only_help_is_0 faults.Limits is = absurd (omega (arith, is))
only_help_is_0 (faults.Pace why) is = absurd (omega (arith, is))
only_help_is_0 faults.Open is = absurd (omega (arith, is))
only_help_is_0 faults.Read is = absurd (omega (arith, is))
only_help_is_0 faults.Write is = absurd (omega (arith, is))
only_help_is_0 faults.TooLong is = absurd (omega (arith, is))
only_help_is_0 faults.OutOfMemory is = absurd (omega (arith, is))

-- help and the version have 0, and what else clap refuses 2
pub help_is_0 : (kind : ErrorKind) → (kind ≡ DisplayHelp) ⊎ (kind ≡ DisplayVersion) → arguments_status kind ≡ 0
help_is_0 kind (inl is) = rw is refl
help_is_0 kind (inr is) = rw is refl

pub no_help_is_2 : (kind : ErrorKind) → kind ≢ DisplayHelp → kind ≢ DisplayVersion → arguments_status kind ≡ 2
no_help_is_2 DisplayHelp help version = absurd (help refl)
no_help_is_2 DisplayVersion help version = absurd (version refl)
no_help_is_2 kind help version = refl

-- a run ends with 0 where it gave all that was due
run_is_0 : (due : Result (List ℕ × Summary) RunFault) (outcome : Result Summary RunFault) (old new : Option (List ℕ)) → Ends due outcome old new → IsWayStatus (by_way outcome) 0
    → (run : List ℕ × Summary) × (due ≡ Ok run) × Appends old new run.0
run_is_0 due (Ok summary) old new ends status = ((text_of due, summary), ends.0, ends.1)
run_is_0 due (Err fault) old new ends status = absurd (way_fault_is_not_0 (of_run_fault fault) status)

-- a run that was refused memory has written nothing of its total line
run_is_3 : (due : Result (List ℕ × Summary) RunFault) (outcome : Result Summary RunFault) (old new : Option (List ℕ)) → Ends due outcome old new → IsWayStatus (by_way outcome) 3 → StopsBeforeTotal due old new
run_is_3 due (Ok summary) old new ends (inl is) = absurd (omega (arith, is))
run_is_3 due (Ok summary) old new ends (inr is) = absurd (omega (arith, is))
run_is_3 due (Err run_faults.Read) old new ends is = absurd (omega (arith, is))
run_is_3 due (Err run_faults.Long) old new ends is = absurd (omega (arith, is))
run_is_3 due (Err (run_faults.Trace fault)) old new ends is = absurd (omega (arith, is))
run_is_3 due (Err (run_faults.New fault)) old new ends is = absurd (omega (arith, is))
run_is_3 due (Err run_faults.Write) old new ends is = absurd (omega (arith, is))
run_is_3 due (Err run_faults.OutOfMemory) old new ends is = ends

-- a run of an input with a fault ends with 1 or 3
run_of_fault : (due : Result (List ℕ × Summary) RunFault) (fault : RunFault) (outcome : Result Summary RunFault) (status : ℕ) (old new : Option (List ℕ))
    → due ≡ Err fault → Ends due outcome old new → IsWayStatus (by_way outcome) status → (status ≡ 1) ⊎ (status ≡ 3)
run_of_fault due fault (Ok summary) status old new is ends own = absurd (let done = ends.0 in cc)
run_of_fault due fault (Err other) status old new is ends own = way_is_1_or_3 (Err (of_run_fault other)) status (λ summary is. absurd cc) own

-- a check ends with no other fault than those that come once the command line is understood
replay_fault_is_1_or_3 : (input : List ℕ) (fault : LineFault) (old new : Option (List ℕ)) → ReplayEnds input (Err fault) old new → (status_of fault ≡ 1) ⊎ (status_of fault ≡ 3)
replay_fault_is_1_or_3 input faults.Write old new ends = inl refl
replay_fault_is_1_or_3 input faults.TooLong old new ends = inl refl
replay_fault_is_1_or_3 input (faults.History fault) old new ends = inl refl
replay_fault_is_1_or_3 input faults.Read old new ends = inl refl
replay_fault_is_1_or_3 input faults.OutOfMemory old new ends = inr refl
replay_fault_is_1_or_3 input fault old new ends = absurd ends

-- a check that was refused memory has written nothing
replay_memory_keeps : (input : List ℕ) (fault : LineFault) (old new : Option (List ℕ)) → ReplayEnds input (Err fault) old new → status_of fault ≡ 3 → Keeps old new
replay_memory_keeps input faults.Write old new ends is = absurd (omega (arith, is))
replay_memory_keeps input faults.TooLong old new ends is = absurd (omega (arith, is))
replay_memory_keeps input (faults.History fault) old new ends is = absurd (omega (arith, is))
replay_memory_keeps input faults.Read old new ends is = ends
replay_memory_keeps input faults.OutOfMemory old new ends is = ends
replay_memory_keeps input fault old new ends is = absurd ends

-- what 0, 3 and 4 say of a check, and that no other status but 1 comes
replay_is_0 : (input : List ℕ) (outcome : Result Verdict LineFault) (old new : Option (List ℕ)) → ReplayEnds input outcome old new → IsReplayStatus outcome 0
    → (h : HistoryState) × (count : ℕ) × IsJudged input h (Legal count) × Appends old new (report_text h (Legal count))
replay_is_0 input (Ok (Legal count)) old new ends is = (ends.0, count, ends.1, ends.2)
replay_is_0 input (Ok (Wrong at expected)) old new ends (inl is) = absurd (omega (arith, is))
replay_is_0 input (Ok (Wrong at expected)) old new ends (inr is) = absurd (omega (arith, is))
replay_is_0 input (Err fault) old new ends is =
    elim (replay_fault_is_1_or_3 input fault old new ends) [ inl one ↦ absurd (omega (arith, is, one)) | inr three ↦ absurd (omega (arith, is, three)) ]

replay_is_4 : (input : List ℕ) (outcome : Result Verdict LineFault) (old new : Option (List ℕ)) → ReplayEnds input outcome old new → IsReplayStatus outcome 4
    → (h : HistoryState) × (at : ℕ) × (expected : Result Reply Refusal) × IsJudged input h (Wrong at expected) × Appends old new (report_text h (Wrong at expected))
replay_is_4 input (Ok (Legal count)) old new ends (inl is) = absurd (omega (arith, is))
replay_is_4 input (Ok (Legal count)) old new ends (inr is) = absurd (omega (arith, is))
replay_is_4 input (Ok (Wrong at expected)) old new ends is = (ends.0, at, expected, ends.1, ends.2)
replay_is_4 input (Err fault) old new ends is =
    elim (replay_fault_is_1_or_3 input fault old new ends) [ inl one ↦ absurd (omega (arith, is, one)) | inr three ↦ absurd (omega (arith, is, three)) ]

replay_is_3 : (input : List ℕ) (outcome : Result Verdict LineFault) (old new : Option (List ℕ)) → ReplayEnds input outcome old new → IsReplayStatus outcome 3 → Keeps old new
replay_is_3 input (Ok (Legal count)) old new ends (inl is) = absurd (omega (arith, is))
replay_is_3 input (Ok (Legal count)) old new ends (inr is) = absurd (omega (arith, is))
replay_is_3 input (Ok (Wrong at expected)) old new ends (inl is) = absurd (omega (arith, is))
replay_is_3 input (Ok (Wrong at expected)) old new ends (inr is) = absurd (omega (arith, is))
replay_is_3 input (Err fault) old new ends is = replay_memory_keeps input fault old new ends (sym is)

replay_is_0_1_3_or_4 : (input : List ℕ) (outcome : Result Verdict LineFault) (status : ℕ) (old new : Option (List ℕ)) → ReplayEnds input outcome old new → IsReplayStatus outcome status
    → ((status ≡ 0) ⊎ (status ≡ 4)) ⊎ ((status ≡ 1) ⊎ (status ≡ 3))
replay_is_0_1_3_or_4 input (Ok (Legal count)) status old new ends (inl is) = inl (inl is)
replay_is_0_1_3_or_4 input (Ok (Legal count)) status old new ends (inr is) = inr (inl is)
replay_is_0_1_3_or_4 input (Ok (Wrong at expected)) status old new ends (inl is) = inl (inr is)
replay_is_0_1_3_or_4 input (Ok (Wrong at expected)) status old new ends (inr is) = inr (inl is)
replay_is_0_1_3_or_4 input (Err fault) status old new ends is =
    elim (replay_fault_is_1_or_3 input fault old new ends) [ inl one ↦ inr (inl (is ∙ one)) | inr three ↦ inr (inr (is ∙ three)) ]

-- writing a text of a dump ends with no other fault than those that come once the command line is understood
count_fault_is_1_or_3 : (text : GraphState → List ℕ) (input : List ℕ) (fault : LineFault) (old new : Option (List ℕ)) → DumpEnds text input (Err fault) old new → (status_of fault ≡ 1) ⊎ (status_of fault ≡ 3)
count_fault_is_1_or_3 text input faults.Write old new ends = inl refl
count_fault_is_1_or_3 text input (faults.Dump fault) old new ends = inl refl
count_fault_is_1_or_3 text input faults.Read old new ends = inl refl
count_fault_is_1_or_3 text input faults.OutOfMemory old new ends = inr refl
count_fault_is_1_or_3 text input fault old new ends = absurd ends

count_memory_keeps : (text : GraphState → List ℕ) (input : List ℕ) (fault : LineFault) (old new : Option (List ℕ)) → DumpEnds text input (Err fault) old new → status_of fault ≡ 3 → Keeps old new
count_memory_keeps text input faults.Write old new ends is = absurd (omega (arith, is))
count_memory_keeps text input (faults.Dump fault) old new ends is = absurd (omega (arith, is))
count_memory_keeps text input faults.Read old new ends is = ends
count_memory_keeps text input faults.OutOfMemory old new ends is = ends
count_memory_keeps text input fault old new ends is = absurd ends

pub count_is_0 : (text : GraphState → List ℕ) (input : List ℕ) (outcome : Result (Unit {0}) LineFault) (old new : Option (List ℕ)) → DumpEnds text input outcome old new → IsCountStatus outcome 0
    → (g : GraphState) × (graph_of_text input ≡ Ok g) × Appends old new (text g)
count_is_0 text input (Ok done) old new ends is = ends
count_is_0 text input (Err fault) old new ends is =
    elim (count_fault_is_1_or_3 text input fault old new ends) [ inl one ↦ absurd (omega (arith, is, one)) | inr three ↦ absurd (omega (arith, is, three)) ]

count_is_3 : (text : GraphState → List ℕ) (input : List ℕ) (outcome : Result (Unit {0}) LineFault) (old new : Option (List ℕ)) → DumpEnds text input outcome old new → IsCountStatus outcome 3 → Keeps old new
count_is_3 text input (Ok done) old new ends (inl is) = absurd (omega (arith, is))
count_is_3 text input (Ok done) old new ends (inr is) = absurd (omega (arith, is))
count_is_3 text input (Err fault) old new ends is = count_memory_keeps text input fault old new ends (sym is)

pub count_is_0_1_or_3 : (text : GraphState → List ℕ) (input : List ℕ) (outcome : Result (Unit {0}) LineFault) (status : ℕ) (old new : Option (List ℕ)) → DumpEnds text input outcome old new → IsCountStatus outcome status
    → (status ≡ 0) ⊎ ((status ≡ 1) ⊎ (status ≡ 3))
count_is_0_1_or_3 text input (Ok done) status old new ends (inl is) = inl is
count_is_0_1_or_3 text input (Ok done) status old new ends (inr is) = inr (inl is)
count_is_0_1_or_3 text input (Err fault) status old new ends is =
    elim (count_fault_is_1_or_3 text input fault old new ends) [ inl one ↦ inr (inl (is ∙ one)) | inr three ↦ inr (inr (is ∙ three)) ]

-- none of these is 2 or 4
not_2_or_4 : (status n : ℕ) → (n ≡ 2) ⊎ (n ≡ 4) → (status ≡ 0) ⊎ ((status ≡ 1) ⊎ (status ≡ 3)) → status ≡ n → ⊥
not_2_or_4 status n (inl two) (inl is) at = omega (arith, two, is, at)
not_2_or_4 status n (inl two) (inr (inl is)) at = omega (arith, two, is, at)
not_2_or_4 status n (inl two) (inr (inr is)) at = omega (arith, two, is, at)
not_2_or_4 status n (inr four) (inl is) at = omega (arith, four, is, at)
not_2_or_4 status n (inr four) (inr (inl is)) at = omega (arith, four, is, at)
not_2_or_4 status n (inr four) (inr (inr is)) at = omega (arith, four, is, at)

pub late_of_three : (status : ℕ) → (status ≡ 0) ⊎ ((status ≡ 1) ⊎ (status ≡ 3)) → IsLateStatus status
late_of_three status (inl is) = (omega (arith, is), λ two. omega (arith, is, two))
late_of_three status (inr (inl is)) = (omega (arith, is), λ two. omega (arith, is, two))
late_of_three status (inr (inr is)) = (omega (arith, is), λ two. omega (arith, is, two))

pub late_of_four : (status : ℕ) → ((status ≡ 0) ⊎ (status ≡ 4)) ⊎ ((status ≡ 1) ⊎ (status ≡ 3)) → IsLateStatus status
late_of_four status (inl (inl is)) = (omega (arith, is), λ two. omega (arith, is, two))
late_of_four status (inl (inr is)) = (omega (arith, is), λ two. omega (arith, is, two))
late_of_four status (inr (inl is)) = (omega (arith, is), λ two. omega (arith, is, two))
late_of_four status (inr (inr is)) = (omega (arith, is), λ two. omega (arith, is, two))

-- a picture's fault has 1 or 3, and with 3 nothing is written
draw_fault_is_1_or_3 : (fault : LineFault) (old new : Option (List ℕ)) → DrawEnds (Err fault) old new → (status_of fault ≡ 1) ⊎ (status_of fault ≡ 3)
draw_fault_is_1_or_3 faults.Write old new ends = inl refl
draw_fault_is_1_or_3 (faults.Trace fault) old new ends = inl refl
draw_fault_is_1_or_3 (faults.Heap fault) old new ends = inl refl
draw_fault_is_1_or_3 faults.NoLine old new ends = inl refl
draw_fault_is_1_or_3 faults.TooLong old new ends = inl refl
draw_fault_is_1_or_3 faults.Read old new ends = inl refl
draw_fault_is_1_or_3 faults.OutOfMemory old new ends = inr refl
draw_fault_is_1_or_3 fault old new ends = absurd ends

draw_is_0_1_or_3 : (outcome : Result (Unit {0}) LineFault) (status : ℕ) (old new : Option (List ℕ)) → DrawEnds outcome old new → IsCountStatus outcome status
    → (status ≡ 0) ⊎ ((status ≡ 1) ⊎ (status ≡ 3))
draw_is_0_1_or_3 (Ok done) status old new ends (inl is) = inl is
draw_is_0_1_or_3 (Ok done) status old new ends (inr is) = inr (inl is)
draw_is_0_1_or_3 (Err fault) status old new ends is =
    elim (draw_fault_is_1_or_3 fault old new ends) [ inl one ↦ inr (inl (is ∙ one)) | inr three ↦ inr (inr (is ∙ three)) ]

draw_memory_keeps : (fault : LineFault) (old new : Option (List ℕ)) → DrawEnds (Err fault) old new → status_of fault ≡ 3 → Keeps old new
draw_memory_keeps faults.Write old new ends is = absurd (omega (arith, is))
draw_memory_keeps (faults.Trace fault) old new ends is = ends
draw_memory_keeps (faults.Heap fault) old new ends is = ends
draw_memory_keeps faults.NoLine old new ends is = ends
draw_memory_keeps faults.TooLong old new ends is = ends
draw_memory_keeps faults.Read old new ends is = ends
draw_memory_keeps faults.OutOfMemory old new ends is = ends
draw_memory_keeps fault old new ends is = absurd ends

draw_is_3 : (outcome : Result (Unit {0}) LineFault) (old new : Option (List ℕ)) → DrawEnds outcome old new → IsCountStatus outcome 3 → Keeps old new
draw_is_3 (Ok done) old new ends (inl is) = absurd (omega (arith, is))
draw_is_3 (Ok done) old new ends (inr is) = absurd (omega (arith, is))
draw_is_3 (Err fault) old new ends is = draw_memory_keeps fault old new ends (sym is)

draw_is_0 : (outcome : Result (Unit {0}) LineFault) (old new : Option (List ℕ)) → DrawEnds outcome old new → IsCountStatus outcome 0 → (text : List ℕ) × Appends old new text
draw_is_0 (Ok done) old new ends is = ends
draw_is_0 (Err fault) old new ends is =
    elim (draw_fault_is_1_or_3 fault old new ends) [ inl one ↦ absurd (omega (arith, is, one)) | inr three ↦ absurd (omega (arith, is, three)) ]

pub concludes_draw_0 : (line : Option ℕ) (input : List ℕ) (old new : Option (List ℕ)) → Concludes (Draw line) input 0 old new → (text : List ℕ) × Appends old new text
concludes_draw_0 line input old new c = draw_is_0 c.0 old new c.1 c.2

pub concludes_draw_3 : (line : Option ℕ) (input : List ℕ) (old new : Option (List ℕ)) → Concludes (Draw line) input 3 old new → Keeps old new
concludes_draw_3 line input old new c = draw_is_3 c.0 old new c.1 c.2

-- what a subcommand ends with is at most 4 and isn't 2
-- a text that was sent has 0 or 1, and 0 where it is written whole
sent_is_0_1_or_3 : (sent : Result (Unit {0}) Write) (status : ℕ) → IsSentStatus sent status → (status ≡ 0) ⊎ ((status ≡ 1) ⊎ (status ≡ 3))
sent_is_0_1_or_3 (Ok done) status (inl is) = inl is
sent_is_0_1_or_3 (Ok done) status (inr is) = inr (inl is)
sent_is_0_1_or_3 (Err error) status is = inr (inl is)

sent_is_not_3 : (sent : Result (Unit {0}) Write) → IsSentStatus sent 3 → ⊥
sent_is_not_3 (Ok done) (inl is) = omega (arith, is)
sent_is_not_3 (Ok done) (inr is) = omega (arith, is)
sent_is_not_3 (Err error) is = omega (arith, is)

sent_is_0 : (sent : Result (Unit {0}) Write) (old new : Option (List ℕ)) → SentEnds sent old new → IsSentStatus sent 0 → (text : List ℕ) × Appends old new text
sent_is_0 (Ok done) old new ends is = ends
sent_is_0 (Err error) old new ends is = absurd (omega (arith, is))

pub concludes_completions_0 : (shell : Shell) (input : List ℕ) (old new : Option (List ℕ)) → Concludes (Completions shell) input 0 old new → (text : List ℕ) × Appends old new text
concludes_completions_0 shell input old new c = sent_is_0 c.0 old new c.1 c.2

pub concludes_completions_3 : (shell : Shell) (input : List ℕ) (old new : Option (List ℕ)) → Concludes (Completions shell) input 3 old new → Keeps old new
concludes_completions_3 shell input old new c = absurd (sent_is_not_3 c.0 c.2)

-- a session's status
session_fault_is_1_or_3 : (fault : ShellFault) → (session_status fault ≡ 1) ⊎ (session_status fault ≡ 3)
session_fault_is_1_or_3 shell_faults.Read = inl refl
session_fault_is_1_or_3 shell_faults.Write = inl refl
session_fault_is_1_or_3 shell_faults.OutOfMemory = inr refl

session_is_0_1_or_3 : (outcome : Result Summary ShellFault) (status : ℕ) → IsSessionStatus outcome status → (status ≡ 0) ⊎ ((status ≡ 1) ⊎ (status ≡ 3))
session_is_0_1_or_3 (Ok summary) status is = inl is
session_is_0_1_or_3 (Err fault) status is = inr (rw is (session_fault_is_1_or_3 fault))

session_fault_is_not_0 : (fault : ShellFault) → 0 ≡ session_status fault → ⊥
session_fault_is_not_0 shell_faults.Read is = omega (arith, is)
session_fault_is_not_0 shell_faults.Write is = omega (arith, is)
session_fault_is_not_0 shell_faults.OutOfMemory is = omega (arith, is)

session_is_0 : (outcome : Result Summary ShellFault) (input : List ℕ) (old new : Option (List ℕ)) → SessionEnds input outcome old new → IsSessionStatus outcome 0
    → (text : List ℕ) × (summary : Summary) × IsSession (lines_of input) text summary × Appends old new text
session_is_0 (Ok summary) input old new ends is = (ends.0, summary, ends.1, ends.2)
session_is_0 (Err fault) input old new ends is = absurd (session_fault_is_not_0 fault is)

pub concludes_session_0 : (input : List ℕ) (old new : Option (List ℕ)) → Concludes Session input 0 old new
    → (text : List ℕ) × (summary : Summary) × IsSession (lines_of input) text summary × Appends old new text
concludes_session_0 input old new c = session_is_0 c.0 input old new c.1 c.2

pub concludes_lisp_0 : (limits : Limits) (input : List ℕ) (old new : Option (List ℕ)) → Concludes (Lisp limits) input 0 old new
    → (program : ProgramState) × IsLispRun (as_new limits.steps program) program × (program.machine.ended ≡ Some Halted) × Appends old new (output_text program)
concludes_lisp_0 limits input old new c = lisp_is_0 c.0 limits.steps input old new c.1 c.2

pub concludes_lisp_3 : (limits : Limits) (input : List ℕ) (old new : Option (List ℕ)) → Concludes (Lisp limits) input 3 old new → Keeps old new
concludes_lisp_3 limits input old new c = lisp_is_3 c.0 limits.steps input old new c.1 c.2

pub concludes_late : (subcommand : Subcommand) (input : List ℕ) (status : ℕ) (old new : Option (List ℕ)) → Concludes subcommand input status old new → IsLateStatus status
concludes_late Run input status old new c = late_of_three status (way_is_0_1_or_3 (by_way c.0) status c.2)
concludes_late (RunPaced mark) input status old new c = late_of_three status (way_is_0_1_or_3 c.0 status c.2)
concludes_late (RunGrowing at_most) input status old new c = late_of_three status (way_is_0_1_or_3 c.0 status c.2)
concludes_late (Threads replicators idle) input status old new c = late_of_four status (shared_is_0_1_3_or_4 c.0 status c.2)
concludes_late Replay input status old new c = late_of_four status (replay_is_0_1_3_or_4 input c.0 status old new c.1 c.2)
concludes_late Dump input status old new c = late_of_three status (count_is_0_1_or_3 counts_line input c.0 status old new c.1 c.2)
concludes_late Dot input status old new c = late_of_three status (count_is_0_1_or_3 dot_text input c.0 status old new c.1 c.2)
concludes_late Snapshot input status old new c = late_of_three status (count_is_0_1_or_3 snapshot_text input c.0 status old new c.1 c.2)
concludes_late (Why object) input status old new c = late_of_three status (count_is_0_1_or_3 (why_text object) input c.0 status old new c.1 c.2)
concludes_late Session input status old new c = late_of_three status (session_is_0_1_or_3 c.0 status c.2)
concludes_late (Lisp limits) input status old new c = late_of_three status (lisp_is_0_1_or_3 (outcome_in (λ r. r.0) c.0) status c.2)
concludes_late (LispSession limits) input status old new c = late_of_three status (lisp_session_is_0_1_or_3 c.0 status c.2)
concludes_late (Completions shell) input status old new c = late_of_three status (sent_is_0_1_or_3 c.0 status c.2)
concludes_late (Draw line) input status old new c = late_of_three status (draw_is_0_1_or_3 c.0 status old new c.1 c.2)

pub concludes_run_0 : (input : List ℕ) (old new : Option (List ℕ)) → Concludes Run input 0 old new → (run : List ℕ × Summary) × (run_of input ≡ Ok run) × Appends old new run.0
concludes_run_0 input old new c = run_is_0 (run_of input) c.0 old new c.1 c.2

pub concludes_replay_0 : (input : List ℕ) (old new : Option (List ℕ)) → Concludes Replay input 0 old new
    → (h : HistoryState) × (count : ℕ) × IsJudged input h (Legal count) × Appends old new (report_text h (Legal count))
concludes_replay_0 input old new c = replay_is_0 input c.0 old new c.1 c.2

pub concludes_dump_0 : (input : List ℕ) (old new : Option (List ℕ)) → Concludes Dump input 0 old new → (g : GraphState) × (graph_of_text input ≡ Ok g) × Appends old new (counts_line g)
concludes_dump_0 input old new c = count_is_0 counts_line input c.0 old new c.1 c.2

pub concludes_dot_0 : (input : List ℕ) (old new : Option (List ℕ)) → Concludes Dot input 0 old new → (g : GraphState) × (graph_of_text input ≡ Ok g) × Appends old new (dot_text g)
concludes_dot_0 input old new c = count_is_0 dot_text input c.0 old new c.1 c.2

pub concludes_snapshot_0 : (input : List ℕ) (old new : Option (List ℕ)) → Concludes Snapshot input 0 old new → (g : GraphState) × (graph_of_text input ≡ Ok g) × Appends old new (snapshot_text g)
concludes_snapshot_0 input old new c = count_is_0 snapshot_text input c.0 old new c.1 c.2

pub concludes_why_0 : (object : ℕ) (input : List ℕ) (old new : Option (List ℕ)) → Concludes (Why object) input 0 old new → (g : GraphState) × (graph_of_text input ≡ Ok g) × Appends old new (why_text object g)
concludes_why_0 object input old new c = count_is_0 (why_text object) input c.0 old new c.1 c.2

pub concludes_run_3 : (input : List ℕ) (old new : Option (List ℕ)) → Concludes Run input 3 old new → StopsBeforeTotal (run_of input) old new
concludes_run_3 input old new c = run_is_3 (run_of input) c.0 old new c.1 c.2

pub concludes_replay_3 : (input : List ℕ) (old new : Option (List ℕ)) → Concludes Replay input 3 old new → Keeps old new
concludes_replay_3 input old new c = replay_is_3 input c.0 old new c.1 c.2

pub concludes_dump_3 : (input : List ℕ) (old new : Option (List ℕ)) → Concludes Dump input 3 old new → Keeps old new
concludes_dump_3 input old new c = count_is_3 counts_line input c.0 old new c.1 c.2

pub concludes_dot_3 : (input : List ℕ) (old new : Option (List ℕ)) → Concludes Dot input 3 old new → Keeps old new
concludes_dot_3 input old new c = count_is_3 dot_text input c.0 old new c.1 c.2

pub concludes_snapshot_3 : (input : List ℕ) (old new : Option (List ℕ)) → Concludes Snapshot input 3 old new → Keeps old new
concludes_snapshot_3 input old new c = count_is_3 snapshot_text input c.0 old new c.1 c.2

pub concludes_why_3 : (object : ℕ) (input : List ℕ) (old new : Option (List ℕ)) → Concludes (Why object) input 3 old new → Keeps old new
concludes_why_3 object input old new c = count_is_3 (why_text object) input c.0 old new c.1 c.2

pub concludes_4 : (subcommand : Subcommand) (input : List ℕ) (old new : Option (List ℕ)) → Concludes subcommand input 4 old new
    → ((subcommand ≡ Replay) × ((h : HistoryState) × (at : ℕ) × (expected : Result Reply Refusal) × IsJudged input h (Wrong at expected) × Appends old new (report_text h (Wrong at expected))))
    ⊎ ((replicators : ℕ) × (idle : ℕ) × (subcommand ≡ Threads replicators idle) × Keeps old new)
concludes_4 Run input old new c = absurd (not_2_or_4 4 4 (inr refl) (way_is_0_1_or_3 (by_way c.0) 4 c.2) refl)
concludes_4 (RunPaced mark) input old new c = absurd (not_2_or_4 4 4 (inr refl) (way_is_0_1_or_3 c.0 4 c.2) refl)
concludes_4 (RunGrowing at_most) input old new c = absurd (not_2_or_4 4 4 (inr refl) (way_is_0_1_or_3 c.0 4 c.2) refl)
concludes_4 (Threads replicators idle) input old new c =
    inr (replicators, idle, refl, shared_is_4 (record { replicators = replicators; idle = idle }) input c.0 old new c.1 c.2)
concludes_4 Replay input old new c = inl (refl, replay_is_4 input c.0 old new c.1 c.2)
concludes_4 Dump input old new c = absurd (not_2_or_4 4 4 (inr refl) (count_is_0_1_or_3 counts_line input c.0 4 old new c.1 c.2) refl)
concludes_4 Dot input old new c = absurd (not_2_or_4 4 4 (inr refl) (count_is_0_1_or_3 dot_text input c.0 4 old new c.1 c.2) refl)
concludes_4 Snapshot input old new c = absurd (not_2_or_4 4 4 (inr refl) (count_is_0_1_or_3 snapshot_text input c.0 4 old new c.1 c.2) refl)
concludes_4 (Why object) input old new c = absurd (not_2_or_4 4 4 (inr refl) (count_is_0_1_or_3 (why_text object) input c.0 4 old new c.1 c.2) refl)
concludes_4 Session input old new c = absurd (not_2_or_4 4 4 (inr refl) (session_is_0_1_or_3 c.0 4 c.2) refl)
concludes_4 (Lisp limits) input old new c = absurd (not_2_or_4 4 4 (inr refl) (lisp_is_0_1_or_3 (outcome_in (λ r. r.0) c.0) 4 c.2) refl)
concludes_4 (LispSession limits) input old new c = absurd (not_2_or_4 4 4 (inr refl) (lisp_session_is_0_1_or_3 c.0 4 c.2) refl)
concludes_4 (Completions shell) input old new c = absurd (not_2_or_4 4 4 (inr refl) (sent_is_0_1_or_3 c.0 4 c.2) refl)
concludes_4 (Draw line) input old new c = absurd (not_2_or_4 4 4 (inr refl) (draw_is_0_1_or_3 c.0 4 old new c.1 c.2) refl)

pub concludes_run_fault : (input : List ℕ) (fault : RunFault) (status : ℕ) (old new : Option (List ℕ)) → run_of input ≡ Err fault → Concludes Run input status old new → (status ≡ 1) ⊎ (status ≡ 3)
concludes_run_fault input fault status old new is c = run_of_fault (run_of input) fault c.0 status old new is c.1 c.2

count_of_fault : (text : GraphState → List ℕ) (input : List ℕ) (fault : DumpFault) (outcome : Result (Unit {0}) LineFault) (status : ℕ) (old new : Option (List ℕ)) → graph_of_text input ≡ Err fault
    → DumpEnds text input outcome old new → IsCountStatus outcome status → (status ≡ 1) ⊎ (status ≡ 3)
count_of_fault text input fault (Ok done) status old new is ends own = absurd (let read = ends.1 in cc)
count_of_fault text input fault (Err other) status old new is ends own =
    elim (count_fault_is_1_or_3 text input other old new ends) [ inl one ↦ inl (own ∙ one) | inr three ↦ inr (own ∙ three) ]

pub concludes_dump_fault : (input : List ℕ) (fault : DumpFault) (status : ℕ) (old new : Option (List ℕ)) → graph_of_text input ≡ Err fault → Concludes Dump input status old new → (status ≡ 1) ⊎ (status ≡ 3)
concludes_dump_fault input fault status old new is c = count_of_fault counts_line input fault c.0 status old new is c.1 c.2

pub concludes_dot_fault : (input : List ℕ) (fault : DumpFault) (status : ℕ) (old new : Option (List ℕ)) → graph_of_text input ≡ Err fault → Concludes Dot input status old new → (status ≡ 1) ⊎ (status ≡ 3)
concludes_dot_fault input fault status old new is c = count_of_fault dot_text input fault c.0 status old new is c.1 c.2

pub concludes_snapshot_fault : (input : List ℕ) (fault : DumpFault) (status : ℕ) (old new : Option (List ℕ)) → graph_of_text input ≡ Err fault → Concludes Snapshot input status old new → (status ≡ 1) ⊎ (status ≡ 3)
concludes_snapshot_fault input fault status old new is c = count_of_fault snapshot_text input fault c.0 status old new is c.1 c.2

pub concludes_why_fault : (object : ℕ) (input : List ℕ) (fault : DumpFault) (status : ℕ) (old new : Option (List ℕ)) → graph_of_text input ≡ Err fault → Concludes (Why object) input status old new → (status ≡ 1) ⊎ (status ≡ 3)
concludes_why_fault object input fault status old new is c = count_of_fault (why_text object) input fault c.0 status old new is c.1 c.2

history_of_fault : (input : List ℕ) (fault : HistoryFault) (outcome : Result Verdict LineFault) (status : ℕ) (old new : Option (List ℕ)) → history_of input ≡ Err fault
    → ReplayEnds input outcome old new → IsReplayStatus outcome status → (status ≡ 1) ⊎ (status ≡ 3)
history_of_fault input fault (Ok verdict) status old new is ends own =
    absurd (let read = ap history_of ends.1.spelled ∙ history_of-spelling ends.0 ends.1.readable in cc)
history_of_fault input fault (Err other) status old new is ends own =
    elim (replay_fault_is_1_or_3 input other old new ends) [ inl one ↦ inl (own ∙ one) | inr three ↦ inr (own ∙ three) ]

pub concludes_replay_fault : (input : List ℕ) (fault : HistoryFault) (status : ℕ) (old new : Option (List ℕ)) → history_of input ≡ Err fault → Concludes Replay input status old new → (status ≡ 1) ⊎ (status ≡ 3)
concludes_replay_fault input fault status old new is c = history_of_fault input fault c.0 status old new is c.1 c.2

-- A run ends with 0 where it came to its end; one of commands that was refused memory has written
-- nothing.
module _ (E : Result Summary (WayFault Unpaced) → Type 0) where
  pub way_is_0 : (outcome : Result Summary (WayFault Unpaced)) → E outcome → IsWayStatus outcome 0 → (summary : Summary) × E (Ok summary)
  way_is_0 (Ok summary) ends is = (summary, ends)
  way_is_0 (Err fault) ends is = absurd (way_fault_is_not_0 fault is)

  pub way_is_3 : (outcome : Result Summary (WayFault Unpaced)) → E outcome → IsWayStatus outcome 3 → E (Err ends.OutOfMemory)
  way_is_3 (Ok summary) ends (inl is) = absurd (omega (arith, is))
  way_is_3 (Ok summary) ends (inr is) = absurd (omega (arith, is))
  way_is_3 (Err fault) ends is = subst (λ (f : WayFault Unpaced). E (Err f)) ((way_memory_is_3 fault).0 (sym is)) ends

  -- where it can't come to its end it has 1 or 3
  way_of_fault : (outcome : Result Summary (WayFault Unpaced)) (status : ℕ) → ((summary : Summary) → E (Ok summary) → ⊥) → E outcome → IsWayStatus outcome status → (status ≡ 1) ⊎ (status ≡ 3)
  way_of_fault outcome status none ends own = way_is_1_or_3 outcome status (λ summary is. none summary (subst E is ends)) own

-- what wasn't done and wasn't cut has written nothing
commands_unwritten : (lacks : Script → Unpaced → Type 0) (Whole : Summary → Type 0) (Half Left : Type 0) (input : List ℕ) (outcome : Result Summary (WayFault Unpaced)) → ((summary : Summary) → Whole summary → ⊥) → (Half → ⊥) → CommandsEnd lacks Whole Half Left Left input outcome → Left
commands_unwritten lacks Whole Half Left input (Ok summary) undone uncut end = absurd (undone summary end)
commands_unwritten lacks Whole Half Left input (Err ends.Write) undone uncut end = absurd (uncut end)
commands_unwritten lacks Whole Half Left input (Err ends.Long) undone uncut end = end.1
commands_unwritten lacks Whole Half Left input (Err (ends.Trace fault)) undone uncut end = end.2
commands_unwritten lacks Whole Half Left input (Err (ends.New fault)) undone uncut end = end.3
commands_unwritten lacks Whole Half Left input (Err (ends.Way why)) undone uncut end = end.4
commands_unwritten lacks Whole Half Left input (Err ends.Read) undone uncut end = end
commands_unwritten lacks Whole Half Left input (Err ends.OutOfMemory) undone uncut end = end

module _ (mark : Option ℕ) (input : List ℕ) (old new : Option (List ℕ)) where
  abbrev EndsPaced : Result Summary (WayFault Unpaced) → Type 0
  EndsPaced outcome = PacedEnds mark input outcome old new

  pub concludes_paced_0 : ConcludesPaced mark input 0 old new → (summary : Summary) × EndsPaced (Ok summary)
  concludes_paced_0 c = way_is_0 EndsPaced c.0 c.1 c.2

  pub concludes_paced_3 : ConcludesPaced mark input 3 old new → Keeps old new
  concludes_paced_3 c = way_is_3 EndsPaced c.0 c.1 c.2

  -- so its whole text is written, and it is one of a trace of commands at its pace
  pub concludes_paced_run : ConcludesPaced mark input 0 old new → (script : Script) × (pace : Pace) × IsRun mark input script pace × Appends old new (paced_text_of script pace)
  concludes_paced_run c =
      let done = concludes_paced_0 c in
      (done.1.0, done.1.1, done.1.2, done.1.4)

  -- what can't be run has one of these, and nothing is written
  pub concludes_paced_fault : (status : ℕ) → ¬ ((script : Script) × (pace : Pace) × IsRun mark input script pace) → ConcludesPaced mark input status old new → ((status ≡ 1) ⊎ (status ≡ 3)) × Keeps old new
  concludes_paced_fault status none c = (
    way_of_fault EndsPaced c.0 status (λ summary ends. none (ends.0, ends.1, ends.2)) c.1 c.2,
    commands_unwritten (HasNoPace mark) (λ summary. EndsPaced (Ok summary)) (EndsPaced (Err ends.Write)) (Keeps old new) input c.0 (λ summary ends. none (ends.0, ends.1, ends.2)) (λ ends. none (ends.0, ends.1, ends.2)) c.1,
  )

-- or on a heap that grows
module _ (at_most : ℕ) (input : List ℕ) (old new : Option (List ℕ)) where
  abbrev EndsSo : Result Summary (WayFault Unpaced) → Type 0
  EndsSo outcome = EndsGrowing at_most input outcome old new

  pub concludes_growing_0 : ConcludesGrowing at_most input 0 old new → (summary : Summary) × EndsSo (Ok summary)
  concludes_growing_0 c = way_is_0 EndsSo c.0 c.1 c.2

  pub concludes_growing_3 : ConcludesGrowing at_most input 3 old new → Keeps old new
  concludes_growing_3 c = way_is_3 EndsSo c.0 c.1 c.2

  pub concludes_growing_run : ConcludesGrowing at_most input 0 old new → (script : Script) × (given : ℕ → Bool) × IsGrowingRun at_most input script × Appends old new (growing_text_of script at_most given)
  concludes_growing_run c =
      let done = concludes_growing_0 c in
      (done.1.0, done.1.1, done.1.2, done.1.4)

  pub concludes_growing_fault : (status : ℕ) → ¬ ((script : Script) × IsGrowingRun at_most input script) → ConcludesGrowing at_most input status old new → ((status ≡ 1) ⊎ (status ≡ 3)) × Keeps old new
  concludes_growing_fault status none c = (
    way_of_fault EndsSo c.0 status (λ summary ends. none (ends.0, ends.2)) c.1 c.2,
    commands_unwritten (λ script. HasNoGrowth (growth_of script at_most)) (λ summary. EndsSo (Ok summary)) (EndsSo (Err ends.Write)) (Keeps old new) input c.0 (λ summary ends. none (ends.0, ends.2)) (λ ends. none (ends.0, ends.2)) c.1,
  )
