-- How what is seen in other ways ends the program.
use Rattle.std.specs.Prelude.{◌≡◌, ℕ, ◌<◌, ◌≤◌, Option, List, length, Result, Ok, Err}
use Rattle.std.specs.Io.KnownBytes.{Appends, Keeps}
use Rattle.rh_text.specs.Output.{AppendsLess}
use Rattle.rh_dump.specs.Dump.{GraphState}
use Rattle.rh_replay.specs.declared.checking.Verdict.{Verdict}
use Rattle.rh_replay.specs.History.{HistoryState}
use Rattle.rh_replay.specs.Reading.{history_of}
use Rattle.rh_replay.specs.Report.{report_text}
use Rattle.rh_trace.specs.declared.run_fault.RunFault.{RunFault}
use Rattle.rh_trace.specs.declared.summary.Summary.{Summary}
use Rattle.rh_trace.specs.declared.way_fault.WayFault.{WayFault}
use Rattle.rh_trace.specs.declared.way_fault.WayFault.TheVariants as ends
use Rattle.rh_trace.specs.Fixed.{by_way}
use Rattle.rh_paced_trace.specs.declared.fault.Unpaced.{Unpaced}
use Rattle.rh_choices.specs.declared.telling.Telling.{Telling}
use Rattle.rh_choices.specs.declared.telling.Telling.TheVariants.{Answers, Echo, Json}
use Rattle.rh_trace_views.specs.Json.{json_dump, json_report}
use Rattle.rh_trace_views.specs.Lines.{report_echo}
use Rattle.rh_trace_views.specs.Run.{Ends, Written}
use Rattle.rh_commands.specs.Ways.{EndsGrowing, EndsPaced}
use Rattle.rh_commands.specs.declared.fault.LineFault.{LineFault}
use Rattle.rh_commands.specs.declared.fault.LineFault.TheVariants as faults
use Rattle.rh_commands.specs.Count.{DumpEnds, IsCountStatus, counts_line}
use Rattle.rh_commands.specs.Replay.{IsJudged, IsReplayStatus}
use Rattle.rh_commands.specs.Runs.{ConcludesViewedBy, IsWayStatus}
use Rattle.rh_commands.specs.ViewLog.{HasCause, ViewLogState}

-- the viewed run ended in a way that fits its input and what was written, the status is that
-- ending's, and its calls went so that it ended so
abbrev pub ConcludesView : Telling → List ℕ → ℕ → ViewLogState → Written → Type 0
ConcludesView telling input status log w =
    (outcome : Result Summary RunFault) × Ends telling input outcome w
    × IsWayStatus (by_way outcome) status
    × HasCause Summary (WayFault Unpaced) ends.Read ends.Write (by_way outcome) status log

-- the same of a run at this mark
abbrev pub ConcludesViewPaced : Option ℕ → Telling → List ℕ → ℕ → ViewLogState → Written → Type 0
ConcludesViewPaced mark telling input status log w =
    ConcludesViewedBy (λ outcome. EndsPaced mark telling input outcome w) status log

-- and of one on a heap that grows to at most so many words
abbrev pub ConcludesViewGrowing : ℕ → Telling → List ℕ → ℕ → ViewLogState → Written → Type 0
ConcludesViewGrowing at_most telling input status log w =
    ConcludesViewedBy (λ outcome. EndsGrowing at_most telling input outcome w) status log

-- the report on a history with this verdict
abbrev pub told_report : Telling → HistoryState → Verdict → List ℕ
told_report Answers = report_text
told_report Echo = report_echo
told_report Json = json_report

-- How the check of an input ends of which the report is told so: as a check ends whose report has
-- this text.
abbrev pub ReportEnds : Telling → List ℕ → Result Verdict LineFault → Option (List ℕ)
    → Option (List ℕ) → Type 0
ReportEnds telling input (Ok verdict) old new =
    (h : HistoryState) × IsJudged input h verdict × Appends old new (told_report telling h verdict)
ReportEnds telling input (Err faults.Write) old new =
    (h : HistoryState) × (verdict : Verdict) × IsJudged input h verdict
    × AppendsLess old new (told_report telling h verdict)
ReportEnds telling input (Err faults.TooLong) old new = (16777216 < length input) × Keeps old new
ReportEnds telling input (Err (faults.History fault)) old new =
    (length input ≤ 16777216) × (history_of input ≡ Err fault) × Keeps old new
ReportEnds telling input (Err faults.Read) old new = Keeps old new
ReportEnds telling input (Err faults.OutOfMemory) old new = Keeps old new
ReportEnds telling input (Err fault) old new = ⊥

-- it ended so, the status is that ending's, and its calls went so that it ended so
abbrev pub ConcludesReport : Telling → List ℕ → ℕ → ViewLogState → Option (List ℕ)
    → Option (List ℕ) → Type 0
ConcludesReport telling input status log old new =
    (outcome : Result Verdict LineFault) × ReportEnds telling input outcome old new
    × IsReplayStatus outcome status
    × HasCause Verdict LineFault faults.Read faults.Write outcome status log

-- the object of a graph's counts
abbrev pub json_counts : GraphState → List ℕ
json_counts g = json_dump (length g.roots) (length g.objects)

-- the counts of a graph, as they are told
abbrev pub told_counts : Telling → GraphState → List ℕ
told_counts Answers = counts_line
told_counts Echo = counts_line
told_counts Json = json_counts

-- writing them ended so, and its calls went so that it ended so
abbrev pub ConcludesCounts : Telling → List ℕ → ℕ → ViewLogState → Option (List ℕ)
    → Option (List ℕ) → Type 0
ConcludesCounts telling input status log old new =
    (outcome : Result (Unit {0}) LineFault) × DumpEnds (told_counts telling) input outcome old new
    × IsCountStatus outcome status
    × HasCause (Unit {0}) LineFault faults.Read faults.Write outcome status log
