-- What the statuses say of how what is viewed ended.
use Rattle.std.proofs.Common.{◌≡◌, ◌≢◌, ◌↔◌, ◌∙◌, ◌⊎◌, true, false, inl, inr, ℕ, Bool, List, Option, Some, None, Result, Ok, Err, refl, subst, arith}
use Rattle.std.specs.Io.KnownBytes.{Appends, Keeps}
use Rattle.rh_layout.specs.declared.command.Reply.{Reply}
use Rattle.rh_layout.specs.declared.refusal.Refusal.{Refusal}
use Rattle.rh_dump.specs.Dump.{GraphState}
use Rattle.rh_dump.specs.texts.Reading.{graph_of_text}
use Rattle.rh_syntax.specs.Spelling.{Script}
use Rattle.rh_replay.specs.declared.checking.Verdict.{Verdict}
use Rattle.rh_replay.specs.declared.checking.Verdict.TheVariants.{Legal, Wrong}
use Rattle.rh_replay.specs.History.{HistoryState}
use Rattle.rh_replay.specs.Spelling.{spelling}
use Rattle.rh_trace.specs.declared.summary.Summary.{Summary}
use Rattle.rh_trace.specs.declared.run_fault.RunFault.{RunFault}
use Rattle.rh_trace.specs.declared.run_fault.RunFault.TheVariants as run_faults
use Rattle.rh_trace.specs.Run.{answers_of}
use Rattle.rh_trace.specs.declared.way_fault.WayFault.{WayFault}
use Rattle.rh_trace.specs.declared.way_fault.WayFault.TheVariants as way_faults
use Rattle.rh_trace.specs.Fixed.{by_way}
use Rattle.rh_trace.specs.Ways.{of_run_fault}
use Rattle.rh_choices.specs.declared.telling.Telling.{Telling}
use Rattle.rh_trace_views.specs.Cycles.{cycles_text}
use Rattle.rh_trace_views.specs.Run.{Ends, IsRun, IsTold, KeepsAll, Written, run_cycles, run_history, view_of_run}
use Rattle.rh_commands.specs.Ways.{EndsGrowing, EndsPaced, growing_answered, growing_cycles, paced_answered, paced_cycles}
use Rattle.rh_pace.specs.declared.pace.Pace.{Pace}
use Rattle.rh_paced_trace.specs.declared.fault.Unpaced.{Unpaced}
use Rattle.rh_paced_trace.specs.Growing.{IsGrowingRun, growing_sum_of}
use Rattle.rh_paced_trace.specs.Run.{IsRun as IsPacedRun, sum_of}
use Rattle.rh_commands.specs.Runs.{IsWayStatus}
use Rattle.rh_commands.specs.Fault.{IsLateStatus, status_of}
use Rattle.rh_commands.specs.Replay.{IsJudged, IsReplayStatus}
use Rattle.rh_commands.specs.ViewLog.{HasCause, ViewLogState}
use Rattle.rh_cli.specs.Views.{ConcludesViewed, HasFailed, HasRunFault}
use Rattle.rh_commands.specs.Views.{ReportEnds, told_counts, told_report}
use Rattle.rh_command_line.specs.declared.ask.Subcommand.{Subcommand}
use Rattle.rh_command_line.specs.declared.ask.Subcommand.TheVariants.{Run, RunPaced, RunGrowing, Threads, Replay, Dump, Dot, Snapshot, Why, Draw, Session, Lisp, LispSession, Completions}
use Rattle.rh_commands.specs.declared.fault.LineFault.{LineFault}
use Rattle.rh_commands.specs.declared.fault.LineFault.TheVariants as faults
use Rattle.rh_cli.proofs.StatusLaws.{concludes_late, count_is_0, count_is_0_1_or_3, late_of_four, late_of_three, way_fault_is_not_0, way_is_0, way_is_0_1_or_3, way_is_3}

view_is_0 : (outcome : Result Summary RunFault) (telling : Telling) (input : List ℕ) (w : Written) → Ends telling input outcome w → IsWayStatus (by_way outcome) 0
    → (script : Script) × IsRun input script × Appends w.old w.new (view_of_run telling script) × Appends w.history_old w.history_new (spelling (run_history script))
    × Appends w.cycles_old w.cycles_new (cycles_text (run_cycles script))
view_is_0 (Ok summary) telling input w ends is =
    let told = subst (λ (s : Summary). IsTold telling ends.0 (answers_of ends.0) s (run_cycles ends.0) w) ends.2 ends.3 in
    (ends.0, ends.1, told.0, told.1, told.2)
view_is_0 (Err fault) telling input w ends is = absurd (way_fault_is_not_0 (of_run_fault fault) is)

some_is_not_none : (A : Type 0) (o : Option A) (x : A) → o ≡ Some x → o ≢ None
some_is_not_none A o x is none = absurd cc

-- 1 comes from a fault of the input, or from a call that failed
view_is_1 : (outcome : Result Summary RunFault) (telling : Telling) (input : List ℕ) (log : ViewLogState) (w : Written) → Ends telling input outcome w → IsWayStatus (by_way outcome) 1
    → HasCause Summary (WayFault Unpaced) way_faults.Read way_faults.Write (by_way outcome) 1 log → HasRunFault input ⊎ HasFailed log
view_is_1 (Ok summary) telling input log w ends is cause = inr (inr (inr ((cause.flush_failed refl).0 refl)))
view_is_1 (Err run_faults.Read) telling input log w ends is cause = inr (inl (cause.read_failed refl))
view_is_1 (Err run_faults.Write) telling input log w ends is cause = inr (inr (inl (cause.write_failed refl)))
view_is_1 (Err run_faults.Long) telling input log w ends is cause = inl (inl ends.0)
view_is_1 (Err (run_faults.Trace fault)) telling input log w ends is cause = inl (inr (inl (fault, ends.1)))
view_is_1 (Err (run_faults.New fault)) telling input log w ends is cause = inl (inr (inr (ends.0, ends.1, some_is_not_none _ _ fault ends.2)))
view_is_1 (Err run_faults.OutOfMemory) telling input log w ends is cause = absurd (omega (arith, is))

pub viewed_run_1 : (telling : Telling) (input : List ℕ) (log : ViewLogState) (w : Written) → ConcludesViewed telling Run input 1 log w → HasRunFault input ⊎ HasFailed log
viewed_run_1 telling input log w c = view_is_1 c.0 telling input log w c.1 c.2 c.3

-- of a check whose report is told in another way
report_fault_is_1_or_3 : (telling : Telling) (input : List ℕ) (fault : LineFault) (old new : Option (List ℕ)) → ReportEnds telling input (Err fault) old new → (status_of fault ≡ 1) ⊎ (status_of fault ≡ 3)
report_fault_is_1_or_3 telling input faults.Write old new ends = inl refl
report_fault_is_1_or_3 telling input faults.TooLong old new ends = inl refl
report_fault_is_1_or_3 telling input (faults.History fault) old new ends = inl refl
report_fault_is_1_or_3 telling input faults.Read old new ends = inl refl
report_fault_is_1_or_3 telling input faults.OutOfMemory old new ends = inr refl
report_fault_is_1_or_3 telling input fault old new ends = absurd ends

report_is_0_1_3_or_4 : (telling : Telling) (input : List ℕ) (outcome : Result Verdict LineFault) (status : ℕ) (old new : Option (List ℕ)) → ReportEnds telling input outcome old new → IsReplayStatus outcome status
    → ((status ≡ 0) ⊎ (status ≡ 4)) ⊎ ((status ≡ 1) ⊎ (status ≡ 3))
report_is_0_1_3_or_4 telling input (Ok (Legal count)) status old new ends (inl is) = inl (inl is)
report_is_0_1_3_or_4 telling input (Ok (Legal count)) status old new ends (inr is) = inr (inl is)
report_is_0_1_3_or_4 telling input (Ok (Wrong at expected)) status old new ends (inl is) = inl (inr is)
report_is_0_1_3_or_4 telling input (Ok (Wrong at expected)) status old new ends (inr is) = inr (inl is)
report_is_0_1_3_or_4 telling input (Err fault) status old new ends is =
    elim (report_fault_is_1_or_3 telling input fault old new ends) [ inl one ↦ inr (inl (is ∙ one)) | inr three ↦ inr (inr (is ∙ three)) ]

report_is_0 : (telling : Telling) (input : List ℕ) (outcome : Result Verdict LineFault) (old new : Option (List ℕ)) → ReportEnds telling input outcome old new → IsReplayStatus outcome 0
    → (h : HistoryState) × (count : ℕ) × IsJudged input h (Legal count) × Appends old new (told_report telling h (Legal count))
report_is_0 telling input (Ok (Legal count)) old new ends is = (ends.0, count, ends.1, ends.2)
report_is_0 telling input (Ok (Wrong at expected)) old new ends (inl is) = absurd (omega (arith, is))
report_is_0 telling input (Ok (Wrong at expected)) old new ends (inr is) = absurd (omega (arith, is))
report_is_0 telling input (Err fault) old new ends is =
    elim (report_fault_is_1_or_3 telling input fault old new ends) [ inl one ↦ absurd (omega (arith, is, one)) | inr three ↦ absurd (omega (arith, is, three)) ]

report_is_4 : (telling : Telling) (input : List ℕ) (outcome : Result Verdict LineFault) (old new : Option (List ℕ)) → ReportEnds telling input outcome old new → IsReplayStatus outcome 4
    → (h : HistoryState) × (at : ℕ) × (expected : Result Reply Refusal) × IsJudged input h (Wrong at expected) × Appends old new (told_report telling h (Wrong at expected))
report_is_4 telling input (Ok (Legal count)) old new ends (inl is) = absurd (omega (arith, is))
report_is_4 telling input (Ok (Legal count)) old new ends (inr is) = absurd (omega (arith, is))
report_is_4 telling input (Ok (Wrong at expected)) old new ends is = (ends.0, at, expected, ends.1, ends.2)
report_is_4 telling input (Err fault) old new ends is =
    elim (report_fault_is_1_or_3 telling input fault old new ends) [ inl one ↦ absurd (omega (arith, is, one)) | inr three ↦ absurd (omega (arith, is, three)) ]

pub viewed_late : (telling : Telling) (subcommand : Subcommand) (input : List ℕ) (status : ℕ) (log : ViewLogState) (w : Written) → ConcludesViewed telling subcommand input status log w → IsLateStatus status
viewed_late telling Run input status log w c = late_of_three status (way_is_0_1_or_3 (by_way c.0) status c.2)
viewed_late telling (RunPaced mark) input status log w c = late_of_three status (way_is_0_1_or_3 c.0 status c.2)
viewed_late telling (RunGrowing at_most) input status log w c = late_of_three status (way_is_0_1_or_3 c.0 status c.2)
viewed_late telling Replay input status log w c = late_of_four status (report_is_0_1_3_or_4 telling input c.0.0 status w.old w.new c.0.1 c.0.2)
viewed_late telling Dump input status log w c = late_of_three status (count_is_0_1_or_3 (told_counts telling) input c.0.0 status w.old w.new c.0.1 c.0.2)
viewed_late telling (Threads replicators idle) input status log w c = concludes_late (Threads replicators idle) input status w.old w.new c.0
viewed_late telling Dot input status log w c = concludes_late Dot input status w.old w.new c.0
viewed_late telling Snapshot input status log w c = concludes_late Snapshot input status w.old w.new c.0
viewed_late telling (Why object) input status log w c = concludes_late (Why object) input status w.old w.new c.0
viewed_late telling (Draw line) input status log w c = concludes_late (Draw line) input status w.old w.new c.0
viewed_late telling (Lisp limits) input status log w c = concludes_late (Lisp limits) input status w.old w.new c.0
viewed_late telling (LispSession limits) input status log w c = concludes_late (LispSession limits) input status w.old w.new c.0
viewed_late telling Session input status log w c = concludes_late Session input status w.old w.new c.0
viewed_late telling (Completions shell) input status log w c = concludes_late (Completions shell) input status w.old w.new c.0

pub viewed_run_0 : (telling : Telling) (input : List ℕ) (log : ViewLogState) (w : Written) → ConcludesViewed telling Run input 0 log w
    → (script : Script) × IsRun input script × Appends w.old w.new (view_of_run telling script) × Appends w.history_old w.history_new (spelling (run_history script))
    × Appends w.cycles_old w.cycles_new (cycles_text (run_cycles script))
viewed_run_0 telling input log w c = view_is_0 c.0 telling input w c.1 c.2

-- no call failed of a run that is done
unflushed : (failed : Bool) → (◌≡◌ {A = ℕ} 0 1) ↔ (failed ≡ true) → failed ≡ false
unflushed true iff = absurd (omega (arith, iff.1 refl))
unflushed false iff = refl

unfailed : (outcome : Result Summary RunFault) (log : ViewLogState) → IsWayStatus (by_way outcome) 0 → HasCause Summary (WayFault Unpaced) way_faults.Read way_faults.Write (by_way outcome) 0 log
    → (log.reads.failed ≡ false) × (log.writes.failed ≡ false) × (log.flush_failed ≡ false)
unfailed (Ok summary) log is cause = (cause.no_read_failed (λ e. absurd cc), cause.no_write_failed (λ e. absurd cc), unflushed log.flush_failed (cause.flush_failed refl))
unfailed (Err fault) log is cause = absurd (way_fault_is_not_0 (of_run_fault fault) is)

pub viewed_run_unfailed : (telling : Telling) (input : List ℕ) (log : ViewLogState) (w : Written) → ConcludesViewed telling Run input 0 log w → (log.reads.failed ≡ false) × (log.writes.failed ≡ false) × (log.flush_failed ≡ false)
viewed_run_unfailed telling input log w c = unfailed c.0 log c.2 c.3

-- of a paced run, and of a growing one
pub viewed_paced_0 : (mark : Option ℕ) (telling : Telling) (input : List ℕ) (log : ViewLogState) (w : Written) → ConcludesViewed telling (RunPaced mark) input 0 log w
    → (script : Script) × (pace : Pace) × IsPacedRun mark input script pace × IsTold telling script (paced_answered script pace) (sum_of script pace) (paced_cycles script pace) w
viewed_paced_0 mark telling input log w c =
    let ends = (way_is_0 (λ outcome. EndsPaced mark telling input outcome w) c.0 c.1 c.2).1 in
    (ends.0, ends.1, ends.2, subst (λ (s : Summary). IsTold telling ends.0 (paced_answered ends.0 ends.1) s (paced_cycles ends.0 ends.1) w) ends.3 ends.4)

pub viewed_growing_0 : (at_most : ℕ) (telling : Telling) (input : List ℕ) (log : ViewLogState) (w : Written) → ConcludesViewed telling (RunGrowing at_most) input 0 log w
    → (script : Script) × (given : ℕ → Bool) × IsGrowingRun at_most input script
    × IsTold telling script (growing_answered script at_most given) (growing_sum_of script at_most given) (growing_cycles script at_most given) w
viewed_growing_0 at_most telling input log w c =
    let ends = (way_is_0 (λ outcome. EndsGrowing at_most telling input outcome w) c.0 c.1 c.2).1 in
    (ends.0, ends.1, ends.2, subst (λ (s : Summary). IsTold telling ends.0 (growing_answered ends.0 at_most ends.1) s (growing_cycles ends.0 at_most ends.1) w) ends.3 ends.4)

-- where memory was refused nothing of the history is written
history_kept : {Stopped : Type 0} (w : Written) → (Stopped → Keeps w.history_old w.history_new) → KeepsAll w ⊎ Stopped → Keeps w.history_old w.history_new
history_kept w stopped (inl all) = all.1
history_kept w stopped (inr some) = stopped some

view_is_3 : (outcome : Result Summary RunFault) (telling : Telling) (input : List ℕ) (w : Written) → Ends telling input outcome w → IsWayStatus (by_way outcome) 3 → Keeps w.history_old w.history_new
view_is_3 (Ok summary) telling input w ends (inl is) = absurd (omega (arith, is))
view_is_3 (Ok summary) telling input w ends (inr is) = absurd (omega (arith, is))
view_is_3 (Err run_faults.OutOfMemory) telling input w ends is = history_kept w (λ stopped. stopped.2.1) ends
view_is_3 (Err run_faults.Read) telling input w ends is = absurd (omega (arith, is))
view_is_3 (Err run_faults.Write) telling input w ends is = absurd (omega (arith, is))
view_is_3 (Err run_faults.Long) telling input w ends is = absurd (omega (arith, is))
view_is_3 (Err (run_faults.Trace fault)) telling input w ends is = absurd (omega (arith, is))
view_is_3 (Err (run_faults.New fault)) telling input w ends is = absurd (omega (arith, is))

pub viewed_run_3 : (telling : Telling) (input : List ℕ) (log : ViewLogState) (w : Written) → ConcludesViewed telling Run input 3 log w → Keeps w.history_old w.history_new
viewed_run_3 telling input log w c = view_is_3 c.0 telling input w c.1 c.2

pub viewed_paced_3 : (mark : Option ℕ) (telling : Telling) (input : List ℕ) (log : ViewLogState) (w : Written) → ConcludesViewed telling (RunPaced mark) input 3 log w → Keeps w.history_old w.history_new
viewed_paced_3 mark telling input log w c =
    history_kept w (λ stopped. stopped.3.1) (way_is_3 (λ outcome. EndsPaced mark telling input outcome w) c.0 c.1 c.2)

pub viewed_growing_3 : (at_most : ℕ) (telling : Telling) (input : List ℕ) (log : ViewLogState) (w : Written) → ConcludesViewed telling (RunGrowing at_most) input 3 log w → Keeps w.history_old w.history_new
viewed_growing_3 at_most telling input log w c =
    history_kept w (λ stopped. stopped.3.1) (way_is_3 (λ outcome. EndsGrowing at_most telling input outcome w) c.0 c.1 c.2)

pub viewed_replay_0 : (telling : Telling) (input : List ℕ) (log : ViewLogState) (w : Written) → ConcludesViewed telling Replay input 0 log w
    → (h : HistoryState) × (count : ℕ) × IsJudged input h (Legal count) × Appends w.old w.new (told_report telling h (Legal count))
viewed_replay_0 telling input log w c = report_is_0 telling input c.0.0 w.old w.new c.0.1 c.0.2

pub viewed_replay_4 : (telling : Telling) (input : List ℕ) (log : ViewLogState) (w : Written) → ConcludesViewed telling Replay input 4 log w
    → (h : HistoryState) × (at : ℕ) × (expected : Result Reply Refusal) × IsJudged input h (Wrong at expected) × Appends w.old w.new (told_report telling h (Wrong at expected))
viewed_replay_4 telling input log w c = report_is_4 telling input c.0.0 w.old w.new c.0.1 c.0.2

pub viewed_dump_0 : (telling : Telling) (input : List ℕ) (log : ViewLogState) (w : Written) → ConcludesViewed telling Dump input 0 log w
    → (g : GraphState) × (graph_of_text input ≡ Ok g) × Appends w.old w.new (told_counts telling g)
viewed_dump_0 telling input log w c = count_is_0 (told_counts telling) input c.0.0 w.old w.new c.0.1 c.0.2
