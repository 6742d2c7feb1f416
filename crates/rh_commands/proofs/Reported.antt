-- How a check of which the report is told in another way ends.
use Rattle.std.proofs.Common.{◌≡◌, ℕ, ◌<◌, List, ◌++◌, length, Option, Err, Result, Ok, refl, subst, arith}
use Rattle.std.proofs.lemmas.List.{length-append}
use Rattle.std.specs.Io.KnownBytes.{Appends, Keeps}
use Rattle.rh_text.specs.Output.{AppendsLess}
use Rattle.rh_text.specs.lemmas.Appends.{Keeps-same}
use Rattle.rh_replay.specs.declared.checking.Verdict.{Verdict}
use Rattle.rh_replay.specs.History.{HistoryState}
use Rattle.rh_choices.specs.declared.telling.Telling.{Telling}
use Rattle.rh_commands.specs.declared.fault.LineFault.{LineFault}
use Rattle.rh_commands.specs.declared.fault.LineFault.TheVariants as faults
use Rattle.rh_commands.specs.Replay.{IsJudged}
use Rattle.rh_commands.specs.ViewLog.{HasCause, ViewLogState}
use Rattle.rh_commands.specs.Views.{ConcludesReport, ReportEnds, told_report}
use Rattle.rh_commands.proofs.Flushed.{Appends-kept, AppendsLess-kept, Keeps-kept}

-- a read failed
pub unread : (telling : Telling) (input : List ℕ) (log : ViewLogState) (a : Option (List ℕ)) → HasCause Verdict LineFault faults.Read faults.Write (Err faults.Read) 1 log → ConcludesReport telling input 1 log a a
unread telling input log a cause = (Err faults.Read, Keeps-same a, refl, cause)

-- memory was refused
pub unreported : (telling : Telling) (input : List ℕ) (log : ViewLogState) (a : Option (List ℕ)) → HasCause Verdict LineFault faults.Read faults.Write (Err faults.OutOfMemory) 3 log → ConcludesReport telling input 3 log a a
unreported telling input log a cause = (Err faults.OutOfMemory, Keeps-same a, refl, cause)

-- there were too many bytes, and whatever follows them
pub too_long : (telling : Telling) (taken rest : List ℕ) (log : ViewLogState) (a : Option (List ℕ)) → 16777216 < length taken → HasCause Verdict LineFault faults.Read faults.Write (Err faults.TooLong) 1 log
    → ConcludesReport telling (taken ++ rest) 1 log a a
too_long telling taken rest log a many cause = (Err faults.TooLong, (omega (arith, many, length-append taken rest), Keeps-same a), refl, cause)

-- the report was sent, or some of it
pub sent_report : (telling : Telling) (input text : List ℕ) (h : HistoryState) (verdict : Verdict) (old new : Option (List ℕ)) → IsJudged input h verdict → text ≡ told_report telling h verdict → Appends old new text
    → ReportEnds telling input (Ok verdict) old new
sent_report telling input text h verdict old new judged is a = (h, judged, subst (Appends old new) is a)

pub cut_report : (telling : Telling) (input text : List ℕ) (h : HistoryState) (verdict : Verdict) (old new : Option (List ℕ)) → IsJudged input h verdict → text ≡ told_report telling h verdict → AppendsLess old new text
    → ReportEnds telling input (Err faults.Write) old new
cut_report telling input text h verdict old new judged is a = (h, verdict, judged, subst (AppendsLess old new) is a)

-- a check that ended in some way has ended so after a flush too
pub ReportEnds-flushed : (telling : Telling) (input : List ℕ) (r : Result Verdict LineFault) (old mid new : Option (List ℕ)) → ReportEnds telling input r old mid → Keeps mid new → ReportEnds telling input r old new
ReportEnds-flushed telling input (Ok verdict) old mid new e k = (e.0, e.1, Appends-kept old mid new (told_report telling e.0 verdict) e.2 k)
ReportEnds-flushed telling input (Err faults.Write) old mid new e k = (e.0, e.1, e.2, AppendsLess-kept old mid new (told_report telling e.0 e.1) e.3 k)
ReportEnds-flushed telling input (Err faults.TooLong) old mid new e k = (e.0, Keeps-kept old mid new e.1 k)
ReportEnds-flushed telling input (Err (faults.History fault)) old mid new e k = (e.0, e.1, Keeps-kept old mid new e.2 k)
ReportEnds-flushed telling input (Err faults.Read) old mid new e k = Keeps-kept old mid new e k
ReportEnds-flushed telling input (Err faults.OutOfMemory) old mid new e k = Keeps-kept old mid new e k
ReportEnds-flushed telling input (Err fault) old mid new e k = absurd e
