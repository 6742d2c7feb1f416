-- What the ends of what is viewed come from.
use Rattle.std.proofs.Common.{◌≡◌, ◌≢◌, ◌⊎◌, ◌↔◌, ℕ, ◌+◌, ◌<◌, ◌≤◌, Bool, true, false, List, Option, Result, Ok, Err, OnOk, OnErr, inl, inr, refl, sym, ap, subst, ◌∙◌, arith}
use Rattle.std.specs.Prelude.{◌-◌, ◌^◌, IsErrOf, IsOk, IsTrue, not}
use Rattle.std.specs.Io.KnownBytes.{Appends, Keeps}
use Rattle.rh_text.specs.declared.output.Write.{Write}
use Rattle.rh_text.specs.Output.{AppendsLess}
use Rattle.rh_text.specs.lemmas.Appends.{Keeps-same}
use Rattle.rh_text.specs.IoLog.{IoLogState, AreSpent, one_more}
use Rattle.rh_dump.specs.declared.reading.fault.DumpFault.{DumpFault}
use Rattle.rh_dump.specs.Dump.{GraphState}
use Rattle.rh_dump.specs.texts.Reading.{graph_of_text}
use Rattle.rh_replay.specs.declared.checking.Verdict.{Verdict}
use Rattle.rh_replay.specs.declared.checking.Verdict.TheVariants.{Legal, Wrong}
use Rattle.rh_trace.specs.declared.summary.Summary.{Summary}
use Rattle.rh_trace.specs.declared.way_fault.WayFault.{WayFault}
use Rattle.rh_paced_trace.specs.declared.fault.Unpaced.{Unpaced}
use Rattle.rh_commands.specs.Count.{IsSentStatus}
use Rattle.rh_commands.specs.Runs.{IsWayStatus}
use Rattle.rh_commands.specs.Replay.{IsReplayStatus, TellsLegal, TellsWrong}
use Rattle.rh_choices.specs.declared.telling.Telling.{Telling}
use Rattle.rh_commands.specs.ViewLog.{HasCause, ViewLogState}
use Rattle.rh_commands.specs.Views.{ConcludesCounts, told_counts}
use Rattle.rh_commands.proofs.Flushed.{Appends-kept, AppendsLess-kept}
use Rattle.rh_commands.specs.declared.fault.LineFault.{LineFault}
use Rattle.rh_commands.specs.declared.fault.LineFault.TheVariants as faults

false_is_not_true : false ≡ true → ⊥
false_is_not_true is = absurd cc

-- 1 where a flush failed, if the status is another one exactly where none did
one_where_failed : (status own : ℕ) (failed : Bool) (P : Type 0) → (own ≡ 0) ⊎ (own ≡ 4) → (status ≡ own) ⊎ (status ≡ 1) → (status ≡ own) ↔ (P × IsTrue (not failed)) → P → (status ≡ 1) ↔ (failed ≡ true)
one_where_failed status own true P (inl zero) (inl is) iff p = absurd (false_is_not_true (iff.0 is).1)
one_where_failed status own true P (inr four) (inl is) iff p = absurd (false_is_not_true (iff.0 is).1)
one_where_failed status own true P quiet (inr one) iff p = (λ is. refl, λ is. one)
one_where_failed status own false P (inl zero) told iff p = (λ one. absurd (omega (arith, zero, one, iff.1 (p, refl))), λ is. absurd (false_is_not_true is))
one_where_failed status own false P (inr four) told iff p = (λ one. absurd (omega (arith, four, one, iff.1 (p, refl))), λ is. absurd (false_is_not_true is))

pub way_flushed : (r : Result Summary (WayFault Unpaced)) (status : ℕ) (failed : Bool) → IsWayStatus r status → (status ≡ 0) ↔ (IsOk r × IsTrue (not failed)) → IsOk r → (status ≡ 1) ↔ (failed ≡ true)
way_flushed (Ok summary) status failed is iff ok = one_where_failed status 0 failed (IsOk {E = WayFault Unpaced} (Ok summary)) (inl refl) is iff ok
way_flushed (Err fault) status failed is iff ok = absurd (false_is_not_true ok)

pub report_flushed : (r : Result Verdict LineFault) (status : ℕ) (failed : Bool) → IsReplayStatus r status → (status ≡ 0) ↔ (TellsLegal r × IsTrue (not failed)) → (status ≡ 4) ↔ (TellsWrong r × IsTrue (not failed)) → IsOk r
    → (status ≡ 1) ↔ (failed ≡ true)
report_flushed (Ok (Legal count)) status failed is legal wrong ok = one_where_failed status 0 failed (TellsLegal (Ok (Legal count))) (inl refl) is legal tt
report_flushed (Ok (Wrong at expected)) status failed is legal wrong ok = one_where_failed status 4 failed (TellsWrong (Ok (Wrong at expected))) (inr refl) is wrong tt
report_flushed (Err fault) status failed is legal wrong ok = absurd (false_is_not_true ok)

pub sent_flushed : (sent : Result (Unit {0}) Write) (status : ℕ) (failed : Bool) → IsSentStatus sent status → (status ≡ 0) ↔ (IsOk sent × IsTrue (not failed)) → IsOk sent → (status ≡ 1) ↔ (failed ≡ true)
sent_flushed (Ok done) status failed is iff ok = one_where_failed status 0 failed (IsOk {E = Write} (Ok done)) (inl refl) is iff ok
sent_flushed (Err error) status failed is iff ok = absurd (false_is_not_true ok)

-- the calls of an outcome are those that a flush left
pub caused : (X E : Type 0) (read write : E) (outcome : Result X E) (status : ℕ) (log : ViewLogState) (reads writes : IoLogState) → log.reads ≡ reads → log.writes ≡ writes → (IsErrOf outcome read → AreSpent reads)
    → (¬ IsErrOf outcome read → reads.failed ≡ false) → (IsErrOf outcome write → AreSpent writes) → (¬ IsErrOf outcome write → writes.failed ≡ false) → (IsOk outcome → (status ≡ 1) ↔ (log.flush_failed ≡ true))
    → HasCause X E read write outcome status log
caused X E read write outcome status log reads writes reads_are writes_are r nr w nw f = record {
  read_failed = λ is. subst AreSpent (sym reads_are) (r is);
  no_read_failed = λ other. ap (λ (l : IoLogState). l.failed) reads_are ∙ nr other;
  write_failed = λ is. subst AreSpent (sym writes_are) (w is);
  no_write_failed = λ other. ap (λ (l : IoLogState). l.failed) writes_are ∙ nw other;
  flush_failed = f;
}

-- a read failed
pub cause_of_read : (X : Type 0) (status : ℕ) (log : ViewLogState) → AreSpent log.reads → log.writes.failed ≡ false → HasCause X LineFault faults.Read faults.Write (Err faults.Read) status log
cause_of_read X status log spent fine = record {
  read_failed = λ is. spent;
  no_read_failed = λ other. absurd (other refl);
  write_failed = λ is. absurd cc;
  no_write_failed = λ other. fine;
  flush_failed = λ ok. absurd (false_is_not_true ok);
}

-- nor did another call
pub cause_of_other : (X : Type 0) (fault : LineFault) (status : ℕ) (log : ViewLogState) → ¬ (fault ≡ faults.Read) → ¬ (fault ≡ faults.Write) → log.reads.failed ≡ false → log.writes.failed ≡ false
    → HasCause X LineFault faults.Read faults.Write (Err fault) status log
cause_of_other X fault status log unread unsent reads writes = record {
  read_failed = λ is. absurd (unread cc);
  no_read_failed = λ other. reads;
  write_failed = λ is. absurd (unsent cc);
  no_write_failed = λ other. writes;
  flush_failed = λ ok. absurd (false_is_not_true ok);
}

-- an error is none but its own
pub other_error : (X E : Type 0) (error own other : E) → error ≡ own → ¬ (own ≡ other) → ¬ IsErrOf {T = X} (Err error) other
other_error X E error own other is differs same = differs cc

-- the counts of a dump were sent, or some of them, and flushed
pub counts_concluded : (telling : Telling) (sent : Result (Unit {0}) Write) (status : ℕ) (log : ViewLogState) (g : GraphState) (written : List ℕ) (old mid new : Option (List ℕ)) → written ≡ told_counts telling g
    → OnOk sent (Appends old mid written) → OnErr sent (AppendsLess old mid written) → Keeps mid new → IsSentStatus sent status
    → log.reads.failed ≡ false → OnErr sent (AreSpent log.writes) → OnOk sent (log.writes.failed ≡ false) → (IsOk sent → (status ≡ 1) ↔ (log.flush_failed ≡ true))
    → (input : List ℕ) → graph_of_text input ≡ Ok g → ConcludesCounts telling input status log old new
counts_concluded telling (Ok done) status log g written old mid new is ok err kept ends reads spent fine flushed input read =
    let cause : HasCause (Unit {0}) LineFault faults.Read faults.Write (Ok done) status log =
    record { read_failed = λ is. absurd cc; no_read_failed = λ other. reads; write_failed = λ is. absurd cc; no_write_failed = λ other. fine; flush_failed = flushed } in
    (Ok done, (g, read, Appends-kept old mid new (told_counts telling g) (subst (Appends old mid) is ok) kept), ends, cause)
counts_concluded telling (Err error) status log g written old mid new is ok err kept ends reads spent fine flushed input read =
    let cause : HasCause (Unit {0}) LineFault faults.Read faults.Write (Err faults.Write) status log =
    record { read_failed = λ is. absurd cc; no_read_failed = λ other. reads; write_failed = λ is. spent; no_write_failed = λ other. absurd (other refl); flush_failed = λ ok. absurd (false_is_not_true ok) } in
    (Err faults.Write, (g, read, AppendsLess-kept old mid new (told_counts telling g) (subst (AppendsLess old mid) is err) kept), ends, cause)

-- of a dump of which nothing was written
pub uncounted : (telling : Telling) (input : List ℕ) (fault : DumpFault) (log : ViewLogState) (a : Option (List ℕ)) → graph_of_text input ≡ Err fault → HasCause (Unit {0}) LineFault faults.Read faults.Write (Err (faults.Dump fault)) 1 log
    → ConcludesCounts telling input 1 log a a
uncounted telling input fault log a is cause = (Err (faults.Dump fault), (is, Keeps-same a), refl, cause)

pub uncounted_unread : (telling : Telling) (input : List ℕ) (log : ViewLogState) (a : Option (List ℕ)) → HasCause (Unit {0}) LineFault faults.Read faults.Write (Err faults.Read) 1 log → ConcludesCounts telling input 1 log a a
uncounted_unread telling input log a cause = (Err faults.Read, Keeps-same a, refl, cause)

pub uncounted_refused : (telling : Telling) (input : List ℕ) (log : ViewLogState) (a : Option (List ℕ)) → HasCause (Unit {0}) LineFault faults.Read faults.Write (Err faults.OutOfMemory) 3 log → ConcludesCounts telling input 3 log a a
uncounted_refused telling input log a cause = (Err faults.OutOfMemory, Keeps-same a, refl, cause)

-- flushes that a log counts one by one
pub flushed_once : (before after : ℕ) → after ≡ one_more before → after < 2 ^ 64 - 1 → before + 1 ≤ after
flushed_once before after is few = omega (arith, is, few)

pub flushed_thrice : (before after : ℕ) → after ≡ one_more (one_more (one_more before)) → after < 2 ^ 64 - 1 → before + 3 ≤ after
flushed_thrice before after is few =
    let third = flushed_once (one_more (one_more before)) after is few in
    let second = flushed_once (one_more before) (one_more (one_more before)) refl (omega (arith, third, few)) in
    let first = flushed_once before (one_more before) refl (omega (arith, second, third, few)) in
    omega (arith, first, second, third)
