use Rattle.std.proofs.Common.{◌+◌, ◌≤◌, ℕ, ◌<◌, List, [], Err, length, ap, sym, subst, ◌∙◌, append-nil}
use Rattle.std.specs.Prelude.{◌-◌, ◌^◌}
use Rattle.rh_text.specs.IoLog.{IoLogState, CountsDown}
use Rattle.rh_text.specs.declared.input.InputFault.TheVariants as input_faults
use Rattle.rh_replay.specs.declared.checking.Verdict.{Verdict}
use Rattle.rh_commands.specs.Fault.{status_after}
use Rattle.rh_commands.specs.ViewLog.{ViewLogState}
use Rattle.rh_commands.specs.Views.{ConcludesReport}
use Rattle.rh_commands.specs.declared.fault.LineFault.TheVariants as faults
use Rattle.rh_commands.proofs.Causes.{cause_of_other, cause_of_read, other_error}
use Rattle.rh_commands.proofs.Inputs.{whole_input, any_input, begun_input, long_is}
use Rattle.rh_commands.proofs.Reported.{unread, unreported, too_long}
use Rattle.rh_commands.proofs.reporting.view_report.Goals as goal

pub view_report_of-requires-clause-no_read_failed : goal.view_report_of-requires-clause-no_read_failed
view_report_of-requires-clause-no_read_failed g c = c.in-Ok.ensures.none_failed (λ is. absurd cc)

pub returns-in-Ok-clause-told : goal.returns-in-Ok-clause-told
returns-in-Ok-clause-told g c =
    let given = c.in-Ok.ensures.bytes in
    let Due : List ℕ → Type 0 = λ input. ConcludesReport c.args.telling input (status_after c.view_report_of.result) c.view_report_of.new.log (g.O.Write.contents c.args.out.now) (g.O.Write.contents c.view_report_of.new.out) in
    whole_input Due (g.R.Read.remaining c.args.reader.now) (g.R.Read.remaining c.read_all.new.reader) given.0 given.1 given.2.2 (subst Due (c.deref.ensures.value ∙ given.2.0) c.view_report_of.ensures.concluded)

pub returns-in-Ok-clause-read : goal.returns-in-Ok-clause-read
returns-in-Ok-clause-read g c =
    let given = c.in-Ok.ensures.bytes in
    let Due : List ℕ → Type 0 = λ input. ConcludesReport c.args.telling input (status_after c.view_report_of.result) c.view_report_of.new.log (g.O.Write.contents c.args.out.now) (g.O.Write.contents c.view_report_of.new.out) in
    (given.0, given.1, subst Due (c.deref.ensures.value ∙ given.2.0) c.view_report_of.ensures.concluded)

pub returns-in-Ok-clause-reads_counted : goal.returns-in-Ok-clause-reads_counted
returns-in-Ok-clause-reads_counted g c =
    subst (λ (l : IoLogState). CountsDown l.left l c.view_report_of.new.log.reads) (ap (λ (x : ViewLogState). x.reads) c.log.view_is)
    (subst (λ (l : IoLogState). CountsDown c.log.inside.reads.left c.log.inside.reads l) (sym c.view_report_of.ensures.reads) c.in-Ok.ensures.counted)

pub returns-in-Err-Read-clause-told : goal.returns-in-Err-Read-clause-told
returns-in-Err-Read-clause-told g c =
    let log : ViewLogState = record { reads = c.read_all.new.reads; writes = c.log.inside.writes; flush_failed = c.log.inside.flush_failed; flushes = c.log.inside.flushes } in
    let cause = cause_of_read Verdict 1 log (c.in-Err-Read.ensures.failed (ap Err c.in-Err-Read.field-0-is)) (ap (λ (x : ViewLogState). x.writes.failed) c.log.view_is ∙ c.requires.no_write_failed) in
    any_input _ (g.R.Read.remaining c.args.reader.now) (λ input. unread c.args.telling input log (g.O.Write.contents c.args.out.now) cause)

pub returns-in-Err-Read-clause-read : goal.returns-in-Err-Read-clause-read
returns-in-Err-Read-clause-read g c =
    let log : ViewLogState = record { reads = c.read_all.new.reads; writes = c.log.inside.writes; flush_failed = c.log.inside.flush_failed; flushes = c.log.inside.flushes } in
    let given = c.in-Err-Read.ensures.bytes in
    let cause = cause_of_read Verdict 1 log (c.in-Err-Read.ensures.failed (ap Err c.in-Err-Read.field-0-is)) (ap (λ (x : ViewLogState). x.writes.failed) c.log.view_is ∙ c.requires.no_write_failed) in
    (given.0, given.1, unread c.args.telling given.0 log (g.O.Write.contents c.args.out.now) cause)

pub returns-in-Err-OutOfMemory-clause-told : goal.returns-in-Err-OutOfMemory-clause-told
returns-in-Err-OutOfMemory-clause-told g c =
    let log : ViewLogState = record { reads = c.read_all.new.reads; writes = c.log.inside.writes; flush_failed = c.log.inside.flush_failed; flushes = c.log.inside.flushes } in
    let fine = c.in-Err-OutOfMemory.ensures.none_failed (other_error _ _ c.in-Err-OutOfMemory.field-0 input_faults.OutOfMemory input_faults.Read c.in-Err-OutOfMemory.field-0-is (λ is. absurd cc)) in
    let cause = cause_of_other Verdict faults.OutOfMemory 3 log (λ is. absurd cc) (λ is. absurd cc) fine (ap (λ (x : ViewLogState). x.writes.failed) c.log.view_is ∙ c.requires.no_write_failed) in
    any_input _ (g.R.Read.remaining c.args.reader.now) (λ input. unreported c.args.telling input log (g.O.Write.contents c.args.out.now) cause)

pub returns-in-Err-OutOfMemory-clause-read : goal.returns-in-Err-OutOfMemory-clause-read
returns-in-Err-OutOfMemory-clause-read g c =
    let log : ViewLogState = record { reads = c.read_all.new.reads; writes = c.log.inside.writes; flush_failed = c.log.inside.flush_failed; flushes = c.log.inside.flushes } in
    let given = c.in-Err-OutOfMemory.ensures.bytes in
    let fine = c.in-Err-OutOfMemory.ensures.none_failed (other_error _ _ c.in-Err-OutOfMemory.field-0 input_faults.OutOfMemory input_faults.Read c.in-Err-OutOfMemory.field-0-is (λ is. absurd cc)) in
    let cause = cause_of_other Verdict faults.OutOfMemory 3 log (λ is. absurd cc) (λ is. absurd cc) fine (ap (λ (x : ViewLogState). x.writes.failed) c.log.view_is ∙ c.requires.no_write_failed) in
    (given.0, given.1, unreported c.args.telling given.0 log (g.O.Write.contents c.args.out.now) cause)

pub returns-in-Err-Long-clause-told : goal.returns-in-Err-Long-clause-told
returns-in-Err-Long-clause-told g c =
    let log : ViewLogState = record { reads = c.read_all.new.reads; writes = c.log.inside.writes; flush_failed = c.log.inside.flush_failed; flushes = c.log.inside.flushes } in
    let given = c.in-Err-Long.ensures.bytes in
    let known = g.R.Read.remaining in
    let many : 16777216 < length given.0 = long_is c.in-Err-Long.field-0 given.0 (known c.read_all.new.reader) c.in-Err-Long.field-0-is given.2 in
    let fine = c.in-Err-Long.ensures.none_failed (other_error _ _ c.in-Err-Long.field-0 input_faults.Long input_faults.Read c.in-Err-Long.field-0-is (λ is. absurd cc)) in
    let cause = cause_of_other Verdict faults.TooLong 1 log (λ is. absurd cc) (λ is. absurd cc) fine (ap (λ (x : ViewLogState). x.writes.failed) c.log.view_is ∙ c.requires.no_write_failed) in
    begun_input _ (known c.args.reader.now) (known c.read_all.new.reader) given.0 given.1 (λ rest. too_long c.args.telling given.0 rest log (g.O.Write.contents c.args.out.now) many cause)

pub returns-in-Err-Long-clause-read : goal.returns-in-Err-Long-clause-read
returns-in-Err-Long-clause-read g c =
    let log : ViewLogState = record { reads = c.read_all.new.reads; writes = c.log.inside.writes; flush_failed = c.log.inside.flush_failed; flushes = c.log.inside.flushes } in
    let given = c.in-Err-Long.ensures.bytes in
    let known = g.R.Read.remaining in
    let many : 16777216 < length given.0 = long_is c.in-Err-Long.field-0 given.0 (known c.read_all.new.reader) c.in-Err-Long.field-0-is given.2 in
    let fine = c.in-Err-Long.ensures.none_failed (other_error _ _ c.in-Err-Long.field-0 input_faults.Long input_faults.Read c.in-Err-Long.field-0-is (λ is. absurd cc)) in
    let cause = cause_of_other Verdict faults.TooLong 1 log (λ is. absurd cc) (λ is. absurd cc) fine (ap (λ (x : ViewLogState). x.writes.failed) c.log.view_is ∙ c.requires.no_write_failed) in
    (given.0, given.1, subst (λ (input : List ℕ). ConcludesReport c.args.telling input 1 log (g.O.Write.contents c.args.out.now) (g.O.Write.contents c.args.out.now)) (append-nil given.0) (too_long c.args.telling given.0 [] log (g.O.Write.contents c.args.out.now) many cause))

pub returns-in-Ok-clause-flushed : goal.returns-in-Ok-clause-flushed
returns-in-Ok-clause-flushed g c = λ ok. subst (λ (before : ℕ). c.view_report_of.new.log.flushes < 2 ^ 64 - 1 → before + 1 ≤ c.view_report_of.new.log.flushes) (ap (λ (x : ViewLogState). x.flushes) c.log.view_is) c.view_report_of.ensures.flushed
