use Rattle.std.proofs.Common.{ℕ, ◌<◌, ◌+◌, ◌≤◌, ap, Err, sym, subst, ◌∙◌}
use Rattle.std.specs.Prelude.{◌-◌, ◌^◌}
use Rattle.rh_text.specs.IoLog.{IoLogState, CountsDown}
use Rattle.rh_dump.specs.declared.reading.read_error.DumpReadError.TheVariants as errors
use Rattle.rh_commands.specs.ViewLog.{ViewLogState}
use Rattle.rh_commands.specs.declared.fault.LineFault.TheVariants as faults
use Rattle.rh_commands.proofs.Causes.{cause_of_other, cause_of_read, other_error, uncounted, uncounted_refused, uncounted_unread}
use Rattle.rh_commands.specs.lemmas.Known.{known_so}
use Rattle.rh_commands.proofs.Counted.{fault_read}
use Rattle.rh_commands.proofs.Inputs.{any_input}
use Rattle.rh_commands.proofs.reporting.view_count.Goals as goal

pub write_count-requires-clause-no_read_failed : goal.write_count-requires-clause-no_read_failed
write_count-requires-clause-no_read_failed g c = c.in-Ok.ensures.none_failed (λ is. absurd cc)

pub returns-in-Ok-clause-told : goal.returns-in-Ok-clause-told
returns-in-Ok-clause-told g c = known_so _ _ (g.R.Read.remaining c.args.reader.now) (λ input read. c.write_count.ensures.concluded input read) c.in-Ok.ensures.told

pub returns-in-Ok-clause-read : goal.returns-in-Ok-clause-read
returns-in-Ok-clause-read g c =
    let given = c.in-Ok.ensures.bytes in
    (given.0, given.1, c.write_count.ensures.concluded given.0 given.2)

pub returns-in-Ok-clause-reads_counted : goal.returns-in-Ok-clause-reads_counted
returns-in-Ok-clause-reads_counted g c =
    subst (λ (l : IoLogState). CountsDown l.left l c.write_count.new.log.reads) (ap (λ (x : ViewLogState). x.reads) c.log.view_is)
    (subst (λ (l : IoLogState). CountsDown c.log.inside.reads.left c.log.inside.reads l) (sym c.write_count.ensures.reads) c.in-Ok.ensures.counted)

pub returns-in-Err-Fault-clause-told : goal.returns-in-Err-Fault-clause-told
returns-in-Err-Fault-clause-told g c =
    let log : ViewLogState = record { reads = c.read_dump_logged.new.reads; writes = c.log.inside.writes; flush_failed = c.log.inside.flush_failed; flushes = c.log.inside.flushes } in
    let fault = c.in-Err-Fault.fault in
    let fine = c.in-Err-Fault.ensures.none_failed (other_error _ _ c.in-Err-Fault.field-0 (errors.Fault fault) errors.Read c.in-Err-Fault.field-0-is (λ is. absurd cc)) in
    let cause = cause_of_other (Unit {0}) (faults.Dump fault) 1 log (λ is. absurd cc) (λ is. absurd cc) fine (ap (λ (x : ViewLogState). x.writes.failed) c.log.view_is ∙ c.requires.no_write_failed) in
    known_so _ _ (g.R.Read.remaining c.args.reader.now) (λ input read. uncounted c.args.telling input fault log (g.O.Write.contents c.args.out.now) (fault_read c.in-Err-Fault.field-0 fault input c.in-Err-Fault.field-0-is read) cause) c.in-Err-Fault.ensures.told

pub returns-in-Err-Fault-clause-read : goal.returns-in-Err-Fault-clause-read
returns-in-Err-Fault-clause-read g c =
    let log : ViewLogState = record { reads = c.read_dump_logged.new.reads; writes = c.log.inside.writes; flush_failed = c.log.inside.flush_failed; flushes = c.log.inside.flushes } in
    let fault = c.in-Err-Fault.fault in
    let given = c.in-Err-Fault.ensures.bytes in
    let fine = c.in-Err-Fault.ensures.none_failed (other_error _ _ c.in-Err-Fault.field-0 (errors.Fault fault) errors.Read c.in-Err-Fault.field-0-is (λ is. absurd cc)) in
    let cause = cause_of_other (Unit {0}) (faults.Dump fault) 1 log (λ is. absurd cc) (λ is. absurd cc) fine (ap (λ (x : ViewLogState). x.writes.failed) c.log.view_is ∙ c.requires.no_write_failed) in
    (given.0, given.1, uncounted c.args.telling given.0 fault log (g.O.Write.contents c.args.out.now) (fault_read c.in-Err-Fault.field-0 fault given.0 c.in-Err-Fault.field-0-is given.2) cause)

pub returns-in-Err-Read-clause-told : goal.returns-in-Err-Read-clause-told
returns-in-Err-Read-clause-told g c =
    let log : ViewLogState = record { reads = c.read_dump_logged.new.reads; writes = c.log.inside.writes; flush_failed = c.log.inside.flush_failed; flushes = c.log.inside.flushes } in
    let cause = cause_of_read (Unit {0}) 1 log (c.in-Err-Read.ensures.failed (ap Err c.in-Err-Read.field-0-is)) (ap (λ (x : ViewLogState). x.writes.failed) c.log.view_is ∙ c.requires.no_write_failed) in
    any_input _ (g.R.Read.remaining c.args.reader.now) (λ input. uncounted_unread c.args.telling input log (g.O.Write.contents c.args.out.now) cause)

pub returns-in-Err-Read-clause-read : goal.returns-in-Err-Read-clause-read
returns-in-Err-Read-clause-read g c =
    let log : ViewLogState = record { reads = c.read_dump_logged.new.reads; writes = c.log.inside.writes; flush_failed = c.log.inside.flush_failed; flushes = c.log.inside.flushes } in
    let given = c.in-Err-Read.ensures.bytes in
    let cause = cause_of_read (Unit {0}) 1 log (c.in-Err-Read.ensures.failed (ap Err c.in-Err-Read.field-0-is)) (ap (λ (x : ViewLogState). x.writes.failed) c.log.view_is ∙ c.requires.no_write_failed) in
    (given.0, given.1, uncounted_unread c.args.telling given.0 log (g.O.Write.contents c.args.out.now) cause)

pub returns-in-Err-OutOfMemory-clause-told : goal.returns-in-Err-OutOfMemory-clause-told
returns-in-Err-OutOfMemory-clause-told g c =
    let log : ViewLogState = record { reads = c.read_dump_logged.new.reads; writes = c.log.inside.writes; flush_failed = c.log.inside.flush_failed; flushes = c.log.inside.flushes } in
    let fine = c.in-Err-OutOfMemory.ensures.none_failed (other_error _ _ c.in-Err-OutOfMemory.field-0 errors.OutOfMemory errors.Read c.in-Err-OutOfMemory.field-0-is (λ is. absurd cc)) in
    let cause = cause_of_other (Unit {0}) faults.OutOfMemory 3 log (λ is. absurd cc) (λ is. absurd cc) fine (ap (λ (x : ViewLogState). x.writes.failed) c.log.view_is ∙ c.requires.no_write_failed) in
    any_input _ (g.R.Read.remaining c.args.reader.now) (λ input. uncounted_refused c.args.telling input log (g.O.Write.contents c.args.out.now) cause)

pub returns-in-Err-OutOfMemory-clause-read : goal.returns-in-Err-OutOfMemory-clause-read
returns-in-Err-OutOfMemory-clause-read g c =
    let log : ViewLogState = record { reads = c.read_dump_logged.new.reads; writes = c.log.inside.writes; flush_failed = c.log.inside.flush_failed; flushes = c.log.inside.flushes } in
    let given = c.in-Err-OutOfMemory.ensures.bytes in
    let fine = c.in-Err-OutOfMemory.ensures.none_failed (other_error _ _ c.in-Err-OutOfMemory.field-0 errors.OutOfMemory errors.Read c.in-Err-OutOfMemory.field-0-is (λ is. absurd cc)) in
    let cause = cause_of_other (Unit {0}) faults.OutOfMemory 3 log (λ is. absurd cc) (λ is. absurd cc) fine (ap (λ (x : ViewLogState). x.writes.failed) c.log.view_is ∙ c.requires.no_write_failed) in
    (given.0, given.1, uncounted_refused c.args.telling given.0 log (g.O.Write.contents c.args.out.now) cause)

pub returns-in-Ok-clause-flushed : goal.returns-in-Ok-clause-flushed
returns-in-Ok-clause-flushed g c = λ ok. subst (λ (before : ℕ). c.write_count.new.log.flushes < 2 ^ 64 - 1 → before + 1 ≤ c.write_count.new.log.flushes) (ap (λ (x : ViewLogState). x.flushes) c.log.view_is) c.write_count.ensures.flushed
