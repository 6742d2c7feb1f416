use Rattle.rh_snapshot.specs.Text.{snapshot_text}
use Rattle.rh_commands.specs.lemmas.Known.{known_so}
use Rattle.rh_commands.proofs.Counted.{fault_read, uncounted_fault, uncounted_read, uncounted_memory}
use Rattle.rh_commands.proofs.Inputs.{any_input}
use Rattle.rh_commands.proofs.snapshotting.print_snapshot.Goals as goal

pub returns-in-Ok-clause-told : goal.returns-in-Ok-clause-told
returns-in-Ok-clause-told g c = known_so _ _ (g.R.Read.remaining c.args.reader.now) (λ input read. c.write_and_flush.ensures.concluded input read) c.in-Ok.ensures.told

pub returns-in-Ok-clause-read : goal.returns-in-Ok-clause-read
returns-in-Ok-clause-read g c =
    let given = c.in-Ok.ensures.bytes in
    (given.0, given.1, c.write_and_flush.ensures.concluded given.0 given.2)

pub returns-in-Err-Fault-clause-told : goal.returns-in-Err-Fault-clause-told
returns-in-Err-Fault-clause-told g c =
    known_so _ _ (g.R.Read.remaining c.args.reader.now) (λ input read. uncounted_fault snapshot_text input c.in-Err-Fault.fault (g.O.Write.contents c.args.out.now) (fault_read c.in-Err-Fault.field-0 c.in-Err-Fault.fault input c.in-Err-Fault.field-0-is read)) c.in-Err-Fault.ensures.told

pub returns-in-Err-Fault-clause-read : goal.returns-in-Err-Fault-clause-read
returns-in-Err-Fault-clause-read g c =
    let given = c.in-Err-Fault.ensures.bytes in
    (given.0, given.1, uncounted_fault snapshot_text given.0 c.in-Err-Fault.fault (g.O.Write.contents c.args.out.now) (fault_read c.in-Err-Fault.field-0 c.in-Err-Fault.fault given.0 c.in-Err-Fault.field-0-is given.2))

pub returns-in-Err-Read-clause-told : goal.returns-in-Err-Read-clause-told
returns-in-Err-Read-clause-told g c =
    any_input _ (g.R.Read.remaining c.args.reader.now) (λ input. uncounted_read snapshot_text input (g.O.Write.contents c.args.out.now))

pub returns-in-Err-Read-clause-read : goal.returns-in-Err-Read-clause-read
returns-in-Err-Read-clause-read g c =
    let given = c.read_dump.ensures.bytes in
    (given.0, given.1, uncounted_read snapshot_text given.0 (g.O.Write.contents c.args.out.now))

pub returns-in-Err-OutOfMemory-clause-told : goal.returns-in-Err-OutOfMemory-clause-told
returns-in-Err-OutOfMemory-clause-told g c =
    any_input _ (g.R.Read.remaining c.args.reader.now) (λ input. uncounted_memory snapshot_text input (g.O.Write.contents c.args.out.now))

pub returns-in-Err-OutOfMemory-clause-read : goal.returns-in-Err-OutOfMemory-clause-read
returns-in-Err-OutOfMemory-clause-read g c =
    let given = c.read_dump.ensures.bytes in
    (given.0, given.1, uncounted_memory snapshot_text given.0 (g.O.Write.contents c.args.out.now))
