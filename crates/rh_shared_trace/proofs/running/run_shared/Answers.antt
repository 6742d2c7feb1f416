use Rattle.std.proofs.Common.{sym, subst}
use Rattle.rh_shared_trace.specs.declared.fault.SharedRunFault.{SharedRunFault}
use Rattle.rh_shared_trace.specs.Run.{Ends}
use Rattle.rh_shared_trace.proofs.ReadTrace.{known_so, unread_ends}
use Rattle.rh_shared_trace.proofs.running.run_shared.Goals as goal

pub returns-in-Ok-clause-told : goal.returns-in-Ok-clause-told
returns-in-Ok-clause-told g c = known_so _ _ (g.I.Read.remaining c.args.reader.now) c.run_script.ensures.ends c.in-Ok.ensures.told

pub returns-in-Ok-clause-read : goal.returns-in-Ok-clause-read
returns-in-Ok-clause-read g c =
    let given = c.in-Ok.ensures.read in
    (given.0, given.1, c.run_script.ensures.ends given.0 given.2)

pub returns-in-Err-clause-told : goal.returns-in-Err-clause-told
returns-in-Err-clause-told g c =
    known_so _ _ (g.I.Read.remaining c.args.reader.now)
    (λ input unread. unread_ends c.args.options input c.in-Err.fault c.fault_of_read.result (g.W.Write.contents c.args.writer.now) c.fault_of_read.ensures unread) c.in-Err.ensures.told

pub returns-in-Err-clause-read : goal.returns-in-Err-clause-read
returns-in-Err-clause-read g c =
    let given = c.in-Err.ensures.read in
    (given.0, given.1, unread_ends c.args.options given.0 c.in-Err.fault c.fault_of_read.result (g.W.Write.contents c.args.writer.now) c.fault_of_read.ensures given.2)
