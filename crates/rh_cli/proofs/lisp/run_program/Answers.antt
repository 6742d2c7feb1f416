use Rattle.std.proofs.Common.{Ok, Err}
use Rattle.rh_lisp_run.specs.declared.running.Ran.{Ran}
use Rattle.rh_commands.specs.Fault.{status_after, status_of}
use Rattle.rh_commands.specs.lemmas.Known.{known_so}
use Rattle.rh_cli.proofs.LispStatuses.{lisp_concludes}
use Rattle.rh_cli.proofs.lisp.run_program.Goals as goal

pub returns-in-Ok-clause-told : goal.returns-in-Ok-clause-told
returns-in-Ok-clause-told g c =
    known_so _ _ (g.R.Read.remaining c.args.reader.now)
    (lisp_concludes (λ (r : Ran g.row.A.Denot). (r.ended.outcome, r.program)) c.args.limits.steps (Ok c.in-Ok.ran) (status_after c.ending_of.result) (g.O.Write.contents c.args.out.now) (g.O.Write.contents c.run_lisp.new.writer) c.ending_of.ensures.status) c.in-Ok.ensures.told

pub returns-in-Ok-clause-read : goal.returns-in-Ok-clause-read
returns-in-Ok-clause-read g c =
    let given = c.in-Ok.ensures.read in
    (given.0, given.1, lisp_concludes (λ (r : Ran g.row.A.Denot). (r.ended.outcome, r.program)) c.args.limits.steps (Ok c.in-Ok.ran) (status_after c.ending_of.result) (g.O.Write.contents c.args.out.now) (g.O.Write.contents c.run_lisp.new.writer) c.ending_of.ensures.status given.0 given.2)

pub returns-in-Err-clause-told : goal.returns-in-Err-clause-told
returns-in-Err-clause-told g c =
    known_so _ _ (g.R.Read.remaining c.args.reader.now)
    (lisp_concludes (λ (r : Ran g.row.A.Denot). (r.ended.outcome, r.program)) c.args.limits.steps (Err c.in-Err.fault) (status_of c.fault_of_lisp.result) (g.O.Write.contents c.args.out.now) (g.O.Write.contents c.run_lisp.new.writer) c.fault_of_lisp.ensures.status) c.in-Err.ensures.told

pub returns-in-Err-clause-read : goal.returns-in-Err-clause-read
returns-in-Err-clause-read g c =
    let given = c.in-Err.ensures.read in
    (given.0, given.1, lisp_concludes (λ (r : Ran g.row.A.Denot). (r.ended.outcome, r.program)) c.args.limits.steps (Err c.in-Err.fault) (status_of c.fault_of_lisp.result) (g.O.Write.contents c.args.out.now) (g.O.Write.contents c.run_lisp.new.writer) c.fault_of_lisp.ensures.status given.0 given.2)
