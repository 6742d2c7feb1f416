use Rattle.rh_lisp_run.specs.declared.running.Ran.{Ran}
use Rattle.rh_commands.specs.lemmas.Known.{known_so}
use Rattle.rh_cli.proofs.LispStatuses.{lisp_concludes}
use Rattle.rh_cli.proofs.lisp.drive_lisp.Goals as goal

pub returns-clause-told : goal.returns-clause-told
returns-clause-told g c =
    known_so _ _ (g.R.Read.remaining c.args.reader.now.reader)
    (lisp_concludes (λ (r : Ran g.row.A.Denot). (r.ended.outcome, r.program)) c.args.limits.steps c.run_lisp-ran.result c.tell_run.result (g.O.Write.contents c.args.out.now) (g.O.Write.contents c.run_lisp-ran.new.writer) c.tell_run.ensures.status) c.run_lisp-ran.ensures.told

pub returns-clause-read : goal.returns-clause-read
returns-clause-read g c =
    let given = c.run_lisp-ran.ensures.read in
    (given.0, given.1, lisp_concludes (λ (r : Ran g.row.A.Denot). (r.ended.outcome, r.program)) c.args.limits.steps c.run_lisp-ran.result c.tell_run.result (g.O.Write.contents c.args.out.now) (g.O.Write.contents c.run_lisp-ran.new.writer) c.tell_run.ensures.status given.0 given.2)
