use Rattle.rh_lisp_run.specs.declared.running.Ran.{Ran}
use Rattle.rh_commands.specs.lemmas.Known.{known_so}
use Rattle.rh_cli.proofs.LispStatuses.{lisp_cycles_conclude}
use Rattle.rh_cli.proofs.lisp_cycles.drive_lisp_with_cycles.Goals as goal

pub returns-clause-told : goal.returns-clause-told
returns-clause-told g c =
    let ran = c.run_lisp_with_cycles-cycles in
    known_so _ _ (g.R.Read.remaining c.args.reader.now.reader)
    (lisp_cycles_conclude (λ (r : Ran g.row.A.Denot). (r.ended.outcome, r.program)) c.args.limits ran.result.1 c.tell_run.result (g.O.Write.contents c.args.out.now) (g.O.Write.contents ran.new.writer) (g.C.Write.contents c.args.cycles) (g.C.Write.contents ran.result.0) c.tell_run.ensures.status ran.ensures.cycles) ran.ensures.told

pub returns-clause-read : goal.returns-clause-read
returns-clause-read g c =
    let ran = c.run_lisp_with_cycles-cycles in
    let given = ran.ensures.read in
    (given.0, given.1, lisp_cycles_conclude (λ (r : Ran g.row.A.Denot). (r.ended.outcome, r.program)) c.args.limits ran.result.1 c.tell_run.result (g.O.Write.contents c.args.out.now) (g.O.Write.contents ran.new.writer) (g.C.Write.contents c.args.cycles) (g.C.Write.contents ran.result.0) c.tell_run.ensures.status ran.ensures.cycles given.0 given.2)
