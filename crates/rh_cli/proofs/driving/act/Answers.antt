use Rattle.std.proofs.Common.{ℕ, List, Option, sym, subst}
use Rattle.rh_command_line.specs.declared.ask.Subcommand.{Subcommand}
use Rattle.rh_commands.specs.Fault.{status_after}
use Rattle.rh_commands.specs.lemmas.Known.{known_so}
use Rattle.rh_cli.specs.Drive.{Concludes}
use Rattle.rh_cli.proofs.LispStatuses.{lisp_session_read, lisp_session_told}
use Rattle.rh_cli.proofs.driving.act.Goals as goal

pub returns-in-LispSession-clause-told : goal.returns-in-LispSession-clause-told
returns-in-LispSession-clause-told g c =
    lisp_session_told c.args.subcommand c.in-LispSession.limits (g.R.Read.remaining c.args.reader.now) (status_after c.play_entries.result) (g.O.Write.contents c.args.out.now) (g.O.Write.contents c.play_entries.new.out) c.in-LispSession.is c.play_entries.ensures.told

pub returns-in-LispSession-clause-read : goal.returns-in-LispSession-clause-read
returns-in-LispSession-clause-read g c =
    lisp_session_read c.args.subcommand c.in-LispSession.limits (g.R.Read.remaining c.args.reader.now) (g.R.Read.remaining c.play_entries.new.reader) (status_after c.play_entries.result) (g.O.Write.contents c.args.out.now) (g.O.Write.contents c.play_entries.new.out) c.in-LispSession.is c.play_entries.ensures.read

pub returns-in-LispSession-clause-ended : goal.returns-in-LispSession-clause-ended
returns-in-LispSession-clause-ended g c = λ limits is. c.play_entries.ensures.ended

pub returns-in-Run-clause-told : goal.returns-in-Run-clause-told
returns-in-Run-clause-told g c =
    known_so _ _ (g.R.Read.remaining c.args.reader.now)
    (λ input e. subst (λ (s : Subcommand). Concludes s input (status_after c.run.result) (g.O.Write.contents c.args.out.now) (g.O.Write.contents c.run.new.out)) (sym c.in-Run.is) (c.a_run_concludes_as_its_input_says.ensures.fixed input _ _ _ e)) c.run.ensures.told

pub returns-in-Run-clause-read : goal.returns-in-Run-clause-read
returns-in-Run-clause-read g c =
    let given = c.run.ensures.read in
    (given.0, given.1, subst (λ (s : Subcommand). Concludes s given.0 (status_after c.run.result) (g.O.Write.contents c.args.out.now) (g.O.Write.contents c.run.new.out)) (sym c.in-Run.is) (c.a_run_concludes_as_its_input_says.ensures.fixed given.0 _ _ _ given.2))

pub returns-in-RunPaced-clause-told : goal.returns-in-RunPaced-clause-told
returns-in-RunPaced-clause-told g c =
    known_so _ _ (g.R.Read.remaining c.args.reader.now)
    (λ input e. subst (λ (s : Subcommand). Concludes s input (status_after c.run-in-RunPaced.result) (g.O.Write.contents c.args.out.now) (g.O.Write.contents c.run-in-RunPaced.new.out)) (sym c.in-RunPaced.is) (c.a_run_concludes_as_its_input_says.ensures.paced c.in-RunPaced.mark input _ _ _ e)) c.run-in-RunPaced.ensures.told

pub returns-in-RunPaced-clause-read : goal.returns-in-RunPaced-clause-read
returns-in-RunPaced-clause-read g c =
    let given = c.run-in-RunPaced.ensures.read in
    (given.0, given.1, subst (λ (s : Subcommand). Concludes s given.0 (status_after c.run-in-RunPaced.result) (g.O.Write.contents c.args.out.now) (g.O.Write.contents c.run-in-RunPaced.new.out)) (sym c.in-RunPaced.is) (c.a_run_concludes_as_its_input_says.ensures.paced c.in-RunPaced.mark given.0 _ _ _ given.2))

pub returns-in-RunGrowing-clause-told : goal.returns-in-RunGrowing-clause-told
returns-in-RunGrowing-clause-told g c =
    known_so _ _ (g.R.Read.remaining c.args.reader.now)
    (λ input e. subst (λ (s : Subcommand). Concludes s input (status_after c.run-in-RunGrowing.result) (g.O.Write.contents c.args.out.now) (g.O.Write.contents c.run-in-RunGrowing.new.out)) (sym c.in-RunGrowing.is) (c.a_run_concludes_as_its_input_says.ensures.growing c.in-RunGrowing.at_most input _ _ _ e)) c.run-in-RunGrowing.ensures.told

pub returns-in-RunGrowing-clause-read : goal.returns-in-RunGrowing-clause-read
returns-in-RunGrowing-clause-read g c =
    let given = c.run-in-RunGrowing.ensures.read in
    (given.0, given.1, subst (λ (s : Subcommand). Concludes s given.0 (status_after c.run-in-RunGrowing.result) (g.O.Write.contents c.args.out.now) (g.O.Write.contents c.run-in-RunGrowing.new.out)) (sym c.in-RunGrowing.is) (c.a_run_concludes_as_its_input_says.ensures.growing c.in-RunGrowing.at_most given.0 _ _ _ given.2))
