use Rattle.std.proofs.Common.{sym, subst}
use Rattle.rh_command_line.specs.declared.ask.Subcommand.{Subcommand}
use Rattle.rh_trace_views.specs.Run.{Written}
use Rattle.rh_cli.specs.Views.{ConcludesViewed}
use Rattle.rh_commands.specs.Fault.{status_after}
use Rattle.rh_commands.specs.lemmas.Known.{known_so}
use Rattle.rh_cli.proofs.Viewed.{none_counted, none_flushed, unviewed, viewed_check, viewed_count}
use Rattle.rh_cli.proofs.viewed_driving.act_viewed.Goals as goal

pub returns-in-Replay-clause-told : goal.returns-in-Replay-clause-told
returns-in-Replay-clause-told g c =
    known_so _ _ (g.R.Read.remaining c.args.reader.now)
    (viewed_check c.args.telling c.args.subcommand (status_after c.view_report.result) c.view_report.new.log (g.O.Write.contents c.args.out.now.first) (g.O.Write.contents c.view_report.new.out) (g.H.Write.contents c.args.out.now.second.first) (g.C.Write.contents c.args.out.now.second.second) c.in-Replay.is) c.view_report.ensures.told

pub returns-in-Replay-clause-read : goal.returns-in-Replay-clause-read
returns-in-Replay-clause-read g c =
    let given = c.view_report.ensures.read in
    (given.0, given.1, viewed_check c.args.telling c.args.subcommand (status_after c.view_report.result) c.view_report.new.log (g.O.Write.contents c.args.out.now.first) (g.O.Write.contents c.view_report.new.out) (g.H.Write.contents c.args.out.now.second.first) (g.C.Write.contents c.args.out.now.second.second) c.in-Replay.is given.0 given.2)

pub returns-in-Dump-clause-told : goal.returns-in-Dump-clause-told
returns-in-Dump-clause-told g c =
    known_so _ _ (g.R.Read.remaining c.args.reader.now)
    (viewed_count c.args.telling c.args.subcommand (status_after c.view_count.result) c.view_count.new.log (g.O.Write.contents c.args.out.now.first) (g.O.Write.contents c.view_count.new.out) (g.H.Write.contents c.args.out.now.second.first) (g.C.Write.contents c.args.out.now.second.second) c.in-Dump.is) c.view_count.ensures.told

pub returns-in-Dump-clause-read : goal.returns-in-Dump-clause-read
returns-in-Dump-clause-read g c =
    let given = c.view_count.ensures.read in
    (given.0, given.1, viewed_count c.args.telling c.args.subcommand (status_after c.view_count.result) c.view_count.new.log (g.O.Write.contents c.args.out.now.first) (g.O.Write.contents c.view_count.new.out) (g.H.Write.contents c.args.out.now.second.first) (g.C.Write.contents c.args.out.now.second.second) c.in-Dump.is given.0 given.2)

pub returns-in_default-clause-told : goal.returns-in_default-clause-told
returns-in_default-clause-told g c =
    known_so _ _ (g.R.Read.remaining c.args.reader.now)
    (unviewed c.args.telling c.args.subcommand (status_after c.act.result) c.args.log.now (g.O.Write.contents c.args.out.now.first) (g.O.Write.contents c.act.new.out) (g.H.Write.contents c.args.out.now.second.first) (g.C.Write.contents c.args.out.now.second.second)
    c.in_default.not-Run c.in_default.not-RunPaced c.in_default.not-RunGrowing c.in_default.not-Replay c.in_default.not-Dump) c.act.ensures.told

pub returns-in_default-clause-read : goal.returns-in_default-clause-read
returns-in_default-clause-read g c =
    let given = c.act.ensures.read in (
      given.0,
      given.1,
      unviewed c.args.telling c.args.subcommand (status_after c.act.result) c.args.log.now (g.O.Write.contents c.args.out.now.first) (g.O.Write.contents c.act.new.out) (g.H.Write.contents c.args.out.now.second.first) (g.C.Write.contents c.args.out.now.second.second)
          c.in_default.not-Run c.in_default.not-RunPaced c.in_default.not-RunGrowing c.in_default.not-Replay c.in_default.not-Dump given.0 given.2,
    )

pub returns-in_default-clause-reads_counted : goal.returns-in_default-clause-reads_counted
returns-in_default-clause-reads_counted g c = none_counted c.args.log.now.reads

pub returns-in_default-clause-flushed : goal.returns-in_default-clause-flushed
returns-in_default-clause-flushed g c = λ ok. none_flushed c.args.subcommand c.args.log.now c.in_default.not-Run c.in_default.not-RunPaced c.in_default.not-RunGrowing c.in_default.not-Replay c.in_default.not-Dump

pub returns-in_default-clause-ended : goal.returns-in_default-clause-ended
returns-in_default-clause-ended g c = c.act.ensures.ended

pub returns-in-Run-clause-told : goal.returns-in-Run-clause-told
returns-in-Run-clause-told g c =
    let w : Written = record {
      old = g.O.Write.contents c.args.out.now.first;
      new = g.O.Write.contents c.view_run.new.out.first;
      history_old = g.H.Write.contents c.args.out.now.second.first;
      history_new = g.H.Write.contents c.view_run.new.out.second.first;
      cycles_old = g.C.Write.contents c.args.out.now.second.second;
      cycles_new = g.C.Write.contents c.view_run.new.out.second.second;
    } in
    known_so _ _ (g.R.Read.remaining c.args.reader.now)
    (λ input e. subst (λ (s : Subcommand). ConcludesViewed c.args.telling s input (status_after c.view_run.result) c.view_run.new.log w) (sym c.in-Run.is) (c.a_viewed_run_concludes_as_its_input_says.ensures.fixed c.args.telling input _ _ _ _ e)) c.view_run.ensures.told

pub returns-in-Run-clause-read : goal.returns-in-Run-clause-read
returns-in-Run-clause-read g c =
    let w : Written = record {
      old = g.O.Write.contents c.args.out.now.first;
      new = g.O.Write.contents c.view_run.new.out.first;
      history_old = g.H.Write.contents c.args.out.now.second.first;
      history_new = g.H.Write.contents c.view_run.new.out.second.first;
      cycles_old = g.C.Write.contents c.args.out.now.second.second;
      cycles_new = g.C.Write.contents c.view_run.new.out.second.second;
    } in
    let given = c.view_run.ensures.read in
    (given.0, given.1, subst (λ (s : Subcommand). ConcludesViewed c.args.telling s given.0 (status_after c.view_run.result) c.view_run.new.log w) (sym c.in-Run.is) (c.a_viewed_run_concludes_as_its_input_says.ensures.fixed c.args.telling given.0 _ _ _ _ given.2))

pub returns-in-RunPaced-clause-told : goal.returns-in-RunPaced-clause-told
returns-in-RunPaced-clause-told g c =
    let w : Written = record {
      old = g.O.Write.contents c.args.out.now.first;
      new = g.O.Write.contents c.view_run-in-RunPaced.new.out.first;
      history_old = g.H.Write.contents c.args.out.now.second.first;
      history_new = g.H.Write.contents c.view_run-in-RunPaced.new.out.second.first;
      cycles_old = g.C.Write.contents c.args.out.now.second.second;
      cycles_new = g.C.Write.contents c.view_run-in-RunPaced.new.out.second.second;
    } in
    known_so _ _ (g.R.Read.remaining c.args.reader.now)
    (λ input e. subst (λ (s : Subcommand). ConcludesViewed c.args.telling s input (status_after c.view_run-in-RunPaced.result) c.view_run-in-RunPaced.new.log w) (sym c.in-RunPaced.is) (c.a_viewed_run_concludes_as_its_input_says.ensures.paced c.in-RunPaced.mark c.args.telling input _ _ _ _ e)) c.view_run-in-RunPaced.ensures.told

pub returns-in-RunPaced-clause-read : goal.returns-in-RunPaced-clause-read
returns-in-RunPaced-clause-read g c =
    let w : Written = record {
      old = g.O.Write.contents c.args.out.now.first;
      new = g.O.Write.contents c.view_run-in-RunPaced.new.out.first;
      history_old = g.H.Write.contents c.args.out.now.second.first;
      history_new = g.H.Write.contents c.view_run-in-RunPaced.new.out.second.first;
      cycles_old = g.C.Write.contents c.args.out.now.second.second;
      cycles_new = g.C.Write.contents c.view_run-in-RunPaced.new.out.second.second;
    } in
    let given = c.view_run-in-RunPaced.ensures.read in
    (given.0, given.1, subst (λ (s : Subcommand). ConcludesViewed c.args.telling s given.0 (status_after c.view_run-in-RunPaced.result) c.view_run-in-RunPaced.new.log w) (sym c.in-RunPaced.is) (c.a_viewed_run_concludes_as_its_input_says.ensures.paced c.in-RunPaced.mark c.args.telling given.0 _ _ _ _ given.2))

pub returns-in-RunGrowing-clause-told : goal.returns-in-RunGrowing-clause-told
returns-in-RunGrowing-clause-told g c =
    let w : Written = record {
      old = g.O.Write.contents c.args.out.now.first;
      new = g.O.Write.contents c.view_run-in-RunGrowing.new.out.first;
      history_old = g.H.Write.contents c.args.out.now.second.first;
      history_new = g.H.Write.contents c.view_run-in-RunGrowing.new.out.second.first;
      cycles_old = g.C.Write.contents c.args.out.now.second.second;
      cycles_new = g.C.Write.contents c.view_run-in-RunGrowing.new.out.second.second;
    } in
    known_so _ _ (g.R.Read.remaining c.args.reader.now)
    (λ input e. subst (λ (s : Subcommand). ConcludesViewed c.args.telling s input (status_after c.view_run-in-RunGrowing.result) c.view_run-in-RunGrowing.new.log w) (sym c.in-RunGrowing.is) (c.a_viewed_run_concludes_as_its_input_says.ensures.growing c.in-RunGrowing.at_most c.args.telling input _ _ _ _ e)) c.view_run-in-RunGrowing.ensures.told

pub returns-in-RunGrowing-clause-read : goal.returns-in-RunGrowing-clause-read
returns-in-RunGrowing-clause-read g c =
    let w : Written = record {
      old = g.O.Write.contents c.args.out.now.first;
      new = g.O.Write.contents c.view_run-in-RunGrowing.new.out.first;
      history_old = g.H.Write.contents c.args.out.now.second.first;
      history_new = g.H.Write.contents c.view_run-in-RunGrowing.new.out.second.first;
      cycles_old = g.C.Write.contents c.args.out.now.second.second;
      cycles_new = g.C.Write.contents c.view_run-in-RunGrowing.new.out.second.second;
    } in
    let given = c.view_run-in-RunGrowing.ensures.read in
    (given.0, given.1, subst (λ (s : Subcommand). ConcludesViewed c.args.telling s given.0 (status_after c.view_run-in-RunGrowing.result) c.view_run-in-RunGrowing.new.log w) (sym c.in-RunGrowing.is) (c.a_viewed_run_concludes_as_its_input_says.ensures.growing c.in-RunGrowing.at_most c.args.telling given.0 _ _ _ _ given.2))
