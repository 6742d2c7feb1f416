use Rattle.rh_commands.specs.lemmas.Known.{known_so}
use Rattle.rh_commands.proofs.RunsFlushed.{answers_flushed}
use Rattle.rh_commands.proofs.running.run.Goals as goal

pub returns-clause-told : goal.returns-clause-told
returns-clause-told g c =
    known_so _ _ (g.R.Read.remaining c.args.reader.now)
    (λ input e. (
      c.run-ran.result,
      answers_flushed g.P.Player.Steps g.P.Player.total (g.Y.Way.fits c.args.way.now) (g.Y.Way.refuses c.args.way.now) input c.run-ran.result _ _ _ e c.flush-flushed.ensures.bytes,
      c.conclude.ensures.status,
    )) c.run-ran.ensures.told

pub returns-clause-read : goal.returns-clause-read
returns-clause-read g c =
    let given = c.run-ran.ensures.read in (
      given.0,
      given.1,
      (
        c.run-ran.result,
        answers_flushed g.P.Player.Steps g.P.Player.total (g.Y.Way.fits c.args.way.now) (g.Y.Way.refuses c.args.way.now) given.0 c.run-ran.result _ _ _ given.2 c.flush-flushed.ensures.bytes,
        c.conclude.ensures.status,
      ),
    )
