use Rattle.rh_commands.proofs.Flushed.{SharedEnds-flushed, ConcludesShared-told}
use Rattle.rh_commands.proofs.sharing.play_shared.Goals as goal

pub returns-clause-told : goal.returns-clause-told
returns-clause-told g c = ConcludesShared-told c.args.options _ c.run_shared-ran.result _ _ _ _ c.run_shared-ran.ensures.told c.flush-flushed.ensures.bytes c.conclude.ensures.status

pub returns-clause-read : goal.returns-clause-read
returns-clause-read g c =
    let given = c.run_shared-ran.ensures.read in
    (given.0, given.1, (c.run_shared-ran.result, SharedEnds-flushed c.args.options given.0 c.run_shared-ran.result _ _ _ given.2 c.flush-flushed.ensures.bytes, c.conclude.ensures.status))
