use Rattle.rh_shared.proofs.CommandReplies.{limited-accepted, made-reply, raw-reply, stored-reply, dropped-reply, compared-reply}
use Rattle.rh_shared.proofs.call_laws.replies_are_of_the_command.Goals as goal

pub returns-clause-made : goal.returns-clause-made
returns-clause-made c = made-reply

pub returns-clause-raw : goal.returns-clause-raw
returns-clause-raw c = raw-reply

pub returns-clause-stored : goal.returns-clause-stored
returns-clause-stored c = stored-reply

pub returns-clause-dropped : goal.returns-clause-dropped
returns-clause-dropped c = dropped-reply

pub returns-clause-compared : goal.returns-clause-compared
returns-clause-compared c = compared-reply

pub returns-clause-limited : goal.returns-clause-limited
returns-clause-limited c = limited-accepted
