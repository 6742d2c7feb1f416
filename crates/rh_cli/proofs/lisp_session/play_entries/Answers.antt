use Rattle.std.proofs.Common.{Ok, Err, sym, ◌∙◌}
use Rattle.std.specs.Io.KnownBytes.{IsAtEnd}
use Rattle.rh_commands.specs.Fault.{status_after}
use Rattle.rh_commands.specs.lemmas.Known.{known_is}
use Rattle.rh_cli.proofs.LispStatuses.{lisp_fault_is_not_0, lisp_session_ended}
use Rattle.rh_cli.proofs.lisp_session.play_entries.Goals as goal

pub returns-in-Ok-clause-told : goal.returns-in-Ok-clause-told
returns-in-Ok-clause-told g c = known_is _ (g.R.Read.remaining c.args.reader.now) (Ok c.in-Ok.begun, c.in-Ok.ensures.ends, c.ending_of.ensures.status)

pub returns-in-Ok-clause-read : goal.returns-in-Ok-clause-read
returns-in-Ok-clause-read g c =
    let given = c.in-Ok.ensures.read in
    (given.0, given.1, (Ok c.in-Ok.begun, c.in-Ok.ensures.ends, c.ending_of.ensures.status))

pub returns-in-Err-clause-told : goal.returns-in-Err-clause-told
returns-in-Err-clause-told g c = known_is _ (g.R.Read.remaining c.args.reader.now) (Err c.in-Err.fault, c.in-Err.ensures.ends, c.fault_of_lisp.ensures.status)

pub returns-in-Err-clause-read : goal.returns-in-Err-clause-read
returns-in-Err-clause-read g c =
    let given = c.in-Err.ensures.read in
    (given.0, given.1, (Err c.in-Err.fault, c.in-Err.ensures.ends, c.fault_of_lisp.ensures.status))

pub returns-in-Ok-clause-ended : goal.returns-in-Ok-clause-ended
returns-in-Ok-clause-ended g c = lisp_session_ended (IsAtEnd (g.R.Read.remaining c.run_session.new.reader)) (Ok c.in-Ok.begun) (status_after c.ending_of.result) c.ending_of.ensures.status c.in-Ok.ensures.ended

pub returns-in-Err-clause-ended : goal.returns-in-Err-clause-ended
returns-in-Err-clause-ended g c = λ zero. absurd (lisp_fault_is_not_0 c.in-Err.fault (sym zero ∙ c.fault_of_lisp.ensures.status))
