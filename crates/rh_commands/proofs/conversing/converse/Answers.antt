use Rattle.std.proofs.Common.{Ok, Err, refl}
use Rattle.rh_commands.proofs.Sessions.{session_read, session_told, session_unread}
use Rattle.rh_commands.proofs.conversing.converse.Goals as goal

pub returns-in-Ok-clause-told : goal.returns-in-Ok-clause-told
returns-in-Ok-clause-told g c = session_told (Ok c.in-Ok.field-0) 0 _ _ _ _ c.in-Ok.ensures.ends refl

pub returns-in-Ok-clause-read : goal.returns-in-Ok-clause-read
returns-in-Ok-clause-read g c = session_read (Ok c.in-Ok.field-0) 0 _ _ _ _ c.in-Ok.ensures.ends refl

pub returns-in-Err-clause-told : goal.returns-in-Err-clause-told
returns-in-Err-clause-told g c = session_told (Err c.in-Err.fault) _ _ _ _ _ c.in-Err.ensures.ends c.fault_of_session.ensures.status

pub returns-in-Err-clause-read : goal.returns-in-Err-clause-read
returns-in-Err-clause-read g c = session_read (Err c.in-Err.fault) _ _ _ _ _ c.in-Err.ensures.ends c.fault_of_session.ensures.status

pub returns-in-Ok-clause-unread : goal.returns-in-Ok-clause-unread
returns-in-Ok-clause-unread g c = λ is. absurd cc

pub returns-in-Err-clause-unread : goal.returns-in-Err-clause-unread
returns-in-Err-clause-unread g c = λ is. session_unread c.in-Err.fault c.fault_of_session.result _ _ _ _ c.fault_of_session.ensures.told is c.in-Err.ensures.ends
