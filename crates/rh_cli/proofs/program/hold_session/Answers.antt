use Rattle.rh_commands.specs.lemmas.Statuses.{late_after}
use Rattle.rh_cli.proofs.program.hold_session.Goals as goal

pub returns-clause-late : goal.returns-clause-late
returns-clause-late g c = late_after c.converse-held.result c.tell_ending.result c.tell_ending.ensures c.converse-held.ensures.late
