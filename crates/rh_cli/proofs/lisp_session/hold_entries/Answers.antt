use Rattle.rh_commands.specs.lemmas.Statuses.{late_after}
use Rattle.rh_cli.proofs.lisp_session.hold_entries.Goals as goal

pub returns-clause-late : goal.returns-clause-late
returns-clause-late g c = late_after c.play_entries-played.result c.tell_ending.result c.tell_ending.ensures c.play_entries-played.ensures.late
