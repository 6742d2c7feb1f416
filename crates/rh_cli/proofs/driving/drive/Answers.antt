use Rattle.std.proofs.Common.{◌≡◌, sym, ◌∙◌}
use Rattle.rh_command_line.specs.declared.ask.Subcommand.TheVariants.{Replay}
use Rattle.rh_text.specs.lemmas.Appends.{Keeps-same}
use Rattle.rh_commands.specs.Fault.{status_of}
use Rattle.rh_commands.specs.lemmas.Statuses.{late_is_told, late_of_ending, late_of_fault}
use Rattle.rh_cli.proofs.driving.drive.Goals as goal

pub returns-in-Ok-clause-told : goal.returns-in-Ok-clause-told
returns-in-Ok-clause-told g c = rw c.status.ensures c.in-Ok.ensures.told

pub returns-in-Ok-clause-read : goal.returns-in-Ok-clause-read
returns-in-Ok-clause-read g c = rw c.status.ensures c.in-Ok.ensures.read

pub returns-in-Err-clause-told : goal.returns-in-Err-clause-told
returns-in-Err-clause-told g c = rw c.tell.ensures c.in-Err.ensures.told

pub returns-in-Err-clause-read : goal.returns-in-Err-clause-read
returns-in-Err-clause-read g c = rw c.tell.ensures c.in-Err.ensures.read

pub returns-in-Ok-clause-quiet : goal.returns-in-Ok-clause-quiet
returns-in-Ok-clause-quiet g c = λ is. Keeps-same (g.E.Write.contents c.args.err.now)

pub returns-in-Err-clause-quiet : goal.returns-in-Err-clause-quiet
returns-in-Err-clause-quiet g c = λ is. absurd (late_is_told (c.args.ask.now.subcommand ≡ Replay) c.tell.result (status_of c.in-Err.fault) c.tell.ensures c.in-Err.ensures.late c.in-Err.ensures.check is)

pub returns-in-Ok-clause-late : goal.returns-in-Ok-clause-late
returns-in-Ok-clause-late g c = late_of_ending c.in-Ok.ending c.status.result c.status.ensures

pub returns-in-Err-clause-late : goal.returns-in-Err-clause-late
returns-in-Err-clause-late g c = late_of_fault c.tell.result (status_of c.in-Err.fault) c.tell.ensures c.in-Err.ensures.late

pub returns-in-Ok-clause-ended : goal.returns-in-Ok-clause-ended
returns-in-Ok-clause-ended g c = λ limits is zero. c.in-Ok.ensures.ended limits is (sym c.status.ensures ∙ zero)

pub returns-in-Err-clause-ended : goal.returns-in-Err-clause-ended
returns-in-Err-clause-ended g c = λ limits is zero. c.in-Err.ensures.ended limits is (sym c.tell.ensures ∙ zero)
