use Rattle.std.proofs.Common.{◌≡◌, ◌∙◌, refl, sym}
use Rattle.rh_command_line.specs.declared.ask.Subcommand.TheVariants.{Replay}
use Rattle.rh_text.specs.lemmas.Appends.{Keeps-same}
use Rattle.rh_commands.specs.Fault.{status_of}
use Rattle.rh_commands.specs.lemmas.Statuses.{late_is_told, late_of_ending, late_of_fault}
use Rattle.rh_cli.proofs.viewed_driving.drive_viewed.Goals as goal

pub returns-in-Ok-clause-told : goal.returns-in-Ok-clause-told
returns-in-Ok-clause-told g c = rw c.status.ensures c.in-Ok.ensures.told

pub returns-in-Ok-clause-read : goal.returns-in-Ok-clause-read
returns-in-Ok-clause-read g c = rw c.status.ensures c.in-Ok.ensures.read

pub returns-after-explains-clause-told : goal.returns-after-explains-clause-told
returns-after-explains-clause-told g c = rw c.tell_as-status.ensures c.in-Err.ensures.told

pub returns-after-explains-clause-read : goal.returns-after-explains-clause-read
returns-after-explains-clause-read g c = rw c.tell_as-status.ensures c.in-Err.ensures.read

pub returns-in-Ok-clause-quiet : goal.returns-in-Ok-clause-quiet
returns-in-Ok-clause-quiet g c = λ is. Keeps-same (g.E.Write.contents c.args.err.now)

pub returns-after-explains-clause-quiet : goal.returns-after-explains-clause-quiet
returns-after-explains-clause-quiet g c = λ is. absurd (late_is_told (c.args.ask.now.subcommand ≡ Replay) c.tell_as-status.result (status_of c.in-Err.fault) c.tell_as-status.ensures c.in-Err.ensures.late c.in-Err.ensures.check is)

pub returns-in-Ok-clause-late : goal.returns-in-Ok-clause-late
returns-in-Ok-clause-late g c = late_of_ending c.in-Ok.ending c.status.result c.status.ensures

pub returns-after-explains-clause-late : goal.returns-after-explains-clause-late
returns-after-explains-clause-late g c = late_of_fault c.tell_as-status.result (status_of c.in-Err.fault) c.tell_as-status.ensures c.in-Err.ensures.late

pub returns-in-Ok-clause-flushed : goal.returns-in-Ok-clause-flushed
returns-in-Ok-clause-flushed g c = λ is. c.in-Ok.ensures.flushed refl

pub returns-after-explains-clause-flushed : goal.returns-after-explains-clause-flushed
returns-after-explains-clause-flushed g c = λ is. absurd (late_is_told (c.args.ask.now.subcommand ≡ Replay) c.tell_as-status.result (status_of c.in-Err.fault) c.tell_as-status.ensures c.in-Err.ensures.late c.in-Err.ensures.check is)

pub returns-in-Ok-clause-ended : goal.returns-in-Ok-clause-ended
returns-in-Ok-clause-ended g c = λ limits is zero. c.in-Ok.ensures.ended limits is (sym c.status.ensures ∙ zero)

pub returns-after-explains-clause-ended : goal.returns-after-explains-clause-ended
returns-after-explains-clause-ended g c = λ limits is zero. c.in-Err.ensures.ended limits is (sym c.tell_as-status.ensures ∙ zero)
