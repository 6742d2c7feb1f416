use Rattle.rh_cli.proofs.Viewed.{other_reads}
use Rattle.rh_cli.proofs.viewed_driving.reads_for.Goals as goal

pub returns-in_default-clause-given : goal.returns-in_default-clause-given
returns-in_default-clause-given c = rw (other_reads c.args.subcommand c.in_default.not-Dump) c.new.ensures
