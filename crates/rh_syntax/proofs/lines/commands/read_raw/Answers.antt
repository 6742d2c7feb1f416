use Rattle.std.proofs.Common.{rules}
use Rattle.rh_syntax.specs.Reading.{read_raw}
use Rattle.rh_syntax.proofs.lines.commands.read_raw.Goals as goal

pub returns : goal.returns
unfolding read_raw
returns c = search rules
