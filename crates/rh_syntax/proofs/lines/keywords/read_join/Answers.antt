use Rattle.std.proofs.Common.{rules}
use Rattle.rh_syntax.specs.Reading.{read_join}
use Rattle.rh_syntax.proofs.lines.keywords.read_join.Goals as goal

pub returns : goal.returns
unfolding read_join
returns c = search rules
