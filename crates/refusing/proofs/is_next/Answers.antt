use Rattle.std.proofs.Common.{rules}
use Rattle.refusing.proofs.is_next.Goals as goal

pub returns-then-earlier-refused : goal.returns-then-earlier-refused
returns-then-earlier-refused c = search rules
