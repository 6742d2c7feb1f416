use Rattle.std.proofs.Common.{rules}
use Rattle.rheap_c.proofs.fixed.fields.store_int_at_length.Goals as goal

pub returns-in-Some : goal.returns-in-Some
returns-in-Some c = search rules
