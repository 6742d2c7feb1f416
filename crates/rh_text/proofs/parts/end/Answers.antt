use Rattle.rh_text.specs.lemmas.Cuts.{more_parts}
use Rattle.rh_text.proofs.parts.end.Goals as goal

pub returns-in-Some : goal.returns-in-Some
returns-in-Some c = more_parts c.args.rest c.in-Some.field-0 c.in-Some.is
