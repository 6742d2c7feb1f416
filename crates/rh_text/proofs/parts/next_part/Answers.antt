use Rattle.rh_text.specs.lemmas.Cuts.{part_found, last_part}
use Rattle.rh_text.proofs.parts.next_part.Goals as goal

pub returns-in-Some : goal.returns-in-Some
returns-in-Some c = part_found c.args.rest c.in_ok-bytes.bytes c.in-Some.part.now c.in-Some.after.now c.in_ok-bytes.was c.in-Some.ensures

pub returns-in-None : goal.returns-in-None
returns-in-None c = last_part c.args.rest c.in_ok-bytes.bytes c.in_ok-bytes.was c.in-None.ensures
