use Rattle.rh_text.specs.lemmas.Formed.{is_formed-Decides}
use Rattle.rh_text.proofs.laws.formed_lines_are_well_formed.Goals as goal

pub returns : goal.returns
returns c line = is_formed-Decides line
