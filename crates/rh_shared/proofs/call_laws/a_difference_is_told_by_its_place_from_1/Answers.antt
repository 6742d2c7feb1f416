use Rattle.rh_shared.proofs.Partings.{reason-parts}
use Rattle.rh_shared.proofs.call_laws.a_difference_is_told_by_its_place_from_1.Goals as goal

pub returns : goal.returns
returns c = reason-parts
