use Rattle.rh_model.proofs.same_graphs.SameGraphReached.{value_fields-reference}
use Rattle.rh_model.proofs.laws.a_reference_has_its_objects_fields.Goals as goal

pub returns : goal.returns
returns c = value_fields-reference
