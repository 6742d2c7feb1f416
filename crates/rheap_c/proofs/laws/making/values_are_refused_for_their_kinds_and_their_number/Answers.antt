use Rattle.rheap_c.specs.GrownMaking.{growing_making}
use Rattle.rheap_c.specs.Making.{making}
use Rattle.rheap_c.proofs.ValueKinds.{grown-too_many_values, grown-unknown, made-too_many, made-unknown}
use Rattle.rheap_c.proofs.laws.making.values_are_refused_for_their_kinds_and_their_number.Goals as goal

pub returns : goal.returns
returns c = record {
  unknown = λ insists s new owner dst shape values status few i v is high call. made-unknown (making insists) s new owner dst shape values status few i v is high call;
  grown_unknown = λ insists s new owner dst shape values status few i v is high call. grown-unknown (growing_making insists) s new owner dst shape values status few i v is high call;
  many = λ insists s new owner dst shape values status more call. made-too_many (making insists) s new owner dst shape values status more call;
  grown_many = λ insists s new owner dst shape values status more call. grown-too_many_values (growing_making insists) s new owner dst shape values status more call;
}
