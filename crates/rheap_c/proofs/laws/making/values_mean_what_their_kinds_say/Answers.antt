use Rattle.rheap_c.specs.GrownMaking.{growing_making}
use Rattle.rheap_c.specs.Making.{making}
use Rattle.rheap_c.proofs.ValueKinds.{grown-by_kinds, kinds-known, made-by_kinds, stored-by_kind}
use Rattle.rheap_c.proofs.laws.making.values_mean_what_their_kinds_say.Goals as goal

pub returns : goal.returns
returns c = record {
  made = λ insists s new owner dst shape values status few known call. made-by_kinds (making insists) s new owner dst shape values status few known call;
  grown = λ insists s new owner dst shape values status few known call. grown-by_kinds (growing_making insists) s new owner dst shape values status few known call;
  stored = stored-by_kind;
  kinds = kinds-known;
}
