use Rattle.rheap_c.proofs.PlainMakes.{grown-as_plain, made-as_plain}
use Rattle.rheap_c.proofs.laws.making.an_object_is_made_as_on_the_plain_heap.Goals as goal

pub returns : goal.returns
returns c = record {
  fixed = λ insists s p stands new owner dst shape values status call. made-as_plain insists s p stands owner dst shape status new values call;
  growing = λ insists s p stands new owner dst shape values status call. grown-as_plain insists s p stands owner dst shape status new values call;
}
