use Rattle.std.proofs.Common.{refl, ap, arith}
use Rattle.std.specs.Prelude.{is_some}
use Rattle.rheap_c.specs.Cycles.{is_flipped}
use Rattle.rheap_c.specs.Numbers.{bit_of, flipped_roots, flipped_words}
use Rattle.rheap_c.proofs.laws.numbers.numbers_cross_under_their_names.Goals as goal

pub returns : goal.returns
returns c = record {
  words = λ s. (refl, refl);
  counted = λ s. (refl, refl, refl);
  units = λ s. (refl, refl, refl);
  placed = λ s. (refl, refl, refl);
  root_words = λ s few. omega (arith, few);
  more_root_words = λ s many. omega (arith, many);
  in_cycle = λ s on. ap bit_of on;
  outside = λ s off. ap bit_of off;
  did = λ did. (refl, refl);
  began = λ did is. ap bit_of is;
  unbegun = λ did is. ap bit_of is;
  flipped = λ did flipped is. (ap flipped_roots is, ap flipped_words is, ap (λ o. bit_of (is_some o)) is);
  unflipped = λ did is. (ap flipped_roots is, ap flipped_words is, ap (λ o. bit_of (is_some o)) is);
  pace = λ pace. (refl, refl, refl);
  room = λ fields s. (refl, refl);
  cycle = λ c. (refl, refl, refl, refl, refl);
  cycle_words = λ c. (refl, refl, refl, refl, refl);
  cycle_units = λ c. (refl, refl, refl, refl, refl);
  cycle_flipped = λ c is. ap (λ e. bit_of (is_flipped e)) is;
  cycle_abandoned = λ c is. ap (λ e. bit_of (is_flipped e)) is;
  no_cycle = refl;
}
