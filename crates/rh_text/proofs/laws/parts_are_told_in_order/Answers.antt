use Rattle.std.proofs.Common.{ap, ◌∙◌}
use Rattle.rh_text.specs.Parts.{one_part, two_parts, three_parts, six_parts, cut_at}
use Rattle.rh_text.specs.lemmas.Cuts.{cut_means}
use Rattle.rh_text.specs.lemmas.Formed.{one_part-means, two_parts-means, three_parts-means}
use Rattle.rh_text.proofs.PartsInOrder.{one_part-of, two_parts-of, three_parts-of, six_parts-of, six_parts-means, cut_is_first, cut_at-first, has_dot-means, has_dot-of, digit-means, digit-of}
use Rattle.rh_text.proofs.laws.parts_are_told_in_order.Goals as goal

pub returns-clause-one : goal.returns-clause-one
returns-clause-one g parts a = (λ told. one_part-means parts a told, λ are. ap one_part are ∙ one_part-of a)

pub returns-clause-two : goal.returns-clause-two
returns-clause-two g parts a b = (λ told. two_parts-means parts (a, b) told, λ are. ap two_parts are ∙ two_parts-of a b)

pub returns-clause-three : goal.returns-clause-three
returns-clause-three g parts a b c = (λ told. three_parts-means parts (a, b, c) told, λ are. ap three_parts are ∙ three_parts-of a b c)

pub returns-clause-six : goal.returns-clause-six
returns-clause-six g parts a b c d e f = (λ told. six_parts-means parts (a, b, c, d, e, f) told, λ are. ap six_parts are ∙ six_parts-of a b c d e f)

pub returns-clause-cut : goal.returns-clause-cut
returns-clause-cut c byte bytes before after = (
  λ cut. (cut_means byte bytes before after cut, cut_is_first byte bytes before after cut),
  λ is. ap (cut_at byte) is.0 ∙ cut_at-first byte before after is.1,
)

pub returns-clause-dot : goal.returns-clause-dot
returns-clause-dot c part = (λ has. has_dot-means part has, λ there. has_dot-of part there)

pub returns-clause-digit : goal.returns-clause-digit
returns-clause-digit c part = (λ begins. digit-means part begins, λ is. digit-of part is)
