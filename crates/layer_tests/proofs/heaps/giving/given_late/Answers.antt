use Rattle.std.proofs.Common.{refl, ◌∙◌}
use Rattle.layer_tests.proofs.heaps.giving.given_late.Goals as goal

pub returns : goal.returns
returns g c = λ on other.
    c.give.ensures.answer
    ∙ (c.a_give_is_refused_with_the_first_reason.ensures.stale _ _ _ _).1 (on, other, refl, refl)
