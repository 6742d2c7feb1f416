use Rattle.std.proofs.Common.{ap, ◌∙◌}
use Rattle.rh_text.specs.Number.{number_of, integer_of}
use Rattle.rh_text.specs.Root.{root_of}
use Rattle.rh_text.specs.lemmas.Numbers.{number_means, number_of-decimal}
use Rattle.rh_text.specs.lemmas.Integers.{integer_means, integer_of-decimal}
use Rattle.rh_text.specs.lemmas.Roots.{root_means, root_of-text}
use Rattle.rh_text.proofs.laws.parts_say_what_they_spell.Goals as goal

pub returns-clause-number : goal.returns-clause-number
returns-clause-number c part n = (λ says. number_means part n says, λ spells. ap number_of spells.0 ∙ number_of-decimal n spells.1)

pub returns-clause-integer : goal.returns-clause-integer
returns-clause-integer c part n = (λ says. integer_means part n says, λ spells. ap integer_of spells.0 ∙ integer_of-decimal n spells.1)

pub returns-clause-root : goal.returns-clause-root
returns-clause-root c part r = (λ says. root_means part r says, λ spells. ap root_of spells.0 ∙ root_of-text r spells.1)
