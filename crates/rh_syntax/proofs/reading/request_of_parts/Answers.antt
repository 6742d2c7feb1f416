use Rattle.std.proofs.Common.{refl, sym, ◌∙◌}
use Rattle.rh_syntax.specs.Reading.{request_of_parts}
use Rattle.rh_syntax.proofs.Steps.{parts_from_first}
use Rattle.rh_syntax.proofs.reading.request_of_parts.Goals as goal

pub returns-in_default : goal.returns-in_default
unfolding request_of_parts
returns-in_default c = rw (parts_from_first _ _ c.in_default.ensures) refl

pub returns-then-begins_with_digit : goal.returns-then-begins_with_digit
unfolding request_of_parts
returns-then-begins_with_digit c =
    let first = parts_from_first _ _ c.in-Some.ensures in
    let digit = sym c.begins_with_digit.ensures ∙ c.if-begins_with_digit.true in
    rw (first, digit) c.owned_request.ensures

pub returns : goal.returns
unfolding request_of_parts
returns c =
    let first = parts_from_first _ _ c.in-Some.ensures in
    let digit = sym c.begins_with_digit.ensures ∙ c.if-begins_with_digit.false in
    rw (first, digit) c.keyword_request.ensures
