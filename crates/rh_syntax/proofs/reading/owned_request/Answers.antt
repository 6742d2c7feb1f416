use Rattle.std.proofs.Common.{refl, sym, ap, ◌∙◌}
use Rattle.rh_syntax.specs.Reading.{command_or_fault, owned_request}
use Rattle.rh_syntax.proofs.Steps.{parts_from_first, passed_on}
use Rattle.rh_syntax.proofs.reading.owned_request.Goals as goal

pub returns-in_default : goal.returns-in_default
unfolding owned_request
returns-in_default c = rw (parts_from_first _ _ c.in_default.ensures) refl

pub returns-then-is_text : goal.returns-then-is_text
unfolding owned_request
returns-then-is_text c =
    let first = parts_from_first _ _ c.in-Some.ensures in
    let watch = sym c.is_text.ensures ∙ c.if-is_text.true in
    rw (first, watch) c.read_watch.ensures

pub returns-in_err-owner : goal.returns-in_err-owner
unfolding owned_request
returns-in_err-owner c =
    let first = parts_from_first _ _ c.in-Some.ensures in
    let watch = sym c.is_text.ensures ∙ c.if-is_text.false in
    let read = c.in_err-owner.ensures ∙ ap (command_or_fault c.args.owner.now) first in
    rw (passed_on _ _ c.from_residual.ensures.1, first, watch, ← read) refl

pub returns : goal.returns
unfolding owned_request
returns c =
    let first = parts_from_first _ _ c.in-Some.ensures in
    let watch = sym c.is_text.ensures ∙ c.if-is_text.false in
    let read = c.in_ok-owner.ensures ∙ ap (command_or_fault c.args.owner.now) first in
    rw (first, watch, ← read) refl
