use Rattle.std.proofs.Common.{◌+◌, get_or, drop, map}
use Rattle.rh_text.specs.Parts.{parts_of, parts_left}
use Rattle.rh_explain.specs.Explain.{sort_of, class}
use Rattle.rh_explain.proofs.Walk.{walk_goes_on, walk_stops, walk_short, at_part, next_sort, first_is, none_left}
use Rattle.rh_explain.proofs.finding.argument_misfit.Goals as goal

pub returns-in_default : goal.returns-in_default
returns-in_default c =
    walk_short (map sort_of c.args.form.now) (map sort_of (drop c.loop-index.index c.args.form.now)) (parts_of c.args.line.now) (parts_left c.loop-index.rest) c.loop-index.index c.loop-index.invariant (none_left _ c.in_default.ensures)

pub returns-in-Some-why_not : goal.returns-in-Some-why_not
returns-in-Some-why_not c =
    let form = c.args.form.now in
    let i = c.loop-index.index in
    let sort = sort_of (get_or form i _) in
    let due = map sort_of (drop (i + 1) form) in
    let left = parts_left c.in-Some.after in
    walk_stops (map sort_of form) due (parts_of c.args.line.now) left i sort c.in-Some.part.now (class c.in-Some-why_not.why)
    (at_part (map sort_of form) (map sort_of (drop i form)) due (parts_of c.args.line.now) (parts_left c.loop-index.rest) left i sort c.in-Some.part.now c.loop-index.invariant (next_sort form i _ c.loop-index-test.true) (first_is _ _ c.in-Some.ensures))
    c.in-Some-why_not.ensures

pub loop-index-preserved : goal.loop-index-preserved
loop-index-preserved c =
    let form = c.args.form.now in
    let i = c.loop-index.index in
    let sort = sort_of (get_or form i _) in
    let due = map sort_of (drop (i + 1) form) in
    let left = parts_left c.in-Some.after in
    walk_goes_on (map sort_of form) due (parts_of c.args.line.now) left i sort c.in-Some.part.now
    (at_part (map sort_of form) (map sort_of (drop i form)) due (parts_of c.args.line.now) (parts_left c.loop-index.rest) left i sort c.in-Some.part.now c.loop-index.invariant (next_sort form i _ c.loop-index-test.true) (first_is _ _ c.in-Some.ensures))
    c.in_default-why_not.ensures
