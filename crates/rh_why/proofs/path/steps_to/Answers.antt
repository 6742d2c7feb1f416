use Rattle.std.proofs.Common.{◌≡◌, ◌<◌, ◌-◌, ◌+◌, Some, None, length, sym, arith}
use Rattle.std.specs.Prelude.{slice_get}
use Rattle.rh_why.specs.declared.holder.Holder.TheVariants.{Root, Field}
use Rattle.rh_why.specs.Path.{steps_to}
use Rattle.rh_why.proofs.Steps.{one_left, up_field, up_none, up_root}
use Rattle.rh_why.proofs.path.steps_to.Goals as goal

pub returns-in_default : goal.returns-in_default
returns-in_default g c =
    let holders = c.args.holders.now in
    let all = length holders in
    let lt : c.loop.counter < all = omega (arith, c.loop-test.true, c.loop.auto.counter-end) in
    up_none holders (steps_to all holders c.args.object) c.loop.steps.items (all - c.loop.counter) (all - (c.loop.counter + 1)) c.loop.to (one_left all c.loop.counter lt) c.loop.invariant (sym c.in_default.ensures)

pub returns-in-Root : goal.returns-in-Root
returns-in-Root g c =
    let holders = c.args.holders.now in
    let all = length holders in
    let lt : c.loop.counter < all = omega (arith, c.loop-test.true, c.loop.auto.counter-end) in
    let raw = c.in-Root.is in
    let is : c.in-Some.holder ≡ Root c.in-Root.field-0 = cc in
    up_root holders (steps_to all holders c.args.object) c.loop.steps.items (all - c.loop.counter) (all - (c.loop.counter + 1)) c.loop.to (one_left all c.loop.counter lt) c.loop.invariant c.push.new.self.items c.in-Some.holder c.in-Root.field-0 (sym c.in-Some.ensures) is c.in_ok-push.ensures.items

pub loop-preserved : goal.loop-preserved
loop-preserved g c =
    let holders = c.args.holders.now in
    let all = length holders in
    let lt : c.loop.counter < all = omega (arith, c.loop-test.true, c.loop.auto.counter-end) in
    let raw = c.in-Field.is in
    let is : c.in-Some.holder ≡ Field c.in-Field.object c.in-Field.field = cc in
    up_field holders (steps_to all holders c.args.object) c.loop.steps.items (all - c.loop.counter) (all - (c.loop.counter + 1)) c.loop.to (one_left all c.loop.counter lt) c.loop.invariant c.push.new.self.items c.in-Some.holder c.in-Field.object c.in-Field.field (sym c.in-Some.ensures) is c.in_ok-push.ensures.items
