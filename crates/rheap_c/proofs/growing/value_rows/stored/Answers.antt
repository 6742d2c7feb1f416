use Rattle.std.proofs.Common.{ℕ, ◌+◌, ◌<◌, ◌≤◌, List, length, drop, sym, subst, arith}
use Rattle.rh_layout.specs.declared.command.Command.TheVariants.{Store}
use Rattle.rheap_c.specs.declared.init.RheapInit.{RheapInit}
use Rattle.rheap_c.specs.Grown.{DoesOnce}
use Rattle.rheap_c.specs.RootRows.{next_index}
use Rattle.rheap_c.specs.ValueRows.{value_stores}
use Rattle.rheap_c.proofs.GrownRows.{leads-all, leads-end, leads-value}
use Rattle.rheap_c.proofs.InTurn.{Leads, leads-next, leads-refused}
use Rattle.rheap_c.proofs.growing.value_rows.stored.Goals as goal

pub loop-at-init : goal.loop-at-init
loop-at-init c = record {
  few = omega arith;
  leads = leads-all DoesOnce c.args.heap.now (value_stores c.args.owner c.args.object c.args.from c.args.values.now);
}

pub returns-in-Err : goal.returns-in-Err
returns-in-Err c =
    let inv = c.loop-at.invariant in
    let values : List RheapInit = c.args.values.now in
    let within : c.loop-at.at < length values = omega (arith, c.loop-at-test.true) in
    leads-refused DoesOnce c.args.heap.now (value_stores c.args.owner c.args.object c.args.from values) c.loop-at.at c.loop-at.heap c.store.new.self c.args.owner (Store c.args.object c.loop-at.field c.operand-operand.result) (value_stores c.args.owner c.args.object (next_index c.loop-at.field) (drop (c.loop-at.at + 1) values)) c.store.result c.store.ensures
    (leads-value DoesOnce c.args.heap.now (value_stores c.args.owner c.args.object c.args.from values) c.args.owner c.args.object c.loop-at.field values c.loop-at.at c.loop-at.heap within c.operand-operand.result c.operand-operand.ensures inv.leads)
    c.in-Err.why _ c.in-Err.is c.number.ensures

pub loop-at-preserved : goal.loop-at-preserved
loop-at-preserved c =
    let inv = c.loop-at.invariant in
    let values : List RheapInit = c.args.values.now in
    let within : c.loop-at.at < length values = omega (arith, c.loop-at-test.true) in
    let leads = leads-next DoesOnce c.args.heap.now (value_stores c.args.owner c.args.object c.args.from values) c.loop-at.at c.loop-at.heap c.store.new.self c.args.owner (Store c.args.object c.loop-at.field c.operand-operand.result) (value_stores c.args.owner c.args.object (next_index c.loop-at.field) (drop (c.loop-at.at + 1) values)) c.store.result c.store.ensures
    (leads-value DoesOnce c.args.heap.now (value_stores c.args.owner c.args.object c.args.from values) c.args.owner c.args.object c.loop-at.field values c.loop-at.at c.loop-at.heap within c.operand-operand.result c.operand-operand.ensures inv.leads)
    c.in-Ok.field-0 c.in-Ok.is in
    record {
      few = omega (arith, within);
      leads =
          subst (λ (f : ℕ). Leads DoesOnce c.args.heap.now (value_stores c.args.owner c.args.object c.args.from values) (c.loop-at.at + 1) c.store.new.self (value_stores c.args.owner c.args.object f (drop (c.loop-at.at + 1) values))) (sym c.next_index-field.ensures) leads;
    }

pub returns : goal.returns
returns c =
    let inv = c.loop-at.invariant in
    let values : List RheapInit = c.args.values.now in
    let past : length values ≤ c.loop-at.at = omega (arith, c.loop-at-test.false) in
    leads-end DoesOnce c.args.heap.now (value_stores c.args.owner c.args.object c.args.from values) c.args.owner c.args.object c.loop-at.field values c.loop-at.at c.loop-at.heap past inv.few inv.leads
