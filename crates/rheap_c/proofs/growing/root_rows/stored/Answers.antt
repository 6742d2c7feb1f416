use Rattle.std.proofs.Common.{ℕ, ◌+◌, ◌-◌, ◌<◌, ◌≤◌, refl, sym, subst, arith}
use Rattle.rh_layout.specs.declared.command.Command.TheVariants.{Store}
use Rattle.rh_layout.specs.declared.command.Operand.TheVariants as operands
use Rattle.rh_layout.specs.declared.command.RootId.{RootId}
use Rattle.rheap_c.specs.Grown.{DoesOnce}
use Rattle.rheap_c.specs.RootRows.{next_index, next_root, row_stores}
use Rattle.rheap_c.proofs.InTurn.{Leads, leads-first, leads-last, leads-left, leads-next, leads-refused}
use Rattle.rheap_c.proofs.growing.root_rows.stored.Goals as goal

pub loop-at-init : goal.loop-at-init
loop-at-init c = record {
  few = omega arith;
  leads = leads-first DoesOnce c.args.heap.now (row_stores c.args.owner c.args.object c.args.from c.args.first c.args.length) (row_stores c.args.owner c.args.object c.args.from c.args.first) c.args.length refl;
}

pub returns-in-Err : goal.returns-in-Err
returns-in-Err c =
    let inv = c.loop-at.invariant in
    let within : c.loop-at.at < c.args.length = omega (arith, c.loop-at-test.true) in
    leads-refused DoesOnce c.args.heap.now (row_stores c.args.owner c.args.object c.args.from c.args.first c.args.length) c.loop-at.at c.loop-at.heap c.store.new.self c.args.owner (Store c.args.object c.loop-at.field (operands.Root c.loop-at.src)) (row_stores c.args.owner c.args.object (next_index c.loop-at.field) (next_root c.loop-at.src) (c.args.length - (c.loop-at.at + 1))) c.store.result c.store.ensures
    (leads-left DoesOnce c.args.heap.now (row_stores c.args.owner c.args.object c.args.from c.args.first c.args.length) (row_stores c.args.owner c.args.object c.loop-at.field c.loop-at.src) c.args.length c.loop-at.at c.loop-at.heap within inv.leads)
    c.in-Err.why _ c.in-Err.is c.number.ensures

pub loop-at-preserved : goal.loop-at-preserved
loop-at-preserved c =
    let inv = c.loop-at.invariant in
    let within : c.loop-at.at < c.args.length = omega (arith, c.loop-at-test.true) in
    let leads = leads-next DoesOnce c.args.heap.now (row_stores c.args.owner c.args.object c.args.from c.args.first c.args.length) c.loop-at.at c.loop-at.heap c.store.new.self c.args.owner (Store c.args.object c.loop-at.field (operands.Root c.loop-at.src)) (row_stores c.args.owner c.args.object (next_index c.loop-at.field) (next_root c.loop-at.src) (c.args.length - (c.loop-at.at + 1))) c.store.result c.store.ensures
    (leads-left DoesOnce c.args.heap.now (row_stores c.args.owner c.args.object c.args.from c.args.first c.args.length) (row_stores c.args.owner c.args.object c.loop-at.field c.loop-at.src) c.args.length c.loop-at.at c.loop-at.heap within inv.leads)
    c.in-Ok.field-0 c.in-Ok.is in
    record {
      few = omega (arith, within);
      leads =
          subst (λ (r : RootId). Leads DoesOnce c.args.heap.now (row_stores c.args.owner c.args.object c.args.from c.args.first c.args.length) (c.loop-at.at + 1) c.store.new.self (row_stores c.args.owner c.args.object c.next_index-field.result r (c.args.length - (c.loop-at.at + 1)))) (sym c.next_root-src.ensures)
          (subst (λ (f : ℕ). Leads DoesOnce c.args.heap.now (row_stores c.args.owner c.args.object c.args.from c.args.first c.args.length) (c.loop-at.at + 1) c.store.new.self (row_stores c.args.owner c.args.object f (next_root c.loop-at.src) (c.args.length - (c.loop-at.at + 1)))) (sym c.next_index-field.ensures) leads);
    }

pub returns : goal.returns
returns c =
    let inv = c.loop-at.invariant in
    let past : c.args.length ≤ c.loop-at.at = omega (arith, c.loop-at-test.false) in
    leads-last DoesOnce c.args.heap.now (row_stores c.args.owner c.args.object c.args.from c.args.first c.args.length) (row_stores c.args.owner c.args.object c.loop-at.field c.loop-at.src) c.args.length c.loop-at.at c.loop-at.heap past inv.few refl inv.leads
