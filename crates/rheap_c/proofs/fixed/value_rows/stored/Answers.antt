use Rattle.std.proofs.Common.{ℕ, ◌+◌, ◌<◌, List, [], ◌∷◌, ◌++◌, length, drop, Some, refl, ap, ◌∙◌, arith, length-append}
use Rattle.rh_layout.specs.declared.command.Command.TheVariants.{Store}
use Rattle.rh_pace.specs.Paced.{paced_step}
use Rattle.rheap_c.specs.declared.init.RheapInit.{RheapInit}
use Rattle.rheap_c.specs.RootRows.{after_replies, done_until, next_index}
use Rattle.rheap_c.specs.ValueRows.{value_stores}
use Rattle.rheap_c.proofs.RootRows.{IsRowEnd-of, next-done, then-refused}
use Rattle.rheap_c.proofs.ValueRows.{no_init, values-left}
use Rattle.rheap_c.proofs.fixed.value_rows.stored.Goals as goal

pub loop-at-init : goal.loop-at-init
loop-at-init c = record {
  told = [];
  many = refl;
  few = omega arith;
  leads = refl;
}

pub returns-in-Err : goal.returns-in-Err
returns-in-Err c =
    let inv = c.loop-at.invariant in
    let values : List RheapInit = c.args.values.now in
    let within : c.loop-at.at < length values = omega (arith, c.loop-at-test.true) in
    IsRowEnd-of _ _ inv.told (Some c.in-Err.why) _ _
    (then-refused paced_step inv.told c.loop-at.heap c.store.new.heap _ c.args.owner (Store c.args.object c.loop-at.field c.operand-operand.result) (value_stores c.args.owner c.args.object (next_index c.loop-at.field) (drop (c.loop-at.at + 1) values)) c.in-Err.why c.store.result c.in-Err.is c.store.ensures.state c.store.ensures.answer
    (values-left paced_step inv.told c.loop-at.heap _ c.args.owner c.args.object c.loop-at.field values c.loop-at.at no_init within c.operand-operand.result c.operand-operand.ensures inv.leads))
    inv.many c.number.ensures

pub loop-at-preserved : goal.loop-at-preserved
loop-at-preserved c =
    let inv = c.loop-at.invariant in
    let values : List RheapInit = c.args.values.now in
    let within : c.loop-at.at < length values = omega (arith, c.loop-at-test.true) in
    record {
      told = inv.told ++ c.in-Ok.field-0 ∷ [];
      many = omega (arith, length-append inv.told (c.in-Ok.field-0 ∷ []), inv.many);
      few = omega (arith, within);
      leads =
          ap (λ (f : ℕ). after_replies (inv.told ++ c.in-Ok.field-0 ∷ []) (done_until paced_step c.store.new.heap (value_stores c.args.owner c.args.object f (drop (c.loop-at.at + 1) values)))) c.next_index-field.ensures
          ∙ next-done paced_step inv.told c.loop-at.heap c.store.new.heap _ c.args.owner (Store c.args.object c.loop-at.field c.operand-operand.result) (value_stores c.args.owner c.args.object (next_index c.loop-at.field) (drop (c.loop-at.at + 1) values)) c.in-Ok.field-0 c.store.result c.in-Ok.is c.store.ensures.state c.store.ensures.answer
          (values-left paced_step inv.told c.loop-at.heap _ c.args.owner c.args.object c.loop-at.field values c.loop-at.at no_init within c.operand-operand.result c.operand-operand.ensures inv.leads);
    }
