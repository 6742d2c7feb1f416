use Rattle.std.proofs.Common.{◌+◌, ◌-◌, ◌<◌, [], ◌∷◌, ◌++◌, Some, refl, ap, ◌∙◌, arith, length-append}
use Rattle.rh_layout.specs.declared.command.Command.TheVariants.{Drop}
use Rattle.rh_layout.specs.declared.command.RootId.{RootId}
use Rattle.rh_pace.specs.Paced.{paced_step}
use Rattle.rheap_c.specs.RootRows.{after_replies, done_until, next_root, row_drops}
use Rattle.rheap_c.proofs.RootRows.{IsRowEnd-of, next-done, row-first, row-left, then-refused}
use Rattle.rheap_c.proofs.fixed.root_rows.dropped.Goals as goal

pub loop-at-init : goal.loop-at-init
loop-at-init c = record {
  told = [];
  many = refl;
  few = omega arith;
  leads = row-first paced_step c.args.heap.now (row_drops c.args.owner c.args.first) (c.args.length);
}

pub returns-in-Err : goal.returns-in-Err
returns-in-Err c =
    let inv = c.loop-at.invariant in
    let within : c.loop-at.at < c.args.length = omega (arith, c.loop-at-test.true) in
    IsRowEnd-of _ _ inv.told (Some c.in-Err.why) _ _
    (then-refused paced_step inv.told c.loop-at.heap c.drop.new.self _ c.args.owner (Drop c.loop-at.root) (row_drops c.args.owner (next_root c.loop-at.root) (c.args.length - (c.loop-at.at + 1))) c.in-Err.why c.drop.result c.in-Err.is c.drop.ensures.state c.drop.ensures.answer
    (row-left paced_step inv.told c.loop-at.heap _ (row_drops c.args.owner c.loop-at.root) (c.args.length) c.loop-at.at within inv.leads))
    inv.many c.number.ensures

pub loop-at-preserved : goal.loop-at-preserved
loop-at-preserved c =
    let inv = c.loop-at.invariant in
    let within : c.loop-at.at < c.args.length = omega (arith, c.loop-at-test.true) in
    let leads = next-done paced_step inv.told c.loop-at.heap c.drop.new.self _ c.args.owner (Drop c.loop-at.root) (row_drops c.args.owner (next_root c.loop-at.root) (c.args.length - (c.loop-at.at + 1))) c.in-Ok.field-0 c.drop.result c.in-Ok.is c.drop.ensures.state c.drop.ensures.answer
    (row-left paced_step inv.told c.loop-at.heap _ (row_drops c.args.owner c.loop-at.root) (c.args.length) c.loop-at.at within inv.leads) in
    record {
      told = inv.told ++ c.in-Ok.field-0 ∷ [];
      many = omega (arith, length-append inv.told (c.in-Ok.field-0 ∷ []), inv.many);
      few = omega (arith, within);
      leads =
          ap (λ (r : RootId). after_replies (inv.told ++ c.in-Ok.field-0 ∷ []) (done_until paced_step c.drop.new.self (row_drops c.args.owner r (c.args.length - (c.loop-at.at + 1))))) c.next_root-root.ensures ∙
          leads;
    }
