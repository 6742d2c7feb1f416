use Rattle.std.proofs.Common.{ℕ, ◌+◌, ◌<◌, List, [], ◌∷◌, ◌++◌, length, drop, Some, Err, refl, sym, ap, ◌∙◌, arith, length-append}
use Rattle.rh_layout.specs.declared.command.Command.TheVariants.{Store}
use Rattle.rh_layout.specs.declared.refusal.Refusal.{Refusal}
use Rattle.rh_pace.specs.Collecting.{insist_step}
use Rattle.rheap_c.specs.declared.init.RheapInit.{RheapInit}
use Rattle.rheap_c.specs.RootRows.{after_replies, done_until, next_index}
use Rattle.rheap_c.specs.ValueRows.{value_stores}
use Rattle.rheap_c.proofs.RootRows.{IsRowEnd-of, next-done, then-refused}
use Rattle.rheap_c.proofs.ValueRows.{no_init, rank-log, values-left}
use Rattle.rheap_c.proofs.fixed.value_rows.insisted.Goals as goal

pub loop-at-init : goal.loop-at-init
loop-at-init c = record {
  told = [];
  many = refl;
  few = omega arith;
  leads = refl;
}

pub returns-in-Err-clause-end : goal.returns-in-Err-clause-end
returns-in-Err-clause-end c =
    let inv = c.loop-at.invariant in
    let values : List RheapInit = c.args.values.now in
    let within : c.loop-at.at < length values = omega (arith, c.loop-at-test.true) in
    IsRowEnd-of _ _ inv.told (Some c.in-Err.why) _ _
    (then-refused insist_step inv.told c.loop-at.heap c.insist_store.new.heap _ c.args.owner (Store c.args.object c.loop-at.field c.operand-operand.result) (value_stores c.args.owner c.args.object (next_index c.loop-at.field) (drop (c.loop-at.at + 1) values)) c.in-Err.why c.insist_store.result c.in-Err.is c.insist_store.ensures.state c.insist_store.ensures.answer
    (values-left insist_step inv.told c.loop-at.heap _ c.args.owner c.args.object c.loop-at.field values c.loop-at.at no_init within c.operand-operand.result c.operand-operand.ensures inv.leads))
    inv.many c.number.ensures

pub returns-in-Err-clause-log : goal.returns-in-Err-clause-log
returns-in-Err-clause-log c = λ nine.
    rank-log c.in-Err.why (λ full. c.insist_store.ensures.log (c.in-Err.is ∙ ap (λ (why : Refusal). Err why) full)) (sym c.number.ensures ∙ nine)

pub loop-at-preserved : goal.loop-at-preserved
loop-at-preserved c =
    let inv = c.loop-at.invariant in
    let values : List RheapInit = c.args.values.now in
    let within : c.loop-at.at < length values = omega (arith, c.loop-at-test.true) in
    record {
      told = inv.told ++ c.in-Ok.field-0 ∷ [];
      many = omega (arith, length-append inv.told (c.in-Ok.field-0 ∷ []), inv.many);
      few = omega (arith, within);
      leads =
          ap (λ (f : ℕ). after_replies (inv.told ++ c.in-Ok.field-0 ∷ []) (done_until insist_step c.insist_store.new.heap (value_stores c.args.owner c.args.object f (drop (c.loop-at.at + 1) values)))) c.next_index-field.ensures
          ∙ next-done insist_step inv.told c.loop-at.heap c.insist_store.new.heap _ c.args.owner (Store c.args.object c.loop-at.field c.operand-operand.result) (value_stores c.args.owner c.args.object (next_index c.loop-at.field) (drop (c.loop-at.at + 1) values)) c.in-Ok.field-0 c.insist_store.result c.in-Ok.is c.insist_store.ensures.state c.insist_store.ensures.answer
          (values-left insist_step inv.told c.loop-at.heap _ c.args.owner c.args.object c.loop-at.field values c.loop-at.at no_init within c.operand-operand.result c.operand-operand.ensures inv.leads);
    }
