use Rattle.std.proofs.Common.{ℕ, ◌+◌, ◌-◌, ◌<◌, List, [], ◌∷◌, ◌++◌, length, Some, refl, sym, ap, ◌∙◌, arith, length-append, length-set}
use Rattle.std.specs.Prelude.{slice_set}
use Rattle.rh_layout.specs.declared.command.Command.TheVariants.{Load}
use Rattle.rh_layout.specs.declared.command.RootId.{RootId}
use Rattle.rh_pace.specs.Paced.{paced_step}
use Rattle.rheap_c.specs.declared.value.RheapValue.{RheapValue}
use Rattle.rheap_c.specs.Told.{value_of_reply}
use Rattle.rheap_c.specs.RootRows.{after_replies, done_until, next_index, next_root, row_loads, values_over}
use Rattle.rheap_c.proofs.RootRows.{IsRowEnd-of, next-done, row-first, row-left, then-refused, values_over-next}
use Rattle.rheap_c.proofs.Quiet.{paced_of, with_paced-again}
use Rattle.rheap_c.proofs.growing.root_rows.loaded.Goals as goal

pub loop-at-init : goal.loop-at-init
loop-at-init c = record {
  rest = refl;
  told = [];
  many = refl;
  few = omega arith;
  leads = row-first paced_step c.args.heap.now.paced (row_loads c.args.owner c.args.first c.args.src c.args.from) (length c.args.values.now);
  values = refl;
  same_length = refl;
}

pub returns-in-Err-clause-end : goal.returns-in-Err-clause-end
returns-in-Err-clause-end c =
    let inv = c.loop-at.invariant in
    let within : c.loop-at.at < length c.args.values.now = omega (arith, c.loop-at-test.true) in
    IsRowEnd-of _ _ inv.told (Some c.in-Err.why) _ _
    (then-refused paced_step inv.told c.loop-at.heap.paced c.load.new.heap.paced _ c.args.owner (Load c.loop-at.dst c.args.src c.loop-at.field) (row_loads c.args.owner (next_root c.loop-at.dst) c.args.src (next_index c.loop-at.field) (length c.args.values.now - (c.loop-at.at + 1))) c.in-Err.why c.load.result c.in-Err.is (ap paced_of c.load.ensures.state) c.load.ensures.answer
    (row-left paced_step inv.told c.loop-at.heap.paced _ (row_loads c.args.owner c.loop-at.dst c.args.src c.loop-at.field) (length c.args.values.now) c.loop-at.at within inv.leads))
    inv.many c.number.ensures

pub loop-at-preserved : goal.loop-at-preserved
loop-at-preserved c =
    let inv = c.loop-at.invariant in
    let within : c.loop-at.at < length c.args.values.now = omega (arith, c.loop-at-test.true) in
    let leads = next-done paced_step inv.told c.loop-at.heap.paced c.load.new.heap.paced _ c.args.owner (Load c.loop-at.dst c.args.src c.loop-at.field) (row_loads c.args.owner (next_root c.loop-at.dst) c.args.src (next_index c.loop-at.field) (length c.args.values.now - (c.loop-at.at + 1))) c.in-Ok.reply c.load.result c.in-Ok.is (ap paced_of c.load.ensures.state) c.load.ensures.answer
    (row-left paced_step inv.told c.loop-at.heap.paced _ (row_loads c.args.owner c.loop-at.dst c.args.src c.loop-at.field) (length c.args.values.now) c.loop-at.at within inv.leads) in
    record {
      rest = with_paced-again c.args.heap.now c.loop-at.heap c.load.new.heap _ inv.rest c.load.ensures.state;
      told = inv.told ++ c.in-Ok.reply ∷ [];
      many = omega (arith, length-append inv.told (c.in-Ok.reply ∷ []), inv.many);
      few = omega (arith, within);
      leads =
          ap (λ (r : RootId). after_replies (inv.told ++ c.in-Ok.reply ∷ []) (done_until paced_step c.load.new.heap.paced (row_loads c.args.owner r c.args.src c.next_index-field.result (length c.args.values.now - (c.loop-at.at + 1))))) c.next_root-dst.ensures ∙
          ap (λ (f : ℕ). after_replies (inv.told ++ c.in-Ok.reply ∷ []) (done_until paced_step c.load.new.heap.paced (row_loads c.args.owner (next_root c.loop-at.dst) c.args.src f (length c.args.values.now - (c.loop-at.at + 1))))) c.next_index-field.ensures ∙
          leads;
      values =
          ap (λ (v : RheapValue). slice_set c.loop-at.values c.loop-at.at v) c.of.ensures
          ∙ ap (λ (l : List RheapValue). slice_set l c.loop-at.at (value_of_reply c.in-Ok.reply)) inv.values
          ∙ ap (λ (i : ℕ). slice_set (values_over inv.told c.args.values.now) i (value_of_reply c.in-Ok.reply)) (sym inv.many)
          ∙ values_over-next inv.told c.args.values.now c.in-Ok.reply (omega (arith, within, inv.many));
      same_length = length-set c.loop-at.values c.loop-at.at c.of.result ∙ inv.same_length;
    }

pub returns-in-Err-clause-rest : goal.returns-in-Err-clause-rest
returns-in-Err-clause-rest c = with_paced-again c.args.heap.now c.loop-at.heap c.load.new.heap _ c.loop-at.invariant.rest c.load.ensures.state
