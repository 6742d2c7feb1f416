use Rattle.std.proofs.Common.{ℕ, ◌+◌, ◌<◌, List, [], ◌∷◌, ◌++◌, length, drop, get_or, Some, refl, sym, ap, ◌∙◌, arith, length-append}
use Rattle.rh_layout.specs.declared.command.Command.TheVariants.{Load}
use Rattle.rh_pace.specs.Paced.{paced_step}
use Rattle.rheap_c.specs.RootRows.{path_loads}
use Rattle.rheap_c.proofs.RootRows.{IsRowEnd-of, last_value-next, next-done, path-left, then-refused}
use Rattle.rheap_c.proofs.Quiet.{paced_of, with_paced-again}
use Rattle.rheap_c.proofs.growing.root_rows.followed.Goals as goal

pub loop-at-init : goal.loop-at-init
loop-at-init c = record {
  rest = refl;
  told = [];
  many = refl;
  few = omega arith;
  leads = refl;
  value = c.nil.ensures;
}

pub returns-in-Err-clause-end : goal.returns-in-Err-clause-end
returns-in-Err-clause-end c =
    let inv = c.loop-at.invariant in
    let fields : List ℕ = c.args.fields.now in
    let within : c.loop-at.at < length fields = omega (arith, c.loop-at-test.true) in
    IsRowEnd-of _ _ inv.told (Some c.in-Err.why) _ _
    (then-refused paced_step inv.told c.loop-at.heap.paced c.load.new.heap.paced _ c.args.owner (Load c.args.dst c.loop-at.src (get_or fields c.loop-at.at 0)) (path_loads c.args.owner c.args.dst c.args.dst (drop (c.loop-at.at + 1) fields)) c.in-Err.why c.load.result c.in-Err.is (ap paced_of c.load.ensures.state) c.load.ensures.answer
    (path-left inv.told c.loop-at.heap.paced _ c.args.owner c.args.dst c.loop-at.src fields c.loop-at.at 0 within inv.leads))
    inv.many c.number.ensures

pub loop-at-preserved : goal.loop-at-preserved
loop-at-preserved c =
    let inv = c.loop-at.invariant in
    let fields : List ℕ = c.args.fields.now in
    let within : c.loop-at.at < length fields = omega (arith, c.loop-at-test.true) in
    record {
      rest = with_paced-again c.args.heap.now c.loop-at.heap c.load.new.heap _ inv.rest c.load.ensures.state;
      told = inv.told ++ c.in-Ok.reply ∷ [];
      many = omega (arith, length-append inv.told (c.in-Ok.reply ∷ []), inv.many);
      few = omega (arith, within);
      leads = next-done paced_step inv.told c.loop-at.heap.paced c.load.new.heap.paced _ c.args.owner (Load c.args.dst c.loop-at.src (get_or fields c.loop-at.at 0)) (path_loads c.args.owner c.args.dst c.args.dst (drop (c.loop-at.at + 1) fields)) c.in-Ok.reply c.load.result c.in-Ok.is (ap paced_of c.load.ensures.state) c.load.ensures.answer
          (path-left inv.told c.loop-at.heap.paced _ c.args.owner c.args.dst c.loop-at.src fields c.loop-at.at 0 within inv.leads);
      value = c.of.ensures ∙ sym (last_value-next inv.told c.in-Ok.reply);
    }

pub returns-in-Err-clause-rest : goal.returns-in-Err-clause-rest
returns-in-Err-clause-rest c = with_paced-again c.args.heap.now c.loop-at.heap c.load.new.heap _ c.loop-at.invariant.rest c.load.ensures.state
