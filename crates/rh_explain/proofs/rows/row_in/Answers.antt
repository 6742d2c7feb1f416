use Rattle.std.proofs.Common.{sym, ap, ◌∙◌, arith}
use Rattle.std.specs.Str.{bytes_eq}
use Rattle.rh_explain.proofs.Lookups.{lookup_here, lookup_next, lookup_none}
use Rattle.rh_explain.proofs.rows.row_in.Goals as goal

pub returns-then-is_text : goal.returns-then-is_text
returns-then-is_text c =
    let is = ap (bytes_eq c.args.word.now) (sym c.as_bytes.ensures.value) ∙ sym c.is_text.ensures ∙ c.if-is_text.true in
    sym (lookup_here c.args.word.now c.args.rows.now c.loop-row.row-index _ c.loop-row-test.true is) ∙ c.loop-row.invariant

pub loop-row-preserved : goal.loop-row-preserved
loop-row-preserved c =
    let other = ap (bytes_eq c.args.word.now) (sym c.as_bytes.ensures.value) ∙ sym c.is_text.ensures ∙ c.if-is_text.false in
    sym (lookup_next c.args.word.now c.args.rows.now c.loop-row.row-index _ c.loop-row-test.true other) ∙ c.loop-row.invariant

pub returns : goal.returns
returns c = sym (lookup_none c.args.word.now c.args.rows.now c.loop-row.row-index (omega (arith, c.loop-row-test.false))) ∙ c.loop-row.invariant
