use Rattle.std.proofs.Common.{◌≡◌, ℕ, inr, length, take, get_or, ap, arith}
use Rattle.std.proofs.lemmas.List.{length-append}
use Rattle.rh_explain.specs.Block.{shown, shown_byte}
use Rattle.rh_explain.proofs.Shown.{shown_more}
use Rattle.rh_explain.proofs.block.fitting.Goals as goal

pub returns-then-next-gt-MOST_COLUMNS-clause-fits : goal.returns-then-next-gt-MOST_COLUMNS-clause-fits
returns-then-next-gt-MOST_COLUMNS-clause-fits c = omega (arith, c.loop-i.invariant.shown, c.loop-i.invariant.fits)

pub returns-then-next-gt-MOST_COLUMNS-clause-many : goal.returns-then-next-gt-MOST_COLUMNS-clause-many
returns-then-next-gt-MOST_COLUMNS-clause-many c = inr (omega (arith, c.loop-i.invariant.many, c.width.ensures.few.1, c.if-next-gt-MOST_COLUMNS.true))

pub loop-i-preserved : goal.loop-i-preserved
loop-i-preserved c =
    let bytes = c.args.bytes.now in
    let i = c.loop-i.i in
    record {
      shown = omega (arith, c.loop-i.invariant.shown, c.width.ensures.value, ap length (shown_more bytes i 0 c.loop-i-test.true), length-append (shown (take i bytes)) (shown_byte (get_or bytes i 0)));
      fits = omega (arith, c.if-next-gt-MOST_COLUMNS.false);
      many = omega (arith, c.loop-i.invariant.many, c.width.ensures.few.1);
    }

pub returns-clause-fits : goal.returns-clause-fits
returns-clause-fits c =
    let bytes = c.args.bytes.now in
    let all : c.loop-i.i ≡ length bytes = omega (arith, c.loop-i-test.false, c.loop-i.auto.i-end) in
    omega (arith, c.loop-i.invariant.shown, c.loop-i.invariant.fits, ap (λ (n : ℕ). length (shown (take n bytes))) all)
