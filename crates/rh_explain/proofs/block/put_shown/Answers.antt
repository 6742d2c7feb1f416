use Rattle.std.proofs.Common.{length, take, ap, arith}
use Rattle.std.proofs.lemmas.List.{length-append}
use Rattle.rh_explain.specs.Block.{shown}
use Rattle.rh_explain.proofs.Shown.{shown_within}
use Rattle.rh_explain.proofs.block.put_shown.Goals as goal

pub put_shown_byte-requires : goal.put_shown_byte-requires
put_shown_byte-requires c =
    let bytes = c.args.bytes.now in
    let i = c.loop-byte.byte-index in
    omega (arith, ap length c.loop-byte.invariant, length-append c.args.text.now (shown (take i bytes)), shown_within bytes i 0 c.loop-byte-test.true, c.requires)
