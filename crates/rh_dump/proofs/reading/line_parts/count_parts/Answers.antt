use Rattle.std.proofs.Common.{arith}
use Rattle.rh_dump.proofs.texts.PartCount.{after_space, after_other}
use Rattle.rh_dump.proofs.reading.line_parts.count_parts.Goals.{then-byte-eq32, else-byte-eq32}
use Rattle.rh_dump.proofs.reading.line_parts.count_parts.Goals as goal

pub loop-byte-preserved : goal.loop-byte-preserved
loop-byte-preserved c =
    let line = c.args.line.now in
    let i = c.loop-byte.byte-index in
    elim c.if-byte-eq32.branch [
      | then-byte-eq32 w ↦ record {
        counted = omega (arith, after_space line i _ c.loop-byte-test.true w.if-byte-eq32.true, w.count-is, c.loop-byte.invariant.counted);
        few = omega (arith, w.count-is, c.loop-byte.invariant.few);
      }
      | else-byte-eq32 w ↦ record {
        counted = omega (arith, after_other line i _ c.loop-byte-test.true w.if-byte-eq32.false, w.count-is, c.loop-byte.invariant.counted);
        few = omega (arith, w.count-is, c.loop-byte.invariant.few);
      }
    ]
