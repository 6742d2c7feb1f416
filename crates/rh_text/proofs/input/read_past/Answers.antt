use Rattle.std.proofs.Common.{◌++◌, take}
use Rattle.rh_text.proofs.Consumes.{Consumes-then, Consumes-keeps}
use Rattle.rh_text.proofs.input.read_past.Goals as goal

pub returns-then-is_err-clause-bytes : goal.returns-then-is_err-clause-bytes
returns-then-is_err-clause-bytes g c =
    let known = g.R.Read.remaining in
    let more = take c.in-Ok.n c.read.new.buf in (
      c.loop-chunk.text.items ++ more,
      Consumes-then (known c.args.reader.now) (known c.loop-chunk.reader) (known c.read.new.reader) c.loop-chunk.text.items more c.loop-chunk.invariant.taken c.in-Ok.ensures.bytes.0,
      tt,
    )

pub returns-in-Err-clause-bytes : goal.returns-in-Err-clause-bytes
returns-in-Err-clause-bytes g c =
    let known = g.R.Read.remaining in (
      c.loop-chunk.text.items,
      Consumes-keeps (known c.args.reader.now) (known c.loop-chunk.reader) (known c.read.new.reader) c.loop-chunk.text.items c.loop-chunk.invariant.taken c.in-Err.ensures.bytes,
      c.loop-chunk.invariant.few,
    )

pub returns-clause-bytes : goal.returns-clause-bytes
returns-clause-bytes g c = (c.loop-chunk.text.items, c.loop-chunk.invariant.taken, c.loop-chunk.invariant.few)
