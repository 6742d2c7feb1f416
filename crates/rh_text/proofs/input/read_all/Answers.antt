use Rattle.std.proofs.Common.{◌++◌, ℕ, Vec, take, arith, rules}
use Rattle.std.proofs.lemmas.List.{length-append}
use Rattle.std.proofs.lemmas.Result.{err_from_is_err_and}
use Rattle.rh_text.proofs.Consumes.{Consumes-then, Consumes-keeps, ends_with}
use Rattle.rh_text.proofs.input.read_all.Goals as goal

pub loop-chunk-init : goal.loop-chunk-init
loop-chunk-init g c = search rules

pub returns-in_err-keep-in-Ok-clause-bytes : goal.returns-in_err-keep-in-Ok-clause-bytes
returns-in_err-keep-in-Ok-clause-bytes g c =
    let known = g.R.Read.remaining in
    let p = err_from_is_err_and c.from_residual.result c.from_residual.ensures.1 in
    let more = take c.in-Ok.n c.read.new.buf in
    rw (p.1, p.2) (
      c.loop-chunk.text.items ++ more,
      Consumes-then (known c.args.reader.now) (known c.loop-chunk.reader) (known c.read.new.reader) c.loop-chunk.text.items more c.loop-chunk.invariant.taken c.in-Ok.ensures.bytes.0,
      ends_with (λ (v : Vec ℕ g.row.A.Denot). v.items) c.in_err-keep-in-Ok.field-0.0 (c.loop-chunk.text.items ++ more) (known c.read.new.reader) (λ e. omega (arith, c.in_err-keep-in-Ok.ensures.long e, length-append c.loop-chunk.text.items more)) (λ e. omega (arith, c.in_err-keep-in-Ok.ensures.refused e, length-append c.loop-chunk.text.items more)) c.in_err-keep-in-Ok.ensures.never_read,
    )

pub returns-then-not-is_interrupted-clause-bytes : goal.returns-then-not-is_interrupted-clause-bytes
returns-then-not-is_interrupted-clause-bytes g c =
    let known = g.R.Read.remaining in (
      c.loop-chunk.text.items,
      Consumes-keeps (known c.args.reader.now) (known c.loop-chunk.reader) (known c.read.new.reader) c.loop-chunk.text.items c.loop-chunk.invariant.taken c.in-Err.ensures.bytes,
      c.loop-chunk.invariant.few,
    )

pub returns-clause-bytes : goal.returns-clause-bytes
returns-clause-bytes g c = (c.loop-chunk.text.items, c.loop-chunk.invariant.taken, c.loop-chunk.invariant.few)
