use Rattle.std.proofs.Common.{◌≤◌, Result, sym, subst, arith}
use Rattle.rh_text.specs.RawLine.{RawLine}
use Rattle.rh_dump.specs.texts.Line.{DumpLine}
use Rattle.rh_dump.specs.texts.Putting.{put_read, Tells}
use Rattle.rh_dump.specs.declared.reading.due.Due.{Due}
use Rattle.rh_dump.specs.declared.reading.fault.DumpKind.{DumpKind}
use Rattle.rh_dump.proofs.texts.PutRead.{raw_long, raw_cut, raw_whole}
use Rattle.rh_dump.proofs.reading.line_reading.read_raw_line.Goals as goal

pub returns-then-end-gt-MAX_DUMP_BYTES : goal.returns-then-end-gt-MAX_DUMP_BYTES
returns-then-end-gt-MAX_DUMP_BYTES g c = λ size is.
    raw_long 268435456 c.args.end size c.args.builder.now c.args.due (record { bytes = c.args.line.now; ended = c.args.ended }) is c.if-end-gt-MAX_DUMP_BYTES.true

pub returns-then-not-ended : goal.returns-then-not-ended
returns-then-not-ended g c = λ size is.
    let few : c.args.end ≤ 268435456 = omega (arith, c.if-end-gt-MAX_DUMP_BYTES.false) in
    raw_cut 268435456 c.args.end size c.args.builder.now c.args.due (record { bytes = c.args.line.now; ended = c.args.ended }) is few c.if-not-ended.true

pub returns : goal.returns
returns g c = λ size is.
    let few : c.args.end ≤ 268435456 = omega (arith, c.if-end-gt-MAX_DUMP_BYTES.false) in
    let raw : RawLine = record { bytes = c.args.line.now; ended = c.args.ended } in
    subst (λ (r : Result DumpLine DumpKind). Tells (λ (next : Due). (c.read_line.new.builder, next)) c.read_line.result (put_read c.args.builder.now c.args.due r))
    (sym (raw_whole 268435456 c.args.end size c.args.due raw is few c.if-not-ended.false)) c.read_line.ensures
