use Rattle.std.proofs.Common.{◌≡◌, ℕ, ◌+◌, ◌-◌, length, sym, ap, ◌∙◌, arith}
use Rattle.std.proofs.lemmas.Bool.{eqb-true}
use Rattle.std.proofs.lemmas.List.{nil_from_length}
use Rattle.rh_text.specs.RawLine.{RawLine, lines_of, raw_text}
use Rattle.rh_dump.specs.texts.Reading.{lines_from}
use Rattle.rh_dump.specs.texts.Putting.{put_lines}
use Rattle.rh_dump.specs.declared.reading.due.Due.{Due}
use Rattle.rh_dump.specs.declared.reading.due.Due.TheVariants as dues
use Rattle.rh_dump.proofs.texts.PutLines.{lines_next, lines_error, lines_ended, goes_on, length-rest}
use Rattle.rh_dump.proofs.reading.read_lines.Goals as goal

pub returns-in-Err : goal.returns-in-Err
returns-in-Err g c =
    let first = c.first_line-ended.result in
    let raw : RawLine = record { bytes = first.0.now; ended = first.1 } in
    let rest = c.loop-rest.rest.now in
    let after = first.2.now in
    let size = length c.args.bytes.now - length rest in
    let total = put_lines c.args.builder.now (lines_from 268435456 dues.Header 1 0 (lines_of c.args.bytes.now)) in
    let end_is : (length c.args.bytes.now - length after) ≡ size + length (raw_text raw) = omega (arith, length-rest rest after raw c.first_line-ended.ensures.lines, c.loop-rest.invariant.left) in
    rw c.error_in.ensures (lines_error (λ (next : Due). (c.read_raw_line.new.builder, next)) (λ (u : Unit {0}). c.read_raw_line.new.builder) 268435456 c.loop-rest.number size c.loop-rest.builder c.loop-rest.due rest after raw c.in-Err.error total c.first_line-ended.ensures.lines (c.in-Err.ensures size end_is) c.loop-rest.invariant.read)

pub loop-rest-preserved : goal.loop-rest-preserved
loop-rest-preserved g c =
    let first = c.first_line-ended.result in
    let raw : RawLine = record { bytes = first.0.now; ended = first.1 } in
    let rest = c.loop-rest.rest.now in
    let after = first.2.now in
    let size = length c.args.bytes.now - length rest in
    let new = c.read_raw_line.new.builder in
    let next = c.in-Ok.next in
    let lines = c.first_line-ended.ensures.lines in
    let end_is : (length c.args.bytes.now - length after) ≡ size + length (raw_text raw) = omega (arith, length-rest rest after raw lines, c.loop-rest.invariant.left) in
    let told = c.in-Ok.ensures size end_is in
    let more = goes_on 268435456 size c.loop-rest.builder new c.loop-rest.due next raw c.loop-rest.invariant.due told in
    record {
      read = ap (λ (n : ℕ). put_lines new (lines_from 268435456 next (c.loop-rest.number + 1) n (lines_of after))) end_is
          ∙ lines_next 268435456 c.loop-rest.number size c.loop-rest.builder new c.loop-rest.due next rest after raw lines told
          ∙ c.loop-rest.invariant.read;
      due = more.due;
      left = omega (arith, c.loop-rest.invariant.left, c.first_line-ended.ensures.shorter);
      size = omega (arith, more.within, end_is);
      count = omega (arith, c.loop-rest.invariant.count, c.loop-rest.invariant.left, c.first_line-ended.ensures.shorter);
    }

pub returns : goal.returns
returns g c =
    let rest = c.loop-rest.rest.now in
    let total = put_lines c.args.builder.now (lines_from 268435456 dues.Header 1 0 (lines_of c.args.bytes.now)) in
    let empty : length rest ≡ 0 = eqb-true (length rest) 0 (sym c.is_empty.ensures ∙ c.loop-rest-test.false) in
    lines_ended 268435456 c.loop-rest.number (length c.args.bytes.now - length rest) c.loop-rest.builder c.loop-rest.due rest c.end_of.result total (nil_from_length rest empty) c.end_of.ensures c.loop-rest.invariant.read
