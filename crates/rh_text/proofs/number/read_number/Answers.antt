use Rattle.std.proofs.Common.{◌≡◌, length, sym, ◌∙◌, arith}
use Rattle.std.proofs.lemmas.Bool.{eqb-true}
use Rattle.rh_text.specs.lemmas.Numbers.{no_number}
use Rattle.rh_text.proofs.ReadNumber.{zero_found, not_digits, small_so_far, digit_more, whole_number, too_large}
use Rattle.rh_text.proofs.number.read_number.Goals as goal

pub returns-then-is_empty : goal.returns-then-is_empty
returns-then-is_empty c =
    let empty : length c.args.part.now ≡ 0 = eqb-true (length c.args.part.now) 0 (sym c.is_empty.ensures ∙ c.if-is_empty.true) in
    no_number c.args.part.now (λ n d. absurd (omega (arith, d.filled, empty)))

pub returns-then-part-gt-MAX_DIGITS : goal.returns-then-part-gt-MAX_DIGITS
returns-then-part-gt-MAX_DIGITS c = no_number c.args.part.now (λ n d. absurd (omega (arith, d.short)))

pub returns-then-part-eq1 : goal.returns-then-part-eq1
returns-then-part-eq1 c = zero_found c.args.part.now c.if-part-eq1.true c.if-part-eq48.true

pub returns-else-part-eq1 : goal.returns-else-part-eq1
returns-else-part-eq1 c = no_number c.args.part.now (λ n d. absurd (c.if-part-eq1.false (d.leading c.if-part-eq48.true)))

pub returns-then-not-is_ascii_digit : goal.returns-then-not-is_ascii_digit
returns-then-not-is_ascii_digit c = not_digits c.args.part.now c.loop-digit.digit-index c.loop-digit-test.true c.if-not-is_ascii_digit.ensures.cases

pub overflow_mul-number : goal.overflow_mul-number
overflow_mul-number c =
    let i = c.loop-digit.invariant in
    omega (arith, small_so_far c.args.part.now c.loop-digit.digit-index c.loop-digit.number i.short i.reads)

pub overflow_add-number : goal.overflow_add-number
overflow_add-number c =
    let i = c.loop-digit.invariant in
    omega (arith, small_so_far c.args.part.now c.loop-digit.digit-index c.loop-digit.number i.short i.reads, c.from.ensures, c.if-not-is_ascii_digit.ensures.cases.1)

pub loop-digit-preserved : goal.loop-digit-preserved
loop-digit-preserved c =
    let i = c.loop-digit.invariant in
    record {
      reads = digit_more c.args.part.now c.loop-digit.digit-index c.loop-digit.number c.from.result c.loop-digit-test.true c.if-not-is_ascii_digit.ensures.cases c.from.ensures i.reads;
      short = i.short;
      filled = i.filled;
      leading = i.leading;
    }

pub returns-then-number-gt-MAX_READ_NUMBER : goal.returns-then-number-gt-MAX_READ_NUMBER
returns-then-number-gt-MAX_READ_NUMBER c = too_large c.args.part.now c.loop-digit.digit-index c.loop-digit.number c.loop-digit-test.false c.loop-digit.invariant.reads (omega arith)

pub returns : goal.returns
returns c =
    let i = c.loop-digit.invariant in
    whole_number c.args.part.now c.loop-digit.digit-index c.loop-digit.number c.loop-digit-test.false i.short i.filled i.leading i.reads (omega arith)
