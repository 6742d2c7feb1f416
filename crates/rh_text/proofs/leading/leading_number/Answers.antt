use Rattle.std.proofs.Common.{◌≤◌, length, ap, arith, inl, inr, refl, drop, get_or}
use Rattle.std.proofs.lemmas.List.{length-drop, drop_more}
use Rattle.rh_text.proofs.NumberHead.{below_power, zero_leads, next_rest, next_digit, number_leads, first_is_digit, digits_end}
use Rattle.rh_text.proofs.leading.leading_number.Goals as goal

pub returns-then-not-is_ascii_digit : goal.returns-then-not-is_ascii_digit
returns-then-not-is_ascii_digit c = λ number byte rest small out is.
    let first = first_is_digit c.args.text.now rest number byte small is in
    elim c.if-not-is_ascii_digit.ensures.cases [ inl low ↦ omega (arith, first.0, low) | inr high ↦ omega (arith, first.1, high) ]

pub returns-in_default-rest : goal.returns-in_default-rest
returns-in_default-rest c = λ number byte rest small out is.
    let i = c.loop-i.invariant in
    let text = c.args.text.now in
    let end = digits_end text rest number byte small is c.loop-i.i out i.within i.reads.digits in
    omega (arith, end.0, ap length i.rest, length-drop c.loop-i.i text, c.in_default-rest.len_below)

pub returns : goal.returns
returns c = λ number byte rest small out is.
    let i = c.loop-i.invariant in
    omega (arith, (digits_end c.args.text.now rest number byte small is c.loop-i.i out i.within i.reads.digits).1, c.loop-i-test.false)

pub returns-then-first-eq48 : goal.returns-then-first-eq48
returns-then-first-eq48 c = (omega arith, zero_leads c.args.text.now c.if-first-eq48.true, λ some. absurd (some refl), omega arith)

pub returns-then-not-is_ascii_digit-2 : goal.returns-then-not-is_ascii_digit-2
returns-then-not-is_ascii_digit-2 c =
    let i = c.loop-i.invariant in
    let few : c.loop-i.i ≤ 8 = omega (arith, c.loop-i-test.true) in (
      omega (arith, below_power c.args.text.now c.loop-i.i c.loop-i.number 8 few i.reads),
      number_leads c.args.text.now c.loop-i.rest.now c.loop-i.i c.loop-i.number i.rest i.filled few i.within i.leading i.reads,
      λ some. (get_or c.loop-i.rest.now 0 0, drop 1 c.loop-i.rest.now, c.if-not-is_ascii_digit-2.ensures.cases, drop_more c.loop-i.rest.now 0 0 (omega (arith, c.in-len1-up-rest.len_at_least))),
      below_power c.args.text.now c.loop-i.i c.loop-i.number 8 few i.reads,
    )

pub overflow_mul-number : goal.overflow_mul-number
overflow_mul-number c =
    omega (arith, below_power c.args.text.now c.loop-i.i c.loop-i.number 8 (omega (arith, c.loop-i-test.true)) c.loop-i.invariant.reads)

pub overflow_add-number : goal.overflow_add-number
overflow_add-number c =
    omega (arith, below_power c.args.text.now c.loop-i.i c.loop-i.number 8 (omega (arith, c.loop-i-test.true)) c.loop-i.invariant.reads, c.from.ensures, c.if-not-is_ascii_digit-2.ensures.cases.1)

pub loop-i-preserved : goal.loop-i-preserved
loop-i-preserved c =
    let i = c.loop-i.invariant in
    let text = c.args.text.now in
    let rest = c.loop-i.rest.now in
    let filled = c.in-len1-up-rest.len_at_least in
    record {
      reads = next_digit text rest c.loop-i.i c.loop-i.number c.from.result i.rest filled c.if-not-is_ascii_digit-2.ensures.cases c.from.ensures i.reads;
      rest = next_rest text rest c.loop-i.i i.rest filled;
      filled = omega arith;
      within = omega (arith, filled, ap length i.rest, length-drop c.loop-i.i text);
      leading = i.leading;
    }
