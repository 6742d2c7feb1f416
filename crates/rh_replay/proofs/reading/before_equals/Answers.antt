use Rattle.std.proofs.Common.{◌≡◌, true, false, sym, ◌∙◌}
use Rattle.std.specs.Prelude.{codes}
use Rattle.std.specs.Str.{bytes_eq}
use Rattle.rh_text.specs.lemmas.Cuts.{cut_shorter}
use Rattle.rh_replay.proofs.Equals.{mark_first, mark_last, stands_short, stands_next, found_before, nothing_before}
use Rattle.rh_replay.proofs.reading.before_equals.Goals as goal

pub before_last-requires : goal.before_last-requires
before_last-requires c = stands_short c.args.line.now c.loop-part.rest.now c.loop-part.invariant

pub returns-then-is_text : goal.returns-then-is_text
returns-then-is_text c =
    let is : bytes_eq c.in-Some.part.now (codes "=") ≡ true = sym c.is_text.ensures ∙ c.if-is_text.true in
    found_before c.args.line.now c.loop-part.rest.now c.loop-part.invariant (mark_first c.loop-part.rest.now c.in-Some.part.now c.in-Some.after.now c.in-Some.ensures is) c.before_last.result c.before_last.ensures.none c.before_last.ensures.some

pub loop-part-smaller : goal.loop-part-smaller
loop-part-smaller c = cut_shorter 32 c.loop-part.rest.now c.in-Some.part.now c.in-Some.after.now c.in-Some.ensures

pub loop-part-preserved : goal.loop-part-preserved
loop-part-preserved c =
    let is : bytes_eq c.in-Some.part.now (codes "=") ≡ false = sym c.is_text.ensures ∙ c.if-is_text.false in
    stands_next c.args.line.now c.loop-part.rest.now c.in-Some.part.now c.in-Some.after.now c.loop-part.invariant c.in-Some.ensures is

pub before_last-requires-then-is_text-2 : goal.before_last-requires-then-is_text-2
before_last-requires-then-is_text-2 c = stands_short c.args.line.now c.loop-part.rest.now c.loop-part.invariant

pub returns-then-is_text-2 : goal.returns-then-is_text-2
returns-then-is_text-2 c =
    let is : bytes_eq c.loop-part.rest.now (codes "=") ≡ true = sym c.is_text-2.ensures ∙ c.if-is_text-2.true in
    found_before c.args.line.now c.loop-part.rest.now c.loop-part.invariant (mark_last c.loop-part.rest.now c.in_default.ensures is) c.before_last-then-is_text-2.result c.before_last-then-is_text-2.ensures.none c.before_last-then-is_text-2.ensures.some

pub returns : goal.returns
returns c =
    let is : bytes_eq c.loop-part.rest.now (codes "=") ≡ false = sym c.is_text-2.ensures ∙ c.if-is_text-2.false in
    nothing_before c.args.line.now c.loop-part.rest.now c.loop-part.invariant c.in_default.ensures is
