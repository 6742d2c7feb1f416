use Rattle.std.proofs.Common.{sym, ◌∙◌}
use Rattle.rh_explain.proofs.Parts.{nil_passes, root_operand_passes, root_operand_fails, integer_passes, integer_fails}
use Rattle.rh_explain.proofs.finding.why_no_operand.Goals as goal

pub returns-then-is_text : goal.returns-then-is_text
returns-then-is_text c = nil_passes c.args.part.now (sym c.is_text.ensures ∙ c.if-is_text.true)

pub returns-in-Some : goal.returns-in-Some
returns-in-Some c = root_operand_passes c.args.part.now _ (sym c.has_dot.ensures ∙ c.if-has_dot.true) (sym c.in-Some.ensures)

pub returns-in-None : goal.returns-in-None
returns-in-None c = root_operand_fails c.args.part.now (sym c.has_dot.ensures ∙ c.if-has_dot.true) (sym c.in-None.ensures)

pub returns-in-Some-read_integer : goal.returns-in-Some-read_integer
returns-in-Some-read_integer c = integer_passes c.args.part.now _ (sym c.has_dot.ensures ∙ c.if-has_dot.false) (sym c.in-Some-read_integer.ensures)

pub returns-in-None-read_integer : goal.returns-in-None-read_integer
returns-in-None-read_integer c =
    integer_fails c.args.part.now (sym c.is_text.ensures ∙ c.if-is_text.false) (sym c.has_dot.ensures ∙ c.if-has_dot.false) (sym c.in-None-read_integer.ensures)
