use Rattle.std.proofs.Common.{sym, ◌∙◌}
use Rattle.rh_explain.proofs.Parts.{copies_passes, entries_passes, neither_fails}
use Rattle.rh_explain.proofs.finding.why_not_dealt.Goals as goal

pub returns-then-is_text : goal.returns-then-is_text
returns-then-is_text c = copies_passes c.args.part.now (sym c.is_text.ensures ∙ c.if-is_text.true)

pub returns-then-is_text-2 : goal.returns-then-is_text-2
returns-then-is_text-2 c = entries_passes c.args.part.now (sym c.is_text-2.ensures ∙ c.if-is_text-2.true)

pub returns : goal.returns
returns c = neither_fails c.args.part.now (sym c.is_text.ensures ∙ c.if-is_text.false) (sym c.is_text-2.ensures ∙ c.if-is_text-2.false)
