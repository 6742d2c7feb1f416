use Rattle.std.proofs.Common.{ap, ◌∙◌}
use Rattle.rh_layout.specs.declared.command.RootId.{RootId}
use Rattle.rheap_c.specs.Read.{root_answer}
use Rattle.rheap_c.proofs.Lent.{closed-answered, lent-answered, open-held}
use Rattle.rheap_c.proofs.fixed.reading.root.Goals as goal

pub returns-then-is_empty : goal.returns-then-is_empty
returns-then-is_empty c = closed-answered _ _ _ c.is_empty.ensures.empty c.if-is_empty.true c.is_empty.ensures.kept _ _ c.nil.ensures

pub here-requires : goal.here-requires
here-requires c = open-held _ _ _ c.is_empty.ensures.empty c.if-is_empty.false c.is_empty.ensures.kept

pub returns : goal.returns
returns c = lent-answered _ _ _ c.is_empty.ensures.kept c.here.ensures.value _ _ (c.told_of_root-told.ensures ∙ ap (λ (r : RootId). root_answer c.here.result.now r) c.id.ensures) _ c.answer_status.ensures _ c.told.ensures
