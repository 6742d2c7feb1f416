use Rattle.std.proofs.Common.{refl, subst}
use Rattle.rh_layout.specs.declared.command.RootId.{RootId}
use Rattle.rheap_c.specs.Grown.{OnPaced}
use Rattle.rheap_c.specs.Read.{IsAnswered, field_answer}
use Rattle.rheap_c.proofs.Parts.{Calls-fixed, Calls-growing}
use Rattle.rheap_c.proofs.calls.reading.rheap_field.Goals as goal

pub returns-then-is_empty : goal.returns-then-is_empty
returns-then-is_empty c = Calls-growing _ _ _ _ _ _ _ c.is_empty.ensures.empty c.if-is_empty.true c.is_empty.ensures.kept
    (subst (λ (r : RootId). OnPaced (λ old new. IsAnswered (λ s. field_answer s r c.args.field) old new c.field.result c.field.new.value) c.args.heap.now.growing.state c.field.new.heap.state) c.of.ensures c.field.ensures)

pub returns : goal.returns
returns c = Calls-fixed _ _ _ _ _ _ _ _ c.is_empty.ensures.empty c.if-is_empty.false c.is_empty.ensures.kept c.field-2.ensures refl
