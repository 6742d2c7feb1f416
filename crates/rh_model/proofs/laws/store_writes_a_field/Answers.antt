use Rattle.rh_model.proofs.CommandEffects.{store-writes}
use Rattle.rh_layout.specs.declared.command.Operand.TheVariants as operands
use Rattle.rh_model.proofs.laws.store_writes_a_field.Goals as goal

pub returns-clause-nil : goal.returns-clause-nil
returns-clause-nil c = λ p q formed owner obj field. store-writes p q formed owner obj field operands.Nil

pub returns-clause-number : goal.returns-clause-number
returns-clause-number c = λ p q formed owner obj field n. store-writes p q formed owner obj field (operands.Int n)

pub returns-clause-root : goal.returns-clause-root
returns-clause-root c = λ p q formed owner obj field src. store-writes p q formed owner obj field (operands.Root src)
