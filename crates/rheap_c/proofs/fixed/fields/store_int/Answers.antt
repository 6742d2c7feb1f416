use Rattle.std.proofs.Common.{rules, ℤ, FitsSigned, w64, refl, subst}
use Rattle.std.proofs.lemmas.Int.{to_z-of_z}
use Rattle.rh_layout.specs.declared.command.Command.TheVariants.{Store}
use Rattle.rh_layout.specs.declared.command.Operand.TheVariants.{Int}
use Rattle.rheap_c.specs.Called.{IsDone}
use Rattle.rheap_c.specs.Told.{root_of}
use Rattle.rheap_c.proofs.Lent.{again-done, closed-done, lent-done, open-held}
use Rattle.rheap_c.proofs.fixed.fields.store_int.Goals as goal

pub returns-then-is_empty : goal.returns-then-is_empty
returns-then-is_empty c = closed-done _ _ _ c.is_empty.ensures.empty c.if-is_empty.true c.is_empty.ensures.kept _ _

pub here-requires : goal.here-requires
here-requires c = open-held _ _ _ c.is_empty.ensures.empty c.if-is_empty.false c.is_empty.ensures.kept

pub returns-in-Some : goal.returns-in-Some
returns-in-Some c =
    let fits : FitsSigned w64 c.args.number = search rules in
    lent-done _ _ _ c.is_empty.ensures.kept c.here.ensures.value _ _ _ _ c.in-Some.ensures.done _ refl _ (λ k. Store (c.id.ensures k) c.args.field (Int (to_z-of_z w64 c.args.number fits k)))

pub returns-in-None : goal.returns-in-None
returns-in-None c =
    let fits : FitsSigned w64 c.args.number = search rules in
    subst (λ (n : ℤ). IsDone c.args.heap.now.state c.store_int_at_length.new.heap.state c.args.owner (Store (root_of c.args.object) c.args.field (Int n)) c.store_int_at_length.result) (to_z-of_z w64 c.args.number fits)
    (again-done _ _ _ c.is_empty.ensures.kept c.here.ensures.value _ c.in-None.ensures.nothing _ _ _ _ (rw (c.of.ensures) at c.store_int_at_length.ensures))
