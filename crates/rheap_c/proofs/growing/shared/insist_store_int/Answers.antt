use Rattle.std.proofs.Common.{rules, FitsSigned, w64}
use Rattle.std.proofs.lemmas.Int.{to_z-of_z}
use Rattle.rh_layout.specs.declared.command.Command.TheVariants.{Store}
use Rattle.rh_layout.specs.declared.command.Operand.TheVariants.{Int}
use Rattle.rheap_c.proofs.SharedSlots.{shared-grown_insisted}
use Rattle.rheap_c.proofs.growing.shared.insist_store_int.Goals as goal

pub returns : goal.returns
returns c =
    let fits : FitsSigned w64 c.args.number = search rules in
    shared-grown_insisted _ _ (λ k. Store (c.shared.ensures k) c.args.field (Int (to_z-of_z w64 c.args.number fits k))) _ _ _ c.insist_store_int.ensures
