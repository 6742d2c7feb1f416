use Rattle.std.proofs.Common.{rules, ℤ, Some, Ok, FitsSigned, w64, sym, ap, ◌∙◌}
use Rattle.std.proofs.lemmas.Int.{to_z-of_z}
use Rattle.rh_layout.specs.declared.command.Reply.{Reply}
use Rattle.rh_mutator.specs.LoadingAll.{number_told}
use Rattle.uses.proofs.stack.number_of.Goals as goal

pub returns-in-Int : goal.returns-in-Int
returns-in-Int c =
    let n : ℤ = c.in-Int.number in
    let fits : FitsSigned w64 n = search rules in
    ap Some (to_z-of_z w64 n fits) ∙ sym (ap (λ (reply : Reply). number_told (Ok reply)) c.in-Int.is)
