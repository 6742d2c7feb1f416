-- What a value means that C gives to be written.
use Rattle.std.specs.Prelude.{◌≡◌, ◌⊎◌, nat_eq, if◌then◌else◌, List, [], ◌∷◌}
use Rattle.rh_layout.specs.declared.command.Operand.{Operand}
use Rattle.rh_layout.specs.declared.command.Operand.TheVariants.{Nil, Int, Root}
use Rattle.rheap_c.specs.declared.init.RheapInit.{RheapInit}
use Rattle.rheap_c.specs.Told.{root_of}

-- nil where its kind is 0, the number where that is 1, and what the root holds where it is another
abbrev pub operand_of : RheapInit → Operand
operand_of v =
    if nat_eq v.kind 0 then Nil else (if nat_eq v.kind 1 then Int v.number else Root (root_of v.root))

-- What the header says that a value means, by the kinds by which values are told: nil for 0, the
-- number for 1, and what the root holds for 2 and 3.
pub record MeansItsKind (v : RheapInit) (operand : Operand) : Type 0 where
  pub nil : v.kind ≡ 0 → operand ≡ Nil
  pub number : v.kind ≡ 1 → operand ≡ Int v.number
  pub root : (v.kind ≡ 2) ⊎ (v.kind ≡ 3) → operand ≡ Root (root_of v.root)

-- each of these operands means so, one after the other, and there are as many
abbrev pub MeanTheirKinds : List RheapInit → List Operand → Type 0
MeanTheirKinds [] [] = Unit {0}
MeanTheirKinds [] (operand ∷ rest) = ⊥
MeanTheirKinds (v ∷ values) [] = ⊥
MeanTheirKinds (v ∷ values) (operand ∷ rest) = MeansItsKind v operand × MeanTheirKinds values rest
