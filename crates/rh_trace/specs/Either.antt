-- One of two.
use Rattle.std.specs.Prelude.{◌⊎◌}
use Rattle.std.proofs.Common.{inl, inr}

-- what is said of one of two, by what is said of each
abbrev pub by_either : {L M X : Type 0} → (L → X) → (M → X) → L ⊎ M → X
by_either f g (inl l) = f l
by_either f g (inr m) = g m
