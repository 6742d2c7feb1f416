-- The text of steps in the parts in which it is sent.
use Rattle.std.proofs.Common.{◌≡◌, ℕ, List, ◌∷◌, ◌++◌, refl}
use Rattle.std.specs.List.{flat_map}
use Rattle.rh_why.specs.declared.holder.Step.{Step}
use Rattle.rh_why.specs.Path.{step_text}

abbrev pub steps_text : List Step → List ℕ
steps_text steps = flat_map step_text steps

pub steps_step : (x : Step) (xs : List Step) → steps_text (x ∷ xs) ≡ step_text x ++ steps_text xs
steps_step x xs = refl
