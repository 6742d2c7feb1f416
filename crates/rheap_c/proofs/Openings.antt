-- How an open ends where there is no pace.
use Rattle.std.proofs.Common.{◌≡◌, true, inl, refl}
use Rattle.std.specs.Prelude.{Option, Some, None, Err, is_none}
use Rattle.std.proofs.lemmas.Bool.{false≢true}
use Rattle.rh_mutator.specs.declared.config.Config.{Config}
use Rattle.rh_pace.specs.declared.pace.Pace.{Pace}
use Rattle.rh_pace.specs.Paced.{PacedState}
use Rattle.rheap_c.specs.declared.open_fault.OpenFault.TheVariants.{NoPace}
use Rattle.rheap_c.specs.Opened.{IsOpened, Opens}

-- with status 14, where no heap is open and there can be no pace
pub IsOpened-no_pace : (Fits : Pace → Type 0) (can : Type 0) (config : Pace → Config)
    (old new : Option PacedState) → is_none old ≡ true → new ≡ old → ¬ can
    → IsOpened (Opens Fits can config) old new 14
IsOpened-no_pace Fits can config None new none kept not_can =
    (Err NoPace, inl (refl, not_can), kept, refl)
IsOpened-no_pace Fits can config (Some s) new none kept not_can = absurd (false≢true none)
