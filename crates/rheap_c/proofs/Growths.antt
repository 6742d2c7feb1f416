-- Why no heap that grows was opened.
use Rattle.std.proofs.Common.{◌≡◌, ◌≢◌, ℕ, Bool, true, false, Option, Some, None, Result, Ok, Err, refl, sym, ◌∙◌}
use Rattle.std.specs.Prelude.{◌↔◌, if◌then◌else◌, is_none}
use Rattle.std.proofs.lemmas.Bool.{true≢false}
use Rattle.rh_layout.specs.Refusing.{first_of}
use Rattle.rh_mutator.specs.declared.config.ConfigFault.{ConfigFault}
use Rattle.rh_core.specs.declared.errors.HeapError.TheVariants.{Config, OutOfMemory}
use Rattle.rh_pace.specs.declared.errors.PaceError.TheVariants.{RatioTooLow, TooSmall}
use Rattle.rh_growing.specs.declared.errors.GrowingError.{GrowingError}
use Rattle.rh_growing.specs.declared.errors.GrowingError.TheVariants.{BadFactor, BadLimits, Heap, Pace}
use Rattle.rh_growing.specs.declared.growth.Growth.{Growth}
use Rattle.rh_growing.specs.Growing.{GrowingState}
use Rattle.rh_growing.specs.Growth.{fault_by_config, fault_of_growth, limits_fault, pace_fault}
use Rattle.rheap_c.specs.GrownOpened.{IsGrowingOpened, MakesGrowing, MakesNoGrowing, growing_open_status, growing_opened}

-- a fault isn't that memory was refused
abbrev IsNoMemory : Option GrowingError → Type 0
IsNoMemory None = Unit {0}
IsNoMemory (Some (Heap OutOfMemory)) = ⊥
IsNoMemory (Some why) = Unit {0}

limits-by : (factor limits : Bool) → IsNoMemory (if factor then Some BadFactor else if limits then Some BadLimits else None)
limits-by true limits = tt
limits-by false true = tt
limits-by false false = tt

by_config : (o : Option ConfigFault) → IsNoMemory (fault_by_config o)
by_config None = tt
by_config (Some f) = tt

pace-by : (ratio small : Bool) (n : ℕ) (o : Option ConfigFault)
    → IsNoMemory (if ratio then Some (Pace RatioTooLow) else if small then Some (Pace (TooSmall n)) else fault_by_config o)
pace-by true small n o = tt
pace-by false true n o = tt
pace-by false false n o = by_config o

first-by : (x y : Option GrowingError) → IsNoMemory x → IsNoMemory y → IsNoMemory (first_of x y)
first-by None y none other = other
first-by (Some why) y is other = is

no_memory : (g : Growth) → IsNoMemory (fault_of_growth g)
no_memory g = first-by (limits_fault g) (pace_fault g) (limits-by _ _) (pace-by _ _ _ _)

-- where no other fault was found, there is none
none-found : (o : Option GrowingError) → IsNoMemory o → ((why : GrowingError) → why ≢ Heap OutOfMemory → o ≡ Some why → ⊥) → o ≡ None
none-found None sound found = refl
none-found (Some BadFactor) sound found = absurd (found BadFactor (λ e. absurd (cc)) refl)
none-found (Some BadLimits) sound found = absurd (found BadLimits (λ e. absurd (cc)) refl)
none-found (Some (Pace why)) sound found = absurd (found (Pace why) (λ e. absurd (cc)) refl)
none-found (Some (Heap (Config f))) sound found = absurd (found (Heap (Config f)) (λ e. absurd (cc)) refl)
none-found (Some (Heap OutOfMemory)) sound found = absurd sound

module _ {X : Type 0} (g : Growth) (result : Result X GrowingError)
    (faults : (why : GrowingError) → why ≢ Heap OutOfMemory → (result ≡ Err why) ↔ (fault_of_growth g ≡ Some why)) where
  -- a heap was made
  pub made-sound : (x : X) → result ≡ Ok x → fault_of_growth g ≡ None
  made-sound x is = none-found (fault_of_growth g) (no_memory g) (λ why other found. let told = (faults why other).1 found in absurd (cc))

  -- none was
  pub made-none : (why : GrowingError) → result ≡ Err why → MakesNoGrowing g why
  made-none BadFactor is = (faults BadFactor (λ e. absurd (cc))).0 is
  made-none BadLimits is = (faults BadLimits (λ e. absurd (cc))).0 is
  made-none (Pace why) is = (faults (Pace why) (λ e. absurd (cc))).0 is
  made-none (Heap (Config f)) is = (faults (Heap (Config f)) (λ e. absurd (cc))).0 is
  made-none (Heap OutOfMemory) is =
      none-found (fault_of_growth g) (no_memory g) (λ why other found. let told = (faults why other).1 found in absurd (other (cc)))

-- Opening, where no heap is open.
pub opened-growing : (g : Growth) (old new : Option GrowingState) (empty : Bool) (status : ℕ) → empty ≡ is_none old → empty ≡ true
    → (end : Result GrowingState GrowingError) → MakesGrowing g end → new ≡ growing_opened end → status ≡ growing_open_status end
    → IsGrowingOpened g old new status
opened-growing g None new empty status is shut end makes holds told = (end, makes, holds, told)
opened-growing g (Some s) new empty status is shut end makes holds told = absurd (true≢false (sym shut ∙ is))

pub kept-none : (old new : Option GrowingState) (empty : Bool) → empty ≡ is_none old → empty ≡ true → new ≡ old → new ≡ None
kept-none None new empty is shut kept = kept
kept-none (Some s) new empty is shut kept = absurd (true≢false (sym shut ∙ is))
