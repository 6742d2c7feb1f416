-- Why there is no heap for a growing run.
use Rattle.std.proofs.Common.{◌≡◌, ℕ, Bool, true, false, Option, Some, None, Result, Ok, Err, refl, sym, ap, subst, ◌∙◌}
use Rattle.std.specs.Prelude.{◌≢◌, ◌↔◌, nat_le, nat_lt, ◌&&◌, not, if◌then◌else◌}
use Rattle.std.proofs.lemmas.Bool.{and_from, le-leb}
use Rattle.std.proofs.lemmas.Option.{none-some}
use Rattle.rh_layout.specs.Refusing.{first_of}
use Rattle.rh_mutator.specs.declared.config.ConfigFault.{ConfigFault}
use Rattle.rh_mutator.specs.declared.config.ConfigFault.TheVariants.{BadSpace, BadRatio, BadRoots, BadLog}
use Rattle.rh_mutator.specs.Config.{fault_of, is_within}
use Rattle.rh_pace.specs.declared.errors.PaceError.TheVariants.{RatioTooLow, TooSmall}
use Rattle.rh_syntax.specs.Spelling.{Script}
use Rattle.rh_trace.specs.Run.{config_of}
use Rattle.rh_core.specs.declared.errors.HeapError.TheVariants as heap_errors
use Rattle.rh_growing.specs.declared.errors.GrowingError.{GrowingError}
use Rattle.rh_growing.specs.declared.errors.GrowingError.TheVariants as errors
use Rattle.rh_growing.specs.declared.growth.Growth.{Growth}
use Rattle.rh_growing.specs.Growth.{IsGrowth, config_at, fault_by_config, fault_of_growth, least_words, limits_fault, pace_at, pace_fault}
use Rattle.rh_growing.proofs.Grown.{log_limit-within}
use Rattle.rh_growing.proofs.Made.{faultless-growth}
use Rattle.rh_paced_trace.specs.Growing.{growth_of}

-- a configuration whose sizes are in range, but perhaps its log
abbrev fault_by : Bool → Bool → Bool → Bool → Option ConfigFault
fault_by space ratio roots log =
    if not space then Some BadSpace
    else if not ratio then Some BadRatio
    else if not roots then Some BadRoots
    else if not log then Some BadLog
    else None

-- it has no fault with a log in its range
with_log : (space ratio roots log other : Bool) → fault_by space ratio roots log ≡ None → other ≡ true → fault_by space ratio roots other ≡ None
with_log false ratio roots log other none fits = absurd (none-some BadSpace (sym none))
with_log true false roots log other none fits = absurd (none-some BadRatio (sym none))
with_log true true false log other none fits = absurd (none-some BadRoots (sym none))
with_log true true true log other none fits = ap (fault_by true true true) fits

-- The sizes of the first line have no fault with the log of a growing pace either.
pub sizes-grown : (script : Script) (at_most : ℕ) → fault_of (config_of script.header) ≡ None → fault_of (config_at (growth_of script at_most) script.header.words) ≡ None
sizes-grown script at_most none =
    let h = script.header in
    let limit : ℕ = (pace_at (growth_of script at_most) h.words).log_limit in
    let log = log_limit-within (growth_of script at_most) h.words in
    with_log (is_within 8 16777216 h.words) (is_within 1 64 h.ratio) (is_within 1 16 h.owners && is_within 1 256 h.slots) (is_within 1 1048576 h.log) (is_within 1 1048576 limit) none
    (and_from (nat_le 1 limit) (nat_le limit 1048576) (le-leb 1 limit log.0) (le-leb limit 1048576 log.1))

-- a fault of the limits or of the pace
abbrev pub IsOfGrowth : GrowingError → Type 0
IsOfGrowth errors.BadFactor = ⊥
IsOfGrowth errors.BadLimits = Unit {0}
IsOfGrowth (errors.Pace why) = Unit {0}
IsOfGrowth (errors.Heap error) = ⊥

given-some : (error why : GrowingError) (o : Option GrowingError) → o ≡ Some error → IsOfGrowth error → o ≡ Some why → IsOfGrowth why
given-some error why o is of has = let same : error ≡ why = cc in subst IsOfGrowth same of

of-growth_by : (limits low few : Bool) (need : ℕ) (config : Option ConfigFault) → config ≡ None → (why : GrowingError)
    → first_of (if limits then Some errors.BadLimits else None)
    (if low then Some (errors.Pace RatioTooLow) else if few then Some (errors.Pace (TooSmall need)) else fault_by_config config) ≡ Some why
    → IsOfGrowth why
of-growth_by true low few need config none why has = given-some errors.BadLimits why (Some errors.BadLimits) refl tt has
of-growth_by false true few need config none why has = given-some (errors.Pace RatioTooLow) why (Some (errors.Pace RatioTooLow)) refl tt has
of-growth_by false false true need config none why has = given-some (errors.Pace (TooSmall need)) why (Some (errors.Pace (TooSmall need))) refl tt has
of-growth_by false false false need None none why has = absurd (none-some why has)
of-growth_by false false false need (Some fault) none why has = absurd (none-some fault (sym none))

-- Of a growth by the usual factor, whose sizes have no fault, there is no other.
pub of-growth : (g : Growth) → g.factor ≡ 200 → fault_of (config_at g g.at_least) ≡ None → (why : GrowingError) → fault_of_growth g ≡ Some why → IsOfGrowth why
of-growth g usual sizes why has =
    let need : ℕ = least_words 0 g.biggest g.ratio in
    of-growth_by (not (nat_le g.at_least g.at_most && nat_le g.at_most 16777216)) (nat_lt g.ratio 4) (nat_lt g.at_least need) need (fault_of (config_at g g.at_least)) sizes why
    (sym (ap (λ (n : ℕ). first_of (limits_fault (record g { factor = n })) (pace_fault g)) usual) ∙ has)

of-heap : (why : GrowingError) → IsOfGrowth why → why ≢ errors.Heap heap_errors.OutOfMemory
of-heap why of memory = subst IsOfGrowth memory of

faultless_by : (o : Option GrowingError) → ((why : GrowingError) → o ≡ Some why → ⊥) → o ≡ None
faultless_by None never = refl
faultless_by (Some why) never = absurd (never why refl)

-- So a heap that was made grows so: its growth has no fault, since none was told.
pub grows-made : {X : Type 0} (g : Growth) → g.factor ≡ 200 → fault_of (config_at g g.at_least) ≡ None → (heap : X) (made : Result X GrowingError) → made ≡ Ok heap
    → ((why : GrowingError) → why ≢ errors.Heap heap_errors.OutOfMemory → (made ≡ Err why) ↔ (fault_of_growth g ≡ Some why)) → IsGrowth g
grows-made g usual sizes heap made is faults =
    faultless-growth g (faultless_by (fault_of_growth g) (λ why has.
    let told = (faults why (of-heap why (of-growth g usual sizes why has))).1 has in
    absurd (cc)))
