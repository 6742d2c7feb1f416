-- The texts of the answers to the lines of a cycle and to `resize`, without line ends.
use Rattle.std.specs.Prelude.{ℕ, Bool, true, false, List, ◌++◌, length, Result, Ok, Err, codes, decimal}
use Rattle.rh_text.specs.Root.{root_text}
use Rattle.rh_core.specs.declared.outcomes.Flipped.{Flipped}
use Rattle.rh_core.specs.declared.outcomes.Given.{Given}
use Rattle.rh_core.specs.declared.outcomes.Shaded.{Shaded}
use Rattle.rh_core.specs.declared.outcomes.Shaded.TheVariants as shades
use Rattle.rh_core.specs.declared.errors.BeginError.{BeginError}
use Rattle.rh_core.specs.declared.errors.BeginError.TheVariants as begins
use Rattle.rh_core.specs.declared.errors.DealError.{DealError}
use Rattle.rh_core.specs.declared.errors.DealError.TheVariants as deals
use Rattle.rh_core.specs.declared.errors.FlipError.{FlipError}
use Rattle.rh_core.specs.declared.errors.FlipError.TheVariants as flips
use Rattle.rh_core.specs.declared.errors.GiveError.{GiveError}
use Rattle.rh_core.specs.declared.errors.GiveError.TheVariants as gives
use Rattle.rh_core.specs.declared.errors.IdleError.{IdleError}
use Rattle.rh_core.specs.declared.errors.IdleError.TheVariants as idles
use Rattle.rh_core.specs.declared.errors.NoCycle.{NoCycle}
use Rattle.rh_core.specs.declared.errors.RecallError.{RecallError}
use Rattle.rh_core.specs.declared.errors.RecallError.TheVariants as recalls
use Rattle.rh_core.specs.declared.errors.ShadeError.{ShadeError}
use Rattle.rh_core.specs.declared.errors.ShadeError.TheVariants as shade_errors
use Rattle.rh_core.specs.declared.stat.Stat.{Stat}
use Rattle.rh_engine.specs.declared.engine.TrayDeal.{TrayDeal}
use Rattle.rh_engine.specs.declared.engine.DealRefusal.{DealRefusal}
use Rattle.rh_engine.specs.declared.engine.DealRefusal.TheVariants as deal_refusals
use Rattle.rh_engine.specs.declared.engine.GiveRefusal.{GiveRefusal}
use Rattle.rh_engine.specs.declared.engine.GiveRefusal.TheVariants as give_refusals
use Rattle.rh_engine.specs.declared.engine.ResizeRefusal.{ResizeRefusal}
use Rattle.rh_engine.specs.declared.engine.ResizeRefusal.TheVariants as resize_refusals
use Rattle.rh_engine.specs.declared.trays.JoinRefusal.{JoinRefusal}
use Rattle.rh_engine.specs.declared.trays.JoinRefusal.TheVariants as join_refusals
use Rattle.rh_engine.specs.Trays.{Tray}

-- a name, and two numbers with their own names
abbrev pub two_numbers : List ℕ → ℕ → List ℕ → ℕ → List ℕ
two_numbers first m second n = first ++ (decimal m ++ (second ++ decimal n))

-- too little credit: what is needed, and what is free
abbrev pub credit_text : ℕ → ℕ → List ℕ
credit_text need free = two_numbers (codes "refused CreditShort need ") need (codes " free ") free

-- cycle E
abbrev pub begin_text : Result ℕ BeginError → List ℕ
begin_text (Ok epoch) = codes "cycle " ++ decimal epoch
begin_text (Err begins.CycleOn) = codes "refused CycleOn"
begin_text (Err begins.EpochsSpent) = codes "refused EpochsSpent"

-- placed, already, or no reference
abbrev pub shade_text : Result Shaded ShadeError → List ℕ
shade_text (Ok shades.Placed) = codes "placed"
shade_text (Ok shades.Already) = codes "already"
shade_text (Ok shades.NoReference) = codes "no reference"
shade_text (Err shade_errors.NoCycle) = codes "refused NoCycle"
shade_text (Err shade_errors.NoRoot) = codes "refused NoRoot"
shade_text (Err (shade_errors.CreditShort need free)) = credit_text need free

-- why the heap dealt nothing
abbrev pub deal_error_text : DealError → List ℕ
deal_error_text deals.NoCycle = codes "refused NoCycle"
deal_error_text deals.NothingToDeal = codes "refused NothingToDeal"
deal_error_text (deals.CreditShort need free) = credit_text need free

-- dealt ITEMS passed ENTRIES
abbrev pub deal_text : Result TrayDeal DealRefusal → List ℕ
deal_text (Ok done) = two_numbers (codes "dealt ") done.items (codes " passed ") done.passed
deal_text (Err deal_refusals.TooManyTrays) = codes "refused TooManyTrays"
deal_text (Err deal_refusals.OtherEpoch) = codes "refused OtherEpoch"
deal_text (Err (deal_refusals.Heap why)) = deal_error_text why

-- why the heap didn't take a replica in
abbrev pub give_error_text : GiveError → List ℕ
give_error_text gives.NoCycle = codes "refused NoCycle"
give_error_text (gives.StaleEpoch is was) =
    two_numbers (codes "refused StaleEpoch is ") is (codes " was ") was
give_error_text gives.TooMany = codes "refused TooMany"
give_error_text (gives.CreditShort need free) = credit_text need free
give_error_text (gives.Stranger a f) =
    two_numbers (codes "refused Stranger object ") a (codes " field ") f
give_error_text (gives.FromFuture a f) =
    two_numbers (codes "refused FromFuture object ") a (codes " field ") f
give_error_text (gives.Forged a f) =
    two_numbers (codes "refused Forged object ") a (codes " field ") f

-- given joined J repeated R stale S placed P
abbrev pub given_text : Given → List ℕ
given_text g =
    two_numbers (codes "given joined ") g.joined (codes " repeated ") g.repeated
    ++ two_numbers (codes " stale ") g.stale (codes " placed ") g.placed

-- what was given, or why nothing was
abbrev pub give_text : Result Given GiveRefusal → List ℕ
give_text (Ok given) = given_text given
give_text (Err give_refusals.NoTray) = codes "refused NoTray"
give_text (Err (give_refusals.Heap why)) = give_error_text why

-- joined ENTRIES
abbrev pub join_text : Result ℕ JoinRefusal → List ℕ
join_text (Ok entries) = codes "joined " ++ decimal entries
join_text (Err join_refusals.NoTray) = codes "refused NoTray"
join_text (Err join_refusals.TooManyTrays) = codes "refused TooManyTrays"

-- flipped roots R live W
abbrev pub flip_text : Result Flipped FlipError → List ℕ
flip_text (Ok f) = two_numbers (codes "flipped roots ") f.roots (codes " live ") f.live_words
flip_text (Err flips.NoCycle) = codes "refused NoCycle"
flip_text (Err (flips.RootUnplaced root)) = codes "refused RootUnplaced " ++ root_text root
flip_text (Err (flips.Missing count)) = codes "refused Missing " ++ decimal count
flip_text (Err flips.EpochsSpent) = codes "refused EpochsSpent"

-- cycle E
abbrev pub recall_text : Result ℕ RecallError → List ℕ
recall_text (Ok epoch) = codes "cycle " ++ decimal epoch
recall_text (Err recalls.NoCycle) = codes "refused NoCycle"
recall_text (Err recalls.EpochsSpent) = codes "refused EpochsSpent"

-- abandoned OBJECTS
abbrev pub abandon_text : Result ℕ NoCycle → List ℕ
abandon_text (Ok placed) = codes "abandoned " ++ decimal placed
abandon_text (Err why) = codes "refused NoCycle"

-- idle WORDS
abbrev pub idle_text : Result ℕ IdleError → List ℕ
idle_text (Ok words) = codes "idle " ++ decimal words
idle_text (Err idles.NoCycle) = codes "refused NoCycle"
idle_text (Err idles.IdleSpent) = codes "refused IdleSpent"

-- words WORDS
abbrev pub resize_text : Result ℕ ResizeRefusal → List ℕ
resize_text (Ok words) = codes "words " ++ decimal words
resize_text (Err resize_refusals.BadSpace) = codes "refused BadSpace"
resize_text (Err (resize_refusals.Used used)) = codes "refused Used " ++ decimal used

-- tray NAME epoch E entries N
abbrev pub tray_text : List ℕ → Tray → List ℕ
tray_text name t =
    codes "tray " ++ (name ++ two_numbers (codes " epoch ") t.epoch (codes " entries ")
    (length t.entries))

-- whether a cycle is on
abbrev pub cycle_text : Bool → List ℕ
cycle_text true = codes " cycle on"
cycle_text false = codes " cycle off"

-- stat used U free F cycle on
abbrev pub stat_start : Stat → List ℕ
stat_start s = two_numbers (codes "stat used ") s.used (codes " free ") s.free ++ cycle_text s.cycle

-- epoch E number N log L
abbrev pub stat_log : Stat → List ℕ
stat_log s =
    two_numbers (codes " epoch ") s.epoch (codes " number ") s.number
    ++ (codes " log " ++ decimal s.log)

-- granted G spent S placed P missing M idle I
abbrev pub stat_work : Stat → List ℕ
stat_work s =
    two_numbers (codes " granted ") s.granted (codes " spent ") s.spent
    ++ (two_numbers (codes " placed ") s.placed (codes " missing ") s.missing
    ++ (codes " idle " ++ decimal s.idle))

-- stat used U free F cycle on epoch E number N log L granted G spent S placed P missing M idle I
abbrev pub stat_text : Stat → List ℕ
stat_text s = stat_start s ++ (stat_log s ++ stat_work s)
