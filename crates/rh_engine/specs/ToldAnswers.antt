-- Answers to the lines of a cycle and to `resize` whose numbers fit, as those of each heap do.
use Rattle.std.specs.Prelude.{ℕ, ⊤, length, Result, Ok, Err}
use Rattle.rh_core.specs.declared.outcomes.Flipped.{Flipped}
use Rattle.rh_core.specs.declared.outcomes.Given.{Given}
use Rattle.rh_core.specs.declared.outcomes.Shaded.{Shaded}
use Rattle.rh_core.specs.declared.errors.BeginError.{BeginError}
use Rattle.rh_core.specs.declared.errors.DealError.TheVariants as deals
use Rattle.rh_core.specs.declared.errors.FlipError.{FlipError}
use Rattle.rh_core.specs.declared.errors.FlipError.TheVariants as flips
use Rattle.rh_core.specs.declared.errors.GiveError.{GiveError}
use Rattle.rh_core.specs.declared.errors.GiveError.TheVariants as gives
use Rattle.rh_core.specs.declared.errors.IdleError.{IdleError}
use Rattle.rh_core.specs.declared.errors.NoCycle.{NoCycle}
use Rattle.rh_core.specs.declared.errors.RecallError.{RecallError}
use Rattle.rh_core.specs.declared.errors.ShadeError.{ShadeError}
use Rattle.rh_core.specs.declared.errors.ShadeError.TheVariants as shade_errors
use Rattle.rh_core.specs.declared.stat.Stat.{Stat}
use Rattle.rh_syntax.specs.CommandAnswers.{IsU128}
use Rattle.rh_engine.specs.declared.engine.TrayDeal.{TrayDeal}
use Rattle.rh_engine.specs.declared.engine.DealRefusal.{DealRefusal}
use Rattle.rh_engine.specs.declared.engine.DealRefusal.TheVariants as deal_refusals
use Rattle.rh_engine.specs.declared.engine.GiveRefusal.{GiveRefusal}
use Rattle.rh_engine.specs.declared.engine.GiveRefusal.TheVariants as give_refusals
use Rattle.rh_engine.specs.declared.engine.ResizeRefusal.{ResizeRefusal}
use Rattle.rh_engine.specs.declared.engine.ResizeRefusal.TheVariants as resize_refusals
use Rattle.rh_engine.specs.declared.trays.JoinRefusal.{JoinRefusal}
use Rattle.rh_engine.specs.Trays.{Tray}

-- what is answered to `begin`: the epoch fits
abbrev pub IsToldBegin : Result ℕ BeginError → Type 0
IsToldBegin (Ok epoch) = IsU128 epoch
IsToldBegin (Err why) = ⊤

-- to `shade`: both numbers of a refusal do
abbrev pub IsToldShade : Result Shaded ShadeError → Type 0
IsToldShade (Err (shade_errors.CreditShort need free)) = IsU128 need × IsU128 free
IsToldShade other = ⊤

-- to `deal`: both numbers of an outcome or of a refusal do
abbrev pub IsToldDeal : Result TrayDeal DealRefusal → Type 0
IsToldDeal (Ok done) = IsU128 done.items × IsU128 done.passed
IsToldDeal (Err (deal_refusals.Heap (deals.CreditShort need free))) = IsU128 need × IsU128 free
IsToldDeal other = ⊤

-- to `give`, by why the heap didn't take a replica in: all numbers do
abbrev pub IsToldGiveError : GiveError → Type 0
IsToldGiveError (gives.StaleEpoch is was) = IsU128 is × IsU128 was
IsToldGiveError (gives.CreditShort need free) = IsU128 need × IsU128 free
IsToldGiveError (gives.Stranger a f) = IsU128 a × IsU128 f
IsToldGiveError (gives.FromFuture a f) = IsU128 a × IsU128 f
IsToldGiveError (gives.Forged a f) = IsU128 a × IsU128 f
IsToldGiveError other = ⊤

-- and by what was given
abbrev pub IsToldGiven : Given → Type 0
IsToldGiven g = IsU128 g.joined × IsU128 g.repeated × IsU128 g.stale × IsU128 g.placed

-- and in all
abbrev pub IsToldGive : Result Given GiveRefusal → Type 0
IsToldGive (Ok given) = IsToldGiven given
IsToldGive (Err (give_refusals.Heap why)) = IsToldGiveError why
IsToldGive other = ⊤

-- to `join`: how many entries there are fits
abbrev pub IsToldJoin : Result ℕ JoinRefusal → Type 0
IsToldJoin (Ok entries) = IsU128 entries
IsToldJoin (Err why) = ⊤

-- to `flip`: both numbers of an outcome or of a root do, or how many fields are missing
abbrev pub IsToldFlip : Result Flipped FlipError → Type 0
IsToldFlip (Ok f) = IsU128 f.roots × IsU128 f.live_words
IsToldFlip (Err (flips.RootUnplaced root)) = IsU128 root.owner × IsU128 root.slot
IsToldFlip (Err (flips.Missing count)) = IsU128 count
IsToldFlip other = ⊤

-- to `recall`: the epoch fits
abbrev pub IsToldRecall : Result ℕ RecallError → Type 0
IsToldRecall (Ok epoch) = IsU128 epoch
IsToldRecall (Err why) = ⊤

-- to `abandon`: how many objects were placed does
abbrev pub IsToldAbandon : Result ℕ NoCycle → Type 0
IsToldAbandon (Ok placed) = IsU128 placed
IsToldAbandon (Err why) = ⊤

-- to `idle`: the words do
abbrev pub IsToldIdle : Result ℕ IdleError → Type 0
IsToldIdle (Ok words) = IsU128 words
IsToldIdle (Err why) = ⊤

-- to `resize`: the words do, or how many are used
abbrev pub IsToldResize : Result ℕ ResizeRefusal → Type 0
IsToldResize (Ok words) = IsU128 words
IsToldResize (Err (resize_refusals.Used used)) = IsU128 used
IsToldResize other = ⊤

-- to `trays`, of a tray: its epoch and how many entries it has do
abbrev pub IsToldTray : Tray → Type 0
IsToldTray t = IsU128 t.epoch × IsU128 (length t.entries)

-- to `stat`: all numbers do
pub record IsToldStat (s : Stat) : Type 0 where
  pub used : IsU128 s.used
  pub free : IsU128 s.free
  pub epoch : IsU128 s.epoch
  pub number : IsU128 s.number
  pub log : IsU128 s.log
  pub granted : IsU128 s.granted
  pub idle : IsU128 s.idle
  pub spent : IsU128 s.spent
  pub placed : IsU128 s.placed
  pub missing : IsU128 s.missing
