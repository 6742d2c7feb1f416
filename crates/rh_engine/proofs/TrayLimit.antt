-- A tray more than 64 is refused, and no other tray is refused so.
use Rattle.std.specs.Prelude.{◌≡◌, ◌↔◌, ℕ, zero, suc, ◌+◌, Bool, true, false, not, ◌==◌, if◌then◌else◌, List, [], ◌∷◌, ◌++◌, length, Option, Some, None, is_some, Result, Err}
use Rattle.std.specs.Map.{keys_of}
use Rattle.std.proofs.Common.{refl, sym, ap, ◌∙◌}
use Rattle.std.proofs.Math.ListN.{length-map}
use Rattle.std.proofs.lemmas.List.{length_push}
use Rattle.rh_layout.specs.declared.kind.Kind.{Kind}
use Rattle.rh_core.specs.declared.errors.DealError.TheVariants as deal_errors
use Rattle.rh_engine.specs.Trays.{Tray, Trays, tray_named, tray_or_empty, trays_with, is_beyond, with_join, join_found}
use Rattle.rh_engine.specs.Engine.{EngineState, deal_unless, deal_line_step, join_line_step, IsOneTooMany, refusals_of_deal, refusals_of_join}
use Rattle.rh_engine.specs.declared.engine.TrayDeal.{TrayDeal}
use Rattle.rh_engine.specs.declared.engine.DealRefusal.{DealRefusal}
use Rattle.rh_engine.specs.declared.engine.DealRefusal.TheVariants as deal_refusals
use Rattle.rh_engine.specs.declared.trays.JoinRefusal.{JoinRefusal}
use Rattle.rh_engine.specs.declared.trays.JoinRefusal.TheVariants as join_refusals
use Rattle.rh_engine.proofs.DealOrder.{from_too_many, deal-refused}
use Rattle.rh_engine.proofs.LineOrder.{join-refused}
use Rattle.rh_engine.proofs.PutTrays.{keys_of-trays_with}

-- a name makes one tray more where there was none of it, and else none
counted_by : (there : Bool) (names : List (List ℕ)) (name : List ℕ) → length (if there then names else names ++ name ∷ []) ≡ (if there then length names else length names + 1)
counted_by true names name = refl
counted_by false names name = length_push names name

pub length-trays_with : (trays : Trays) (name : List ℕ) (t : Tray) → length (trays_with trays name t) ≡ (if is_some (tray_named trays name) then length trays else length trays + 1)
length-trays_with trays name t =
    sym (length-map (trays_with trays name t) (λ e. e.0))
    ∙ ap length (keys_of-trays_with name t trays)
    ∙ counted_by (is_some (tray_named trays name)) (keys_of trays) name
    ∙ ap (λ n. if is_some (tray_named trays name) then n else n + 1) (length-map trays (λ e. e.0))

-- a deal that is refused so is into a tray too many
deal_beyond : (e : EngineState) (kind : Kind) (most : ℕ) (name : List ℕ) → (deal_line_step e kind most name).1 ≡ Err deal_refusals.TooManyTrays → IsOneTooMany e name
deal_beyond e kind most name refused =
    let least = (deal-refused e kind most name deal_refusals.TooManyTrays refused).0 in by least.stage least.holds
  where
    by : (stage : ℕ) → refusals_of_deal e kind most name stage deal_refusals.TooManyTrays → IsOneTooMany e name
    by zero holds = absurd (cc (holds.0))
    by (suc zero) holds = holds.1
    by (suc (suc zero)) holds = absurd (cc (holds.0))
    by (suc (suc (suc zero))) holds = absurd (cc (holds.1))
    by (suc (suc (suc (suc stage)))) holds = absurd holds

module _ (e : EngineState) (kind : Kind) (most : ℕ) (name : List ℕ) where
  -- the engine and the answer, once it was looked at whether a cycle is on, and then at the limit
  abbrev limited_deal : Bool → Option DealRefusal
  limited_deal beyond =
      if beyond then Some deal_refusals.TooManyTrays
      else if not ((tray_or_empty e.trays name e.heap.epoch).epoch == e.heap.epoch) then Some deal_refusals.OtherEpoch
      else None

  abbrev deal_where : Bool → EngineState × Result TrayDeal DealRefusal
  deal_where cycle =
      deal_unless (if not cycle then Some (deal_refusals.Heap deal_errors.NoCycle) else limited_deal (is_beyond e.trays name)) e kind most name

  pub deal-too_many : e.heap.mutators.cycle ≡ true → (deal_line_step e kind most name ≡ (e, Err deal_refusals.TooManyTrays)) ↔ IsOneTooMany e name
  deal-too_many on = (
    λ refused. deal_beyond e kind most name (ap (λ (done : EngineState × Result TrayDeal DealRefusal). done.1) refused),
    λ beyond. ap deal_where on ∙ ap (λ b. deal_unless (limited_deal b) e kind most name) (from_too_many e name beyond),
  )

-- and so is a join of a tray that is there
join_beyond : (e : EngineState) (into other : List ℕ) → (join_line_step e into other).1 ≡ Err join_refusals.TooManyTrays → IsOneTooMany e into
join_beyond e into other refused =
    let least = (join-refused e into other join_refusals.TooManyTrays refused).0 in by least.stage least.holds
  where
    by : (stage : ℕ) → refusals_of_join e into other stage join_refusals.TooManyTrays → IsOneTooMany e into
    by zero holds = absurd (cc (holds.0))
    by (suc zero) holds = holds.1
    by (suc (suc stage)) holds = absurd holds

module _ (e : EngineState) (into other : List ℕ) (t : Tray) where
  -- the trays and the answer, once the limit was looked at
  abbrev limited : Bool → Trays × Result ℕ JoinRefusal
  limited b = if b then (e.trays, Err join_refusals.TooManyTrays) else with_join e.trays into t

  abbrev with_trays : Trays × Result ℕ JoinRefusal → EngineState × Result ℕ JoinRefusal
  with_trays done = (record e { trays = done.0 }, done.1)

  pub join-too_many : tray_named e.trays other ≡ Some t → (join_line_step e into other ≡ (e, Err join_refusals.TooManyTrays)) ↔ IsOneTooMany e into
  join-too_many there = (
    λ refused. join_beyond e into other (ap (λ (done : EngineState × Result ℕ JoinRefusal). done.1) refused),
    λ beyond. ap (λ found. with_trays (join_found found e.trays into)) there ∙ ap (λ b. with_trays (limited b)) (from_too_many e into beyond),
  )
