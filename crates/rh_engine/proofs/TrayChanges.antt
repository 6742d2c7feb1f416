-- What is dealt and what is joined is in its tray, and no other tray changes.
use Rattle.std.proofs.Common.{◌≡◌, ℕ, ◌<◌, Bool, true, false, if◌then◌else◌, List, Option, Some, None, unwrap_or, Result, Ok, Err, refl, sym, ◌∙◌, ap, subst, true≢false, arith}
use Rattle.std.specs.Prelude.{nat_lt}
use Rattle.std.specs.List.Sorted.{IsStrictlySortedBy}
use Rattle.std.proofs.lemmas.Bool.{ltb-true, lt-ltb}
use Rattle.rh_partial.specs.Item.{newest}
use Rattle.rh_partial.specs.PartialReplica.{pair_at, joined_newest}
use Rattle.rh_core.specs.Dealing.{deal_step}
use Rattle.rh_core.specs.Heap.{HeapState}
use Rattle.rh_core.specs.declared.outcomes.Dealt.{Dealt}
use Rattle.rh_layout.specs.declared.kind.Kind.{Kind}
use Rattle.rh_core.specs.declared.errors.DealError.{DealError}
use Rattle.rh_engine.specs.Trays.{Tray, Trays, tray_named, trays_with, tray_with, tray_or_empty, empty_tray, joined_trays, joined_into, join_found, with_join, is_beyond, IsInOrder, content_of_tray, IsChangedAlone, IsFoldedInto, IsJoinOf, IsJoinedInto}
use Rattle.rh_engine.specs.Engine.{EngineState, tray_refusal, with_dealt, counts_of_dealt, deal_done, deal_unless, deal_line_step, join_line_step, IsDealtInto}
use Rattle.rh_engine.specs.declared.engine.TrayDeal.{TrayDeal}
use Rattle.rh_engine.specs.declared.engine.DealRefusal.{DealRefusal}
use Rattle.rh_engine.specs.declared.trays.JoinRefusal.TheVariants as join_refusals
use Rattle.rh_engine.proofs.EngineLemmas.{epoch_of_tray}
use Rattle.rh_engine.proofs.PutTrays.{tray_named-there, tray_named-other, keys_of-trays_with}
use Rattle.rh_engine.proofs.TrayEntries.{pair_at-with_all, rises-with_all, pair_at-newest}

changed-with : (trays : Trays) (name : List ℕ) (t : Tray) → IsChangedAlone trays (trays_with trays name t) name t
changed-with trays name t = record {
  there = tray_named-there name t trays;
  others = λ other apart. tray_named-other name t trays other apart;
  order = keys_of-trays_with name t trays;
}

content-or_empty : (f : Option Tray) (epoch : ℕ) → pair_at (unwrap_or f (empty_tray epoch)).entries ≡ content_of_tray f
content-or_empty None epoch = refl
content-or_empty (Some t) epoch = refl

order-or_empty : (f : Option Tray) (epoch : ℕ) → ((t : Tray) → f ≡ Some t → IsInOrder t) → IsInOrder (unwrap_or f (empty_tray epoch))
unfolding IsStrictlySortedBy
order-or_empty None epoch was = tt
order-or_empty (Some t) epoch was = was t refl

folded-dealt : (trays : Trays) (name : List ℕ) (d : Dealt) → (tray_or_empty trays name d.piece.epoch).epoch ≡ d.piece.epoch
    → IsFoldedInto trays (with_dealt trays name d) name d.piece
folded-dealt trays name d same =
    let old = tray_or_empty trays name d.piece.epoch in
    let items = d.piece.items in
    record {
      tray = tray_with old items;
      alone = changed-with trays name (tray_with old items);
      epoch = same;
      content = pair_at-with_all old.entries items ∙ ap (λ f. joined_newest f (newest items)) (content-or_empty (tray_named trays name) d.piece.epoch);
      order = λ was. rises-with_all old.entries items (order-or_empty (tray_named trays name) d.piece.epoch was);
    }

module _ (e : EngineState) (kind : Kind) (most : ℕ) (name : List ℕ) where
  dealt_by : (heap : HeapState) (answer : Result Dealt DealError) → deal_step e.heap kind most ≡ (heap, answer) → tray_refusal e name ≡ None
      → (done : TrayDeal) → (deal_done heap answer e.trays name).1 ≡ Ok done → IsDealtInto e (deal_done heap answer e.trays name).0 kind most name done
  dealt_by heap (Ok d) is free done h =
      let counts : done ≡ counts_of_dealt d = cc in
      record {
        dealt = d;
        step = is;
        folded = folded-dealt e.trays name d (epoch_of_tray e name kind most d free (ap (λ s. s.1) is));
        items = ap (λ c. c.items) counts;
        passed = ap (λ c. c.passed) counts;
      }
  dealt_by heap (Err why) is free done h = cc

  unless_by : (x : Option DealRefusal) → tray_refusal e name ≡ x → (done : TrayDeal) → (deal_unless x e kind most name).1 ≡ Ok done
      → IsDealtInto e (deal_unless x e kind most name).0 kind most name done
  unless_by (Some why) is done h = cc
  unless_by None is done h = dealt_by (deal_step e.heap kind most).0 (deal_step e.heap kind most).1 refl is done h

  pub dealt-into : (done : TrayDeal) → (deal_line_step e kind most name).1 ≡ Ok done → IsDealtInto e (deal_line_step e kind most name).0 kind most name done
  dealt-into done h = unless_by (tray_refusal e name) refl done h

abbrev chosen : Bool → Bool → Tray → Tray → Tray
chosen x y t u = if x then u else if y then t else tray_with t u.entries

join_by : (t u : Tray) (x y : Bool) → nat_lt t.epoch u.epoch ≡ x → nat_lt u.epoch t.epoch ≡ y → IsJoinOf t u (chosen x y t u)
join_by t u true y less more =
    let early : t.epoch < u.epoch = ltb-true t.epoch u.epoch less in
    record {
      earlier = λ is. refl;
      later = λ is. absurd (omega (arith, early, is));
      epoch = λ is. absurd (omega (arith, early, is));
      content = λ is second. absurd (omega (arith, early, is));
      order = λ first second. second;
    }
join_by t u false true less more =
    let late : u.epoch < t.epoch = ltb-true u.epoch t.epoch more in
    record {
      earlier = λ is. absurd (omega (arith, late, is));
      later = λ is. refl;
      epoch = λ is. absurd (omega (arith, late, is));
      content = λ is second. absurd (omega (arith, late, is));
      order = λ first second. first;
    }
join_by t u false false less more = record {
  earlier = λ is. absurd (true≢false (sym (lt-ltb t.epoch u.epoch is) ∙ less));
  later = λ is. absurd (true≢false (sym (lt-ltb u.epoch t.epoch is) ∙ more));
  epoch = λ is. refl;
  content = λ is second.
      let newest_of_u : pair_at u.entries ≡ newest u.entries = λ j p. pair_at-newest u.entries second p j in
      pair_at-with_all t.entries u.entries ∙ ap (joined_newest (pair_at t.entries)) (sym newest_of_u);
  order = λ first second. rises-with_all t.entries u.entries first;
}

joined-is : (t u : Tray) → IsJoinOf t u (joined_trays t u)
joined-is t u = join_by t u (nat_lt t.epoch u.epoch) (nat_lt u.epoch t.epoch) refl refl

copy_by : (f : Option Tray) (u : Tray) → f ≡ None → joined_into f u ≡ u
copy_by None u none = refl
copy_by (Some t) u none = cc

joined_by : (f : Option Tray) (u first : Tray) → f ≡ Some first → IsJoinOf first u (joined_into f u)
joined_by None u first is = cc
joined_by (Some t) u first is =
    let same : first ≡ t = cc in
    subst (λ x. IsJoinOf x u (joined_trays t u)) (sym same) (joined-is t u)

module _ (e : EngineState) (into other : List ℕ) where
  limit_by : (u : Tray) → tray_named e.trays other ≡ Some u → (b : Bool) → (count : ℕ)
      → (if b then (e.trays, Err join_refusals.TooManyTrays) else with_join e.trays into u).1 ≡ Ok count
      → IsJoinedInto e.trays (if b then (e.trays, Err join_refusals.TooManyTrays) else with_join e.trays into u).0 into other count
  limit_by u is true count h = cc
  limit_by u is false count h = record {
    second = u;
    source = is;
    tray = joined_into (tray_named e.trays into) u;
    alone = changed-with e.trays into (joined_into (tray_named e.trays into) u);
    copy = copy_by (tray_named e.trays into) u;
    join = joined_by (tray_named e.trays into) u;
    counted = cc;
  }

  found_by : (f : Option Tray) → tray_named e.trays other ≡ f → (count : ℕ) → (join_found f e.trays into).1 ≡ Ok count
      → IsJoinedInto e.trays (join_found f e.trays into).0 into other count
  found_by None is count h = cc
  found_by (Some u) is count h = limit_by u is (is_beyond e.trays into) count h

  pub joined-into : (count : ℕ) → (join_line_step e into other).1 ≡ Ok count → IsJoinedInto e.trays (join_line_step e into other).0.trays into other count
  joined-into count h = found_by (tray_named e.trays other) refl count h
