-- After each request the trays are at most 64, with their entries in order of place.
use Rattle.std.proofs.Common.{◌≡◌, ℕ, ◌+◌, ◌≤◌, subst, Bool, true, false, not, cond, ◌==◌, ◌&&◌, if◌then◌else◌, List, [], ◌∷◌, length, Option, Some, None, is_none, unwrap_or, Result, Ok, Err, refl, sym, arith}
use Rattle.std.specs.Prelude.{nat_le, nat_lt}
use Rattle.std.specs.List.Sorted.{IsStrictlySortedBy}
use Rattle.std.specs.Str.{bytes_eq}
use Rattle.std.proofs.lemmas.Bool.{leb-false}
use Rattle.rh_core.specs.Dealing.{deal_step}
use Rattle.rh_core.specs.Giving.{HaveDistinctPlaces}
use Rattle.rh_core.specs.Heap.{HeapState}
use Rattle.rh_core.specs.declared.outcomes.Dealt.{Dealt}
use Rattle.rh_layout.specs.declared.kind.Kind.{Kind}
use Rattle.rh_core.specs.declared.errors.DealError.{DealError}
use Rattle.rh_core.specs.declared.errors.DealError.TheVariants as deal_errors
use Rattle.rh_core.proofs.entries.EntryPlaces.{places-apart}
use Rattle.rh_engine.specs.declared.engine.DealRefusal.{DealRefusal}
use Rattle.rh_engine.specs.declared.engine.DealRefusal.TheVariants as deal_refusals
use Rattle.rh_syntax.specs.declared.request.Request.{Request}
use Rattle.rh_syntax.specs.declared.request.Request.TheVariants as requests
use Rattle.rh_engine.specs.declared.trays.JoinRefusal.TheVariants as join_refusals
use Rattle.rh_engine.specs.Engine.{EngineState, tray_refusal, deal_done, deal_unless, give_found}
use Rattle.rh_trace.specs.Run.{request_step, engine_after}
use Rattle.rh_engine.specs.Trays.{Tray, Trays, tray_named, trays_with, tray_with, tray_or_empty, empty_tray, is_beyond, joined_into, join_found, with_join, IsInOrder, AreInOrder, AreFewInOrder}
use Rattle.rh_engine.proofs.ResizeOrder.{resize-trays}
use Rattle.rh_engine.proofs.TicketOrder.{tickets-trays}
use Rattle.rh_engine.proofs.TrayEntries.{rises-with_all}

named_by : (b : Bool) (t u : Tray) (rest : Option Tray) → IsInOrder t → (rest ≡ Some u → IsInOrder u) → cond b (Some t) rest ≡ Some u → IsInOrder u
named_by true t u rest first later is =
    let same : t ≡ u = cc in
    subst IsInOrder same first
named_by false t u rest first later is = later is

-- a tray among trays in order is in order
pub order-named : (trays : Trays) (name : List ℕ) (t : Tray) → AreInOrder trays → tray_named trays name ≡ Some t → IsInOrder t
order-named [] name t order is = cc
order-named (e ∷ es) name t order is = named_by (bytes_eq name e.0) e.1 t (tray_named es name) order.0 (order-named es name t order.1) is

with_by : (b : Bool) (e : List ℕ × Tray) (es more : Trays) (t : Tray) → AreInOrder (e ∷ es) → IsInOrder t → AreInOrder more → AreInOrder (cond b ((e.0, t) ∷ es) (e ∷ more))
with_by true e es more t order new rest = (new, order.1)
with_by false e es more t order new rest = (order.0, rest)

order-with : (trays : Trays) (name : List ℕ) (t : Tray) → AreInOrder trays → IsInOrder t → AreInOrder (trays_with trays name t)
order-with [] name t order new = (new, tt)
order-with (e ∷ es) name t order new = with_by (bytes_eq name e.0) e es (trays_with es name t) t order new (order-with es name t order.1 new)

length_by : (b : Bool) (e : List ℕ × Tray) (es more : Trays) (t : Tray) (rest : Option Tray) → length more ≡ length es + cond (is_none rest) 1 0
    → length (cond b ((e.0, t) ∷ es) (e ∷ more)) ≡ length (e ∷ es) + cond (is_none (cond b (Some e.1) rest)) 1 0
length_by true e es more t rest same = omega arith
length_by false e es more t rest same = omega (arith, same)

length-with : (trays : Trays) (name : List ℕ) (t : Tray) → length (trays_with trays name t) ≡ length trays + cond (is_none (tray_named trays name)) 1 0
length-with [] name t = refl
length-with (e ∷ es) name t = length_by (bytes_eq name e.0) e es (trays_with es name t) t (tray_named es name) (length-with es name t)

few_by : (new : Bool) (before after : ℕ) → (new && nat_le 64 before) ≡ false → before ≤ 64 → after ≡ before + cond new 1 0 → after ≤ 64
few_by true before after room few is = omega (arith, leb-false 64 before room, is)
few_by false before after room few is = omega (arith, few, is)

-- a tray that takes a name
taken : (trays : Trays) (name : List ℕ) (t : Tray) → AreFewInOrder trays → is_beyond trays name ≡ false → IsInOrder t → AreFewInOrder (trays_with trays name t)
taken trays name t were room new = record {
  order = order-with trays name t were.order new;
  few = few_by (is_none (tray_named trays name)) (length trays) (length (trays_with trays name t)) room were.few (length-with trays name t);
}

order-or_empty : (f : Option Tray) (epoch : ℕ) → ((t : Tray) → f ≡ Some t → IsInOrder t) → IsInOrder (unwrap_or f (empty_tray epoch))
unfolding IsStrictlySortedBy
order-or_empty None epoch was = tt
order-or_empty (Some t) epoch was = was t refl

room_by : (on beyond same : Bool)
    → (if not on then Some (deal_refusals.Heap deal_errors.NoCycle) else if beyond then Some deal_refusals.TooManyTrays else if not same then Some deal_refusals.OtherEpoch else None) ≡ None
    → beyond ≡ false
room_by false beyond same e = cc
room_by true true same e = cc
room_by true false same e = refl

module _ (e : EngineState) (were : AreFewInOrder e.trays) (name : List ℕ) where
  dealt_by : (heap : HeapState) (answer : Result Dealt DealError) → is_beyond e.trays name ≡ false → AreFewInOrder (deal_done heap answer e.trays name).0.trays
  dealt_by heap (Ok d) room =
      let old = tray_or_empty e.trays name d.piece.epoch in
      taken e.trays name (tray_with old d.piece.items) were room
      (rises-with_all old.entries d.piece.items (order-or_empty (tray_named e.trays name) d.piece.epoch (λ t is. order-named e.trays name t were.order is)))
  dealt_by heap (Err why) room = were

  unless_by : (x : Option DealRefusal) → tray_refusal e name ≡ x → (kind : Kind) (most : ℕ) → AreFewInOrder (deal_unless x e kind most name).0.trays
  unless_by (Some why) is kind most = were
  unless_by None is kind most =
      dealt_by (deal_step e.heap kind most).0 (deal_step e.heap kind most).1
      (room_by e.heap.mutators.cycle (is_beyond e.trays name) ((tray_or_empty e.trays name e.heap.epoch).epoch == e.heap.epoch) is)

  give_by : (f : Option Tray) → AreFewInOrder (give_found f e).0.trays
  give_by None = were
  give_by (Some t) = were

chosen_by : (x y : Bool) (t u : Tray) → IsInOrder t → IsInOrder u → IsInOrder (if x then u else if y then t else tray_with t u.entries)
chosen_by true y t u first second = second
chosen_by false true t u first second = first
chosen_by false false t u first second = rises-with_all t.entries u.entries first

into_by : (f : Option Tray) (u : Tray) → ((t : Tray) → f ≡ Some t → IsInOrder t) → IsInOrder u → IsInOrder (joined_into f u)
into_by None u first second = second
into_by (Some t) u first second = chosen_by (nat_lt t.epoch u.epoch) (nat_lt u.epoch t.epoch) t u (first t refl) second

module _ (trays : Trays) (were : AreFewInOrder trays) (into : List ℕ) where
  joined_by : (b : Bool) (u : Tray) → is_beyond trays into ≡ b → IsInOrder u → AreFewInOrder (if b then (trays, Err join_refusals.TooManyTrays) else with_join trays into u).0
  joined_by true u is second = were
  joined_by false u is second =
      taken trays into (joined_into (tray_named trays into) u) were is
      (into_by (tray_named trays into) u (λ t there. order-named trays into t were.order there) second)

  found_by : (f : Option Tray) → ((u : Tray) → f ≡ Some u → IsInOrder u) → AreFewInOrder (join_found f trays into).0
  found_by None second = were
  found_by (Some u) second = joined_by (is_beyond trays into) u refl (second u refl)

order-request : (e : EngineState) (request : Request) → AreFewInOrder e.trays → AreFewInOrder (request_step e request).0.trays
order-request e (requests.Command owner command) were = were
order-request e requests.Begin were = were
order-request e (requests.Shade root) were = were
order-request e (requests.Deal kind most tray) were = unless_by e were tray (tray_refusal e tray) refl kind most
order-request e (requests.Give tray) were = give_by e were tray (tray_named e.trays tray)
order-request e (requests.Join into other) were = found_by e.trays were into (tray_named e.trays other) (λ u there. order-named e.trays other u were.order there)
order-request e requests.Flip were = were
order-request e requests.Recall were = were
order-request e requests.Abandon were = were
order-request e (requests.Idle words) were = were
order-request e (requests.Resize words) were = subst AreFewInOrder (sym (resize-trays e words)) were
order-request e (requests.Tickets tickets) were = subst AreFewInOrder (sym (tickets-trays e tickets)) were
order-request e (requests.Watch owner root) were = were
order-request e (requests.Unwatch ticket) were = were
order-request e requests.Gone were = were
order-request e requests.Trays were = were
order-request e requests.Stat were = were
order-request e requests.Dump were = were

-- the trays after requests
pub order-after_requests : (e : EngineState) (requests : List Request) → AreFewInOrder e.trays → AreFewInOrder (engine_after e requests).trays
order-after_requests e [] were = were
order-after_requests e (request ∷ others) were = order-after_requests (request_step e request).0 others (order-request e request were)

-- no trays stand in order
pub order-none : AreFewInOrder []
order-none = record { order = tt; few = omega arith }

-- a tray in order has no two entries of one place
pub places-tray : (trays : Trays) (name : List ℕ) (t : Tray) → AreFewInOrder trays → tray_named trays name ≡ Some t → HaveDistinctPlaces t.entries
places-tray trays name t were there = places-apart t.entries (order-named trays name t were.order there)
