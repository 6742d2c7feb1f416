-- What the engine's calls rest on: a give sees no room, a heap that refuses to deal is as it was, and a piece is of its tray's epoch.
use Rattle.std.proofs.Common.{◌≡◌, ℕ, Bool, true, false, not, ◌==◌, if◌then◌else◌, List, Option, Some, None, Ok, Err, refl, sym, ◌∙◌, ap}
use borrow.Author.Tests.{eqb-true}
use Rattle.rh_core.specs.Dealing.{deal_step, deal_unless, deal_refusal, deal_count, dealt_of}
use Rattle.rh_core.specs.Giving.{give_step, give_unless, give_refusal}
use Rattle.rh_core.specs.Heap.{HeapState}
use Rattle.rh_core.specs.declared.outcomes.Dealt.{Dealt}
use Rattle.rh_layout.specs.declared.kind.Kind.{Kind}
use Rattle.rh_core.specs.declared.errors.DealError.{DealError}
use Rattle.rh_core.specs.declared.errors.DealError.TheVariants as deal_errors
use Rattle.rh_core.specs.declared.errors.GiveError.{GiveError}
use Rattle.rh_partial.specs.PartialReplica.{ReplicaState}
use Rattle.rh_engine.specs.Trays.{tray_of, replica_of, tray_or_empty, is_beyond}
use Rattle.rh_engine.specs.Engine.{EngineState, tray_refusal}
use Rattle.rh_engine.specs.declared.engine.DealRefusal.TheVariants as deal_refusals

given_by : (h : HeapState) (r : ReplicaState) (x : Option GiveError) → give_unless x h r ≡ give_unless x h (replica_of (tray_of r))
given_by h r (Some why) = refl
given_by h r None = refl

-- a heap that is given a replica sees its epoch and its entries alone
pub give_step-tray : (h : HeapState) (r : ReplicaState) → give_step h r ≡ give_step h (replica_of (tray_of r))
unfolding give_step
give_step-tray h r = given_by h r (give_refusal h r)

refused_by : (h : HeapState) (kind : Kind) (most : ℕ) (x : Option DealError) (error : DealError) → (deal_unless x h kind most).1 ≡ Err error → (deal_unless x h kind most).0 ≡ h
refused_by h kind most (Some why) error e = refl
refused_by h kind most None error e = cc

-- a heap that refuses to deal is as it was
pub refused-heap : (h : HeapState) (kind : Kind) (most : ℕ) (error : DealError) → (deal_step h kind most).1 ≡ Err error → (deal_step h kind most).0 ≡ h
unfolding deal_step
refused-heap h kind most error e = refused_by h kind most (deal_refusal h kind) error e

epoch_by : (h : HeapState) (kind : Kind) (most : ℕ) (x : Option DealError) (d : Dealt) → (deal_unless x h kind most).1 ≡ Ok d → d.piece.epoch ≡ h.epoch
epoch_by h kind most (Some why) d e = cc
epoch_by h kind most None d e =
    let equal : dealt_of h kind (deal_count h kind most) ≡ d = cc in
    ap (λ x. x.piece.epoch) (sym equal)

-- a piece is of the heap's epoch
epoch-dealt : (h : HeapState) (kind : Kind) (most : ℕ) (d : Dealt) → (deal_step h kind most).1 ≡ Ok d → d.piece.epoch ≡ h.epoch
unfolding deal_step
epoch-dealt h kind most d e = epoch_by h kind most (deal_refusal h kind) d e

unrefused_by : (tray heap : ℕ) (on beyond same : Bool) → (tray == heap) ≡ same
    → (if not on then Some (deal_refusals.Heap deal_errors.NoCycle) else if beyond then Some deal_refusals.TooManyTrays else if not same then Some deal_refusals.OtherEpoch else None) ≡ None
    → tray ≡ heap
unrefused_by tray heap false beyond same is e = cc
unrefused_by tray heap true true same is e = cc
unrefused_by tray heap true false false is e = cc
unrefused_by tray heap true false true is e = eqb-true tray heap is

-- a tray into which a deal isn't refused is of the epoch of the piece that is dealt
pub epoch_of_tray : (s : EngineState) (name : List ℕ) (kind : Kind) (most : ℕ) (d : Dealt) → tray_refusal s name ≡ None → (deal_step s.heap kind most).1 ≡ Ok d
    → (tray_or_empty s.trays name d.piece.epoch).epoch ≡ d.piece.epoch
epoch_of_tray s name kind most d free dealt =
    let piece : d.piece.epoch ≡ s.heap.epoch = epoch-dealt s.heap kind most d dealt in
    let tray = (tray_or_empty s.trays name s.heap.epoch).epoch in
    ap (λ n. (tray_or_empty s.trays name n).epoch) piece
    ∙ unrefused_by tray s.heap.epoch s.heap.mutators.cycle (is_beyond s.trays name) (tray == s.heap.epoch) refl free
    ∙ sym piece
