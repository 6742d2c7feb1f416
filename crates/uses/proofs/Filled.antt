-- The heap of the queue is made, and has epochs and numbers for its calls.
use Rattle.std.proofs.Common.{◌≡◌, ℕ, zero, suc, ◌+◌, ◌-◌, ◌*◌, ◌^◌, ◌<◌, ◌≤◌, ◌++◌, length, Option, None, Some, refl, sym, ap, subst, ◌∙◌, inl, inr, arith}
use Rattle.std.specs.Prelude.{All, IsOk, min}
use Rattle.std.proofs.lemmas.List.{length-append}
use Rattle.std.proofs.lemmas.Option.{none-some}
use Rattle.rh_mutator.specs.Config.{FaultHolds, fault_of}
use Rattle.rh_mutator.specs.declared.config.Config.{Config}
use Rattle.rh_mutator.specs.declared.config.ConfigFault.{ConfigFault}
use Rattle.rh_mutator.specs.declared.config.ConfigFault.TheVariants.{BadSpace, BadRatio, BadRoots, BadLog, BadNumbers}
use Rattle.rh_mutator.specs.lemmas.FirstFault.{fault_of-exactly}
use Rattle.rh_core.specs.declared.errors.HeapError.{HeapError}
use Rattle.rh_core.specs.declared.errors.HeapError.TheVariants as errors
use Rattle.rh_core.specs.Heap.{new_heap}
use Rattle.rh_pace.specs.declared.pace.Pace.{Pace}
use Rattle.rh_pace.specs.Pace.{AsksForLog, IsLowest, KeepsUp, paced_by}
use Rattle.rh_pace.specs.InTime.{paced_after, paced_replies}
use Rattle.rh_pace.specs.Paced.{PacedState, paced_heap}
use Rattle.rh_pace.specs.Worked.{one_joins, one_leaves, queue_calls, times}
use Rattle.uses.specs.declared.problem.Problem.TheVariants as problems
use Rattle.uses.specs.Queue.{LeadTo, queue_config, queue_heap}

-- 4 calls for each that joins
length-joins : (n : ℕ) → length (times n one_joins) ≡ 4 * n
length-joins zero = refl
length-joins (suc n) =
    let rest = length-joins n in
    let next : length (times (suc n) one_joins) ≡ suc (suc (suc (suc (length (times n one_joins))))) = refl in
    omega (arith, rest, next)

-- and 5 for each turn
length-turns : (n : ℕ) → length (times n (one_joins ++ one_leaves)) ≡ 5 * n
length-turns zero = refl
length-turns (suc n) =
    let rest = length-turns n in
    let next : length (times (suc n) (one_joins ++ one_leaves)) ≡ suc (suc (suc (suc (suc (length (times n (one_joins ++ one_leaves))))))) = refl in
    omega (arith, rest, next)

-- there are more epochs and numbers than calls
pub few-calls : (more rounds : ℕ) → more ≤ 248 → rounds < 2 ^ 32 → (1 + length (queue_calls more rounds) ≤ 4611686018427387904) × (length (queue_calls more rounds) ≤ 4611686018427387904)
few-calls more rounds joins turns =
    let filled = length-joins more in
    let turned = length-turns rounds in
    let both = length-append (times more one_joins) (times rounds (one_joins ++ one_leaves)) in
    let all : length (queue_calls more rounds) ≡ suc (suc (length (times more one_joins ++ times rounds (one_joins ++ one_leaves)))) = refl in
    (omega (arith, filled, turned, both, all, joins, turns), omega (arith, filled, turned, both, all, joins, turns))

none-of : {F : Type 0} (o : Option F) → ((f : F) → o ≡ Some f → ⊥) → o ≡ None
none-of None refuted = refl
none-of (Some f) refuted = absurd (refuted f refl)

-- the queue's configuration has no fault
no-fault : (f : ConfigFault) → FaultHolds queue_config f → ⊥
no-fault BadSpace (inl low) = let few : 2218 < 8 = low in omega (arith, few)
no-fault BadSpace (inr high) = let many : 16777216 < 2218 = high in omega (arith, many)
no-fault BadRatio (inl low) = let few : 8 < 1 = low in omega (arith, few)
no-fault BadRatio (inr high) = let many : 64 < 8 = high in omega (arith, many)
no-fault BadRoots (inl low) = let few : 2 < 1 = low in omega (arith, few)
no-fault BadRoots (inr (inl high)) = let many : 16 < 2 = high in omega (arith, many)
no-fault BadRoots (inr (inr (inl low))) = let few : 3 < 1 = low in omega (arith, few)
no-fault BadRoots (inr (inr (inr high))) = let many : 256 < 3 = high in omega (arith, many)
no-fault BadLog (inl low) = let few : 603 < 1 = low in omega (arith, few)
no-fault BadLog (inr high) = let many : 1048576 < 603 = high in omega (arith, many)
no-fault BadNumbers (inl low) = let few : 4611686018427387904 < 1 = low in omega (arith, few)
no-fault BadNumbers (inr (inl high)) = let many : 4611686018427387904 < 4611686018427387904 = high in omega (arith, many)
no-fault BadNumbers (inr (inr (inl low))) = let few : 4611686018427387904 < 1 = low in omega (arith, few)
no-fault BadNumbers (inr (inr (inr high))) = let many : 4611686018427387904 < 4611686018427387904 = high in omega (arith, many)

pub sound : fault_of queue_config ≡ None
sound = none-of (fault_of queue_config) (λ f is. no-fault f ((fault_of-exactly queue_config f).0 is).0)

-- what the heap is made with at a pace
abbrev pub config_at : Pace → Config
config_at pace = record queue_config { log_limit = pace.log_limit }

-- the pace of the queue: of the lowest mark, since its own keeps up
pace-queue : (pace : Pace) → KeepsUp 2218 1000 4 8 pace → IsLowest 2218 1000 4 8 pace → AsksForLog 4 pace → KeepsUp 2218 1000 4 8 (paced_by 601 4 8) → pace ≡ paced_by 601 4 8
pace-queue pace up lowest asks own =
    let most : pace.mark ≤ 609 = lowest (paced_by 601 4 8) own in
    let enough = up.paces.enough in
    let room = up.paces.room in
    let mark : pace.mark ≡ 609 = omega (arith, most, enough, room) in
    let log : pace.log_limit ≡ 603 = asks.log_limit ∙ ap (λ (m : ℕ). min (m - 8 + 2) 1048576) mark in
    λ k. record { mark = mark k; store_units = up.paces.store_units k; log_limit = log k }

-- So a heap that is made so is the queue's, whatever pace that is, and is led to where its calls lead.
module _ (own : KeepsUp 2218 1000 4 8 (paced_by 601 4 8)) (rounds : ℕ) where
  -- the state after these calls
  abbrev pub queue_last : PacedState
  queue_last = paced_after queue_heap (queue_calls 248 rounds)

  pub made-leads : (pace : Pace) → KeepsUp 2218 1000 4 8 pace → IsLowest 2218 1000 4 8 pace → AsksForLog 4 pace → (c : Config) → c ≡ config_at pace → (s : PacedState) → s ≡ paced_heap (new_heap c) pace
      → All (λ reply. IsOk reply) (paced_replies queue_heap (queue_calls 248 rounds)) → LeadTo s (queue_calls 248 rounds) queue_last
  made-leads pace up lowest asks c is s made accepted =
      let same = pace-queue pace up lowest asks own in
      let config : c ≡ queue_config = is ∙ ap config_at same in
      let made_so : s ≡ queue_heap = made ∙ (λ k. paced_heap (new_heap (config k)) (same k)) in
      let leads : LeadTo queue_heap (queue_calls 248 rounds) queue_last = record { accepted = accepted; after = refl } in
      subst (λ (t : PacedState). LeadTo t (queue_calls 248 rounds) queue_last) (sym made_so) leads

-- Nothing but memory keeps it from being made.
pub only-memory : (own : KeepsUp 2218 1000 4 8 (paced_by 601 4 8)) (pace : Pace) → KeepsUp 2218 1000 4 8 pace → IsLowest 2218 1000 4 8 pace → AsksForLog 4 pace → (c : Config) → c ≡ config_at pace
    → (error : HeapError) → ((f : ConfigFault) → error ≡ errors.Config f → fault_of c ≡ Some f) → problems.Heap error ≡ problems.Heap errors.OutOfMemory
only-memory own pace up lowest asks c is (errors.Config f) told =
    let config : c ≡ queue_config = is ∙ ap config_at (pace-queue pace up lowest asks own) in
    absurd (none-some f (sym sound ∙ sym (ap fault_of config) ∙ told f refl))
only-memory own pace up lowest asks c is errors.OutOfMemory told = refl
