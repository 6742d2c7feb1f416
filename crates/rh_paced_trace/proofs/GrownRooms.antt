-- A growing run finds no room only where its heap is short.
use Rattle.std.proofs.Common.{◌≡◌, ℕ, suc, ◌≤◌, Bool, [], ◌∷◌, refl, arith}
use Rattle.rh_layout.specs.declared.command.Command.{Command}
use Rattle.rh_layout.specs.declared.command.Command.TheVariants.{Alloc, Raw, Load, Store, Copy, Same, Drop}
use Rattle.rh_core.specs.Heap.{IsWellFormed}
use Rattle.rh_core.specs.runs.Progress.{words_made}
use Rattle.rh_pace.specs.KeptUp.{IsPaced}
use Rattle.rh_pace.specs.Paced.{PacedState, paced_step}
use Rattle.rh_growing.specs.declared.growth.Growth.{Growth}
use Rattle.rh_growing.specs.Growth.{FitsLog}
use Rattle.rh_growing.specs.Growing.{GrowingState, growing_step}
use Rattle.rh_growing.proofs.AnyCommand.{full-any, goes_on-any, room-any}
use Rattle.rh_growing.proofs.Kept.{GoesOn}
use Rattle.rh_growing.proofs.Steps.{StepsLaws}
use Rattle.rh_paced_trace.specs.Growing.{AreFullOnlyWhereShort, HaveRoomUnlessShort}
use Rattle.rh_paced_trace.specs.Lines.{Commands, biggest_of, words_asked}

-- where an object has no more words, they are those that are asked for
asked-made : (command : Command) → words_made command ≤ 4097 → words_made command ≡ words_asked command
asked-made (Alloc dst fields) few = omega (arith, few)
asked-made (Raw dst fields) few = omega (arith, few)
asked-made (Load dst src field) few = refl
asked-made (Store obj field operand) few = refl
asked-made (Copy dst src) few = refl
asked-made (Same a b) few = refl
asked-made (Drop root) few = refl

asked-fits : (g : Growth) (command : Command) → words_asked command ≤ g.biggest → words_made command ≤ 4097 → words_made command ≤ g.biggest
asked-fits g command asks few = let same = asked-made command few in omega (arith, same, asks)

module _ (laws : StepsLaws) (kept : (s : PacedState) → IsWellFormed s.heap → IsPaced s → (owner : ℕ) (command : Command) → IsPaced (paced_step s owner command).0) (g : Growth) where
  pub fulls : (left : Commands) (given : ℕ → Bool) (s : GrowingState) → GoesOn g s → biggest_of left ≤ g.biggest → AreFullOnlyWhereShort given s left
  fulls [] given s on few = tt
  fulls (owned ∷ others) given s on few =
      let fits = asked-fits g owned.1 (omega (arith, few)) in
      let rest : biggest_of others ≤ g.biggest = omega (arith, few) in
      (full-any laws kept g (given 0) s on owned.0 owned.1 fits, fulls others (λ i. given (suc i)) (growing_step (given 0) s owned.0 owned.1).0 (goes_on-any laws kept g (given 0) s on owned.0 owned.1 fits) rest)

  pub rooms-short : FitsLog g → (left : Commands) (given : ℕ → Bool) (s : GrowingState) → GoesOn g s → biggest_of left ≤ g.biggest → HaveRoomUnlessShort given s left
  rooms-short log [] given s on few = tt
  rooms-short log (owned ∷ others) given s on few =
      let fits = asked-fits g owned.1 (omega (arith, few)) in
      let rest : biggest_of others ≤ g.biggest = omega (arith, few) in
      (room-any laws kept g (given 0) s on owned.0 owned.1 fits log, rooms-short log others (λ i. given (suc i)) (growing_step (given 0) s owned.0 owned.1).0 (goes_on-any laws kept g (given 0) s on owned.0 owned.1 fits) rest)
