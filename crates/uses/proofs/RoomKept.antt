-- A heap that grows goes on having room, and who is refused it was told so.
use Rattle.std.proofs.Common.{◌≡◌, ◌⊎◌, ℕ, ◌+◌, ◌*◌, ◌≤◌, Bool, true, false, [], Some, Result, Ok, Err, refl, sym, ap, subst, ◌∙◌, inl, inr, arith}
use Rattle.std.specs.Prelude.{if◌then◌else◌, IsSome}
use Rattle.std.proofs.lemmas.Bool.{true≢false}
use Rattle.rh_layout.specs.declared.command.Command.{Command}
use Rattle.rh_layout.specs.declared.command.Reply.{Reply}
use Rattle.rh_layout.specs.declared.refusal.Refusal.{Refusal}
use Rattle.rh_core.specs.Heap.{IsWellFormed}
use Rattle.rh_core.specs.runs.Programs.{CommandAnswers, Program}
use Rattle.rh_core.specs.runs.Progress.{words_made}
use Rattle.rh_pace.specs.Collecting.{wants_room}
use Rattle.rh_pace.specs.InTime.{HasRoom}
use Rattle.rh_pace.specs.KeptUp.{IsPaced}
use Rattle.rh_pace.specs.Paced.{PacedState, paced_step}
use Rattle.rh_pace.specs.Reaching.{AreEpochsSpent}
use Rattle.rh_growing.specs.declared.growth.Growth.{Growth}
use Rattle.rh_growing.specs.Calls.{IsGrowingCall}
use Rattle.rh_growing.specs.Growth.{FitsLog, growth_up_to}
use Rattle.rh_growing.specs.Growing.{GrowingState, IsGrowing, IsGrowingInTime, grown, growing_heap, growing_step, has_flipped, with_paced}
use Rattle.rh_growing.specs.KeepingUp.{HasRoomUnlessShort, MakesNoBigger}
use Rattle.rh_growing.specs.Programs.{Given}
use Rattle.uses.specs.Room.{IsRoomy, IsToldShort}

-- a heap grows by the same growth after a step
growth-kept : (given : Bool) (s : GrowingState) (owner : ℕ) (command : Command) → (growing_step given s owner command).0.growth ≡ s.growth
unfolding growing_step grown
growth-kept given s owner command = by-flip (paced_step s.paced owner command).0 (has_flipped s.paced (paced_step s.paced owner command).0)
  where
    by-flip : (p : PacedState) (b : Bool) → (if b then grown given 0 (with_paced s p) else with_paced s p).growth ≡ s.growth
    by-flip p true = refl
    by-flip p false = refl

step-answer : (given : Bool) (s : GrowingState) (owner : ℕ) (command : Command) → (growing_step given s owner command).1 ≡ (paced_step s.paced owner command).1
unfolding growing_step
step-answer given s owner command = refl

-- the program that asks for this command
abbrev asks : ℕ → Command → Program
asks owner command = λ so_far. Some (owner, command)

-- The law that such heaps keep up.
abbrev pub KeepUp : Type 0
KeepUp = (s : GrowingState) → IsWellFormed s.paced.heap → IsPaced s.paced → IsGrowing s → IsGrowingInTime s → FitsLog s.growth
    → (program : Program) → MakesNoBigger s.growth.biggest program → (given : Given) (n : ℕ) → (so_far : CommandAnswers) → HasRoomUnlessShort program given n s so_far

module _ (given : Bool) (old new : GrowingState) (owner : ℕ) (command : Command) (told : Result Reply Refusal) (call : IsGrowingCall given old new owner command told)
    (words : ℕ) (roomy : IsRoomy words old) (fits : words_made command ≤ words) where
  small : words_made command ≤ old.growth.biggest
  small = let biggest = roomy.biggest in omega (arith, fits, biggest)

  pub room-on : IsRoomy words new
  room-on =
      let growth : new.growth ≡ old.growth = ap (λ (s : GrowingState). s.growth) call.state ∙ growth-kept given old owner command in
      record {
        in_time = call.in_time roomy.in_time small;
        biggest = subst (λ (g : Growth). words ≤ g.biggest) (sym growth) roomy.biggest;
        log = subst FitsLog (sym growth) roomy.log;
      }

  pub told-short : KeepUp → IsWellFormed old.paced.heap → IsPaced old.paced → IsGrowing old → IsToldShort new told
  told-short law well paced growing = by-answer told call (law old well paced growing roomy.in_time roomy.log (asks owner command) (λ so_far. small) (λ so_far i. true) 1 []).0
    where
      by-answer : (t : Result Reply Refusal) → IsGrowingCall given old new owner command t → IsSome old.short ⊎ HasRoom old.paced owner command → IsToldShort new t
      by-answer (Ok reply) called room = tt
      by-answer (Err why) called room = λ wants.
          subst (λ (s : GrowingState). IsSome s.short ⊎ AreEpochsSpent s.paced.heap) (sym called.refused) (chosen wants room)
        where
          chosen : wants_room (Err why) ≡ true → IsSome old.short ⊎ HasRoom old.paced owner command → IsSome old.short ⊎ AreEpochsSpent old.paced.heap
          chosen wants (inl short) = inl short
          chosen wants (inr (inl none)) =
              absurd (true≢false (sym wants ∙ ap wants_room (called.answer ∙ step-answer given old owner command) ∙ none))
          chosen wants (inr (inr spent)) = inr spent

-- A new heap that grows to so many words has room.
pub new-roomy : (words most : ℕ) → words ≤ 4097 → 3 * most + 5 ≤ 32 * 1048575 → (s : GrowingState) → s ≡ growing_heap (growth_up_to most) → IsGrowingInTime s → IsRoomy words s
new-roomy words most few fits s made in_time = record {
  in_time = in_time;
  biggest = subst (λ (t : GrowingState). words ≤ t.growth.biggest) (sym made) few;
  log = subst (λ (t : GrowingState). FitsLog t.growth) (sym made) fits;
}
