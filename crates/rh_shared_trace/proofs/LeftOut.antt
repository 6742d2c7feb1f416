-- A line may be left out where a limit may refuse its command, and only there.
use Rattle.std.proofs.Common.{◌≡◌, ◌⊎◌, ℕ, zero, suc, ◌+◌, Bool, true, false, [], ◌∷◌, slice_index_or, refl, sym, subst, arith, inl, inr}
use Rattle.std.proofs.lemmas.Bool.{true≢false}
use Rattle.rh_layout.specs.declared.command.RootId.{RootId}
use Rattle.rh_layout.specs.declared.value.Value.TheVariants.{Nil}
use Rattle.rh_layout.specs.declared.command.Command.{Command}
use Rattle.rh_layout.specs.declared.command.Command.TheVariants.{Alloc, Raw, Load, Store, Copy, Same, Drop}
use Rattle.rh_layout.specs.declared.refusal.Refusal.{Refusal}
use Rattle.rh_layout.specs.declared.refusal.Refusal.TheVariants.{SpaceFull, NumbersSpent}
use Rattle.rh_mutator.specs.declared.config.Config.{Config}
use Rattle.rh_mutator.specs.Mutator.{MutatorState, IsMutator, IsStorable, new_mutators}
use Rattle.rh_mutator.specs.Commands.{LimitHolds, IsStoring, with_new_object}
use Rattle.rh_mutator.specs.lemmas.Kept.{IsMutator-with_new_object}
use Rattle.rh_layout.specs.Shape.{shape_of}
use Rattle.rh_shared_trace.specs.declared.trace_limits.TraceLimits.{TraceLimits}
use Rattle.rh_shared_trace.specs.Matching.{MayLeaveOut}

-- eight words, one root, and one number for stores
abbrev small : Config
small = record { words = 8; ratio = 1; owners = 1; slots = 1; log_limit = 1; last_number = 1; last_epoch = 1 }

-- the number is taken
abbrev spent : MutatorState
spent = record (new_mutators small) { log = record (new_mutators small).log { number = 1 } }

IsMutator-spent : IsMutator spent
IsMutator-spent = record {
  config = refl;
  owners = refl;
  slots = refl;
  words = refl;
  log = record {
    some_limit = omega arith;
    small_limit = omega arith;
    some_number = omega arith;
    small_number = omega arith;
    within = omega arith;
    fits = omega arith;
    rise = omega arith;
  };
  limit = refl;
  last_number = refl;
  roots = at_nil;
  fields = λ a f. tt;
  raw = λ a f kind. refl;
  numbers = λ a f. omega arith;
}
  where
    at_nil : (position : ℕ) → IsStorable [] (slice_index_or (Nil ∷ []) position Nil)
    at_nil zero = tt
    at_nil (suc position) = tt

-- and an object takes all words
abbrev first_root : RootId
first_root = record { owner = 0; slot = 0 }

abbrev at_limits : MutatorState
at_limits = with_new_object spent first_root (shape_of 6 false)

abbrev IsLimited : Command → Type 0
IsLimited command = (m : MutatorState) × IsMutator m × (limit : Refusal) × LimitHolds m command limit

at : (command : Command) (limit : Refusal) → LimitHolds at_limits command limit → IsLimited command
at command limit holds = (at_limits, IsMutator-with_new_object spent IsMutator-spent first_root (shape_of 6 false), limit, holds)

nothing : {X : Type 0} → (false ≡ true) ⊎ (false ≡ true) → X
nothing (inl e) = absurd (true≢false (sym e))
nothing (inr e) = absurd (true≢false (sym e))

pub left_out_is_limited : (limits : TraceLimits) (command : Command) → MayLeaveOut limits false command → IsLimited command
left_out_is_limited limits (Alloc dst fields) out = at (Alloc dst fields) (SpaceFull (2 + fields) 0) (dst, shape_of fields false, refl, refl, refl, omega arith)
left_out_is_limited limits (Raw dst fields) out = at (Raw dst fields) (SpaceFull (2 + fields) 0) (dst, shape_of fields true, refl, refl, refl, omega arith)
left_out_is_limited limits (Store obj field operand) out = at (Store obj field operand) NumbersSpent ((obj, field, operand, refl), refl, λ on. absurd (true≢false (sym on)))
left_out_is_limited limits (Load dst src field) out = nothing out
left_out_is_limited limits (Copy dst src) out = nothing out
left_out_is_limited limits (Same a b) out = nothing out
left_out_is_limited limits (Drop root) out = nothing out

-- a trace whose objects may have more words than the space, whatever its stores
pub made_is_left_out : (command : Command) (m : MutatorState) (need free : ℕ) (log : Bool) → LimitHolds m command (SpaceFull need free)
    → MayLeaveOut (record { space = true; log = log }) false command
made_is_left_out (Alloc dst fields) m need free log holds = inr refl
made_is_left_out (Raw dst fields) m need free log holds = inr refl
made_is_left_out (Store obj field operand) m need free log holds = absurd cc
made_is_left_out (Load dst src field) m need free log holds = absurd cc
made_is_left_out (Copy dst src) m need free log holds = absurd cc
made_is_left_out (Same a b) m need free log holds = absurd cc
made_is_left_out (Drop root) m need free log holds = absurd cc

-- a trace that may store more often than the log has entries, whatever its objects
pub stored_is_left_out : (command : Command) (space : Bool) → IsStoring command → MayLeaveOut (record { space = space; log = true }) false command
stored_is_left_out command space is = subst (MayLeaveOut (record { space = space; log = true }) false) (sym is.3) (inr refl)
