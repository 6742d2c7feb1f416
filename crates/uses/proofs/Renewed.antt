-- A heap that serves renewals serves one fewer after each.
use Rattle.std.proofs.Common.{◌≡◌, ℕ, suc, ◌+◌, ◌-◌, ◌<◌, ◌≤◌, false, List, [], ◌∷◌, ◌++◌, length, Result, refl, ap, subst, ◌∙◌, arith}
use Rattle.std.specs.Prelude.{IsOk, is_ok, slice_set}
use Rattle.rh_layout.specs.Shape.{shape_of}
use Rattle.rh_layout.specs.declared.value.Value.{Value}
use Rattle.rh_layout.specs.declared.value.Value.TheVariants.{Nil, Ref}
use Rattle.rh_layout.specs.declared.command.Command.{Command}
use Rattle.rh_layout.specs.declared.command.Command.TheVariants.{Alloc}
use Rattle.rh_layout.specs.declared.command.Reply.{Reply}
use Rattle.rh_layout.specs.declared.refusal.Refusal.{Refusal}
use Rattle.rh_model.specs.Graph.{fault_in, refusal_of, reply_to}
use Rattle.rh_model.specs.Plain.{PlainHeap, PlainObject, empty_plain, new_plain_object, plain_after_command, step}
use Rattle.rh_pace.specs.Calls.{IsPacedCall}
use Rattle.rh_pace.specs.Paced.{PacedState}
use Rattle.rh_pace.specs.PlainBounds.{AreBounded, ServesWithin}
use Rattle.rh_pace.specs.Worked.{object_calls}
use Rattle.uses.specs.Renewal.{Renews, with_one_root}

-- the call
abbrev pub renewal : Command
renewal = Alloc (record { owner = 0; slot = 0 }) 8

-- A plain heap with one root accepts it.
module _ (roots : List Value) (objects : List PlainObject) where
  abbrev roots_after : List Value
  roots_after = slice_set roots 0 (Ref (length objects))

  abbrev objects_after : List PlainObject
  objects_after = objects ++ new_plain_object (shape_of 8 false) ∷ []

  accepted : IsOk (step (with_one_root roots objects) 0 renewal).1 × ((step (with_one_root roots objects) 0 renewal).0 ≡ with_one_root roots_after objects_after)
  unfolding step refusal_of fault_in plain_after_command reply_to
  accepted = (refl, refl)

-- So it is served.
module _ (n : ℕ) (s t : PacedState) (answer : Result Reply Refusal) (called : IsPacedCall s t 0 renewal answer) (renews : Renews (suc n) s) where
  served : (answer ≡ (step (with_one_root renews.roots renews.objects) 0 renewal).1) × ServesWithin renews.live 10 n (step (with_one_root renews.roots renews.objects) 0 renewal).0 t
  served = called.served renews.live 10 n (with_one_root renews.roots renews.objects) renews.serves renews.bounded.0

  pub is_accepted : IsOk answer
  is_accepted = ap is_ok served.0 ∙ (accepted renews.roots renews.objects).0

  pub renews_on : Renews n t
  renews_on =
      let is = (accepted renews.roots renews.objects).1 in record {
        roots = roots_after renews.roots renews.objects;
        objects = objects_after renews.roots renews.objects;
        live = renews.live;
        serves = subst (λ (p : PlainHeap). ServesWithin renews.live 10 n p t) is served.1;
        bounded = subst (λ (p : PlainHeap). AreBounded renews.live 10 p (object_calls n)) is renews.bounded.1;
      }

-- one more of those that are left
pub next-left : (n i : ℕ) (s : PacedState) → i < n → Renews (n - i) s → Renews (suc (n - (i + 1))) s
next-left n i s low renews = subst (λ m. Renews m s) (let is : n - i ≡ suc (n - (i + 1)) = omega (arith, low) in is) renews

-- what is bounded by fewer words is bounded by more
more-bounded : (live biggest more : ℕ) → live ≤ more → (calls : List (ℕ × Command)) (p : PlainHeap) → AreBounded live biggest p calls → AreBounded more biggest p calls
more-bounded live biggest more fewer [] p bounded = tt
more-bounded live biggest more fewer (call ∷ rest) p bounded = (
  (bounded.0.0, λ names distinct reached. let few = bounded.0.1 names distinct reached in omega (arith, few, fewer)),
  more-bounded live biggest more fewer rest (step p call.0 call.1).0 bounded.1,
)

-- A new heap serves as many as it is asked for.
pub renews-new : (live n : ℕ) (s : PacedState) → 10 ≤ live → AreBounded 10 10 (empty_plain 1 1) (object_calls n) → ServesWithin live 10 n (empty_plain 1 1) s → Renews n s
renews-new live n s enough bounded serves = record {
  roots = Nil ∷ [];
  objects = [];
  live = live;
  serves = serves;
  bounded = more-bounded 10 10 live enough (object_calls n) (empty_plain 1 1) bounded;
}
