-- A stack of numbers in segments, on the plain heap for which a heap that grows stands.
use Rattle.std.specs.Prelude.{◌≡◌, ◌⊎◌, ◌-◌, ◌<◌, ◌≤◌, ℕ, ℤ, List, [], ◌∷◌, Option, Some, None}
use Rattle.rh_layout.specs.Word.{IsWhole}
use Rattle.rh_layout.specs.declared.refusal.Refusal.{Refusal}
use Rattle.rh_layout.specs.declared.refusal.Refusal.TheVariants.{IntRange}
use Rattle.rh_layout.specs.declared.value.Value.{Value}
use Rattle.rh_layout.specs.declared.value.Value.TheVariants.{Nil, Int, Ref}
use Rattle.rh_layout.specs.declared.command.Command.{Command}
use Rattle.rh_layout.specs.declared.command.Command.TheVariants.{Alloc, Raw, Load, Store, Copy, Same, Drop}
use Rattle.rh_layout.specs.declared.command.RootId.{RootId}
use Rattle.rh_model.specs.Effects.{HasFields, HoldsField, IsWellFormedPlain}
use Rattle.rh_model.specs.Graph.{Graph, root_value}
use Rattle.rh_model.specs.Plain.{PlainHeap, graph_of}
use Rattle.rh_mutator.specs.Commands.{LimitHolds}
use Rattle.rh_mutator.specs.Mutator.{StandsFor}
use Rattle.rh_growing.specs.Growing.{GrowingState}

-- the root that holds the segment on top
abbrev pub top_segment : RootId
top_segment = record { owner = 1; slot = 0 }

-- a value refers to nothing, or to an object that was made before another one
abbrev pub IsOlder : Value → ℕ → Type 0
IsOlder Nil a = Unit {0}
IsOlder (Int n) a = ⊥
IsOlder (Ref b) a = b < a

-- These numbers, the last one first, stand in the segment to which a value refers, from one of its
-- fields down to field 1, and in the segments under it, each from its last field down.
abbrev pub AreStacked : Graph → Value → ℕ → List ℤ → Type 0
AreStacked g segment top [] = (segment ≡ Nil) × (top ≡ 127)
AreStacked g segment top (n ∷ ns) =
    (a : ℕ) × (segment ≡ Ref a) × HasFields g a 128 × HoldsField g a top (Int n)
    × (((1 < top) × AreStacked g segment (top - 1) ns)
    ⊎ ((top ≡ 1) × (under : Value) × HoldsField g a 0 under × IsOlder under a
    × AreStacked g under 127 ns))

-- A heap that grows holds a stack of these numbers, the last one of which is in this field.
pub record IsStack (s : GrowingState) (top : ℕ) (numbers : List ℤ) : Type 0 where
  -- it stands for a plain heap for two owners with 256 slots each
  pub plain : PlainHeap
  pub stands : StandsFor s.paced.heap.mutators plain
  pub well_formed : IsWellFormedPlain plain
  pub owners : plain.owners ≡ 2
  pub slots : plain.slots ≡ 256
  -- on which they are stacked
  pub stacked : AreStacked (graph_of plain) (root_value (graph_of plain) top_segment) top numbers

-- a command that may meet a limit as a number is pushed, the last one being in this field: it makes
-- a segment, if that on top is full, or stores
abbrev pub IsOfPush : ℕ → Command → Type 0
IsOfPush top (Alloc dst fields) = (fields ≡ 128) × (127 ≤ top)
IsOfPush top (Raw dst fields) = ⊥
IsOfPush top (Load dst src field) = ⊥
IsOfPush top (Store obj field operand) = Unit {0}
IsOfPush top (Copy dst src) = ⊥
IsOfPush top (Same a b) = ⊥
IsOfPush top (Drop root) = ⊥

-- A number may be refused, the last one being in this field, where such a command meets a limit of
-- the heap, or since no field holds it.
abbrev pub MayRefuse : GrowingState → ℕ → ℤ → Refusal → Type 0
MayRefuse s top n why =
    ((command : Command) × IsOfPush top command × LimitHolds s.paced.heap.mutators command why)
    ⊎ ((why ≡ IntRange) × ¬ IsWhole n)

-- the first of some numbers, and the others
abbrev pub first_of : List ℤ → Option ℤ
first_of [] = None
first_of (n ∷ ns) = Some n

abbrev pub rest_of : List ℤ → List ℤ
rest_of [] = []
rest_of (n ∷ ns) = ns
