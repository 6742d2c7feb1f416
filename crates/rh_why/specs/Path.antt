-- The path that is told: from the first reference to an object, in the order of the dump, to the
-- first one to the object that holds it, and so on up to a root.
use Rattle.std.specs.Prelude.{ℕ, zero, suc, ◌+◌, ◌==◌, if◌then◌else◌, List, [], ◌∷◌, ◌++◌, length, reverse, slice_get, Option, Some, None, codes, decimal}
use Rattle.std.specs.List.{flat_map}
use Rattle.rh_layout.specs.declared.value.Value.{Value}
use Rattle.rh_layout.specs.declared.value.Value.TheVariants.{Nil, Int, Ref}
use Rattle.rh_layout.specs.declared.command.RootId.{RootId}
use Rattle.rh_text.specs.Root.{root_text}
use Rattle.rh_model.specs.Plain.{PlainObject}
use Rattle.rh_dump.specs.Dump.{GraphState}
use Rattle.rh_why.specs.declared.holder.Holder.{Holder}
use Rattle.rh_why.specs.declared.holder.Holder.TheVariants.{Root, Field}
use Rattle.rh_why.specs.declared.holder.Step.{Step}

-- the holders of the objects that were met, once a value is: an object is met by the first reference
-- to it, and the objects are met in the order of their numbers
abbrev pub with_value : List Holder → Holder → Value → List Holder
with_value holders holder Nil = holders
with_value holders holder (Int n) = holders
with_value holders holder (Ref to) =
    if to == length holders then holders ++ holder ∷ [] else holders

-- once roots are
abbrev pub with_roots : List Holder → List (RootId × Value) → List Holder
with_roots holders [] = holders
with_roots holders (root ∷ roots) = with_roots (with_value holders (Root root.0) root.1) roots

-- once fields of an object are, which are numbered from this number on
abbrev pub with_fields : List Holder → ℕ → ℕ → List Value → List Holder
with_fields holders number field [] = holders
with_fields holders number field (value ∷ values) =
    with_fields (with_value holders (Field number field) value) number (field + 1) values

-- once objects are, which are numbered from this number on
abbrev pub with_objects : List Holder → ℕ → List PlainObject → List Holder
with_objects holders number [] = holders
with_objects holders number (object ∷ objects) =
    with_objects (with_fields holders number 0 object.fields) (number + 1) objects

-- The holder of the first reference to each object, in the order of their numbers.
abbrev pub first_holders : GraphState → List Holder
first_holders g = with_objects (with_roots [] g.roots) 0 g.objects

-- the steps from an object on, where this is what holds it first, and these are the steps from each
-- other object on
abbrev pub steps_by : (ℕ → List Step) → ℕ → Option Holder → List Step
steps_by steps to None = []
steps_by steps to (Some (Root root)) = record { holder = Root root; to = to } ∷ []
steps_by steps to (Some (Field number field)) =
    record { holder = Field number field; to = to } ∷ steps number

-- the steps from an object up to a root, and no more than so many
abbrev pub steps_to : ℕ → List Holder → ℕ → List Step
steps_to zero holders to = []
steps_to (suc most) holders to = steps_by (steps_to most holders) to (slice_get holders to)

-- The path from a root to the object of this number.
abbrev pub path_of : GraphState → ℕ → List Step
path_of g to = reverse (steps_to (length (first_holders g)) (first_holders g) to)

-- what holds a reference: a root, or a field of an object
abbrev pub holder_text : Holder → List ℕ
holder_text (Root root) = root_text root
holder_text (Field number field) = 64 ∷ (decimal number ++ 32 ∷ decimal field)

-- the line of a step
abbrev pub step_text : Step → List ℕ
step_text step = holder_text step.holder ++ 32 ∷ 64 ∷ (decimal step.to ++ 10 ∷ [])

-- the line of an object that isn't reached
abbrev pub unreached_text : ℕ → List ℕ
unreached_text to = 64 ∷ (decimal to ++ codes " isn't reached\n")

-- the lines of a path to the object of this number
abbrev pub path_text : ℕ → List Step → List ℕ
path_text to [] = unreached_text to
path_text to (step ∷ steps) = flat_map step_text (step ∷ steps)

-- The text of the path to the object of this number.
abbrev pub why_text : ℕ → GraphState → List ℕ
why_text to g = path_text to (path_of g to)
