-- What a plain heap for two owners with 256 slots answers to owner 1's commands on segments.
use Rattle.std.proofs.Common.{◌≡◌, ◌⊎◌, ℕ, ℤ, ◌<◌, Bool, true, false, List, [], ◌∷◌, length, Option, Some, None, Ok, Err, refl, ap, ◌∙◌, inl, inr, arith}
use Rattle.std.specs.Prelude.{nat_lt, not, ◌&&◌, if◌then◌else◌, IsOk, is_ok}
use Rattle.std.specs.List.{list_all}
use Rattle.std.proofs.lemmas.Bool.{lt-ltb}
use Rattle.std.proofs.lemmas.Int.{ints}
use Rattle.std.proofs.lemmas.Option.{get_or_from_slice_get, slice_get_within}
use Rattle.rh_layout.specs.Command.{operand_fault, roots_in, value_fault}
use Rattle.rh_layout.specs.Refusing.{first_of}
use Rattle.rh_layout.specs.Root.{has_root, may_use}
use Rattle.rh_layout.specs.Word.{IsWhole, is_whole}
use Rattle.rh_layout.specs.declared.command.Operand.TheVariants as operands
use Rattle.rh_layout.specs.declared.command.RootId.{RootId}
use Rattle.rh_layout.specs.declared.value.Value.{Value}
use Rattle.rh_layout.specs.declared.value.Value.TheVariants.{Nil, Int, Ref}
use Rattle.rh_layout.specs.declared.command.Command.{Command}
use Rattle.rh_layout.specs.declared.command.Command.TheVariants.{Alloc, Load, Store, Copy}
use Rattle.rh_layout.specs.declared.refusal.Refusal.{Refusal}
use Rattle.rh_layout.specs.declared.refusal.Refusal.TheVariants.{IntRange, NoField, NoRoot, NotObject, NotYours}
use Rattle.rh_model.specs.Effects.{HoldsField}
use Rattle.rh_model.specs.Graph.{Graph, fault_in, field_fault, field_value, refers_to_raw, refusal_of, reply_of, reply_to, root_value, value_fields}
use Rattle.rh_model.specs.Plain.{PlainHeap, graph_of, step, step_unless}
use Rattle.uses.specs.Stack.{top_segment}
use Rattle.uses.proofs.Stacks.{new_segment}

-- why not, for so many owners with so many slots
abbrev refusal_by : ℕ → ℕ → Command → Option Refusal → Option Refusal
refusal_by owners slots command fault =
    if not (nat_lt 1 owners && list_all (has_root owners slots) (roots_in command)) then Some NoRoot
    else if not (list_all (may_use 1) (roots_in command)) then Some NotYours
    else fault

-- the command that reads a field of the segment on top
abbrev pub reading : ℕ → Command
reading f = Load top_segment top_segment f

-- a number that doesn't pass the test has no word
has-no-word : (n : ℤ) → is_whole n ≡ false → ¬ IsWhole n
has-no-word n e whole = grind (arith, ints)

module _ (p : PlainHeap) (owners : p.owners ≡ 2) (slots : p.slots ≡ 256) where
  -- Where an owner may name the roots only the rest may be wrong with a command.
  pub own-refusal : (command : Command) → list_all (has_root 2 256) (roots_in command) ≡ true → list_all (may_use 1) (roots_in command) ≡ true
      → refusal_of (graph_of p) 1 command ≡ fault_in (graph_of p) command
  unfolding refusal_of
  own-refusal command there own =
      let fault = fault_in (graph_of p) command in
      ap (λ (o : ℕ). refusal_by o p.slots command fault) owners
      ∙ ap (λ (s : ℕ). refusal_by 2 s command fault) slots
      ∙ ap (λ (t : Bool). if not t then Some NoRoot else if not (list_all (may_use 1) (roots_in command)) then Some NotYours else fault) there
      ∙ ap (λ (t : Bool). if not t then Some NotYours else fault) own

  -- what isn't refused is accepted
  accepted : (command : Command) → refusal_of (graph_of p) 1 command ≡ None → (step p 1 command).1 ≡ Ok (reply_to (graph_of p) command)
  unfolding step
  accepted command none = ap (λ (o : Option Refusal). (step_unless o p command).1) none

  refused : (command : Command) (why : Refusal) → refusal_of (graph_of p) 1 command ≡ Some why → (step p 1 command).1 ≡ Err why
  unfolding step
  refused command why is = ap (λ (o : Option Refusal). (step_unless o p command).1) is

  -- a new segment is made
  pub segment-made : IsOk (step p 1 (Alloc new_segment 128)).1
  unfolding fault_in
  segment-made = ap is_ok (accepted (Alloc new_segment 128) (own-refusal (Alloc new_segment 128) refl refl))

  -- and stands on the others
  pub segment-stands : IsOk (step p 1 (Copy top_segment new_segment)).1
  unfolding fault_in
  segment-stands = ap is_ok (accepted (Copy top_segment new_segment) (own-refusal (Copy top_segment new_segment) refl refl))

  module _ (a f : ℕ) (fields : List Value) (there : (graph_of p).fields a ≡ Some fields) (within : f < length fields) where
    field-there : (v : Value) → v ≡ Ref a → field_fault (value_fields (graph_of p) v) f ≡ None
    field-there v is =
        ap (λ (w : Value). field_fault (value_fields (graph_of p) w) f) is
        ∙ ap (λ (o : Option (List Value)). field_fault o f) there
        ∙ ap (λ (t : Bool). if t then None else Some NoField) (lt-ltb f (length fields) within)

    -- its first field takes what a root holds
    pub segment-linked : root_value (graph_of p) new_segment ≡ Ref a → (graph_of p).raw a ≡ false → IsOk (step p 1 (Store new_segment f (operands.Root top_segment))).1
    unfolding fault_in
    segment-linked is kind =
        let command : Command = Store new_segment f (operands.Root top_segment) in
        let v = root_value (graph_of p) top_segment in
        let raw : refers_to_raw (graph_of p) (root_value (graph_of p) new_segment) ≡ false = ap (λ (w : Value). refers_to_raw (graph_of p) w) is ∙ kind in
        let none : refusal_of (graph_of p) 1 command ≡ None =
        own-refusal command refl refl
        ∙ ap (λ (o : Option Refusal). first_of o (first_of (value_fault (refers_to_raw (graph_of p) (root_value (graph_of p) new_segment)) v) None)) (field-there (root_value (graph_of p) new_segment) is)
        ∙ ap (λ (t : Bool). first_of (value_fault t v) None) raw in
        ap is_ok (accepted command none)

    -- a field takes a whole number, if a field holds it
    pub number-stored : (obj : RootId) → list_all (has_root 2 256) (obj ∷ []) ≡ true → list_all (may_use 1) (obj ∷ []) ≡ true → root_value (graph_of p) obj ≡ Ref a → (n : ℤ)
        → IsOk (step p 1 (Store obj f (operands.Int n))).1 ⊎ (((step p 1 (Store obj f (operands.Int n))).1 ≡ Err IntRange) × ¬ IsWhole n)
    unfolding fault_in
    number-stored obj here own is n = by-test (is_whole n) refl
      where
        no-reference : (raw : Bool) → value_fault raw (Int n) ≡ None
        no-reference true = refl
        no-reference false = refl

        asked : refusal_of (graph_of p) 1 (Store obj f (operands.Int n)) ≡ operand_fault (operands.Int n)
        asked =
            own-refusal (Store obj f (operands.Int n)) here own
            ∙ ap (λ (o : Option Refusal). first_of o (first_of (value_fault (refers_to_raw (graph_of p) (root_value (graph_of p) obj)) (Int n)) (operand_fault (operands.Int n)))) (field-there (root_value (graph_of p) obj) is)
            ∙ ap (λ (o : Option Refusal). first_of o (operand_fault (operands.Int n))) (no-reference (refers_to_raw (graph_of p) (root_value (graph_of p) obj)))

        by-test : (t : Bool) → is_whole n ≡ t
            → IsOk (step p 1 (Store obj f (operands.Int n))).1 ⊎ (((step p 1 (Store obj f (operands.Int n))).1 ≡ Err IntRange) × ¬ IsWhole n)
        by-test true whole =
            inl (ap is_ok (accepted (Store obj f (operands.Int n)) (asked ∙ ap (λ (t : Bool). if t then None else Some IntRange) whole)))
        by-test false not_whole =
            inr (refused (Store obj f (operands.Int n)) IntRange (asked ∙ ap (λ (t : Bool). if t then None else Some IntRange) not_whole), has-no-word n not_whole)

  -- only what it reads may be wrong with it
  reading-refusal : (f : ℕ) → refusal_of (graph_of p) 1 (reading f) ≡ fault_in (graph_of p) (reading f)
  reading-refusal f = own-refusal (reading f) refl refl

  -- where the root is nil nothing is read
  pub nothing-read : (f : ℕ) → root_value (graph_of p) top_segment ≡ Nil → (step p 1 (reading f)).1 ≡ Err NotObject
  unfolding step fault_in
  nothing-read f is =
      let why : refusal_of (graph_of p) 1 (reading f) ≡ Some NotObject = reading-refusal f ∙ ap (λ (v : Value). field_fault (value_fields (graph_of p) v) f) is in
      ap (λ (o : Option Refusal). (step_unless o p (reading f)).1) why

  -- what a field holds is read
  pub field-read : (a f : ℕ) (v : Value) → root_value (graph_of p) top_segment ≡ Ref a → HoldsField (graph_of p) a f v
      → (step p 1 (reading f)).1 ≡ Ok (reply_of (graph_of p) v)
  unfolding step fault_in reply_to
  field-read a f v is (fields, there, holds) =
      let within : f < length fields = slice_get_within fields f v holds in
      let here : value_fields (graph_of p) (root_value (graph_of p) top_segment) ≡ Some fields = ap (λ (w : Value). value_fields (graph_of p) w) is ∙ there in
      let none : refusal_of (graph_of p) 1 (reading f) ≡ None =
      reading-refusal f ∙ ap (λ (o : Option (List Value)). field_fault o f) here
      ∙ ap (λ (t : Bool). if t then None else Some NoField) (lt-ltb f (length fields) within) in
      let value : field_value (value_fields (graph_of p) (root_value (graph_of p) top_segment)) f ≡ v =
      ap (λ (o : Option (List Value)). field_value o f) here ∙ get_or_from_slice_get fields f v Nil holds in
      ap (λ (o : Option Refusal). (step_unless o p (reading f)).1) none
      ∙ ap (λ (w : Value). Ok (reply_of (graph_of p) w)) value
