-- A plain heap accepts each call of a queue.
use Rattle.std.proofs.Common.{◌≡◌, ℕ, zero, suc, ◌+◌, ◌<◌, ◌≤◌, Bool, false, List, [], ◌∷◌, ◌++◌, length, Option, Some, None, Result, Ok, refl, sym, ap, subst, ◌∙◌, arith}
use Rattle.std.specs.Prelude.{All, IsOk, is_ok, slice_get, slice_index_or}
use Rattle.std.proofs.lemmas.List.Elements.{All-cons, All-nil}
use Rattle.rh_layout.specs.Command.{value_fault}
use Rattle.rh_layout.specs.Refusing.{first_of}
use Rattle.rh_layout.specs.declared.value.Value.{Value}
use Rattle.rh_layout.specs.declared.value.Value.TheVariants.{Nil, Ref}
use Rattle.rh_layout.specs.declared.command.Command.{Command}
use Rattle.rh_layout.specs.declared.command.Command.TheVariants.{Alloc, Load, Store, Copy, Drop}
use Rattle.rh_layout.specs.declared.command.Operand.TheVariants.{Root}
use Rattle.rh_layout.specs.declared.command.Reply.{Reply}
use Rattle.rh_layout.specs.declared.command.Reply.TheVariants.{Done}
use Rattle.rh_layout.specs.declared.refusal.Refusal.{Refusal}
use Rattle.rh_model.specs.Graph.{fault_in, field_fault, field_value, refusal_of, reply_to}
use Rattle.rh_model.specs.Plain.{PlainHeap, PlainObject, empty_plain, field_lists, kinds, objects_with_field, plain_after_command, step, step_unless}
use Rattle.rh_pace.specs.PlainReplies.{plain_replies}
use Rattle.rh_pace.specs.Worked.{one_joins, one_leaves, queue_calls, slot_of_one, times}

-- a plain heap accepts each command of a list, one after the other
abbrev AreAccepted : PlainHeap → List (ℕ × Command) → Type 0
AreAccepted p [] = Unit {0}
AreAccepted p (call ∷ rest) = IsOk (step p call.0 call.1).1 × AreAccepted (step p call.0 call.1).0 rest

-- so each reply says
accepted-replies : (calls : List (ℕ × Command)) (p : PlainHeap) → AreAccepted p calls → All (λ reply. IsOk reply) (plain_replies p calls)
accepted-replies [] p accepted = All-nil (λ (reply : Result Reply Refusal). IsOk reply)
accepted-replies (call ∷ rest) p accepted =
    let done = step p call.0 call.1 in
    All-cons (λ (reply : Result Reply Refusal). IsOk reply) done.1 (plain_replies done.0 rest) accepted.0 (accepted-replies rest done.0 accepted.1)

-- a cell with a cell behind it, or nil
abbrev cell_before : Value → PlainObject
cell_before next = record { raw = false; fields = Nil ∷ next ∷ [] }

-- a cell with this name and so many more: each has the next one behind it, the last one none
abbrev cells : ℕ → ℕ → List PlainObject
cells first zero = cell_before Nil ∷ []
cells first (suc more) = cell_before (Ref (suc first)) ∷ cells (suc first) more

-- with one that none is linked to
abbrev with_loose : ℕ → ℕ → List PlainObject
with_loose first more = cells first more ++ cell_before Nil ∷ []

length-cells : (first more : ℕ) → length (cells first more) ≡ suc more
length-cells first zero = refl
length-cells first (suc more) = ap suc (length-cells (suc first) more)

inner-cell : (first more i : ℕ) → i < more → slice_get (field_lists (cells first more)) i ≡ Some (Nil ∷ Ref (suc (first + i)) ∷ [])
inner-cell first zero i low = absurd (omega (arith, low))
inner-cell first (suc more) zero low = ap (λ (n : ℕ). Some (Nil ∷ Ref (suc n) ∷ [])) (let same : first ≡ first + 0 = omega arith in same)
inner-cell first (suc more) (suc i) low =
    inner-cell (suc first) more i (omega (arith, low))
    ∙ ap (λ (n : ℕ). Some (Nil ∷ Ref (suc n) ∷ [])) (let same : suc first + i ≡ first + suc i = omega arith in same)

last-cell : (first more : ℕ) → slice_get (field_lists (with_loose first more)) more ≡ Some (Nil ∷ Nil ∷ [])
last-cell first zero = refl
last-cell first (suc more) = last-cell (suc first) more

last-kind : (first more : ℕ) → slice_index_or (kinds (with_loose first more)) more false ≡ false
last-kind first zero = refl
last-kind first (suc more) = last-kind (suc first) more

linked : (first more : ℕ) → objects_with_field (with_loose first more) more 1 (Ref (suc (first + more))) ≡ cells first (suc more)
linked first zero = ap (λ (n : ℕ). cell_before (Ref (suc n)) ∷ cell_before Nil ∷ []) (let same : first + 0 ≡ first = omega arith in same)
linked first (suc more) =
    ap (λ (n : ℕ). cell_before (Ref (suc first)) ∷ objects_with_field (with_loose (suc first) more) more 1 (Ref (suc n))) (let same : first + suc more ≡ suc first + more = omega arith in same)
    ∙ ap (λ (os : List PlainObject). cell_before (Ref (suc first)) ∷ os) (linked (suc first) more)

-- the plain heap whose slots of owner 1 hold these values
abbrev heap_at : Value → Value → Value → List PlainObject → PlainHeap
heap_at head tail new objects = record { owners = 2; slots = 3; roots = Nil ∷ Nil ∷ Nil ∷ head ∷ tail ∷ new ∷ []; objects = objects }

-- the one that holds a queue of these cells
abbrev queue_at : ℕ → ℕ → PlainHeap
queue_at first last = heap_at (Ref first) (Ref last) Nil (cells 0 last)

-- a command of owner 1 is accepted, and makes this of a plain heap
abbrev Makes : PlainHeap → Command → PlainHeap → Type 0
Makes p command q = IsOk (step p 1 command).1 × ((step p 1 command).0 ≡ q)

accepted-next : (p q : PlainHeap) (command : Command) (rest : List (ℕ × Command)) → Makes p command q → AreAccepted q rest → AreAccepted p ((1, command) ∷ rest)
accepted-next p q command rest makes later = (makes.0, subst (λ (r : PlainHeap). AreAccepted r rest) (sym makes.1) later)

module _ (head tail new : Value) (objects : List PlainObject) where
  allocated : Makes (heap_at head tail new objects) (Alloc (slot_of_one 2) 2) (heap_at head tail (Ref (length objects)) (objects ++ cell_before Nil ∷ []))
  unfolding step refusal_of fault_in plain_after_command reply_to
  allocated = (refl, refl)

  copied : Makes (heap_at head tail new objects) (Copy (slot_of_one 1) (slot_of_one 2)) (heap_at head new new objects)
  unfolding step refusal_of fault_in plain_after_command reply_to
  copied = (refl, refl)

  dropped : Makes (heap_at head tail new objects) (Drop (slot_of_one 2)) (heap_at head tail Nil objects)
  unfolding step refusal_of fault_in plain_after_command reply_to
  dropped = (refl, refl)

  module _ (name : ℕ) (v w : Value) (there : slice_get (field_lists objects) name ≡ Some (v ∷ w ∷ [])) where
    abbrev storing : Command
    storing = Store (slot_of_one 1) 1 (Root (slot_of_one 2))

    stored-step : slice_index_or (kinds objects) name false ≡ false → step (heap_at head (Ref name) new objects) 1 storing ≡ (heap_at head (Ref name) new (objects_with_field objects name 1 new), Ok Done)
    unfolding step refusal_of fault_in plain_after_command reply_to
    stored-step kind =
        ap (λ (o : Option (List Value)). step_unless (first_of (field_fault o 1) (first_of (value_fault (slice_index_or (kinds objects) name false) new) None)) (heap_at head (Ref name) new objects) storing) there
        ∙ ap (λ (raw : Bool). step_unless (first_of (value_fault raw new) None) (heap_at head (Ref name) new objects) storing) kind

    stored : slice_index_or (kinds objects) name false ≡ false → Makes (heap_at head (Ref name) new objects) storing (heap_at head (Ref name) new (objects_with_field objects name 1 new))
    stored kind = (ap (λ r. is_ok r.1) (stored-step kind), ap (λ r. r.0) (stored-step kind))

    loaded : Makes (heap_at (Ref name) tail new objects) (Load (slot_of_one 0) (slot_of_one 0) 1) (heap_at w tail new objects)
    unfolding step refusal_of fault_in plain_after_command reply_to
    loaded = (
      ap (λ (o : Option (List Value)). is_ok (step_unless (field_fault o 1) (heap_at (Ref name) tail new objects) (Load (slot_of_one 0) (slot_of_one 0) 1)).1) there,
      ap (λ (o : Option (List Value)). (step_unless (field_fault o 1) (heap_at (Ref name) tail new objects) (Load (slot_of_one 0) (slot_of_one 0) 1)).0) there
          ∙ ap (λ (o : Option (List Value)). heap_at (field_value o 1) tail new objects) there,
    )

module _ (first last : ℕ) (rest : List (ℕ × Command)) where
  new-cell : Makes (queue_at first last) (Alloc (slot_of_one 2) 2) (heap_at (Ref first) (Ref last) (Ref (suc last)) (with_loose 0 last))
  new-cell =
      let made = allocated (Ref first) (Ref last) Nil (cells 0 last) in
      (made.0, made.1 ∙ ap (λ (n : ℕ). heap_at (Ref first) (Ref last) (Ref n) (with_loose 0 last)) (length-cells 0 last))

  new-linked : objects_with_field (with_loose 0 last) last 1 (Ref (suc last)) ≡ cells 0 (suc last)
  new-linked =
      ap (λ (n : ℕ). objects_with_field (with_loose 0 last) last 1 (Ref (suc n))) (let same : last ≡ 0 + last = omega arith in same)
      ∙ linked 0 last

  link-cell : Makes (heap_at (Ref first) (Ref last) (Ref (suc last)) (with_loose 0 last)) (Store (slot_of_one 1) 1 (Root (slot_of_one 2))) (heap_at (Ref first) (Ref last) (Ref (suc last)) (cells 0 (suc last)))
  link-cell =
      let made = stored (Ref first) (Ref last) (Ref (suc last)) (with_loose 0 last) last Nil Nil (last-cell 0 last) (last-kind 0 last) in
      (made.0, made.1 ∙ ap (λ (os : List PlainObject). heap_at (Ref first) (Ref last) (Ref (suc last)) os) new-linked)

  -- one joins
  accepted-joins : AreAccepted (queue_at first (suc last)) rest → AreAccepted (queue_at first last) (one_joins ++ rest)
  accepted-joins later =
      let new = Ref (suc last) in
      let done = cells 0 (suc last) in
      let fourth = accepted-next (heap_at (Ref first) new new done) (queue_at first (suc last)) (Drop (slot_of_one 2)) rest (dropped (Ref first) new new done) later in
      let third = accepted-next (heap_at (Ref first) (Ref last) new done) (heap_at (Ref first) new new done) (Copy (slot_of_one 1) (slot_of_one 2)) ((1, Drop (slot_of_one 2)) ∷ rest) (copied (Ref first) (Ref last) new done) fourth in
      let second = accepted-next (heap_at (Ref first) (Ref last) new (with_loose 0 last)) (heap_at (Ref first) (Ref last) new done) (Store (slot_of_one 1) 1 (Root (slot_of_one 2)))
      ((1, Copy (slot_of_one 1) (slot_of_one 2)) ∷ (1, Drop (slot_of_one 2)) ∷ rest) link-cell third in
      accepted-next (queue_at first last) (heap_at (Ref first) (Ref last) new (with_loose 0 last)) (Alloc (slot_of_one 2) 2)
      ((1, Store (slot_of_one 1) 1 (Root (slot_of_one 2))) ∷ (1, Copy (slot_of_one 1) (slot_of_one 2)) ∷ (1, Drop (slot_of_one 2)) ∷ rest) new-cell second

  next-cell : first < last → slice_get (field_lists (cells 0 last)) first ≡ Some (Nil ∷ Ref (suc first) ∷ [])
  next-cell low = inner-cell 0 last first low ∙ ap (λ (n : ℕ). Some (Nil ∷ Ref (suc n) ∷ [])) (let same : 0 + first ≡ first = omega arith in same)

  -- the first one leaves, where there is another
  accepted-leaves : first < last → AreAccepted (queue_at (suc first) last) rest → AreAccepted (queue_at first last) (one_leaves ++ rest)
  accepted-leaves low later =
      accepted-next (queue_at first last) (queue_at (suc first) last) (Load (slot_of_one 0) (slot_of_one 0) 1) rest
      (loaded (Ref first) (Ref last) Nil (cells 0 last) first Nil (Ref (suc first)) (next-cell low)) later

-- so many times
accepted-turns : (n first last : ℕ) → first ≤ last → AreAccepted (queue_at first last) (times n (one_joins ++ one_leaves))
accepted-turns zero first last ordered = tt
accepted-turns (suc n) first last ordered =
    let rest = times n (one_joins ++ one_leaves) in
    let more = accepted-turns n (suc first) (suc last) (omega (arith, ordered)) in
    accepted-joins first last (one_leaves ++ rest) (accepted-leaves first (suc last) rest (omega (arith, ordered)) more)

accepted-fills : (n last rounds : ℕ) → AreAccepted (queue_at 0 last) (times n one_joins ++ times rounds (one_joins ++ one_leaves))
accepted-fills zero last rounds = accepted-turns rounds 0 last (omega arith)
accepted-fills (suc n) last rounds =
    accepted-joins 0 last (times n one_joins ++ times rounds (one_joins ++ one_leaves)) (accepted-fills n (suc last) rounds)

first-made : Makes (empty_plain 2 3) (Alloc (slot_of_one 0) 2) (heap_at (Ref 0) Nil Nil (cells 0 0))
unfolding step refusal_of fault_in plain_after_command reply_to
first-made = (refl, refl)

first-copied : Makes (heap_at (Ref 0) Nil Nil (cells 0 0)) (Copy (slot_of_one 1) (slot_of_one 0)) (queue_at 0 0)
unfolding step refusal_of fault_in plain_after_command reply_to
first-copied = (refl, refl)

-- The calls of a queue.
queue-accepted : (more rounds : ℕ) → AreAccepted (empty_plain 2 3) (queue_calls more rounds)
queue-accepted more rounds =
    let rest = times more one_joins ++ times rounds (one_joins ++ one_leaves) in
    accepted-next (empty_plain 2 3) (heap_at (Ref 0) Nil Nil (cells 0 0)) (Alloc (slot_of_one 0) 2) ((1, Copy (slot_of_one 1) (slot_of_one 0)) ∷ rest) first-made
    (accepted-next (heap_at (Ref 0) Nil Nil (cells 0 0)) (queue_at 0 0) (Copy (slot_of_one 1) (slot_of_one 0)) rest first-copied (accepted-fills more 0 rounds))

pub queue-replies : (more rounds : ℕ) → All (λ reply. IsOk reply) (plain_replies (empty_plain 2 3) (queue_calls more rounds))
queue-replies more rounds = accepted-replies (queue_calls more rounds) (empty_plain 2 3) (queue-accepted more rounds)
