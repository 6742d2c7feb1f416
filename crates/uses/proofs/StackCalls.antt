-- Calls on a heap that grows that holds a stack.
use Rattle.std.proofs.Common.{◌≡◌, ◌⊎◌, ℕ, ℤ, ◌+◌, ◌-◌, ◌<◌, ◌≤◌, Bool, true, false, List, [], ◌∷◌, Option, Result, Ok, Err, refl, sym, ap, subst, ◌∙◌, inl, inr, arith, length}
use Rattle.std.specs.Prelude.{IsOk, is_ok, is_some, IsTrue}
use Rattle.std.proofs.lemmas.Bool.{true≢false}
use Rattle.rh_layout.specs.Refusal.{is_limit}
use Rattle.rh_layout.specs.Shape.{shape_of}
use Rattle.rh_layout.specs.Word.{IsWhole}
use Rattle.rh_layout.specs.declared.value.Value.{Value}
use Rattle.rh_layout.specs.declared.value.Value.TheVariants.{Nil, Int, Ref}
use Rattle.rh_layout.specs.declared.command.Command.{Command}
use Rattle.rh_layout.specs.declared.command.Command.TheVariants.{Alloc, Load, Store, Copy, Drop}
use Rattle.rh_layout.specs.declared.command.Operand.TheVariants as operands
use Rattle.rh_layout.specs.declared.command.Reply.{Reply}
use Rattle.rh_layout.specs.declared.command.Reply.TheVariants as replies
use Rattle.rh_layout.specs.declared.command.RootId.{RootId}
use Rattle.rh_layout.specs.declared.refusal.Refusal.{Refusal}
use Rattle.rh_layout.specs.declared.refusal.Refusal.TheVariants.{IntRange, NotObject}
use Rattle.rh_model.specs.Effects.{FieldTakes, HoldsField, IsWellFormedPlain, LoadsField, MakesObject, RootTakes, StoresField, TellsValue}
use Rattle.rh_model.specs.Graph.{Graph, reply_of, root_value}
use Rattle.rh_model.specs.Plain.{PlainHeap, graph_of, step}
use Rattle.rh_mutator.specs.Commands.{AnswersAs, ChangesRoots, LimitHolds, is_limit_answer}
use Rattle.rh_mutator.specs.LoadingAll.{number_told}
use Rattle.rh_mutator.specs.Mutator.{StandsFor}
use Rattle.rh_pace.specs.Paced.{PacedState, paced_step}
use Rattle.rh_growing.specs.Calls.{IsGrowingCall}
use Rattle.rh_growing.specs.Growing.{GrowingState, growing_step}
use Rattle.uses.specs.Stack.{AreStacked, IsOfPush, IsStack, MayRefuse, first_of, rest_of, top_segment}
use Rattle.uses.proofs.Stacks.{IsBegun, begun, begun-done, begun-on, begun-takes, filled-segment, first-field, full-top, last-there, new_segment, other-takes, plain-in-order, popped-one, popped-segment, stored-above}
use Rattle.uses.proofs.Allowed.{field-read, nothing-read, number-stored, reading, segment-linked, segment-made, segment-stands}

-- A heap that grows stands for a plain heap for two owners with 256 slots each, of which this holds.
pub record IsOn (s : GrowingState) (P : PlainHeap → Type 0) : Type 0 where
  pub plain : PlainHeap
  pub stands : StandsFor s.paced.heap.mutators plain
  pub well_formed : IsWellFormedPlain plain
  pub owners : plain.owners ≡ 2
  pub slots : plain.slots ≡ 256
  pub holds : P plain

-- these numbers are stacked on it
abbrev pub Holds : ℕ → List ℤ → PlainHeap → Type 0
Holds top numbers p = AreStacked (graph_of p) (root_value (graph_of p) top_segment) top numbers

pub from-stack : (s : GrowingState) (top : ℕ) (numbers : List ℤ) → IsStack s top numbers → IsOn s (Holds top numbers)
from-stack s top numbers stack = record {
  plain = stack.plain;
  stands = stack.stands;
  well_formed = stack.well_formed;
  owners = stack.owners;
  slots = stack.slots;
  holds = stack.stacked;
}

pub to-stack : (s : GrowingState) (top : ℕ) (numbers : List ℤ) → IsOn s (Holds top numbers) → IsStack s top numbers
to-stack s top numbers on = record {
  plain = on.plain;
  stands = on.stands;
  well_formed = on.well_formed;
  owners = on.owners;
  slots = on.slots;
  stacked = on.holds;
}

pub on-so : (s : GrowingState) (P Q : PlainHeap → Type 0) → ((p : PlainHeap) → P p → Q p) → IsOn s P → IsOn s Q
on-so s P Q so on = record {
  plain = on.plain;
  stands = on.stands;
  well_formed = on.well_formed;
  owners = on.owners;
  slots = on.slots;
  holds = so on.plain on.holds;
}

-- what a plain heap keeps by any command
abbrev pub StayFormed : Type 0
StayFormed = (p : PlainHeap) → IsWellFormedPlain p → (owner : ℕ) (command : Command) → IsWellFormedPlain (step p owner command).0

plain-answer : (reply : Reply) (told : Result Reply Refusal) → AnswersAs (Ok reply) told → told ≡ Ok reply
plain-answer reply told (inl (met, same)) = sym same
plain-answer reply told (inr (limited, ok)) = absurd (true≢false (sym limited))

-- one plain heap has as many owners and slots as another
abbrev pub IsAsLarge : PlainHeap → PlainHeap → Type 0
IsAsLarge p q = (q.owners ≡ p.owners) × (q.slots ≡ p.slots)

module _ (formed : StayFormed) (given : Bool) (old new : GrowingState) (command : Command) where
  -- An accepted command makes of the heap what it makes of the plain one.
  pub on-after : (reply : Reply) → IsGrowingCall given old new 1 command (Ok reply) → (P Q : PlainHeap → Type 0)
      → ((p q : PlainHeap) → IsWellFormedPlain p → step p 1 command ≡ (q, Ok reply) → P p → IsAsLarge p q × Q q)
      → IsOn old P → IsOn new Q
  on-after reply call P Q effect on =
      let done = step on.plain 1 command in
      let told = call.transparent on.plain on.stands in
      let same : done.1 ≡ Ok reply = plain-answer reply done.1 told.0 in
      let made = effect on.plain done.0 on.well_formed (λ k. (done.0, same k)) on.holds in
      record {
        plain = done.0;
        stands = told.1;
        well_formed = formed on.plain on.well_formed 1 command;
        owners = made.0.0 ∙ on.owners;
        slots = made.0.1 ∙ on.slots;
        holds = made.1;
      }

  -- a refused one leaves it
  pub on-refused : (why : Refusal) → IsGrowingCall given old new 1 command (Err why) → (P : PlainHeap → Type 0) → IsOn old P → IsOn new P
  on-refused why call P on = subst (λ (s : GrowingState). IsOn s P) (sym call.refused) on

-- A new segment is begun beside a stack; its first field refers to what it is to stand on; the next one has the number.
abbrev pub Begun : List ℤ → PlainHeap → Type 0
Begun numbers p = (name : ℕ) × (under : Value) × IsBegun (graph_of p) name under numbers

abbrev pub Linked : List ℤ → PlainHeap → Type 0
Linked numbers p = (name : ℕ) × (under : Value) × IsBegun (graph_of p) name under numbers × HoldsField (graph_of p) name 0 under

abbrev pub Filled : ℤ → List ℤ → PlainHeap → Type 0
Filled n numbers p =
    (name : ℕ) × (under : Value) × IsBegun (graph_of p) name under numbers × HoldsField (graph_of p) name 0 under × HoldsField (graph_of p) name 1 (Int n)

begun-holds : (g : Graph) (name : ℕ) (under : Value) (numbers : List ℤ) → IsBegun g name under numbers → AreStacked g (root_value g top_segment) 127 numbers
begun-holds g name under numbers b = subst (λ (v : Value). AreStacked g v 127 numbers) (sym b.top) b.stacked

-- so long the stack is what it was
pub holds-begun : (numbers : List ℤ) (p : PlainHeap) → Begun numbers p → Holds 127 numbers p
holds-begun numbers p (name, under, b) = begun-holds (graph_of p) name under numbers b

pub holds-linked : (numbers : List ℤ) (p : PlainHeap) → Linked numbers p → Holds 127 numbers p
holds-linked numbers p (name, under, b, first) = begun-holds (graph_of p) name under numbers b

pub holds-filled : (n : ℤ) (numbers : List ℤ) (p : PlainHeap) → Filled n numbers p → Holds 127 numbers p
holds-filled n numbers p (name, under, b, first, second) = begun-holds (graph_of p) name under numbers b

-- The laws of the plain heap's commands.
abbrev pub Allocs : Type 0
Allocs = (p q : PlainHeap) → IsWellFormedPlain p → (owner : ℕ) (dst : RootId) (fields : ℕ) (reply : Reply) → step p owner (Alloc dst fields) ≡ (q, Ok reply)
    → (reply ≡ replies.Object fields) × MakesObject (graph_of p) (graph_of q) dst (shape_of fields false)

abbrev pub StoresNumbers : Type 0
StoresNumbers = (p q : PlainHeap) → IsWellFormedPlain p → (owner : ℕ) (obj : RootId) (field : ℕ) (n : ℤ) (reply : Reply)
    → step p owner (Store obj field (operands.Int n)) ≡ (q, Ok reply) → (reply ≡ replies.Done) × StoresField (graph_of p) (graph_of q) obj field (Int n)

abbrev pub StoresRoots : Type 0
StoresRoots = (p q : PlainHeap) → IsWellFormedPlain p → (owner : ℕ) (obj : RootId) (field : ℕ) (src : RootId) (reply : Reply)
    → step p owner (Store obj field (operands.Root src)) ≡ (q, Ok reply) → (reply ≡ replies.Done) × StoresField (graph_of p) (graph_of q) obj field (root_value (graph_of p) src)

abbrev pub Copies : Type 0
Copies = (p q : PlainHeap) → IsWellFormedPlain p → (owner : ℕ) (dst src : RootId) (reply : Reply) → step p owner (Copy dst src) ≡ (q, Ok reply)
    → RootTakes (graph_of p) (graph_of q) dst (root_value (graph_of p) src) × TellsValue (graph_of p) reply (root_value (graph_of p) src)

abbrev pub Drops : Type 0
Drops = (p q : PlainHeap) → IsWellFormedPlain p → (owner : ℕ) (root : RootId) (reply : Reply) → step p owner (Drop root) ≡ (q, Ok reply)
    → (reply ≡ replies.Done) × RootTakes (graph_of p) (graph_of q) root Nil

abbrev pub Loads : Type 0
Loads = (p q : PlainHeap) → IsWellFormedPlain p → (owner : ℕ) (dst src : RootId) (field : ℕ) (reply : Reply) → step p owner (Load dst src field) ≡ (q, Ok reply)
    → LoadsField (graph_of p) (graph_of q) dst src field reply

-- What each command of a stack makes.
pub allocated : Allocs → (reply : Reply) (numbers : List ℤ) (p q : PlainHeap) → IsWellFormedPlain p → step p 1 (Alloc new_segment 128) ≡ (q, Ok reply) → Holds 127 numbers p
    → IsAsLarge p q × Begun numbers q
allocated law reply numbers p q formed is holds =
    let made = (law p q formed 1 new_segment 128 reply is).1 in
    ((made.owners, made.slots), (made.name, root_value (graph_of p) top_segment, begun (graph_of p) (graph_of q) (plain-in-order p) made numbers holds))

pub linked : StoresRoots → (reply : Reply) (numbers : List ℤ) (p q : PlainHeap) → IsWellFormedPlain p → step p 1 (Store new_segment 0 (operands.Root top_segment)) ≡ (q, Ok reply)
    → Begun numbers p → IsAsLarge p q × Linked numbers q
linked law reply numbers p q formed is (name, under, b) =
    let stores = (law p q formed 1 new_segment 0 top_segment reply is).1 in
    let takes : FieldTakes (graph_of p) (graph_of q) name 0 under =
    subst (λ (v : Value). FieldTakes (graph_of p) (graph_of q) name 0 v) b.top (begun-takes (graph_of p) (graph_of q) name under numbers b 0 (root_value (graph_of p) top_segment) stores) in
    ((takes.owners, takes.slots), (name, under, begun-on (graph_of p) (graph_of q) name under numbers b 0 under takes, takes.field))

pub filled : StoresNumbers → (reply : Reply) (n : ℤ) (numbers : List ℤ) (p q : PlainHeap) → IsWellFormedPlain p → step p 1 (Store new_segment 1 (operands.Int n)) ≡ (q, Ok reply)
    → Linked numbers p → IsAsLarge p q × Filled n numbers q
filled law reply n numbers p q formed is (name, under, b, first) =
    let stores = (law p q formed 1 new_segment 1 n reply is).1 in
    let takes = begun-takes (graph_of p) (graph_of q) name under numbers b 1 (Int n) stores in
    let kept = (takes.other_fields name 0 under (λ same again. omega (arith, again))).0 first in
    ((takes.owners, takes.slots), (name, under, begun-on (graph_of p) (graph_of q) name under numbers b 1 (Int n) takes, kept, takes.field))

pub stood : Copies → (reply : Reply) (n : ℤ) (numbers : List ℤ) (p q : PlainHeap) → IsWellFormedPlain p → step p 1 (Copy top_segment new_segment) ≡ (q, Ok reply)
    → Filled n numbers p → IsAsLarge p q × Holds 1 (n ∷ numbers) q
stood law reply n numbers p q formed is (name, under, b, first, second) =
    let takes = (law p q formed 1 top_segment new_segment reply is).0 in
    ((takes.owners, takes.slots), begun-done (graph_of p) (graph_of q) name under numbers b n first second takes)

pub let-go : Drops → (reply : Reply) (top : ℕ) (numbers : List ℤ) (p q : PlainHeap) → IsWellFormedPlain p → step p 1 (Drop new_segment) ≡ (q, Ok reply)
    → Holds top numbers p → IsAsLarge p q × Holds top numbers q
let-go law reply top numbers p q formed is holds =
    let takes = (law p q formed 1 new_segment reply is).1 in
    ((takes.owners, takes.slots), other-takes (graph_of p) (graph_of q) Nil takes top numbers holds)

pub joined : StoresNumbers → (reply : Reply) (top : ℕ) → top < 127 → (n : ℤ) (numbers : List ℤ) (p q : PlainHeap) → IsWellFormedPlain p
    → step p 1 (Store top_segment (top + 1) (operands.Int n)) ≡ (q, Ok reply) → Holds top numbers p → IsAsLarge p q × Holds (top + 1) (n ∷ numbers) q
joined law reply top low n numbers p q formed is holds =
    let stores = (law p q formed 1 top_segment (top + 1) n reply is).1 in
    let takes = stores.2 in
    ((takes.owners, takes.slots), stored-above (graph_of p) (graph_of q) top n numbers low holds stores)

pub left : Loads → (reply : Reply) (top : ℕ) → top ≤ 1 → (n : ℤ) (numbers : List ℤ) (p q : PlainHeap) → IsWellFormedPlain p
    → step p 1 (Load top_segment top_segment 0) ≡ (q, Ok reply) → Holds top (n ∷ numbers) p → IsAsLarge p q × Holds 127 numbers q
left law reply top few n numbers p q formed is holds =
    let loads = law p q formed 1 top_segment top_segment 0 reply is in
    let takes = loads.4 in
    ((takes.owners, takes.slots), popped-segment (graph_of p) (graph_of q) top n numbers few holds loads.0 loads.1 loads.2 loads.3 takes)

-- Where what a command does is let go, the heap holds a stack by either answer.
pub dropped : StayFormed → Drops → (given : Bool) (old new : GrowingState) (told : Result Reply Refusal) → IsGrowingCall given old new 1 (Drop new_segment) told
    → (top : ℕ) (numbers : List ℤ) → IsOn old (Holds top numbers) → IsOn new (Holds top numbers)
dropped formed law given old new (Ok reply) call top numbers on =
    on-after formed given old new (Drop new_segment) reply call (Holds top numbers) (Holds top numbers) (let-go law reply top numbers) on
dropped formed law given old new (Err why) call top numbers on = on-refused formed given old new (Drop new_segment) why call (Holds top numbers) on

-- A store of a number is one of the same number.
pub stored-as : (given : Bool) (old new : GrowingState) (obj : RootId) (field : ℕ) (m n : ℤ) (told : Result Reply Refusal) → m ≡ n
    → IsGrowingCall given old new 1 (Store obj field (operands.Int m)) told → IsGrowingCall given old new 1 (Store obj field (operands.Int n)) told
stored-as given old new obj field m n told same call = subst (λ (k : ℤ). IsGrowingCall given old new 1 (Store obj field (operands.Int k)) told) same call

-- what a refused call leaves
pub stack-refused : (given : Bool) (old new : GrowingState) (command : Command) (why : Refusal) → IsGrowingCall given old new 1 command (Err why)
    → (top : ℕ) (numbers : List ℤ) → IsStack old top numbers → IsStack new top numbers
stack-refused given old new command why call top numbers stack = subst (λ (s : GrowingState). IsStack s top numbers) (sym call.refused) stack

pub stack-full : (s : GrowingState) (top : ℕ) (numbers : List ℤ) → 127 ≤ top → IsStack s top numbers → top ≡ 127
stack-full s top numbers high stack = full-top (graph_of stack.plain) (root_value (graph_of stack.plain) top_segment) top numbers high stack.stacked

-- A new segment is begun, is linked and filled, and stands on the others.
module _ (formed : StayFormed) (given : Bool) (old new : GrowingState) (reply : Reply) (numbers : List ℤ) where
  pub on-allocated : Allocs → IsGrowingCall given old new 1 (Alloc new_segment 128) (Ok reply) → (top : ℕ) → 127 ≤ top → IsStack old top numbers → IsOn new (Begun numbers)
  on-allocated law call top high stack =
      let full = stack-full old top numbers high stack in
      let on : IsOn old (Holds 127 numbers) = from-stack old 127 numbers (subst (λ (t : ℕ). IsStack old t numbers) full stack) in
      on-after formed given old new (Alloc new_segment 128) reply call (Holds 127 numbers) (Begun numbers) (allocated law reply numbers) on

  pub on-linked : StoresRoots → IsGrowingCall given old new 1 (Store new_segment 0 (operands.Root top_segment)) (Ok reply) → IsOn old (Begun numbers) → IsOn new (Linked numbers)
  on-linked law call on = on-after formed given old new (Store new_segment 0 (operands.Root top_segment)) reply call (Begun numbers) (Linked numbers) (linked law reply numbers) on

  pub on-filled : StoresNumbers → (n : ℤ) → IsGrowingCall given old new 1 (Store new_segment 1 (operands.Int n)) (Ok reply) → IsOn old (Linked numbers) → IsOn new (Filled n numbers)
  on-filled law n call on = on-after formed given old new (Store new_segment 1 (operands.Int n)) reply call (Linked numbers) (Filled n numbers) (filled law reply n numbers) on

  pub on-stood : Copies → (n : ℤ) → IsGrowingCall given old new 1 (Copy top_segment new_segment) (Ok reply) → IsOn old (Filled n numbers) → IsOn new (Holds 1 (n ∷ numbers))
  on-stood law n call on = on-after formed given old new (Copy top_segment new_segment) reply call (Filled n numbers) (Holds 1 (n ∷ numbers)) (stood law reply n numbers) on

  pub on-joined : StoresNumbers → (n : ℤ) (top : ℕ) → top < 127 → IsGrowingCall given old new 1 (Store top_segment (top + 1) (operands.Int n)) (Ok reply) → IsStack old top numbers → IsStack new (top + 1) (n ∷ numbers)
  on-joined law n top low call stack =
      to-stack new (top + 1) (n ∷ numbers)
      (on-after formed given old new (Store top_segment (top + 1) (operands.Int n)) reply call (Holds top numbers) (Holds (top + 1) (n ∷ numbers)) (joined law reply top low n numbers)
      (from-stack old top numbers stack))

-- Where such a heap is full, a stack of the last field is one of that field.
pub stack-back : (s : GrowingState) (top : ℕ) (numbers : List ℤ) → top ≡ 127 → IsOn s (Holds 127 numbers) → IsStack s top numbers
stack-back s top numbers full on = subst (λ (t : ℕ). IsStack s t numbers) (sym full) (to-stack s 127 numbers on)

-- What no limit refuses is answered as the plain heap does.
answered-plain : (told plain : Result Reply Refusal) → is_limit_answer told ≡ false → AnswersAs told plain → told ≡ plain
answered-plain told plain none (inl (met, same)) = same
answered-plain told plain none (inr (limited, ok)) = absurd (true≢false (sym limited ∙ none))

-- no limit refuses what changes roots alone
abbrev pub MeetNone : Type 0
MeetNone = (s : PacedState) (owner : ℕ) (command : Command) → ChangesRoots command → is_limit_answer (paced_step s owner command).1 ≡ false

same-answer : (given : Bool) (s : GrowingState) (owner : ℕ) (command : Command) → (growing_step given s owner command).1 ≡ (paced_step s.paced owner command).1
unfolding growing_step
same-answer given s owner command = refl

-- The segment on top goes, whose only number was taken.
pub on-left : StayFormed → Loads → MeetNone → (given : Bool) (old new : GrowingState) (told : Result Reply Refusal) → IsGrowingCall given old new 1 (Load top_segment top_segment 0) told
    → (top : ℕ) → top ≤ 1 → (n : ℤ) (numbers : List ℤ) → IsStack old top (n ∷ numbers) → IsStack new 127 numbers
on-left formed law none given old new told call top few n numbers stack =
    let leaving : Command = Load top_segment top_segment 0 in
    let loaded = first-field (graph_of stack.plain) (root_value (graph_of stack.plain) top_segment) top n numbers few stack.stacked in
    let read = field-read stack.plain stack.owners stack.slots loaded.0 0 loaded.1 loaded.2 loaded.3 in
    let unlimited : is_limit_answer told ≡ false = ap is_limit_answer (call.answer ∙ same-answer given old 1 leaving) ∙ none old.paced 1 leaving tt in
    let accepted = answered-plain told (step stack.plain 1 leaving).1 unlimited (call.transparent stack.plain stack.stands).0 ∙ read in
    let reply : Reply = reply_of (graph_of stack.plain) loaded.1 in
    let called : IsGrowingCall given old new 1 leaving (Ok reply) = subst (λ (t : Result Reply Refusal). IsGrowingCall given old new 1 leaving t) accepted call in
    to-stack new 127 numbers
    (on-after formed given old new leaving reply called (Holds top (n ∷ numbers)) (Holds 127 numbers) (left law reply top few n numbers) (from-stack old top (n ∷ numbers) stack))

-- What is read of the top of a stack, in the field of its last number.
pub read-none : (s : GrowingState) (top : ℕ) (told : Result Reply Refusal) → ((p : PlainHeap) → StandsFor s.paced.heap.mutators p → told ≡ (step p 1 (reading top)).1)
    → IsStack s top [] → told ≡ Err NotObject
read-none s top told peeked stack = peeked stack.plain stack.stands ∙ nothing-read stack.plain stack.owners stack.slots top stack.stacked.0

pub read-last : (s : GrowingState) (top : ℕ) (n : ℤ) (numbers : List ℤ) (told : Result Reply Refusal)
    → ((p : PlainHeap) → StandsFor s.paced.heap.mutators p → told ≡ (step p 1 (reading top)).1) → IsStack s top (n ∷ numbers) → told ≡ Ok (replies.Int n)
read-last s top n numbers told peeked stack =
    let last = last-there (graph_of stack.plain) (root_value (graph_of stack.plain) top_segment) top n numbers stack.stacked in
    peeked stack.plain stack.stands ∙ field-read stack.plain stack.owners stack.slots last.0 top (Int n) last.1 last.3

-- The others are those below it, where there is one in the segment.
pub stack-below : (s : GrowingState) (top : ℕ) (n : ℤ) (numbers : List ℤ) → 1 < top → IsStack s top (n ∷ numbers) → IsStack s (top - 1) numbers
stack-below s top n numbers more stack = record {
  plain = stack.plain;
  stands = stack.stands;
  well_formed = stack.well_formed;
  owners = stack.owners;
  slots = stack.slots;
  stacked = popped-one (graph_of stack.plain) (root_value (graph_of stack.plain) top_segment) top n numbers more stack.stacked;
}

module _ (s : GrowingState) (top : ℕ) (answer : Result Reply Refusal) (peeked : (p : PlainHeap) → StandsFor s.paced.heap.mutators p → answer ≡ (step p 1 (reading top)).1)
    (told : Option ℤ) (tells : told ≡ number_told answer) where
  -- What is read is the last number.
  pub popped-number : (numbers : List ℤ) → IsStack s top numbers → told ≡ first_of numbers
  popped-number [] stack = tells ∙ ap number_told (read-none s top answer peeked stack)
  popped-number (n ∷ ns) stack = tells ∙ ap number_told (read-last s top n ns answer peeked stack)

  -- Where there is one, what takes it leaves the others.
  pub popped-some : is_some told ≡ true → (new : GrowingState) (after : ℕ) → ((n : ℤ) (ns : List ℤ) → IsStack s top (n ∷ ns) → IsStack new after ns)
      → (numbers : List ℤ) → IsStack s top numbers → IsStack new after (rest_of numbers)
  popped-some some new after takes [] stack = absurd (true≢false (sym some ∙ ap is_some (popped-number [] stack)))
  popped-some some new after takes (n ∷ ns) stack = takes n ns stack

  pub popped-none : is_some told ≡ false → (numbers : List ℤ) → IsStack s top numbers → IsStack s top (rest_of numbers)
  popped-none none [] stack = stack
  popped-none none (n ∷ ns) stack = absurd (true≢false (sym (ap is_some (popped-number (n ∷ ns) stack)) ∙ none))

-- Why a number isn't pushed.
refused-by : (told : Result Reply Refusal) (why : Refusal) → AnswersAs (Err why) told → IsOk told → IsTrue (is_limit why)
refused-by told why (inl (met, same)) ok = absurd (true≢false (sym ok ∙ sym (ap is_ok same)))
refused-by told why (inr (limited, accepts)) ok = limited

abbrev refusal_or : Refusal → Result Reply Refusal → Refusal
refusal_or other (Ok reply) = other
refusal_or other (Err why) = why

module _ (given : Bool) (old new : GrowingState) (why : Refusal) (top : ℕ) (n : ℤ) (numbers : List ℤ) where
  -- A limit that refuses a command is met, and nothing has changed.
  limit-met : (command : Command) → IsOfPush top command → IsGrowingCall given old new 1 command (Err why) → IsTrue (is_limit why) → MayRefuse new top n why
  limit-met command of call is =
      inl (command, of, subst (λ (s : GrowingState). LimitHolds s.paced.heap.mutators command why) (sym call.refused) (call.limit why refl is))

  refused-or : (command : Command) → IsOfPush top command → IsGrowingCall given old new 1 command (Err why) → (told : Result Reply Refusal) → AnswersAs (Err why) told → IsOk told ⊎ ((told ≡ Err IntRange) × ¬ IsWhole n)
      → MayRefuse new top n why
  refused-or command of call told answers (inl ok) = limit-met command of call (refused-by told why answers ok)
  refused-or command of call told (inl (met, same)) (inr (range, none)) = inr (ap (refusal_or why) (same ∙ range), none)
  refused-or command of call told (inr (limited, ok)) (inr (range, none)) = absurd (true≢false (sym ok ∙ ap is_ok range))

  pub why-allocated : 127 ≤ top → IsGrowingCall given old new 1 (Alloc new_segment 128) (Err why) → IsStack old top numbers → MayRefuse new top n why
  why-allocated full call stack =
      limit-met (Alloc new_segment 128) (refl, full) call
      (refused-by (step stack.plain 1 (Alloc new_segment 128)).1 why (call.transparent stack.plain stack.stands).0 (segment-made stack.plain stack.owners stack.slots))

  pub why-linked : IsGrowingCall given old new 1 (Store new_segment 0 (operands.Root top_segment)) (Err why) → IsOn old (Begun numbers) → MayRefuse new top n why
  why-linked call on =
      let b = on.holds.2 in
      let within : 0 < length b.count.0 = let count = b.count.2 in omega (arith, count) in
      let ok = segment-linked on.plain on.owners on.slots on.holds.0 0 b.count.0 b.count.1 within b.root b.kind in
      limit-met (Store new_segment 0 (operands.Root top_segment)) tt call
      (refused-by (step on.plain 1 (Store new_segment 0 (operands.Root top_segment))).1 why (call.transparent on.plain on.stands).0 ok)

  pub why-filled : IsGrowingCall given old new 1 (Store new_segment 1 (operands.Int n)) (Err why) → IsOn old (Linked numbers) → MayRefuse new top n why
  why-filled call on =
      let b = on.holds.2 in
      let within : 1 < length b.count.0 = let count = b.count.2 in omega (arith, count) in
      let stored = number-stored on.plain on.owners on.slots on.holds.0 1 b.count.0 b.count.1 within new_segment refl refl b.root n in
      refused-or (Store new_segment 1 (operands.Int n)) tt call (step on.plain 1 (Store new_segment 1 (operands.Int n))).1 (call.transparent on.plain on.stands).0 stored

  -- no limit refuses what changes roots alone
  pub why-stood : MeetNone → IsGrowingCall given old new 1 (Copy top_segment new_segment) (Err why) → IsOn old (Filled n numbers) → MayRefuse new top n why
  why-stood none call on =
      let standing : Command = Copy top_segment new_segment in
      let limited = refused-by (step on.plain 1 standing).1 why (call.transparent on.plain on.stands).0 (segment-stands on.plain on.owners on.slots) in
      let unlimited : is_limit why ≡ false = ap is_limit_answer (call.answer ∙ same-answer given old 1 standing) ∙ none old.paced 1 standing tt in
      absurd (true≢false (sym limited ∙ unlimited))

  pub why-joined : top < 127 → IsGrowingCall given old new 1 (Store top_segment (top + 1) (operands.Int n)) (Err why) → IsStack old top numbers → MayRefuse new top n why
  why-joined low call stack =
      let segment = filled-segment (graph_of stack.plain) (root_value (graph_of stack.plain) top_segment) top numbers low stack.stacked in
      let count = segment.2 in
      let within : top + 1 < length count.0 = let long = count.2 in omega (arith, long, low) in
      let stored = number-stored stack.plain stack.owners stack.slots segment.0 (top + 1) count.0 count.1 within top_segment refl refl segment.1 n in
      refused-or (Store top_segment (top + 1) (operands.Int n)) tt call (step stack.plain 1 (Store top_segment (top + 1) (operands.Int n))).1 (call.transparent stack.plain stack.stands).0 stored
