-- Readings are answered as commands that no limit refuses.
use Rattle.std.proofs.Common.{◌≡◌, ℕ, ℤ, Bool, true, false, List, Option, Some, None, Ok, Err, refl, sym, ap, ◌∙◌}
use Rattle.std.specs.Prelude.{nat_lt, ◌==◌, ◌&&◌, ◌||◌, not, if◌then◌else◌, length}
use Rattle.std.proofs.lemmas.Bool.{eq-eqb, false≢true}
use Rattle.rh_layout.specs.Refusing.{first_of}
use Rattle.rh_layout.specs.Root.{has_root, may_use}
use Rattle.rh_layout.specs.Shape.{reply_of_shape, shape_of}
use Rattle.rh_layout.specs.declared.command.Command.{Command}
use Rattle.rh_layout.specs.declared.command.Command.TheVariants.{Copy, Load}
use Rattle.rh_layout.specs.declared.command.Reply.{Reply}
use Rattle.rh_layout.specs.declared.command.RootId.{RootId}
use Rattle.rh_layout.specs.declared.refusal.Refusal.{Refusal}
use Rattle.rh_layout.specs.declared.refusal.Refusal.TheVariants.{NoRoot, NotYours, NotObject}
use Rattle.rh_layout.specs.declared.value.Value.{Value}
use Rattle.rh_layout.specs.declared.value.Value.TheVariants.{Nil, Int, Ref}
use Rattle.rh_model.specs.Graph.{field_count, field_fault, field_value, refusal_of, fault_in, reply_of, reply_to, root_value, value_fields}
use Rattle.rh_model.specs.Plain.{PlainHeap, graph_of as plain_graph_of, step, step_unless as plain_step_unless}
use Rattle.rh_model.specs.lemmas.SameGraph.{reply_to-same}
use Rattle.rh_mutator.specs.Commands.{limit_of}
use Rattle.rh_mutator.specs.Mutator.{StandsFor, graph_of}
use Rattle.rh_mutator.specs.lemmas.Simulation.{refusal-same}
use Rattle.rh_core.specs.Heap.{HeapState}
use Rattle.rh_core.specs.Commands.{heap_step, heap_step_unless}
use Rattle.rh_pace.specs.Paced.{PacedState, paced_step}
use Rattle.rheap_c.specs.Read.{answer_unless, count_in, field_answer, graph_in, peek_answer, root_answer}

-- a command that no limit refuses is answered by what it asks alone
heap_step_unless-answer : (asked limit : Option Refusal) (h : HeapState) (command : Command) → limit ≡ None
    → (heap_step_unless (first_of asked limit) h command).1
    ≡ answer_unless asked (reply_to (graph_of h.mutators) command)
heap_step_unless-answer None limit h command none = ap (λ l. (heap_step_unless l h command).1) none
heap_step_unless-answer (Some why) limit h command none = refl

paced_step-answer : (s : PacedState) (owner : ℕ) (command : Command)
    → limit_of s.heap.mutators command ≡ None
    → (paced_step s owner command).1
    ≡ answer_unless (refusal_of (graph_in s) owner command) (reply_to (graph_in s) command)
unfolding paced_step heap_step
paced_step-answer s owner command none =
    heap_step_unless-answer (refusal_of (graph_in s) owner command) (limit_of s.heap.mutators command) s.heap command none

load-unlimited : (s : PacedState) (dst src : RootId) (f : ℕ) → limit_of s.heap.mutators (Load dst src f) ≡ None
unfolding limit_of
load-unlimited s dst src f = refl

copy-unlimited : (s : PacedState) (dst src : RootId) → limit_of s.heap.mutators (Copy dst src) ≡ None
unfolding limit_of
copy-unlimited s dst src = refl

pub peek_answer-load : (s : PacedState) (owner : ℕ) (src : RootId) (f : ℕ)
    → peek_answer s owner src f ≡ (paced_step s owner (Load src src f)).1
peek_answer-load s owner src f = sym (paced_step-answer s owner (Load src src f) (load-unlimited s src src f))

-- The tests of two roots: both are there, with the owner, and the owner may use both.
abbrev tested : Bool → Bool → Bool → Bool → Bool → Option Refusal → Option Refusal
tested owner a b mine yours fault =
    if not (owner && (a && (b && true))) then Some NoRoot
    else if not (mine && (yours && true)) then Some NotYours else fault

-- one that is there and may be used refuses nothing
tested-fine : (owner a b mine yours : Bool) (fault : Option Refusal) → a ≡ true → mine ≡ true
    → tested owner b b yours yours fault ≡ tested owner a b mine yours fault
tested-fine false a b mine yours fault there usable = refl
tested-fine true false b mine yours fault there usable = absurd (false≢true there)
tested-fine true true false mine yours fault there usable = refl
tested-fine true true true false yours fault there usable = absurd (false≢true usable)
tested-fine true true true true false fault there usable = refl
tested-fine true true true true true fault there usable = refl

pub peek_answer-into : (s : PacedState) (owner : ℕ) (dst src : RootId) (f : ℕ)
    → has_root s.heap.mutators.roots.owners s.heap.mutators.roots.slots dst ≡ true → may_use owner dst ≡ true
    → peek_answer s owner src f ≡ (paced_step s owner (Load dst src f)).1
unfolding refusal_of fault_in reply_to
peek_answer-into s owner dst src f there usable =
    let g = graph_in s in
    let reply : Reply = reply_of g (field_value (value_fields g (root_value g src)) f) in
    ap (λ asked. answer_unless asked reply)
    (tested-fine (nat_lt owner g.owners) (has_root g.owners g.slots dst) (has_root g.owners g.slots src) (may_use owner dst) (may_use owner src)
    (field_fault (value_fields g (root_value g src)) f) there usable)
    ∙ sym (paced_step-answer s owner (Load dst src f) (load-unlimited s dst src f))

-- A root's own owner is there where the root is, and may use it.
or-true : (b c : Bool) → c ≡ true → (b || c) ≡ true
or-true true c e = refl
or-true false c e = e

may_use-own : (r : RootId) → may_use r.owner r ≡ true
may_use-own r = or-true (r.owner == 0) (r.owner == r.owner) (eq-eqb r.owner r.owner refl)

tested-own : (owner slot mine : Bool) (fault : Option Refusal) (reply : Reply) → mine ≡ true
    → (if owner && slot then answer_unless fault reply else Err NoRoot)
    ≡ answer_unless (tested owner (owner && slot) (owner && slot) mine mine fault) reply
tested-own false slot mine fault reply usable = refl
tested-own true false mine fault reply usable = refl
tested-own true true false fault reply usable = absurd (false≢true usable)
tested-own true true true fault reply usable = refl

pub field_answer-peek : (s : PacedState) (r : RootId) (f : ℕ) → field_answer s r f ≡ peek_answer s r.owner r f
unfolding refusal_of fault_in reply_to
field_answer-peek s r f =
    let g = graph_in s in
    let fields = value_fields g (root_value g r) in
    tested-own (nat_lt r.owner g.owners) (nat_lt r.slot g.slots) (may_use r.owner r) (field_fault fields f) (reply_of g (field_value fields f)) (may_use-own r)

pub field_answer-load : (s : PacedState) (r : RootId) (f : ℕ) → field_answer s r f ≡ (paced_step s r.owner (Load r r f)).1
field_answer-load s r f = field_answer-peek s r f ∙ peek_answer-load s r.owner r f

root_answer-asked : (s : PacedState) (r : RootId)
    → root_answer s r ≡ answer_unless (refusal_of (graph_in s) r.owner (Copy r r)) (reply_to (graph_in s) (Copy r r))
unfolding refusal_of fault_in reply_to
root_answer-asked s r =
    let g = graph_in s in
    tested-own (nat_lt r.owner g.owners) (nat_lt r.slot g.slots) (may_use r.owner r) None (reply_of g (root_value g r)) (may_use-own r)

pub root_answer-copy : (s : PacedState) (r : RootId) → root_answer s r ≡ (paced_step s r.owner (Copy r r)).1
root_answer-copy s r = root_answer-asked s r ∙ sym (paced_step-answer s r.owner (Copy r r) (copy-unlimited s r r))

-- The plain heap answers them so.
step_unless-answer : (asked : Option Refusal) (p : PlainHeap) (command : Command)
    → (plain_step_unless asked p command).1 ≡ answer_unless asked (reply_to (plain_graph_of p) command)
step_unless-answer None p command = refl
step_unless-answer (Some why) p command = refl

paced_step-plain : (s : PacedState) (p : PlainHeap) → StandsFor s.heap.mutators p → (owner : ℕ) (command : Command)
    → limit_of s.heap.mutators command ≡ None → (paced_step s owner command).1 ≡ (step p owner command).1
unfolding step
paced_step-plain s p stands owner command none =
    paced_step-answer s owner command none
    ∙ ap (λ asked. answer_unless asked (reply_to (graph_in s) command)) (sym (refusal-same s.heap.mutators p stands owner command))
    ∙ ap (answer_unless (refusal_of (plain_graph_of p) owner command)) (sym (reply_to-same stands.graph.1 command))
    ∙ sym (step_unless-answer (refusal_of (plain_graph_of p) owner command) p command)

module _ (s : PacedState) (p : PlainHeap) (stands : StandsFor s.heap.mutators p) where
  pub peek_answer-plain : (owner : ℕ) (src : RootId) (f : ℕ) → peek_answer s owner src f ≡ (step p owner (Load src src f)).1
  peek_answer-plain owner src f =
      peek_answer-load s owner src f ∙ paced_step-plain s p stands owner (Load src src f) (load-unlimited s src src f)

  pub field_answer-plain : (r : RootId) (f : ℕ) → field_answer s r f ≡ (step p r.owner (Load r r f)).1
  field_answer-plain r f = field_answer-peek s r f ∙ peek_answer-plain r.owner r f

  pub root_answer-plain : (r : RootId) → root_answer s r ≡ (step p r.owner (Copy r r)).1
  root_answer-plain r =
      root_answer-copy s r ∙ paced_step-plain s p stands r.owner (Copy r r) (copy-unlimited s r r)

-- Counts.
count_of_object : (raw : Bool) (n : ℕ) → count_in (Ok (reply_of_shape (shape_of n raw))) ≡ Ok n
count_of_object true n = refl
count_of_object false n = refl

module _ (s : PacedState) (r : RootId) where
  root_answer-there : has_root s.heap.mutators.roots.owners s.heap.mutators.roots.slots r ≡ true
      → root_answer s r ≡ Ok (reply_of (graph_in s) (root_value (graph_in s) r))
  root_answer-there there =
      ap (λ b. if b then Ok (reply_of (graph_in s) (root_value (graph_in s) r)) else Err NoRoot) there

  -- what it holds is counted
  count_in-holding : (v : Value) → has_root s.heap.mutators.roots.owners s.heap.mutators.roots.slots r ≡ true
      → root_value (graph_in s) r ≡ v → count_in (root_answer s r) ≡ count_in (Ok (reply_of (graph_in s) v))
  count_in-holding v there holds =
      ap count_in (root_answer-there there) ∙ ap (λ w. count_in (Ok (reply_of (graph_in s) w))) holds

  pub count_in-object : (a : ℕ) (fields : List Value)
      → has_root s.heap.mutators.roots.owners s.heap.mutators.roots.slots r ≡ true
      → root_value (graph_in s) r ≡ Ref a → (graph_in s).fields a ≡ Some fields
      → count_in (root_answer s r) ≡ Ok (length fields)
  count_in-object a fields there holds has =
      count_in-holding (Ref a) there holds
      ∙ ap (λ o. count_in (Ok (reply_of_shape (shape_of (field_count o) ((graph_in s).raw a))))) has
      ∙ count_of_object ((graph_in s).raw a) (length fields)

  pub count_in-nil : has_root s.heap.mutators.roots.owners s.heap.mutators.roots.slots r ≡ true
      → root_value (graph_in s) r ≡ Nil → count_in (root_answer s r) ≡ Err NotObject
  count_in-nil there holds = count_in-holding Nil there holds

  pub count_in-number : (number : ℤ) → has_root s.heap.mutators.roots.owners s.heap.mutators.roots.slots r ≡ true
      → root_value (graph_in s) r ≡ Int number → count_in (root_answer s r) ≡ Err NotObject
  count_in-number number there holds = count_in-holding (Int number) there holds

  pub count_in-absent : has_root s.heap.mutators.roots.owners s.heap.mutators.roots.slots r ≡ false
      → count_in (root_answer s r) ≡ Err NoRoot
  count_in-absent absent =
      ap (λ b. count_in (if b then Ok (reply_of (graph_in s) (root_value (graph_in s) r)) else Err NoRoot)) absent
