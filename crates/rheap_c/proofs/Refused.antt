-- Which numbers a refusal has that says that there is no room for an object.
use Rattle.std.proofs.Common.{◌≡◌, inl, inr, ℕ, ◌+◌, ◌<◌, Bool, true, false, Option, Some, None, Result, Ok, Err, refl, sym, ap, subst, ◌∙◌, arith}
use Rattle.std.specs.Prelude.{◌↔◌, nat_lt, if◌then◌else◌}
use Rattle.std.proofs.lemmas.Bool.{true≢false, ltb-false, ltb-true}
use Rattle.std.proofs.lemmas.Option.{same_Some}
use Rattle.rh_layout.specs.Refusal.{is_limit}
use Rattle.rh_layout.specs.Refusing.{first_of}
use Rattle.rh_layout.specs.Shape.{shape_of}
use Rattle.rh_layout.specs.declared.command.Command.{Command}
use Rattle.rh_layout.specs.declared.command.Command.TheVariants.{Alloc, Raw}
use Rattle.rh_layout.specs.declared.command.Reply.{Reply}
use Rattle.rh_layout.specs.declared.command.RootId.{RootId}
use Rattle.rh_layout.specs.declared.refusal.Refusal.{Refusal}
use Rattle.rh_layout.specs.declared.refusal.Refusal.TheVariants.{NoRoot, NotYours, NotObject, NoField, RawField, IntRange, FieldsRange, SpaceFull, LogFull, NumbersSpent}
use Rattle.rh_space.specs.Space.{free_words}
use Rattle.rh_model.specs.Graph.{refusal_of}
use Rattle.rh_mutator.specs.Commands.{limit_of, space_limit_of}
use Rattle.rh_mutator.specs.Mutator.{MutatorState, graph_of}
use Rattle.rh_mutator.specs.lemmas.Limits.{IsNoLimit, refusal_of-IsNoLimit}
use Rattle.rh_core.specs.Heap.{HeapState}
use Rattle.rh_core.specs.Commands.{heap_step, heap_step_unless}
use Rattle.rh_pace.specs.Collecting.{insist_step}
use Rattle.rh_pace.specs.Paced.{PacedState, paced_step}
use Rattle.rh_pace.proofs.Tries.{insisted-tries}
use Rattle.rh_pace.proofs.kept_up.Insisting.{paced_step-refused}
use Rattle.rheap_c.specs.Called.{IsDone}
use Rattle.rheap_c.specs.Insisted.{IsInsisted}
use Rattle.rheap_c.specs.Numbers.{room_in}
use Rattle.rheap_c.specs.Read.{graph_in}
use Rattle.rheap_c.specs.Room.{IsRefusedFor}
use Rattle.rheap_c.specs.Runs.{is_limit_status}
use Rattle.rheap_c.specs.Told.{status_of}
use Rattle.rheap_c.proofs.Rows.{is_limit_status-status_of}

-- status 8 is this refusal
pub full_told : (told : Result Reply Refusal) → 8 ≡ status_of told → (need : ℕ) × (free : ℕ) × (told ≡ Err (SpaceFull need free))
full_told (Ok reply) e = absurd (omega (arith, e))
full_told (Err NoRoot) e = absurd (omega (arith, e))
full_told (Err NotYours) e = absurd (omega (arith, e))
full_told (Err NotObject) e = absurd (omega (arith, e))
full_told (Err NoField) e = absurd (omega (arith, e))
full_told (Err RawField) e = absurd (omega (arith, e))
full_told (Err IntRange) e = absurd (omega (arith, e))
full_told (Err FieldsRange) e = absurd (omega (arith, e))
full_told (Err (SpaceFull need free)) e = (need, free, refl)
full_told (Err LogFull) e = absurd (omega (arith, e))
full_told (Err NumbersSpent) e = absurd (omega (arith, e))

-- a command that needs so many words is refused so only where fewer are free, with both numbers
record HasNumbers (needs now need free : ℕ) : Type 0 where
  same_need : need ≡ needs
  same_free : free ≡ now
  less : now < needs

numbers-by : (asked : Option Refusal) (full : Bool) (h : HeapState) (command : Command) (needs now need free : ℕ) → IsNoLimit asked → nat_lt now needs ≡ full
    → (heap_step_unless (first_of asked (if full then Some (SpaceFull needs now) else None)) h command).1 ≡ Err (SpaceFull need free) → HasNumbers needs now need free
numbers-by (Some why) full h command needs now need free asked is answer =
    let e : why ≡ SpaceFull need free = cc in absurd (true≢false (sym (ap is_limit e) ∙ asked))
numbers-by None true h command needs now need free asked is answer =
    record { same_need = cc; same_free = cc; less = ltb-true now needs is }
numbers-by None false h command needs now need free asked is answer = absurd (cc)

-- status 8 exactly where nothing is asked that is refused, and more words are needed than are free
abbrev IsFullExactly : ℕ → Option Refusal → ℕ → ℕ → Type 0
IsFullExactly status asked free need = (status ≡ 8) ↔ ((asked ≡ None) × (free < need))

full-by : (asked : Option Refusal) (full : Bool) (h : HeapState) (command : Command) (needs now : ℕ) → IsNoLimit asked → nat_lt now needs ≡ full
    → IsFullExactly (status_of (heap_step_unless (first_of asked (if full then Some (SpaceFull needs now) else None)) h command).1) asked now needs
full-by (Some why) full h command needs now none is = (
  λ eight. absurd (true≢false (sym (ap is_limit_status eight) ∙ is_limit_status-status_of (Err why) ∙ none)),
  λ both. absurd (let some = both.0 in cc),
)
full-by None true h command needs now none is = (λ eight. (refl, ltb-true now needs is), λ both. refl)
full-by None false h command needs now none is = (
  λ eight. absurd (omega (arith, eight)),
  λ both. absurd (let less = both.1 in omega (arith, less, ltb-false now needs is)),
)

module _ (command : Command) (fields : ℕ) (raw : Bool) (limit : (m : MutatorState) → limit_of m command ≡ space_limit_of m.space (shape_of fields raw)) where
  numbers-heap_step : (h : HeapState) (owner need free : ℕ) → (heap_step h owner command).1 ≡ Err (SpaceFull need free)
      → HasNumbers (2 + fields) (free_words h.mutators.space) need free
  unfolding heap_step
  numbers-heap_step h owner need free answer =
      numbers-by (refusal_of (graph_of h.mutators) owner command) (nat_lt (free_words h.mutators.space) (2 + fields)) h command (2 + fields) (free_words h.mutators.space) need free
      (refusal_of-IsNoLimit (graph_of h.mutators) owner command) refl
      (subst (λ (l : Option Refusal). (heap_step_unless (first_of (refusal_of (graph_of h.mutators) owner command) l) h command).1 ≡ Err (SpaceFull need free)) (limit h.mutators) answer)

  -- these are the numbers of the room that is left, since the refusal changed nothing
  refused-numbers : (t : PacedState) (owner need free : ℕ) → (paced_step t owner command).1 ≡ Err (SpaceFull need free)
      → IsRefusedFor (room_in fields (paced_step t owner command).0) (paced_step t owner command).1
  refused-numbers t owner need free answer =
      let refused = paced_step-refused t owner command (SpaceFull need free) answer in
      let numbers = numbers-heap_step t.heap owner need free refused.1 in
      let less = numbers.less in
      let needs : need ≡ fields + 2 = let n = numbers.same_need in omega (arith, n) in
      subst (λ (u : PacedState). IsRefusedFor (room_in fields u) (paced_step t owner command).1) (sym refused.0) (
        answer ∙ ap (λ n. Err (SpaceFull n free)) needs ∙ ap (λ m. Err (SpaceFull (fields + 2) m)) numbers.same_free,
        omega (arith, less),
      )

  refused-try : (t new : PacedState) (owner : ℕ) (r : PacedState × Result Reply Refusal) → r ≡ paced_step t owner command
      → new ≡ r.0 → 8 ≡ status_of r.1 → IsRefusedFor (room_in fields new) r.1
  refused-try t new owner r is state status =
      let told = full_told r.1 status in
      subst (λ (u : PacedState). IsRefusedFor (room_in fields u) r.1) (sym state)
      (subst (λ (q : PacedState × Result Reply Refusal). IsRefusedFor (room_in fields q.0) q.1) (sym is)
      (refused-numbers t owner told.0 told.1 (sym (ap (λ (q : PacedState × Result Reply Refusal). q.1) is) ∙ told.2)))

  done-refused : (old new : PacedState) (owner : ℕ) → IsDone (Some old) (Some new) owner command 8
      → IsRefusedFor (room_in fields new) (paced_step old owner command).1
  done-refused old new owner (told, after, is, done, status) =
      refused-try old new owner (paced_step old owner command) refl (same_Some new after is ∙ done.state) (status ∙ ap status_of done.answer)

  insisted-refused : (old new : PacedState) (owner : ℕ) → IsInsisted (Some old) (Some new) owner command 8
      → IsRefusedFor (room_in fields new) (insist_step old owner command).1
  insisted-refused old new owner (told, after, is, done, status) =
      let state : new ≡ (insist_step old owner command).0 = same_Some new after is ∙ done.state in
      let eight : 8 ≡ status_of (insist_step old owner command).1 = status ∙ ap status_of done.answer in
      elim (insisted-tries old owner command) [
        | inl at_once ↦ refused-try _ new owner (insist_step old owner command) at_once state eight
        | inr later ↦ elim later [
          | inl once ↦ refused-try _ new owner (insist_step old owner command) once state eight
          | inr twice ↦ refused-try _ new owner (insist_step old owner command) twice state eight
        ]
      ]

  -- The other way too: it is refused so exactly where fewer are free.
  answer-paced_step : (s : PacedState) (owner : ℕ) → (paced_step s owner command).1 ≡ (heap_step s.heap owner command).1
  unfolding paced_step
  answer-paced_step s owner = refl

  full-heap_step : (h : HeapState) (owner : ℕ) → IsFullExactly (status_of (heap_step h owner command).1) (refusal_of (graph_of h.mutators) owner command) (free_words h.mutators.space) (2 + fields)
  unfolding heap_step
  full-heap_step h owner =
      let asked : Option Refusal = refusal_of (graph_of h.mutators) owner command in
      subst (λ (l : Option Refusal). IsFullExactly (status_of (heap_step_unless (first_of asked l) h command).1) asked (free_words h.mutators.space) (2 + fields)) (sym (limit h.mutators))
      (full-by asked (nat_lt (free_words h.mutators.space) (2 + fields)) h command (2 + fields) (free_words h.mutators.space) (refusal_of-IsNoLimit (graph_of h.mutators) owner command) refl)

  done-full : (old : PacedState) (new : PacedState) (owner status : ℕ) → IsDone (Some old) (Some new) owner command status
      → IsFullExactly status (refusal_of (graph_in old) owner command) (room_in fields old).free (room_in fields old).need
  done-full old new owner status (told, after, is, done, st) =
      let exact = full-heap_step old.heap owner in
      let told_is = st ∙ ap status_of (done.answer ∙ answer-paced_step old owner) in (
        λ eight. let both = exact.0 (sym told_is ∙ eight) in let less = both.1 in (both.0, omega (arith, less)),
        λ both. let less = both.1 in told_is ∙ exact.1 (both.0, omega (arith, less)),
      )

alloc-limit : (dst : RootId) (fields : ℕ) (m : MutatorState) → limit_of m (Alloc dst fields) ≡ space_limit_of m.space (shape_of fields false)
unfolding limit_of
alloc-limit dst fields m = refl

raw-limit : (dst : RootId) (fields : ℕ) (m : MutatorState) → limit_of m (Raw dst fields) ≡ space_limit_of m.space (shape_of fields true)
unfolding limit_of
raw-limit dst fields m = refl

pub alloc-refused : (old new : PacedState) (owner : ℕ) (dst : RootId) (fields : ℕ) → IsDone (Some old) (Some new) owner (Alloc dst fields) 8
    → IsRefusedFor (room_in fields new) (paced_step old owner (Alloc dst fields)).1
alloc-refused old new owner dst fields = done-refused (Alloc dst fields) fields false (alloc-limit dst fields) old new owner

pub raw-refused : (old new : PacedState) (owner : ℕ) (dst : RootId) (fields : ℕ) → IsDone (Some old) (Some new) owner (Raw dst fields) 8
    → IsRefusedFor (room_in fields new) (paced_step old owner (Raw dst fields)).1
raw-refused old new owner dst fields = done-refused (Raw dst fields) fields true (raw-limit dst fields) old new owner

pub insisted_alloc-refused : (old new : PacedState) (owner : ℕ) (dst : RootId) (fields : ℕ) → IsInsisted (Some old) (Some new) owner (Alloc dst fields) 8
    → IsRefusedFor (room_in fields new) (insist_step old owner (Alloc dst fields)).1
insisted_alloc-refused old new owner dst fields = insisted-refused (Alloc dst fields) fields false (alloc-limit dst fields) old new owner

pub insisted_raw-refused : (old new : PacedState) (owner : ℕ) (dst : RootId) (fields : ℕ) → IsInsisted (Some old) (Some new) owner (Raw dst fields) 8
    → IsRefusedFor (room_in fields new) (insist_step old owner (Raw dst fields)).1
insisted_raw-refused old new owner dst fields = insisted-refused (Raw dst fields) fields true (raw-limit dst fields) old new owner

pub alloc-full : (old new : PacedState) (owner : ℕ) (dst : RootId) (fields status : ℕ) → IsDone (Some old) (Some new) owner (Alloc dst fields) status
    → IsFullExactly status (refusal_of (graph_in old) owner (Alloc dst fields)) (room_in fields old).free (room_in fields old).need
alloc-full old new owner dst fields status = done-full (Alloc dst fields) fields false (alloc-limit dst fields) old new owner status

pub raw-full : (old new : PacedState) (owner : ℕ) (dst : RootId) (fields status : ℕ) → IsDone (Some old) (Some new) owner (Raw dst fields) status
    → IsFullExactly status (refusal_of (graph_in old) owner (Raw dst fields)) (room_in fields old).free (room_in fields old).need
raw-full old new owner dst fields status = done-full (Raw dst fields) fields true (raw-limit dst fields) old new owner status
