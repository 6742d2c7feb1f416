-- What values mean by their kinds, where they are given to an object or a row.
use Rattle.std.proofs.Common.{◌≡◌, ℕ, zero, suc, ◌+◌, ◌<◌, ◌≤◌, true, false, List, [], ◌∷◌, length, Option, Some, None, Result, refl, sym, ap, subst, ◌∙◌, inl, inr, arith}
use Rattle.std.specs.Prelude.{All, ◌↔◌, slice_get}
use Rattle.std.specs.Option.{option_map}
use Rattle.std.proofs.lemmas.Bool.{and_from, and_left, and_parts, and_right, le-leb, leb-true, lt-leb}
use Rattle.std.proofs.lemmas.List.Elements.{All-cons, All-head, All-nil, All-tail}
use Rattle.std.proofs.lemmas.Option.{none-some, same_Some}
use Rattle.rh_layout.specs.declared.command.Command.TheVariants.{Store}
use Rattle.rh_layout.specs.declared.command.Operand.{Operand}
use Rattle.rh_layout.specs.declared.command.Reply.{Reply}
use Rattle.rh_layout.specs.declared.command.RootId.{RootId}
use Rattle.rh_layout.specs.declared.refusal.Refusal.{Refusal}
use Rattle.rh_layout.specs.declared.shape.Shape.{Shape}
use Rattle.rh_pace.specs.Paced.{PacedState}
use Rattle.rh_growing.specs.Growing.{GrowingState}
use Rattle.rheap_c.specs.declared.init.RheapInit.{RheapInit}
use Rattle.rheap_c.specs.GrownMaking.{GrownMakes, IsGrownMadeUnless, IsGrownMadeWith}
use Rattle.rheap_c.specs.Init.{MeanTheirKinds, MeansItsKind, operand_of}
use Rattle.rheap_c.specs.Making.{IsMadeUnless, IsMadeWith, Makes, has_kind, have_kinds, operands_of, values_fault}
use Rattle.rheap_c.specs.Told.{status_of}
use Rattle.rheap_c.specs.ValueRows.{value_stores}
use Rattle.rheap_c.proofs.MadeWith.{fault-by, few-lt, many-lt}
use Rattle.rheap_c.proofs.RowLaws.{nil-means, number-means, root-means, storing, values-at}

-- each is of a kind that there is
known-from : (values : List RheapInit) → All (λ (v : RheapInit). v.kind ≤ 3) values → have_kinds values ≡ true
known-from [] all = refl
known-from (v ∷ values) all =
    and_from (has_kind v) (have_kinds values) (le-leb v.kind 3 (All-head (λ (w : RheapInit). w.kind ≤ 3) v values all))
    (known-from values (All-tail (λ (w : RheapInit). w.kind ≤ 3) v values all))

known-all : (values : List RheapInit) → have_kinds values ≡ true → All (λ (v : RheapInit). v.kind ≤ 3) values
known-all [] is = All-nil (λ (w : RheapInit). w.kind ≤ 3)
known-all (v ∷ values) is =
    let both = and_parts (has_kind v) (have_kinds values) is in
    All-cons (λ (w : RheapInit). w.kind ≤ 3) v values (leb-true v.kind 3 both.0) (known-all values both.1)

pub kinds-known : (values : List RheapInit) → (have_kinds values ≡ true) ↔ All (λ (v : RheapInit). v.kind ≤ 3) values
kinds-known values = (known-all values, known-from values)

-- one isn't
unknown-at : (values : List RheapInit) (i : ℕ) (v : RheapInit) → slice_get values i ≡ Some v → 3 < v.kind → have_kinds values ≡ false
unknown-at [] i v is high = absurd (none-some v is)
unknown-at (w ∷ values) zero v is high =
    and_left (has_kind w) (have_kinds values) (lt-leb w.kind 3 (subst (λ (x : RheapInit). 3 < x.kind) (sym (same_Some w v is)) high))
unknown-at (w ∷ values) (suc i) v is high = and_right (has_kind w) (have_kinds values) (unknown-at values i v is high)

-- what one means
pub means-its_kind : (v : RheapInit) → MeansItsKind v (operand_of v)
means-its_kind v = record {
  nil = nil-means v;
  number = number-means v;
  root = λ refers.
      elim refers [
        | inl two ↦ root-means v (λ nil. absurd (omega (arith, two, nil))) (λ number. absurd (omega (arith, two, number)))
        | inr three ↦ root-means v (λ nil. absurd (omega (arith, three, nil))) (λ number. absurd (omega (arith, three, number)))
      ];
}

mean-all : (values : List RheapInit) → MeanTheirKinds values (operands_of values)
mean-all [] = tt
mean-all (v ∷ values) = (means-its_kind v, mean-all values)

-- the store of it in a row
pub stored-by_kind : (owner : ℕ) (object : RootId) (field : ℕ) (values : List RheapInit) (i : ℕ) (v : RheapInit) → field + length values ≤ 4294967295
    → slice_get values i ≡ Some v → (operand : Operand) × MeansItsKind v operand × (slice_get (value_stores owner object field values) i ≡ Some (owner, Store object (field + i) operand))
stored-by_kind owner object field values i v few is =
    (operand_of v, means-its_kind v, values-at owner object field values i few ∙ ap (option_map (storing owner object (field + i))) is)

-- An object with its values, on a heap of fixed sizes.
module _ (IsMake : Makes) (s : PacedState) (new : Option PacedState) (owner : ℕ) (dst : RootId) (shape : Shape) (values : List RheapInit) (status : ℕ) where
  fault-is : (why : Option ℕ) → values_fault values ≡ why → IsMadeWith IsMake (Some s) new owner dst shape values status
      → (after : PacedState) × (new ≡ Some after) × IsMadeUnless IsMake why s after owner dst shape (operands_of values) status
  fault-is why is (after, left, made) = (after, left, subst (λ (o : Option ℕ). IsMadeUnless IsMake o s after owner dst shape (operands_of values) status) is made)

  pub made-by_kinds : length values ≤ 4095 → All (λ (v : RheapInit). v.kind ≤ 3) values → IsMadeWith IsMake (Some s) new owner dst shape values status
      → (after : PacedState) × (told : Result Reply Refusal) × (operands : List Operand) × (new ≡ Some after) × MeanTheirKinds values operands
      × IsMake s after owner dst shape operands told × (status ≡ status_of told)
  made-by_kinds few known made =
      let done = fault-is None (fault-by values false true (few-lt (length values) few) (known-from values known)) made in
      (done.0, done.2.0, operands_of values, done.1, mean-all values, done.2.1, done.2.2)

  pub made-unknown : length values ≤ 4095 → (i : ℕ) (v : RheapInit) → slice_get values i ≡ Some v → 3 < v.kind → IsMadeWith IsMake (Some s) new owner dst shape values status
      → (new ≡ Some s) × (status ≡ 20)
  made-unknown few i v is high made =
      let done = fault-is (Some 20) (fault-by values false false (few-lt (length values) few) (unknown-at values i v is high)) made in
      (done.1 ∙ ap Some done.2.0, done.2.1)

  pub made-too_many : 4095 < length values → IsMadeWith IsMake (Some s) new owner dst shape values status → (new ≡ Some s) × (status ≡ 7)
  made-too_many many made =
      let done = fault-is (Some 7) (fault-by values true (have_kinds values) (many-lt (length values) many) refl) made in
      (done.1 ∙ ap Some done.2.0, done.2.1)

-- And on one that grows.
module _ (IsMake : GrownMakes) (s : GrowingState) (new : Option GrowingState) (owner : ℕ) (dst : RootId) (shape : Shape) (values : List RheapInit) (status : ℕ) where
  grown-fault : (why : Option ℕ) → values_fault values ≡ why → IsGrownMadeWith IsMake (Some s) new owner dst shape values status
      → (after : GrowingState) × (new ≡ Some after) × IsGrownMadeUnless IsMake why s after owner dst shape (operands_of values) status
  grown-fault why is (after, left, made) = (after, left, subst (λ (o : Option ℕ). IsGrownMadeUnless IsMake o s after owner dst shape (operands_of values) status) is made)

  pub grown-by_kinds : length values ≤ 4095 → All (λ (v : RheapInit). v.kind ≤ 3) values → IsGrownMadeWith IsMake (Some s) new owner dst shape values status
      → (after : GrowingState) × (told : Result Reply Refusal) × (operands : List Operand) × (new ≡ Some after) × MeanTheirKinds values operands
      × IsMake s after owner dst shape operands told × (status ≡ status_of told)
  grown-by_kinds few known made =
      let done = grown-fault None (fault-by values false true (few-lt (length values) few) (known-from values known)) made in
      (done.0, done.2.0, operands_of values, done.1, mean-all values, done.2.1, done.2.2)

  pub grown-unknown : length values ≤ 4095 → (i : ℕ) (v : RheapInit) → slice_get values i ≡ Some v → 3 < v.kind → IsGrownMadeWith IsMake (Some s) new owner dst shape values status
      → (new ≡ Some s) × (status ≡ 20)
  grown-unknown few i v is high made =
      let done = grown-fault (Some 20) (fault-by values false false (few-lt (length values) few) (unknown-at values i v is high)) made in
      (done.1 ∙ ap Some done.2.0, done.2.1)

  pub grown-too_many_values : 4095 < length values → IsGrownMadeWith IsMake (Some s) new owner dst shape values status → (new ≡ Some s) × (status ≡ 7)
  grown-too_many_values many made =
      let done = grown-fault (Some 7) (fault-by values true (have_kinds values) (many-lt (length values) many) refl) made in
      (done.1 ∙ ap Some done.2.0, done.2.1)
