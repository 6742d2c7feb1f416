-- Loops that meet values, and the loop that goes up a path.
use Rattle.std.proofs.Common.{◌≡◌, ℕ, zero, suc, ◌+◌, ◌-◌, ◌<◌, List, [], ◌∷◌, ◌++◌, length, get_or, take, drop, Option, Some, None, refl, sym, ap, subst, ◌∙◌, append_assoc, arith}
use Rattle.std.specs.Prelude.{slice_get}
use Rattle.std.specs.List.{flat_map}
use Rattle.std.proofs.lemmas.List.{append-nil, drop_more}
use Rattle.rh_layout.specs.declared.value.Value.{Value}
use Rattle.rh_layout.specs.declared.command.RootId.{RootId}
use Rattle.rh_layout.specs.declared.shape.Shape.{Shape}
use Rattle.rh_model.specs.Plain.{PlainObject}
use Rattle.rh_dump.specs.Graph.{objects_in}
use Rattle.rh_why.specs.declared.holder.Holder.{Holder}
use Rattle.rh_why.specs.declared.holder.Holder.TheVariants.{Root, Field}
use Rattle.rh_why.specs.declared.holder.Step.{Step}
use Rattle.rh_why.specs.Path.{steps_by, steps_to, with_fields, with_objects, with_roots, with_value}

pub roots_next : (old hs new : List Holder) (roots : List (RootId × Value)) (i : ℕ) (d : RootId × Value) → i < length roots → new ≡ with_value hs (Root (get_or roots i d).0) (get_or roots i d).1 → with_roots hs (drop i roots) ≡ with_roots old roots
    → with_roots new (drop (i + 1) roots) ≡ with_roots old roots
roots_next old hs new roots i d lt is so_far =
    ap (λ (h : List Holder). with_roots h (drop (i + 1) roots)) is ∙ sym (ap (with_roots hs) (drop_more roots i d lt)) ∙ so_far

pub fields_next : (old hs new : List Holder) (n f : ℕ) (values : List Value) (i : ℕ) (d : Value) → i < length values → new ≡ with_value hs (Field n f) (get_or values i d) → with_fields hs n f (drop i values) ≡ with_fields old n 0 values
    → with_fields new n (f + 1) (drop (i + 1) values) ≡ with_fields old n 0 values
fields_next old hs new n f values i d lt is so_far =
    ap (λ (h : List Holder). with_fields h n (f + 1) (drop (i + 1) values)) is ∙ sym (ap (with_fields hs n f) (drop_more values i d lt)) ∙ so_far

pub objects_next : (all hs new : List Holder) (n i : ℕ) (shapes : List Shape) (d : Shape) (rest front back : List Value) → i < length shapes → front ≡ take (get_or shapes i d).fields rest → back ≡ drop (get_or shapes i d).fields rest
    → new ≡ with_fields hs n 0 front → with_objects hs n (objects_in (drop i shapes) rest) ≡ all → with_objects new (n + 1) (objects_in (drop (i + 1) shapes) back) ≡ all
objects_next all hs new n i shapes d rest front back lt fronts backs is so_far =
    let shape = get_or shapes i d in
    let others = drop (i + 1) shapes in
    ap (λ (h : List Holder). with_objects h (n + 1) (objects_in others back)) (is ∙ ap (with_fields hs n 0) fronts)
    ∙ ap (λ (b : List Value). with_objects (with_fields hs n 0 (take shape.fields rest)) (n + 1) (objects_in others b)) backs
    ∙ sym (ap (λ (ss : List Shape). with_objects hs n (objects_in ss rest)) (drop_more shapes i d lt))
    ∙ so_far

-- ---- up a path, by the steps that are left

-- one more step is left than after this one
pub one_left : (all done : ℕ) → done < all → all - done ≡ suc (all - (done + 1))
one_left all done lt = omega (arith, lt)

module _ (holders : List Holder) (whole steps : List Step) (left more to : ℕ) (is_left : left ≡ suc more) (so_far : steps ++ steps_to left holders to ≡ whole) where
  opened : steps ++ steps_by (steps_to more holders) to (slice_get holders to) ≡ whole
  opened = subst (λ (n : ℕ). steps ++ steps_to n holders to ≡ whole) is_left so_far

  -- there is no holder
  pub up_none : slice_get holders to ≡ None → steps ≡ whole
  up_none none = sym (append-nil steps) ∙ ap (λ (o : Option Holder). steps ++ steps_by (steps_to more holders) to o) (sym none) ∙ opened

  -- a root holds it
  pub up_root : (new : List Step) (h : Holder) (root : RootId) → slice_get holders to ≡ Some h → h ≡ Root root → new ≡ steps ++ record { holder = h; to = to } ∷ [] → new ≡ whole
  up_root new h root there is pushed =
      pushed ∙ ap (λ (k : Holder). steps ++ record { holder = k; to = to } ∷ []) is
      ∙ ap (λ (o : Option Holder). steps ++ steps_by (steps_to more holders) to o) (sym (there ∙ ap (λ (k : Holder). Some k) is)) ∙ opened

  -- a field does
  pub up_field : (new : List Step) (h : Holder) (n f : ℕ) → slice_get holders to ≡ Some h → h ≡ Field n f → new ≡ steps ++ record { holder = h; to = to } ∷ [] → new ++ steps_to more holders n ≡ whole
  up_field new h n f there is pushed =
      ap (λ (s : List Step). s ++ steps_to more holders n) (pushed ∙ ap (λ (k : Holder). steps ++ record { holder = k; to = to } ∷ []) is)
      ∙ append_assoc steps (record { holder = Field n f; to = to } ∷ []) (steps_to more holders n)
      ∙ ap (λ (o : Option Holder). steps ++ steps_by (steps_to more holders) to o) (sym (there ∙ ap (λ (k : Holder). Some k) is)) ∙ opened
