-- A line has one cut at its first part that is `=`, which is the one that reading makes.
use Rattle.std.specs.Prelude.{◌≢◌, codes}
use Rattle.std.specs.List.{AllByRecursion}
use Rattle.std.specs.Str.{bytes_eq}
use Rattle.std.proofs.Common.{◌≡◌, ℕ, Bool, true, false, cond, List, [], ◌∷◌, refl, sym, ap, ◌∙◌, inl, inr}
use Rattle.std.proofs.lemmas.List.{append-nil}
use Rattle.std.proofs.lemmas.Slice.Eq.{bytes_eq-Decides}
use Rattle.rh_replay.specs.Reading.{before_equals, after_equals}
use Rattle.rh_replay.specs.Faults.{AreCutAtEquals}
use Rattle.rh_replay.proofs.Equals.{before_equals-append, after_equals-append}

is_not : (part : List ℕ) → bytes_eq part (codes "=") ≡ false → part ≢ codes "="
is_not part e = λ same. let other : true ≡ false = sym (ap (λ (p : List ℕ). bytes_eq p (codes "=")) same) ∙ e in cc

other_part : (part : List ℕ) → part ≢ codes "=" → bytes_eq part (codes "=") ≡ false
other_part part other = by (bytes_eq part (codes "=")) refl
  where
    by : (t : Bool) → bytes_eq part (codes "=") ≡ t → t ≡ false
    by true e = absurd (other ((bytes_eq-Decides part (codes "=")).0 e))
    by false e = refl

cut_step : (t : Bool) (x : List ℕ) (xs : List (List ℕ)) → (t ≡ true → x ≡ codes "=") → (t ≡ false → x ≢ codes "=") → AreCutAtEquals xs (before_equals xs) (after_equals xs)
    → AreCutAtEquals (x ∷ xs) (cond t [] (x ∷ before_equals xs)) (cond t xs (after_equals xs))
cut_step true x xs is other cut = (tt, inl (ap (λ (p : List ℕ). p ∷ xs) (is refl)))
cut_step false x xs is other cut = (
  (other refl, cut.0),
  elim cut.1 [
    | inl whole ↦ inl (ap (λ (ps : List (List ℕ)). x ∷ ps) whole)
    | inr none ↦ inr (ap (λ (ps : List (List ℕ)). x ∷ ps) none.0, none.1)
  ],
)

-- what reading cuts is cut at the first part that is `=`
pub cut_is : (parts : List (List ℕ)) → AreCutAtEquals parts (before_equals parts) (after_equals parts)
cut_is [] = (tt, inr (refl, refl))
cut_is (x ∷ xs) = cut_step (bytes_eq x (codes "=")) x xs (bytes_eq-Decides x (codes "=")).0 (is_not x) (cut_is xs)

all_before : (xs : List (List ℕ)) → AllByRecursion (λ part. part ≢ codes "=") xs → before_equals xs ≡ xs
all_before [] free = refl
all_before (x ∷ xs) free =
    ap (λ (t : Bool). cond t [] (x ∷ before_equals xs)) (other_part x free.0) ∙ ap (λ (ps : List (List ℕ)). x ∷ ps) (all_before xs free.1)

none_after : (xs : List (List ℕ)) → AllByRecursion (λ part. part ≢ codes "=") xs → after_equals xs ≡ []
none_after xs free = ap after_equals (sym (append-nil xs)) ∙ after_equals-append xs [] (all_before xs free)

-- and no other cut is
pub cut_once : (parts before after : List (List ℕ)) → AreCutAtEquals parts before after → (before ≡ before_equals parts) × (after ≡ after_equals parts)
cut_once parts before after cut = elim cut.1 [
  | inl whole ↦ (
    sym (append-nil before) ∙ sym (before_equals-append before (codes "=" ∷ after) (all_before before cut.0)) ∙ sym (ap before_equals whole),
    sym (after_equals-append before (codes "=" ∷ after) (all_before before cut.0)) ∙ sym (ap after_equals whole),
  )
  | inr none ↦ (
    sym (all_before before cut.0) ∙ sym (ap before_equals none.0),
    none.1 ∙ sym (none_after before cut.0) ∙ sym (ap after_equals none.0),
  )
]
