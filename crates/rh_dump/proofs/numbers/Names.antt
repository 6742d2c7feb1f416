-- Lists of names, each once, to which names are added as they are met.
use Rattle.std.specs.Prelude.{◌≡◌, ◌≢◌, ◌⊎◌, ◌<◌, ℕ, zero, suc, Bool, true, false, ◌==◌, if◌then◌else◌, List, [], ◌∷◌, ◌++◌, length, slice_get, Some}
use Rattle.std.proofs.Common.{refl, sym, ap, subst, ◌∙◌, arith, inl, inr}
use Rattle.std.proofs.lemmas.Option.{none-some, same_Some, slice_get_within}
use Rattle.std.proofs.lemmas.Bool.{eqb-true, eqb-false, cases_eq}
use Rattle.rh_layout.specs.declared.value.Value.{Value}
use Rattle.rh_layout.specs.declared.value.Value.TheVariants.{Nil, Int, Ref}
use Rattle.rh_layout.specs.lemmas.Elements.{slice_get-append, slice_get-pushed, slice_get-pushed_other}
use Rattle.rh_dump.specs.Numbering.{with_name, with_value, with_values, number_in}

-- the element stands in the list
abbrev pub Member : {X : Type 0} → X → List X → Type 0
Member x [] = ⊥
Member x (y ∷ ys) = (y ≡ x) ⊎ Member x ys

module _ {X : Type 0} where
  pub Member-at : (x : X) (xs : List X) (i : ℕ) → slice_get xs i ≡ Some x → Member x xs
  Member-at x [] i is = absurd (none-some x is)
  Member-at x (y ∷ ys) zero is = inl (same_Some y x is)
  Member-at x (y ∷ ys) (suc i) is = inr (Member-at x ys i is)

  pub place_of_Member : (x : X) (xs : List X) → Member x xs → (i : ℕ) × (slice_get xs i ≡ Some x)
  place_of_Member x [] m = absurd m
  place_of_Member x (y ∷ ys) (inl is) = (0, ap Some is)
  place_of_Member x (y ∷ ys) (inr m) = let at = place_of_Member x ys m in (suc at.0, at.1)

  pub Member-left : (x : X) (xs ys : List X) → Member x xs → Member x (xs ++ ys)
  Member-left x [] ys m = absurd m
  Member-left x (z ∷ xs) ys (inl is) = inl is
  Member-left x (z ∷ xs) ys (inr m) = inr (Member-left x xs ys m)

  pub Member-right : (x : X) (xs ys : List X) → Member x ys → Member x (xs ++ ys)
  Member-right x [] ys m = m
  Member-right x (z ∷ xs) ys m = inr (Member-right x xs ys m)

  pub Member-either : (x : X) (xs ys : List X) → Member x (xs ++ ys) → Member x xs ⊎ Member x ys
  Member-either x [] ys m = inr m
  Member-either x (z ∷ xs) ys (inl is) = inl (inl is)
  Member-either x (z ∷ xs) ys (inr m) = elim (Member-either x xs ys m) [ inl first ↦ inl (inr first) | inr second ↦ inr second ]

-- what holds of a test of two names, by whether they are one
pub by_names : (a b : ℕ) (P : Bool → Type 0) → (a ≡ b → P true) → (a ≢ b → P false) → P (a == b)
by_names a b P same other = by (a == b) refl
  where
    by : (t : Bool) → (a == b) ≡ t → P t
    by true e = same (eqb-true a b e)
    by false e = other (eqb-false a b e)

-- each name stands at one place
abbrev pub IsOnce : List ℕ → Type 0
IsOnce names = (i j a : ℕ) → slice_get names i ≡ Some a → slice_get names j ≡ Some a → i ≡ j

-- the list has the name, at its number
abbrev pub HasName : List ℕ → ℕ → Type 0
HasName names a = slice_get names (number_in names a) ≡ Some a

-- a name that stands somewhere stands at its number
pub HasName-at : (names : List ℕ) (a k : ℕ) → slice_get names k ≡ Some a → HasName names a
HasName-at [] a k is = absurd (none-some a is)
HasName-at (b ∷ bs) a zero is =
    by_names a b (λ t. slice_get (b ∷ bs) (if t then 0 else suc (number_in bs a)) ≡ Some a) (λ same. is)
    (λ other. absurd (other (sym (same_Some b a is))))
HasName-at (b ∷ bs) a (suc k) is =
    by_names a b (λ t. slice_get (b ∷ bs) (if t then 0 else suc (number_in bs a)) ≡ Some a) (λ same. ap Some (sym same))
    (λ other. HasName-at bs a k is)

-- a name is in the list, or its number is the length
pub name_cases : (names : List ℕ) (a : ℕ) → HasName names a ⊎ (number_in names a ≡ length names)
name_cases [] a = inr refl
name_cases (b ∷ bs) a =
    by_names a b (λ t. (slice_get (b ∷ bs) (if t then 0 else suc (number_in bs a)) ≡ Some a) ⊎ ((if t then 0 else suc (number_in bs a)) ≡ length (b ∷ bs)))
    (λ same. inl (ap Some (sym same)))
    (λ other. elim (name_cases bs a) [ inl has ↦ inl has | inr past ↦ inr (ap suc past) ])

-- a name whose number is the length isn't in the list
pub HasName-past : (names : List ℕ) (a : ℕ) → number_in names a ≡ length names → HasName names a → ⊥
HasName-past names a past has =
    let within : number_in names a < length names = slice_get_within names (number_in names a) a has in
    omega (arith, past, within)

-- a name that is in the list isn't added
pub with_name-known : (names : List ℕ) (a : ℕ) → HasName names a → with_name names a ≡ names
with_name-known [] a has = absurd (none-some a has)
with_name-known (b ∷ bs) a has =
    by_names a b (λ t. slice_get (b ∷ bs) (if t then 0 else suc (number_in bs a)) ≡ Some a → (if t then b ∷ bs else b ∷ with_name bs a) ≡ b ∷ bs)
    (λ same at. refl) (λ other at. ap (λ l. b ∷ l) (with_name-known bs a at)) has

-- another is added after the last
pub with_name-new : (names : List ℕ) (a : ℕ) → number_in names a ≡ length names → with_name names a ≡ names ++ a ∷ []
with_name-new [] a past = refl
with_name-new (b ∷ bs) a past =
    by_names a b (λ t. (if t then 0 else suc (number_in bs a)) ≡ length (b ∷ bs) → (if t then b ∷ bs else b ∷ with_name bs a) ≡ b ∷ (bs ++ a ∷ []))
    (λ same none. absurd (omega (arith, none)))
    (λ other none. ap (λ l. b ∷ l) (with_name-new bs a (omega (arith, none)))) past

-- so what holds of the list, or of it with the name at the end, holds once it is added
pub with_name-cases : (names : List ℕ) (a : ℕ) (P : List ℕ → Type 0) → (HasName names a → P names) → (number_in names a ≡ length names → P (names ++ a ∷ [])) → P (with_name names a)
with_name-cases names a P known new = elim (name_cases names a) [
  | inl has ↦ subst P (sym (with_name-known names a has)) (known has)
  | inr past ↦ subst P (sym (with_name-new names a past)) (new past)
]

-- names stay where they are
pub with_name-keeps : (names : List ℕ) (a k b : ℕ) → slice_get names k ≡ Some b → slice_get (with_name names a) k ≡ Some b
with_name-keeps names a k b is =
    with_name-cases names a (λ l. slice_get l k ≡ Some b) (λ has. is) (λ past. slice_get-append names (a ∷ []) k b is)

-- the added one is there
pub with_name-has : (names : List ℕ) (a : ℕ) → HasName (with_name names a) a
with_name-has names a =
    with_name-cases names a (λ l. HasName l a) (λ has. has)
    (λ past. HasName-at (names ++ a ∷ []) a (length names) (slice_get-pushed names a))

-- and no other
pub with_name-back : (names : List ℕ) (a k b : ℕ) → slice_get (with_name names a) k ≡ Some b → (slice_get names k ≡ Some b) ⊎ (b ≡ a)
with_name-back names a k b =
    with_name-cases names a (λ l. slice_get l k ≡ Some b → (slice_get names k ≡ Some b) ⊎ (b ≡ a)) (λ has is. inl is)
    (λ past is. elim (cases_eq k (length names)) [
      | inl last ↦ inr (same_Some b a (sym is ∙ ap (slice_get (names ++ a ∷ [])) last ∙ slice_get-pushed names a))
      | inr before ↦ inl (sym (slice_get-pushed_other names a k before) ∙ is)
    ])

-- and each stands once
pub IsOnce-with_name : (names : List ℕ) (a : ℕ) → IsOnce names → IsOnce (with_name names a)
IsOnce-with_name names a once =
    with_name-cases names a IsOnce (λ has. once)
    (λ past i j b first second.
    let at_end : (k c : ℕ) → slice_get (names ++ a ∷ []) k ≡ Some c → k ≡ length names → c ≡ a =
    λ k c is last. same_Some c a (sym is ∙ ap (slice_get (names ++ a ∷ [])) last ∙ slice_get-pushed names a) in
    let earlier : (k c : ℕ) → slice_get (names ++ a ∷ []) k ≡ Some c → k ≢ length names → slice_get names k ≡ Some c =
    λ k c is before. sym (slice_get-pushed_other names a k before) ∙ is in
    let no_other : (k c : ℕ) → slice_get names k ≡ Some c → c ≡ a → ⊥ =
    λ k c is same. HasName-past names a past (HasName-at names a k (is ∙ ap Some same)) in
    elim (cases_eq i (length names)) [
      | inl i_last ↦ elim (cases_eq j (length names)) [
        | inl j_last ↦ i_last ∙ sym j_last
        | inr j_before ↦ absurd (no_other j b (earlier j b second j_before) (at_end i b first i_last))
      ]
      | inr i_before ↦ elim (cases_eq j (length names)) [
        | inl j_last ↦ absurd (no_other i b (earlier i b first i_before) (at_end j b second j_last))
        | inr j_before ↦ once i j b (earlier i b first i_before) (earlier j b second j_before)
      ]
    ])

-- The same of values that are met

pub with_value-keeps : (names : List ℕ) (v : Value) (k b : ℕ) → slice_get names k ≡ Some b → slice_get (with_value names v) k ≡ Some b
with_value-keeps names Nil k b is = is
with_value-keeps names (Int n) k b is = is
with_value-keeps names (Ref a) k b is = with_name-keeps names a k b is

pub with_values-keeps : (names : List ℕ) (vs : List Value) (k b : ℕ) → slice_get names k ≡ Some b → slice_get (with_values names vs) k ≡ Some b
with_values-keeps names [] k b is = is
with_values-keeps names (v ∷ vs) k b is = with_values-keeps (with_value names v) vs k b (with_value-keeps names v k b is)

pub with_values-has : (names : List ℕ) (vs : List Value) (a : ℕ) → Member (Ref a) vs → HasName (with_values names vs) a
with_values-has names [] a m = absurd m
with_values-has names (v ∷ vs) a (inl is) =
    HasName-at (with_values (with_value names v) vs) a (number_in (with_value names v) a)
    (with_values-keeps (with_value names v) vs (number_in (with_value names v) a) a (subst (λ w. HasName (with_value names w) a) (sym is) (with_name-has names a)))
with_values-has names (v ∷ vs) a (inr m) = with_values-has (with_value names v) vs a m

with_value-back : (names : List ℕ) (v : Value) (k b : ℕ) → slice_get (with_value names v) k ≡ Some b → (slice_get names k ≡ Some b) ⊎ (v ≡ Ref b)
with_value-back names Nil k b is = inl is
with_value-back names (Int n) k b is = inl is
with_value-back names (Ref a) k b is = elim (with_name-back names a k b is) [ inl before ↦ inl before | inr same ↦ inr (ap Ref (sym same)) ]

pub with_values-back : (names : List ℕ) (vs : List Value) (k b : ℕ) → slice_get (with_values names vs) k ≡ Some b → (slice_get names k ≡ Some b) ⊎ Member (Ref b) vs
with_values-back names [] k b is = inl is
with_values-back names (v ∷ vs) k b is = elim (with_values-back (with_value names v) vs k b is) [
  | inr later ↦ inr (inr later)
  | inl at ↦ elim (with_value-back names v k b at) [ inl before ↦ inl before | inr same ↦ inr (inl same) ]
]

IsOnce-with_value : (names : List ℕ) (v : Value) → IsOnce names → IsOnce (with_value names v)
IsOnce-with_value names Nil once = once
IsOnce-with_value names (Int n) once = once
IsOnce-with_value names (Ref a) once = IsOnce-with_name names a once

pub IsOnce-with_values : (names : List ℕ) (vs : List Value) → IsOnce names → IsOnce (with_values names vs)
IsOnce-with_values names [] once = once
IsOnce-with_values names (v ∷ vs) once = IsOnce-with_values (with_value names v) vs (IsOnce-with_value names v once)
