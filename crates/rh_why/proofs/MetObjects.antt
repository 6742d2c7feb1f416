-- Holders of the objects that were met: each holds its object, has a lower rank than it, and ranks rise with the objects.
use Rattle.std.proofs.Common.{◌≡◌, ◌≢◌, ℕ, zero, suc, ◌+◌, ◌<◌, ◌≤◌, Bool, true, false, if◌then◌else◌, List, [], ◌∷◌, ◌++◌, length, Option, Some, None, refl, sym, ap, subst, inl, inr, ◌∙◌, arith}
use Rattle.std.specs.Prelude.{◌⊎◌, ◌==◌, nat_lt, Contains, slice_get}
use Rattle.std.proofs.lemmas.Bool.{cases_eq, eq-eqb, ne_eqb, lt-ltb, le-ltb}
use Rattle.std.proofs.lemmas.List.{length_push}
use Rattle.std.proofs.lemmas.Option.{none-some, same_Some, slice_get_within}
use Rattle.rh_layout.specs.declared.value.Value.{Value}
use Rattle.rh_layout.specs.declared.value.Value.TheVariants.{Nil, Int, Ref}
use Rattle.rh_layout.specs.declared.command.RootId.{RootId}
use Rattle.rh_layout.specs.lemmas.Elements.{slice_get-append, slice_get-pushed, slice_get-pushed_other}
use Rattle.rh_dump.specs.Dump.{GraphState, AreNumbered, IsNumberedAfter, met_after, met_with}
use Rattle.rh_why.specs.declared.holder.Holder.{Holder}
use Rattle.rh_why.specs.declared.holder.Holder.TheVariants.{Root, Field}
use Rattle.rh_why.specs.Path.{with_value}
use Rattle.rh_why.specs.Way.{Holds}

-- how late a holder comes in the order of the dump: the roots, then the fields of each object
abbrev pub rank : Holder → ℕ
rank (Root root) = 0
rank (Field number field) = suc number

pub record Good (g : GraphState) (c : ℕ) (hs : List Holder) : Type 0 where
  pub held : (j : ℕ) (h : Holder) → slice_get hs j ≡ Some h → Holds g h j
  pub low : (j : ℕ) (h : Holder) → slice_get hs j ≡ Some h → rank h ≤ j
  pub top : (j : ℕ) (h : Holder) → slice_get hs j ≡ Some h → rank h ≤ c
  pub rising : (i j : ℕ) (h k : Holder) → i ≤ j → slice_get hs i ≡ Some h → slice_get hs j ≡ Some k → rank h ≤ rank k

abbrev pub Keeps : List Holder → List Holder → Type 0
Keeps hs more = (j : ℕ) (h : Holder) → slice_get hs j ≡ Some h → slice_get more j ≡ Some h

-- the object has a holder, and none of a higher rank
abbrev pub Found : List Holder → ℕ → ℕ → Type 0
Found hs c t = (h : Holder) × (slice_get hs t ≡ Some h) × (rank h ≤ c)

pub there : {X : Type 0} (xs : List X) (i : ℕ) → i < length xs → (x : X) × (slice_get xs i ≡ Some x)
there [] i within = absurd (omega (arith, within))
there (x ∷ xs) zero within = (x, refl)
there (x ∷ xs) (suc i) within = there xs i (omega (arith, within))

pub good_none : (g : GraphState) → Good g 0 []
good_none g = record {
  held = λ j h is. absurd (none-some h is);
  low = λ j h is. absurd (none-some h is);
  top = λ j h is. absurd (none-some h is);
  rising = λ i j h k at is other. absurd (none-some h is);
}

pub good_more : (g : GraphState) (c d : ℕ) (hs : List Holder) → c ≤ d → Good g c hs → Good g d hs
good_more g c d hs less good = record {
  held = good.held;
  low = good.low;
  top = λ j h is. let t = good.top j h is in omega (arith, t, less);
  rising = good.rising;
}

-- one of a list that was pushed to is one that was there, or the last
pushed_cases : (hs : List Holder) (x : Holder) (j : ℕ) (h : Holder) → slice_get (hs ++ x ∷ []) j ≡ Some h → (slice_get hs j ≡ Some h) ⊎ ((j ≡ length hs) × (x ≡ h))
pushed_cases hs x j h is = elim (cases_eq j (length hs)) [
  | inl last ↦ inr (last, same_Some x h (sym (slice_get-pushed hs x) ∙ ap (slice_get (hs ++ x ∷ [])) (sym last) ∙ is))
  | inr other ↦ inl (sym (slice_get-pushed_other hs x j other) ∙ is)
]

module _ (g : GraphState) (c : ℕ) (hs : List Holder) (x : Holder) (good : Good g c hs) (own : rank x ≡ c) where
  module _ (holds : Holds g x (length hs)) (below : rank x ≤ length hs) where
    pushed_held : (j : ℕ) (h : Holder) → slice_get (hs ++ x ∷ []) j ≡ Some h → Holds g h j
    pushed_held j h is = elim (pushed_cases hs x j h is) [
      | inl old ↦ good.held j h old
      | inr new ↦ subst (λ (k : Holder). Holds g k j) new.1 (subst (Holds g x) (sym new.0) holds)
    ]

    pushed_low : (j : ℕ) (h : Holder) → slice_get (hs ++ x ∷ []) j ≡ Some h → rank h ≤ j
    pushed_low j h is = elim (pushed_cases hs x j h is) [
      | inl old ↦ good.low j h old
      | inr new ↦ let same = ap rank new.1 in let last = new.0 in omega (arith, same, last, below)
    ]

    pushed_top : (j : ℕ) (h : Holder) → slice_get (hs ++ x ∷ []) j ≡ Some h → rank h ≤ c
    pushed_top j h is = elim (pushed_cases hs x j h is) [
      | inl old ↦ good.top j h old
      | inr new ↦ let same = ap rank new.1 in omega (arith, same, own)
    ]

    pushed_rising : (i j : ℕ) (h k : Holder) → i ≤ j → slice_get (hs ++ x ∷ []) i ≡ Some h → slice_get (hs ++ x ∷ []) j ≡ Some k → rank h ≤ rank k
    pushed_rising i j h k at is other = elim (pushed_cases hs x j k other) [
      | inl old ↦ elim (pushed_cases hs x i h is) [
        | inl first ↦ good.rising i j h k at first old
        | inr last ↦ let within = slice_get_within hs j k old in let end = last.0 in absurd (omega (arith, at, end, within))
      ]
      | inr new ↦ let same = ap rank new.1 in let t = pushed_top i h is in omega (arith, same, own, t)
    ]

    good_push : Good g c (hs ++ x ∷ [])
    good_push = record { held = pushed_held; low = pushed_low; top = pushed_top; rising = pushed_rising }

  -- a reference is to an object that was met, or it is met now
  by_meeting : (t : ℕ) (P : List Holder → Type 0) → (t ≢ length hs → P hs) → (t ≡ length hs → P (hs ++ x ∷ [])) → P (with_value hs x (Ref t))
  by_meeting t P known new = elim (cases_eq t (length hs)) [
    | inl same ↦ subst (λ (b : Bool). P (if b then hs ++ x ∷ [] else hs)) (sym (eq-eqb t (length hs) same)) (new same)
    | inr other ↦ subst (λ (b : Bool). P (if b then hs ++ x ∷ [] else hs)) (sym (ne_eqb t (length hs) other)) (known other)
  ]

  pub good_value : (v : Value) → rank x ≤ length hs → ((t : ℕ) → v ≡ Ref t → Holds g x t) → Good g c (with_value hs x v)
  good_value Nil below holds = good
  good_value (Int n) below holds = good
  good_value (Ref t) below holds = by_meeting t (Good g c) (λ other. good) (λ same. good_push (subst (Holds g x) same (holds t refl)) below)

  pub keeps_value : (v : Value) → Keeps hs (with_value hs x v)
  keeps_value Nil j h is = is
  keeps_value (Int n) j h is = is
  keeps_value (Ref t) j h is = by_meeting t (λ (l : List Holder). slice_get l j ≡ Some h) (λ other. is) (λ same. slice_get-append hs (x ∷ []) j h is)

  pub longer_value : (v : Value) → length hs ≤ length (with_value hs x v)
  longer_value Nil = omega arith
  longer_value (Int n) = omega arith
  longer_value (Ref t) = by_meeting t (λ (l : List Holder). length hs ≤ length l) (λ other. omega arith) (λ same. let more = length_push hs x in omega (arith, more))

  pub length_value : (v : Value) → IsNumberedAfter (length hs) v → length (with_value hs x v) ≡ met_with (length hs) v
  length_value Nil numbered = refl
  length_value (Int n) numbered = refl
  length_value (Ref t) numbered =
      by_meeting t (λ (l : List Holder). length l ≡ (if nat_lt t (length hs) then length hs else t + 1))
      (λ other. let less : t < length hs = omega (arith, numbered, other) in ap (λ (b : Bool). if b then length hs else t + 1) (sym (lt-ltb t (length hs) less)))
      (λ same. let next : length (hs ++ x ∷ []) ≡ t + 1 = omega (arith, length_push hs x, same) in let not_less : length hs ≤ t = omega (arith, same) in next ∙ ap (λ (b : Bool). if b then length hs else t + 1) (sym (le-ltb t (length hs) not_less)))

  pub found_value : (v : Value) (t : ℕ) → IsNumberedAfter (length hs) v → v ≡ Ref t → Found (with_value hs x v) c t
  found_value Nil t numbered is = absurd cc
  found_value (Int n) t numbered is = absurd cc
  found_value (Ref s) t numbered is =
      let same : s ≡ t = cc in
      let all : Found (with_value hs x (Ref s)) c s = by_meeting s (λ (l : List Holder). Found l c s)
      (λ other. let less : s < length hs = omega (arith, numbered, other) in let at = there hs s less in (at.0, at.1, good.top s at.0 at.1))
      (λ last. (x, ap (slice_get (hs ++ x ∷ [])) last ∙ slice_get-pushed hs x, omega (arith, own))) in
      subst (Found (with_value hs x (Ref s)) c) same all
