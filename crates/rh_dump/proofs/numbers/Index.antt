-- An index of names: at each name its number.
use Rattle.std.specs.Prelude.{◌≡◌, ◌≢◌, ◌<◌, ◌≤◌, ℕ, List, [], ◌∷◌, ◌++◌, length, slice_get, slice_set, Some}
use Rattle.std.proofs.Common.{sym, ap, ◌∙◌, arith, inl, inr}
use Rattle.std.proofs.lemmas.Option.{same_Some, slice_get_within}
use Rattle.std.proofs.lemmas.Bool.{cases_eq}
use Rattle.rh_layout.specs.lemmas.Elements.{slice_get-pushed, slice_get-pushed_other, slice_get-set_same, slice_get-set_other}
use Rattle.rh_dump.specs.Numbering.{with_name, number_in}
use Rattle.rh_dump.specs.Graph.{FlatGraph}
use Rattle.rh_dump.specs.Meeting.{IsIndexOf, NumberingState}
use Rattle.std.proofs.lemmas.List.{length-set}
use Rattle.rh_dump.proofs.numbers.Names.{IsOnce, HasName-at, name_cases, with_name-known, with_name-new}
use Rattle.rh_dump.proofs.numbers.Numbered.{length-below}
use Rattle.rh_dump.proofs.numbers.MetValues.{number_in-pushed}

-- a state of its parts, and as it is stored
abbrev limited : ℕ → List ℕ → FlatGraph → NumberingState
limited limit names flat = record { limit = limit; names = names; flat = flat }

abbrev pub state_in : List ℕ → List ℕ → FlatGraph → NumberingState
state_in numbers names flat = record { limit = length numbers; names = names; flat = flat }

module _ (numbers names : List ℕ) (index : IsIndexOf numbers names) where
  -- names of an index stand once
  pub IsIndexOf-once : IsOnce names
  IsIndexOf-once i j a first second = same_Some i j (sym (index i a first) ∙ index j a second)

  -- and are no more than the index has places
  pub IsIndexOf-few : length names ≤ length numbers
  IsIndexOf-few = length-below names (length numbers) IsIndexOf-once (λ k a is. slice_get_within numbers a k (index k a is))

  -- a name that stands at the number that the index says is known
  pub IsIndexOf-known : (a k : ℕ) → slice_get names k ≡ Some a → (with_name names a ≡ names) × (k ≡ number_in names a)
  IsIndexOf-known a k is =
      let has = HasName-at names a k is in
      (with_name-known names a has, IsIndexOf-once k (number_in names a) a is has)

  -- and one that doesn't is new
  pub IsIndexOf-new : (a k : ℕ) → slice_get numbers a ≡ Some k → slice_get names k ≢ Some a → number_in names a ≡ length names
  IsIndexOf-new a k at other = elim (name_cases names a) [
    | inr past ↦ past
    | inl has ↦ absurd (other (ap (slice_get names) (same_Some k (number_in names a) (sym at ∙ index (number_in names a) a has)) ∙ has))
  ]

  -- which then takes the next number
  pub IsIndexOf-push : (a k : ℕ) → slice_get numbers a ≡ Some k → number_in names a ≡ length names → IsIndexOf (slice_set numbers a (length names)) (names ++ a ∷ [])
  IsIndexOf-push a k at past i b is = elim (cases_eq i (length names)) [
    | inl last ↦
        let it : b ≡ a = same_Some b a (sym is ∙ ap (slice_get (names ++ a ∷ [])) last ∙ slice_get-pushed names a) in
        ap (slice_get (slice_set numbers a (length names))) it ∙ slice_get-set_same numbers a k (length names) at ∙ ap Some (sym last)
    | inr before ↦
        let there : slice_get names i ≡ Some b = sym (slice_get-pushed_other names a i before) ∙ is in
        let other : b ≢ a = λ same.
        let within : number_in names a < length names = slice_get_within names (number_in names a) a (HasName-at names a i (there ∙ ap Some same)) in
        omega (arith, past, within) in
        slice_get-set_other numbers a b (length names) other ∙ index i b there
  ]

  pub IsIndexOf-added : (a : ℕ) → number_in names a ≡ length names → (with_name names a ≡ names ++ a ∷ []) × (length names ≡ number_in (with_name names a) a)
  IsIndexOf-added a past =
      let added = with_name-new names a past in
      (added, sym (ap (λ l. number_in l a) added ∙ number_in-pushed names a past))

-- the state once a name was added
pub with_name-state : (s : NumberingState) (numbers names more : List ℕ) (flat : FlatGraph) (a n : ℕ)
    → state_in numbers names flat ≡ s → more ≡ names ++ a ∷ [] → number_in names a ≡ length names
    → state_in (slice_set numbers a n) more flat ≡ record s { names = with_name s.names a }
with_name-state s numbers names more flat a n is pushed past =
    ap (λ l. limited l more flat) (length-set numbers a n)
    ∙ ap (λ l. limited (length numbers) l flat) (pushed ∙ sym (with_name-new names a past))
    ∙ ap (λ (t : NumberingState). limited t.limit (with_name t.names a) t.flat) is
