-- Values numbered as they are met: in the end each reference has its object's number, and all are numbered breadth first.
use Rattle.std.specs.Prelude.{◌≡◌, ◌<◌, ◌≤◌, ◌+◌, ℕ, suc, nat_lt, if◌then◌else◌, List, [], ◌∷◌, ◌++◌, map, length, slice_get, Some}
use Rattle.std.proofs.Common.{refl, sym, ap, subst, ◌∙◌, arith}
use Rattle.std.proofs.lemmas.Option.{slice_get_within}
use Rattle.std.proofs.lemmas.Bool.{lt-ltb, le-ltb}
use Rattle.std.proofs.lemmas.List.{length_push}
use Rattle.rh_layout.specs.declared.value.Value.{Value}
use Rattle.rh_layout.specs.declared.value.Value.TheVariants.{Nil, Int, Ref}
use Rattle.rh_layout.specs.declared.command.RootId.{RootId}
use Rattle.rh_dump.specs.Dump.{met_with, met_after, IsNumberedAfter, AreNumbered}
use Rattle.rh_dump.specs.Numbering.{with_name, with_value, with_values, number_in, numbered_value, numbered_root}
use Rattle.rh_dump.specs.Meeting.{met_values, met_roots}
use Rattle.rh_dump.proofs.numbers.Names.{by_names, IsOnce, HasName, HasName-at, with_name-cases, with_name-has, with_values-keeps}

-- the names of the one list stand where they stand in the other
abbrev pub IsBeginning : List ℕ → List ℕ → Type 0
IsBeginning xs ys = (k a : ℕ) → slice_get xs k ≡ Some a → slice_get ys k ≡ Some a

pub length-met_values : (names : List ℕ) (vs : List Value) → length (met_values names vs) ≡ length vs
length-met_values names [] = refl
length-met_values names (v ∷ vs) = ap suc (length-met_values (with_value names v) vs)

-- In the end each value is numbered by all names

module _ (all : List ℕ) (once : IsOnce all) where
  -- a name that was met has its number
  pub number_in-beginning : (names : List ℕ) (a : ℕ) → IsBeginning names all → HasName names a → number_in names a ≡ number_in all a
  number_in-beginning names a begins has =
      let there : slice_get all (number_in names a) ≡ Some a = begins (number_in names a) a has in
      once (number_in names a) (number_in all a) a there (HasName-at all a (number_in names a) there)

  numbered_value-beginning : (names : List ℕ) (v : Value) → IsBeginning (with_value names v) all → numbered_value (with_value names v) v ≡ numbered_value all v
  numbered_value-beginning names Nil begins = refl
  numbered_value-beginning names (Int n) begins = refl
  numbered_value-beginning names (Ref a) begins = ap Ref (number_in-beginning (with_name names a) a begins (with_name-has names a))

  pub met_values-all : (names : List ℕ) (vs : List Value) → IsBeginning (with_values names vs) all → met_values names vs ≡ map (numbered_value all) vs
  met_values-all names [] begins = refl
  met_values-all names (v ∷ vs) begins =
      let first : IsBeginning (with_value names v) all = λ k a is. begins k a (with_values-keeps (with_value names v) vs k a is) in
      ap (λ w. w ∷ met_values (with_value names v) vs) (numbered_value-beginning names v first)
      ∙ ap (λ l. numbered_value all v ∷ l) (met_values-all (with_value names v) vs begins)

  pub met_roots-all : (names : List ℕ) (roots : List (RootId × Value)) → IsBeginning (with_values names (map (λ (r : RootId × Value). r.1) roots)) all → met_roots names roots ≡ map (numbered_root all) roots
  met_roots-all names [] begins = refl
  met_roots-all names (r ∷ roots) begins =
      let first : IsBeginning (with_value names r.1) all = λ k a is. begins k a (with_values-keeps (with_value names r.1) (map (λ (r : RootId × Value). r.1) roots) k a is) in
      let entry : Value → RootId × Value = λ w. (r.0, w) in
      ap (λ w. entry w ∷ met_roots (with_value names r.1) roots) (numbered_value-beginning names r.1 first)
      ∙ ap (λ l. numbered_root all r ∷ l) (met_roots-all (with_value names r.1) roots begins)

-- Values are numbered breadth first

-- a name that is added stands last
pub number_in-pushed : (names : List ℕ) (a : ℕ) → number_in names a ≡ length names → number_in (names ++ a ∷ []) a ≡ length names
number_in-pushed [] a past = by_names a a (λ t. (if t then 0 else suc 0) ≡ 0) (λ same. refl) (λ other. absurd (other refl))
number_in-pushed (b ∷ bs) a past =
    by_names a b (λ t. (if t then 0 else suc (number_in bs a)) ≡ length (b ∷ bs) → (if t then 0 else suc (number_in (bs ++ a ∷ []) a)) ≡ length (b ∷ bs))
    (λ same at. at) (λ other at. ap suc (number_in-pushed bs a (omega (arith, at)))) past

-- a reference that is met takes the next number, or has one
length-with_value : (names : List ℕ) (v : Value) → (met_with (length names) (numbered_value (with_value names v) v) ≡ length (with_value names v)) × IsNumberedAfter (length names) (numbered_value (with_value names v) v)
length-with_value names Nil = (refl, tt)
length-with_value names (Int n) = (refl, tt)
length-with_value names (Ref a) =
    with_name-cases names a (λ l. ((if nat_lt (number_in l a) (length names) then length names else number_in l a + 1) ≡ length l) × (number_in l a ≤ length names))
    (λ has.
    let within : number_in names a < length names = slice_get_within names (number_in names a) a has in
    (ap (λ t. if t then length names else number_in names a + 1) (lt-ltb (number_in names a) (length names) within), omega (arith, within)))
    (λ past.
    let last : number_in (names ++ a ∷ []) a ≡ length names = number_in-pushed names a past in (
      ap (λ k. if nat_lt k (length names) then length names else k + 1) last
          ∙ ap (λ t. if t then length names else length names + 1) (le-ltb (length names) (length names) (omega arith))
          ∙ sym (length_push names a),
      omega (arith, last),
    ))

pub met_after-values : (names : List ℕ) (vs : List Value) → met_after (length names) (met_values names vs) ≡ length (with_values names vs)
met_after-values names [] = refl
met_after-values names (v ∷ vs) =
    ap (λ m. met_after m (met_values (with_value names v) vs)) (length-with_value names v).0 ∙ met_after-values (with_value names v) vs

pub AreNumbered-values : (names : List ℕ) (vs : List Value) → AreNumbered (length names) (met_values names vs)
AreNumbered-values names [] = tt
AreNumbered-values names (v ∷ vs) =
    ((length-with_value names v).1, subst (λ m. AreNumbered m (met_values (with_value names v) vs)) (sym (length-with_value names v).0) (AreNumbered-values (with_value names v) vs))

-- one list of values after another
pub met_after-append : (met : ℕ) (xs ys : List Value) → met_after met (xs ++ ys) ≡ met_after (met_after met xs) ys
met_after-append met [] ys = refl
met_after-append met (x ∷ xs) ys = met_after-append (met_with met x) xs ys

pub AreNumbered-append : (met : ℕ) (xs ys : List Value) → AreNumbered met xs → AreNumbered (met_after met xs) ys → AreNumbered met (xs ++ ys)
AreNumbered-append met [] ys first second = second
AreNumbered-append met (x ∷ xs) ys first second = (first.0, AreNumbered-append (met_with met x) xs ys first.1 second)
