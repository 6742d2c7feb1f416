-- The path by first holders is a way, and no way is shorter.
use Rattle.std.proofs.Common.{◌≡◌, ℕ, zero, suc, ◌<◌, ◌≤◌, List, [], ◌∷◌, length, Option, Some, None, refl, sym, ap, subst, ◌∙◌, arith}
use Rattle.std.specs.Prelude.{reverse, slice_get}
use Rattle.std.proofs.lemmas.List.{length-reverse, reverse-reverse}
use Rattle.std.proofs.lemmas.Option.{slice_get_past, slice_get_within}
use Rattle.rh_dump.specs.Dump.{GraphState, IsGraph}
use Rattle.rh_why.specs.declared.holder.Holder.{Holder}
use Rattle.rh_why.specs.declared.holder.Holder.TheVariants.{Root, Field}
use Rattle.rh_why.specs.declared.holder.Step.{Step}
use Rattle.rh_why.specs.Path.{first_holders, path_of, steps_by, steps_to}
use Rattle.rh_why.specs.Way.{Holds, IsWayOn, IsWayTo}
use Rattle.rh_why.proofs.MetObjects.{Found, rank, there}
use Rattle.rh_why.proofs.First.{all_good, all_long, found_all}

module _ (g : GraphState) (is : IsGraph g) where
  abbrev H : List Holder
  H = first_holders g

  abbrev long : ℕ → ℕ → ℕ
  long m j = length (steps_to m H j)

  -- ---- a way

  way_from : (m j : ℕ) (h : Holder) → slice_get H j ≡ Some h → j < suc m → ((n : ℕ) → n < m → n < length H → IsWayTo g (steps_to m H n) n) → IsWayTo g (steps_by (steps_to m H) j (Some h)) j
  way_from m j (Root r) at within on = (refl, (all_good g is).held j (Root r) at, refl)
  way_from m j (Field n f) at within on =
      let low : suc n ≤ j = (all_good g is).low j (Field n f) at in
      let below = slice_get_within H j (Field n f) at in
      (refl, (all_good g is).held j (Field n f) at, on n (omega (arith, low, within)) (omega (arith, low, below)))

  way : (m j : ℕ) → j < m → j < length H → IsWayTo g (steps_to m H j) j
  way zero j within below = absurd (omega (arith, within))
  way (suc m) j within below =
      let at = there H j below in
      subst (λ (o : Option Holder). IsWayTo g (steps_by (steps_to m H) j o) j) (sym at.1) (way_from m j at.0 at.1 within (way m))

  -- ---- paths do not grow shorter with the numbers

  grown_by : (m j : ℕ) (o : Option Holder) → ((n : ℕ) → long m n ≤ long (suc m) n) → length (steps_by (steps_to m H) j o) ≤ length (steps_by (steps_to (suc m) H) j o)
  grown_by m j None more = omega arith
  grown_by m j (Some (Root r)) more = omega arith
  grown_by m j (Some (Field n f)) more = let e = more n in omega (arith, e)

  grown : (m j : ℕ) → long m j ≤ long (suc m) j
  grown zero j = omega arith
  grown (suc m) j = grown_by m j (slice_get H j) (grown m)

  rises_by : (m i j : ℕ) (h k : Holder) → slice_get H i ≡ Some h → slice_get H j ≡ Some k → i ≤ j → j < suc m → ((p q : ℕ) → p ≤ q → q < m → q < length H → long m p ≤ long m q)
      → length (steps_by (steps_to m H) i (Some h)) ≤ length (steps_by (steps_to m H) j (Some k))
  rises_by m i j (Root r) (Root s) at other less within on = omega arith
  rises_by m i j (Root r) (Field q e) at other less within on = omega arith
  rises_by m i j (Field p f) (Root s) at other less within on =
      let up : suc p ≤ 0 = (all_good g is).rising i j (Field p f) (Root s) less at other in
      absurd (omega (arith, up))
  rises_by m i j (Field p f) (Field q e) at other less within on =
      let up : suc p ≤ suc q = (all_good g is).rising i j (Field p f) (Field q e) less at other in
      let low : suc q ≤ j = (all_good g is).low j (Field q e) other in
      let below = slice_get_within H j (Field q e) other in
      let rest = on p q (omega (arith, up)) (omega (arith, low, within)) (omega (arith, low, below)) in
      omega (arith, rest)

  rises : (m i j : ℕ) → i ≤ j → j < m → j < length H → long m i ≤ long m j
  rises zero i j less within below = omega (arith, within)
  rises (suc m) i j less within below =
      let one = there H i (omega (arith, less, below)) in
      let two = there H j below in
      subst (λ (o : Option Holder). length (steps_by (steps_to m H) i o) ≤ long (suc m) j) (sym one.1)
      (subst (λ (o : Option Holder). length (steps_by (steps_to m H) i (Some one.0)) ≤ length (steps_by (steps_to m H) j o)) (sym two.1) (rises_by m i j one.0 two.0 one.1 two.1 less within (rises m)))

  -- ---- no way is shorter

  pub reached : (steps : List Step) (j : ℕ) → IsWayTo g steps j → j < length H
  reached [] j w = absurd w
  reached (step ∷ steps) j w = let found = found_all g is step.holder j w.1 in slice_get_within H j found.0 found.1

  shorter_from : (m j : ℕ) (k h : Holder) (rest : List Step) → slice_get H j ≡ Some k → rank k ≤ rank h → length H ≤ suc m → IsWayOn (IsWayTo g rest) rest h → ((n : ℕ) → IsWayTo g rest n → long (suc m) n ≤ length rest)
      → length (steps_by (steps_to m H) j (Some k)) ≤ suc (length rest)
  shorter_from m j (Root r) h rest at less all on shorter = omega arith
  shorter_from m j (Field q e) (Root r) rest at less all on shorter = absurd (omega (arith, less))
  shorter_from m j (Field q e) (Field p f) rest at less all on shorter =
      let below = reached rest p on in
      let own = shorter p on in
      let up = rises (suc m) q p (omega (arith, less)) (omega (arith, below, all)) below in
      let more = grown m q in
      omega (arith, own, up, more)

  shorter : (m : ℕ) → length H ≤ m → (steps : List Step) (j : ℕ) → IsWayTo g steps j → long m j ≤ length steps
  shorter zero all steps j w = omega arith
  shorter (suc m) all [] j w = absurd w
  shorter (suc m) all (step ∷ steps) j w =
      let found = found_all g is step.holder j w.1 in
      subst (λ (o : Option Holder). length (steps_by (steps_to m H) j o) ≤ suc (length steps)) (sym found.1) (shorter_from m j found.0 step.holder steps found.1 found.2 all w.2 (shorter (suc m) all steps))

  -- ---- the path of a graph

  abbrev up : ℕ → List Step
  up to = steps_to (length H) H to

  pub path_is_way : (to : ℕ) → to < length g.objects → IsWayTo g (reverse (path_of g to)) to
  path_is_way to within =
      let below : to < length H = omega (arith, within, all_long g is) in
      subst (λ (s : List Step). IsWayTo g s to) (sym (reverse-reverse (up to))) (way (length H) to below below)

  pub path_is_shortest : (to : ℕ) (steps : List Step) → IsWayTo g steps to → length (path_of g to) ≤ length steps
  path_is_shortest to steps w =
      let same = length-reverse (up to) in
      let less = shorter (length H) (omega arith) steps to w in
      omega (arith, same, less)

  pub way_within : (to : ℕ) → ((steps : List Step) × IsWayTo g steps to) → to < length g.objects
  way_within to w = let below = reached w.0 to w.1 in omega (arith, below, all_long g is)

  none_by : (m to : ℕ) → length H ≤ to → steps_to m H to ≡ []
  none_by zero to past = refl
  none_by (suc m) to past = ap (steps_by (steps_to m H) to) (slice_get_past H to past)

  pub no_path : (to : ℕ) → length g.objects ≤ to → path_of g to ≡ []
  no_path to past = ap reverse (none_by (length H) to (omega (arith, past, all_long g is)))
