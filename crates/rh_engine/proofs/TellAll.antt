-- Tickets that are told one after the other are told all at once, and are free.
use Rattle.std.proofs.Common.{◌≡◌, ◌≢◌, ℕ, zero, suc, ◌+◌, ◌<◌, ◌≤◌, Bool, true, false, List, [], ◌∷◌, ◌++◌, length, get_or, Some, None, refl, sym, ap, ◌∙◌, append_assoc, inl, inr, arith}
use Rattle.std.specs.Prelude.{◌==◌, if◌then◌else◌, slice_get, slice_set}
use Rattle.std.specs.List.{AllByRecursion, count_by}
use Rattle.std.proofs.lemmas.Bool.{cases_eq, cases_lt, eq-eqb, ne_eqb}
use Rattle.std.proofs.lemmas.List.{get_or-set_other, get_or_past}
use Rattle.std.proofs.lemmas.List.Sums.{sum_by-cons}
use Rattle.rh_watches.specs.declared.watch.Watch.{Watch}
use Rattle.rh_watches.specs.declared.watch.Watch.TheVariants.{Free}
use Rattle.rh_watches.specs.Watches.{WatchTable, IsWatchTable, is_gone, ticket_at, told_first, with_told}
use Rattle.rh_core.specs.Heap.{HeapState}
use Rattle.rh_core.specs.Watching.{next_gone_step, with_watches}
use Rattle.rh_engine.specs.Engine.{freed, table_told}

told_first-all : (ws : List Watch) (gone : List ℕ) → table_told (told_first ws gone) ≡ record { tickets = freed ws gone; gone = [] }
told_first-all ws [] = refl
told_first-all ws (ticket ∷ gone) = refl

-- one told before the others
pub table_told-with_told : (t : WatchTable) → table_told (with_told t) ≡ table_told t
table_told-with_told t = told_first-all t.tickets t.gone

told_first-none : (ws : List Watch) (gone : List ℕ) → slice_get gone 0 ≡ None → (told_first ws gone ≡ record { tickets = freed ws gone; gone = [] }) × (gone ≡ [])
told_first-none ws [] none = (refl, refl)
told_first-none ws (ticket ∷ gone) none = absurd cc

told_first-some : (ws : List Watch) (gone : List ℕ) (ticket : ℕ) → slice_get gone 0 ≡ Some ticket → gone ≡ ticket ∷ (told_first ws gone).gone
told_first-some ws [] ticket some = absurd cc
told_first-some ws (first ∷ gone) ticket some = cc

-- what the tickets told so far are, beside those that are to be told
pub record ToldSoFar (start now : HeapState) (told : List ℕ) : Type 0 where
  pub tickets : told ++ now.watches.gone ≡ start.watches.gone
  pub same : with_watches now (table_told now.watches) ≡ with_watches start (table_told start.watches)

-- before the first one
pub told-none : (start : HeapState) → ToldSoFar start start []
told-none start = record { tickets = refl; same = refl }

-- one ticket fewer is to be told
pub told-fewer : (now new : HeapState) (ticket : ℕ) → new ≡ (next_gone_step now).0 → Some ticket ≡ (next_gone_step now).1 → now.watches.gone ≡ ticket ∷ new.watches.gone
unfolding next_gone_step
told-fewer now new ticket stepped is =
    told_first-some now.watches.tickets now.watches.gone ticket (sym is) ∙ ap (λ (h : HeapState). ticket ∷ h.watches.gone) (sym stepped)

module _ (start now new : HeapState) (told : List ℕ) (so_far : ToldSoFar start now told) (stepped : new ≡ (next_gone_step now).0) where
  pub told-one : (ticket : ℕ) → Some ticket ≡ (next_gone_step now).1 → ToldSoFar start new (told ++ ticket ∷ [])
  unfolding next_gone_step
  told-one ticket is = record {
    tickets =
        ap (λ (h : HeapState). (told ++ ticket ∷ []) ++ h.watches.gone) stepped
        ∙ append_assoc told (ticket ∷ []) (with_told now.watches).gone
        ∙ ap (λ (ts : List ℕ). told ++ ts) (sym (told_first-some now.watches.tickets now.watches.gone ticket (sym is)))
        ∙ so_far.tickets;
    same =
        ap (λ (h : HeapState). with_watches h (table_told h.watches)) stepped
        ∙ ap (with_watches now) (table_told-with_told now.watches)
        ∙ so_far.same;
  }

  pub told-all : None ≡ (next_gone_step now).1 → (new ≡ with_watches start (table_told start.watches)) × (told ++ [] ≡ start.watches.gone)
  unfolding next_gone_step
  told-all is =
      let none = told_first-none now.watches.tickets now.watches.gone (sym is) in
      (stepped ∙ ap (with_watches now) none.0 ∙ so_far.same, ap (λ (ts : List ℕ). told ++ ts) (sym none.1) ∙ so_far.tickets)

-- what mutators use stays
pub told-mutators : (start now : HeapState) (told : List ℕ) → ToldSoFar start now told → now.mutators ≡ start.mutators
told-mutators start now told so_far = ap (λ (h : HeapState). h.mutators) so_far.same

-- ---- no more are to be told than there are tickets

abbrev one_if : Bool → ℕ
one_if b = if b then 1 else 0

one_if-most : (b : Bool) → one_if b ≤ 1
one_if-most true = omega arith
one_if-most false = omega arith

one_if-same : (x i : ℕ) → x ≡ i → one_if (x == i) ≡ 1
one_if-same x i same = ap one_if (eq-eqb x i same)

one_if-other : (x i : ℕ) → x ≢ i → one_if (x == i) ≡ 0
one_if-other x i other = ap one_if (ne_eqb x i other)

count-cons : (i x : ℕ) (xs : List ℕ) → count_by (λ m. m == i) (x ∷ xs) ≡ one_if (x == i) + count_by (λ m. m == i) xs
count-cons i x xs = sum_by-cons (λ m. one_if (m == i)) x xs

-- how many of some numbers are below one
abbrev below : ℕ → List ℕ → ℕ
below zero xs = 0
below (suc n) xs = count_by (λ m. m == n) xs + below n xs

below-none : (n : ℕ) → below n [] ≡ 0
below-none zero = refl
below-none (suc n) = omega (arith, below-none n)

below-past : (n x : ℕ) (xs : List ℕ) → n ≤ x → below n (x ∷ xs) ≡ below n xs
below-past zero x xs past = refl
below-past (suc n) x xs past =
    let other : x ≢ n = λ same. absurd (omega (arith, past, same)) in
    let rest = below-past n x xs (omega (arith, past)) in
    omega (arith, rest, count-cons n x xs, one_if-other x n other)

below-one : (n x : ℕ) (xs : List ℕ) → x < n → below n (x ∷ xs) ≡ 1 + below n xs
below-one zero x xs less = absurd (omega (arith, less))
below-one (suc n) x xs less = elim (cases_eq x n) [
  | inl same ↦
      let rest = below-past n x xs (omega (arith, same)) in omega (arith, rest, count-cons n x xs, one_if-same x n same)
  | inr other ↦
      let rest = below-one n x xs (elim (cases_lt x n) [
        | inl under ↦ under
        | inr past ↦ absurd (other (omega (arith, less, past)))
      ]) in omega (arith, rest, count-cons n x xs, one_if-other x n other)
]

-- where each of them stands there once at most
below-few : (n : ℕ) (xs : List ℕ) → ((m : ℕ) → count_by (λ k. k == m) xs ≤ 1) → below n xs ≤ n
below-few zero xs few = omega arith
below-few (suc n) xs few = let one = few n in let rest = below-few n xs few in omega (arith, one, rest)

-- where no other number stands there
below-all : (n : ℕ) (xs : List ℕ) → ((m : ℕ) → n ≤ m → count_by (λ k. k == m) xs ≡ 0) → below n xs ≡ length xs
below-all n [] none = below-none n
below-all n (x ∷ xs) none =
    let less : x < n = elim (cases_lt x n) [
      | inl under ↦ under
      | inr past ↦ absurd (omega (arith, none x past, count-cons x x xs, one_if-same x x refl))
    ] in
    let rest = below-all n xs (λ m past. omega (arith, none m past, count-cons m x xs)) in
    omega (arith, below-one n x xs less, rest)

pub few-to_tell : (t : WatchTable) → IsWatchTable t → length t.gone ≤ length t.tickets
few-to_tell t table =
    let all = below-all (length t.tickets) t.gone (λ m past. table.told m ∙ ap (λ w. one_if (is_gone w)) (get_or_past t.tickets m Free past)) in
    let few = below-few (length t.tickets) t.gone (λ m. omega (arith, table.told m, one_if-most (is_gone (ticket_at t m)))) in
    omega (arith, all, few)

-- ---- what is told is free

set-free_same : (ws : List Watch) (i : ℕ) → get_or (slice_set ws i Free) i Free ≡ Free
set-free_same [] i = refl
set-free_same (w ∷ ws) zero = refl
set-free_same (w ∷ ws) (suc i) = set-free_same ws i

set-free_kept : (ws : List Watch) (i j : ℕ) → get_or ws j Free ≡ Free → get_or (slice_set ws i Free) j Free ≡ Free
set-free_kept [] i j free = free
set-free_kept (w ∷ ws) zero zero free = refl
set-free_kept (w ∷ ws) zero (suc j) free = free
set-free_kept (w ∷ ws) (suc i) zero free = free
set-free_kept (w ∷ ws) (suc i) (suc j) free = set-free_kept ws i j free

freed-kept : (tickets : List ℕ) (ws : List Watch) (j : ℕ) → get_or ws j Free ≡ Free → get_or (freed ws tickets) j Free ≡ Free
freed-kept [] ws j free = free
freed-kept (ticket ∷ tickets) ws j free = freed-kept tickets (slice_set ws ticket Free) j (set-free_kept ws ticket j free)

pub freed-free : (before after : List ℕ) (ws : List Watch) (ticket : ℕ) → get_or (freed ws (before ++ ticket ∷ after)) ticket Free ≡ Free
freed-free [] after ws ticket = freed-kept after (slice_set ws ticket Free) ticket (set-free_same ws ticket)
freed-free (first ∷ before) after ws ticket = freed-free before after (slice_set ws first Free) ticket

pub freed-others : (tickets : List ℕ) (ws : List Watch) (j : ℕ) → AllByRecursion (λ n. n ≢ j) tickets → get_or (freed ws tickets) j Free ≡ get_or ws j Free
freed-others [] ws j others = refl
freed-others (ticket ∷ tickets) ws j others =
    freed-others tickets (slice_set ws ticket Free) j others.1 ∙ get_or-set_other ws ticket j Free Free (λ same. others.0 (sym same))
