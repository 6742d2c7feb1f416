-- Shares compared with the calls of their owners in a history.
use Rattle.std.proofs.Common.{◌≡◌, ◌≢◌, ℕ, zero, suc, ◌+◌, ◌<◌, ◌≤◌, Bool, true, false, cond, List, [], ◌∷◌, ◌++◌, Some, None, length, take, drop, get_or, refl, sym, ap, subst, ◌∙◌, arith, add-one}
use Rattle.std.specs.Prelude.{◌==◌, ◌&&◌, nat_lt, slice_get}
use Rattle.std.proofs.lemmas.Bool.{and_parts, ltb-true, ltb-false, lt-ltb, le-ltb, eqb-true, eq-eqb}
use Rattle.std.proofs.lemmas.List.{at_drop_more}
use Rattle.rh_replay.specs.declared.call.Call.{Call}
use Rattle.rh_shared.specs.Shares.{HistoryDiffersAt, MutatorState, calls_of, due_to, first_mutators, have_owners_below, new_mutator, mutator_count, share_of, IsFirstDifference, IsLeastStranger, IsOneEach}

-- Calls of an owner.

-- two numbers that differ aren't told equal
pub differ-eqb : (m n : ℕ) → (m ≡ n → ⊥) → (m == n) ≡ false
differ-eqb m n apart = by_test (m == n) refl
  where
    by_test : (b : Bool) → (m == n) ≡ b → (m == n) ≡ false
    by_test true e = absurd (apart (eqb-true m n e))
    by_test false e = e

-- Lists.

take-itself : {X : Type 0} (k : ℕ) (xs ys : List X) → k ≤ length xs → take k (take k xs ++ ys) ≡ take k xs
take-itself zero xs ys few = refl
take-itself (suc k) [] ys few = absurd (omega arith)
take-itself (suc k) (x ∷ xs) ys few = ap (λ rest. x ∷ rest) (take-itself k xs ys (omega arith))

slice_get-past_front : {X : Type 0} (k : ℕ) (xs ys : List X) (y : X) → k ≤ length xs → slice_get (take k xs ++ y ∷ ys) k ≡ Some y
slice_get-past_front zero xs ys y few = refl
slice_get-past_front (suc k) [] ys y few = absurd (omega arith)
slice_get-past_front (suc k) (x ∷ xs) ys y few = slice_get-past_front k xs ys y (omega arith)

slice_get-of_front : {X : Type 0} (k : ℕ) (xs : List X) → slice_get (take k xs) k ≡ None
slice_get-of_front zero xs = refl
slice_get-of_front (suc k) [] = refl
slice_get-of_front (suc k) (x ∷ xs) = slice_get-of_front k xs

take-more : {X : Type 0} (k : ℕ) (xs ys : List X) (x : X) → slice_get xs k ≡ Some x → take (suc k) xs ++ ys ≡ take k xs ++ x ∷ ys
take-more k [] ys x e = absurd (cc)
take-more zero (z ∷ xs) ys x e = let same : z ≡ x = cc in ap (λ w. w ∷ ys) same
take-more (suc k) (z ∷ xs) ys x e = ap (λ rest. z ∷ rest) (take-more k xs ys x e)

within-get : {X : Type 0} (k : ℕ) (xs : List X) (x : X) → slice_get xs k ≡ Some x → k < length xs
within-get k [] x e = absurd (cc)
within-get zero (z ∷ xs) x e = omega arith
within-get (suc k) (z ∷ xs) x e = omega (arith, within-get k xs x e)

within-some : {X : Type 0} (k : ℕ) (xs : List X) → k < length xs → slice_get xs k ≡ None → ⊥
within-some k [] few e = omega arith
within-some zero (x ∷ xs) few e = cc
within-some (suc k) (x ∷ xs) few e = within-some k xs (omega arith) e

-- The first difference.

-- what was found of a share, and the calls that are left, are the owner's calls
abbrev pub Goes : ℕ → List Call → List Call → List Call → Type 0
Goes found share rest all = take found share ++ rest ≡ all

next-call : (owner i : ℕ) (calls : List Call) (d : Call) (b : Bool) → i < length calls → ((get_or calls i d).owner == owner) ≡ b
    → calls_of owner (drop i calls) ≡ cond b (get_or calls i d ∷ calls_of owner (drop (i + 1) calls)) (calls_of owner (drop (i + 1) calls))
next-call owner i calls d b within test =
    at_drop_more (calls_of owner) calls i d within
    ∙ ap (λ b. cond b (get_or calls i d ∷ calls_of owner (drop (i + 1) calls)) (calls_of owner (drop (i + 1) calls))) test

found-more : (found : ℕ) (share rest all : List Call) (c : Call) → slice_get share found ≡ Some c → Goes found share (c ∷ rest) all → Goes (found + 1) share rest all
found-more found share rest all c stands goes = rw (add-one found) (take-more found share rest c stands ∙ goes)

pub found-within : (found : ℕ) (share : List Call) (c : Call) → slice_get share found ≡ Some c → found + 1 ≤ length share
found-within found share c stands = omega (arith, within-get found share c stands)

differs-here : (found : ℕ) (share rest all : List Call) (c : Call) → found ≤ length share → (slice_get share found ≡ Some c → ⊥) → Goes found share (c ∷ rest) all
    → IsFirstDifference share all (found + 1)
differs-here found share rest all c few other goes = record {
  before = found;
  counted = refl;
  same = sym (take-itself found share (c ∷ rest) few) ∙ ap (take found) goes;
  differ = λ same. other (same ∙ sym (ap (λ xs. slice_get xs found) goes) ∙ slice_get-past_front found share rest c few);
}

-- the next call is another owner's
pub goes-other : (owner i found : ℕ) (share calls : List Call) (d : Call) → i < length calls → ((get_or calls i d).owner ≡ owner → ⊥)
    → Goes found share (calls_of owner (drop i calls)) (calls_of owner calls) → Goes found share (calls_of owner (drop (i + 1) calls)) (calls_of owner calls)
goes-other owner i found share calls d within other goes =
    subst (λ rest. Goes found share rest (calls_of owner calls)) (next-call owner i calls d false within (differ-eqb (get_or calls i d).owner owner other)) goes

-- it is the owner's, and stands in the share
pub goes-own : (owner i found : ℕ) (share calls : List Call) (d : Call) → i < length calls → (get_or calls i d).owner ≡ owner → slice_get share found ≡ Some (get_or calls i d)
    → Goes found share (calls_of owner (drop i calls)) (calls_of owner calls) → Goes (found + 1) share (calls_of owner (drop (i + 1) calls)) (calls_of owner calls)
goes-own owner i found share calls d within own stands goes =
    found-more found share (calls_of owner (drop (i + 1) calls)) (calls_of owner calls) (get_or calls i d) stands
    (subst (λ rest. Goes found share rest (calls_of owner calls)) (next-call owner i calls d true within (eq-eqb (get_or calls i d).owner owner own)) goes)

-- it is the owner's, and doesn't stand there
pub goes-wrong : (owner i found : ℕ) (share calls : List Call) (d : Call) → i < length calls → (get_or calls i d).owner ≡ owner → found ≤ length share
    → (slice_get share found ≡ Some (get_or calls i d) → ⊥)
    → Goes found share (calls_of owner (drop i calls)) (calls_of owner calls) → IsFirstDifference share (calls_of owner calls) (found + 1)
goes-wrong owner i found share calls d within own few other goes =
    differs-here found share (calls_of owner (drop (i + 1) calls)) (calls_of owner calls) (get_or calls i d) few other
    (subst (λ rest. Goes found share rest (calls_of owner calls)) (next-call owner i calls d true within (eq-eqb (get_or calls i d).owner owner own)) goes)

append-nothing : {X : Type 0} (xs : List X) → xs ++ [] ≡ xs
append-nothing [] = refl
append-nothing (x ∷ xs) = ap (λ rest. x ∷ rest) (append-nothing xs)

pub differs-at_end : (found : ℕ) (share all : List Call) → found < length share → Goes found share [] all → IsFirstDifference share all (found + 1)
differs-at_end found share all few goes =
    let whole : take found share ≡ all = sym (append-nothing (take found share)) ∙ goes in
    record {
      before = found;
      counted = refl;
      same = sym (take-itself found share [] (omega arith)) ∙ ap (take found) goes;
      differ = λ same. within-some found share few (same ∙ sym (ap (λ xs. slice_get xs found) whole) ∙ slice_get-of_front found share);
    }

-- one owner more
pub shares-through : (n : ℕ) (ms : List MutatorState) (calls : List Call) → ((o : ℕ) → o < n → share_of o ms ≡ calls_of o calls) → share_of n ms ≡ calls_of n calls
    → (o : ℕ) → o < n + 1 → share_of o ms ≡ calls_of o calls
shares-through n ms calls below here o less = by_test (nat_lt o n) refl
  where
    by_test : (b : Bool) → nat_lt o n ≡ b → share_of o ms ≡ calls_of o calls
    by_test true e = below o (ltb-true o n e)
    by_test false e = let same : n ≡ o = omega (arith, ltb-false o n e, less) in subst (λ p. share_of p ms ≡ calls_of p calls) same here

-- one owner more that has one mutator
pub counts-through : (n : ℕ) (ms : List MutatorState) → ((o : ℕ) → o < n → mutator_count o ms ≡ 1) → mutator_count n ms ≡ 1
    → (o : ℕ) → o < n + 1 → mutator_count o ms ≡ 1
counts-through n ms below here o less = by_test (nat_lt o n) refl
  where
    by_test : (b : Bool) → nat_lt o n ≡ b → mutator_count o ms ≡ 1
    by_test true e = below o (ltb-true o n e)
    by_test false e = let same : n ≡ o = omega (arith, ltb-false o n e, less) in subst (λ p. mutator_count p ms ≡ 1) same here

-- Mutators of an owner.

next-share-own : (owner i : ℕ) (ms : List MutatorState) (m : MutatorState) → i < length ms → m ≡ get_or ms i m → (m.owner == owner) ≡ true
    → share_of owner (drop i ms) ≡ m.share.history.calls
next-share-own owner i ms m within is own =
    at_drop_more (share_of owner) ms i m within
    ∙ ap (λ (d : MutatorState). share_of owner (d ∷ drop (i + 1) ms)) (sym is)
    ∙ ap (λ b. cond b m.share.history.calls (share_of owner (drop (i + 1) ms))) own

pub own-share : (owner i : ℕ) (ms : List MutatorState) (m : MutatorState) (calls : List Call) → i < length ms → m ≡ get_or ms i m → (m.owner == owner) ≡ true
    → calls ≡ m.share.history.calls → share_of owner (drop i ms) ≡ share_of owner ms → calls ≡ share_of owner ms
own-share owner i ms m calls within is own calls_are goes = calls_are ∙ sym (next-share-own owner i ms m within is own) ∙ goes

pub next-share-other : (owner i : ℕ) (ms : List MutatorState) (m : MutatorState) → i < length ms → m ≡ get_or ms i m → (m.owner == owner) ≡ false
    → share_of owner (drop i ms) ≡ share_of owner (drop (i + 1) ms)
next-share-other owner i ms m within is other =
    at_drop_more (share_of owner) ms i m within
    ∙ ap (λ (d : MutatorState). share_of owner (d ∷ drop (i + 1) ms)) (sym is)
    ∙ ap (λ b. cond b m.share.history.calls (share_of owner (drop (i + 1) ms))) other

pub next-count : (owner i : ℕ) (ms : List MutatorState) (m : MutatorState) (b : Bool) → i < length ms → m ≡ get_or ms i m → (m.owner == owner) ≡ b
    → mutator_count owner (drop i ms) ≡ cond b (1 + mutator_count owner (drop (i + 1) ms)) (mutator_count owner (drop (i + 1) ms))
next-count owner i ms m b within is test =
    at_drop_more (mutator_count owner) ms i m within
    ∙ ap (λ (d : MutatorState). mutator_count owner (d ∷ drop (i + 1) ms)) (sym is)
    ∙ ap (λ b. cond b (1 + mutator_count owner (drop (i + 1) ms)) (mutator_count owner (drop (i + 1) ms))) test

pub next-below : (owners i : ℕ) (ms : List MutatorState) (m : MutatorState) (b : Bool) → i < length ms → m ≡ get_or ms i m → nat_lt m.owner owners ≡ b
    → have_owners_below owners (drop i ms) ≡ (b && have_owners_below owners (drop (i + 1) ms))
next-below owners i ms m b within is test =
    at_drop_more (have_owners_below owners) ms i m within
    ∙ ap (λ (d : MutatorState). have_owners_below owners (d ∷ drop (i + 1) ms)) (sym is)
    ∙ ap (λ b. b && have_owners_below owners (drop (i + 1) ms)) test

-- One mutator for each owner.

-- where each is for one of so many owners, another owner has none
count-none : (owners o : ℕ) (ms : List MutatorState) → have_owners_below owners ms ≡ true → owners ≤ o → mutator_count o ms ≡ 0
count-none owners o [] below past = refl
count-none owners o (m ∷ ms) below past =
    let parts = and_parts (nat_lt m.owner owners) (have_owners_below owners ms) below in
    let less : m.owner < owners = ltb-true m.owner owners parts.0 in
    let other : (m.owner == o) ≡ false = by_test (m.owner == o) refl (omega arith) in
    rw other (count-none owners o ms parts.1 past)
  where
    by_test : (b : Bool) → (m.owner == o) ≡ b → m.owner < o → (m.owner == o) ≡ false
    by_test true e less = absurd (omega (arith, eqb-true m.owner o e))
    by_test false e less = e

-- and where no other owner has one, each is for one of them
below-where : (owners : ℕ) (ms : List MutatorState) → ((o : ℕ) → owners ≤ o → mutator_count o ms ≡ 0) → have_owners_below owners ms ≡ true
below-where owners [] none = refl
below-where owners (m ∷ ms) none = by_test (nat_lt m.owner owners) refl (below-where owners ms)
  where
    rest : (o : ℕ) → owners ≤ o → (b : Bool) → cond b (1 + mutator_count o ms) (mutator_count o ms) ≡ 0 → mutator_count o ms ≡ 0
    rest o past true e = absurd (omega arith)
    rest o past false e = e

    by_test : (b : Bool) → nat_lt m.owner owners ≡ b → (((o : ℕ) → owners ≤ o → mutator_count o ms ≡ 0) → have_owners_below owners ms ≡ true)
        → (nat_lt m.owner owners && have_owners_below owners ms) ≡ true
    by_test true e others = rw e (others (λ o past. rest o past (m.owner == o) (none o past)))
    by_test false e others =
        let one : mutator_count m.owner (m ∷ ms) ≡ 1 + mutator_count m.owner ms = rw (eq-eqb m.owner m.owner refl) refl in
        absurd (omega (arith, one, none m.owner (ltb-false m.owner owners e)))

due-within : (owners o : ℕ) → o < owners → due_to owners o ≡ 1
due-within owners o within = rw (lt-ltb o owners within) refl

due-past : (owners o : ℕ) → owners ≤ o → due_to owners o ≡ 0
due-past owners o past = rw (le-ltb o owners past) refl

pub one_each-where : (owners : ℕ) (ms : List MutatorState) → have_owners_below owners ms ≡ true → ((o : ℕ) → o < owners → mutator_count o ms ≡ 1) → IsOneEach owners ms
one_each-where owners ms below ones o = by_test (nat_lt o owners) refl
  where
    by_test : (b : Bool) → nat_lt o owners ≡ b → mutator_count o ms ≡ due_to owners o
    by_test true e = let within = ltb-true o owners e in ones o within ∙ sym (due-within owners o within)
    by_test false e = let past = ltb-false o owners e in count-none owners o ms below past ∙ sym (due-past owners o past)

pub not_one_each-strangers : (owners : ℕ) (ms : List MutatorState) → have_owners_below owners ms ≡ false → IsOneEach owners ms → ⊥
not_one_each-strangers owners ms below each =
    let yes = below-where owners ms (λ o past. each o ∙ due-past owners o past) in
    cc

pub not_one_each-count : (owners o : ℕ) (ms : List MutatorState) → o < owners → mutator_count o ms ≢ 1 → IsOneEach owners ms → ⊥
not_one_each-count owners o ms within other each = other (each o ∙ due-within owners o within)

-- an owner without a mutator has an empty share
share-none : (o : ℕ) (ms : List MutatorState) → mutator_count o ms ≡ 0 → share_of o ms ≡ []
share-none o [] none = refl
share-none o (m ∷ ms) none = by_test (m.owner == o) none (share-none o ms)
  where
    by_test : (b : Bool) → cond b (1 + mutator_count o ms) (mutator_count o ms) ≡ 0 → (mutator_count o ms ≡ 0 → share_of o ms ≡ []) → cond b m.share.history.calls (share_of o ms) ≡ []
    by_test true e others = absurd (omega arith)
    by_test false e others = others e

pub share-stranger : (owners o : ℕ) (ms : List MutatorState) → IsOneEach owners ms → owners ≤ o → share_of o ms ≡ []
share-stranger owners o ms each past = share-none o ms (each o ∙ due-past owners o past)

-- Strangers.

-- an empty share differs at 1 from calls of which there are some
pub differs-at_1 : (share calls : List Call) → share ≡ [] → calls ≢ [] → IsFirstDifference share calls 1
differs-at_1 share calls none some = record { before = 0; counted = refl; same = refl; differ = λ same. some (empty calls (sym (ap (λ xs. slice_get xs 0) none ∙ refl) ∙ same)) }
  where
    empty : (xs : List Call) → None ≡ slice_get xs 0 → xs ≡ []
    empty [] e = refl
    empty (x ∷ xs) e = absurd (cc)

-- the least stranger is the least owner whose share differs, where those of the heap's owners don't
pub stranger-differs : (owners owner : ℕ) (ms : List MutatorState) (calls : List Call) → IsOneEach owners ms → ((o : ℕ) → o < owners → share_of o ms ≡ calls_of o calls)
    → IsLeastStranger (Some owner) owners calls → HistoryDiffersAt ms calls owner 1
stranger-differs owners owner ms calls each same least = record {
  differs = differs-at_1 (share_of owner ms) (calls_of owner calls) (share-stranger owners owner ms each least.0) least.1;
  least = λ o less. by_test o less (nat_lt o owners) refl;
}
  where
    by_test : (o : ℕ) → o < owner → (b : Bool) → nat_lt o owners ≡ b → share_of o ms ≡ calls_of o calls
    by_test o less true e = same o (ltb-true o owners e)
    by_test o less false e = let past = ltb-false o owners e in share-stranger owners o ms each past ∙ sym (least.2 o past less)

pub stranger-none : (owners : ℕ) (ms : List MutatorState) (calls : List Call) → IsOneEach owners ms → ((o : ℕ) → o < owners → share_of o ms ≡ calls_of o calls)
    → IsLeastStranger None owners calls → (o : ℕ) → share_of o ms ≡ calls_of o calls
stranger-none owners ms calls each same none o = by_test (nat_lt o owners) refl
  where
    by_test : (b : Bool) → nat_lt o owners ≡ b → share_of o ms ≡ calls_of o calls
    by_test true e = same o (ltb-true o owners e)
    by_test false e = let past = ltb-false o owners e in share-stranger owners o ms each past ∙ sym (none o past)

-- New mutators.

count-append : (o : ℕ) (ms : List MutatorState) (m : MutatorState) → mutator_count o (ms ++ m ∷ []) ≡ mutator_count o ms + cond (m.owner == o) 1 0
count-append o [] m = by_test (m.owner == o)
  where
    by_test : (b : Bool) → cond b (1 + 0) 0 ≡ 0 + cond b 1 0
    by_test true = refl
    by_test false = refl
count-append o (n ∷ ms) m = by_test (n.owner == o) (count-append o ms m)
  where
    by_test : (b : Bool) → mutator_count o (ms ++ m ∷ []) ≡ mutator_count o ms + cond (m.owner == o) 1 0
        → cond b (1 + mutator_count o (ms ++ m ∷ [])) (mutator_count o (ms ++ m ∷ [])) ≡ cond b (1 + mutator_count o ms) (mutator_count o ms) + cond (m.owner == o) 1 0
    by_test true e = omega (arith, e)
    by_test false e = e

-- those of the first n owners are one each
pub first_mutators-one_each : (owners slots limit n : ℕ) → IsOneEach n (first_mutators owners slots limit n)
first_mutators-one_each owners slots limit zero o = sym (due-past 0 o (omega arith))
first_mutators-one_each owners slots limit (suc n) o =
    count-append o (first_mutators owners slots limit n) (new_mutator owners slots limit n) ∙ due-more n o (mutator_count o (first_mutators owners slots limit n)) (first_mutators-one_each owners slots limit n o) (n == o) refl
  where
    due-more : (n o count : ℕ) → count ≡ due_to n o → (b : Bool) → (n == o) ≡ b → count + cond b 1 0 ≡ due_to (suc n) o
    due-more n o count is true e =
        let same = eqb-true n o e in
        omega (arith, is, due-past n o (omega (arith, same)), due-within (suc n) o (omega (arith, same)))
    due-more n o count is false e = by_order (nat_lt o n) refl
      where
        by_order : (b : Bool) → nat_lt o n ≡ b → count + 0 ≡ due_to (suc n) o
        by_order true less = omega (arith, is, due-within n o (ltb-true o n less), due-within (suc n) o (omega (arith, ltb-true o n less)))
        by_order false past =
            let apart : n ≡ o → ⊥ = λ same. cc (e, eq-eqb n o same) in
            let beyond : suc n ≤ o = omega (arith, ltb-false o n past, apart) in
            omega (arith, is, due-past n o (ltb-false o n past), due-past (suc n) o beyond)
