-- Shares that are the calls of their owners have as many calls together as the history.
use Rattle.std.proofs.Common.{◌≡◌, ◌≢◌, ℕ, zero, suc, ◌+◌, ◌≤◌, Bool, true, false, cond, List, [], ◌∷◌, length, refl, sym, ap, ◌∙◌, arith}
use Rattle.std.specs.Prelude.{◌==◌, nat_lt}
use Rattle.std.proofs.lemmas.Bool.{eqb-true, eq-eqb}
use Rattle.rh_replay.specs.declared.call.Call.{Call}
use Rattle.rh_shared.specs.Shares.{MutatorState, calls_of, calls_together, due_to, mutator_count, share_of, HasShares, IsOneEach}

-- the calls that the mutators' owners have in a history, one owner after the other
owned : List MutatorState → List Call → ℕ
owned [] calls = 0
owned (m ∷ ms) calls = length (calls_of m.owner calls) + owned ms calls

owned-none : (ms : List MutatorState) → owned ms [] ≡ 0
unfolding owned
owned-none [] = refl
owned-none (m ∷ ms) = omega (arith, owned-none ms)

-- a number that a test adds
abbrev one_if : Bool → ℕ
one_if b = cond b 1 0

length-cond : (b : Bool) (c : Call) (cs : List Call) → length (cond b (c ∷ cs) cs) ≡ one_if b + length cs
length-cond true c cs = omega arith
length-cond false c cs = omega arith

count-cond : (b : Bool) (n : ℕ) → cond b (1 + n) n ≡ one_if b + n
count-cond true n = refl
count-cond false n = omega arith

same-test : (m n : ℕ) (a b : Bool) → (m == n) ≡ a → (n == m) ≡ b → a ≡ b
same-test m n true true e f = refl
same-test m n false false e f = refl
same-test m n true false e f = let back : (n == m) ≡ true = eq-eqb n m (sym (eqb-true m n e)) in cc
same-test m n false true e f = let back : (m == n) ≡ true = eq-eqb m n (sym (eqb-true n m f)) in cc

-- one call more is one more for each mutator of its owner
owned-more : (ms : List MutatorState) (c : Call) (cs : List Call) → owned ms (c ∷ cs) ≡ mutator_count c.owner ms + owned ms cs
unfolding owned
owned-more [] c cs = refl
owned-more (m ∷ ms) c cs =
    let a = length-cond (c.owner == m.owner) c (calls_of m.owner cs) in
    let b = count-cond (m.owner == c.owner) (mutator_count c.owner ms) in
    let same : one_if (c.owner == m.owner) ≡ one_if (m.owner == c.owner) = ap one_if (same-test c.owner m.owner (c.owner == m.owner) (m.owner == c.owner) refl refl) in
    omega (arith, a, b, same, owned-more ms c cs)

-- each call's owner has one mutator
abbrev HaveMutators : List MutatorState → List Call → Type 0
HaveMutators ms [] = Unit {0}
HaveMutators ms (c ∷ cs) = (mutator_count c.owner ms ≡ 1) × HaveMutators ms cs

owned-all : (ms : List MutatorState) (calls : List Call) → HaveMutators ms calls → owned ms calls ≡ length calls
owned-all ms [] have = owned-none ms
owned-all ms (c ∷ cs) have = omega (arith, owned-more ms c cs, have.0, owned-all ms cs have.1)

-- an owner with a call in its share has a mutator
share-some : (o : ℕ) (ms : List MutatorState) → mutator_count o ms ≡ 0 → share_of o ms ≡ []
share-some o [] none = refl
share-some o (m ∷ ms) none = by_test (m.owner == o) none (share-some o ms)
  where
    by_test : (b : Bool) → cond b (1 + mutator_count o ms) (mutator_count o ms) ≡ 0 → (mutator_count o ms ≡ 0 → share_of o ms ≡ []) → cond b m.share.history.calls (share_of o ms) ≡ []
    by_test true e others = absurd (omega arith)
    by_test false e others = others e

due-few : (owners o : ℕ) → due_to owners o ≤ 1
due-few owners o = by_test (nat_lt o owners)
  where
    by_test : (b : Bool) → cond b 1 0 ≤ 1
    by_test true = omega arith
    by_test false = omega arith

one-where : (n : ℕ) → n ≤ 1 → (n ≡ 0 → ⊥) → n ≡ 1
one-where zero few some = absurd (some refl)
one-where (suc n) few some = omega arith

-- the owner of each call has one mutator, where the shares are the calls
have-mutators : (owners : ℕ) (ms : List MutatorState) (calls : List Call) → IsOneEach owners ms → ((o : ℕ) → calls_of o calls ≢ [] → share_of o ms ≢ []) → HaveMutators ms calls
have-mutators owners ms [] each some = tt
have-mutators owners ms (c ∷ cs) each some =
    let own : calls_of c.owner (c ∷ cs) ≡ c ∷ calls_of c.owner cs = ap (λ b. cond b (c ∷ calls_of c.owner cs) (calls_of c.owner cs)) (eq-eqb c.owner c.owner refl) in
    let few : mutator_count c.owner ms ≤ 1 = omega (arith, each c.owner, due-few owners c.owner) in (
      one-where (mutator_count c.owner ms) few (λ none. some c.owner (λ e. cc (own, e)) (share-some c.owner ms none)),
      have-mutators owners ms cs each (λ o has. some o (more (c.owner == o) o has)),
    )
  where
    more : (b : Bool) (o : ℕ) → calls_of o cs ≢ [] → cond b (c ∷ calls_of o cs) (calls_of o cs) ≢ []
    more true o has e = cc
    more false o has e = has e

-- what the mutators have together, where each has its owner's calls
together-owned : (ms : List MutatorState) (calls : List Call) → ((o : ℕ) → mutator_count o ms ≤ 1) → ((o : ℕ) → 1 ≤ mutator_count o ms → share_of o ms ≡ calls_of o calls)
    → calls_together ms ≡ owned ms calls
unfolding owned
together-owned [] calls few same = refl
together-owned (m ∷ ms) calls few same =
    let test : (m.owner == m.owner) ≡ true = eq-eqb m.owner m.owner refl in
    let counted : mutator_count m.owner (m ∷ ms) ≡ 1 + mutator_count m.owner ms = ap (λ b. cond b (1 + mutator_count m.owner ms) (mutator_count m.owner ms)) test in
    let own : share_of m.owner (m ∷ ms) ≡ m.share.history.calls = ap (λ b. cond b m.share.history.calls (share_of m.owner ms)) test in
    let its : m.share.history.calls ≡ calls_of m.owner calls = sym own ∙ same m.owner (omega (arith, counted)) in
    let rest = together-owned ms calls (λ o. fewer (m.owner == o) o (few o)) (λ o has. others o has (m.owner == o) refl (few o) (same o)) in
    omega (arith, ap length its, rest)
  where
    fewer : (b : Bool) (o : ℕ) → cond b (1 + mutator_count o ms) (mutator_count o ms) ≤ 1 → mutator_count o ms ≤ 1
    fewer true o e = omega arith
    fewer false o e = e

    others : (o : ℕ) → 1 ≤ mutator_count o ms → (b : Bool) → (m.owner == o) ≡ b → cond b (1 + mutator_count o ms) (mutator_count o ms) ≤ 1
        → (1 ≤ cond b (1 + mutator_count o ms) (mutator_count o ms) → cond b m.share.history.calls (share_of o ms) ≡ calls_of o calls) → share_of o ms ≡ calls_of o calls
    others o has true e most is = absurd (omega arith)
    others o has false e most is = is has

-- The shares have as many calls together as the history.
pub together-all : (owners : ℕ) (ms : List MutatorState) (calls : List Call) → IsOneEach owners ms → HasShares ms calls → calls_together ms ≡ length calls
together-all owners ms calls each shares =
    let few : (o : ℕ) → mutator_count o ms ≤ 1 = λ o. omega (arith, each o, due-few owners o) in
    together-owned ms calls few (λ o has. shares o) ∙ owned-all ms calls (have-mutators owners ms calls each (λ o some none. some (sym (shares o) ∙ none)))
