-- What rows of commands come to, and which commands they are.
use Rattle.std.proofs.Common.{◌≡◌, ◌≢◌, ℕ, zero, suc, ◌+◌, ◌<◌, ◌≤◌, Bool, true, false, List, [], ◌∷◌, ◌++◌, length, drop, map, take, Some, None, Result, Ok, Err, refl, sym, ap, ◌∙◌, arith}
use Rattle.std.specs.Prelude.{if◌then◌else◌, nat_eq, slice_get}
use Rattle.std.specs.Option.{option_map}
use Rattle.std.specs.Cmp.{nat_eq_equiv}
use Rattle.std.proofs.Math.Nat.{min-eq_left}
use Rattle.std.proofs.lemmas.Bool.{eqb-true}
use Rattle.std.proofs.lemmas.Option.{none-some, same_Some}
use Rattle.rh_layout.specs.declared.command.Command.{Command}
use Rattle.rh_layout.specs.declared.command.Command.TheVariants.{Drop, Load, Store}
use Rattle.rh_layout.specs.declared.command.Operand.TheVariants as operands
use Rattle.rh_layout.specs.declared.command.Reply.{Reply}
use Rattle.rh_layout.specs.declared.command.RootId.{RootId}
use Rattle.rh_layout.specs.declared.refusal.Refusal.{Refusal}
use Rattle.rh_pace.specs.InTime.{paced_after, paced_replies}
use Rattle.rh_pace.specs.Paced.{PacedState, paced_step}
use Rattle.rheap_c.specs.declared.init.RheapInit.{RheapInit}
use Rattle.rheap_c.specs.declared.value.RheapValue.{RheapValue}
use Rattle.rheap_c.specs.Init.{operand_of}
use Rattle.rheap_c.specs.RootRows.{DoneUntil, done_until, next_index, next_root, path_loads, row_drops, row_loads, row_stores, until_answered, values_over}
use Rattle.rheap_c.specs.Told.{root_of, value_of_reply}
use Rattle.rheap_c.specs.ValueRows.{value_stores}

-- the answers of commands that were done
abbrev pub answers : List Reply → List (Result Reply Refusal)
answers replies = map (λ (reply : Reply). Ok reply) replies

-- The first command was answered so, and those behind it came to this end.
answered-done : (answer : Result Reply Refusal) (t : PacedState) (end : DoneUntil) (after : PacedState)
    (more : List (Result Reply Refusal))
    → (end.refusal ≡ None → (end.state ≡ after) × (answers end.replies ≡ more))
    → (until_answered answer t end).refusal ≡ None
    → ((until_answered answer t end).state ≡ after) × (answers (until_answered answer t end).replies ≡ answer ∷ more)
answered-done (Ok reply) t end after more rest none = ((rest none).0, ap (λ (l : List (Result Reply Refusal)). Ok reply ∷ l) (rest none).1)
answered-done (Err why) t end after more rest none = absurd (none-some why (sym none))

pub row-done : (s : PacedState) (given : List (ℕ × Command)) → (done_until paced_step s given).refusal ≡ None
    → ((done_until paced_step s given).state ≡ paced_after s given) × (answers (done_until paced_step s given).replies ≡ paced_replies s given)
row-done s [] none = (refl, refl)
row-done s (call ∷ rest) none =
    answered-done (paced_step s call.0 call.1).1 (paced_step s call.0 call.1).0 (done_until paced_step (paced_step s call.0 call.1).0 rest)
    (paced_after (paced_step s call.0 call.1).0 rest) (paced_replies (paced_step s call.0 call.1).0 rest)
    (row-done (paced_step s call.0 call.1).0 rest) none

-- a row came to this end, whose last command was refused so
abbrev EndsAt : PacedState → List (ℕ × Command) → DoneUntil → Refusal → Type 0
EndsAt s given end why =
    (end.state ≡ paced_after s (take (suc (length end.replies)) given))
    × (paced_replies s (take (suc (length end.replies)) given) ≡ answers end.replies ++ Err why ∷ [])

answered-refused : (answer : Result Reply Refusal) (t : PacedState) (end : DoneUntil) (why : Refusal) (rest : List (ℕ × Command))
    → (end.refusal ≡ Some why → EndsAt t rest end why)
    → (until_answered answer t end).refusal ≡ Some why
    → ((until_answered answer t end).state ≡ paced_after t (take (length (until_answered answer t end).replies) rest))
    × ((answer ∷ paced_replies t (take (length (until_answered answer t end).replies) rest)) ≡ answers (until_answered answer t end).replies ++ Err why ∷ [])
answered-refused (Ok reply) t end why rest further is =
    ((further is).0, ap (λ (l : List (Result Reply Refusal)). Ok reply ∷ l) (further is).1)
answered-refused (Err other) t end why rest further is =
    (refl, ap (λ (r : Refusal). Err r ∷ []) (same_Some other why is))

pub row-refused : (s : PacedState) (given : List (ℕ × Command)) (why : Refusal)
    → (done_until paced_step s given).refusal ≡ Some why → EndsAt s given (done_until paced_step s given) why
row-refused s [] why is = absurd (none-some why is)
row-refused s (call ∷ rest) why is =
    answered-refused (paced_step s call.0 call.1).1 (paced_step s call.0 call.1).0 (done_until paced_step (paced_step s call.0 call.1).0 rest) why rest
    (row-refused (paced_step s call.0 call.1).0 rest why) is

-- the next of two numbers of 32 bits, where the first isn't the last of them
next_index-is : (n m : ℕ) → n + suc m ≤ 4294967295 → next_index n ≡ n + 1
next_index-is n m few = min-eq_left (omega (arith, few))

-- so many slots or fields behind the next one are one more behind this
next-on : (n m i : ℕ) → n + suc m ≤ 4294967295 → next_index n + i ≡ n + suc i
next-on n m i few = let next = next_index-is n m few in omega (arith, next)

next-few : (n m : ℕ) → n + suc m ≤ 4294967295 → next_index n + m ≤ 4294967295
next-few n m few = let next = next_index-is n m few in omega (arith, next, few)

-- nothing further is the same
on : (n : ℕ) → n ≡ n + 0
on n = omega arith

-- a slot of the owner of a root
abbrev in_slot : RootId → ℕ → RootId
in_slot r slot = record { owner = r.owner; slot = slot }

pub loads-at : (owner : ℕ) (dst src : RootId) (field n i : ℕ) → i < n → dst.slot + n ≤ 4294967295 → field + n ≤ 4294967295
    → slice_get (row_loads owner dst src field n) i ≡ Some (owner, Load (in_slot dst (dst.slot + i)) src (field + i))
loads-at owner dst src field zero i within slots fields = absurd (omega (arith, within))
loads-at owner dst src field (suc n) zero within slots fields =
    λ k. Some (owner, Load (in_slot dst (on dst.slot k)) src (on field k))
loads-at owner dst src field (suc n) (suc i) within slots fields =
    loads-at owner (next_root dst) src (next_index field) n i (omega (arith, within)) (next-few dst.slot n slots) (next-few field n fields)
    ∙ (λ k. Some (owner, Load (in_slot dst (next-on dst.slot n i slots k)) src (next-on field n i fields k)))

pub stores-at : (owner : ℕ) (object src : RootId) (field n i : ℕ) → i < n → src.slot + n ≤ 4294967295 → field + n ≤ 4294967295
    → slice_get (row_stores owner object field src n) i ≡ Some (owner, Store object (field + i) (operands.Root (in_slot src (src.slot + i))))
stores-at owner object src field zero i within slots fields = absurd (omega (arith, within))
stores-at owner object src field (suc n) zero within slots fields =
    λ k. Some (owner, Store object (on field k) (operands.Root (in_slot src (on src.slot k))))
stores-at owner object src field (suc n) (suc i) within slots fields =
    stores-at owner object (next_root src) (next_index field) n i (omega (arith, within)) (next-few src.slot n slots) (next-few field n fields)
    ∙ (λ k. Some (owner, Store object (next-on field n i fields k) (operands.Root (in_slot src (next-on src.slot n i slots k)))))

pub drops-at : (owner : ℕ) (root : RootId) (n i : ℕ) → i < n → root.slot + n ≤ 4294967295
    → slice_get (row_drops owner root n) i ≡ Some (owner, Drop (in_slot root (root.slot + i)))
drops-at owner root zero i within slots = absurd (omega (arith, within))
drops-at owner root (suc n) zero within slots = λ k. Some (owner, Drop (in_slot root (on root.slot k)))
drops-at owner root (suc n) (suc i) within slots =
    drops-at owner (next_root root) n i (omega (arith, within)) (next-few root.slot n slots)
    ∙ (λ k. Some (owner, Drop (in_slot root (next-on root.slot n i slots k))))

-- the store of a value to a field
abbrev pub storing : ℕ → RootId → ℕ → RheapInit → ℕ × Command
storing owner object field value = (owner, Store object field (operand_of value))

pub values-at : (owner : ℕ) (object : RootId) (field : ℕ) (values : List RheapInit) (i : ℕ) → field + length values ≤ 4294967295
    → slice_get (value_stores owner object field values) i ≡ option_map (storing owner object (field + i)) (slice_get values i)
values-at owner object field [] i fields = refl
values-at owner object field (value ∷ values) zero fields = λ k. Some (owner, Store object (on field k) (operand_of value))
values-at owner object field (value ∷ values) (suc i) fields =
    values-at owner object (next_index field) values i (next-few field (length values) fields)
    ∙ (λ k. option_map (storing owner object (next-on field (length values) i fields k)) (slice_get values i))

pub path-at : (owner : ℕ) (dst : RootId) (fields : List ℕ) (i : ℕ)
    → slice_get (path_loads owner dst dst fields) i ≡ option_map (λ (next : ℕ). (owner, Load dst dst next)) (slice_get fields i)
path-at owner dst [] i = refl
path-at owner dst (field ∷ fields) zero = refl
path-at owner dst (field ∷ fields) (suc i) = path-at owner dst fields i

pub loads-many : (owner : ℕ) (dst src : RootId) (field n : ℕ) → length (row_loads owner dst src field n) ≡ n
loads-many owner dst src field zero = refl
loads-many owner dst src field (suc n) = ap suc (loads-many owner (next_root dst) src (next_index field) n)

pub stores-many : (owner : ℕ) (object src : RootId) (field n : ℕ) → length (row_stores owner object field src n) ≡ n
stores-many owner object src field zero = refl
stores-many owner object src field (suc n) = ap suc (stores-many owner object (next_root src) (next_index field) n)

pub drops-many : (owner : ℕ) (root : RootId) (n : ℕ) → length (row_drops owner root n) ≡ n
drops-many owner root zero = refl
drops-many owner root (suc n) = ap suc (drops-many owner (next_root root) n)

pub values-many : (owner : ℕ) (object : RootId) (field : ℕ) (values : List RheapInit) → length (value_stores owner object field values) ≡ length values
values-many owner object field [] = refl
values-many owner object field (value ∷ values) = ap suc (values-many owner object (next_index field) values)

pub values-read : (replies : List Reply) (before : List RheapValue) (i : ℕ) → i < length replies
    → slice_get (values_over replies before) i ≡ option_map value_of_reply (slice_get replies i)
values-read replies before i within = read-before replies (drop (length replies) before) i within
  where
    read-before : (replies : List Reply) (behind : List RheapValue) (i : ℕ) → i < length replies
        → slice_get (map value_of_reply replies ++ behind) i ≡ option_map value_of_reply (slice_get replies i)
    read-before [] behind i within = absurd (omega (arith, within))
    read-before (reply ∷ replies) behind zero within = refl
    read-before (reply ∷ replies) behind (suc i) within = read-before replies behind i (omega (arith, within))

pub values-left : (replies : List Reply) (before : List RheapValue) (i : ℕ) → length replies ≤ length before → length replies ≤ i
    → slice_get (values_over replies before) i ≡ slice_get before i
values-left [] before i fits past = refl
values-left (reply ∷ replies) [] i fits past = absurd (omega (arith, fits))
values-left (reply ∷ replies) (value ∷ before) zero fits past = absurd (omega (arith, past))
values-left (reply ∷ replies) (value ∷ before) (suc i) fits past =
    values-left replies before i (omega (arith, fits)) (omega (arith, past))

-- a kind that is this number, and one that isn't
kind-is : (n m : ℕ) → n ≡ m → nat_eq n m ≡ true
kind-is n m same = ap (λ (k : ℕ). nat_eq n k) (sym same) ∙ nat_eq_equiv.refl n

kind-isnt : (n m : ℕ) → n ≢ m → nat_eq n m ≡ false
kind-isnt n m other = by_test (nat_eq n m) refl
  where
    by_test : (b : Bool) → nat_eq n m ≡ b → b ≡ false
    by_test true is = absurd (other (eqb-true n m is))
    by_test false is = refl

-- what is chosen by these tests
abbrev by_kind : {X : Type 0} → Bool → Bool → X → X → X → X
by_kind first second x y z = if first then x else (if second then y else z)

pub nil-means : (v : RheapInit) → v.kind ≡ 0 → operand_of v ≡ operands.Nil
nil-means v is = ap (λ (b : Bool). by_kind b (nat_eq v.kind 1) operands.Nil (operands.Int v.number) (operands.Root (root_of v.root))) (kind-is v.kind 0 is)

pub number-means : (v : RheapInit) → v.kind ≡ 1 → operand_of v ≡ operands.Int v.number
number-means v is =
    ap (λ (b : Bool). by_kind b (nat_eq v.kind 1) operands.Nil (operands.Int v.number) (operands.Root (root_of v.root))) (kind-isnt v.kind 0 (λ zero. absurd (omega (arith, is, zero))))
    ∙ ap (λ (b : Bool). by_kind false b operands.Nil (operands.Int v.number) (operands.Root (root_of v.root))) (kind-is v.kind 1 is)

pub root-means : (v : RheapInit) → v.kind ≢ 0 → v.kind ≢ 1 → operand_of v ≡ operands.Root (root_of v.root)
root-means v nil number =
    ap (λ (b : Bool). by_kind b (nat_eq v.kind 1) operands.Nil (operands.Int v.number) (operands.Root (root_of v.root))) (kind-isnt v.kind 0 nil)
    ∙ ap (λ (b : Bool). by_kind false b operands.Nil (operands.Int v.number) (operands.Root (root_of v.root))) (kind-isnt v.kind 1 number)
