-- What lines take of what is limited.
use Rattle.std.proofs.Common.{◌≡◌, ◌≢◌, ◌≤◌, ℕ, ◌+◌, List, [], ◌∷◌, ◌++◌, refl, ap, ◌∙◌, arith}
use Rattle.std.specs.Prelude.{◌↔◌, min, None}
use Rattle.rh_layout.specs.declared.command.Command.{Command}
use Rattle.rh_layout.specs.declared.command.Command.TheVariants.{Alloc, Raw, Load, Store, Copy, Same, Drop}
use Rattle.rh_layout.specs.declared.refusal.Refusal.TheVariants.{SpaceFull}
use Rattle.rh_layout.specs.Command.{made_by}
use Rattle.rh_mutator.specs.Mutator.{MutatorState}
use Rattle.rh_mutator.specs.Commands.{IsStoring, LimitHolds}
use Rattle.rh_syntax.specs.declared.request.Request.{Request}
use Rattle.rh_syntax.specs.declared.request.Request.TheVariants as requests
use Rattle.rh_shared_trace.specs.declared.trace_limits.Limit.{Limit}
use Rattle.rh_shared_trace.specs.declared.trace_limits.Limit.TheVariants.{Space, Log}
use Rattle.rh_shared_trace.specs.Limiting.{entries_asked, taken_by, taken_by_all, words_of_asked}

-- the words that are needed, where they are the most that an object has or fewer
few-words : (fields need : ℕ) → need ≡ 2 + fields → need ≤ 4097 → 2 + min fields 4095 ≡ need
few-words fields need is few = omega (arith, is, few)

pub needed : (m : MutatorState) (owner need free : ℕ) (command : Command) → LimitHolds m command (SpaceFull need free) → need ≤ 4097
    → taken_by Space (requests.Command owner command) ≡ need
needed m owner need free command holds few = ap words_of_asked holds.2 ∙ few-words holds.1.fields need holds.3 few

pub none : (owner : ℕ) (command : Command) → made_by command ≡ None → taken_by Space (requests.Command owner command) ≡ 0
none owner command is = ap words_of_asked is

-- a store takes an entry
of_store : (command : Command) → IsStoring command → entries_asked command ≡ 1
of_store command is = ap entries_asked is.3

-- and no other command does
only_store : (command : Command) → entries_asked command ≡ 1 → IsStoring command
only_store (Store obj field operand) is = (obj, field, operand, refl)
only_store (Alloc dst fields) is = absurd (omega (arith, is))
only_store (Raw dst fields) is = absurd (omega (arith, is))
only_store (Load dst src field) is = absurd (omega (arith, is))
only_store (Copy dst src) is = absurd (omega (arith, is))
only_store (Same a b) is = absurd (omega (arith, is))
only_store (Drop root) is = absurd (omega (arith, is))

pub stores : (owner : ℕ) (command : Command) → (taken_by Log (requests.Command owner command) ≡ 1) ↔ IsStoring command
stores owner command = (only_store command, of_store command)

pub others : (limit : Limit) (request : Request) → ((owner : ℕ) (command : Command) → request ≢ requests.Command owner command) → taken_by limit request ≡ 0
others limit (requests.Command owner command) none = absurd (none owner command refl)
others limit requests.Begin none = refl
others limit (requests.Shade root) none = refl
others limit (requests.Deal kind items tray) none = refl
others limit (requests.Give tray) none = refl
others limit (requests.Join into other) none = refl
others limit requests.Flip none = refl
others limit requests.Recall none = refl
others limit requests.Abandon none = refl
others limit (requests.Idle words) none = refl
others limit (requests.Resize words) none = refl
others limit (requests.Tickets tickets) none = refl
others limit (requests.Watch owner root) none = refl
others limit (requests.Unwatch ticket) none = refl
others limit requests.Gone none = refl
others limit requests.Trays none = refl
others limit requests.Stat none = refl
others limit requests.Dump none = refl

most_of_command : (command : Command) → entries_asked command ≤ 1
most_of_command (Store obj field operand) = omega arith
most_of_command (Alloc dst fields) = omega arith
most_of_command (Raw dst fields) = omega arith
most_of_command (Load dst src field) = omega arith
most_of_command (Copy dst src) = omega arith
most_of_command (Same a b) = omega arith
most_of_command (Drop root) = omega arith

pub most : (request : Request) → taken_by Log request ≤ 1
most (requests.Command owner command) = most_of_command command
most requests.Begin = omega arith
most (requests.Shade root) = omega arith
most (requests.Deal kind items tray) = omega arith
most (requests.Give tray) = omega arith
most (requests.Join into other) = omega arith
most requests.Flip = omega arith
most requests.Recall = omega arith
most requests.Abandon = omega arith
most (requests.Idle words) = omega arith
most (requests.Resize words) = omega arith
most (requests.Tickets tickets) = omega arith
most (requests.Watch owner root) = omega arith
most (requests.Unwatch ticket) = omega arith
most requests.Gone = omega arith
most requests.Trays = omega arith
most requests.Stat = omega arith
most requests.Dump = omega arith

pub one : (limit : Limit) (request : Request) → taken_by_all limit (request ∷ []) ≡ taken_by limit request
one limit request = omega arith

pub sum : (limit : Limit) (xs ys : List Request) → taken_by_all limit (xs ++ ys) ≡ taken_by_all limit xs + taken_by_all limit ys
sum limit [] ys = omega arith
sum limit (x ∷ xs) ys = omega (arith, sum limit xs ys)
