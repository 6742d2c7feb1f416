-- What may not be left out of a history stands in it.
use Rattle.std.proofs.Common.{◌≡◌, ℕ, ◌<◌, ◌≤◌, Bool, true, false, List, [], ◌∷◌, length, arith, inl, inr, refl, sym, ap, subst, ◌∙◌}
use Rattle.std.specs.Prelude.{◌⊎◌, nat_le, nat_lt, cond, filter}
use Rattle.std.proofs.lemmas.Bool.{leb-true, ltb-true, true≢false}
use Rattle.rh_layout.specs.declared.command.Command.{Command}
use Rattle.rh_layout.specs.declared.command.Command.TheVariants.{Alloc, Raw, Load, Store, Copy, Same, Drop}
use Rattle.rh_syntax.specs.Spelling.{Script}
use Rattle.rh_replay.specs.declared.call.Call.{Call}
use Rattle.rh_replay.specs.History.{HistoryState}
use Rattle.rh_shared.specs.Shares.{calls_of}
use Rattle.rh_shared_trace.specs.declared.trace_limits.Limit.TheVariants.{Space, Log}
use Rattle.rh_shared_trace.specs.declared.trace_limits.TraceLimits.{TraceLimits}
use Rattle.rh_shared_trace.specs.Limiting.{limits_of, taken_by_all}
use Rattle.rh_shared_trace.specs.Matching.{allocates, commands_of, lines_of, stores, takes_nothing, AreCallsFor, MayLeaveOut}
use Rattle.rh_shared_trace.specs.Run.{IsHistoryOf}

-- no command that passes may be left out of a history that isn't full
abbrev Stands : TraceLimits → (Command → Bool) → Type 0
Stands limits passes = (command : Command) → passes command ≡ true → MayLeaveOut limits false command → ⊥

-- a line that is left out doesn't pass
passed-not : (limits : TraceLimits) (passes : Command → Bool) → Stands limits passes → (line : Command) (b : Bool) → passes line ≡ b → MayLeaveOut limits false line → (others : List Command)
    → filter passes others ≡ filter passes (line ∷ others)
passed-not limits passes stands line true is out others = absurd (stands line is out)
passed-not limits passes stands line false is out others = ap (λ (b : Bool). cond b (line ∷ filter passes others) (filter passes others)) (sym is)

stand : (limits : TraceLimits) (passes : Command → Bool) → Stands limits passes → (lines : List Command) (calls : List Call) → AreCallsFor limits false lines calls
    → filter passes (commands_of calls) ≡ filter passes lines
stand limits passes stands [] [] are = refl
stand limits passes stands [] (c ∷ calls) are = absurd are
stand limits passes stands (l ∷ lines) [] are = stand limits passes stands lines [] are.1 ∙ passed-not limits passes stands l (passes l) refl are.0 lines
stand limits passes stands (l ∷ lines) (c ∷ calls) (inl one) =
    ap (λ (x : Command). cond (passes x) (x ∷ filter passes (commands_of calls)) (filter passes (commands_of calls))) one.0
    ∙ ap (λ (xs : List Command). cond (passes l) (l ∷ xs) xs) (stand limits passes stands lines calls one.1)
stand limits passes stands (l ∷ lines) (c ∷ calls) (inr left) =
    stand limits passes stands lines (c ∷ calls) left.1 ∙ passed-not limits passes stands l (passes l) refl left.0 lines

not_full : (n : ℕ) → n < 65536 → nat_le 65536 n ≡ false
not_full n few = by_test (nat_le 65536 n) refl
  where
    by_test : (b : Bool) → nat_le 65536 n ≡ b → b ≡ false
    by_test true e = absurd (omega (arith, few, leb-true 65536 n e))
    by_test false e = refl

not_past : (n most : ℕ) → n ≤ most → nat_lt most n ≡ true → ⊥
not_past n most few past = omega (arith, few, ltb-true most n past)

-- of a history that isn't full
of_history : (script : Script) (h : HistoryState) (owner : ℕ) (passes : Command → Bool) → Stands (limits_of script.header script.requests) passes
    → IsHistoryOf script h → length h.calls < 65536 → owner < script.header.owners → filter passes (commands_of (calls_of owner h.calls)) ≡ filter passes (lines_of owner script.requests)
of_history script h owner passes stands of_h few less =
    let limits : TraceLimits = limits_of script.header script.requests in
    let lines : List Command = lines_of owner script.requests in
    let calls : List Call = calls_of owner h.calls in
    let are : AreCallsFor limits false lines calls = subst (λ (full : Bool). AreCallsFor limits full lines calls) (not_full (length h.calls) few) (of_h.lines.lines owner less) in
    stand limits passes stands lines calls are

never : {X : Type 0} → (false ≡ true) ⊎ (false ≡ true) → X
never (inl e) = absurd (true≢false (sym e))
never (inr e) = absurd (true≢false (sym e))

-- one of both holds, and the first doesn't
second : {b : Bool} → (false ≡ true) ⊎ (b ≡ true) → b ≡ true
second (inl e) = absurd (true≢false (sym e))
second (inr e) = e

nothing-stands : (limits : TraceLimits) → Stands limits takes_nothing
nothing-stands limits (Alloc dst fields) is out = true≢false (sym is)
nothing-stands limits (Raw dst fields) is out = true≢false (sym is)
nothing-stands limits (Store obj field operand) is out = true≢false (sym is)
nothing-stands limits (Load dst src field) is out = never out
nothing-stands limits (Copy dst src) is out = never out
nothing-stands limits (Same a b) is out = never out
nothing-stands limits (Drop root) is out = never out

allocation-stands : (limits : TraceLimits) → (limits.space ≡ true → ⊥) → Stands limits allocates
allocation-stands limits fits (Alloc dst fields) is out = fits (second out)
allocation-stands limits fits (Raw dst fields) is out = fits (second out)
allocation-stands limits fits (Store obj field operand) is out = true≢false (sym is)
allocation-stands limits fits (Load dst src field) is out = true≢false (sym is)
allocation-stands limits fits (Copy dst src) is out = true≢false (sym is)
allocation-stands limits fits (Same a b) is out = true≢false (sym is)
allocation-stands limits fits (Drop root) is out = true≢false (sym is)

store-stands : (limits : TraceLimits) → (limits.log ≡ true → ⊥) → Stands limits stores
store-stands limits fits (Alloc dst fields) is out = true≢false (sym is)
store-stands limits fits (Raw dst fields) is out = true≢false (sym is)
store-stands limits fits (Store obj field operand) is out = fits (second out)
store-stands limits fits (Load dst src field) is out = true≢false (sym is)
store-stands limits fits (Copy dst src) is out = true≢false (sym is)
store-stands limits fits (Same a b) is out = true≢false (sym is)
store-stands limits fits (Drop root) is out = true≢false (sym is)

pub reads-stand : (script : Script) (h : HistoryState) (owner : ℕ) → IsHistoryOf script h → length h.calls < 65536 → owner < script.header.owners
    → filter takes_nothing (commands_of (calls_of owner h.calls)) ≡ filter takes_nothing (lines_of owner script.requests)
reads-stand script h owner of_h few less = of_history script h owner takes_nothing (nothing-stands (limits_of script.header script.requests)) of_h few less

pub allocations-stand : (script : Script) (h : HistoryState) (owner : ℕ) → IsHistoryOf script h → length h.calls < 65536 → owner < script.header.owners
    → taken_by_all Space script.requests ≤ script.header.words → filter allocates (commands_of (calls_of owner h.calls)) ≡ filter allocates (lines_of owner script.requests)
allocations-stand script h owner of_h few less fits =
    of_history script h owner allocates (allocation-stands (limits_of script.header script.requests) (not_past (taken_by_all Space script.requests) script.header.words fits)) of_h few less

pub stores-stand : (script : Script) (h : HistoryState) (owner : ℕ) → IsHistoryOf script h → length h.calls < 65536 → owner < script.header.owners
    → taken_by_all Log script.requests ≤ script.header.log → filter stores (commands_of (calls_of owner h.calls)) ≡ filter stores (lines_of owner script.requests)
stores-stand script h owner of_h few less fits =
    of_history script h owner stores (store-stands (limits_of script.header script.requests) (not_past (taken_by_all Log script.requests) script.header.log fits)) of_h few less
