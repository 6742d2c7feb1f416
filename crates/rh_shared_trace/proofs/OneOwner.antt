-- Histories of a trace of one owner.
use Rattle.std.proofs.Common.{◌≡◌, ◌≢◌, ℕ, ◌<◌, ◌≤◌, Bool, true, false, List, [], ◌∷◌, length, map, arith, inl, inr, refl, sym, ap, subst, ◌∙◌}
use Rattle.std.specs.Prelude.{◌==◌}
use Rattle.std.proofs.lemmas.Bool.{eqb-true, eq-eqb}
use Rattle.rh_layout.specs.declared.command.Command.{Command}
use Rattle.rh_syntax.specs.Spelling.{Script}
use Rattle.rh_replay.specs.declared.call.Call.{Call}
use Rattle.rh_shared.specs.Shares.{calls_of}
use Rattle.rh_shared_trace.specs.declared.trace_limits.TraceLimits.{TraceLimits}
use Rattle.rh_shared_trace.specs.Limiting.{limits_of}
use Rattle.rh_shared_trace.specs.Matching.{AreCallsFor, AreOfTrace, HaveOwnersBelow, commands_of, lines_of}
use Rattle.rh_shared_trace.proofs.TellingCommands.{asked_by}
use Rattle.rh_shared_trace.proofs.OwnLines.{calls_of-own, calls_of-other}

-- Calls that are of lines, none of which is left out.

few : (limits : TraceLimits) (full : Bool) (lines : List Command) (calls : List Call) → AreCallsFor limits full lines calls → length calls ≤ length lines
few limits full [] [] are = omega arith
few limits full [] (c ∷ calls) are = absurd are
few limits full (l ∷ lines) [] are = omega arith
few limits full (l ∷ lines) (c ∷ calls) (inl one) =
    let less = few limits full lines calls one.1 in
    omega (arith, less)
few limits full (l ∷ lines) (c ∷ calls) (inr left) =
    let less = few limits full lines (c ∷ calls) left.1 in
    omega (arith, less)

whole : (limits : TraceLimits) (full : Bool) (lines : List Command) (calls : List Call) → AreCallsFor limits full lines calls → length calls ≡ length lines → commands_of calls ≡ lines
whole limits full [] [] are same = refl
whole limits full [] (c ∷ calls) are same = absurd are
whole limits full (l ∷ lines) [] are same = absurd (omega (arith, same))
whole limits full (l ∷ lines) (c ∷ calls) (inl one) same =
    let rest : length calls ≡ length lines = omega (arith, same) in
    ap (λ x. x ∷ commands_of calls) one.0 ∙ ap (λ xs. l ∷ xs) (whole limits full lines calls one.1 rest)
whole limits full (l ∷ lines) (c ∷ calls) (inr left) same =
    let less = few limits full lines (c ∷ calls) left.1 in
    absurd (omega (arith, same, less))

none-called : (limits : TraceLimits) (full : Bool) (calls : List Call) → AreCallsFor limits full [] calls → calls ≡ []
none-called limits full [] are = refl
none-called limits full (c ∷ calls) are = absurd are

-- Calls of one owner.

-- other owners have no calls
abbrev OthersHaveNone : ℕ → ℕ → List Call → Type 0
OthersHaveNone owner owners calls = (other : ℕ) → other < owners → other ≢ owner → calls_of other calls ≡ []

none-after : (other : ℕ) (c : Call) (calls : List Call) → calls_of other (c ∷ calls) ≡ [] → calls_of other calls ≡ []
none-after other c calls none = by_test (c.owner == other) refl
  where
    by_test : (b : Bool) → (c.owner == other) ≡ b → calls_of other calls ≡ []
    by_test true e =
        let some = calls_of-own other c calls (eqb-true c.owner other e) in
        absurd (cc (some, none))
    by_test false e = sym (calls_of-other other c calls (λ same. let is = eq-eqb c.owner other same in cc (e, is))) ∙ none

one-owner : (owner owners : ℕ) (calls : List Call) → HaveOwnersBelow owners calls → OthersHaveNone owner owners calls
    → (calls_of owner calls ≡ calls) × (map asked_by calls ≡ map (λ (line : Command). (owner, line)) (commands_of calls))
one-owner owner owners [] below none = (refl, refl)
one-owner owner owners (c ∷ calls) below none =
    by_test (c.owner == owner) refl (one-owner owner owners calls below.1 (λ other less apart. none-after other c calls (none other less apart)))
  where
    by_test : (b : Bool) → (c.owner == owner) ≡ b
        → (calls_of owner calls ≡ calls) × (map asked_by calls ≡ map (λ (line : Command). (owner, line)) (commands_of calls))
        → (calls_of owner (c ∷ calls) ≡ c ∷ calls) × (map asked_by (c ∷ calls) ≡ map (λ (line : Command). (owner, line)) (commands_of (c ∷ calls)))
    by_test true e rest =
        let same : c.owner ≡ owner = eqb-true c.owner owner e in (
          calls_of-own owner c calls same ∙ ap (λ xs. c ∷ xs) rest.0,
          ap (λ (o : ℕ). (o, c.command) ∷ map asked_by calls) same ∙ ap (λ (xs : List (ℕ × Command)). (owner, c.command) ∷ xs) rest.1,
        )
    by_test false e rest =
        let alone = none c.owner below.0 (λ same. let is = eq-eqb c.owner owner same in cc (e, is)) in
        let some = calls_of-own c.owner c calls refl in
        absurd (cc (some, alone))

-- what the calls ask is what the owner's lines ask, where none is left out
pub asked-of_lines : (full : Bool) (script : Script) (owner : ℕ) (calls : List Call) → AreOfTrace full script calls → owner < script.header.owners
    → ((other : ℕ) → other ≢ owner → lines_of other script.requests ≡ []) → length calls ≡ length (lines_of owner script.requests)
    → map asked_by calls ≡ map (λ (line : Command). (owner, line)) (lines_of owner script.requests)
asked-of_lines full script owner calls are less others count =
    let limits : TraceLimits = limits_of script.header script.requests in
    let none : OthersHaveNone owner script.header.owners calls = λ other below apart.
    none-called limits full (calls_of other calls) (subst (λ lines. AreCallsFor limits full lines (calls_of other calls)) (others other apart) (are.lines other below)) in
    let one = one-owner owner script.header.owners calls are.owners none in
    let own : AreCallsFor limits full (lines_of owner script.requests) calls = subst (AreCallsFor limits full (lines_of owner script.requests)) one.0 (are.lines owner less) in
    one.1 ∙ ap (λ (lines : List Command). map (λ (line : Command). (owner, line)) lines) (whole limits full (lines_of owner script.requests) calls own count)
