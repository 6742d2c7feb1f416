-- Cycles that are read at commands end one after the other, at commands that are answered.
use Rattle.std.proofs.Common.{◌≡◌, ◌+◌, ◌^◌, ◌<◌, ◌≤◌, ℕ, zero, suc, Bool, true, false, List, [], ◌∷◌, ◌++◌, Option, None, Some, IfSome, ap, refl, sym, subst, ◌∙◌, append-nil, append_assoc, arith, length}
use Rattle.std.specs.Prelude.{if◌then◌else◌, ◌==◌}
use Rattle.std.specs.Option.{option_map, option_map_or}
use Rattle.std.proofs.Math.Nat.{min-eq_left}
use Rattle.rh_layout.specs.declared.command.Command.{Command}
use Rattle.rh_core.specs.Stat.{stat_of}
use Rattle.rh_core.specs.runs.Programs.{Answerer, CommandAnswers, Program, answers_by}
use Rattle.rh_pace.specs.Paced.{PacedState}
use Rattle.rh_cycles.specs.declared.cycle.Cycle.{Cycle}
use Rattle.rh_cycles.specs.declared.running.Running.{Running}
use Rattle.rh_cycles.specs.Cycles.{Reading, ReaderState, capped, cycle_of, going, read_step, skip_step, told_cycles}
use Rattle.rh_cycles.specs.Heaps.{CyclesState, after_step, before_flip, ends_with_flip, read_flip, reading_of, without_entries}
use Rattle.rh_core.specs.CommandHeap.{Stepping}
use Rattle.rh_machine.specs.Machine.{Asking, Hearing, answerer_of, program_of, state_by}
use Rattle.rh_lisp_run.specs.Cycling.{EndInTurn, ReadHeap, reading_steps}

-- a cycle that is told ended at this call
abbrev IsAt : ℕ → Option Cycle → Type 0
IsAt call told = IfSome told (λ (c : Cycle). c.ended ≡ call)

told_at : (call : ℕ) (on : Bool) (o : Option Running) (f : Running → Cycle) → ((c : Running) → (f c).ended ≡ call) → IsAt call (if on then None else option_map f o)
told_at call true o f ends = tt
told_at call false None f ends = tt
told_at call false (Some c) f ends = ends c

step_at : (r : ReaderState) (x : Reading) → IsAt x.line (read_step r x).1
step_at r x = told_at x.line x.stat.cycle r.running (λ (c : Running). cycle_of r x (going r.last x c)) (λ c. refl)

read_at : (call : ℕ) (r : ReaderState) (s : PacedState) (same one : Bool)
    → IsAt call (if same then read_step r (reading_of call (stat_of s.heap)) else if one then read_flip call r s else (skip_step r call (stat_of s.heap), None)).1
read_at call r s true one = step_at r (reading_of call (stat_of s.heap))
read_at call r s false true = step_at (read_step r (reading_of call (before_flip r.last s))).0 (reading_of call (stat_of s.heap))
read_at call r s false false = tt

without_at : (call : ℕ) (told : Option Cycle) → IsAt call told → IsAt call (option_map without_entries told)
without_at call None at = tt
without_at call (Some c) at = at

after_at : (c : CyclesState) (s : PacedState) → IsAt (capped c.calls 1) (after_step c s).1
after_at c s = without_at (capped c.calls 1) _ (read_at (capped c.calls 1) c.reader s (c.reader.last.flips == s.heap.flips) (ends_with_flip c.reader.last s))

later : (a b last : ℕ) (cycles : List Cycle) → a ≤ b → EndInTurn b last cycles → EndInTurn a last cycles
later a b last [] le turn = tt
later a b last (c ∷ cycles) le turn = (omega (arith, le, turn.0), turn.1, turn.2)

told_turn : (call last : ℕ) (told : Option Cycle) (more : List Cycle) → IsAt (call + 1) told → call + 1 ≤ last → EndInTurn (call + 1) last more → EndInTurn call last (told_cycles told ++ more)
told_turn call last None more at le turn = later call (call + 1) last more (omega arith) turn
told_turn call last (Some c) more at le turn = (omega (arith, at), omega (arith, at, le), later c.ended (call + 1) last more (omega (arith, at)) turn)

one_more : (calls last : ℕ) → calls + 1 ≤ last → last < 2 ^ 64 → capped calls 1 ≡ calls + 1
one_more calls last le few = min-eq_left (omega (arith, le, few))

-- a program has no more answers than it may give commands
answers_few : {S : Type 0} (answerer : Answerer S) (program : Program) (n : ℕ) (s : S) (so_far : CommandAnswers) → length (answers_by answerer program n s so_far) ≤ n
answers_few {S} answerer program zero s so_far = let none : 0 ≤ 0 = omega arith in none
answers_few {S} answerer program (suc n) s so_far = by (program so_far) (answers_few answerer program n)
  where
    by : (o : Option (ℕ × Command)) → ((s : S) (so_far : CommandAnswers) → length (answers_by answerer program n s so_far) ≤ n)
        → length (option_map_or (λ (asked : ℕ × Command). let done = answerer so_far s asked.0 asked.1 in done.1 ∷ answers_by answerer program n done.0 (so_far ++ done.1 ∷ [])) o []) ≤ suc n
    by None rest = let none : 0 ≤ suc n = omega arith in none
    by (Some asked) rest =
        let done = answerer so_far s asked.0 asked.1 in
        let left = answers_by answerer program n done.0 (so_far ++ done.1 ∷ []) in
        let few : length left ≤ n = rest done.0 (so_far ++ done.1 ∷ []) in
        let all : length (done.1 ∷ left) ≤ suc n = omega (arith, few) in
        all

pub few_answers : {S : Type 0} (answerer : Answerer S) (program : Program) (n : ℕ) (s : S) → n < 2 ^ 64 → length (answers_by answerer program n s []) < 2 ^ 64
few_answers answerer program n s few = omega (arith, few, answers_few answerer program n s [])

pub as_many : (a b : CommandAnswers) → a ≡ b → length a ≤ length b
as_many a b same = omega (arith, ap length same)

module _ {S X C : Type 0} (paced : S → PacedState) (step : Stepping X S) (asks : Asking C) (hears : Hearing C) (given : CommandAnswers → X) (c : C) (last : ℕ) (few : last < 2 ^ 64) where
  abbrev read_by : Answerer (ReadHeap S)
  read_by = answerer_of (reading_steps paced step) asks hears given c

  abbrev program : Program
  program = program_of asks hears c

  -- so many commands add cycles, which end in turn
  abbrev AddsInTurn : ReadHeap S → ReadHeap S → Type 0
  AddsInTurn k end = (more : List Cycle) × (end.ended ≡ k.ended ++ more) × EndInTurn k.reader.calls last more

  pub in-turn : (n : ℕ) (k : ReadHeap S) (so_far : CommandAnswers) → k.reader.calls + length (answers_by read_by program n k so_far) ≤ last → AddsInTurn k (state_by read_by program n k so_far)
  in-turn zero k so_far le = ([], sym (append-nil k.ended), tt)
  in-turn (suc n) k so_far le = by (program so_far) (in-turn n) le
    where
      by : (o : Option (ℕ × Command)) → ((k : ReadHeap S) (so_far : CommandAnswers) → k.reader.calls + length (answers_by read_by program n k so_far) ≤ last → AddsInTurn k (state_by read_by program n k so_far))
          → k.reader.calls + length (option_map_or (λ (asked : ℕ × Command). let done = read_by so_far k asked.0 asked.1 in done.1 ∷ answers_by read_by program n done.0 (so_far ++ done.1 ∷ [])) o []) ≤ last
          → AddsInTurn k (option_map_or (λ (asked : ℕ × Command). let done = read_by so_far k asked.0 asked.1 in state_by read_by program n done.0 (so_far ++ done.1 ∷ [])) o k)
      by None rest le = ([], sym (append-nil k.ended), tt)
      by (Some asked) rest le =
          let done = read_by so_far k asked.0 asked.1 in
          let left = answers_by read_by program n done.0 (so_far ++ done.1 ∷ []) in
          let all : k.reader.calls + length (done.1 ∷ left) ≤ last = le in
          let told = (after_step k.reader (paced done.0.heap)).1 in
          let room : k.reader.calls + 1 ≤ last = omega (arith, all) in
          let next : done.0.reader.calls ≡ k.reader.calls + 1 = one_more k.reader.calls last room few in
          let after : done.0.reader.calls + length left ≤ last = omega (arith, all, next) in
          let r = rest done.0 (so_far ++ done.1 ∷ []) after in
          let at = subst (λ (m : ℕ). IsAt m told) next (after_at k.reader (paced done.0.heap)) in
          let turn = subst (λ (m : ℕ). EndInTurn m last r.0) next r.2 in
          (told_cycles told ++ r.0, r.1 ∙ append_assoc k.ended (told_cycles told) r.0, told_turn k.reader.calls last told r.0 at room turn)

  -- of a heap whose cycles are read from the first command on
  pub all-in-turn : (n : ℕ) (k : ReadHeap S) → length (answers_by read_by program n k []) ≤ last → k.reader.calls ≡ 0 → k.ended ≡ [] → EndInTurn 0 last (state_by read_by program n k []).ended
  all-in-turn n k le none new =
      let added = in-turn n k [] (omega (arith, le, none)) in
      let all : (state_by read_by program n k []).ended ≡ added.0 = added.1 ∙ ap (λ (l : List Cycle). l ++ added.0) new in
      subst (EndInTurn 0 last) (sym all) (subst (λ (m : ℕ). EndInTurn m last added.0) none added.2)
