-- Each cycle that is told began no later than it ended.
use Rattle.std.proofs.Common.{◌≡◌, ℕ, ◌≤◌, Bool, true, false, List, [], ◌∷◌, Option, Some, None, refl, arith}
use Rattle.std.specs.Prelude.{All, not, if◌then◌else◌}
use Rattle.std.specs.Option.{option_map}
use Rattle.std.proofs.lemmas.List.Elements.{All-nil, All-cons, All-append}
use Rattle.rh_cycles.specs.declared.cycle.Cycle.{Cycle}
use Rattle.rh_cycles.specs.declared.running.Running.{Running}
use Rattle.rh_cycles.specs.Cycles.{Reading, ReaderState, begun, cycle_of, cycle_told, cycles_of, going, goes_on, read_step, told_cycles}
use Rattle.rh_cycles.specs.Runs.{AreRising}

-- what is kept began between two lines
abbrev pub IsBegunWithin : ℕ → ℕ → Option Running → Type 0
IsBegunWithin line now None = Unit {0}
IsBegunWithin line now (Some c) = (line ≤ c.began) × (c.began ≤ now)

-- a cycle that was told did, and it ended no sooner
abbrev pub IsInOrder : ℕ → Cycle → Type 0
IsInOrder line c = (line ≤ c.began) × (c.began ≤ c.ended)

module _ (line : ℕ) where
  kept : (now next : ℕ) → line ≤ now → now ≤ next → (on same : Bool) (o : Option Running) (f : Running → Running) → ((c : Running) → (f c).began ≡ c.began) → (new : Running) → new.began ≡ next
      → IsBegunWithin line now o → IsBegunWithin line next (if not on then None else if same then option_map f o else Some new)
  kept now next low le false same o f leaves new is within = tt
  kept now next low le true true None f leaves new is within = tt
  kept now next low le true true (Some c) f leaves new is within =
      let left = leaves c in
      (omega (arith, left, within.0), omega (arith, left, within.1, le))
  kept now next low le true false o f leaves new is within = (omega (arith, is, low, le), omega (arith, is))

  told : (now next : ℕ) → now ≤ next → (on : Bool) (o : Option Running) (f : Running → Cycle) → ((c : Running) → (f c).began ≡ c.began) → ((c : Running) → (f c).ended ≡ next)
      → IsBegunWithin line now o → All (IsInOrder line) (told_cycles (if on then None else option_map f o))
  told now next le true o f leaves ends within = All-nil (IsInOrder line)
  told now next le false None f leaves ends within = All-nil (IsInOrder line)
  told now next le false (Some c) f leaves ends within =
      let left = leaves c in
      let ended = ends c in
      All-cons (IsInOrder line) (f c) [] (omega (arith, left, within.0), omega (arith, left, ended, within.1, le)) (All-nil (IsInOrder line))

  pub in-order : (readings : List Reading) (now : ℕ) (r : ReaderState) → line ≤ now → AreRising now readings → IsBegunWithin line now r.running → All (IsInOrder line) (cycles_of r readings)
  in-order [] now r low rise within = All-nil (IsInOrder line)
  in-order (x ∷ xs) now r low rise within =
      let next = (read_step r x).0 in
      let first = told now x.line rise.0 x.stat.cycle r.running (λ c. cycle_of r x (going r.last x c)) (λ c. refl) (λ c. refl) within in
      let after = kept now x.line low rise.0 x.stat.cycle (goes_on r.last x.stat) r.running (going r.last x) (λ c. refl) (begun x) refl within in
      All-append (IsInOrder line) (told_cycles (cycle_told r x)) (cycles_of next xs) first (in-order xs x.line next (omega (arith, low, rise.0)) rise.1 after)
