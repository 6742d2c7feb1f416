-- What one reading, and a list of readings, adds to the words freed and to the flips.
use Rattle.std.proofs.Common.{◌≡◌, ℕ, ◌+◌, ◌==◌, Bool, true, false, List, [], ◌∷◌, ◌++◌, Option, Some, None, refl, sym, ap, subst, ◌∙◌, inl, inr, arith}
use Rattle.std.specs.Prelude.{nat_lt, ◌&&◌, is_some, if◌then◌else◌}
use Rattle.std.specs.Option.{option_map}
use Rattle.std.proofs.lemmas.Bool.{lt-ltb, le-ltb, true≢false}
use Rattle.rh_cycles.specs.declared.cycle.Cycle.{Cycle}
use Rattle.rh_cycles.specs.declared.running.Running.{Running}
use Rattle.rh_cycles.specs.Cycles.{Reading, ReaderState, cycle_of, cycle_told, cycles_of, end_of, going, goes_on, reader_after, read_step, running_after, told_cycles}
use Rattle.rh_cycles.specs.Runs.{AreSteps, IsFlip, IsMade, IsStep, IsWhole, flip_count, flips_in, readings_of, words_freed, words_in}

-- a reader that read the begin of its cycle did so after each reading
pub IsWhole-read : (r : ReaderState) (x : Reading) → IsWhole r → IsWhole (read_step r x).0
IsWhole-read r x whole = by x.stat.cycle refl
  where
    mapped : (o : Option Running) (f : Running → Running) → is_some (option_map f o) ≡ is_some o
    mapped None f = refl
    mapped (Some c) f = refl

    on : x.stat.cycle ≡ true → (b : Bool) → goes_on r.last x.stat ≡ b → is_some (running_after r x) ≡ true
    on is false other = rw (is, other) refl
    on is true same = rw (is, same) (mapped r.running (going r.last x) ∙ whole ∙ was r.last.cycle refl)
      where
        was : (b : Bool) → r.last.cycle ≡ b → r.last.cycle ≡ true
        was true it = it
        was false it = absurd (true≢false (sym same ∙ ap (λ b. b && (r.last.flips == x.stat.flips)) it))

    by : (b : Bool) → x.stat.cycle ≡ b → is_some (running_after r x) ≡ x.stat.cycle
    by false is = rw (is) refl
    by true is = on is (goes_on r.last x.stat) refl ∙ sym is

-- What a cycle that ended freed, and whether by a flip.
module _ (r : ReaderState) (x : Reading) (c : Running) where
  freed-made : (made : ℕ) → IsMade made r.last x.stat
      → ((cycle_of r x c).freed + x.stat.used ≡ r.last.used + made) × (x.stat.flips ≡ r.last.flips + flip_count (cycle_of r x c).end)
  freed-made made is =
      let none : nat_lt r.last.flips x.stat.flips ≡ false = le-ltb _ _ (omega (arith, is.flips)) in
      let kept : flip_count (end_of r.last x.stat) ≡ 0 = rw (none) refl in
      (omega (arith, is.used), omega (arith, kept, is.flips))

  freed-flip : (made : ℕ) → IsFlip made r.last x.stat
      → ((cycle_of r x c).freed + x.stat.used ≡ r.last.used + made) × (x.stat.flips ≡ r.last.flips + flip_count (cycle_of r x c).end)
  freed-flip made is =
      let some : nat_lt r.last.flips x.stat.flips ≡ true = lt-ltb _ _ (omega (arith, is.flips)) in
      let one : flip_count (end_of r.last x.stat) ≡ 1 = rw (some) refl in
      (omega (arith, is.used, is.nothing), omega (arith, one, is.flips))

-- What one reading adds.
module _ (r : ReaderState) (x : Reading) (whole : IsWhole r) (made : ℕ) where
  abbrev pub IsCounted : List Cycle → Type 0
  IsCounted cycles = (words_freed cycles + x.stat.used ≡ r.last.used + made) × (x.stat.flips ≡ r.last.flips + flips_in cycles)

  counted-none : IsMade made r.last x.stat → IsCounted []
  counted-none is = (omega (arith, is.used), omega (arith, is.flips))

  counted-one : (c : Cycle) → (c.freed + x.stat.used ≡ r.last.used + made) × (x.stat.flips ≡ r.last.flips + flip_count c.end) → IsCounted (c ∷ [])
  counted-one c is = (omega (arith, is.0), omega (arith, is.1))

  counted-ended : x.stat.cycle ≡ false → IsStep made r.last x.stat → (o : Option Running) → is_some o ≡ r.last.cycle
      → IsCounted (told_cycles (option_map (λ c. cycle_of r x (going r.last x c)) o))
  counted-ended off (inl is) None same = counted-none is
  counted-ended off (inr is) None same = absurd (true≢false (sym is.on ∙ sym same))
  counted-ended off (inl is) (Some c) same = counted-one (cycle_of r x (going r.last x c)) (freed-made r x (going r.last x c) made is)
  counted-ended off (inr is) (Some c) same = counted-one (cycle_of r x (going r.last x c)) (freed-flip r x (going r.last x c) made is)

  counted-on : x.stat.cycle ≡ true → IsStep made r.last x.stat → IsCounted []
  counted-on on (inl is) = counted-none is
  counted-on on (inr is) = absurd (true≢false (sym on ∙ is.off))

  pub counted : IsStep made r.last x.stat → IsCounted (told_cycles (cycle_told r x))
  counted step = by x.stat.cycle refl
    where
      by : (b : Bool) → x.stat.cycle ≡ b → IsCounted (told_cycles (cycle_told r x))
      by true on = subst (λ b. IsCounted (told_cycles (if b then None else option_map (λ c. cycle_of r x (going r.last x c)) r.running))) (sym on) (counted-on on step)
      by false off = subst (λ b. IsCounted (told_cycles (if b then None else option_map (λ c. cycle_of r x (going r.last x c)) r.running))) (sym off) (counted-ended off step r.running whole)

-- Lists.

words_freed-append : (a b : List Cycle) → words_freed (a ++ b) ≡ words_freed a + words_freed b
words_freed-append [] b = omega arith
words_freed-append (c ∷ a) b = let rest = words_freed-append a b in omega (arith, rest)

flips_in-append : (a b : List Cycle) → flips_in (a ++ b) ≡ flips_in a + flips_in b
flips_in-append [] b = omega arith
flips_in-append (c ∷ a) b = let rest = flips_in-append a b in omega (arith, rest)

pub all-counted : (steps : List (ℕ × Reading)) (r : ReaderState) → IsWhole r → AreSteps r.last steps
    → (words_freed (cycles_of r (readings_of steps)) + (reader_after r (readings_of steps)).last.used ≡ r.last.used + words_in steps)
    × ((reader_after r (readings_of steps)).last.flips ≡ r.last.flips + flips_in (cycles_of r (readings_of steps)))
all-counted [] r whole are = (omega arith, omega arith)
all-counted (s ∷ steps) r whole are =
    let next = (read_step r s.1).0 in
    let told = told_cycles (cycle_told r s.1) in
    let one = counted r s.1 whole s.0 are.0 in
    let rest = all-counted steps next (IsWhole-read r s.1 whole) are.1 in
    let words = words_freed-append told (cycles_of next (readings_of steps)) in
    let flips = flips_in-append told (cycles_of next (readings_of steps)) in
    (omega (arith, one.0, rest.0, words), omega (arith, one.1, rest.1, flips))
