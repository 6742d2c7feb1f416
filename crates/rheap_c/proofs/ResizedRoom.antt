-- What a resized heap keeps of the times.
use Rattle.std.proofs.Common.{◌≡◌, inl, inr, ℕ, ◌+◌, ◌≤◌, false, Some, sym, ap, subst, ◌∙◌, arith}
use Rattle.std.proofs.lemmas.Bool.{true≢false}
use Rattle.std.proofs.lemmas.Option.{same_Some}
use Rattle.rh_space.specs.Space.{free_words, used_words}
use Rattle.rh_mutator.specs.declared.config.Config.{Config}
use Rattle.rh_pace.specs.declared.pace.Pace.{Pace}
use Rattle.rh_pace.specs.InTime.{IsInTime}
use Rattle.rh_pace.specs.Pace.{KeepsUp}
use Rattle.rh_pace.specs.Paced.{PacedState}
use Rattle.rh_pace.specs.Resizing.{LeavesNoLess, resized}
use Rattle.rheap_c.specs.Opened.{IsNew}
use Rattle.rheap_c.specs.Resized.{IsResized, PaysRatio, Resizes, ResizesAt, ResizesBy}

-- One that was done has made the heap so, with a pace that fits.
module _ (Fits : ℕ → Pace → Type 0) (Can : ℕ → Type 0) (words : ℕ) (s t : PacedState) where
  done-at : (pace : Pace) → ResizesAt words pace s t 0 → IsResized words pace s t
  done-at pace (inl bad) = absurd (let is = bad.2 in omega (arith, is))
  done-at pace (inr (inl in_use)) = absurd (let is = in_use.3 in omega (arith, is))
  done-at pace (inr (inr (inl refused))) = absurd (let is = refused.4 in omega (arith, is))
  done-at pace (inr (inr (inr done))) = done.2

  by_done : ResizesBy (Fits s.heap.mutators.config.ratio) (Can s.heap.mutators.config.ratio) words s t 0
      → (pace : Pace) × Fits s.heap.mutators.config.ratio pace × IsResized words pace s t
  by_done (inl none) = absurd (let is = none.2 in omega (arith, is))
  by_done (inr (can, pace, fits, ends)) = (pace, fits, done-at pace ends)

  -- a store pays as before
  pays-at : (pace : Pace) (status : ℕ) → ResizesAt words pace s t status → PaysRatio s → PaysRatio t
  pays-at pace status (inl bad) pays = subst PaysRatio (sym bad.1) pays
  pays-at pace status (inr (inl in_use)) pays = subst PaysRatio (sym in_use.2) pays
  pays-at pace status (inr (inr (inl refused))) pays = subst PaysRatio (sym refused.3) pays
  pays-at pace status (inr (inr (inr done))) pays = let resized = done.2 in subst PaysRatio (sym resized.made) pays

  pays-by : (status : ℕ) → ResizesBy (Fits s.heap.mutators.config.ratio) (Can s.heap.mutators.config.ratio) words s t status → PaysRatio s → PaysRatio t
  pays-by status (inl none) pays = subst PaysRatio (sym none.1) pays
  pays-by status (inr (can, pace, fits, ends)) pays = pays-at pace status ends pays

pub done_of : (Fits : ℕ → Pace → Type 0) (Can : ℕ → Type 0) (words : ℕ) (s t : PacedState) → Resizes Fits Can words (Some s) (Some t) 0
    → (pace : Pace) × Fits s.heap.mutators.config.ratio pace × IsResized words pace s t
done_of Fits Can words s t (u, is, ends) =
    by_done Fits Can words s t
    (subst (λ (v : PacedState). ResizesBy (Fits s.heap.mutators.config.ratio) (Can s.heap.mutators.config.ratio) words s v 0) (sym (same_Some t u is)) ends)

pub pays_of : (Fits : ℕ → Pace → Type 0) (Can : ℕ → Type 0) (words status : ℕ) (s t : PacedState) → Resizes Fits Can words (Some s) (Some t) status
    → PaysRatio s → PaysRatio t
pays_of Fits Can words status s t (u, is, ends) =
    pays-by Fits Can words s t status
    (subst (λ (v : PacedState). ResizesBy (Fits s.heap.mutators.config.ratio) (Can s.heap.mutators.config.ratio) words s v status) (sym (same_Some t u is)) ends)

-- At a pace that keeps up it has that, where a store paid what the ratio says.
module _ (words live biggest : ℕ) (pace : Pace) (s t : PacedState) (is : IsResized words pace s t) (up : KeepsUp words live biggest s.heap.mutators.config.ratio pace) where
  pub pace_of : PaysRatio s → t.pace ≡ pace
  pace_of pays =
      let units : pace.store_units ≡ s.heap.mutators.config.ratio = up.paces.store_units in
      ap (λ (p : PacedState). p.pace) is.made ∙ ap (λ (n : ℕ). record pace { store_units = n }) (pays ∙ sym units)

  keeps_up : PaysRatio s → KeepsUp words live biggest s.heap.mutators.config.ratio t.pace
  keeps_up pays = subst (λ (p : Pace). KeepsUp words live biggest s.heap.mutators.config.ratio p) (sym (pace_of pays)) up

  mark_of : t.pace.mark ≡ pace.mark
  mark_of = ap (λ (p : PacedState). p.pace.mark) is.made

  pub free-in_time : PaysRatio s → s.heap.mutators.cycle ≡ false → used_words s.heap.mutators.space.objects + t.pace.mark ≤ words → IsInTime live biggest t
  free-in_time pays off room = is.free live biggest (keeps_up pays) off (let mark = mark_of in omega (arith, room, mark))

  pub on-in_time : IsInTime live biggest s → LeavesNoLess s words t.pace → IsInTime live biggest t
  on-in_time timely more =
      let keeps = timely.keeps_up in
      is.in_time live biggest timely (keeps_up keeps.paces.store_units) (let mark = mark_of in omega (arith, more, mark))

  -- so it says of its own configuration
  pub keeps-up : PaysRatio s → KeepsUp t.heap.mutators.config.words live biggest t.heap.mutators.config.ratio t.pace
  keeps-up pays = subst (λ (p : PacedState). KeepsUp p.heap.mutators.config.words live biggest p.heap.mutators.config.ratio t.pace) (sym is.made) (keeps_up pays)

-- A heap whose pace keeps up is in time where no cycle is on and the mark is free.
pub once-free : (live biggest : ℕ) (s : PacedState) → KeepsUp s.heap.mutators.config.words live biggest s.heap.mutators.config.ratio s.pace
    → s.heap.mutators.cycle ≡ false → s.pace.mark ≤ free_words s.heap.mutators.space → IsInTime live biggest s
once-free live biggest s up off free = record { keeps_up = up; outside = λ out. inl free; inside = λ on. absurd (true≢false (sym on ∙ off)) }

-- In a heap that is opened a store pays that.
pub new-pays : (words live biggest ratio : ℕ) (config : Config) (pace : Pace) (s : PacedState) → config.ratio ≡ ratio → KeepsUp words live biggest ratio pace → IsNew config pace s
    → PaysRatio s
new-pays words live biggest ratio config pace s same up is_new =
    let units : pace.store_units ≡ config.ratio = up.paces.store_units ∙ sym same in
    subst PaysRatio (sym is_new.made) units
