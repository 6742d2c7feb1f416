-- How a resize ends, by what `PacedHeap::resize` answers.
use Rattle.std.proofs.Common.{◌≡◌, ℕ, ◌+◌, ◌<◌, ◌≤◌, false, length, Option, Some, Result, Ok, Err, refl, sym, ap, subst, ◌∙◌, inl, inr, arith}
use Rattle.std.specs.Prelude.{◌≢◌, ◌↔◌, ◌⊎◌, OnErr, OnOk, nat_lt}
use Rattle.std.proofs.lemmas.Bool.{cases_Bool, ltb-true, ltb-false}
use Rattle.rh_space.specs.Space.{used_words}
use Rattle.rh_model.specs.Plain.{PlainHeap}
use Rattle.rh_mutator.specs.Mutator.{StandsFor}
use Rattle.rh_core.specs.declared.errors.ResizeError.{ResizeError}
use Rattle.rh_core.specs.declared.errors.ResizeError.TheVariants.{BadLog, BadSpace, Entries, OutOfMemory, Used}
use Rattle.rh_core.proofs.ResizeLaws.{IsWellFormed-sizes}
use Rattle.rh_pace.specs.declared.pace.Pace.{Pace}
use Rattle.rh_pace.specs.InTime.{IsInTime}
use Rattle.rh_pace.specs.KeptUp.{IsKept}
use Rattle.rh_pace.specs.Pace.{AsksForLog, KeepsUp}
use Rattle.rh_pace.specs.Paced.{PacedState}
use Rattle.rh_pace.specs.Resizing.{LeavesNoLess, resized}
use Rattle.rh_pace.proofs.in_time.Resized.{IsPaced-resized}
use Rattle.rheap_c.specs.Resized.{GetsLarger, IsInUse, IsResized, MayBeSpace, Resizes, ResizesAt, ResizesBy, resize_status_of}

-- the words in use, and the entries of the log
abbrev pub used_in : PacedState → ℕ
used_in s = used_words s.heap.mutators.space.objects

abbrev pub kept_in : PacedState → ℕ
kept_in s = length s.heap.mutators.log.entries

-- one of two numbers is less, or not
less_or : (a b : ℕ) → (a < b) ⊎ (b ≤ a)
less_or a b = elim (cases_Bool (nat_lt a b)) [
  | inl less ↦ inl (ltb-true a b less)
  | inr not_less ↦ inr (ltb-false a b not_less)
]

-- What it answers.
pub record Answers (words : ℕ) (pace : Pace) (s : PacedState) (told : Result (Unit {0}) ResizeError) : Type 0 where
  pub bad : (told ≡ Err BadSpace) ↔ ((words < 8) ⊎ (16777216 < words))
  pub used : (n : ℕ) → (told ≡ Err (Used n)) ↔ ((8 ≤ words) × (words ≤ 16777216) × (words < used_in s) × (n ≡ used_in s))
  pub bad_log : (told ≡ Err BadLog) ↔ ((8 ≤ words) × (words ≤ 16777216) × (used_in s ≤ words) × ((pace.log_limit ≡ 0) ⊎ (1048576 < pace.log_limit)))
  pub entries : (n : ℕ) → (told ≡ Err (Entries n))
      ↔ ((8 ≤ words) × (words ≤ 16777216) × (used_in s ≤ words) × (1 ≤ pace.log_limit) × (pace.log_limit ≤ 1048576) × (pace.log_limit < kept_in s) × (n ≡ kept_in s))
  pub less : words ≤ s.heap.mutators.config.words → pace.log_limit ≤ s.heap.mutators.config.log_limit → told ≢ Err OutOfMemory

-- what it says of a heap, once it is resized
pub record Says (words : ℕ) (pace : Pace) (s t : PacedState) (told : Result (Unit {0}) ResizeError) : Type 0 where
  pub made : OnOk told (t ≡ resized s words pace)
  pub unchanged : OnErr told (t ≡ s)
  pub stands : (p : PlainHeap) → StandsFor s.heap.mutators p ↔ StandsFor t.heap.mutators p
  pub free : (live biggest : ℕ) → KeepsUp words live biggest s.heap.mutators.config.ratio (resized s words pace).pace → s.heap.mutators.cycle ≡ false
      → used_in s + pace.mark ≤ words → OnOk told (IsInTime live biggest t)
  pub in_time : (live biggest : ℕ) → IsInTime live biggest s → KeepsUp words live biggest s.heap.mutators.config.ratio (resized s words pace).pace
      → LeavesNoLess s words pace → OnOk told (IsInTime live biggest t)

module _ (words : ℕ) (pace : Pace) (s t : PacedState) (some : 1 ≤ pace.log_limit) (small : pace.log_limit ≤ 1048576) where
  -- the words are in their range where that isn't refused
  may_be : (told : Result (Unit {0}) ResizeError) → Answers words pace s told → told ≢ Err BadSpace → MayBeSpace words
  may_be told answers fine = (
    elim (less_or words 8) [ inl low ↦ absurd (fine (answers.bad.1 (inl low))) | inr least ↦ least ],
    elim (less_or 16777216 words) [ inl high ↦ absurd (fine (answers.bad.1 (inr high))) | inr most ↦ most ],
  )

  -- what is in use fits where that isn't refused
  not_in_use : (told : Result (Unit {0}) ResizeError) → Answers words pace s told → told ≢ Err BadSpace → told ≢ Err (Used (used_in s)) → told ≢ Err (Entries (kept_in s))
      → ¬ IsInUse words pace s
  not_in_use told answers fine few unlogged (inl more) =
      let may = may_be told answers fine in few ((answers.used (used_in s)).1 (may.0, may.1, more, refl))
  not_in_use told answers fine few unlogged (inr longer) =
      let may = may_be told answers fine in
      elim (less_or words (used_in s)) [
        | inl more ↦ few ((answers.used (used_in s)).1 (may.0, may.1, more, refl))
        | inr fits ↦ unlogged ((answers.entries (kept_in s)).1 (may.0, may.1, fits, some, small, longer, refl))
      ]

  larger : (words ≤ s.heap.mutators.config.words → pace.log_limit ≤ s.heap.mutators.config.log_limit → ⊥) → GetsLarger words pace s
  larger not_less = elim (less_or s.heap.mutators.config.words words) [
    | inl more ↦ inl more
    | inr fits ↦ elim (less_or s.heap.mutators.config.log_limit pace.log_limit) [ inl longer ↦ inr longer | inr few ↦ absurd (not_less fits few) ]
  ]

  -- a heap that keeps what it is to keep goes on to
  resized-kept : IsKept s → MayBeSpace words → ¬ IsInUse words pace s → IsKept (resized s words pace)
  resized-kept kept may unused =
      let fits : used_in s ≤ words = elim (less_or words (used_in s)) [ inl more ↦ absurd (unused (inl more)) | inr fits ↦ fits ] in
      let few : kept_in s ≤ pace.log_limit = elim (less_or pace.log_limit (kept_in s)) [ inl longer ↦ absurd (unused (inr longer)) | inr few ↦ few ] in (
        IsWellFormed-sizes s.heap words pace.log_limit kept.0 (record { least = may.0; most = may.1; used = fits; some_limit = some; small_limit = small; kept = few }),
        IsPaced-resized s words pace kept.1,
      )

  by_answer : (told : Result (Unit {0}) ResizeError) → IsKept s → Answers words pace s told → Says words pace s t told → ResizesAt words pace s t (resize_status_of told)
  by_answer (Ok done) kept answers says =
      let may = may_be (Ok done) answers (λ e. cc) in
      let unused = not_in_use (Ok done) answers (λ e. cc) (λ e. cc) (λ e. cc) in
      let paced = ap (λ (p : PacedState). p.pace) says.made in
      let up = λ (live biggest : ℕ). subst (λ (p : Pace). KeepsUp words live biggest s.heap.mutators.config.ratio p) paced in
      let is : IsResized words pace s t = record {
        made = says.made;
        kept = subst IsKept (sym says.made) (resized-kept kept may unused);
        stands = says.stands;
        free = λ live biggest keeps. says.free live biggest (up live biggest keeps);
        in_time = λ live biggest timely keeps. says.in_time live biggest timely (up live biggest keeps);
      } in
      inr (inr (inr (may, unused, is, refl)))
  by_answer (Err BadSpace) kept answers says =
      inl (
        (λ may. elim (answers.bad.0 refl) [
          | inl low ↦ (let least = may.0 in omega (arith, low, least))
          | inr high ↦ (let most = may.1 in omega (arith, high, most))
        ]),
        says.unchanged,
        refl,
      )
  by_answer (Err (Used n)) kept answers says =
      let is = (answers.used n).0 refl in inr (inl ((is.0, is.1), inl is.2, says.unchanged, refl))
  by_answer (Err BadLog) kept answers says = elim (answers.bad_log.0 refl).3 [
    | inl none ↦ absurd (omega (arith, none, some))
    | inr high ↦ absurd (omega (arith, high, small))
  ]
  by_answer (Err (Entries n)) kept answers says =
      let is = (answers.entries n).0 refl in inr (inl ((is.0, is.1), inr is.5, says.unchanged, refl))
  by_answer (Err OutOfMemory) kept answers says =
      inr (inr (inl (
        may_be (Err OutOfMemory) answers (λ e. cc),
        not_in_use (Err OutOfMemory) answers (λ e. cc) (λ e. cc) (λ e. cc),
        larger (λ fits few. answers.less fits few refl),
        says.unchanged,
        refl,
      )))

  pub resizes : (told : Result (Unit {0}) ResizeError) (status : ℕ) → status ≡ resize_status_of told → IsKept s → Answers words pace s told → Says words pace s t told
      → ResizesAt words pace s t status
  resizes told status is kept answers says = subst (λ (n : ℕ). ResizesAt words pace s t n) (sym is) (by_answer told kept answers says)

-- A pace asks for a log that there may be.
pub log_asked : (biggest : ℕ) (pace : Pace) → AsksForLog biggest pace → (1 ≤ pace.log_limit) × (pace.log_limit ≤ 1048576)
log_asked biggest pace log = let is = log.log_limit in (omega (arith, is), omega (arith, is))

-- With a pace that fits, at the ratio of the heap.
pub by_pace : (Fits : ℕ → Pace → Type 0) (Can : ℕ → Type 0) (words r ratio : ℕ) (pace : Pace) (s t : PacedState) (status : ℕ) → r ≡ ratio
    → Fits r pace → Can r → ResizesAt words pace s t status → ResizesBy (Fits ratio) (Can ratio) words s t status
by_pace Fits Can words r ratio pace s t status same fits can done =
    subst (λ (n : ℕ). ResizesBy (Fits n) (Can n) words s t status) same (inr (can, pace, fits, done))

-- In a handle.
pub held-resized : (Fits : ℕ → Pace → Type 0) (Can : ℕ → Type 0) (words : ℕ) (old new : Option PacedState) (s u t : PacedState) (status : ℕ)
    → old ≡ Some s → u ≡ s → new ≡ Some t → ResizesBy (Fits u.heap.mutators.config.ratio) (Can u.heap.mutators.config.ratio) words u t status
    → Resizes Fits Can words old new status
held-resized Fits Can words old new s u t status was same is done =
    let before : Some u ≡ old = ap (λ (p : PacedState). Some p) same ∙ sym was in
    subst (λ (o : Option PacedState). Resizes Fits Can words o new status) before (t, is, done)
