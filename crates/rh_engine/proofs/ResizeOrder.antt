-- A resize is refused by the first refusal that holds.
use Rattle.std.proofs.Common.{◌≡◌, ℕ, zero, suc, ◌<◌, ◌≤◌, ◌-◌, length, ◌⊎◌, inl, inr, Bool, true, false, ◌||◌, if◌then◌else◌, Option, Some, None, Result, Ok, Err, refl, sym, ap, ◌∙◌, subst, arith}
use Rattle.std.specs.Prelude.{nat_lt, IsOk}
use Rattle.std.proofs.Math.Nat.{lt_of_not-le}
use Rattle.std.specs.Bool.{Decides}
use Rattle.std.proofs.lemmas.Bool.{false≢true}
use Rattle.std.proofs.lemmas.Bool.Decides.{Decides-ltb, nat_tests}
use Rattle.rh_text.specs.Stages.{IsLeast, IsFaultless}
use Rattle.rh_core.specs.Config.{fault_of}
use Rattle.rh_core.specs.Heap.{HeapState, IsWellFormed}
use Rattle.rh_core.specs.Resize.{with_sizes}
use Rattle.rh_core.specs.Stat.{stat_of}
use Rattle.rh_engine.specs.Engine.{EngineState, with_space, resize_line_refusal, resize_unless, resize_line_step, refusals_of_resize}
use Rattle.rh_engine.specs.declared.engine.ResizeRefusal.{ResizeRefusal}
use Rattle.rh_engine.specs.declared.engine.ResizeRefusal.TheVariants.{BadSpace, Used}

-- the words of a space aren't 8 to 16,777,216
abbrev pub IsOut : ℕ → Type 0
IsOut words = (words < 8) ⊎ (16777216 < words)

-- why so many words are refused, or that they aren't
pub data Refused (words used : ℕ) (why : Option ResizeRefusal) : Type 0 where
  out : IsOut words → why ≡ Some BadSpace → Refused words used why
  over : ¬ IsOut words → words < used → why ≡ Some (Used used) → Refused words used why
  fits : ¬ IsOut words → ¬ (words < used) → why ≡ None → Refused words used why

abbrev refused_by : ℕ → Bool → Bool → Bool → Option ResizeRefusal
refused_by used low high more = if low || high then Some BadSpace else if more then Some (Used used) else None

within : (words : ℕ) → Decides false (words < 8) → Decides false (16777216 < words) → ¬ IsOut words
within words low high (inl h) = false≢true (low.1 h)
within words low high (inr h) = false≢true (high.1 h)

refused_cases : (words used : ℕ) (low high more : Bool) → Decides low (words < 8) → Decides high (16777216 < words) → Decides more (words < used) → Refused words used (refused_by used low high more)
refused_cases words used true high more is_low is_high is_more = out (inl (is_low.0 refl)) refl
refused_cases words used false true more is_low is_high is_more = out (inr (is_high.0 refl)) refl
refused_cases words used false false true is_low is_high is_more = over (within words is_low is_high) (is_more.0 refl) refl
refused_cases words used false false false is_low is_high is_more = fits (within words is_low is_high) (λ h. false≢true (is_more.1 h)) refl

module _ (e : EngineState) (words : ℕ) where
  abbrev used : ℕ
  used = (stat_of e.heap).used

  -- the refusal of a resize
  pub refused : Refused words used (resize_line_refusal e words)
  refused = refused_cases words used (nat_lt words 8) (nat_lt 16777216 words) (nat_lt words used) (Decides-ltb words 8) (Decides-ltb 16777216 words) (Decides-ltb words used)

  abbrev Holds : ℕ → ResizeRefusal → Type 0
  Holds = refusals_of_resize e words

  abbrev done : Option ResizeRefusal → EngineState × Result ℕ ResizeRefusal
  done why = resize_unless why e words

  first : (p : ℕ) (k : ResizeRefusal) → Holds p k → (0 < p) ⊎ ((p ≡ 0) × (k ≡ BadSpace))
  first zero k h = inr (refl, h.0)
  first (suc p) k h = inl (omega arith)

  second : ¬ IsOut words → (p : ℕ) (k : ResizeRefusal) → Holds p k → (1 < p) ⊎ ((p ≡ 1) × (k ≡ Used used))
  second in_range zero k h = absurd (in_range h.1)
  second in_range (suc zero) k h = inr (refl, h.0)
  second in_range (suc (suc p)) k h = inl (omega arith)

  none_holds : ¬ IsOut words → ¬ (words < used) → (p : ℕ) (k : ResizeRefusal) → Holds p k → ⊥
  none_holds in_range few zero k h = in_range h.1
  none_holds in_range few (suc zero) k h = few h.1
  none_holds in_range few (suc (suc p)) k h = h

  abbrev IsRefused : EngineState × Result ℕ ResizeRefusal → Type 0
  IsRefused after = (why : ResizeRefusal) → after.1 ≡ Err why → IsLeast Holds why × (after.0 ≡ e)

  refused_first : (o : Option ResizeRefusal) → Refused words used o → IsRefused (done o)
  refused_first o (out is_out is) = subst (λ x. IsRefused (done x)) (sym is) (λ why h.
      let equal : BadSpace ≡ why = cc in
      (subst (IsLeast Holds) equal (record { stage = 0; holds = (refl, is_out); least = first }), refl))
  refused_first o (over in_range more is) = subst (λ x. IsRefused (done x)) (sym is) (λ why h.
      let equal : Used used ≡ why = cc in
      (subst (IsLeast Holds) equal (record { stage = 1; holds = (refl, more); least = second in_range }), refl))
  refused_first o (fits in_range few is) = subst (λ x. IsRefused (done x)) (sym is) (λ why h. cc)

  pub resize-refused : IsRefused (resize_line_step e words)
  resize-refused = refused_first (resize_line_refusal e words) refused

  abbrev IsResized : EngineState × Result ℕ ResizeRefusal → Type 0
  IsResized after = (n : ℕ) → after.1 ≡ Ok n → IsFaultless Holds × (n ≡ words) × (stat_of after.0.heap ≡ record (stat_of e.heap) { free = words - used })

  resized_within : (o : Option ResizeRefusal) → Refused words used o → IsResized (done o)
  resized_within o (out is_out is) = subst (λ x. IsResized (done x)) (sym is) (λ n h. cc)
  resized_within o (over in_range more is) = subst (λ x. IsResized (done x)) (sym is) (λ n h. cc)
  resized_within o (fits in_range few is) = subst (λ x. IsResized (done x)) (sym is) (λ n h. (none_holds in_range few, cc, refl))

  pub resize-accepted : IsResized (resize_line_step e words)
  resize-accepted = resized_within (resize_line_refusal e words) refused

  -- what holds of the engine as it is, and of one with other sizes, holds after a resize
  pub resize-either : (P : EngineState → Type 0) → P e → (¬ IsOut words → ¬ (words < used) → P (with_space e words)) → P (resize_line_step e words).0
  resize-either P now given = either_by (resize_line_refusal e words) refused
    where
      either_by : (o : Option ResizeRefusal) → Refused words used o → P (done o).0
      either_by o (out found is) = subst (λ x. P (done x).0) (sym is) now
      either_by o (over found more is) = subst (λ x. P (done x).0) (sym is) now
      either_by o (fits found few is) = subst (λ x. P (done x).0) (sym is) (given found few)

  pub resize-limit : (resize_line_step e words).0.heap.mutators.config.log_limit ≡ e.heap.mutators.config.log_limit
  resize-limit = resize-either (λ x. x.heap.mutators.config.log_limit ≡ e.heap.mutators.config.log_limit) refl (λ found few. refl)

  pub resize-trays : (resize_line_step e words).0.trays ≡ e.trays
  resize-trays = resize-either (λ x. x.trays ≡ e.trays) refl (λ found few. refl)

  -- what comes of a resize that is refused, and of one that isn't
  pub when_out : IsOut words → resize_line_step e words ≡ (e, Err BadSpace)
  when_out is_out = out_by (resize_line_refusal e words) refused
    where
      out_by : (o : Option ResizeRefusal) → Refused words used o → done o ≡ (e, Err BadSpace)
      out_by o (out found is) = ap done is
      out_by o (over in_range more is) = absurd (in_range is_out)
      out_by o (fits in_range few is) = absurd (in_range is_out)

  pub when_over : ¬ IsOut words → words < used → resize_line_step e words ≡ (e, Err (Used used))
  when_over in_range more = over_by (resize_line_refusal e words) refused
    where
      over_by : (o : Option ResizeRefusal) → Refused words used o → done o ≡ (e, Err (Used used))
      over_by o (out found is) = absurd (in_range found)
      over_by o (over found above is) = ap done is
      over_by o (fits found few is) = absurd (few more)

  pub when_fits : ¬ IsOut words → ¬ (words < used) → resize_line_step e words ≡ (with_space e words, Ok words)
  when_fits in_range few = fits_by (resize_line_refusal e words) refused
    where
      fits_by : (o : Option ResizeRefusal) → Refused words used o → done o ≡ (with_space e words, Ok words)
      fits_by o (out found is) = absurd (in_range found)
      fits_by o (over found more is) = absurd (few more)
      fits_by o (fits found within is) = ap done is

-- words that aren't out are in range
pub in_range : (words : ℕ) → ¬ IsOut words → (8 ≤ words) × (words ≤ 16777216)
in_range words none = (omega (arith, lt_of_not-le (λ (h : suc words ≤ 8). none (inl h))), omega (arith, lt_of_not-le (λ (h : suc 16777216 ≤ words). none (inr h))))

-- and words in range aren't out
not_out : (words : ℕ) → 8 ≤ words → words ≤ 16777216 → ¬ IsOut words
not_out words least most (inl h) = omega (arith, least, h)
not_out words least most (inr h) = omega (arith, most, h)

-- an engine with this heap, and its own trays
abbrev with_heap : EngineState → HeapState → EngineState
with_heap e h = record { heap = h; trays = e.trays }

module _ (e now : EngineState) (is : e ≡ now) (h : HeapState) (words : ℕ) where
  -- what a resize comes to, by what the heap did: it was resized,
  pub comes-resized : (limit : ℕ) → limit ≡ e.heap.mutators.config.log_limit → h ≡ with_sizes e.heap words limit → ¬ IsOut words → ¬ (words < (stat_of e.heap).used) → resize_line_step now words ≡ (with_heap e h, Ok words)
  comes-resized limit kept made found few =
      let heap : h ≡ with_sizes e.heap words e.heap.mutators.config.log_limit = made ∙ ap (with_sizes e.heap words) kept in
      ap (λ x. resize_line_step x words) (sym is) ∙ when_fits e words found few ∙ ap (λ x. (with_heap e x, Ok words)) (sym heap)

  -- or refused for the words themselves,
  pub comes-out : h ≡ e.heap → IsOut words → resize_line_step now words ≡ (with_heap e h, Err BadSpace)
  comes-out same out_of = ap (λ x. resize_line_step x words) (sym is) ∙ when_out e words out_of ∙ ap (λ x. (with_heap e x, Err BadSpace)) (sym same)

  -- or for those that are used
  pub comes-over : h ≡ e.heap → (n : ℕ) → (8 ≤ words) × (words ≤ 16777216) × (words < (stat_of e.heap).used) × (n ≡ (stat_of e.heap).used) → resize_line_step now words ≡ (with_heap e h, Err (Used n))
  comes-over same n why =
      ap (λ x. resize_line_step x words) (sym is) ∙ when_over e words (not_out words why.0 why.1) why.2
      ∙ ap (λ x. (with_heap e x, Err (Used (stat_of e.heap).used))) (sym same) ∙ ap (λ x. (with_heap e h, Err (Used x))) (sym why.3)

  -- and where only memory refused it, it isn't refused here
  pub comes-accepted : ¬ IsOut words → ¬ (words < (stat_of e.heap).used) → IsOk (resize_line_step now words).1
  comes-accepted found few = subst (λ (x : EngineState × Result ℕ ResizeRefusal). IsOk x.1) (sym (ap (λ x. resize_line_step x words) (sym is) ∙ when_fits e words found few)) refl

-- the limit of a heap's log is one that a log may have
pub limit_within : (h : HeapState) (limit : ℕ) → limit ≡ h.mutators.config.log_limit → fault_of h.mutators.config ≡ None → (limit ≡ 0) ⊎ (1048576 < limit) → ⊥
limit_within h limit is none bad = grind (arith, nat_tests)

-- and no heap's log keeps more entries
pub entries_within : (h new : HeapState) → IsWellFormed new → new ≡ h → h.mutators.config.log_limit < length h.mutators.log.entries → ⊥
entries_within h new fine is more =
    let same : IsWellFormed h = subst IsWellFormed is fine in
    omega (arith, same.heap.mutators.log.fits, same.heap.mutators.limit, more)
