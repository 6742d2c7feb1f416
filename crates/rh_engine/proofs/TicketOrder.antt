-- Room for tickets is refused by the first refusal that holds.
use Rattle.std.proofs.Common.{◌≡◌, ℕ, zero, suc, ◌-◌, ◌<◌, ◌⊎◌, inl, inr, Bool, true, false, if◌then◌else◌, length, Option, Some, None, Result, Ok, Err, refl, sym, ap, ◌∙◌, subst, arith}
use Rattle.std.specs.Prelude.{nat_lt, replicate, IsOk}
use Rattle.std.specs.Bool.{Decides}
use Rattle.std.proofs.lemmas.Bool.{false≢true}
use Rattle.std.proofs.lemmas.Bool.Decides.{Decides-ltb}
use Rattle.std.proofs.lemmas.List.{length-append, length-replicate}
use Rattle.rh_text.specs.Stages.{IsLeast, IsFaultless}
use Rattle.rh_watches.specs.declared.watch.Watch.TheVariants.{Free}
use Rattle.rh_core.specs.Heap.{HeapState}
use Rattle.rh_core.specs.Watching.{with_watch_room}
use Rattle.rh_engine.specs.Engine.{EngineState, tickets_line_refusal, tickets_unless, tickets_line_step, refusals_of_tickets}
use Rattle.rh_engine.specs.declared.engine.TicketsRefusal.{TicketsRefusal}
use Rattle.rh_engine.specs.declared.engine.TicketsRefusal.TheVariants.{Fewer, TooMany}

-- why room for so many is refused, or that it isn't
pub data Refused (tickets now : ℕ) (why : Option TicketsRefusal) : Type 0 where
  fewer : tickets < now → why ≡ Some (Fewer now) → Refused tickets now why
  many : ¬ (tickets < now) → 65536 < tickets → why ≡ Some TooMany → Refused tickets now why
  fits : ¬ (tickets < now) → ¬ (65536 < tickets) → why ≡ None → Refused tickets now why

abbrev refused_by : ℕ → Bool → Bool → Option TicketsRefusal
refused_by now less more = if less then Some (Fewer now) else if more then Some TooMany else None

refused_cases : (tickets now : ℕ) (less more : Bool) → Decides less (tickets < now) → Decides more (65536 < tickets) → Refused tickets now (refused_by now less more)
refused_cases tickets now true more is_less is_more = fewer (is_less.0 refl) refl
refused_cases tickets now false true is_less is_more = many (λ h. false≢true (is_less.1 h)) (is_more.0 refl) refl
refused_cases tickets now false false is_less is_more = fits (λ h. false≢true (is_less.1 h)) (λ h. false≢true (is_more.1 h)) refl

module _ (e : EngineState) (tickets : ℕ) where
  abbrev now : ℕ
  now = length e.heap.watches.tickets

  refused : Refused tickets now (tickets_line_refusal e tickets)
  refused = refused_cases tickets now (nat_lt tickets now) (nat_lt 65536 tickets) (Decides-ltb tickets now) (Decides-ltb 65536 tickets)

  abbrev Holds : ℕ → TicketsRefusal → Type 0
  Holds = refusals_of_tickets e tickets

  abbrev made : EngineState
  made = record e { heap = with_watch_room e.heap tickets }

  abbrev done : Option TicketsRefusal → EngineState × Result ℕ TicketsRefusal
  done why = tickets_unless why e tickets

  first : (p : ℕ) (k : TicketsRefusal) → Holds p k → (0 < p) ⊎ ((p ≡ 0) × (k ≡ Fewer now))
  first zero k h = inr (refl, h.0)
  first (suc p) k h = inl (omega arith)

  second : ¬ (tickets < now) → (p : ℕ) (k : TicketsRefusal) → Holds p k → (1 < p) ⊎ ((p ≡ 1) × (k ≡ TooMany))
  second enough zero k h = absurd (enough h.1)
  second enough (suc zero) k h = inr (refl, h.0)
  second enough (suc (suc p)) k h = inl (omega arith)

  none_holds : ¬ (tickets < now) → ¬ (65536 < tickets) → (p : ℕ) (k : TicketsRefusal) → Holds p k → ⊥
  none_holds enough few zero k h = enough h.1
  none_holds enough few (suc zero) k h = few h.1
  none_holds enough few (suc (suc p)) k h = h

  abbrev IsRefused : EngineState × Result ℕ TicketsRefusal → Type 0
  IsRefused after = (why : TicketsRefusal) → after.1 ≡ Err why → IsLeast Holds why × (after.0 ≡ e)

  refused_first : (o : Option TicketsRefusal) → Refused tickets now o → IsRefused (done o)
  refused_first o (fewer less is) = subst (λ x. IsRefused (done x)) (sym is) (λ why h.
      let equal : Fewer now ≡ why = cc in
      (subst (IsLeast Holds) equal (record { stage = 0; holds = (refl, less); least = first }), refl))
  refused_first o (many enough more is) = subst (λ x. IsRefused (done x)) (sym is) (λ why h.
      let equal : TooMany ≡ why = cc in
      (subst (IsLeast Holds) equal (record { stage = 1; holds = (refl, more); least = second enough }), refl))
  refused_first o (fits enough few is) = subst (λ x. IsRefused (done x)) (sym is) (λ why h. cc)

  pub tickets-refused : IsRefused (tickets_line_step e tickets)
  tickets-refused = refused_first (tickets_line_refusal e tickets) refused

  -- there are so many then
  counted : ¬ (tickets < now) → length made.heap.watches.tickets ≡ tickets
  counted enough = omega (arith, enough, length-append e.heap.watches.tickets (replicate (tickets - now) Free), length-replicate (tickets - now) Free)

  abbrev IsMade : EngineState × Result ℕ TicketsRefusal → Type 0
  IsMade after = (n : ℕ) → after.1 ≡ Ok n → IsFaultless Holds × (n ≡ tickets) × (length after.0.heap.watches.tickets ≡ tickets)

  made_within : (o : Option TicketsRefusal) → Refused tickets now o → IsMade (done o)
  made_within o (fewer less is) = subst (λ x. IsMade (done x)) (sym is) (λ n h. cc)
  made_within o (many enough more is) = subst (λ x. IsMade (done x)) (sym is) (λ n h. cc)
  made_within o (fits enough few is) = subst (λ x. IsMade (done x)) (sym is) (λ n h. (none_holds enough few, cc, counted enough))

  pub tickets-accepted : IsMade (tickets_line_step e tickets)
  tickets-accepted = made_within (tickets_line_refusal e tickets) refused

  -- what holds of the engine as it is, and of one with such room, holds after the line
  pub tickets-either : (P : EngineState → Type 0) → P e → P made → P (tickets_line_step e tickets).0
  tickets-either P before given = either_by (tickets_line_refusal e tickets) refused
    where
      either_by : (o : Option TicketsRefusal) → Refused tickets now o → P (done o).0
      either_by o (fewer less is) = subst (λ x. P (done x).0) (sym is) before
      either_by o (many enough more is) = subst (λ x. P (done x).0) (sym is) before
      either_by o (fits enough few is) = subst (λ x. P (done x).0) (sym is) given

  pub tickets-trays : (tickets_line_step e tickets).0.trays ≡ e.trays
  tickets-trays = tickets-either (λ x. x.trays ≡ e.trays) refl refl

  -- what comes of a line that is refused, and of one that isn't
  when_fewer : tickets < now → tickets_line_step e tickets ≡ (e, Err (Fewer now))
  when_fewer less = fewer_by (tickets_line_refusal e tickets) refused
    where
      fewer_by : (o : Option TicketsRefusal) → Refused tickets now o → done o ≡ (e, Err (Fewer now))
      fewer_by o (fewer found is) = ap done is
      fewer_by o (many enough more is) = absurd (enough less)
      fewer_by o (fits enough few is) = absurd (enough less)

  when_many : ¬ (tickets < now) → 65536 < tickets → tickets_line_step e tickets ≡ (e, Err TooMany)
  when_many enough more = many_by (tickets_line_refusal e tickets) refused
    where
      many_by : (o : Option TicketsRefusal) → Refused tickets now o → done o ≡ (e, Err TooMany)
      many_by o (fewer found is) = absurd (enough found)
      many_by o (many found above is) = ap done is
      many_by o (fits found few is) = absurd (few more)

  when_fits : ¬ (tickets < now) → ¬ (65536 < tickets) → tickets_line_step e tickets ≡ (made, Ok tickets)
  when_fits enough few = fits_by (tickets_line_refusal e tickets) refused
    where
      fits_by : (o : Option TicketsRefusal) → Refused tickets now o → done o ≡ (made, Ok tickets)
      fits_by o (fewer found is) = absurd (enough found)
      fits_by o (many found above is) = absurd (few above)
      fits_by o (fits found within is) = ap done is

-- an engine with this heap, and its own trays
abbrev with_heap : EngineState → HeapState → EngineState
with_heap e h = record { heap = h; trays = e.trays }

module _ (e was : EngineState) (is : e ≡ was) (h : HeapState) (tickets : ℕ) where
  abbrev there : ℕ
  there = length e.heap.watches.tickets

  -- what the line comes to, by what the heap did: room was made,
  pub comes-made : h ≡ with_watch_room e.heap tickets → ¬ (tickets < there) → ¬ (65536 < tickets) → tickets_line_step was tickets ≡ (with_heap e h, Ok tickets)
  comes-made made_is enough few = ap (λ x. tickets_line_step x tickets) (sym is) ∙ when_fits e tickets enough few ∙ ap (λ x. (with_heap e x, Ok tickets)) (sym made_is)

  -- or there is room for more already,
  pub comes-fewer : h ≡ e.heap → (n : ℕ) → (tickets < there) × (n ≡ there) → tickets_line_step was tickets ≡ (with_heap e h, Err (Fewer n))
  comes-fewer same n why =
      ap (λ x. tickets_line_step x tickets) (sym is) ∙ when_fewer e tickets why.0
      ∙ ap (λ x. (with_heap e x, Err (Fewer there))) (sym same) ∙ ap (λ x. (with_heap e h, Err (Fewer x))) (sym why.1)

  -- or they are too many
  pub comes-many : h ≡ e.heap → ¬ (tickets < there) → 65536 < tickets → tickets_line_step was tickets ≡ (with_heap e h, Err TooMany)
  comes-many same enough more = ap (λ x. tickets_line_step x tickets) (sym is) ∙ when_many e tickets enough more ∙ ap (λ x. (with_heap e x, Err TooMany)) (sym same)

  -- and where only memory refused it, it isn't refused here
  pub comes-accepted : ¬ (tickets < there) → ¬ (65536 < tickets) → IsOk (tickets_line_step was tickets).1
  comes-accepted enough few = subst (λ (x : EngineState × Result ℕ TicketsRefusal). IsOk x.1) (sym (ap (λ x. tickets_line_step x tickets) (sym is) ∙ when_fits e tickets enough few)) refl
