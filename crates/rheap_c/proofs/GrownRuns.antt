-- Calls on a heap that grows, made one after the other: what they tell is what a plain heap answers.
use Rattle.std.proofs.Common.{◌≡◌, ℕ, ℤ, ◌≤◌, true, inl, inr, List, [], ◌∷◌, length, refl, sym, ap, ◌∙◌, subst}
use Rattle.std.specs.Prelude.{All, Option, Some, None, IfSome, Result, Err}
use Rattle.std.proofs.lemmas.List.Elements.{All-nil, All-cons}
use Rattle.rh_layout.specs.declared.command.Command.{Command}
use Rattle.rh_layout.specs.declared.command.Command.TheVariants.{Load, Same}
use Rattle.rh_layout.specs.declared.command.Reply.{Reply}
use Rattle.rh_layout.specs.declared.command.RootId.{RootId}
use Rattle.rh_layout.specs.declared.refusal.Refusal.{Refusal}
use Rattle.rh_layout.specs.Refusing.{first_of}
use Rattle.rh_model.specs.Plain.{PlainHeap}
use Rattle.rh_mutator.specs.Mutator.{MutatorState, StandsFor, graph_of}
use Rattle.rh_mutator.specs.StoringAll.{first_refusal, log_limit_for, number_stores}
use Rattle.rh_mutator.specs.lemmas.Limits.{IsNoLimit, IsOnlyLimit}
use Rattle.rh_core.specs.runs.Progress.{words_made}
use Rattle.rh_pace.specs.Calls.{IsTransparent}
use Rattle.rh_pace.specs.Paced.{PacedState}
use Rattle.rh_pace.specs.Reaching.{AreEpochsSpent}
use Rattle.rh_pace.proofs.StoringAll.{first_refusal-met}
use Rattle.rh_pace.proofs.StoredInTime.{asked-no_limit}
use Rattle.rh_growing.specs.Growing.{GrowingState, IsGrowingInTime, with_paced}
use Rattle.rheap_c.specs.Grown.{AreGrownNumbers, AreGrownStoredUnless, IsGrownDone}
use Rattle.rheap_c.specs.declared.handle.Rheap.{Rheap}
use Rattle.rheap_c.specs.GrownRuns.{AreGrownMade, AreMadeOn, AreSeenAsPlain, IsGrownMade}
use Rattle.rheap_c.specs.Handle.{HoldsOne}
use Rattle.rheap_c.specs.Rows.{plain_refusal}
use Rattle.rheap_c.specs.Runs.{Answer, AreMade, AsksAsPlain, Call, DoesAsPlain, IsMade, ReadsAsPlain, StoresAsPlain, TellsAsPlain, after_call, command_of, is_limit_status, plain_after_call, plain_after_command, plain_after_row, question_of, row_of, tells, with_status}
use Rattle.rheap_c.specs.Runs.Call.{Does, Loads, Compares, InsistsOn, CollectsNow, IncrementsNow, Peeks, ReadsField, ReadsRoot, Counts, TellsNumbers, StoresInts, InsistsOnInts, LoadsInts, LoadsText}
use Rattle.rheap_c.specs.Told.{status_of}
use Rattle.rheap_c.proofs.Parts.{Calls-of_fixed, Calls-of_growing}
use Rattle.rheap_c.proofs.Refused.{full_told}
use Rattle.rheap_c.proofs.Rows.{is_limit_status-status_of, log_limit_for-IsOnlyLimit, unlimited-row}
use Rattle.rheap_c.proofs.Runs.{IsMade-after, IsMade-none, IsMade-plain, both_same, both_values, transparent_call}

-- The heap that a call leaves stands for what the plain heap is after it, and it told what that answers.
record IsSeen (new : Option GrowingState) (p : PlainHeap) (call : Call) (a : Answer) : Type 0 where
  left : GrowingState
  is : new ≡ Some left
  told : TellsAsPlain p call a
  stands : StandsFor left.paced.heap.mutators (plain_after_call p call a)

-- what was read of the heap inside
abbrev paced_left : Option PacedState → PacedState → PacedState
paced_left None d = d
paced_left (Some t) d = t

seen_inside : (s : GrowingState) (new : Option GrowingState) (u : PacedState) (call : Call) (a : Answer) (p : PlainHeap)
    → new ≡ Some (with_paced s u) → IsMade (Some s.paced) (Some u) call a → StandsFor s.paced.heap.mutators p → IsSeen new p call a
seen_inside s new u call a p is made stands =
    let both = IsMade-plain s.paced (Some u) call a p made stands in
    let same : u ≡ after_call s.paced call = ap (λ (o : Option PacedState). paced_left o u) (IsMade-after s.paced (Some u) call a made) in
    record {
      left = with_paced s u;
      is = is;
      told = both.0;
      stands = subst (λ (v : PacedState). StandsFor v.heap.mutators (plain_after_call p call a)) (sym same) both.1;
    }

-- numbers in a row
stored_seen : (old new : GrowingState) (owner : ℕ) (object : RootId) (from : ℕ) (numbers : List ℤ) (a : Answer) (p : PlainHeap)
    → AreGrownNumbers old new owner object from numbers a.status → a ≡ with_status a.status → StandsFor old.paced.heap.mutators p
    → StoresAsPlain (Some (number_stores owner object from numbers)) p a
    × StandsFor new.paced.heap.mutators (plain_after_row (Some (number_stores owner object from numbers)) (is_limit_status a.status) p)
stored_seen old new owner object from numbers a p stored shape stands =
    let m : MutatorState = old.paced.heap.mutators in
    let row : List (ℕ × Command) = number_stores owner object from numbers in
    by (first_refusal (graph_of m) row) (log_limit_for (length numbers) m.cycle m.log)
    (asked-no_limit (graph_of m) row) (log_limit_for-IsOnlyLimit m (length numbers))
    (first_refusal-met m p stands owner object from numbers) stored
  where
    row : List (ℕ × Command)
    row = number_stores owner object from numbers

    by : (asked limit : Option Refusal) → IsNoLimit asked → IsOnlyLimit limit → asked ≡ plain_refusal p row
        → AreGrownStoredUnless (first_of asked limit) old new row a.status
        → StoresAsPlain (Some row) p a × StandsFor new.paced.heap.mutators (plain_after_row (Some row) (is_limit_status a.status) p)
    by (Some why) limit none only met (same, rank) =
        unlimited-row row old.paced new.paced p a shape stands (Some why) met
        (ap is_limit_status rank ∙ is_limit_status-status_of (Err why) ∙ none) rank
        (subst (λ (u : GrowingState). StandsFor u.paced.heap.mutators p) (sym same) stands)
    by None None none only met (given, done, zero_is) =
        unlimited-row row old.paced new.paced p a shape stands None met (ap is_limit_status zero_is) zero_is (done.stands p stands)
    by None (Some why) none only met (same, rank) =
        let limited : is_limit_status a.status ≡ true = ap is_limit_status rank ∙ is_limit_status-status_of (Err why) ∙ only in (
          inr (limited, sym met),
          subst (λ b. StandsFor new.paced.heap.mutators (plain_after_row (Some row) b p)) (sym limited)
              (subst (λ (u : GrowingState). StandsFor u.paced.heap.mutators p) (sym same) stands),
        )

-- A call that does a command.
commanded : (old after : GrowingState) (new : Option GrowingState) (call : Call) (owner : ℕ) (command : Command) (p : PlainHeap) (a : Answer)
    (told : Result Reply Refusal) → new ≡ Some after → a.status ≡ status_of told → a ≡ tells call told
    → IsTransparent old.paced after.paced owner command told → StandsFor old.paced.heap.mutators p
    → command_of call ≡ Some (owner, command) → question_of call ≡ None → row_of call ≡ None → ReadsAsPlain p call a
    → IsSeen new p call a
commanded old after new call owner command p a told is st shape transparent stands does asks row reads =
    let both = transparent_call old.paced after.paced owner command (tells call) p a told st shape transparent stands in
    record {
      left = after;
      is = is;
      told = (
        subst (λ (c : Option (ℕ × Command)). DoesAsPlain c (tells call) p a) (sym does) both.0,
        subst (λ (c : Option (ℕ × Command)). AsksAsPlain c (tells call) p a) (sym asks) tt,
        subst (λ (r : Option (List (ℕ × Command))). StoresAsPlain r p a) (sym row) tt,
        reads,
      );
      stands = subst (λ (r : Option (List (ℕ × Command))). StandsFor after.paced.heap.mutators (plain_after_row r (is_limit_status a.status) (plain_after_command (command_of call) (is_limit_status a.status) p))) (sym row)
          (subst (λ (c : Option (ℕ × Command)). StandsFor after.paced.heap.mutators (plain_after_command c (is_limit_status a.status) p)) (sym does) both.1);
    }

-- each call
call_seen : (s : GrowingState) (new : Option GrowingState) (call : Call) (a : Answer) (p : PlainHeap)
    → IsGrownMade (Some s) new call a → StandsFor s.paced.heap.mutators p → IsSeen new p call a
call_seen s new (Does owner command) a p ((given, told, after, e, done, st), shape) stands =
    commanded s after new (Does owner command) owner command p a told e st (shape ∙ ap with_status st) done.transparent stands refl refl refl tt
call_seen s new (Loads owner dst src field) a p ((given, told, after, e, done, st, v), shape) stands =
    commanded s after new (Loads owner dst src field) owner (Load dst src field) p a told e st (shape ∙ both_values st v) done.transparent stands refl refl refl tt
call_seen s new (Compares owner r q) a p ((given, told, after, e, done, st, v), shape) stands =
    commanded s after new (Compares owner r q) owner (Same r q) p a told e st (shape ∙ both_same st v) done.transparent stands refl refl refl tt
call_seen s new (InsistsOn owner command) a p ((given, told, after, e, done, st), shape) stands =
    commanded s after new (InsistsOn owner command) owner command p a told e st (shape ∙ ap with_status st) done.transparent stands refl refl refl tt
call_seen s new CollectsNow a p ((given, told, after, e, done, st), shape) stands = record {
  left = after;
  is = e;
  told = (tt, tt, tt, tt);
  stands = done.stands p stands;
}
call_seen s new IncrementsNow a p ((given, after, e, done, st), shape) stands = record {
  left = after;
  is = e;
  told = (tt, tt, tt, tt);
  stands = done.stands p stands;
}
call_seen s new (Peeks owner src field) a p (u, e, made) stands = seen_inside s new u (Peeks owner src field) a p e made stands
call_seen s new (ReadsField root field) a p (u, e, made) stands = seen_inside s new u (ReadsField root field) a p e made stands
call_seen s new (ReadsRoot root) a p (u, e, made) stands = seen_inside s new u (ReadsRoot root) a p e made stands
call_seen s new (Counts root) a p (u, e, made) stands = seen_inside s new u (Counts root) a p e made stands
call_seen s new TellsNumbers a p (u, e, made) stands = seen_inside s new u TellsNumbers a p e made stands
call_seen s new (StoresInts owner object from numbers) a p ((after, e, stored), shape) stands =
    let both = stored_seen s after owner object from numbers a p stored shape stands in
    record { left = after; is = e; told = (tt, tt, both.0, tt); stands = both.1 }
call_seen s new (InsistsOnInts owner object from numbers) a p ((after, e, (not_full, inl stored)), shape) stands =
    let both = stored_seen s after owner object from numbers a p stored shape stands in
    record { left = after; is = e; told = (tt, tt, both.0, tt); stands = both.1 }
call_seen s new (InsistsOnInts owner object from numbers) a p ((after, e, (not_full, inr (full, given, between, collected, stored))), shape) stands =
    let both = stored_seen between after owner object from numbers a p stored shape (collected.stands p stands) in
    record { left = after; is = e; told = (tt, tt, both.0, tt); stands = both.1 }
call_seen s new (LoadsInts owner object from before) a p (u, e, made) stands = seen_inside s new u (LoadsInts owner object from before) a p e made stands
call_seen s new (LoadsText owner object from before) a p (u, e, made) stands = seen_inside s new u (LoadsText owner object from before) a p e made stands

-- so do calls one after the other
pub calls_seen : (s : GrowingState) (new : Option GrowingState) (calls : List Call) (more : List Answer) (p : PlainHeap)
    → AreGrownMade (Some s) new calls more → StandsFor s.paced.heap.mutators p → AreSeenAsPlain new p calls more
calls_seen s new [] [] p e stands = record { left = s; is = e; told = tt; stands = stands }
calls_seen s new [] (a ∷ more) p made stands = absurd made
calls_seen s new (call ∷ calls) [] p made stands = absurd made
calls_seen s new (call ∷ calls) (a ∷ more) p (between, made, rest) stands =
    let here = call_seen s between call a p made stands in
    let further = calls_seen here.left new calls more (plain_after_call p call a) (subst (λ b. AreGrownMade b new calls more) here.is rest) here.stands in
    record { left = further.left; is = further.is; told = (here.told, further.told); stands = further.stands }

-- Where no heap is open a call leaves none, and has status 12.
none_made : (new : Option GrowingState) (call : Call) (a : Answer) → IsGrownMade None new call a
    → (new ≡ None) × (a.status ≡ 12)
none_made new (Does owner command) a ((e, st), shape) = (e, st)
none_made new (Loads owner dst src field) a ((e, st, v), shape) = (e, st)
none_made new (Compares owner r q) a ((e, st, v), shape) = (e, st)
none_made new (InsistsOn owner command) a ((e, st), shape) = (e, st)
none_made new CollectsNow a ((e, st), shape) = (e, st)
none_made new IncrementsNow a ((e, st), shape) = (e, st)
none_made new (Peeks owner src field) a (e, made) = (e, (IsMade-none None (Peeks owner src field) a made).1)
none_made new (ReadsField root field) a (e, made) = (e, (IsMade-none None (ReadsField root field) a made).1)
none_made new (ReadsRoot root) a (e, made) = (e, (IsMade-none None (ReadsRoot root) a made).1)
none_made new (Counts root) a (e, made) = (e, (IsMade-none None (Counts root) a made).1)
none_made new TellsNumbers a (e, made) = (e, (IsMade-none None TellsNumbers a made).1)
none_made new (StoresInts owner object from numbers) a ((e, st), shape) = (e, st)
none_made new (InsistsOnInts owner object from numbers) a ((e, st), shape) = (e, st)
none_made new (LoadsInts owner object from before) a (e, made) = (e, (IsMade-none None (LoadsInts owner object from before) a made).1)
none_made new (LoadsText owner object from before) a (e, made) = (e, (IsMade-none None (LoadsText owner object from before) a made).1)

abbrev IsUnopened : Answer → Type 0
IsUnopened a = a.status ≡ 12

pub AreGrownMade-none : (new : Option GrowingState) (calls : List Call) (more : List Answer)
    → AreGrownMade None new calls more → (new ≡ None) × All IsUnopened more
AreGrownMade-none new [] [] e = (e, All-nil IsUnopened)
AreGrownMade-none new [] (a ∷ more) e = absurd e
AreGrownMade-none new (call ∷ calls) [] e = absurd e
AreGrownMade-none new (call ∷ calls) (a ∷ more) (between, made, rest) =
    let here = none_made between call a made in
    let further = AreGrownMade-none new calls more (subst (λ b. AreGrownMade b new calls more) here.0 rest) in
    (further.0, All-cons IsUnopened a more here.1 further.1)

-- Room.
pub has_room : (s : GrowingState) (new : Option GrowingState) (owner : ℕ) (command : Command) (status : ℕ)
    → IsGrowingInTime s → s.short ≡ None → words_made command ≤ s.growth.biggest
    → IsGrownDone (Some s) new owner command status → status ≡ 8 → AreEpochsSpent s.paced.heap
has_room s new owner command status in_time ample small (given, told, after, e, done, st) full =
    let why = full_told told (sym full ∙ st) in
    done.space in_time ample small why.0 why.1 why.2

pub stays_in_time : (s : GrowingState) (new : Option GrowingState) (owner : ℕ) (command : Command) (status : ℕ)
    → IsGrowingInTime s → words_made command ≤ s.growth.biggest
    → IsGrownDone (Some s) new owner command status → IfSome new IsGrowingInTime
stays_in_time s new owner command status in_time small (given, told, after, e, done, st) =
    subst (λ (o : Option GrowingState). IfSome o IsGrowingInTime) (sym e) (done.in_time in_time small)

-- On a handle.
pub on_fixed : (s : PacedState) (old new : Rheap) (calls : List Call) (more : List Answer) → old.fixed.state ≡ Some s → AreMadeOn old new calls more
    → AreMade (Some s) new.fixed.state calls more × (new.growing.state ≡ old.growing.state)
on_fixed s old new [] [] held (fixed, growing) = (fixed ∙ held, growing)
on_fixed s old new [] (a ∷ more) held made = absurd made
on_fixed s old new (call ∷ calls) [] held made = absurd made
on_fixed s old new (call ∷ calls) (a ∷ more) held (between, made, rest) =
    let here = Calls-of_fixed (λ u v. IsMade u v call a) (λ u v. IsGrownMade u v call a) old.fixed.state between.fixed.state old.growing.state between.growing.state s made held in
    let left = IsMade-after s between.fixed.state call a here.0 in
    let further = on_fixed (after_call s call) between new calls more left rest in
    ((between.fixed.state, here.0, subst (λ (o : Option PacedState). AreMade o new.fixed.state calls more) (sym left) further.0), further.1 ∙ here.1)

pub on_growing : (old new : Rheap) (calls : List Call) (more : List Answer) → old.fixed.state ≡ None → AreMadeOn old new calls more
    → (new.fixed.state ≡ None) × AreGrownMade old.growing.state new.growing.state calls more
on_growing old new [] [] none (fixed, growing) = (fixed ∙ none, growing)
on_growing old new [] (a ∷ more) none made = absurd made
on_growing old new (call ∷ calls) [] none made = absurd made
on_growing old new (call ∷ calls) (a ∷ more) none (between, made, rest) =
    let here = Calls-of_growing (λ u v. IsMade u v call a) (λ u v. IsGrownMade u v call a) old.fixed.state between.fixed.state old.growing.state between.growing.state made none in
    let further = on_growing between new calls more here.0 rest in
    (further.0, (between.growing.state, here.1, further.1))

pub on_one : (old new : Rheap) (calls : List Call) (more : List Answer) → AreMadeOn old new calls more → HoldsOne old → HoldsOne new
on_one old new calls more made (inl none) = inl (on_growing old new calls more none made).0
on_one old new calls more made (inr none) = by old.fixed.state refl
  where
    by : (o : Option PacedState) → old.fixed.state ≡ o → HoldsOne new
    by None is = inl (on_growing old new calls more is made).0
    by (Some s) is = inr ((on_fixed s old new calls more is made).1 ∙ none)
