-- A row on a heap that grows is the list of its commands, up to the first that is refused.
use Rattle.std.proofs.Common.{◌≡◌, ℕ, zero, suc, Bool, true, List, [], ◌∷◌, take, Option, Some, Result, Ok, Err, refl, sym, ap, ◌∙◌, inl, inr, arith}
use Rattle.std.specs.Prelude.{◌⊎◌, ◌≢◌}
use Rattle.rh_layout.specs.declared.command.Command.{Command}
use Rattle.rh_layout.specs.declared.command.Reply.{Reply}
use Rattle.rh_layout.specs.declared.refusal.Refusal.{Refusal}
use Rattle.rh_layout.specs.declared.refusal.Refusal.TheVariants.{NoRoot, NotYours, NotObject, NoField, RawField, IntRange, FieldsRange, SpaceFull, LogFull, NumbersSpent}
use Rattle.rh_layout.specs.Refusal.{rank_of}
use Rattle.rh_growing.specs.Growing.{GrowingState, growing_insist, growing_step}
use Rattle.rheap_c.specs.Grown.{DoInTurn, DoesOnce, GoesOn, InsistsOnce, IsGrownRowDone, IsGrownRowInsisted}
use Rattle.rheap_c.specs.GrownRows.{AreAllDone, AreDoneUntilRefused, Step, list_after, list_answers}

-- a refusal has a number above 0
rank-some : (why : Refusal) → rank_of why ≢ 0
rank-some NoRoot is = absurd (omega (arith, is))
rank-some NotYours is = absurd (omega (arith, is))
rank-some NotObject is = absurd (omega (arith, is))
rank-some NoField is = absurd (omega (arith, is))
rank-some RawField is = absurd (omega (arith, is))
rank-some IntRange is = absurd (omega (arith, is))
rank-some FieldsRange is = absurd (omega (arith, is))
rank-some (SpaceFull need free) is = absurd (omega (arith, is))
rank-some LogFull is = absurd (omega (arith, is))
rank-some NumbersSpent is = absurd (omega (arith, is))

-- the allocator answers so in the first command, and then as this does
abbrev put_first : {G : Type 0} → G → (ℕ → G) → ℕ → G
put_first g later zero = g
put_first g later (suc i) = later i

-- Commands are done so, each by this step.
module _ (G : Type 0) (any : G) (step : Step G) (Does : GrowingState → GrowingState → ℕ → Command → Result Reply Refusal → Type 0)
    (is_step : (old new : GrowingState) (owner : ℕ) (command : Command) (told : Result Reply Refusal) → Does old new owner command told
    → (g : G) × (new ≡ (step g old owner command).0) × (told ≡ (step g old owner command).1)) where
  abbrev Ends : GrowingState → GrowingState → List (ℕ × Command) → ℕ → ℕ → Type 0
  Ends old new row count status = ((status ≡ 0) × AreAllDone step old new row count) ⊎ AreDoneUntilRefused step old new row count status

  -- the first was done, and those behind it came to this end
  module _ (old between new : GrowingState) (call : ℕ × Command) (rest : List (ℕ × Command)) (reply : Reply) (g : G)
      (left : between ≡ (step g old call.0 call.1).0) (answered : Ok reply ≡ (step g old call.0 call.1).1) (count further status : ℕ) (more : count ≡ suc further) where
    all-next : AreAllDone step between new rest further → AreAllDone step old new (call ∷ rest) count
    all-next end = record {
      given = put_first g end.given;
      replies = reply ∷ end.replies;
      state = end.state ∙ ap (λ (s : GrowingState). list_after step end.given s rest) left;
      answers =
          ap (λ (answer : Result Reply Refusal). answer ∷ list_answers step end.given (step g old call.0 call.1).0 rest) (sym answered)
          ∙ ap (λ (s : GrowingState). Ok reply ∷ list_answers step end.given s rest) (sym left)
          ∙ ap (λ (l : List (Result Reply Refusal)). Ok reply ∷ l) end.answers;
      many = more ∙ ap suc end.many;
    }

    until-next : AreDoneUntilRefused step between new rest further status → AreDoneUntilRefused step old new (call ∷ rest) count status
    until-next end = record {
      given = put_first g end.given;
      replies = reply ∷ end.replies;
      why = end.why;
      state =
          end.state ∙ ap (λ (s : GrowingState). list_after step end.given s (take (suc further) rest)) left
          ∙ ap (λ (n : ℕ). list_after step end.given (step g old call.0 call.1).0 (take n rest)) (sym more);
      answers =
          ap (λ (n : ℕ). (step g old call.0 call.1).1 ∷ list_answers step end.given (step g old call.0 call.1).0 (take n rest)) more
          ∙ ap (λ (answer : Result Reply Refusal). answer ∷ list_answers step end.given (step g old call.0 call.1).0 (take (suc further) rest)) (sym answered)
          ∙ ap (λ (s : GrowingState). Ok reply ∷ list_answers step end.given s (take (suc further) rest)) (sym left)
          ∙ ap (λ (l : List (Result Reply Refusal)). Ok reply ∷ l) end.answers;
      many = more ∙ ap suc end.many;
      told = end.told;
    }

    ends-next : Ends between new rest further status → Ends old new (call ∷ rest) count status
    ends-next (inl (fine, end)) = inl (fine, all-next end)
    ends-next (inr end) = inr (until-next end)

  -- the first was refused
  ends-refused : (old between new : GrowingState) (call : ℕ × Command) (rest : List (ℕ × Command)) (why : Refusal) (g : G)
      → between ≡ (step g old call.0 call.1).0 → Err why ≡ (step g old call.0 call.1).1 → (count status : ℕ) → new ≡ between → count ≡ 0 → status ≡ rank_of why
      → AreDoneUntilRefused step old new (call ∷ rest) count status
  ends-refused old between new call rest why g left answered count status same none rank = record {
    given = λ i. g;
    replies = [];
    why = why;
    state = same ∙ left ∙ ap (λ (n : ℕ). list_after step (λ i. g) (step g old call.0 call.1).0 (take n rest)) (sym none);
    answers =
        ap (λ (n : ℕ). (step g old call.0 call.1).1 ∷ list_answers step (λ i. g) (step g old call.0 call.1).0 (take n rest)) none
        ∙ ap (λ (answer : Result Reply Refusal). answer ∷ []) (sym answered);
    many = none;
    told = rank;
  }

  -- the first was answered so, and what is known of those behind it
  ends-first : (old between new : GrowingState) (call : ℕ × Command) (rest : List (ℕ × Command)) (count status : ℕ)
      → ((further : ℕ) → DoInTurn Does between new rest further status → Ends between new rest further status)
      → (answer : Result Reply Refusal) → (g : G) × (between ≡ (step g old call.0 call.1).0) × (answer ≡ (step g old call.0 call.1).1)
      → GoesOn answer between new count status (λ further. DoInTurn Does between new rest further status) → Ends old new (call ∷ rest) count status
  ends-first old between new call rest count status behind (Ok reply) (g, left, answered) (further, more, later) =
      ends-next old between new call rest reply g left answered count further status more (behind further later)
  ends-first old between new call rest count status behind (Err why) (g, left, answered) (same, none, rank) =
      inr (ends-refused old between new call rest why g left answered count status same none rank)

  ends-in_turn : (row : List (ℕ × Command)) (old new : GrowingState) (count status : ℕ) → DoInTurn Does old new row count status → Ends old new row count status
  ends-in_turn [] old new count status (same, none, fine) = inl (
    fine,
    record {
      given = λ i. any;
      replies = [];
      state = same;
      answers = refl;
      many = none;
    },
  )
  ends-in_turn (call ∷ rest) old new count status (told, between, does, goes_on) =
      ends-first old between new call rest count status (λ further later. ends-in_turn rest between new further status later) told (is_step old between call.0 call.1 told does) goes_on

  -- By the status.
  pub row-all : (old new : GrowingState) (row : List (ℕ × Command)) (count status : ℕ) → DoInTurn Does old new row count status → status ≡ 0 → AreAllDone step old new row count
  row-all old new row count status done fine = elim (ends-in_turn row old new count status done) [
    | inl all ↦ all.1
    | inr end ↦ absurd (rank-some end.why (sym end.told ∙ fine))
  ]

  pub row-until : (old new : GrowingState) (row : List (ℕ × Command)) (count status : ℕ) → DoInTurn Does old new row count status → status ≢ 0
      → AreDoneUntilRefused step old new row count status
  row-until old new row count status done other = elim (ends-in_turn row old new count status done) [
    | inl all ↦ absurd (other all.0)
    | inr end ↦ end
  ]

-- Each command once, and each insisted on.
once-step : (old new : GrowingState) (owner : ℕ) (command : Command) (told : Result Reply Refusal) → DoesOnce old new owner command told
    → (g : Bool) × (new ≡ (growing_step g old owner command).0) × (told ≡ (growing_step g old owner command).1)
once-step old new owner command told (given, called) = (given, called.state, called.answer)

insisted-step : (old new : GrowingState) (owner : ℕ) (command : Command) (told : Result Reply Refusal) → InsistsOnce old new owner command told
    → (g : ℕ → Bool) × (new ≡ (growing_insist g old owner command).0) × (told ≡ (growing_insist g old owner command).1)
insisted-step old new owner command told (given, called) = (given, called.state, called.answer)

module _ (s : GrowingState) (new : Option GrowingState) (row : List (ℕ × Command)) (count status : ℕ) where
  pub grown-done : IsGrownRowDone (Some s) new row count status → status ≡ 0 → (after : GrowingState) × (new ≡ Some after) × AreAllDone growing_step s after row count
  grown-done (after, is, done) fine = (after, is, row-all Bool true growing_step DoesOnce once-step s after row count status done fine)

  pub grown-refused : IsGrownRowDone (Some s) new row count status → status ≢ 0
      → (after : GrowingState) × (new ≡ Some after) × AreDoneUntilRefused growing_step s after row count status
  grown-refused (after, is, done) other = (after, is, row-until Bool true growing_step DoesOnce once-step s after row count status done other)

  pub grown-insisted_done : IsGrownRowInsisted (Some s) new row count status → status ≡ 0 → (after : GrowingState) × (new ≡ Some after) × AreAllDone growing_insist s after row count
  grown-insisted_done (after, is, done) fine = (after, is, row-all (ℕ → Bool) (λ i. true) growing_insist InsistsOnce insisted-step s after row count status done fine)

  pub grown-insisted_refused : IsGrownRowInsisted (Some s) new row count status → status ≢ 0
      → (after : GrowingState) × (new ≡ Some after) × AreDoneUntilRefused growing_insist s after row count status
  grown-insisted_refused (after, is, done) other = (after, is, row-until (ℕ → Bool) (λ i. true) growing_insist InsistsOnce insisted-step s after row count status done other)
