-- Values that are stored one after the other.
use Rattle.std.proofs.Common.{◌≡◌, ◌≢◌, ℕ, ◌+◌, ◌<◌, pos, Bool, true, false, List, ◌∷◌, length, drop, get_or, Option, Some, None, Result, refl, sym, ap, subst, ◌∙◌, arith}
use Rattle.std.specs.Prelude.{is_none}
use Rattle.std.proofs.lemmas.Bool.{true≢false}
use Rattle.std.proofs.lemmas.List.{drop_more}
use Rattle.rh_layout.specs.declared.command.Command.{Command}
use Rattle.rh_layout.specs.declared.command.Command.TheVariants.{Store}
use Rattle.rh_layout.specs.declared.command.Operand.{Operand}
use Rattle.rh_layout.specs.declared.command.Reply.{Reply}
use Rattle.rh_layout.specs.declared.command.RootId.{RootId}
use Rattle.rh_layout.specs.declared.refusal.Refusal.{Refusal}
use Rattle.rh_layout.specs.declared.refusal.Refusal.TheVariants.{NoRoot, NotYours, NotObject, NoField, RawField, IntRange, FieldsRange, SpaceFull, LogFull, NumbersSpent}
use Rattle.rh_layout.specs.Refusal.{rank_of}
use Rattle.rh_pace.specs.Collecting.{insist_step}
use Rattle.rh_pace.specs.Paced.{PacedState, paced_step}
use Rattle.rheap_c.specs.declared.init.RheapInit.{RheapInit}
use Rattle.rheap_c.specs.Init.{operand_of}
use Rattle.rheap_c.specs.RootRows.{DoneUntil, IsRowDone, IsRowEnd, IsRowInsisted, after_replies, done_until, next_index}
use Rattle.rheap_c.specs.ValueRows.{OfKinds, value_stores}

-- a value that means nil
abbrev pub no_init : RheapInit
no_init = record { kind = 0; root = record { owner = 0; slot = 0 }; number = pos 0 }

-- of values the one at this place is next, which means this
pub values-left : (step : PacedState → ℕ → Command → PacedState × Result Reply Refusal)
    (told : List Reply) (s : PacedState) (end : DoneUntil) (owner : ℕ) (object : RootId) (field : ℕ)
    (values : List RheapInit) (i : ℕ) (d : RheapInit) → i < length values
    → (operand : Operand) → operand ≡ operand_of (get_or values i d)
    → after_replies told (done_until step s (value_stores owner object field (drop i values))) ≡ end
    → after_replies told (done_until step s
    ((owner, Store object field operand) ∷ value_stores owner object (next_index field) (drop (i + 1) values))) ≡ end
values-left step told s end owner object field values i d within operand means so_far =
    ap (λ (o : Operand). after_replies told (done_until step s ((owner, Store object field o) ∷ value_stores owner object (next_index field) (drop (i + 1) values)))) means
    ∙ ap (λ (l : List RheapInit). after_replies told (done_until step s (value_stores owner object field l))) (sym (drop_more values i d within))
    ∙ so_far

-- Where no heap is open, a row does nothing.
module _ (empty : Bool) (new : Option PacedState) (given : List (ℕ × Command)) (count : ℕ) (zero : count ≡ 0) where
  pub closed-row : (old : Option PacedState) → empty ≡ is_none old → empty ≡ true → new ≡ old → IsRowDone old new given count 12
  closed-row None is shut kept = (kept, zero, refl)
  closed-row (Some s) is shut kept = absurd (true≢false (sym shut ∙ is))

  pub closed-insisted-row : (old : Option PacedState) → empty ≡ is_none old → empty ≡ true → new ≡ old → IsRowInsisted old new given count 12
  closed-insisted-row None is shut kept = (kept, zero, refl)
  closed-insisted-row (Some s) is shut kept = absurd (true≢false (sym shut ∙ is))

-- whatever the kinds of its values
pub closed-kinds : {S : Type 0} (empty : Bool) (new : Option S) (count : ℕ) → count ≡ 0
    → (known : Bool) (stores : Type 0) → stores → (old : Option S) → empty ≡ is_none old → empty ≡ true → new ≡ old
    → OfKinds known stores old new count 12
closed-kinds empty new count zero true stores done old is shut kept = done
closed-kinds empty new count zero false stores done None is shut kept = (kept, zero, refl)
closed-kinds empty new count zero false stores done (Some s) is shut kept = absurd (true≢false (sym shut ∙ is))

-- One is, and was used in its place: s before, and t after.
module _ (old mid : Option PacedState) (s : PacedState) (kept : mid ≡ old) (held : mid ≡ Some s)
    (t : PacedState) (asked given : List (ℕ × Command)) (same : asked ≡ given) (count status : ℕ) where
  was : Some s ≡ old
  was = sym held ∙ kept

  pub lent-row : IsRowEnd (done_until paced_step s asked) t count status → IsRowDone old (Some t) given count status
  lent-row end =
      let done : IsRowDone (Some s) (Some t) asked count status = (t, refl, end) in
      subst (λ (it : Option PacedState × List (ℕ × Command)). IsRowDone it.0 (Some t) it.1 count status) (λ k. (was k, same k)) done

  pub lent-insisted-row : IsRowEnd (done_until insist_step s asked) t count status → IsRowInsisted old (Some t) given count status
  lent-insisted-row end =
      let done : IsRowInsisted (Some s) (Some t) asked count status = (t, refl, end) in
      subst (λ (it : Option PacedState × List (ℕ × Command)). IsRowInsisted it.0 (Some t) it.1 count status) (λ k. (was k, same k)) done

-- the values are of kinds that there are
pub of-known : {S : Type 0} (known : Bool) → known ≡ true → (stores : Type 0) → stores → (old new : Option S) (count status : ℕ)
    → OfKinds known stores old new count status
of-known true is stores done old new count status = done
of-known false is stores done old new count status = absurd (true≢false (sym is))

-- one of them isn't, and a heap is open
pub of-unknown : {S : Type 0} (known : Bool) → known ≡ false → (stores : Type 0) (old new : Option S) (empty : Bool)
    → empty ≡ is_none old → empty ≡ false → new ≡ old → (count : ℕ) → count ≡ 0 → OfKinds known stores old new count 20
of-unknown true is stores old new empty tells there kept count zero = absurd (true≢false is)
of-unknown false is stores None new empty tells there kept count zero = absurd (true≢false (sym tells ∙ there))
of-unknown false is stores (Some s) new empty tells there kept count zero = (kept, zero, refl)

-- only a full log has the number 9
pub rank-log : (why : Refusal) → why ≢ LogFull → rank_of why ≢ 9
rank-log NoRoot other nine = absurd (omega (arith, nine))
rank-log NotYours other nine = absurd (omega (arith, nine))
rank-log NotObject other nine = absurd (omega (arith, nine))
rank-log NoField other nine = absurd (omega (arith, nine))
rank-log RawField other nine = absurd (omega (arith, nine))
rank-log IntRange other nine = absurd (omega (arith, nine))
rank-log FieldsRange other nine = absurd (omega (arith, nine))
rank-log (SpaceFull need free) other nine = absurd (omega (arith, nine))
rank-log LogFull other nine = other refl
rank-log NumbersSpent other nine = absurd (omega (arith, nine))
