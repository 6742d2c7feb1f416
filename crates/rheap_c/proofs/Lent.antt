-- What a call says of a handle: where no heap is open, and where it was used in its place.
use Rattle.std.proofs.Common.{◌≡◌, ℕ, Bool, true, false, Option, Some, None, Result, Ok, refl, sym, ap, subst, ◌∙◌}
use Rattle.std.specs.Prelude.{IsSome, is_none}
use Rattle.std.proofs.lemmas.Bool.{true≢false}
use Rattle.rh_layout.specs.declared.command.Command.{Command}
use Rattle.rh_layout.specs.declared.command.Command.TheVariants.{Load, Same}
use Rattle.rh_layout.specs.declared.command.Reply.{Reply}
use Rattle.rh_layout.specs.declared.command.RootId.{RootId}
use Rattle.rh_layout.specs.declared.refusal.Refusal.{Refusal}
use Rattle.rh_pace.specs.Calls.{IsPacedCall}
use Rattle.rh_pace.specs.Paced.{PacedState}
use Rattle.rheap_c.specs.declared.value.RheapValue.{RheapValue}
use Rattle.rheap_c.specs.Called.{IsCompared, IsDone, IsLoaded}
use Rattle.rheap_c.specs.Insisted.{IsInsisted}
use Rattle.rheap_c.specs.Read.{IsAnswered}
use Rattle.rheap_c.specs.Told.{no_value, same_told, status_of, told_value}
use Rattle.rheap_c.proofs.Tried.{IsInsistedCall-tried}

-- No heap is open.
none-held : (old : Option PacedState) (empty : Bool) → empty ≡ is_none old → empty ≡ true → old ≡ None
none-held None empty is shut = refl
none-held (Some s) empty is shut = absurd (true≢false (sym shut ∙ is))

module _ (old new : Option PacedState) (empty : Bool) (is : empty ≡ is_none old) (shut : empty ≡ true) (kept : new ≡ old) where
  none : old ≡ None
  none = none-held old empty is shut

  left : new ≡ None
  left = kept ∙ none

  pub closed-done : (owner : ℕ) (command : Command) → IsDone old new owner command 12
  closed-done owner command = subst (λ (o : Option PacedState). IsDone o new owner command 12) (sym none) (left, refl)

  pub closed-insisted : (owner : ℕ) (command : Command) → IsInsisted old new owner command 12
  closed-insisted owner command = subst (λ (o : Option PacedState). IsInsisted o new owner command 12) (sym none) (left, refl)

  pub closed-loaded : (owner : ℕ) (dst src : RootId) (field : ℕ) (value : RheapValue) → value ≡ no_value → IsLoaded old new owner dst src field 12 value
  closed-loaded owner dst src field value nil = subst (λ (o : Option PacedState). IsLoaded o new owner dst src field 12 value) (sym none) (left, refl, nil)

  pub closed-compared : (owner : ℕ) (a b : RootId) → IsCompared old new owner a b 12 0
  closed-compared owner a b = subst (λ (o : Option PacedState). IsCompared o new owner a b 12 0) (sym none) (left, refl, refl)

  pub closed-answered : (answer : PacedState → Result Reply Refusal) (value : RheapValue) → value ≡ no_value → IsAnswered answer old new 12 value
  closed-answered answer value nil = subst (λ (o : Option PacedState). IsAnswered answer o new 12 value) (sym none) (left, refl, nil)

-- One is.
pub open-held : (old new : Option PacedState) (empty : Bool) → empty ≡ is_none old → empty ≡ false → new ≡ old → IsSome new
open-held None new empty is there kept = absurd (true≢false (sym is ∙ there))
open-held (Some s) new empty is there kept = subst (λ (o : Option PacedState). IsSome o) (sym kept) refl

-- It was used in its place: s before, and t after.
module _ (old mid : Option PacedState) (s : PacedState) (kept : mid ≡ old) (held : mid ≡ Some s) where
  was : Some s ≡ old
  was = sym held ∙ kept

  pub lent-done : (t : PacedState) (owner : ℕ) (asked : Command) (told : Result Reply Refusal) → IsPacedCall s t owner asked told → (status : ℕ) → status ≡ status_of told
      → (command : Command) → asked ≡ command → IsDone old (Some t) owner command status
  lent-done t owner asked told called status is command same =
      let done : IsDone (Some s) (Some t) owner asked status = (told, t, refl, called, is) in
      subst (λ (it : Option PacedState × Command). IsDone it.0 (Some t) owner it.1 status) (λ k. (was k, same k)) done

  pub lent-loaded : (t : PacedState) (owner : ℕ) (dst src : RootId) (field : ℕ) (told : Result Reply Refusal) → IsPacedCall s t owner (Load dst src field) told
      → (status : ℕ) → status ≡ status_of told → (value : RheapValue) → value ≡ told_value told
      → (to from : RootId) → dst ≡ to → src ≡ from → IsLoaded old (Some t) owner to from field status value
  lent-loaded t owner dst src field told called status is value tells to from goes comes =
      let loaded : IsLoaded (Some s) (Some t) owner dst src field status value = (told, t, refl, called, is, tells) in
      subst (λ (it : Option PacedState × RootId × RootId). IsLoaded it.0 (Some t) owner it.1 it.2 field status value) (λ k. (was k, goes k, comes k)) loaded

  pub lent-compared : (t : PacedState) (owner : ℕ) (a b : RootId) (told : Result Reply Refusal) → IsPacedCall s t owner (Same a b) told
      → (status : ℕ) → status ≡ status_of told → (same : ℕ) → same ≡ same_told told
      → (one other : RootId) → a ≡ one → b ≡ other → IsCompared old (Some t) owner one other status same
  lent-compared t owner a b told called status is same tells one other goes comes =
      let compared : IsCompared (Some s) (Some t) owner a b status same = (told, t, refl, called, is, tells) in
      subst (λ (it : Option PacedState × RootId × RootId). IsCompared it.0 (Some t) owner it.1 it.2 status same) (λ k. (was k, goes k, comes k)) compared

  pub lent-answered : (answer : PacedState → Result Reply Refusal) (told : Result Reply Refusal) → told ≡ answer s
      → (status : ℕ) → status ≡ status_of told → (value : RheapValue) → value ≡ told_value told → IsAnswered answer old (Some s) status value
  lent-answered answer told says status is value tells =
      let answered : IsAnswered answer (Some s) (Some s) status value = (refl, is ∙ ap status_of says, tells ∙ ap told_value says) in
      subst (λ (o : Option PacedState). IsAnswered answer o (Some s) status value) was answered

  pub lent-insisted : (t : PacedState) (owner : ℕ) (asked : Command) (reply : Reply) → IsPacedCall s t owner asked (Ok reply)
      → (command : Command) → asked ≡ command → IsInsisted old (Some t) owner command 0
  lent-insisted t owner asked reply called command same =
      let insisted : IsInsisted (Some s) (Some t) owner asked 0 = (Ok reply, t, refl, IsInsistedCall-tried s t owner asked (Ok reply) called refl, refl) in
      subst (λ (it : Option PacedState × Command). IsInsisted it.0 (Some t) owner it.1 0) (λ k. (was k, same k)) insisted

  -- and nothing was done
  module _ (t : PacedState) (nothing : t ≡ s) (new : Option PacedState) (owner : ℕ) (command : Command) (status : ℕ) where
    is : Some t ≡ old
    is = ap (λ (x : PacedState). Some x) nothing ∙ was

    pub again-done : IsDone (Some t) new owner command status → IsDone old new owner command status
    again-done = subst (λ (o : Option PacedState). IsDone o new owner command status) is

    pub again-insisted : IsInsisted (Some t) new owner command status → IsInsisted old new owner command status
    again-insisted = subst (λ (o : Option PacedState). IsInsisted o new owner command status) is

-- It was only looked whether one is open.
module _ (old mid : Option PacedState) (kept : mid ≡ old) (new : Option PacedState) (owner : ℕ) (command : Command) (status : ℕ) where
  pub kept-done : IsDone mid new owner command status → IsDone old new owner command status
  kept-done = subst (λ (o : Option PacedState). IsDone o new owner command status) kept

  pub kept-insisted : IsInsisted mid new owner command status → IsInsisted old new owner command status
  kept-insisted = subst (λ (o : Option PacedState). IsInsisted o new owner command status) kept
