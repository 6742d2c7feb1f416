-- What a call says of a handle that makes an object with its values.
use Rattle.std.proofs.Common.{◌≡◌, ℕ, ◌<◌, ◌≤◌, Bool, true, false, List, length, Option, Some, None, Result, Ok, refl, sym, ap, subst, ◌∙◌, arith}
use Rattle.std.specs.Prelude.{is_none, nat_lt, if◌then◌else◌}
use Rattle.std.proofs.lemmas.Bool.{true≢false}
use Rattle.std.proofs.lemmas.List.{length-map}
use Rattle.rh_layout.specs.declared.command.Operand.{Operand}
use Rattle.rh_layout.specs.declared.command.Reply.{Reply}
use Rattle.rh_layout.specs.declared.command.RootId.{RootId}
use Rattle.rh_layout.specs.declared.refusal.Refusal.{Refusal}
use Rattle.rh_layout.specs.declared.shape.Shape.{Shape}
use Rattle.rh_pace.specs.Collecting.{wants_room}
use Rattle.rh_pace.specs.Making.{IsInsistedMake, IsPacedMake}
use Rattle.rh_pace.specs.Paced.{PacedState}
use Rattle.rh_pace.proofs.InsistedMakes.{makes-stop}
use Rattle.rh_pace.proofs.Making.{values-made}
use Rattle.rheap_c.specs.declared.init.RheapInit.{RheapInit}
use Rattle.rheap_c.specs.Init.{operand_of}
use Rattle.rheap_c.specs.Making.{IsMadeUnless, IsMadeWith, Makes, have_kinds, making, operands_of, values_fault}
use Rattle.rheap_c.specs.Told.{status_of}

-- No heap is open.
none-held : (old : Option PacedState) (empty : Bool) → empty ≡ is_none old → empty ≡ true → old ≡ None
none-held None empty is shut = refl
none-held (Some s) empty is shut = absurd (true≢false (sym shut ∙ is))

pub closed-made : (old new : Option PacedState) (empty : Bool) → empty ≡ is_none old → empty ≡ true → new ≡ old
    → (IsMake : Makes) (owner : ℕ) (dst : RootId) (shape : Shape) (values : List RheapInit)
    → IsMadeWith IsMake old new owner dst shape values 12
closed-made old new empty is shut kept IsMake owner dst shape values =
    let none = none-held old empty is shut in
    subst (λ (o : Option PacedState). IsMadeWith IsMake o new owner dst shape values 12) (sym none) (kept ∙ none, refl)

-- One was used in its place: s before, and t after.
pub lent-made : (old mid : Option PacedState) (s : PacedState) → mid ≡ old → mid ≡ Some s → (t : PacedState)
    → (IsMake : Makes) (owner : ℕ) (asked dst : RootId) → asked ≡ dst
    → (shape : Shape) (values : List RheapInit) (status : ℕ)
    → IsMadeUnless IsMake (values_fault values) s t owner asked shape (operands_of values) status
    → IsMadeWith IsMake old (Some t) owner dst shape values status
lent-made old mid s kept held t IsMake owner asked dst same shape values status made =
    let was : Some s ≡ old = sym held ∙ kept in
    let is : IsMadeWith IsMake (Some s) (Some t) owner asked shape values status = (t, refl, made) in
    subst (λ (it : Option PacedState × RootId). IsMadeWith IsMake it.0 (Some t) owner it.1 shape values status) (λ k. (was k, same k)) is

-- The values are more than an object has, or one is of a kind that there isn't, or neither.
pub few-lt : (n : ℕ) → n ≤ 4095 → nat_lt 4095 n ≡ false
few-lt n few = search arith

pub many-lt : (n : ℕ) → 4095 < n → nat_lt 4095 n ≡ true
many-lt n many = search arith

pub fault-by : (values : List RheapInit) (b kinds : Bool) → nat_lt 4095 (length values) ≡ b → have_kinds values ≡ kinds
    → values_fault values ≡ (if b then Some 7 else (if kinds then None else Some 20))
fault-by values b kinds many all = λ k. if many k then Some 7 else (if all k then None else Some 20)

module _ (IsMake : Makes) (values : List RheapInit) (s t : PacedState) (owner : ℕ) (dst : RootId) (shape : Shape) where
  refused-by : (why : Option ℕ) → values_fault values ≡ why → (status : ℕ)
      → IsMadeUnless IsMake why s t owner dst shape (operands_of values) status
      → IsMadeUnless IsMake (values_fault values) s t owner dst shape (operands_of values) status
  refused-by why is status made =
      subst (λ (o : Option ℕ). IsMadeUnless IsMake o s t owner dst shape (operands_of values) status) (sym is) made

  pub too-many : 4095 < length values → t ≡ s
      → IsMadeUnless IsMake (values_fault values) s t owner dst shape (operands_of values) 7
  too-many many same = refused-by (Some 7) (fault-by values true (have_kinds values) (many-lt (length values) many) refl) 7 (same, refl)

  pub no-kind : length values ≤ 4095 → have_kinds values ≡ false → t ≡ s
      → IsMadeUnless IsMake (values_fault values) s t owner dst shape (operands_of values) 20
  no-kind few bad same = refused-by (Some 20) (fault-by values false false (few-lt (length values) few) bad) 20 (same, refl)

  pub made-of : length values ≤ 4095 → have_kinds values ≡ true
      → (operands : List Operand) → operands ≡ operands_of values → (status : ℕ)
      → IsMadeUnless IsMake None s t owner dst shape operands status
      → IsMadeUnless IsMake (values_fault values) s t owner dst shape (operands_of values) status
  made-of few good operands are status made =
      refused-by None (fault-by values false true (few-lt (length values) few) good) status
      (subst (λ (l : List Operand). IsMadeUnless IsMake None s t owner dst shape l status) are made)

-- An object that was made straight was made, and so it was where it is insisted on.
module _ (s t : PacedState) (owner : ℕ) (dst : RootId) (shape : Shape) (operands : List Operand) where
  tried : (reply : Reply) → IsPacedMake s t owner dst shape operands (Ok reply)
      → IsInsistedMake s t owner dst shape operands (Ok reply)
  tried reply call =
      let same = makes-stop owner dst shape operands 2 s (sym (ap wants_room call.answer)) in
      record {
        state = call.state ∙ ap (λ (r : PacedState × Result Reply Refusal). r.0) (sym same);
        answer = call.answer ∙ ap (λ (r : PacedState × Result Reply Refusal). r.1) (sym same);
        transparent = call.transparent;
      }

  pub made-straight : (insists : Bool) (reply : Reply) → IsPacedMake s t owner dst shape operands (Ok reply)
      → IsMadeUnless (making insists) None s t owner dst shape operands 0
  made-straight false reply call = (Ok reply, call, refl)
  made-straight true reply call = (Ok reply, tried reply call, refl)

  pub made-plainly : (insists : Bool) → insists ≡ false → (told : Result Reply Refusal)
      → IsPacedMake s t owner dst shape operands told → (status : ℕ) → status ≡ status_of told
      → IsMadeUnless (making insists) None s t owner dst shape operands status
  made-plainly insists is told call status says =
      let made : IsMadeUnless (making false) None s t owner dst shape operands status = (told, call, says) in
      subst (λ (b : Bool). IsMadeUnless (making b) None s t owner dst shape operands status) (sym is) made

  pub made-insisting : (insists : Bool) → insists ≡ true → (told : Result Reply Refusal)
      → IsInsistedMake s t owner dst shape operands told → (status : ℕ) → status ≡ status_of told
      → IsMadeUnless (making insists) None s t owner dst shape operands status
  made-insisting insists is told call status says =
      let made : IsMadeUnless (making true) None s t owner dst shape operands status = (told, call, says) in
      subst (λ (b : Bool). IsMadeUnless (making b) None s t owner dst shape operands status) (sym is) made

-- Where the values were read where they lie, each is of a kind that there is, and they are few.
pub made-given : (values : List RheapInit) (s t : PacedState) (owner : ℕ) (dst : RootId) (shape : Shape) (insists : Bool) (reply : Reply) → have_kinds values ≡ true
    → IsPacedMake s t owner dst shape (operands_of values) (Ok reply)
    → IsMadeUnless (making insists) (values_fault values) s t owner dst shape (operands_of values) 0
made-given values s t owner dst shape insists reply good call =
    let few : length (operands_of values) ≤ 4095 = values-made s.heap owner dst shape (operands_of values) (Ok reply) call.answer in
    let same = length-map values operand_of in
    made-of (making insists) values s t owner dst shape (omega (arith, same, few)) good (operands_of values) refl 0
    (made-straight s t owner dst shape (operands_of values) insists reply call)

-- and where that did nothing, what the call by operands does is done
pub made-otherwise : (IsMake : Makes) (why : Option ℕ) (s t after : PacedState) (owner : ℕ) (dst : RootId) (shape : Shape) (operands : List Operand) (status : ℕ) → t ≡ s
    → IsMadeUnless IsMake why t after owner dst shape operands status → IsMadeUnless IsMake why s after owner dst shape operands status
made-otherwise IsMake why s t after owner dst shape operands status same made =
    subst (λ (x : PacedState). IsMadeUnless IsMake why x after owner dst shape operands status) same made
