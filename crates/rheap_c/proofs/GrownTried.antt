-- A command that is tried on a heap that grows before it is insisted on.
use Rattle.std.proofs.Common.{◌≡◌, ℕ, Bool, Result, Ok, Err, sym, subst, ◌∙◌}
use Rattle.std.specs.Prelude.{OnErr}
use Rattle.rh_layout.specs.declared.command.Command.{Command}
use Rattle.rh_layout.specs.declared.command.Reply.{Reply}
use Rattle.rh_layout.specs.declared.refusal.Refusal.{Refusal}
use Rattle.rh_growing.specs.Calls.{IsGrowingCall}
use Rattle.rh_growing.specs.Growing.{GrowingState}
use Rattle.rh_growing.proofs.AcceptedAtOnce.{growing-accepted}
use Rattle.rheap_c.specs.Grown.{IsGrownInsistedCall}

ok_is_no_err : (reply : Reply) (why : Refusal) → Ok reply ≡ Err why → ⊥
ok_is_no_err reply why is = absurd (cc)

module _ (given : Bool) (old after : GrowingState) (owner : ℕ) (command : Command) (told : Result Reply Refusal)
    (call : IsGrowingCall given old after owner command told) where
  -- it was accepted, so insisting is no more than that
  pub grown-accepted : (reply : Reply) → told ≡ Ok reply → IsGrownInsistedCall (λ i. given) old after owner command (Ok reply)
  grown-accepted reply is =
      let once = growing-accepted owner command reply (λ i. given) old after told call is in
      let same : IsGrownInsistedCall (λ i. given) old after owner command told = record {
        state = once.0;
        answer = once.1;
        transparent = call.transparent;
        reached = λ need free full. absurd (ok_is_no_err reply _ (sym is ∙ full));
        log = λ full. absurd (ok_is_no_err reply _ (sym is ∙ full));
        in_time = call.in_time;
      } in
      subst (IsGrownInsistedCall (λ i. given) old after owner command) is same

  -- it was refused, so nothing has changed, and what is insisted on now was insisted on from there
  pub grown-again : (why : Refusal) → told ≡ Err why → (trying : ℕ → Bool) (new : GrowingState) (answer : Result Reply Refusal)
      → IsGrownInsistedCall trying after new owner command answer → IsGrownInsistedCall trying old new owner command answer
  grown-again why is trying new answer insisted =
      let unchanged : after ≡ old = subst (λ (r : Result Reply Refusal). OnErr r (after ≡ old)) is call.refused in
      subst (λ (s : GrowingState). IsGrownInsistedCall trying s new owner command answer) unchanged insisted
