-- After a call the rest leads to the same state, and none is refused.
use Rattle.std.proofs.Common.{◌≡◌, ℕ, suc, ◌+◌, ◌-◌, ◌<◌, ◌≤◌, List, [], ◌∷◌, ◌++◌, Result, Ok, Err, sym, ap, subst, ◌∙◌, arith, append_assoc}
use Rattle.std.specs.Prelude.{IsOk, is_ok}
use Rattle.std.proofs.lemmas.Bool.{true≢false}
use Rattle.std.proofs.lemmas.List.Elements.{All-head, All-tail}
use Rattle.rh_layout.specs.declared.command.Command.{Command}
use Rattle.rh_layout.specs.declared.command.Reply.{Reply}
use Rattle.rh_layout.specs.declared.refusal.Refusal.{Refusal}
use Rattle.rh_pace.specs.Calls.{IsPacedCall}
use Rattle.rh_pace.specs.InTime.{paced_replies}
use Rattle.rh_pace.specs.Paced.{PacedState, paced_step}
use Rattle.rh_pace.specs.Worked.{times}
use Rattle.uses.specs.Queue.{IsServed, LeadTo}

served : (answer : Result Reply Refusal) (P : Type 0) → IsOk answer → P → IsServed answer P
served (Ok reply) P ok holds = holds
served (Err refusal) P ok holds = absurd (true≢false (sym ok))

pub served-call : (s t : PacedState) (owner : ℕ) (command : Command) (answer : Result Reply Refusal) (rest : List (ℕ × Command)) (last : PacedState) → IsPacedCall s t owner command answer
    → LeadTo s ((owner, command) ∷ rest) last → IsServed answer (LeadTo t rest last)
served-call s t owner command answer rest last called lead =
    let done = paced_step s owner command in
    let leads : LeadTo done.0 rest last = record {
      accepted = All-tail (λ (reply : Result Reply Refusal). IsOk reply) done.1 (paced_replies done.0 rest) lead.accepted;
      after = lead.after;
    } in
    served answer (LeadTo t rest last)
    (ap is_ok called.answer ∙ All-head (λ (reply : Result Reply Refusal). IsOk reply) done.1 (paced_replies done.0 rest) lead.accepted)
    (subst (λ (u : PacedState). LeadTo u rest last) (sym called.state) leads)

-- the calls behind the first
abbrev pub behind : List (ℕ × Command) → List (ℕ × Command)
behind [] = []
behind (call ∷ rest) = rest

-- so many times the same, and then the rest
pub times-next : (n i : ℕ) (calls rest : List (ℕ × Command)) → i < n → times (n - i) calls ++ rest ≡ calls ++ (times (n - (i + 1)) calls ++ rest)
times-next n i calls rest low =
    ap (λ m. times m calls ++ rest) (let is : n - i ≡ suc (n - (i + 1)) = omega (arith, low) in is) ∙ append_assoc calls (times (n - (i + 1)) calls) rest

module _ (s : PacedState) (n i : ℕ) (calls rest : List (ℕ × Command)) (last : PacedState) (room : LeadTo s (times (n - i) calls ++ rest) last) where
  -- one time more leads to the same state, and then those that are left
  pub room-next : i < n → LeadTo s (calls ++ (times (n - (i + 1)) calls ++ rest)) last
  room-next low = subst (λ (next : List (ℕ × Command)). LeadTo s next last) (times-next n i calls rest low) room

  -- none is left, so the rest does
  pub room-last : n ≤ i → LeadTo s rest last
  room-last high =
      let none : n - i ≡ 0 = omega (arith, high) in
      subst (λ (m : ℕ). LeadTo s (times m calls ++ rest) last) none room
