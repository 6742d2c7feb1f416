-- A command that was tried before it is insisted on.
use Rattle.std.proofs.Common.{◌≡◌, ℕ, true, false, Result, sym, ap, subst, ◌∙◌}
use Rattle.std.proofs.lemmas.Bool.{false≢true}
use Rattle.rh_layout.specs.declared.command.Command.{Command}
use Rattle.rh_layout.specs.declared.command.Reply.{Reply}
use Rattle.rh_layout.specs.declared.refusal.Refusal.{Refusal}
use Rattle.rh_pace.specs.Calls.{IsPacedCall}
use Rattle.rh_pace.specs.Collecting.{wants_room}
use Rattle.rh_pace.specs.Paced.{PacedState}
use Rattle.rh_pace.proofs.Collects.{insisted-stop, wanting-refused}
use Rattle.rheap_c.specs.Insisted.{IsInsistedCall}

module _ (before after : PacedState) (owner : ℕ) (command : Command) (tried : Result Reply Refusal)
    (call : IsPacedCall before after owner command tried) where
  -- where it found room, insisting is no more than that
  pub IsInsistedCall-tried : wants_room tried ≡ false → IsInsistedCall before after owner command tried
  IsInsistedCall-tried enough =
      let same = insisted-stop 2 before owner command (sym (ap wants_room call.answer) ∙ enough) in
      record {
        state = call.state ∙ ap (λ (r : PacedState × Result Reply Refusal). r.0) (sym same);
        answer = call.answer ∙ ap (λ (r : PacedState × Result Reply Refusal). r.1) (sym same);
        transparent = call.transparent;
        words = λ need free full. absurd (false≢true (sym enough ∙ ap wants_room full));
        reached = λ need free full. absurd (false≢true (sym enough ∙ ap wants_room full));
        log = λ full. absurd (false≢true (sym enough ∙ ap wants_room full));
      }

  -- where it found none, nothing has changed, so what is insisted on now was insisted on from there
  pub IsInsistedCall-again : wants_room tried ≡ true → (new : PacedState) (told : Result Reply Refusal)
      → IsInsistedCall after new owner command told → IsInsistedCall before new owner command told
  IsInsistedCall-again wants new told insisted =
      subst (λ (s : PacedState). IsInsistedCall s new owner command told)
      (wanting-refused tried (after ≡ before) wants call.refused) insisted
