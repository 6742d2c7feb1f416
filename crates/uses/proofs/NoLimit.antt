-- What changes roots alone isn't refused since the log is full, by the law that it meets no limit.
use Rattle.std.proofs.Common.{◌≡◌, ℕ, false, Err, sym, ap, ◌∙◌}
use Rattle.std.proofs.lemmas.Bool.{true≢false}
use Rattle.rh_layout.specs.Refusal.{is_limit}
use Rattle.rh_layout.specs.declared.command.Command.{Command}
use Rattle.rh_layout.specs.declared.refusal.Refusal.{Refusal}
use Rattle.rh_layout.specs.declared.refusal.Refusal.TheVariants.{LogFull}
use Rattle.rh_mutator.specs.Commands.{ChangesRoots, is_limit_answer}
use Rattle.rh_pace.specs.Paced.{PacedState, paced_step}

pub not_full : ((s : PacedState) (owner : ℕ) (command : Command) → ChangesRoots command → is_limit_answer (paced_step s owner command).1 ≡ false)
    → (s : PacedState) (owner : ℕ) (command : Command) (refusal : Refusal) → Err refusal ≡ (paced_step s owner command).1 → ChangesRoots command → refusal ≡ LogFull → ⊥
not_full law s owner command refusal answer roots full = true≢false (ap is_limit (sym full) ∙ ap is_limit_answer answer ∙ law s owner command roots)
