use Rattle.std.proofs.Common.{refl, ◌∙◌}
use Rattle.std.specs.Io.KnownBytes.{append_known}
use Rattle.rh_cli.proofs.Gathered.{append_known-nil}
use Rattle.rh_cli.proofs.program.gathering.Goals as goal

pub returns-in-Ok-clause-kept : goal.returns-in-Ok-clause-kept
returns-in-Ok-clause-kept g c = c.in-Ok.ensures.inner

pub returns-in-Ok-clause-empty : goal.returns-in-Ok-clause-empty
returns-in-Ok-clause-empty g c =
    (λ k. append_known (g.W.Write.contents (c.in-Ok.ensures.inner k)) (c.in-Ok.ensures.empty k)) ∙ append_known-nil (g.W.Write.contents c.args.writer)

pub returns-in-Err-clause-memory : goal.returns-in-Err-clause-memory
returns-in-Err-clause-memory g c = refl
