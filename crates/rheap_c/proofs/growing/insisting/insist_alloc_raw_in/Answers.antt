use Rattle.std.proofs.Common.{ℕ}
use Rattle.rh_layout.specs.declared.command.Command.TheVariants.{Raw}
use Rattle.rheap_c.proofs.GrownTried.{grown-accepted, grown-again}
use Rattle.rheap_c.proofs.growing.insisting.insist_alloc_raw_in.Goals as goal

pub returns-in-Ok : goal.returns-in-Ok
returns-in-Ok c = (λ (i : ℕ). c.alloc_raw.ensures.0, grown-accepted c.alloc_raw.ensures.0 _ _ c.args.owner (Raw c.args.dst c.args.fields) _ c.alloc_raw.ensures.1 c.in-Ok.reply c.in-Ok.is)

pub returns-in-Err : goal.returns-in-Err
returns-in-Err c = (c.insisted.ensures.0, grown-again c.alloc_raw.ensures.0 _ _ c.args.owner (Raw c.args.dst c.args.fields) _ c.alloc_raw.ensures.1 _ c.in-Err.is _ _ _ c.insisted.ensures.1)
