use Rattle.std.proofs.Common.{refl}
use Rattle.rheap_c.proofs.laws.command_rows.tickets_have_these_statuses.Goals as goal

pub returns : goal.returns
returns c = record {
  watched = λ ticket. refl;
  refused = (refl, refl, refl, refl);
  freed = (refl, refl);
}
