use Rattle.rheap_c.proofs.GrownLists.{grown-done, grown-insisted_done, grown-insisted_refused, grown-refused}
use Rattle.rheap_c.proofs.laws.command_rows.a_growing_row_is_its_commands_up_to_a_refusal.Goals as goal

pub returns : goal.returns
returns c = record {
  done = grown-done;
  refused = grown-refused;
  insisted_done = grown-insisted_done;
  insisted_refused = grown-insisted_refused;
}
