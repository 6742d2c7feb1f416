use Rattle.rheap_c.proofs.RowLaws.{row-done, row-refused}
use Rattle.rheap_c.proofs.laws.command_rows.a_row_is_its_commands_up_to_a_refusal.Goals as goal

pub returns : goal.returns
returns c = record {
  done = row-done;
  refused = row-refused;
}
