use Rattle.std.proofs.Common.{refl}
use Rattle.rheap_c.proofs.RootRows.{last_value-next}
use Rattle.rheap_c.proofs.RowLaws.{values-left, values-read}
use Rattle.rheap_c.proofs.laws.command_rows.rows_tell_the_values_of_their_replies.Goals as goal

pub returns : goal.returns
returns c = record {
  read = values-read;
  left = values-left;
  none = refl;
  last = last_value-next;
}
