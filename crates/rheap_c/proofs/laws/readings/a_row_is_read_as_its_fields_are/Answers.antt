use Rattle.rheap_c.proofs.Rows.{row-peeked, row-unread}
use Rattle.rheap_c.proofs.laws.readings.a_row_is_read_as_its_fields_are.Goals as goal

pub returns : goal.returns
returns c = record {
  read = row-peeked;
  refused = row-unread;
}
