use Rattle.rheap_c.proofs.Rows.{text-peeked, text-unread}
use Rattle.rheap_c.proofs.laws.readings.a_text_is_read_as_its_fields_are.Goals as goal

pub returns : goal.returns
returns c = record {
  read = text-peeked;
  refused = text-unread;
}
