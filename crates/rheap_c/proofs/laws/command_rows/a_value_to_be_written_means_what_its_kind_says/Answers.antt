use Rattle.rheap_c.proofs.RowLaws.{nil-means, number-means, root-means}
use Rattle.rheap_c.proofs.laws.command_rows.a_value_to_be_written_means_what_its_kind_says.Goals as goal

pub returns : goal.returns
returns c = record {
  nil = nil-means;
  number = number-means;
  root = root-means;
}
