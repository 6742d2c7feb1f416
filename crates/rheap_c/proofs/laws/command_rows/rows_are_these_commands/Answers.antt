use Rattle.std.proofs.Common.{refl}
use Rattle.rheap_c.proofs.RowLaws.{drops-at, drops-many, loads-at, loads-many, path-at, stores-at, stores-many, values-at, values-many}
use Rattle.rheap_c.proofs.laws.command_rows.rows_are_these_commands.Goals as goal

pub returns : goal.returns
returns c = record {
  loads = loads-at;
  stores = stores-at;
  drops = drops-at;
  values = values-at;
  path = λ owner dst src field fields. refl;
  path_on = λ owner dst src field fields i. path-at owner dst fields i;
  as_many = λ owner r q field n. (loads-many owner r q field n, stores-many owner r q field n, drops-many owner r n);
  as_many_values = values-many;
}
