use Rattle.std.proofs.Common.{◌≡◌, false, take}
use Rattle.std.specs.List.{list_any}
use Rattle.std.specs.Str.{bytes_eq}
use Rattle.rh_command_line.specs.declared.table.CommandRow.{CommandRow}
use Rattle.rh_command_line.proofs.commands.is_name.Given as goal

abbrev pub invariant-loop-row : goal.invariant-loop-row
invariant-loop-row l = list_any (λ (row : CommandRow). bytes_eq l.word row.name.now) (take l.row-index l.rows) ≡ false
