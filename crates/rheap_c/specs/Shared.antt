-- The slots of owner 0, which all owners share.
use Rattle.std.specs.Prelude.{ℕ}
use Rattle.rh_layout.specs.declared.command.RootId.{RootId}

-- the root in such a slot
abbrev pub shared_root : ℕ → RootId
shared_root slot = record { owner = 0; slot = slot }
