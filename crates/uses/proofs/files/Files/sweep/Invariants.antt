use Rattle.std.proofs.Common.{◌≡◌, ◌+◌, length}
use Rattle.uses.specs.Files.{files_open, tickets_of}
use Rattle.uses.proofs.FileTables.{IsSweeping}
use Rattle.uses.proofs.files.Files.sweep.Given as goal

-- each ticket is as it was, or its file is closed; so many are
abbrev pub invariant-loop-closed : goal.invariant-loop-closed
invariant-loop-closed g l =
    IsSweeping (tickets_of l.fn.self) (tickets_of l.self) l.fn.self.table l.self.table
    × (files_open l.fn.self.table ≡ l.closed + files_open l.self.table) × (l.most ≡ length l.fn.self.table)
