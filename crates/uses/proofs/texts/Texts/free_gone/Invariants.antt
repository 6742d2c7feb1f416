use Rattle.std.proofs.Common.{◌≡◌, ◌+◌}
use Rattle.uses.specs.Files.{files_open}
use Rattle.uses.specs.Texts.{AreTexts}
use Rattle.uses.proofs.TextTables.{IsFreeing}
use Rattle.uses.proofs.texts.Texts.free_gone.Given as goal

-- each text is as it was, or freed; so many are
abbrev pub invariant-loop-freed : goal.invariant-loop-freed
invariant-loop-freed g l =
    IsFreeing l.fn.self l.self × AreTexts l.self × (files_open l.fn.self.files.table ≡ l.freed + files_open l.self.files.table)

abbrev pub decreases-loop-freed : goal.decreases-loop-freed
decreases-loop-freed g l = files_open l.self.files.table
