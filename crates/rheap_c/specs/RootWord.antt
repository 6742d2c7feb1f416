-- Roots as one word each.
use Rattle.std.specs.Prelude.{◌/◌, ◌%◌, ◌^◌}
use Rattle.rh_layout.specs.declared.command.RootId.{RootId}
use Rattle.rheap_c.specs.declared.root_word.RootWord.{RootWord}

-- the root that a word names: its owner is in the lower half, its slot in the upper one
abbrev pub root_in : RootWord → RootId
root_in w = record { owner = w.word % (2 ^ 32); slot = w.word / (2 ^ 32) }
