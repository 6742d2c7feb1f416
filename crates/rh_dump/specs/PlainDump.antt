-- The dumps of plain heaps, and the plain heap that a dump describes.
use Rattle.std.specs.Prelude.{List, length, fold}
use Rattle.rh_layout.specs.declared.value.Value.{Value}
use Rattle.rh_layout.specs.declared.command.RootId.{RootId}
use Rattle.rh_model.specs.Plain as plain
use Rattle.rh_model.specs.Plain.{PlainHeap, empty_plain, with_root}
use Rattle.rh_dump.specs.Dump.{GraphState}
use Rattle.rh_dump.specs.Numbering.{dump_below}

-- the dump of a plain heap: its positions are below the number of objects
abbrev pub plain_dump_of : PlainHeap → GraphState
plain_dump_of p = dump_below (length p.objects) (plain.graph_of p)

-- a plain heap whose roots were given what is said
abbrev pub with_held : PlainHeap → List (RootId × Value) → PlainHeap
with_held p roots = fold (λ heap root. with_root heap root.0 root.1) p roots

-- The plain heap that a dump describes: 16 owners with 256 slots each, whose roots hold what the
-- dump says and are else nil, and the dump's objects, in order of their numbers.
unfoldable pub plain_heap_of : GraphState → PlainHeap
plain_heap_of g = with_held (record (empty_plain 16 256) { objects = g.objects }) g.roots
