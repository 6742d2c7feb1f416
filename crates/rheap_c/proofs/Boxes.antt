-- What a call of a box's function passes for the heap and for the allocator `Global`.
use Rattle.std.proofs.Common.{[], ◌∷◌, refl}
use mir.Syntax.{Dict, impl, tnil, tcons, dnil}
use mir.Raw.{raw as bare}
use denote.Exit.{no}
use denote.RattleType.{RattleType}
use denote.Param.{layout, arg}
use denote.Param.Laws.{Laws, arg_laws}
use Rattle.std.proofs.alloc.Calls.{Al}
use Rattle.std.specs.contracts.impls.GlobalAllocator.TheImpl.{ghosts, dict}
use Rattle.std.specs.contracts.alloc.Global as heap
use Rattle.std.proofs.alloc.Global.TheLaws as heap_laws
use Rattle.rh_pace.proofs.paced_heap.PacedHeap.TheLaws as paced_laws
use Rattle.rh_growing.proofs.growing_heap.GrowingHeap.TheLaws as growing_laws
use Rattle.rheap_c.specs.Held.{heap_type, growing_type}

abbrev given : RattleType → RattleType
given R = arg (bare (layout R)) no R

-- the allocator, as an argument
abbrev pub Z : RattleType
Z = given heap.the_row

abbrev pub LZ : Laws Z
LZ = arg_laws (bare (layout heap.the_row)) no heap.the_row heap_laws.the_row_laws refl

-- the laws of the heap's type
abbrev pub heap_type_laws : Laws heap_type
heap_type_laws = paced_laws.the_row_laws heap.the_row ghosts heap_laws.the_row_laws

-- the heap's type, as an argument
abbrev pub X : RattleType
X = given heap_type

abbrev pub LX : Laws X
LX = arg_laws (bare (layout heap_type)) no heap_type heap_type_laws refl

-- the same of a heap that grows
abbrev pub growing_type_laws : Laws growing_type
growing_type_laws = growing_laws.the_row_laws heap.the_row ghosts heap_laws.the_row_laws

abbrev pub growing_X : RattleType
growing_X = given growing_type

abbrev pub growing_LX : Laws growing_X
growing_LX = arg_laws (bare (layout growing_type)) no growing_type growing_type_laws refl

-- the allocator's drop does nothing
abbrev pub frees : Dict
frees = impl ("rheap_c::Destruct++none::drop" ∷ []) (tcons (layout Z) tnil) dnil

abbrev pub al : Al
al = record { row = Z; laws = LZ; g = ghosts; d = dict; drops = frees }
