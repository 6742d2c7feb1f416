-- What the two parts of a handle own: of a heap of fixed sizes, and of one that grows.
use Rattle.std.specs.Prelude.{Option, Some, None}
use base.Fml.{Fml, feq, fex}
use denote.RattleType.{RattleType}
use denote.RawPtr.{Ptr, null_ptr}
use Rattle.std.specs.declared.alloc.Global.{Global}
use Rattle.std.specs.contracts.alloc.Global.{the_row as global_row}
use Rattle.std.specs.contracts.impls.GlobalAllocator.TheImpl.{ghosts}
use Rattle.std_alloc.specs.Box.Ownership.{box_owns}
use Rattle.rh_pace.specs.contracts.paced_heap.PacedHeap.{the_row as paced_row}
use Rattle.rh_growing.specs.contracts.growing_heap.GrowingHeap.{the_row as growing_row}

-- the type of a heap that collects by itself, in memory of the allocator
abbrev pub heap_type : RattleType
heap_type = paced_row global_row ghosts

-- a box with the heap at the address, and the right to free it
abbrev pub boxed : Ptr → heap_type.Denot → Global → Fml
boxed p s alloc = box_owns (ghosts.dealloc_token alloc) heap_type p s

-- At the address: null where no heap is open, and else such a box, of some allocator handle, which
-- all free alike.
abbrev pub held : Ptr → Option heap_type.Denot → Fml
held p None = feq Ptr p null_ptr
held p (Some s) = fex Global (boxed p s)

-- the type of a heap that grows, in the same memory
abbrev pub growing_type : RattleType
growing_type = growing_row global_row ghosts

-- and the same of it
abbrev pub growing_boxed : Ptr → growing_type.Denot → Global → Fml
growing_boxed p s alloc = box_owns (ghosts.dealloc_token alloc) growing_type p s

abbrev pub growing_held : Ptr → Option growing_type.Denot → Fml
growing_held p None = feq Ptr p null_ptr
growing_held p (Some s) = fex Global (growing_boxed p s)
