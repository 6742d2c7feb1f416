-- A handle may go to another thread: what it owns is a box of a heap, which may.
use mir.Raw.{raw}
use base.Shift.{Keyless}
use denote.Builtin.{RawPtr}
use denote.Memory.{lone}
use denote.RawPtr.{Ptr}
use denote.Struct.Struct.{exits_of}
use denote.Struct.Owning.{shape, fields, to}
use denote.Param.Send.{IsSend, AllSend, owning_send, struct_send, sendable}
use Rattle.std.specs.Prelude.{Option, Some, None}
use Rattle.std.specs.contracts.alloc.Global.{the_row as global_row}
use Rattle.std.specs.contracts.impls.GlobalAllocator.TheImpl.{ghosts}
use Rattle.std.proofs.alloc.Global.TheSendSync as allocator
use Rattle.std_heap.proofs.GlobalAllocator.TheSendSync.{the_frees}
use Rattle.std_alloc.proofs.SendSync.{lies, quiet}
use Rattle.rh_growing.proofs.growing_heap.GrowingHeap.TheSendSync as growing
use Rattle.rheap_c.specs.Held.{growing_type, growing_held}
use Rattle.rheap_c.specs.contracts.growing_part.GrowingPart.{the_row, the_type}

heap_send : IsSend growing_type
heap_send = growing.the_send global_row ghosts allocator.the_send the_frees

held_keyless : (p : Ptr) (state : Option growing_type.Denot) → Keyless (growing_held p state)
held_keyless p None = tt
held_keyless p (Some s) = λ alloc.
    (lies growing_type heap_send p s, the_frees.frees alloc (raw (lone growing_type.mir)) p)

address_send : IsSend RawPtr
address_send = search sendable

pub send : IsSend the_row
send = let all : AllSend (fields the_type) = (address_send, tt) in
    owning_send the_type all (λ h. held_keyless h.at h.state)
    (λ k. quiet (to the_type) (exits_of k (fields the_type)) ((struct_send (shape the_type) all).leaving k))
