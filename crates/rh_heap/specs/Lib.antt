pub mod Error
pub mod Types
pub use Rattle.rh_layout.specs.declared.command.Command
pub use Rattle.rh_layout.specs.declared.command.Operand
pub use Rattle.rh_layout.specs.declared.command.Reply
pub use Rattle.rh_layout.specs.declared.command.RootId
pub use Rattle.rh_layout.specs.declared.refusal.Refusal
pub use Rattle.rh_layout.specs.declared.value.Value
pub use Rattle.rh_layout.specs.Root
pub use Rattle.rh_model.specs.Graph
pub use Rattle.rh_model.specs.Plain
pub use Rattle.rh_mutator.specs.declared.config.ConfigFault
pub use Rattle.rh_mutator.specs.Config
pub use Rattle.rh_mutator.specs.LoadingAll
pub use Rattle.rh_mutator.specs.Mutator
pub use Rattle.rh_mutator.specs.Texts
pub use Rattle.rh_core.specs.declared.errors.HeapError
pub use Rattle.rh_core.specs.CommandHeap
pub use Rattle.rh_core.specs.Commands
pub use Rattle.rh_core.specs.Heap
pub use Rattle.rh_core.specs.StoringAll
pub use Rattle.rh_core.specs.Watching
pub use Rattle.rh_core.specs.runs.Progress
pub use Rattle.rh_pace.specs.declared.errors.PaceError
pub use Rattle.rh_pace.specs.declared.errors.SizesError
pub use Rattle.rh_pace.specs.Calls
pub use Rattle.rh_pace.specs.Collecting
pub use Rattle.rh_pace.specs.InTime
pub use Rattle.rh_pace.specs.KeepingUp
pub use Rattle.rh_pace.specs.Pace
pub use Rattle.rh_pace.specs.Paced
pub use Rattle.rh_pace.specs.PlainBounds
pub use Rattle.rh_pace.specs.PlainReplies
pub use Rattle.rh_pace.specs.Programs
pub use Rattle.rh_pace.specs.Reachable
pub use Rattle.rh_pace.specs.Reaching
pub use Rattle.rh_pace.specs.Sizes
pub use Rattle.rh_growing.specs.declared.errors.GrowingError
pub use Rattle.rh_growing.specs.declared.errors.Short
pub use Rattle.rh_growing.specs.Growth
pub use Rattle.rh_growing.specs.Growing
-- These are of the heap that grows: their own names are those of modules of the paced heap.
pub use Rattle.rh_growing.specs.Calls as GrowingCalls
pub use Rattle.rh_growing.specs.KeepingUp as GrowingKeepsUp
pub use Rattle.rh_growing.specs.Programs as GrowingPrograms
