pub mod Boxes
pub mod Handles
pub mod GrowingHandles
pub mod Openings
mod Resizes
mod ResizedRoom
pub mod Readings
pub mod Rows
pub mod Runs
pub mod InTime
pub mod Refused
pub mod Tried
mod Lent
pub mod Bounded
pub mod Unless
pub mod KeptTexts
pub mod RootRows
pub mod MadeWith
pub mod Tickets
mod SharedSlots
mod ValueRows
mod RowLaws
pub mod Parts
pub mod GrownRuns
pub mod Quiet
pub mod InTurn
pub mod GrownStores
pub mod GrownTried
mod GrownRows
mod GrownMadeWith
pub mod Inside
pub mod Growths
mod CrossedNumbers
mod Untouched
mod ValueKinds
mod GrownLists
mod PlainMakes
mod KeptReaders
