-- Files that objects stand for, by ticket.
use Rattle.std.specs.Prelude.{◌≡◌, ◌≢◌, ◌↔◌, ◌==◌, ℕ, Bool, false, if◌then◌else◌, List, length, Option, Some, None, is_some, slice_set}
use Rattle.std.specs.List.{count_by, slice_index_or}
use Rattle.rh_layout.specs.declared.command.RootId.{RootId}
use Rattle.rh_layout.specs.declared.value.Value.TheVariants.{Ref}
use Rattle.rh_watches.specs.declared.watch.Watch.{Watch}
use Rattle.rh_watches.specs.declared.watch.Watch.TheVariants.{Free, Gone, On}
use Rattle.rh_watches.specs.Watches.{WatchTable, ticket_at}
use Rattle.rh_model.specs.Graph.{Graph, root_value}
use Rattle.rh_model.specs.Reach.{Reached}
use Rattle.rh_mutator.specs.Mutator.{graph_of}
use Rattle.rh_growing.specs.Growing.{GrowingState}

-- the heap that has their objects, and by ticket the file that is open
pub record FilesState : Type 0 where
  pub heap : GrowingState
  pub table : List (Option ℕ)

-- these two
abbrev pub files_state : GrowingState → List (Option ℕ) → FilesState
files_state heap table = record { heap = heap; table = table }

-- the tickets of its heap
abbrev pub tickets_of : FilesState → WatchTable
tickets_of s = s.heap.paced.heap.watches

-- what a ticket is
abbrev pub ticket_of : FilesState → ℕ → Watch
ticket_of s ticket = ticket_at (tickets_of s) ticket

-- the file that a ticket has
abbrev pub file_at : List (Option ℕ) → ℕ → Option ℕ
file_at table ticket = slice_index_or table ticket None

-- What tickets and files keep: each ticket has a place, and a file exactly where it isn't free.
pub record AreFiles (t : WatchTable) (table : List (Option ℕ)) : Type 0 where
  pub places : length table ≡ length t.tickets
  pub free : (ticket : ℕ) → (file_at table ticket ≡ None) ↔ (ticket_at t ticket ≡ Free)

-- whether it is this file
abbrev pub is_file : ℕ → Option ℕ → Bool
is_file file None = false
is_file file (Some n) = n == file

-- how many tickets have a file
abbrev pub times_open : ℕ → List (Option ℕ) → ℕ
times_open file table = count_by (is_file file) table

-- how many files are open
abbrev pub files_open : List (Option ℕ) → ℕ
files_open table = count_by (λ o. is_some o) table

-- 1 where a file is this one, else 0
abbrev pub once : ℕ → ℕ → ℕ
once file n = if n == file then 1 else 0

-- Tickets follow the objects of a graph. One whose object is reached goes on. One that is free
-- stays so, and none gets free. One whose object is gone stays so.
pub record TicketsFollow (g : Graph) (old new : WatchTable) : Type 0 where
  pub room : length new.tickets ≡ length old.tickets
  pub reached : (ticket a : ℕ) → ticket_at old ticket ≡ On a → Reached g a
      → (to : ℕ) × (ticket_at new ticket ≡ On to)
  pub free : (ticket : ℕ) → (ticket_at new ticket ≡ Free) ↔ (ticket_at old ticket ≡ Free)
  pub gone : (ticket : ℕ) → ticket_at old ticket ≡ Gone → ticket_at new ticket ≡ Gone

-- A file is open by a ticket that was free, which watches the object that a root holds. All other
-- tickets are as they were, and have the same files.
pub record IsOpened (old new : FilesState) (root : RootId) (ticket file : ℕ) : Type 0 where
  pub free : ticket_of old ticket ≡ Free
  pub watches : (a : ℕ)
      × (root_value (graph_of old.heap.paced.heap.mutators) root ≡ Ref a)
      × (ticket_of new ticket ≡ On a)
  pub table : new.table ≡ slice_set old.table ticket (Some file)
  pub others : (other : ℕ) → other ≢ ticket → ticket_of new other ≡ ticket_of old other

-- A file is closed by a ticket whose object is gone. The ticket is free then, and has no file. All
-- other tickets are as they were, and have the same files.
pub record IsClosed (old new : FilesState) (ticket file : ℕ) : Type 0 where
  pub gone : ticket_of old ticket ≡ Gone
  pub had : file_at old.table ticket ≡ Some file
  pub free : ticket_of new ticket ≡ Free
  pub table : new.table ≡ slice_set old.table ticket None
  pub others : (other : ℕ) → other ≢ ticket → ticket_of new other ≡ ticket_of old other

-- Each file whose object is gone is closed, and no other: its ticket is free and has no file. Any
-- other ticket is as it was, and has the same file.
pub record IsSwept (old new : FilesState) : Type 0 where
  pub closed : (ticket : ℕ) → ticket_of old ticket ≡ Gone
      → (ticket_of new ticket ≡ Free) × (file_at new.table ticket ≡ None)
  pub kept : (ticket : ℕ) → ticket_of old ticket ≢ Gone
      → (ticket_of new ticket ≡ ticket_of old ticket)
      × (file_at new.table ticket ≡ file_at old.table ticket)
