-- Long texts by place. Each stands for an object, by a file whose number is the text's place.
use Rattle.std.specs.Prelude.{◌≡◌, ◌≢◌, ℕ, if◌then◌else◌, List, length, map, Option, Some, None, is_some, option_map, slice_set, string_bytes}
use Rattle.std.specs.List.{slice_index_or}
use Rattle.std.specs.declared.string.String.{String}
use Rattle.rh_layout.specs.declared.command.RootId.{RootId}
use Rattle.rh_watches.specs.declared.watch.Watch.TheVariants.{Gone}
use Rattle.uses.specs.Files.{FilesState, IsOpened, IsSwept, file_at, ticket_of, times_open}

-- the files, each a place, and by place the bytes of the text
pub record TextsState : Type 0 where
  pub files : FilesState
  pub texts : List (Option (List ℕ))

-- these two
abbrev pub texts_state : {Z : Type 0} → FilesState → List (Option (String Z)) → TextsState
texts_state files texts = record { files = files; texts = map (option_map string_bytes) texts }

-- the text of a place
abbrev pub text_at : TextsState → ℕ → Option (List ℕ)
text_at s place = slice_index_or s.texts place None

-- What texts and files keep: there are as many places as tickets. A place that has a text is the file
-- of one ticket, and any other place is the file of none.
pub record AreTexts (s : TextsState) : Type 0 where
  pub places : length s.texts ≡ length s.files.table
  pub times : (place : ℕ)
      → times_open place s.files.table ≡ (if is_some (text_at s place) then 1 else 0)

-- A place that had no text has this one, and is the file that the root's object stands for. All other
-- places are as they were.
pub record IsPut (old new : TextsState) (root : RootId) (place : ℕ) (text : List ℕ) : Type 0 where
  pub free : text_at old place ≡ None
  pub texts : new.texts ≡ slice_set old.texts place (Some text)
  pub opened : (ticket : ℕ) × IsOpened old.files new.files root ticket place

-- The place of each ticket whose object was gone has no text. That of any other ticket has the text
-- that it had. The files are swept.
pub record IsFreed (old new : TextsState) : Type 0 where
  pub swept : IsSwept old.files new.files
  pub freed : (ticket place : ℕ) → file_at old.files.table ticket ≡ Some place
      → ticket_of old.files ticket ≡ Gone → text_at new place ≡ None
  pub kept : (ticket place : ℕ) → file_at old.files.table ticket ≡ Some place
      → ticket_of old.files ticket ≢ Gone → text_at new place ≡ text_at old place
