-- The definitions at work: what some texts are read as, and what the faults of others are.
use Rattle.std.proofs.Common.{◌≡◌, ℕ, List, [], ◌∷◌, ◌++◌, Result, Ok, Err, refl}
use Rattle.std.specs.Prelude.{codes, map}
use Rattle.std.specs.Fmt.{digits}
use Rattle.std.specs.List.{flat_map}
use Rattle.rh_layout.specs.declared.command.Command.TheVariants.{Alloc, Raw, Load, Store, Copy, Same, Drop}
use Rattle.rh_layout.specs.declared.kind.Kind.TheVariants.{Copies, Entries}
use Rattle.rh_text.specs.Number.{number_of, integer_of}
use Rattle.rh_text.specs.Parts.{is_formed, one_part, two_parts, three_parts, six_parts}
use Rattle.rh_text.specs.Root.{root_of}
use Rattle.rh_syntax.specs.declared.fault.Kind.{Kind}
use Rattle.rh_syntax.specs.declared.fault.Kind.TheVariants.{Empty, Cut, Form, Header, Word, Number, Root, Tray}
use Rattle.rh_syntax.specs.declared.fault.TraceFault.{TraceFault}
use Rattle.rh_syntax.specs.declared.request.Request.{Request}
use Rattle.rh_syntax.specs.declared.request.Request.TheVariants.{Command, Begin, Shade, Deal, Give, Join, Flip, Recall, Abandon, Idle, Resize, Tickets, Watch, Unwatch, Gone, Trays, Stat, Dump}
use Rattle.rh_syntax.specs.Spelling.{Script}
use Rattle.rh_layout.specs.declared.command.RootId.{RootId}
use Rattle.rh_layout.specs.declared.command.Operand.TheVariants as operands
use Rattle.rh_syntax.specs.Reading.{operand_or_fault, read_alloc, read_raw, read_load, read_store, read_copy, read_same, read_drop, command_or_fault, kind_or_fault, read_shade, read_deal, read_give, read_join, read_idle, read_resize, read_tickets, read_unwatch, listing_request, watching_request, keyword_request, read_watch, owned_request, request_of_parts, sizes_of, header_of_parts, checked_parts, request_or_kind, header_or_kind, requests_from, script_or_fault, trace_of}
use Rattle.rh_syntax.specs.TrayName.{is_tray_name}

-- so many lines, each ended
text : List (List ℕ) → List ℕ
text lines = flat_map (λ line. line ++ 10 ∷ []) lines

header : List ℕ
header = codes "heap 16 8 4 2 2"

-- the fault of a line of this number
fault : ℕ → Kind → Result Script TraceFault
fault line kind = Err (record { line = line; kind = kind })

empty : trace_of [] ≡ fault 1 Empty
unfolding digits script_or_fault fault
empty = refl

five_parts : trace_of (text (codes "heap 16 8 4 2" ∷ [])) ≡ fault 1 Header
unfolding digits script_or_fault header_or_kind checked_parts is_formed header_of_parts six_parts sizes_of number_of text fault
five_parts = refl

leading_zero : trace_of (text (codes "heap 16 8 4 2 02" ∷ [])) ≡ fault 1 Number
unfolding digits script_or_fault header_or_kind checked_parts is_formed header_of_parts six_parts sizes_of number_of text fault
leading_zero = refl

cut_before_form : trace_of (codes "heap  16") ≡ fault 1 Cut
unfolding digits script_or_fault header_or_kind checked_parts fault
cut_before_form = refl

form_before_number : trace_of (text (header ∷ codes "1x drop" ∷ [])) ≡ fault 2 Form
unfolding digits script_or_fault header_or_kind request_or_kind requests_from checked_parts is_formed header_of_parts six_parts sizes_of number_of request_of_parts owned_request command_or_fault read_drop one_part text header fault
form_before_number = refl

dotted_operand : trace_of (text (header ∷ codes "1 store 1.0 0 -1.0" ∷ [])) ≡ fault 2 Root
unfolding digits script_or_fault header_or_kind request_or_kind requests_from checked_parts is_formed header_of_parts six_parts sizes_of number_of request_of_parts owned_request command_or_fault read_store three_parts root_of operand_or_fault text header fault
dotted_operand = refl

-- lines, each with the kind of its fault after a header
faulty : List (List ℕ × Kind)
faulty =
    (codes "1 begin", Word)
    ∷ (codes "1 shade", Word)
    ∷ (codes "alloc 1 1.0 2", Word)
    ∷ (codes "raw 1 1.0 2", Word)
    ∷ (codes "begin 1", Form)
    ∷ (codes "shade 10", Root)
    ∷ (codes "deal bogus 1", Form)
    ∷ (codes "deal copies 1", Form)
    ∷ (codes "deal bogus x T", Word)
    ∷ (codes "deal copies x T", Number)
    ∷ (codes "deal copies 1 T", Tray)
    ∷ (codes "give T", Tray)
    ∷ (codes "give abcdefghijklmnopq", Tray)
    ∷ (codes "join a 1", Tray)
    ∷ (codes "give aB", Tray)
    ∷ (codes "deal copies 1 a-b", Tray)
    ∷ (codes "recall 1", Form)
    ∷ (codes "1 recall", Word)
    ∷ (codes "abandon a", Form)
    ∷ (codes "1 abandon", Word)
    ∷ (codes "idle", Form)
    ∷ (codes "idle 1 2", Form)
    ∷ (codes "idle x", Number)
    ∷ (codes "idle 4294967296", Number)
    ∷ (codes "1 idle 2", Word)
    ∷ (codes "idles 1", Word)
    ∷ (codes "resize", Form)
    ∷ (codes "resize 16 8", Form)
    ∷ (codes "resize x", Number)
    ∷ (codes "resize -1", Number)
    ∷ (codes "resize 4294967296", Number)
    ∷ (codes "1 resize 16", Word)
    ∷ (codes "resizes 16", Word)
    ∷ (codes "tickets", Form)
    ∷ (codes "tickets 1 2", Form)
    ∷ (codes "tickets x", Number)
    ∷ (codes "tickets 4294967296", Number)
    ∷ (codes "1 tickets 2", Word)
    ∷ (codes "watch 1.0", Word)
    ∷ (codes "1 watch", Form)
    ∷ (codes "1 watch 1.0 2", Form)
    ∷ (codes "1x watch 10", Number)
    ∷ (codes "1 watch 10", Root)
    ∷ (codes "1 watches 1.0", Word)
    ∷ (codes "unwatch", Form)
    ∷ (codes "unwatch -1", Number)
    ∷ (codes "1 unwatch 0", Word)
    ∷ (codes "gone 1", Form)
    ∷ (codes "1 gone", Word)
    ∷ []

-- what a header and a line are read as
found : List ℕ → Result Script TraceFault
found line = trace_of (text (header ∷ line ∷ []))

faults : map (λ (row : List ℕ × Kind). found row.0) faulty ≡ map (λ (row : List ℕ × Kind). fault 2 row.1) faulty
unfolding digits script_or_fault header_or_kind request_or_kind requests_from checked_parts is_formed header_of_parts six_parts sizes_of number_of request_of_parts owned_request read_watch command_or_fault keyword_request watching_request listing_request read_shade read_deal read_give read_join read_idle read_resize read_tickets read_unwatch one_part two_parts three_parts kind_or_fault root_of is_tray_name text header fault faulty found
faults = refl

-- each line of a cycle, with the greatest number and the longest name
cycle : List (List ℕ)
cycle = codes "begin" ∷ codes "shade 1.0" ∷ codes "deal copies 4294967295 a" ∷ codes "deal entries 0 b_9" ∷ codes "give abcdefghijklmnop" ∷ codes "join a b_9" ∷ codes "flip" ∷ codes "recall" ∷ codes "abandon" ∷ codes "idle 14" ∷ codes "resize 4294967295" ∷ codes "tickets 4294967295" ∷ codes "3 watch 1.0" ∷ codes "unwatch 4294967295" ∷ codes "gone" ∷ codes "trays" ∷ codes "stat" ∷ codes "dump" ∷ []

cycle_requests : List Request
cycle_requests = Begin ∷ Shade (record { owner = 1; slot = 0 }) ∷ Deal Copies 4294967295 (codes "a") ∷ Deal Entries 0 (codes "b_9") ∷ Give (codes "abcdefghijklmnop") ∷ Join (codes "a") (codes "b_9") ∷ Flip ∷ Recall ∷ Abandon ∷ Idle 14 ∷ Resize 4294967295 ∷ Tickets 4294967295 ∷ Watch 3 (record { owner = 1; slot = 0 }) ∷ Unwatch 4294967295 ∷ Gone ∷ Trays ∷ Stat ∷ Dump ∷ []

read : trace_of (text (header ∷ cycle)) ≡ Ok (record { header = record { words = 16; ratio = 8; log = 4; owners = 2; slots = 2 }; requests = cycle_requests })
unfolding digits script_or_fault header_or_kind request_or_kind requests_from checked_parts is_formed header_of_parts six_parts sizes_of number_of request_of_parts owned_request read_watch keyword_request watching_request listing_request read_shade read_deal read_give read_join read_idle read_resize read_tickets read_unwatch one_part two_parts three_parts kind_or_fault root_of is_tray_name text header cycle cycle_requests
read = refl

-- a root of an owner and a slot
root : ℕ → ℕ → RootId
root owner slot = record { owner = owner; slot = slot }

-- a command line of each keyword
commands : List (List ℕ)
commands = codes "3 alloc 1.0 2" ∷ codes "3 raw 1.0 2" ∷ codes "3 load 1.1 1.0 4" ∷ codes "3 store 1.0 4 nil" ∷ codes "3 copy 0.1 1.0" ∷ codes "3 same 1.0 1.1" ∷ codes "3 drop 1.0" ∷ []

command_requests : List Request
command_requests = Command 3 (Alloc (root 1 0) 2) ∷ Command 3 (Raw (root 1 0) 2) ∷ Command 3 (Load (root 1 1) (root 1 0) 4) ∷ Command 3 (Store (root 1 0) 4 operands.Nil) ∷ Command 3 (Copy (root 0 1) (root 1 0)) ∷ Command 3 (Same (root 1 0) (root 1 1)) ∷ Command 3 (Drop (root 1 0)) ∷ []

read_commands : trace_of (text (header ∷ commands)) ≡ Ok (record { header = record { words = 16; ratio = 8; log = 4; owners = 2; slots = 2 }; requests = command_requests })
unfolding digits script_or_fault header_or_kind request_or_kind requests_from checked_parts is_formed header_of_parts six_parts sizes_of number_of integer_of request_of_parts owned_request command_or_fault read_alloc read_raw read_load read_store read_copy read_same read_drop one_part two_parts three_parts root_of operand_or_fault text header commands command_requests root
read_commands = refl
