-- What a text is read as: the trace that it spells, or its first fault.
use Rattle.std.specs.Prelude.{◌≡◌, ℕ, ◌+◌, List, [], ◌∷◌, length, Result, Ok, Err, nat_lt, ◌||◌, not, if◌then◌else◌, codes, ℤ}
use Rattle.std.specs.Str.{bytes_eq}
use Rattle.rh_layout.specs.declared.command.Command.{Command}
use Rattle.rh_layout.specs.declared.command.Command.TheVariants.{Alloc, Raw, Load, Store, Copy, Same, Drop}
use Rattle.rh_layout.specs.declared.command.Operand.{Operand}
use Rattle.rh_layout.specs.declared.command.Operand.TheVariants as operands
use Rattle.rh_layout.specs.declared.command.RootId.{RootId}
use Rattle.rh_layout.specs.declared.kind.Kind as pieces
use Rattle.rh_layout.specs.declared.kind.Kind.TheVariants.{Copies, Entries}
use Rattle.rh_text.specs.RawLine.{RawLine, lines_of}
use Rattle.rh_text.specs.Parts.{parts_of, is_formed, has_dot, begins_with_digit, one_part, two_parts, three_parts, six_parts}
use Rattle.rh_text.specs.Number.{number_of, integer_of}
use Rattle.rh_text.specs.Root.{root_of}
use Rattle.rh_text.specs.Steps.{◌>>=◌, or_fault, with_fault}
use Rattle.rh_syntax.specs.declared.fault.Kind.{Kind}
use Rattle.rh_syntax.specs.declared.fault.Kind.TheVariants.{Empty, Long, Cut, Form, Header, Word, Number, Root, Tray}
use Rattle.rh_syntax.specs.declared.fault.TraceFault.{TraceFault}
use Rattle.rh_syntax.specs.declared.fault.ParseError.{ParseError}
use Rattle.rh_syntax.specs.declared.fault.ParseError.TheVariants as errors
use Rattle.rh_syntax.specs.declared.line as declared
use Rattle.rh_syntax.specs.declared.request.Request.{Request}
use Rattle.rh_syntax.specs.declared.request.Request.TheVariants as requests
use Rattle.rh_syntax.specs.TrayName.{tray_name_of}
use Rattle.rh_syntax.specs.Spelling.{Script}

-- the fault of a call is the one that reading gives, unless memory ran out
abbrev pub Fails : {Y : Type 0} → ParseError → Result Y TraceFault → Type 0
Fails errors.OutOfMemory read = Unit {0}
Fails (errors.Fault f) read = read ≡ Err f

-- what a function returned, seen by view, is what reading gives, unless memory ran out
abbrev pub Gives : {X Y : Type 0} → (X → Y) → Result X ParseError → Result Y TraceFault → Type 0
Gives view (Ok x) read = read ≡ Ok (view x)
Gives view (Err e) read = Fails e read

-- the number of a part
abbrev pub number_or_fault : List ℕ → Result ℕ Kind
number_or_fault part = or_fault (number_of part) Number

-- the root of a part
abbrev pub root_or_fault : List ℕ → Result RootId Kind
root_or_fault part = or_fault (root_of part) Root

-- the name of a tray that a part is
abbrev pub tray_or_fault : List ℕ → Result (List ℕ) Kind
tray_or_fault part = or_fault (tray_name_of part) Tray

-- what is dealt, by a part
unfoldable pub kind_or_fault : List ℕ → Result pieces.Kind Kind
kind_or_fault part =
    if bytes_eq part (codes "copies") then Ok Copies
    else if bytes_eq part (codes "entries") then Ok Entries
    else Err Word

-- the whole number of a part
abbrev pub integer_or_fault : List ℕ → Result ℤ Kind
integer_or_fault part = or_fault (integer_of part) Number

-- nil, a root where there is a dot, and else a whole number
unfoldable pub operand_or_fault : List ℕ → Result Operand Kind
operand_or_fault part =
    if bytes_eq part (codes "nil") then Ok operands.Nil
    else if has_dot part then (root_or_fault part >>= λ root. Ok (operands.Root root))
    else (integer_or_fault part >>= λ n. Ok (operands.Int n))

-- OWNER alloc ROOT FIELDS
unfoldable pub read_alloc : List ℕ → List (List ℕ) → Result (ℕ × Command) Kind
read_alloc owner args = do
  parts ← or_fault (two_parts args) Form
  owner ← number_or_fault owner
  dst ← root_or_fault parts.0
  fields ← number_or_fault parts.1
  Ok (owner, Alloc dst fields)

-- OWNER raw ROOT FIELDS
unfoldable pub read_raw : List ℕ → List (List ℕ) → Result (ℕ × Command) Kind
read_raw owner args = do
  parts ← or_fault (two_parts args) Form
  owner ← number_or_fault owner
  dst ← root_or_fault parts.0
  fields ← number_or_fault parts.1
  Ok (owner, Raw dst fields)

-- OWNER load DST SRC FIELD
unfoldable pub read_load : List ℕ → List (List ℕ) → Result (ℕ × Command) Kind
read_load owner args = do
  parts ← or_fault (three_parts args) Form
  owner ← number_or_fault owner
  dst ← root_or_fault parts.0
  src ← root_or_fault parts.1
  field ← number_or_fault parts.2
  Ok (owner, Load dst src field)

-- OWNER store OBJ FIELD OPERAND
unfoldable pub read_store : List ℕ → List (List ℕ) → Result (ℕ × Command) Kind
read_store owner args = do
  parts ← or_fault (three_parts args) Form
  owner ← number_or_fault owner
  obj ← root_or_fault parts.0
  field ← number_or_fault parts.1
  operand ← operand_or_fault parts.2
  Ok (owner, Store obj field operand)

-- OWNER copy DST SRC
unfoldable pub read_copy : List ℕ → List (List ℕ) → Result (ℕ × Command) Kind
read_copy owner args = do
  parts ← or_fault (two_parts args) Form
  owner ← number_or_fault owner
  dst ← root_or_fault parts.0
  src ← root_or_fault parts.1
  Ok (owner, Copy dst src)

-- OWNER same A B
unfoldable pub read_same : List ℕ → List (List ℕ) → Result (ℕ × Command) Kind
read_same owner args = do
  parts ← or_fault (two_parts args) Form
  owner ← number_or_fault owner
  a ← root_or_fault parts.0
  b ← root_or_fault parts.1
  Ok (owner, Same a b)

-- OWNER drop ROOT
unfoldable pub read_drop : List ℕ → List (List ℕ) → Result (ℕ × Command) Kind
read_drop owner args = do
  part ← or_fault (one_part args) Form
  owner ← number_or_fault owner
  root ← root_or_fault part
  Ok (owner, Drop root)

-- a line that begins with an owner, by the keyword after it
unfoldable pub command_or_fault : List ℕ → List (List ℕ) → Result (ℕ × Command) Kind
command_or_fault owner [] = Err Form
command_or_fault owner (keyword ∷ args) =
    if bytes_eq keyword (codes "alloc") then read_alloc owner args
    else if bytes_eq keyword (codes "raw") then read_raw owner args
    else if bytes_eq keyword (codes "load") then read_load owner args
    else if bytes_eq keyword (codes "store") then read_store owner args
    else if bytes_eq keyword (codes "copy") then read_copy owner args
    else if bytes_eq keyword (codes "same") then read_same owner args
    else if bytes_eq keyword (codes "drop") then read_drop owner args
    else Err Word

-- the command of a line after the first
unfoldable pub owned_command : List (List ℕ) → Result (ℕ × Command) Kind
owned_command [] = Err Form
owned_command (first ∷ rest) =
    if begins_with_digit first then command_or_fault first rest else Err Word

-- the owner and the command of a single line, without its line end
unfoldable pub single_command : List ℕ → Result (ℕ × Command) Kind
single_command line = if not (is_formed line) then Err Form else owned_command (parts_of line)

-- this request, where nothing stands after its keyword
abbrev pub alone : List (List ℕ) → Request → Result Request Kind
alone [] request = Ok request
alone (arg ∷ args) request = Err Form

-- shade ROOT
unfoldable pub read_shade : List (List ℕ) → Result Request Kind
read_shade args = do
  part ← or_fault (one_part args) Form
  root ← root_or_fault part
  Ok (requests.Shade root)

-- deal copies MOST TRAY, or deal entries MOST TRAY
unfoldable pub read_deal : List (List ℕ) → Result Request Kind
read_deal args = do
  parts ← or_fault (three_parts args) Form
  kind ← kind_or_fault parts.0
  most ← number_or_fault parts.1
  tray ← tray_or_fault parts.2
  Ok (requests.Deal kind most tray)

-- give TRAY
unfoldable pub read_give : List (List ℕ) → Result Request Kind
read_give args = do
  part ← or_fault (one_part args) Form
  tray ← tray_or_fault part
  Ok (requests.Give tray)

-- join TRAY TRAY
unfoldable pub read_join : List (List ℕ) → Result Request Kind
read_join args = do
  parts ← or_fault (two_parts args) Form
  into ← tray_or_fault parts.0
  other ← tray_or_fault parts.1
  Ok (requests.Join into other)

-- idle N
unfoldable pub read_idle : List (List ℕ) → Result Request Kind
read_idle args = do
  part ← or_fault (one_part args) Form
  words ← number_or_fault part
  Ok (requests.Idle words)

-- resize WORDS
unfoldable pub read_resize : List (List ℕ) → Result Request Kind
read_resize args = do
  part ← or_fault (one_part args) Form
  words ← number_or_fault part
  Ok (requests.Resize words)

-- tickets N
unfoldable pub read_tickets : List (List ℕ) → Result Request Kind
read_tickets args = do
  part ← or_fault (one_part args) Form
  tickets ← number_or_fault part
  Ok (requests.Tickets tickets)

-- unwatch T
unfoldable pub read_unwatch : List (List ℕ) → Result Request Kind
read_unwatch args = do
  part ← or_fault (one_part args) Form
  ticket ← number_or_fault part
  Ok (requests.Unwatch ticket)

-- the request of a line that asks what is there
unfoldable pub listing_request : List ℕ → List (List ℕ) → Result Request Kind
listing_request keyword args =
    if bytes_eq keyword (codes "trays") then alone args requests.Trays
    else if bytes_eq keyword (codes "stat") then alone args requests.Stat
    else if bytes_eq keyword (codes "dump") then alone args requests.Dump
    else Err Word

-- the request of a line of watches, or else of a line that asks what is there
unfoldable pub watching_request : List ℕ → List (List ℕ) → Result Request Kind
watching_request keyword args =
    if bytes_eq keyword (codes "tickets") then read_tickets args
    else if bytes_eq keyword (codes "unwatch") then read_unwatch args
    else if bytes_eq keyword (codes "gone") then alone args requests.Gone
    else listing_request keyword args

-- the request of a line that begins with its keyword
unfoldable pub keyword_request : List ℕ → List (List ℕ) → Result Request Kind
keyword_request keyword args =
    if bytes_eq keyword (codes "begin") then alone args requests.Begin
    else if bytes_eq keyword (codes "shade") then read_shade args
    else if bytes_eq keyword (codes "deal") then read_deal args
    else if bytes_eq keyword (codes "give") then read_give args
    else if bytes_eq keyword (codes "join") then read_join args
    else if bytes_eq keyword (codes "flip") then alone args requests.Flip
    else if bytes_eq keyword (codes "recall") then alone args requests.Recall
    else if bytes_eq keyword (codes "abandon") then alone args requests.Abandon
    else if bytes_eq keyword (codes "idle") then read_idle args
    else if bytes_eq keyword (codes "resize") then read_resize args
    else watching_request keyword args

-- OWNER watch ROOT
unfoldable pub read_watch : List ℕ → List (List ℕ) → Result Request Kind
read_watch owner args = do
  part ← or_fault (one_part args) Form
  owner ← number_or_fault owner
  root ← root_or_fault part
  Ok (requests.Watch owner root)

-- the request of a line that begins with an owner: a watch or a command, by the keyword after it
unfoldable pub owned_request : List ℕ → List (List ℕ) → Result Request Kind
owned_request owner [] = Err Form
owned_request owner (keyword ∷ args) =
    if bytes_eq keyword (codes "watch") then read_watch owner args
    else
    (command_or_fault owner (keyword ∷ args)
    >>= λ owned. Ok (requests.Command owned.0 owned.1))

-- the request of a line after the first, by the keyword after its owner where it begins with one,
-- and else by its first part
unfoldable pub request_of_parts : List (List ℕ) → Result Request Kind
request_of_parts [] = Err Form
request_of_parts (first ∷ rest) =
    if begins_with_digit first then owned_request first rest else keyword_request first rest

-- WORDS RATIO LOG OWNERS SLOTS
unfoldable pub sizes_of : List ℕ → List ℕ → List ℕ → List ℕ → List ℕ
    → Result declared.Header.Header Kind
sizes_of words ratio log owners slots = do
  words ← number_or_fault words
  ratio ← number_or_fault ratio
  log ← number_or_fault log
  owners ← number_or_fault owners
  slots ← number_or_fault slots
  Ok (record { words = words; ratio = ratio; log = log; owners = owners; slots = slots })

-- heap WORDS RATIO LOG OWNERS SLOTS
unfoldable pub header_of_parts : List (List ℕ) → Result declared.Header.Header Kind
header_of_parts parts = do
  six ← or_fault (six_parts parts) Header
  if bytes_eq six.0 (codes "heap") then sizes_of six.1 six.2 six.3 six.4 six.5 else Err Header

-- the parts of the raw line of this number, where it is within the limits, ended and well formed
unfoldable pub checked_parts : ℕ → RawLine → Result (List (List ℕ)) Kind
checked_parts number line =
    if nat_lt 1048576 number || nat_lt 256 (length line.bytes) then Err Long
    else if not line.ended then Err Cut
    else if not (is_formed line.bytes) then Err Form
    else Ok (parts_of line.bytes)

-- the request of a raw line after the first, by its limits, its form and its parts
unfoldable pub request_or_kind : ℕ → RawLine → Result Request Kind
request_or_kind number line = do
  parts ← checked_parts number line
  request_of_parts parts

-- the first raw line, by its limits, its form and its parts
unfoldable pub header_or_kind : RawLine → Result declared.Header.Header Kind
header_or_kind line = do
  parts ← checked_parts 1 line
  header_of_parts parts

-- the fault of the line of this number
abbrev pub fault_at : ℕ → Kind → TraceFault
fault_at number kind = record { line = number; kind = kind }

-- the request of a raw line after the first, its fault named with the line
abbrev pub request_or_fault : ℕ → RawLine → Result Request TraceFault
request_or_fault number line = with_fault (fault_at number) (request_or_kind number line)

-- the first raw line, its fault named with the line
abbrev pub header_or_fault : RawLine → Result declared.Header.Header TraceFault
header_or_fault line = with_fault (fault_at 1) (header_or_kind line)

-- the requests of the lines from this number on
unfoldable pub requests_from : ℕ → List RawLine → Result (List Request) TraceFault
requests_from number [] = Ok []
requests_from number (line ∷ lines) = do
  first ← request_or_fault number line
  others ← requests_from (number + 1) lines
  Ok (first ∷ others)

-- the header, and then the requests of the lines after it
unfoldable pub script_or_fault : List RawLine → Result Script TraceFault
script_or_fault [] = Err (fault_at 1 Empty)
script_or_fault (line ∷ lines) = do
  header ← header_or_fault line
  requests ← requests_from 2 lines
  Ok (record { header = header; requests = requests })

-- the trace that the text spells, or its first fault
abbrev pub trace_of : List ℕ → Result Script TraceFault
trace_of bytes = script_or_fault (lines_of bytes)
