-- What a trace is, and the one spelling of each.
use Rattle.std.specs.Prelude.{ℕ, ◌<◌, List, [], ◌∷◌, ◌++◌, length, codes, decimal, ⊤}
use Rattle.std.specs.Fmt.{signed_decimal}
use Rattle.std.specs.List.{flat_map, join_with_byte, AllByRecursion}
use Rattle.rh_layout.specs.declared.command.Command.{Command}
use Rattle.rh_layout.specs.declared.command.Command.TheVariants.{Alloc, Raw, Load, Store, Copy, Same, Drop}
use Rattle.rh_layout.specs.declared.command.Operand.{Operand}
use Rattle.rh_layout.specs.declared.command.Operand.TheVariants as operands
use Rattle.rh_layout.specs.declared.kind.Kind.{Kind}
use Rattle.rh_layout.specs.declared.kind.Kind.TheVariants.{Copies, Entries}
use Rattle.rh_text.specs.Number.{IsU32, IsI64}
use Rattle.rh_text.specs.Parts.{spell_parts}
use Rattle.rh_text.specs.Root.{root_text, RootFits}
use Rattle.rh_syntax.specs.TrayName.{IsTrayName}
use Rattle.rh_syntax.specs.declared.line.Header.{Header}
use Rattle.rh_syntax.specs.declared.request.Request.{Request}
use Rattle.rh_syntax.specs.declared.request.Request.TheVariants as requests

-- a trace without where it lies in memory: the first line's numbers, and the requests of the lines
-- after it
pub record Script : Type 0 where
  pub header : Header
  pub requests : List Request

-- nil, a whole number, or OWNER.SLOT
abbrev pub operand_text : Operand → List ℕ
operand_text operands.Nil = codes "nil"
operand_text (operands.Int n) = signed_decimal n
operand_text (operands.Root root) = root_text root

-- the parts of a command line
abbrev pub command_parts : ℕ → Command → List (List ℕ)
command_parts owner (Alloc dst fields) =
    decimal owner ∷ codes "alloc" ∷ root_text dst ∷ decimal fields ∷ []
command_parts owner (Raw dst fields) =
    decimal owner ∷ codes "raw" ∷ root_text dst ∷ decimal fields ∷ []
command_parts owner (Load dst src field) =
    decimal owner ∷ codes "load" ∷ root_text dst ∷ root_text src ∷ decimal field ∷ []
command_parts owner (Store obj field operand) =
    decimal owner ∷ codes "store" ∷ root_text obj ∷ decimal field ∷ operand_text operand ∷ []
command_parts owner (Copy dst src) =
    decimal owner ∷ codes "copy" ∷ root_text dst ∷ root_text src ∷ []
command_parts owner (Same a b) = decimal owner ∷ codes "same" ∷ root_text a ∷ root_text b ∷ []
command_parts owner (Drop root) = decimal owner ∷ codes "drop" ∷ root_text root ∷ []

-- what is dealt
abbrev pub kind_text : Kind → List ℕ
kind_text Copies = codes "copies"
kind_text Entries = codes "entries"

-- the parts of a request's line
abbrev pub request_parts : Request → List (List ℕ)
request_parts (requests.Command owner command) = command_parts owner command
request_parts requests.Begin = codes "begin" ∷ []
request_parts (requests.Shade root) = codes "shade" ∷ root_text root ∷ []
request_parts (requests.Deal kind most tray) =
    codes "deal" ∷ kind_text kind ∷ decimal most ∷ tray ∷ []
request_parts (requests.Give tray) = codes "give" ∷ tray ∷ []
request_parts (requests.Join into other) = codes "join" ∷ into ∷ other ∷ []
request_parts requests.Flip = codes "flip" ∷ []
request_parts requests.Recall = codes "recall" ∷ []
request_parts requests.Abandon = codes "abandon" ∷ []
request_parts (requests.Idle words) = codes "idle" ∷ decimal words ∷ []
request_parts (requests.Resize words) = codes "resize" ∷ decimal words ∷ []
request_parts (requests.Tickets tickets) = codes "tickets" ∷ decimal tickets ∷ []
request_parts (requests.Watch owner root) =
    decimal owner ∷ codes "watch" ∷ root_text root ∷ []
request_parts (requests.Unwatch ticket) = codes "unwatch" ∷ decimal ticket ∷ []
request_parts requests.Gone = codes "gone" ∷ []
request_parts requests.Trays = codes "trays" ∷ []
request_parts requests.Stat = codes "stat" ∷ []
request_parts requests.Dump = codes "dump" ∷ []

-- the parts of the first line
abbrev pub header_parts : Header → List (List ℕ)
header_parts header =
    codes "heap" ∷ decimal header.words ∷ decimal header.ratio ∷ decimal header.log
    ∷ decimal header.owners ∷ decimal header.slots ∷ []

-- the text of a command line, without its line end
abbrev pub command_text : ℕ → Command → List ℕ
command_text owner command = join_with_byte 32 (command_parts owner command)

-- the text of a command line
abbrev pub spell_command : ℕ → Command → List ℕ
spell_command owner command = spell_parts (command_parts owner command)

-- the text of a request's line, without its line end
abbrev pub request_text : Request → List ℕ
request_text request = join_with_byte 32 (request_parts request)

-- the text of a request's line
abbrev pub spell_request : Request → List ℕ
spell_request request = spell_parts (request_parts request)

-- the text of the first line
abbrev pub spell_header : Header → List ℕ
spell_header header = spell_parts (header_parts header)

-- the text of a trace
abbrev pub spelling : Script → List ℕ
spelling script = spell_header script.header ++ flat_map spell_request script.requests

-- nil, a whole number of 64 bits, or a root whose numbers are below 2^32
abbrev pub OperandFits : Operand → Type 0
OperandFits operands.Nil = ⊤
OperandFits (operands.Int n) = IsI64 n
OperandFits (operands.Root root) = RootFits root

-- an owner and a command whose numbers are below 2^32, and an operand's whole number of 64 bits
abbrev pub CommandFits : ℕ → Command → Type 0
CommandFits owner (Alloc dst fields) = IsU32 owner × RootFits dst × IsU32 fields
CommandFits owner (Raw dst fields) = IsU32 owner × RootFits dst × IsU32 fields
CommandFits owner (Load dst src field) = IsU32 owner × RootFits dst × RootFits src × IsU32 field
CommandFits owner (Store obj field operand) =
    IsU32 owner × RootFits obj × IsU32 field × OperandFits operand
CommandFits owner (Copy dst src) = IsU32 owner × RootFits dst × RootFits src
CommandFits owner (Same a b) = IsU32 owner × RootFits a × RootFits b
CommandFits owner (Drop root) = IsU32 owner × RootFits root

-- what a request names fits: an owner and a command that do, roots and numbers of items, of words
-- and of tickets that are below 2^32, and names of trays
abbrev pub RequestFits : Request → Type 0
RequestFits (requests.Command owner command) = CommandFits owner command
RequestFits requests.Begin = ⊤
RequestFits (requests.Shade root) = RootFits root
RequestFits (requests.Deal kind most tray) = IsU32 most × IsTrayName tray
RequestFits (requests.Give tray) = IsTrayName tray
RequestFits (requests.Join into other) = IsTrayName into × IsTrayName other
RequestFits requests.Flip = ⊤
RequestFits requests.Recall = ⊤
RequestFits requests.Abandon = ⊤
RequestFits (requests.Idle words) = IsU32 words
RequestFits (requests.Resize words) = IsU32 words
RequestFits (requests.Tickets tickets) = IsU32 tickets
RequestFits (requests.Watch owner root) = IsU32 owner × RootFits root
RequestFits (requests.Unwatch ticket) = IsU32 ticket
RequestFits requests.Gone = ⊤
RequestFits requests.Trays = ⊤
RequestFits requests.Stat = ⊤
RequestFits requests.Dump = ⊤

-- a first line whose numbers have 32 bits
abbrev pub HeaderFits : Header → Type 0
HeaderFits header =
    IsU32 header.words × IsU32 header.ratio × IsU32 header.log × IsU32 header.owners
    × IsU32 header.slots

-- what has a spelling: requests and a header whose numbers fit, and at most 1,048,576 lines with
-- the first
pub record IsScript (script : Script) : Type 0 where
  pub header : HeaderFits script.header
  pub requests : AllByRecursion RequestFits script.requests
  pub few : length script.requests < 1048576
