-- What a trace is spelled as is read as that trace.
use Rattle.std.proofs.Common.{◌≡◌, ℕ, ℤ, pos, negsuc, suc, ◌+◌, ◌^◌, ◌<◌, ◌≤◌, Bool, true, false, inl, inr, cond, leb, ltb, eqb, not, List, [], ◌∷◌, ◌++◌, length, Option, Result, Ok, Err, refl, sym, ap, subst, ◌∙◌, append_assoc, arith}
use Rattle.std.specs.Prelude.{codes, decimal}
use Rattle.std.specs.Fmt.{signed_decimal}
use Rattle.std.specs.List.{flat_map, join_with_byte, AllByRecursion, list_all}
use Rattle.std.specs.Str.{bytes_eq}
use Rattle.std.proofs.lemmas.Bool.{false≢true, false_from_ne_true, or_right, and_parts, and_from, leb-true, le-ltb, ne_eqb, or_from}
use Rattle.std.proofs.lemmas.List.Folds.{list_any-append}
use Rattle.std.proofs.lemmas.Slice.Eq.{bytes_eq-Decides}
use Rattle.rh_layout.specs.declared.command.Command.{Command}
use Rattle.rh_layout.specs.declared.command.Command.TheVariants.{Alloc, Raw, Load, Store, Copy, Same, Drop}
use Rattle.rh_layout.specs.declared.command.Operand.{Operand}
use Rattle.rh_layout.specs.declared.command.Operand.TheVariants as operands
use Rattle.rh_layout.specs.declared.command.RootId.{RootId}
use Rattle.rh_layout.specs.declared.kind.Kind as pieces
use Rattle.rh_layout.specs.declared.kind.Kind.TheVariants.{Copies, Entries}
use Rattle.rh_text.specs.Number.{IsU32, IsI64}
use Rattle.rh_text.specs.Parts.{parts_of, is_filled, is_formed, has_dot, begins_with_digit, spell_parts, one_part, two_parts, three_parts, six_parts}
use Rattle.rh_text.specs.RawLine.{lines_of}
use Rattle.rh_text.specs.Root.{root_text, RootFits}
use Rattle.rh_text.specs.Steps.{◌>>=◌, or_fault, with_fault}
use Rattle.rh_text.specs.lemmas.Integers.{i64_size, integer_of-decimal}
use Rattle.rh_text.specs.lemmas.Numbers.{number_of-decimal}
use Rattle.rh_text.specs.lemmas.Roots.{root_of-text, root_part}
use Rattle.rh_text.specs.lemmas.Joins.{IsPart, is_glyph, is_decimal_digit, bounds, within, filled-decimal, decimal_digits, wide_digits, wide_filled, number_part, integer_part, parts_of-join, printable-join, length-join, is_formed-join, ended_line, lines_of-prefix}
use Rattle.rh_syntax.specs.declared.fault.Kind.{Kind}
use Rattle.rh_syntax.specs.declared.fault.Kind.TheVariants.{Long, Form, Word, Number, Root, Tray}
use Rattle.rh_syntax.specs.declared.fault.TraceFault.{TraceFault}
use Rattle.rh_syntax.specs.declared.line as declared
use Rattle.rh_syntax.specs.declared.request.Request.{Request}
use Rattle.rh_syntax.specs.declared.request.Request.TheVariants as requests
use Rattle.rh_syntax.specs.TrayName.{IsNameByte, IsTrayName}
use Rattle.rh_syntax.specs.Spelling.{Script, operand_text, kind_text, command_parts, command_text, request_parts, header_parts, spell_request, spelling, OperandFits, CommandFits, RequestFits, HeaderFits, IsScript}
use Rattle.rh_syntax.specs.Reading.{number_or_fault, integer_or_fault, root_or_fault, operand_or_fault, tray_or_fault, kind_or_fault, read_alloc, read_raw, read_load, read_store, read_copy, read_same, read_drop, command_or_fault, owned_command, single_command, read_shade, read_deal, read_give, read_join, read_idle, read_resize, read_tickets, read_unwatch, listing_request, watching_request, keyword_request, read_watch, owned_request, request_of_parts, sizes_of, header_of_parts, checked_parts, fault_at, request_or_kind, header_or_kind, request_or_fault, header_or_fault, requests_from, script_or_fault, trace_of}
use Rattle.rh_syntax.specs.lemmas.TrayNames.{read-from_name}

-- ---- what the parts of a spelled line are like

-- the parts of a line: a first one, and at most ten more
pub record AreParts (first : List ℕ) (others : List (List ℕ)) : Type 0 where
  pub each : AllByRecursion IsPart (first ∷ others)
  pub few : length others ≤ 10

operand_part : (operand : Operand) → OperandFits operand → IsPart (operand_text operand)
operand_part operands.Nil fits = record { filled = refl; glyphs = refl; short = omega arith }
operand_part (operands.Int n) fits = integer_part n fits
operand_part (operands.Root root) fits = root_part root fits

keyword_part : (keyword : List ℕ) → is_filled keyword ≡ true → list_all is_glyph keyword ≡ true → leb (length keyword) 21 ≡ true → IsPart keyword
keyword_part keyword filled glyphs short = record { filled = filled; glyphs = glyphs; short = leb-true (length keyword) 21 short }

kind_part : (kind : pieces.Kind) → IsPart (kind_text kind)
kind_part Copies = keyword_part (codes "copies") refl refl refl
kind_part Entries = keyword_part (codes "entries") refl refl refl

is_glyph-name_byte : (b : ℕ) → IsNameByte b → is_glyph b ≡ true
is_glyph-name_byte b (inl h) = within 33 126 b (omega (arith, h.0)) (omega (arith, h.1))
is_glyph-name_byte b (inr (inl h)) = within 33 126 b (omega (arith, h.0)) (omega (arith, h.1))
is_glyph-name_byte b (inr (inr h)) = within 33 126 b (omega (arith, h)) (omega (arith, h))

glyphs-name_bytes : (bytes : List ℕ) → AllByRecursion IsNameByte bytes → list_all is_glyph bytes ≡ true
glyphs-name_bytes [] h = refl
glyphs-name_bytes (b ∷ bytes) h = and_from (is_glyph b) (list_all is_glyph bytes) (is_glyph-name_byte b h.0) (glyphs-name_bytes bytes h.1)

tray_part : (name : List ℕ) → IsTrayName name → IsPart name
tray_part [] h = absurd h
tray_part (first ∷ rest) h = record {
  filled = refl;
  glyphs = glyphs-name_bytes (first ∷ rest) (inl h.0, h.2);
  short = omega (arith, h.1);
}

pub checked_parts-join : (number : ℕ) (first : List ℕ) (others : List (List ℕ)) → number ≤ 1048576 → AreParts first others → checked_parts number (ended_line (join_with_byte 32 (first ∷ others))) ≡ Ok (first ∷ others)
unfolding checked_parts
checked_parts-join number first others small are =
    let line = join_with_byte 32 (first ∷ others) in
    let early : ltb 1048576 number ≡ false = le-ltb 1048576 number small in
    let short : ltb 256 (length line) ≡ false = le-ltb 256 (length line) (omega (arith, length-join first others are.each, are.few)) in
    let read : Result (List (List ℕ)) Kind = cond (not (is_formed line)) (Err Form) (Ok (parts_of line)) in
    ap (λ (t : Bool). cond t (Err Long) read) (or_from (ltb 1048576 number) (ltb 256 (length line)) early short)
    ∙ ap (λ (t : Bool). cond (not t) (Err Form) (Ok (parts_of line))) (is_formed-join first others are.each)
    ∙ ap (λ (ps : List (List ℕ)). Ok ps) (parts_of-join first others are.each)

-- ---- numbers, roots, names of trays, lines and the header

number_or_fault-decimal : (n : ℕ) → IsU32 n → number_or_fault (decimal n) ≡ Ok n
number_or_fault-decimal n small = ap (λ (o : Option ℕ). or_fault o Number) (number_of-decimal n small)

root_or_fault-text : (root : RootId) → RootFits root → root_or_fault (root_text root) ≡ Ok root
root_or_fault-text root fits = ap (λ (o : Option RootId). or_fault o Root) (root_of-text root fits)

tray_or_fault-name : (name : List ℕ) → IsTrayName name → tray_or_fault name ≡ Ok name
tray_or_fault-name name fits = ap (λ (o : Option (List ℕ)). or_fault o Tray) (read-from_name name fits)

kind_or_fault-text : (kind : pieces.Kind) → kind_or_fault (kind_text kind) ≡ Ok kind
unfolding kind_or_fault
kind_or_fault-text Copies = refl
kind_or_fault-text Entries = refl

pub starts_with_digit : (digits : List ℕ) → is_filled digits ≡ true → list_all is_decimal_digit digits ≡ true → begins_with_digit digits ≡ true
starts_with_digit [] h k = absurd (cc)
starts_with_digit (d ∷ digits) h k = (and_parts (is_decimal_digit d) (list_all is_decimal_digit digits) k).0

-- operands
not_nil : (part : List ℕ) → begins_with_digit part ≡ true → bytes_eq part (codes "nil") ≡ false
not_nil part digit = false_from_ne_true (bytes_eq part (codes "nil")) (λ e. false≢true (ap begins_with_digit (sym ((bytes_eq-Decides part (codes "nil")).0 e)) ∙ digit))

pub begins_with_digit-append : (digits rest : List ℕ) → begins_with_digit digits ≡ true → begins_with_digit (digits ++ rest) ≡ true
begins_with_digit-append [] rest h = absurd cc
begins_with_digit-append (d ∷ digits) rest h = h

not_nil-integer : (n : ℤ) → IsI64 n → bytes_eq (signed_decimal n) (codes "nil") ≡ false
not_nil-integer (pos k) fits =
    let small : k < 2 ^ 64 = omega (arith, i64_size (pos k) fits) in
    not_nil (decimal k) (starts_with_digit (decimal k) (wide_filled k small) (wide_digits k small))
not_nil-integer (negsuc k) fits = refl

not_nil-root : (root : RootId) → RootFits root → bytes_eq (root_text root) (codes "nil") ≡ false
not_nil-root root fits =
    not_nil (root_text root) (begins_with_digit-append (decimal root.owner) (46 ∷ decimal root.slot) (starts_with_digit (decimal root.owner) (filled-decimal root.owner fits.0) (decimal_digits root.owner fits.0)))

has_dot-digits : (digits : List ℕ) → list_all is_decimal_digit digits ≡ true → has_dot digits ≡ false
has_dot-digits [] h = refl
has_dot-digits (d ∷ digits) h =
    let p = and_parts (is_decimal_digit d) (list_all is_decimal_digit digits) h in
    or_from (eqb d 46) (has_dot digits) (ne_eqb d 46 (λ e. omega (arith, (bounds 48 57 d p.0).0, e))) (has_dot-digits digits p.1)

has_dot-integer : (n : ℤ) → IsI64 n → has_dot (signed_decimal n) ≡ false
has_dot-integer (pos k) fits = has_dot-digits (decimal k) (wide_digits k (omega (arith, i64_size (pos k) fits)))
has_dot-integer (negsuc k) fits = has_dot-digits (decimal (suc k)) (wide_digits (suc k) (omega (arith, i64_size (negsuc k) fits)))

has_dot-root : (root : RootId) → has_dot (root_text root) ≡ true
has_dot-root root = list_any-append (λ b. eqb b 46) (decimal root.owner) (46 ∷ decimal root.slot) ∙ or_right (has_dot (decimal root.owner)) true refl

integer_or_fault-decimal : (n : ℤ) → IsI64 n → integer_or_fault (signed_decimal n) ≡ Ok n
integer_or_fault-decimal n fits = ap (λ (o : Option ℤ). or_fault o Number) (integer_of-decimal n fits)

operand_or_fault-text : (operand : Operand) → OperandFits operand → operand_or_fault (operand_text operand) ≡ Ok operand
unfolding operand_or_fault
operand_or_fault-text operands.Nil fits = refl
operand_or_fault-text (operands.Int n) fits = rw (not_nil-integer n fits, has_dot-integer n fits, integer_or_fault-decimal n fits) refl
operand_or_fault-text (operands.Root root) fits = rw (not_nil-root root fits, has_dot-root root, root_or_fault-text root fits) refl

pub owned_command-decimal : (owner : ℕ) (rest : List (List ℕ)) → IsU32 owner → owned_command (decimal owner ∷ rest) ≡ command_or_fault (decimal owner) rest
unfolding owned_command
owned_command-decimal owner rest small =
    ap (λ (t : Bool). cond t (command_or_fault (decimal owner) rest) (Err Word)) (starts_with_digit (decimal owner) (filled-decimal owner small) (decimal_digits owner small))

alloc-read : (owner : ℕ) (dst : RootId) (fields : ℕ) → CommandFits owner (Alloc dst fields) → command_or_fault (decimal owner) (codes "alloc" ∷ root_text dst ∷ decimal fields ∷ []) ≡ Ok (owner, Alloc dst fields)
unfolding command_or_fault read_alloc two_parts
alloc-read owner dst fields fits = rw (number_or_fault-decimal owner fits.0, root_or_fault-text dst fits.1, number_or_fault-decimal fields fits.2) refl

raw-read : (owner : ℕ) (dst : RootId) (fields : ℕ) → CommandFits owner (Raw dst fields) → command_or_fault (decimal owner) (codes "raw" ∷ root_text dst ∷ decimal fields ∷ []) ≡ Ok (owner, Raw dst fields)
unfolding command_or_fault read_raw two_parts
raw-read owner dst fields fits = rw (number_or_fault-decimal owner fits.0, root_or_fault-text dst fits.1, number_or_fault-decimal fields fits.2) refl

load-read : (owner : ℕ) (dst src : RootId) (field : ℕ) → CommandFits owner (Load dst src field) → command_or_fault (decimal owner) (codes "load" ∷ root_text dst ∷ root_text src ∷ decimal field ∷ []) ≡ Ok (owner, Load dst src field)
unfolding command_or_fault read_load three_parts
load-read owner dst src field fits = rw (number_or_fault-decimal owner fits.0, root_or_fault-text dst fits.1, root_or_fault-text src fits.2, number_or_fault-decimal field fits.3) refl

store-read : (owner : ℕ) (obj : RootId) (field : ℕ) (operand : Operand) → CommandFits owner (Store obj field operand) → command_or_fault (decimal owner) (codes "store" ∷ root_text obj ∷ decimal field ∷ operand_text operand ∷ []) ≡ Ok (owner, Store obj field operand)
unfolding command_or_fault read_store three_parts
store-read owner obj field operand fits = rw (number_or_fault-decimal owner fits.0, root_or_fault-text obj fits.1, number_or_fault-decimal field fits.2, operand_or_fault-text operand fits.3) refl

copy-read : (owner : ℕ) (dst src : RootId) → CommandFits owner (Copy dst src) → command_or_fault (decimal owner) (codes "copy" ∷ root_text dst ∷ root_text src ∷ []) ≡ Ok (owner, Copy dst src)
unfolding command_or_fault read_copy two_parts
copy-read owner dst src fits = rw (number_or_fault-decimal owner fits.0, root_or_fault-text dst fits.1, root_or_fault-text src fits.2) refl

same-read : (owner : ℕ) (a b : RootId) → CommandFits owner (Same a b) → command_or_fault (decimal owner) (codes "same" ∷ root_text a ∷ root_text b ∷ []) ≡ Ok (owner, Same a b)
unfolding command_or_fault read_same two_parts
same-read owner a b fits = rw (number_or_fault-decimal owner fits.0, root_or_fault-text a fits.1, root_or_fault-text b fits.2) refl

drop-read : (owner : ℕ) (root : RootId) → CommandFits owner (Drop root) → command_or_fault (decimal owner) (codes "drop" ∷ root_text root ∷ []) ≡ Ok (owner, Drop root)
unfolding command_or_fault read_drop one_part
drop-read owner root fits = rw (number_or_fault-decimal owner fits.0, root_or_fault-text root fits.1) refl

-- the parts of a command line are parts, and the command is read from them
pub record IsReadFrom (owner : ℕ) (command : Command) : Type 0 where
  pub first : List ℕ
  pub others : List (List ℕ)
  pub spelled : command_parts owner command ≡ first ∷ others
  pub are : AreParts first others
  pub read : owned_command (first ∷ others) ≡ Ok (owner, command)

pub command-read : (owner : ℕ) (command : Command) → CommandFits owner command → IsReadFrom owner command
command-read owner (Alloc dst fields) fits = record {
  first = decimal owner;
  others = codes "alloc" ∷ root_text dst ∷ decimal fields ∷ [];
  spelled = refl;
  are = record { each = (number_part owner fits.0, (keyword_part (codes "alloc") refl refl refl, (root_part dst fits.1, (number_part fields fits.2, tt)))); few = omega arith };
  read = owned_command-decimal owner (codes "alloc" ∷ root_text dst ∷ decimal fields ∷ []) fits.0 ∙ alloc-read owner dst fields fits;
}
command-read owner (Raw dst fields) fits = record {
  first = decimal owner;
  others = codes "raw" ∷ root_text dst ∷ decimal fields ∷ [];
  spelled = refl;
  are = record { each = (number_part owner fits.0, (keyword_part (codes "raw") refl refl refl, (root_part dst fits.1, (number_part fields fits.2, tt)))); few = omega arith };
  read = owned_command-decimal owner (codes "raw" ∷ root_text dst ∷ decimal fields ∷ []) fits.0 ∙ raw-read owner dst fields fits;
}
command-read owner (Load dst src field) fits = record {
  first = decimal owner;
  others = codes "load" ∷ root_text dst ∷ root_text src ∷ decimal field ∷ [];
  spelled = refl;
  are = record { each = (number_part owner fits.0, (keyword_part (codes "load") refl refl refl, (root_part dst fits.1, (root_part src fits.2, (number_part field fits.3, tt))))); few = omega arith };
  read = owned_command-decimal owner (codes "load" ∷ root_text dst ∷ root_text src ∷ decimal field ∷ []) fits.0 ∙ load-read owner dst src field fits;
}
command-read owner (Store obj field operand) fits = record {
  first = decimal owner;
  others = codes "store" ∷ root_text obj ∷ decimal field ∷ operand_text operand ∷ [];
  spelled = refl;
  are = record { each = (number_part owner fits.0, (keyword_part (codes "store") refl refl refl, (root_part obj fits.1, (number_part field fits.2, (operand_part operand fits.3, tt))))); few = omega arith };
  read = owned_command-decimal owner (codes "store" ∷ root_text obj ∷ decimal field ∷ operand_text operand ∷ []) fits.0 ∙ store-read owner obj field operand fits;
}
command-read owner (Copy dst src) fits = record {
  first = decimal owner;
  others = codes "copy" ∷ root_text dst ∷ root_text src ∷ [];
  spelled = refl;
  are = record { each = (number_part owner fits.0, (keyword_part (codes "copy") refl refl refl, (root_part dst fits.1, (root_part src fits.2, tt)))); few = omega arith };
  read = owned_command-decimal owner (codes "copy" ∷ root_text dst ∷ root_text src ∷ []) fits.0 ∙ copy-read owner dst src fits;
}
command-read owner (Same a b) fits = record {
  first = decimal owner;
  others = codes "same" ∷ root_text a ∷ root_text b ∷ [];
  spelled = refl;
  are = record { each = (number_part owner fits.0, (keyword_part (codes "same") refl refl refl, (root_part a fits.1, (root_part b fits.2, tt)))); few = omega arith };
  read = owned_command-decimal owner (codes "same" ∷ root_text a ∷ root_text b ∷ []) fits.0 ∙ same-read owner a b fits;
}
command-read owner (Drop root) fits = record {
  first = decimal owner;
  others = codes "drop" ∷ root_text root ∷ [];
  spelled = refl;
  are = record { each = (number_part owner fits.0, (keyword_part (codes "drop") refl refl refl, (root_part root fits.1, tt))); few = omega arith };
  read = owned_command-decimal owner (codes "drop" ∷ root_text root ∷ []) fits.0 ∙ drop-read owner root fits;
}

-- a single line
pub single_command-text : (owner : ℕ) (command : Command) → CommandFits owner command → single_command (command_text owner command) ≡ Ok (owner, command)
unfolding single_command
single_command-text owner command fits =
    let a = command-read owner command fits in
    let line = join_with_byte 32 (a.first ∷ a.others) in
    ap (λ (ps : List (List ℕ)). single_command (join_with_byte 32 ps)) a.spelled
    ∙ ap (λ (t : Bool). cond (not t) (Err Form) (owned_command (parts_of line))) (is_formed-join a.first a.others a.are.each)
    ∙ ap owned_command (parts_of-join a.first a.others a.are.each)
    ∙ a.read

-- the keyword of a command isn't `watch`
no_watch : (first word : List ℕ) (args : List (List ℕ)) (owner : ℕ) (command : Command) → word ≡ codes "watch" → command_or_fault first (word ∷ args) ≡ Ok (owner, command) → ⊥
unfolding command_or_fault
no_watch first word args owner command is e =
    let watched : command_or_fault first (codes "watch" ∷ args) ≡ Ok (owner, command) = subst (λ (w : List ℕ). command_or_fault first (w ∷ args) ≡ Ok (owner, command)) is e in
    absurd cc

by_watch : (t : Bool) (first word : List ℕ) (args : List (List ℕ)) (owner : ℕ) (command : Command) → (t ≡ true → word ≡ codes "watch") → command_or_fault first (word ∷ args) ≡ Ok (owner, command)
    → cond t (read_watch first args) (command_or_fault first (word ∷ args) >>= λ o. Ok (requests.Command o.0 o.1)) ≡ Ok (requests.Command owner command)
by_watch true first word args owner command is e = absurd (no_watch first word args owner command (is refl) e)
by_watch false first word args owner command is e = ap (λ (r : Result (ℕ × Command) Kind). r >>= λ o. Ok (requests.Command o.0 o.1)) e

no_rest : (first : List ℕ) (owner : ℕ) (command : Command) → command_or_fault first [] ≡ Ok (owner, command) → ⊥
unfolding command_or_fault
no_rest first owner command e = absurd cc

owned_request-command : (first : List ℕ) (rest : List (List ℕ)) (owner : ℕ) (command : Command) → command_or_fault first rest ≡ Ok (owner, command) → owned_request first rest ≡ Ok (requests.Command owner command)
unfolding owned_request
owned_request-command first [] owner command e = absurd (no_rest first owner command e)
owned_request-command first (word ∷ args) owner command e = by_watch (bytes_eq word (codes "watch")) first word args owner command (bytes_eq-Decides word (codes "watch")).0 e

-- the request of a command that is read after an owner
by_owner : (t : Bool) (first : List ℕ) (rest : List (List ℕ)) (other : Result Request Kind) (owner : ℕ) (command : Command) → cond t (command_or_fault first rest) (Err Word) ≡ Ok (owner, command) → cond t (owned_request first rest) other ≡ Ok (requests.Command owner command)
by_owner true first rest other owner command e = owned_request-command first rest owner command e
by_owner false first rest other owner command e = absurd cc

pub request_of_parts-owned : (first : List ℕ) (rest : List (List ℕ)) (owner : ℕ) (command : Command) → owned_command (first ∷ rest) ≡ Ok (owner, command) → request_of_parts (first ∷ rest) ≡ Ok (requests.Command owner command)
unfolding owned_command request_of_parts
request_of_parts-owned first rest owner command e = by_owner (begins_with_digit first) first rest (keyword_request first rest) owner command e

-- the parts of a request's line are parts, and the request is read from them
record IsRequestReadFrom (request : Request) : Type 0 where
  first : List ℕ
  others : List (List ℕ)
  spelled : request_parts request ≡ first ∷ others
  are : AreParts first others
  read : request_of_parts (first ∷ others) ≡ Ok request

-- a line that is its keyword alone
alone-read : (request : Request) (keyword : List ℕ) → IsPart keyword → request_parts request ≡ keyword ∷ [] → request_of_parts (keyword ∷ []) ≡ Ok request → IsRequestReadFrom request
alone-read request keyword part spelled read = record { first = keyword; others = []; spelled = spelled; are = record { each = (part, tt); few = omega arith }; read = read }

begin-read : request_of_parts (codes "begin" ∷ []) ≡ Ok requests.Begin
unfolding request_of_parts keyword_request
begin-read = refl

shade-read : (root : RootId) → RootFits root → request_of_parts (codes "shade" ∷ root_text root ∷ []) ≡ Ok (requests.Shade root)
unfolding request_of_parts keyword_request read_shade one_part
shade-read root fits = rw (root_or_fault-text root fits) refl

deal-read : (kind : pieces.Kind) (most : ℕ) (tray : List ℕ) → IsU32 most → IsTrayName tray → request_of_parts (codes "deal" ∷ kind_text kind ∷ decimal most ∷ tray ∷ []) ≡ Ok (requests.Deal kind most tray)
unfolding request_of_parts keyword_request read_deal three_parts
deal-read kind most tray small name = rw (kind_or_fault-text kind, number_or_fault-decimal most small, tray_or_fault-name tray name) refl

give-read : (tray : List ℕ) → IsTrayName tray → request_of_parts (codes "give" ∷ tray ∷ []) ≡ Ok (requests.Give tray)
unfolding request_of_parts keyword_request read_give one_part
give-read tray name = rw (tray_or_fault-name tray name) refl

join-read : (into other : List ℕ) → IsTrayName into → IsTrayName other → request_of_parts (codes "join" ∷ into ∷ other ∷ []) ≡ Ok (requests.Join into other)
unfolding request_of_parts keyword_request read_join two_parts
join-read into other name second = rw (tray_or_fault-name into name, tray_or_fault-name other second) refl

flip-read : request_of_parts (codes "flip" ∷ []) ≡ Ok requests.Flip
unfolding request_of_parts keyword_request
flip-read = refl

recall-read : request_of_parts (codes "recall" ∷ []) ≡ Ok requests.Recall
unfolding request_of_parts keyword_request
recall-read = refl

abandon-read : request_of_parts (codes "abandon" ∷ []) ≡ Ok requests.Abandon
unfolding request_of_parts keyword_request
abandon-read = refl

idle-read : (words : ℕ) → IsU32 words → request_of_parts (codes "idle" ∷ decimal words ∷ []) ≡ Ok (requests.Idle words)
unfolding request_of_parts keyword_request read_idle one_part
idle-read words small = rw (number_or_fault-decimal words small) refl

resize-read : (words : ℕ) → IsU32 words → request_of_parts (codes "resize" ∷ decimal words ∷ []) ≡ Ok (requests.Resize words)
unfolding request_of_parts keyword_request read_resize one_part
resize-read words small = rw (number_or_fault-decimal words small) refl

tickets-read : (tickets : ℕ) → IsU32 tickets → request_of_parts (codes "tickets" ∷ decimal tickets ∷ []) ≡ Ok (requests.Tickets tickets)
unfolding request_of_parts keyword_request watching_request read_tickets one_part
tickets-read tickets small = rw (number_or_fault-decimal tickets small) refl

watch-read : (owner : ℕ) (root : RootId) → IsU32 owner → RootFits root → request_of_parts (decimal owner ∷ codes "watch" ∷ root_text root ∷ []) ≡ Ok (requests.Watch owner root)
unfolding request_of_parts owned_request read_watch one_part
watch-read owner root small fits = rw (starts_with_digit (decimal owner) (filled-decimal owner small) (decimal_digits owner small), number_or_fault-decimal owner small, root_or_fault-text root fits) refl

unwatch-read : (ticket : ℕ) → IsU32 ticket → request_of_parts (codes "unwatch" ∷ decimal ticket ∷ []) ≡ Ok (requests.Unwatch ticket)
unfolding request_of_parts keyword_request watching_request read_unwatch one_part
unwatch-read ticket small = rw (number_or_fault-decimal ticket small) refl

gone-read : request_of_parts (codes "gone" ∷ []) ≡ Ok requests.Gone
unfolding request_of_parts keyword_request watching_request
gone-read = refl

trays-read : request_of_parts (codes "trays" ∷ []) ≡ Ok requests.Trays
unfolding request_of_parts keyword_request watching_request listing_request
trays-read = refl

stat-read : request_of_parts (codes "stat" ∷ []) ≡ Ok requests.Stat
unfolding request_of_parts keyword_request watching_request listing_request
stat-read = refl

dump-read : request_of_parts (codes "dump" ∷ []) ≡ Ok requests.Dump
unfolding request_of_parts keyword_request watching_request listing_request
dump-read = refl

request-read : (line : Request) → RequestFits line → IsRequestReadFrom line
request-read (requests.Command owner command) fits =
    let a = command-read owner command fits in
    record {
      first = a.first;
      others = a.others;
      spelled = a.spelled;
      are = a.are;
      read = request_of_parts-owned a.first a.others owner command a.read;
    }
request-read requests.Begin fits = alone-read requests.Begin (codes "begin") (keyword_part (codes "begin") refl refl refl) refl begin-read
request-read (requests.Shade root) fits = record {
  first = codes "shade";
  others = root_text root ∷ [];
  spelled = refl;
  are = record { each = (keyword_part (codes "shade") refl refl refl, (root_part root fits, tt)); few = omega arith };
  read = shade-read root fits;
}
request-read (requests.Deal kind most tray) fits = record {
  first = codes "deal";
  others = kind_text kind ∷ decimal most ∷ tray ∷ [];
  spelled = refl;
  are = record { each = (keyword_part (codes "deal") refl refl refl, (kind_part kind, (number_part most fits.0, (tray_part tray fits.1, tt)))); few = omega arith };
  read = deal-read kind most tray fits.0 fits.1;
}
request-read (requests.Give tray) fits = record {
  first = codes "give";
  others = tray ∷ [];
  spelled = refl;
  are = record { each = (keyword_part (codes "give") refl refl refl, (tray_part tray fits, tt)); few = omega arith };
  read = give-read tray fits;
}
request-read (requests.Join into other) fits = record {
  first = codes "join";
  others = into ∷ other ∷ [];
  spelled = refl;
  are = record { each = (keyword_part (codes "join") refl refl refl, (tray_part into fits.0, (tray_part other fits.1, tt))); few = omega arith };
  read = join-read into other fits.0 fits.1;
}
request-read requests.Flip fits = alone-read requests.Flip (codes "flip") (keyword_part (codes "flip") refl refl refl) refl flip-read
request-read requests.Recall fits = alone-read requests.Recall (codes "recall") (keyword_part (codes "recall") refl refl refl) refl recall-read
request-read requests.Abandon fits = alone-read requests.Abandon (codes "abandon") (keyword_part (codes "abandon") refl refl refl) refl abandon-read
request-read (requests.Idle words) fits = record {
  first = codes "idle";
  others = decimal words ∷ [];
  spelled = refl;
  are = record { each = (keyword_part (codes "idle") refl refl refl, (number_part words fits, tt)); few = omega arith };
  read = idle-read words fits;
}
request-read (requests.Resize words) fits = record {
  first = codes "resize";
  others = decimal words ∷ [];
  spelled = refl;
  are = record { each = (keyword_part (codes "resize") refl refl refl, (number_part words fits, tt)); few = omega arith };
  read = resize-read words fits;
}
request-read (requests.Tickets tickets) fits = record {
  first = codes "tickets";
  others = decimal tickets ∷ [];
  spelled = refl;
  are = record { each = (keyword_part (codes "tickets") refl refl refl, (number_part tickets fits, tt)); few = omega arith };
  read = tickets-read tickets fits;
}
request-read (requests.Watch owner root) fits = record {
  first = decimal owner;
  others = codes "watch" ∷ root_text root ∷ [];
  spelled = refl;
  are = record { each = (number_part owner fits.0, (keyword_part (codes "watch") refl refl refl, (root_part root fits.1, tt))); few = omega arith };
  read = watch-read owner root fits.0 fits.1;
}
request-read (requests.Unwatch ticket) fits = record {
  first = codes "unwatch";
  others = decimal ticket ∷ [];
  spelled = refl;
  are = record { each = (keyword_part (codes "unwatch") refl refl refl, (number_part ticket fits, tt)); few = omega arith };
  read = unwatch-read ticket fits;
}
request-read requests.Gone fits = alone-read requests.Gone (codes "gone") (keyword_part (codes "gone") refl refl refl) refl gone-read
request-read requests.Trays fits = alone-read requests.Trays (codes "trays") (keyword_part (codes "trays") refl refl refl) refl trays-read
request-read requests.Stat fits = alone-read requests.Stat (codes "stat") (keyword_part (codes "stat") refl refl refl) refl stat-read
request-read requests.Dump fits = alone-read requests.Dump (codes "dump") (keyword_part (codes "dump") refl refl refl) refl dump-read

header_parts_are : (h : declared.Header.Header) → HeaderFits h → AreParts (codes "heap") (decimal h.words ∷ decimal h.ratio ∷ decimal h.log ∷ decimal h.owners ∷ decimal h.slots ∷ [])
header_parts_are h fits = record {
  each = (keyword_part (codes "heap") refl refl refl, (number_part h.words fits.0, (number_part h.ratio fits.1, (number_part h.log fits.2, (number_part h.owners fits.3, (number_part h.slots fits.4, tt))))));
  few = omega arith;
}

header_of_parts-spelled : (h : declared.Header.Header) → HeaderFits h → header_of_parts (header_parts h) ≡ Ok h
unfolding header_of_parts six_parts sizes_of
header_of_parts-spelled h fits = rw (number_or_fault-decimal h.words fits.0, number_or_fault-decimal h.ratio fits.1, number_or_fault-decimal h.log fits.2, number_or_fault-decimal h.owners fits.3, number_or_fault-decimal h.slots fits.4) refl

-- ---- the whole text

pub lines_of-parts : (first : List ℕ) (others : List (List ℕ)) (rest : List ℕ) → AreParts first others → lines_of (spell_parts (first ∷ others) ++ rest) ≡ ended_line (join_with_byte 32 (first ∷ others)) ∷ lines_of rest
lines_of-parts first others rest are =
    ap lines_of (append_assoc (join_with_byte 32 (first ∷ others)) (10 ∷ []) rest) ∙ lines_of-prefix (join_with_byte 32 (first ∷ others)) rest (printable-join first others are.each)

pub request_or_fault-join : (number : ℕ) (request : Request) (first : List ℕ) (others : List (List ℕ)) → number ≤ 1048576 → AreParts first others → request_of_parts (first ∷ others) ≡ Ok request → request_or_fault number (ended_line (join_with_byte 32 (first ∷ others))) ≡ Ok request
unfolding request_or_kind
request_or_fault-join number request first others small are read =
    ap (λ (r : Result (List (List ℕ)) Kind). with_fault (fault_at number) (r >>= request_of_parts)) (checked_parts-join number first others small are) ∙ ap (with_fault (fault_at number)) read

requests_from-spelled : (requests : List Request) (number : ℕ) → AllByRecursion RequestFits requests → number + length requests ≤ 1048577 → requests_from number (lines_of (flat_map spell_request requests)) ≡ Ok requests
unfolding requests_from
requests_from-spelled [] number fit few = refl
requests_from-spelled (request ∷ requests) number fit few =
    let a = request-read request fit.0 in
    let rest = flat_map spell_request requests in
    let text : spell_request request ++ rest ≡ spell_parts (a.first ∷ a.others) ++ rest = ap (λ (ps : List (List ℕ)). spell_parts ps ++ rest) a.spelled in
    let raws : lines_of (spell_request request ++ rest) ≡ ended_line (join_with_byte 32 (a.first ∷ a.others)) ∷ lines_of rest = ap lines_of text ∙ lines_of-parts a.first a.others rest a.are in
    let read = request_or_fault-join number request a.first a.others (omega (arith, few)) a.are a.read in
    let others = requests_from-spelled requests (number + 1) fit.1 (omega (arith, few)) in
    ap (requests_from number) raws
    ∙ ap (λ (r : Result Request TraceFault). r >>= λ first. requests_from (number + 1) (lines_of rest) >>= λ others. Ok (first ∷ others)) read
    ∙ ap (λ (r : Result (List Request) TraceFault). r >>= λ others. Ok (request ∷ others)) others

header_or_fault-join : (h : declared.Header.Header) → HeaderFits h → header_or_fault (ended_line (join_with_byte 32 (header_parts h))) ≡ Ok h
unfolding header_or_kind
header_or_fault-join h fits =
    ap (λ (r : Result (List (List ℕ)) Kind). with_fault (fault_at 1) (r >>= header_of_parts)) (checked_parts-join 1 (codes "heap") (decimal h.words ∷ decimal h.ratio ∷ decimal h.log ∷ decimal h.owners ∷ decimal h.slots ∷ []) (omega arith) (header_parts_are h fits))
    ∙ ap (with_fault (fault_at 1)) (header_of_parts-spelled h fits)

pub trace_of-spelling : (script : Script) → IsScript script → trace_of (spelling script) ≡ Ok script
unfolding script_or_fault
trace_of-spelling script is =
    let rest = flat_map spell_request script.requests in
    let raws : lines_of (spelling script) ≡ ended_line (join_with_byte 32 (header_parts script.header)) ∷ lines_of rest = lines_of-parts (codes "heap") (decimal script.header.words ∷ decimal script.header.ratio ∷ decimal script.header.log ∷ decimal script.header.owners ∷ decimal script.header.slots ∷ []) rest (header_parts_are script.header is.header) in
    let requests = requests_from-spelled script.requests 2 is.requests (omega (arith, is.few)) in
    ap script_or_fault raws
    ∙ ap (λ (r : Result declared.Header.Header TraceFault). r >>= λ header. requests_from 2 (lines_of rest) >>= λ requests. Ok (record { header = header; requests = requests })) (header_or_fault-join script.header is.header)
    ∙ ap (λ (r : Result (List Request) TraceFault). r >>= λ requests. Ok (record { header = script.header; requests = requests })) requests
