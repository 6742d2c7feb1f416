-- What stands in an object of JSON as it is: texts without quotes, backslashes and bytes below 32.
use Rattle.std.proofs.Common.{◌≡◌, ℕ, ℤ, pos, negsuc, suc, ◌/◌, ◌%◌, ◌^◌, ◌<◌, ◌≤◌, ◌≢◌, inl, inr, Bool, true, eqb, if◌then◌else◌, List, [], ◌∷◌, ◌++◌, refl, ap, ◌∙◌, arith}
use Rattle.std.specs.Prelude.{codes, decimal, nat_lt}
use Rattle.std.specs.Fmt.{signed_decimal}
use Rattle.std.specs.List.{AllByRecursion, join_with_byte, list_all}
use Rattle.std.proofs.lemmas.Bool.{and_parts, le-ltb, ne_eqb}
use Rattle.std.proofs.lemmas.List.Concat.{flat_map-append}
use Rattle.rh_layout.specs.declared.command.Command.{Command}
use Rattle.rh_layout.specs.declared.command.Command.TheVariants.{Alloc, Raw, Load, Store, Copy, Same, Drop}
use Rattle.rh_layout.specs.declared.command.Operand.{Operand}
use Rattle.rh_layout.specs.declared.command.Operand.TheVariants as operands
use Rattle.rh_layout.specs.declared.command.RootId.{RootId}
use Rattle.rh_layout.specs.declared.kind.Kind as pieces
use Rattle.rh_layout.specs.declared.kind.Kind.TheVariants.{Copies, Entries}
use Rattle.rh_text.specs.Number.{IsI64, IsU32}
use Rattle.rh_text.specs.Root.{RootFits, root_text}
use Rattle.rh_text.specs.lemmas.Integers.{i64_size}
use Rattle.rh_text.specs.lemmas.Joins.{bounds, is_decimal_digit, wide_digits}
use Rattle.rh_syntax.specs.TrayName.{IsLetter, IsNameByte, IsTrayName}
use Rattle.rh_syntax.specs.Spelling.{CommandFits, OperandFits, RequestFits, command_parts, kind_text, operand_text, request_parts}
use Rattle.rh_syntax.specs.declared.request.Request.{Request}
use Rattle.rh_syntax.specs.declared.request.Request.TheVariants as requests
use Rattle.rh_trace_views.specs.Json.{hex_digit, json_byte, json_string}
use Rattle.rh_trace_views.specs.Lines.{request_text}

-- a text that stands so
abbrev pub IsUnescaped : List ℕ → Type 0
IsUnescaped text = json_string text ≡ text

byte_kept : (b : ℕ) → 32 ≤ b → b ≢ 34 → b ≢ 92 → json_byte b ≡ b ∷ []
byte_kept b low quote slash =
    let hex = codes "\\u00" ++ hex_digit (b / 16) ∷ hex_digit (b % 16) ∷ [] in
    let wide = λ (t : Bool). if t then hex else b ∷ [] in
    let slashed = λ (t : Bool). if t then codes "\\\\" else wide (nat_lt b 32) in
    let quoted = λ (t : Bool). if t then codes "\\\"" else slashed (eqb b 92) in
    ap quoted (ne_eqb b 34 quote) ∙ ap slashed (ne_eqb b 92 slash) ∙ ap wide (le-ltb b 32 low)

kept_first : (b : ℕ) (text : List ℕ) → json_byte b ≡ b ∷ [] → IsUnescaped text → IsUnescaped (b ∷ text)
kept_first b text byte later = ap (λ (t : List ℕ). t ++ json_string text) byte ∙ ap (λ (t : List ℕ). b ∷ t) later

kept_append : (first text : List ℕ) → IsUnescaped first → IsUnescaped text → IsUnescaped (first ++ text)
kept_append first text now later =
    flat_map-append json_byte first text ∙ ap (λ (t : List ℕ). t ++ json_string text) now ∙ ap (λ (t : List ℕ). first ++ t) later

-- ---- the parts of a line

digits_kept : (digits : List ℕ) → list_all is_decimal_digit digits ≡ true → IsUnescaped digits
digits_kept [] all = refl
digits_kept (d ∷ digits) all =
    let p = and_parts (is_decimal_digit d) (list_all is_decimal_digit digits) all in
    let r = bounds 48 57 d p.0 in
    kept_first d digits (byte_kept d (omega (arith, r.0)) (λ e. omega (arith, r.0, e)) (λ e. omega (arith, r.1, e))) (digits_kept digits p.1)

number_kept : (n : ℕ) → n < 2 ^ 64 → IsUnescaped (decimal n)
number_kept n small = digits_kept (decimal n) (wide_digits n small)

small_kept : (n : ℕ) → IsU32 n → IsUnescaped (decimal n)
small_kept n small = number_kept n (omega (arith, small))

root_kept : (root : RootId) → RootFits root → IsUnescaped (root_text root)
root_kept root fits = kept_append (decimal root.owner) (46 ∷ decimal root.slot) (small_kept root.owner fits.0) (kept_first 46 (decimal root.slot) refl (small_kept root.slot fits.1))

integer_kept : (n : ℤ) → IsI64 n → IsUnescaped (signed_decimal n)
integer_kept (pos k) fits = number_kept k (omega (arith, i64_size (pos k) fits))
integer_kept (negsuc k) fits = kept_first 45 (decimal (suc k)) refl (number_kept (suc k) (omega (arith, i64_size (negsuc k) fits)))

operand_kept : (operand : Operand) → OperandFits operand → IsUnescaped (operand_text operand)
operand_kept operands.Nil fits = refl
operand_kept (operands.Int n) fits = integer_kept n fits
operand_kept (operands.Root root) fits = root_kept root fits

kind_kept : (kind : pieces.Kind) → IsUnescaped (kind_text kind)
kind_kept Copies = refl
kind_kept Entries = refl

letter_kept : (b : ℕ) → IsLetter b → json_byte b ≡ b ∷ []
letter_kept b is = byte_kept b (omega (arith, is.0)) (λ e. omega (arith, is.0, e)) (λ e. omega (arith, is.0, e))

name_byte_kept : (b : ℕ) → IsNameByte b → json_byte b ≡ b ∷ []
name_byte_kept b (inl letter) = letter_kept b letter
name_byte_kept b (inr (inl digit)) = byte_kept b (omega (arith, digit.0)) (λ e. omega (arith, digit.0, e)) (λ e. omega (arith, digit.1, e))
name_byte_kept b (inr (inr is)) = byte_kept b (omega (arith, is)) (λ e. omega (arith, is, e)) (λ e. omega (arith, is, e))

name_bytes_kept : (bytes : List ℕ) → AllByRecursion IsNameByte bytes → IsUnescaped bytes
name_bytes_kept [] all = refl
name_bytes_kept (b ∷ bytes) all = kept_first b bytes (name_byte_kept b all.0) (name_bytes_kept bytes all.1)

pub name_kept : (name : List ℕ) → IsTrayName name → IsUnescaped name
name_kept [] is = absurd is
name_kept (first ∷ rest) is = kept_first first rest (letter_kept first is.0) (name_bytes_kept rest is.2)

-- ---- a line

joined_kept : (parts : List (List ℕ)) → AllByRecursion IsUnescaped parts → IsUnescaped (join_with_byte 32 parts)
joined_kept [] all = refl
joined_kept (part ∷ []) all = all.0
joined_kept (part ∷ second ∷ others) all =
    let rest = join_with_byte 32 (second ∷ others) in
    kept_append part (32 ∷ rest) all.0 (kept_first 32 rest refl (joined_kept (second ∷ others) all.1))

command_kept : (owner : ℕ) (command : Command) → CommandFits owner command → AllByRecursion IsUnescaped (command_parts owner command)
command_kept owner (Alloc dst fields) fits = (small_kept owner fits.0, (refl, (root_kept dst fits.1, (small_kept fields fits.2, tt))))
command_kept owner (Raw dst fields) fits = (small_kept owner fits.0, (refl, (root_kept dst fits.1, (small_kept fields fits.2, tt))))
command_kept owner (Load dst src field) fits = (small_kept owner fits.0, (refl, (root_kept dst fits.1, (root_kept src fits.2, (small_kept field fits.3, tt)))))
command_kept owner (Store obj field operand) fits = (small_kept owner fits.0, (refl, (root_kept obj fits.1, (small_kept field fits.2, (operand_kept operand fits.3, tt)))))
command_kept owner (Copy dst src) fits = (small_kept owner fits.0, (refl, (root_kept dst fits.1, (root_kept src fits.2, tt))))
command_kept owner (Same a b) fits = (small_kept owner fits.0, (refl, (root_kept a fits.1, (root_kept b fits.2, tt))))
command_kept owner (Drop root) fits = (small_kept owner fits.0, (refl, (root_kept root fits.1, tt)))

parts_kept : (request : Request) → RequestFits request → AllByRecursion IsUnescaped (request_parts request)
parts_kept (requests.Command owner command) fits = command_kept owner command fits
parts_kept requests.Begin fits = (refl, tt)
parts_kept (requests.Shade root) fits = (refl, (root_kept root fits, tt))
parts_kept (requests.Deal kind most tray) fits = (refl, (kind_kept kind, (small_kept most fits.0, (name_kept tray fits.1, tt))))
parts_kept (requests.Give tray) fits = (refl, (name_kept tray fits, tt))
parts_kept (requests.Join into other) fits = (refl, (name_kept into fits.0, (name_kept other fits.1, tt)))
parts_kept requests.Flip fits = (refl, tt)
parts_kept requests.Recall fits = (refl, tt)
parts_kept requests.Abandon fits = (refl, tt)
parts_kept (requests.Idle words) fits = (refl, (small_kept words fits, tt))
parts_kept (requests.Resize words) fits = (refl, (small_kept words fits, tt))
parts_kept (requests.Tickets tickets) fits = (refl, (small_kept tickets fits, tt))
parts_kept (requests.Watch owner root) fits = (small_kept owner fits.0, (refl, (root_kept root fits.1, tt)))
parts_kept (requests.Unwatch ticket) fits = (refl, (small_kept ticket fits, tt))
parts_kept requests.Gone fits = (refl, tt)
parts_kept requests.Trays fits = (refl, tt)
parts_kept requests.Stat fits = (refl, tt)
parts_kept requests.Dump fits = (refl, tt)

pub line_kept : (request : Request) → RequestFits request → IsUnescaped (request_text request)
line_kept request fits = joined_kept (request_parts request) (parts_kept request fits)
