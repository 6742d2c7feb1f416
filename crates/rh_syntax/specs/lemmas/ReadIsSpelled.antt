-- What is read is spelled so, and fits.
use Rattle.std.proofs.Common.{◌≡◌, ℕ, ℤ, ◌+◌, ◌≤◌, Bool, true, false, cond, ltb, not, ◌||◌, List, [], ◌∷◌, ◌++◌, length, Some, Result, Ok, Err, refl, sym, ap, subst, ◌∙◌, arith}
use Rattle.std.specs.Prelude.{codes, decimal, IfOk}
use Rattle.std.specs.Fmt.{signed_decimal}
use Rattle.std.specs.List.{flat_map, join_with_byte, AllByRecursion}
use Rattle.std.specs.Str.{bytes_eq}
use Rattle.std.proofs.lemmas.Bool.{not-false}
use Rattle.std.proofs.lemmas.Slice.Eq.{bytes_eq-Decides}
use Rattle.std.proofs.lemmas.List.Splits.{join_with_byte-slice_split}
use Rattle.rh_layout.specs.declared.command.Command.{Command}
use Rattle.rh_layout.specs.declared.command.Command.TheVariants.{Alloc, Raw, Load, Store, Copy, Same, Drop}
use Rattle.rh_layout.specs.declared.command.Operand.{Operand}
use Rattle.rh_layout.specs.declared.command.Operand.TheVariants as operands
use Rattle.rh_layout.specs.declared.command.RootId.{RootId}
use Rattle.rh_layout.specs.declared.kind.Kind as pieces
use Rattle.rh_layout.specs.declared.kind.Kind.TheVariants.{Copies, Entries}
use Rattle.rh_text.specs.Number.{IsU32, IsI64, number_of, integer_of}
use Rattle.rh_text.specs.Parts.{parts_of, is_formed, has_dot, begins_with_digit, spell_parts, one_part, two_parts, three_parts, six_parts}
use Rattle.rh_text.specs.RawLine.{RawLine, lines_of, raw_text}
use Rattle.rh_text.specs.Root.{root_of, root_text, RootFits}
use Rattle.rh_text.specs.Steps.{◌>>=◌, or_fault, with_fault}
use Rattle.rh_text.specs.lemmas.Cuts.{some_is}
use Rattle.rh_text.specs.lemmas.Formed.{ended_text, one_part-means, two_parts-means, three_parts-means}
use Rattle.rh_text.specs.lemmas.Integers.{integer_means}
use Rattle.rh_text.specs.lemmas.Numbers.{number_means}
use Rattle.rh_text.specs.lemmas.RawLines.{lines_text}
use Rattle.rh_text.specs.lemmas.Roots.{root_means}
use Rattle.rh_text.specs.lemmas.Steps.{bind_ok, chosen, refused, ok_is, or_fault_ok}
use Rattle.rh_syntax.specs.declared.fault.Kind.{Kind}
use Rattle.rh_syntax.specs.declared.fault.Kind.TheVariants.{Long, Cut, Form, Header, Word, Number, Root, Tray}
use Rattle.rh_syntax.specs.declared.fault.ParseError.{ParseError}
use Rattle.rh_syntax.specs.declared.fault.TraceFault.{TraceFault}
use Rattle.rh_syntax.specs.declared.line as declared
use Rattle.rh_syntax.specs.declared.request.Request.{Request}
use Rattle.rh_syntax.specs.declared.request.Request.TheVariants as requests
use Rattle.rh_syntax.specs.TrayName.{tray_name_of, IsTrayName}
use Rattle.rh_syntax.specs.Spelling.{Script, operand_text, kind_text, command_parts, command_text, request_parts, header_parts, spell_request, spell_header, spelling, OperandFits, CommandFits, RequestFits, HeaderFits, IsScript}
use Rattle.rh_syntax.specs.Reading.{number_or_fault, integer_or_fault, root_or_fault, operand_or_fault, tray_or_fault, kind_or_fault, read_alloc, read_raw, read_load, read_store, read_copy, read_same, read_drop, command_or_fault, owned_command, single_command, alone, read_shade, read_deal, read_give, read_join, read_idle, read_resize, read_tickets, read_unwatch, listing_request, watching_request, keyword_request, read_watch, owned_request, request_of_parts, sizes_of, header_of_parts, checked_parts, fault_at, request_or_kind, header_or_kind, request_or_fault, header_or_fault, requests_from, script_or_fault, trace_of, Gives}
use Rattle.rh_syntax.specs.lemmas.LinesInTurn.{number_within}
use Rattle.rh_syntax.specs.lemmas.TrayNames.{name-from_read}

with_fault_ok : {A : Type 0} (number : ℕ) (r : Result A Kind) (x : A) → with_fault (fault_at number) r ≡ Ok x → r ≡ Ok x
with_fault_ok number (Ok y) x e = cc
with_fault_ok number (Err kind) x e = absurd cc

-- one keyword more: what is said of the keyword where the part is this one, or else of the part by the other keywords
by_test : {A : Type 0} (Says : List ℕ → A → Type 0) (is : Bool) (part keyword : List ℕ) (this others : Result A Kind) (x : A) → (is ≡ true → part ≡ keyword)
    → (this ≡ Ok x → Says keyword x) → (others ≡ Ok x → Says part x) → cond is this others ≡ Ok x → Says part x
by_test Says true part keyword this others x same here there e = subst (λ (w : List ℕ). Says w x) (sym (same refl)) (here e)
by_test Says false part keyword this others x same here there e = there e

by_keyword : {A : Type 0} (Says : List ℕ → A → Type 0) (part keyword : List ℕ) (this others : Result A Kind) (x : A)
    → (this ≡ Ok x → Says keyword x) → (others ≡ Ok x → Says part x) → cond (bytes_eq part keyword) this others ≡ Ok x → Says part x
by_keyword Says part keyword this others x here there e = by_test Says (bytes_eq part keyword) part keyword this others x (bytes_eq-Decides part keyword).0 here there e

-- numbers, roots and names of trays
pub number_or_fault-means : (part : List ℕ) (n : ℕ) → number_or_fault part ≡ Ok n → (part ≡ decimal n) × IsU32 n
number_or_fault-means part n e = number_means part n (or_fault_ok (number_of part) Number n e)

root_or_fault-means : (part : List ℕ) (root : RootId) → root_or_fault part ≡ Ok root → (part ≡ root_text root) × RootFits root
root_or_fault-means part root e = root_means part root (or_fault_ok (root_of part) Root root e)

tray_or_fault-means : (part name : List ℕ) → tray_or_fault part ≡ Ok name → (part ≡ name) × IsTrayName name
tray_or_fault-means part name e =
    let h = name-from_read part name (or_fault_ok (tray_name_of part) Tray name e) in
    (sym h.0, h.1)

-- what is dealt
kind_or_fault-means : (part : List ℕ) (kind : pieces.Kind) → kind_or_fault part ≡ Ok kind → part ≡ kind_text kind
unfolding kind_or_fault
kind_or_fault-means part kind e =
    let says : List ℕ → pieces.Kind → Type 0 = λ w k. w ≡ kind_text k in
    let entries : Result pieces.Kind Kind = cond (bytes_eq part (codes "entries")) (Ok Entries) (Err Word) in
    by_keyword says part (codes "copies") (Ok Copies) entries kind (λ f. ap kind_text (ok_is Copies kind f))
    (by_keyword says part (codes "entries") (Ok Entries) (Err Word) kind (λ f. ap kind_text (ok_is Entries kind f)) (λ no. absurd cc)) e

-- operands
integer_or_fault-means : (part : List ℕ) (n : ℤ) → integer_or_fault part ≡ Ok n → (part ≡ signed_decimal n) × IsI64 n
integer_or_fault-means part n e = integer_means part n (or_fault_ok (integer_of part) Number n e)

abbrev Spells : List ℕ → Operand → Type 0
Spells part operand = (part ≡ operand_text operand) × OperandFits operand

operand_by : (nil dot : Bool) (part : List ℕ) (operand : Operand) → (nil ≡ true → part ≡ codes "nil")
    → cond nil (Ok operands.Nil) (cond dot (root_or_fault part >>= λ root. Ok (operands.Root root)) (integer_or_fault part >>= λ n. Ok (operands.Int n))) ≡ Ok operand → Spells part operand
operand_by true dot part operand is e = subst (Spells part) (ok_is operands.Nil operand e) (is refl, tt)
operand_by false true part operand is e =
    let a = bind_ok (root_or_fault part) (λ root. Ok (operands.Root root)) operand e in
    subst (Spells part) (ok_is (operands.Root a.0) operand a.2) (root_or_fault-means part a.0 a.1)
operand_by false false part operand is e =
    let a = bind_ok (integer_or_fault part) (λ n. Ok (operands.Int n)) operand e in
    subst (Spells part) (ok_is (operands.Int a.0) operand a.2) (integer_or_fault-means part a.0 a.1)

operand_or_fault-means : (part : List ℕ) (operand : Operand) → operand_or_fault part ≡ Ok operand → Spells part operand
unfolding operand_or_fault
operand_or_fault-means part operand e = operand_by (bytes_eq part (codes "nil")) (has_dot part) part operand (bytes_eq-Decides part (codes "nil")).0 e

-- the command lines, keyword by keyword
abbrev pub Reads : List (List ℕ) → ℕ × Command → Type 0
Reads parts owned = (parts ≡ command_parts owned.0 owned.1) × CommandFits owned.0 owned.1

-- the parts of a line, each as it was found
args_1 : (a x : List ℕ) (args : List (List ℕ)) → args ≡ a ∷ [] → a ≡ x → args ≡ x ∷ []
args_1 a x args e p = cc

args_2 : (a b x y : List ℕ) (args : List (List ℕ)) → args ≡ a ∷ b ∷ [] → a ≡ x → b ≡ y → args ≡ x ∷ y ∷ []
args_2 a b x y args e p q = cc

args_3 : (a b c x y z : List ℕ) (args : List (List ℕ)) → args ≡ a ∷ b ∷ c ∷ [] → a ≡ x → b ≡ y → c ≡ z → args ≡ x ∷ y ∷ z ∷ []
args_3 a b c x y z args e p q r = cc

after_owner : (owner o word : List ℕ) (args xs : List (List ℕ)) → owner ≡ o → args ≡ xs → owner ∷ word ∷ args ≡ o ∷ word ∷ xs
after_owner owner o word args xs e p = cc

read_alloc-means : (owner : List ℕ) (args : List (List ℕ)) (owned : ℕ × Command) → read_alloc owner args ≡ Ok owned → Reads (owner ∷ codes "alloc" ∷ args) owned
unfolding read_alloc
read_alloc-means owner args owned e =
    let a = bind_ok (or_fault (two_parts args) Form) (λ parts. number_or_fault owner >>= λ o. root_or_fault parts.0 >>= λ d. number_or_fault parts.1 >>= λ f. Ok (o, Alloc d f)) owned e in
    let b = bind_ok (number_or_fault owner) (λ o. root_or_fault a.0.0 >>= λ d. number_or_fault a.0.1 >>= λ f. Ok (o, Alloc d f)) owned a.2 in
    let c = bind_ok (root_or_fault a.0.0) (λ d. number_or_fault a.0.1 >>= λ f. Ok (b.0, Alloc d f)) owned b.2 in
    let d = bind_ok (number_or_fault a.0.1) (λ f. Ok (b.0, Alloc c.0 f)) owned c.2 in
    let args_are = two_parts-means args a.0 (or_fault_ok (two_parts args) Form a.0 a.1) in
    let owner_is = number_or_fault-means owner b.0 b.1 in
    let dst_is = root_or_fault-means a.0.0 c.0 c.1 in
    let fields_is = number_or_fault-means a.0.1 d.0 d.1 in
    let whole : owner ∷ codes "alloc" ∷ args ≡ command_parts b.0 (Alloc c.0 d.0) = after_owner owner (decimal b.0) (codes "alloc") args (root_text c.0 ∷ decimal d.0 ∷ []) owner_is.0 (args_2 a.0.0 a.0.1 (root_text c.0) (decimal d.0) args args_are dst_is.0 fields_is.0) in
    subst (Reads (owner ∷ codes "alloc" ∷ args)) (ok_is (b.0, Alloc c.0 d.0) owned d.2) (whole, (owner_is.1, dst_is.1, fields_is.1))

read_raw-means : (owner : List ℕ) (args : List (List ℕ)) (owned : ℕ × Command) → read_raw owner args ≡ Ok owned → Reads (owner ∷ codes "raw" ∷ args) owned
unfolding read_raw
read_raw-means owner args owned e =
    let a = bind_ok (or_fault (two_parts args) Form) (λ parts. number_or_fault owner >>= λ o. root_or_fault parts.0 >>= λ d. number_or_fault parts.1 >>= λ f. Ok (o, Raw d f)) owned e in
    let b = bind_ok (number_or_fault owner) (λ o. root_or_fault a.0.0 >>= λ d. number_or_fault a.0.1 >>= λ f. Ok (o, Raw d f)) owned a.2 in
    let c = bind_ok (root_or_fault a.0.0) (λ d. number_or_fault a.0.1 >>= λ f. Ok (b.0, Raw d f)) owned b.2 in
    let d = bind_ok (number_or_fault a.0.1) (λ f. Ok (b.0, Raw c.0 f)) owned c.2 in
    let args_are = two_parts-means args a.0 (or_fault_ok (two_parts args) Form a.0 a.1) in
    let owner_is = number_or_fault-means owner b.0 b.1 in
    let dst_is = root_or_fault-means a.0.0 c.0 c.1 in
    let fields_is = number_or_fault-means a.0.1 d.0 d.1 in
    let whole : owner ∷ codes "raw" ∷ args ≡ command_parts b.0 (Raw c.0 d.0) = after_owner owner (decimal b.0) (codes "raw") args (root_text c.0 ∷ decimal d.0 ∷ []) owner_is.0 (args_2 a.0.0 a.0.1 (root_text c.0) (decimal d.0) args args_are dst_is.0 fields_is.0) in
    subst (Reads (owner ∷ codes "raw" ∷ args)) (ok_is (b.0, Raw c.0 d.0) owned d.2) (whole, (owner_is.1, dst_is.1, fields_is.1))

read_load-means : (owner : List ℕ) (args : List (List ℕ)) (owned : ℕ × Command) → read_load owner args ≡ Ok owned → Reads (owner ∷ codes "load" ∷ args) owned
unfolding read_load
read_load-means owner args owned e =
    let a = bind_ok (or_fault (three_parts args) Form) (λ parts. number_or_fault owner >>= λ o. root_or_fault parts.0 >>= λ d. root_or_fault parts.1 >>= λ s. number_or_fault parts.2 >>= λ f. Ok (o, Load d s f)) owned e in
    let b = bind_ok (number_or_fault owner) (λ o. root_or_fault a.0.0 >>= λ d. root_or_fault a.0.1 >>= λ s. number_or_fault a.0.2 >>= λ f. Ok (o, Load d s f)) owned a.2 in
    let c = bind_ok (root_or_fault a.0.0) (λ d. root_or_fault a.0.1 >>= λ s. number_or_fault a.0.2 >>= λ f. Ok (b.0, Load d s f)) owned b.2 in
    let d = bind_ok (root_or_fault a.0.1) (λ s. number_or_fault a.0.2 >>= λ f. Ok (b.0, Load c.0 s f)) owned c.2 in
    let f = bind_ok (number_or_fault a.0.2) (λ f. Ok (b.0, Load c.0 d.0 f)) owned d.2 in
    let args_are = three_parts-means args a.0 (or_fault_ok (three_parts args) Form a.0 a.1) in
    let owner_is = number_or_fault-means owner b.0 b.1 in
    let dst_is = root_or_fault-means a.0.0 c.0 c.1 in
    let src_is = root_or_fault-means a.0.1 d.0 d.1 in
    let field_is = number_or_fault-means a.0.2 f.0 f.1 in
    let whole : owner ∷ codes "load" ∷ args ≡ command_parts b.0 (Load c.0 d.0 f.0) = after_owner owner (decimal b.0) (codes "load") args (root_text c.0 ∷ root_text d.0 ∷ decimal f.0 ∷ []) owner_is.0 (args_3 a.0.0 a.0.1 a.0.2 (root_text c.0) (root_text d.0) (decimal f.0) args args_are dst_is.0 src_is.0 field_is.0) in
    subst (Reads (owner ∷ codes "load" ∷ args)) (ok_is (b.0, Load c.0 d.0 f.0) owned f.2) (whole, (owner_is.1, dst_is.1, src_is.1, field_is.1))

read_store-means : (owner : List ℕ) (args : List (List ℕ)) (owned : ℕ × Command) → read_store owner args ≡ Ok owned → Reads (owner ∷ codes "store" ∷ args) owned
unfolding read_store
read_store-means owner args owned e =
    let a = bind_ok (or_fault (three_parts args) Form) (λ parts. number_or_fault owner >>= λ o. root_or_fault parts.0 >>= λ d. number_or_fault parts.1 >>= λ f. operand_or_fault parts.2 >>= λ x. Ok (o, Store d f x)) owned e in
    let b = bind_ok (number_or_fault owner) (λ o. root_or_fault a.0.0 >>= λ d. number_or_fault a.0.1 >>= λ f. operand_or_fault a.0.2 >>= λ x. Ok (o, Store d f x)) owned a.2 in
    let c = bind_ok (root_or_fault a.0.0) (λ d. number_or_fault a.0.1 >>= λ f. operand_or_fault a.0.2 >>= λ x. Ok (b.0, Store d f x)) owned b.2 in
    let d = bind_ok (number_or_fault a.0.1) (λ f. operand_or_fault a.0.2 >>= λ x. Ok (b.0, Store c.0 f x)) owned c.2 in
    let f = bind_ok (operand_or_fault a.0.2) (λ x. Ok (b.0, Store c.0 d.0 x)) owned d.2 in
    let args_are = three_parts-means args a.0 (or_fault_ok (three_parts args) Form a.0 a.1) in
    let owner_is = number_or_fault-means owner b.0 b.1 in
    let obj_is = root_or_fault-means a.0.0 c.0 c.1 in
    let field_is = number_or_fault-means a.0.1 d.0 d.1 in
    let operand_is = operand_or_fault-means a.0.2 f.0 f.1 in
    let whole : owner ∷ codes "store" ∷ args ≡ command_parts b.0 (Store c.0 d.0 f.0) = after_owner owner (decimal b.0) (codes "store") args (root_text c.0 ∷ decimal d.0 ∷ operand_text f.0 ∷ []) owner_is.0 (args_3 a.0.0 a.0.1 a.0.2 (root_text c.0) (decimal d.0) (operand_text f.0) args args_are obj_is.0 field_is.0 operand_is.0) in
    subst (Reads (owner ∷ codes "store" ∷ args)) (ok_is (b.0, Store c.0 d.0 f.0) owned f.2) (whole, (owner_is.1, obj_is.1, field_is.1, operand_is.1))

read_copy-means : (owner : List ℕ) (args : List (List ℕ)) (owned : ℕ × Command) → read_copy owner args ≡ Ok owned → Reads (owner ∷ codes "copy" ∷ args) owned
unfolding read_copy
read_copy-means owner args owned e =
    let a = bind_ok (or_fault (two_parts args) Form) (λ parts. number_or_fault owner >>= λ o. root_or_fault parts.0 >>= λ d. root_or_fault parts.1 >>= λ s. Ok (o, Copy d s)) owned e in
    let b = bind_ok (number_or_fault owner) (λ o. root_or_fault a.0.0 >>= λ d. root_or_fault a.0.1 >>= λ s. Ok (o, Copy d s)) owned a.2 in
    let c = bind_ok (root_or_fault a.0.0) (λ d. root_or_fault a.0.1 >>= λ s. Ok (b.0, Copy d s)) owned b.2 in
    let d = bind_ok (root_or_fault a.0.1) (λ s. Ok (b.0, Copy c.0 s)) owned c.2 in
    let args_are = two_parts-means args a.0 (or_fault_ok (two_parts args) Form a.0 a.1) in
    let owner_is = number_or_fault-means owner b.0 b.1 in
    let dst_is = root_or_fault-means a.0.0 c.0 c.1 in
    let src_is = root_or_fault-means a.0.1 d.0 d.1 in
    let whole : owner ∷ codes "copy" ∷ args ≡ command_parts b.0 (Copy c.0 d.0) = after_owner owner (decimal b.0) (codes "copy") args (root_text c.0 ∷ root_text d.0 ∷ []) owner_is.0 (args_2 a.0.0 a.0.1 (root_text c.0) (root_text d.0) args args_are dst_is.0 src_is.0) in
    subst (Reads (owner ∷ codes "copy" ∷ args)) (ok_is (b.0, Copy c.0 d.0) owned d.2) (whole, (owner_is.1, dst_is.1, src_is.1))

read_same-means : (owner : List ℕ) (args : List (List ℕ)) (owned : ℕ × Command) → read_same owner args ≡ Ok owned → Reads (owner ∷ codes "same" ∷ args) owned
unfolding read_same
read_same-means owner args owned e =
    let a = bind_ok (or_fault (two_parts args) Form) (λ parts. number_or_fault owner >>= λ o. root_or_fault parts.0 >>= λ l. root_or_fault parts.1 >>= λ r. Ok (o, Same l r)) owned e in
    let b = bind_ok (number_or_fault owner) (λ o. root_or_fault a.0.0 >>= λ l. root_or_fault a.0.1 >>= λ r. Ok (o, Same l r)) owned a.2 in
    let c = bind_ok (root_or_fault a.0.0) (λ l. root_or_fault a.0.1 >>= λ r. Ok (b.0, Same l r)) owned b.2 in
    let d = bind_ok (root_or_fault a.0.1) (λ r. Ok (b.0, Same c.0 r)) owned c.2 in
    let args_are = two_parts-means args a.0 (or_fault_ok (two_parts args) Form a.0 a.1) in
    let owner_is = number_or_fault-means owner b.0 b.1 in
    let one_is = root_or_fault-means a.0.0 c.0 c.1 in
    let other_is = root_or_fault-means a.0.1 d.0 d.1 in
    let whole : owner ∷ codes "same" ∷ args ≡ command_parts b.0 (Same c.0 d.0) = after_owner owner (decimal b.0) (codes "same") args (root_text c.0 ∷ root_text d.0 ∷ []) owner_is.0 (args_2 a.0.0 a.0.1 (root_text c.0) (root_text d.0) args args_are one_is.0 other_is.0) in
    subst (Reads (owner ∷ codes "same" ∷ args)) (ok_is (b.0, Same c.0 d.0) owned d.2) (whole, (owner_is.1, one_is.1, other_is.1))

read_drop-means : (owner : List ℕ) (args : List (List ℕ)) (owned : ℕ × Command) → read_drop owner args ≡ Ok owned → Reads (owner ∷ codes "drop" ∷ args) owned
unfolding read_drop
read_drop-means owner args owned e =
    let a = bind_ok (or_fault (one_part args) Form) (λ part. number_or_fault owner >>= λ o. root_or_fault part >>= λ r. Ok (o, Drop r)) owned e in
    let b = bind_ok (number_or_fault owner) (λ o. root_or_fault a.0 >>= λ r. Ok (o, Drop r)) owned a.2 in
    let c = bind_ok (root_or_fault a.0) (λ r. Ok (b.0, Drop r)) owned b.2 in
    let args_are = one_part-means args a.0 (or_fault_ok (one_part args) Form a.0 a.1) in
    let owner_is = number_or_fault-means owner b.0 b.1 in
    let root_is = root_or_fault-means a.0 c.0 c.1 in
    let whole : owner ∷ codes "drop" ∷ args ≡ command_parts b.0 (Drop c.0) = after_owner owner (decimal b.0) (codes "drop") args (root_text c.0 ∷ []) owner_is.0 (args_1 a.0 (root_text c.0) args args_are root_is.0) in
    subst (Reads (owner ∷ codes "drop" ∷ args)) (ok_is (b.0, Drop c.0) owned c.2) (whole, (owner_is.1, root_is.1))

command_or_fault-means : (owner : List ℕ) (rest : List (List ℕ)) (owned : ℕ × Command) → command_or_fault owner rest ≡ Ok owned → Reads (owner ∷ rest) owned
unfolding command_or_fault
command_or_fault-means owner [] owned e = absurd cc
command_or_fault-means owner (keyword ∷ args) owned e =
    let drops : Result (ℕ × Command) Kind = cond (bytes_eq keyword (codes "drop")) (read_drop owner args) (Err Word) in
    let sames : Result (ℕ × Command) Kind = cond (bytes_eq keyword (codes "same")) (read_same owner args) drops in
    let copies : Result (ℕ × Command) Kind = cond (bytes_eq keyword (codes "copy")) (read_copy owner args) sames in
    let stores : Result (ℕ × Command) Kind = cond (bytes_eq keyword (codes "store")) (read_store owner args) copies in
    let loads : Result (ℕ × Command) Kind = cond (bytes_eq keyword (codes "load")) (read_load owner args) stores in
    let raws : Result (ℕ × Command) Kind = cond (bytes_eq keyword (codes "raw")) (read_raw owner args) loads in
    let says : List ℕ → ℕ × Command → Type 0 = λ w x. Reads (owner ∷ w ∷ args) x in
    by_keyword says keyword (codes "alloc") (read_alloc owner args) raws owned (read_alloc-means owner args owned)
    (by_keyword says keyword (codes "raw") (read_raw owner args) loads owned (read_raw-means owner args owned)
    (by_keyword says keyword (codes "load") (read_load owner args) stores owned (read_load-means owner args owned)
    (by_keyword says keyword (codes "store") (read_store owner args) copies owned (read_store-means owner args owned)
    (by_keyword says keyword (codes "copy") (read_copy owner args) sames owned (read_copy-means owner args owned)
    (by_keyword says keyword (codes "same") (read_same owner args) drops owned (read_same-means owner args owned)
    (by_keyword says keyword (codes "drop") (read_drop owner args) (Err Word) owned (read_drop-means owner args owned) (λ no. absurd cc))))))) e

pub owned_command-means : (parts : List (List ℕ)) (owned : ℕ × Command) → owned_command parts ≡ Ok owned → Reads parts owned
unfolding owned_command
owned_command-means [] owned e = absurd cc
owned_command-means (first ∷ rest) owned e = command_or_fault-means first rest owned (chosen (begins_with_digit first) Word (command_or_fault first rest) owned e).1

-- a single line
pub single_command-means : (line : List ℕ) (owned : ℕ × Command) → single_command line ≡ Ok owned → CommandFits owned.0 owned.1 × (line ≡ command_text owned.0 owned.1)
unfolding single_command
single_command-means line owned e =
    let a = refused (not (is_formed line)) Form (owned_command (parts_of line)) owned e in
    let b = owned_command-means (parts_of line) owned a.1 in
    (b.1, sym (join_with_byte-slice_split 32 line) ∙ ap (join_with_byte 32) b.0)

pub single_is_spelled : (line : List ℕ) (r : Result (ℕ × Command) Kind) → r ≡ single_command line → IfOk r (λ owned. CommandFits owned.0 owned.1 × (line ≡ command_text owned.0 owned.1))
single_is_spelled line (Ok owned) given = single_command-means line owned (sym given)
single_is_spelled line (Err kind) given = tt

-- the header
six_parts-means : (args : List (List ℕ)) (x : List ℕ × List ℕ × List ℕ × List ℕ × List ℕ × List ℕ) → six_parts args ≡ Some x → args ≡ x.0 ∷ x.1 ∷ x.2 ∷ x.3 ∷ x.4 ∷ x.5 ∷ []
unfolding six_parts
six_parts-means [] x e = absurd cc
six_parts-means (a ∷ []) x e = absurd cc
six_parts-means (a ∷ b ∷ []) x e = absurd cc
six_parts-means (a ∷ b ∷ c ∷ []) x e = absurd cc
six_parts-means (a ∷ b ∷ c ∷ d ∷ []) x e = absurd cc
six_parts-means (a ∷ b ∷ c ∷ d ∷ f ∷ []) x e = absurd cc
six_parts-means (a ∷ b ∷ c ∷ d ∷ f ∷ g ∷ []) x e = ap (λ (y : List ℕ × List ℕ × List ℕ × List ℕ × List ℕ × List ℕ). y.0 ∷ y.1 ∷ y.2 ∷ y.3 ∷ y.4 ∷ y.5 ∷ []) (some_is (a, b, c, d, f, g) x e)
six_parts-means (a ∷ b ∷ c ∷ d ∷ f ∷ g ∷ h ∷ args) x e = absurd cc

abbrev sizes_are : List ℕ → List ℕ → List ℕ → List ℕ → List ℕ → declared.Header.Header → Type 0
sizes_are a b c d f h = (a ≡ decimal h.words) × (b ≡ decimal h.ratio) × (c ≡ decimal h.log) × (d ≡ decimal h.owners) × (f ≡ decimal h.slots) × HeaderFits h

sizes_of-means : (a b c d f : List ℕ) (h : declared.Header.Header) → sizes_of a b c d f ≡ Ok h → sizes_are a b c d f h
unfolding sizes_of
sizes_of-means a b c d f h e =
    let p = bind_ok (number_or_fault a) (λ words. number_or_fault b >>= λ ratio. number_or_fault c >>= λ log. number_or_fault d >>= λ owners. number_or_fault f >>= λ slots. Ok (record { words = words; ratio = ratio; log = log; owners = owners; slots = slots })) h e in
    let q = bind_ok (number_or_fault b) (λ ratio. number_or_fault c >>= λ log. number_or_fault d >>= λ owners. number_or_fault f >>= λ slots. Ok (record { words = p.0; ratio = ratio; log = log; owners = owners; slots = slots })) h p.2 in
    let r = bind_ok (number_or_fault c) (λ log. number_or_fault d >>= λ owners. number_or_fault f >>= λ slots. Ok (record { words = p.0; ratio = q.0; log = log; owners = owners; slots = slots })) h q.2 in
    let s = bind_ok (number_or_fault d) (λ owners. number_or_fault f >>= λ slots. Ok (record { words = p.0; ratio = q.0; log = r.0; owners = owners; slots = slots })) h r.2 in
    let t = bind_ok (number_or_fault f) (λ slots. Ok (record { words = p.0; ratio = q.0; log = r.0; owners = s.0; slots = slots })) h s.2 in
    let words_is = number_or_fault-means a p.0 p.1 in
    let ratio_is = number_or_fault-means b q.0 q.1 in
    let log_is = number_or_fault-means c r.0 r.1 in
    let owners_is = number_or_fault-means d s.0 s.1 in
    let slots_is = number_or_fault-means f t.0 t.1 in
    let made : declared.Header.Header = record { words = p.0; ratio = q.0; log = r.0; owners = s.0; slots = t.0 } in
    subst (sizes_are a b c d f) (ok_is made h t.2) (words_is.0, ratio_is.0, log_is.0, owners_is.0, slots_is.0, (words_is.1, ratio_is.1, log_is.1, owners_is.1, slots_is.1))

parts_6 : (args : List (List ℕ)) (a b c d f g t u v w x y : List ℕ) → args ≡ a ∷ b ∷ c ∷ d ∷ f ∷ g ∷ [] → a ≡ t → b ≡ u → c ≡ v → d ≡ w → f ≡ x → g ≡ y → args ≡ t ∷ u ∷ v ∷ w ∷ x ∷ y ∷ []
parts_6 args a b c d f g t u v w x y e p q r s i j = cc

header_of_parts-means : (parts : List (List ℕ)) (h : declared.Header.Header) → header_of_parts parts ≡ Ok h → (parts ≡ header_parts h) × HeaderFits h
unfolding header_of_parts
header_of_parts-means parts h e =
    let a = bind_ok (or_fault (six_parts parts) Header) (λ six. cond (bytes_eq six.0 (codes "heap")) (sizes_of six.1 six.2 six.3 six.4 six.5) (Err Header)) h e in
    let are = six_parts-means parts a.0 (or_fault_ok (six_parts parts) Header a.0 a.1) in
    let b = chosen (bytes_eq a.0.0 (codes "heap")) Header (sizes_of a.0.1 a.0.2 a.0.3 a.0.4 a.0.5) h a.2 in
    let sizes = sizes_of-means a.0.1 a.0.2 a.0.3 a.0.4 a.0.5 h b.1 in
    (parts_6 parts a.0.0 a.0.1 a.0.2 a.0.3 a.0.4 a.0.5 (codes "heap") (decimal h.words) (decimal h.ratio) (decimal h.log) (decimal h.owners) (decimal h.slots) are ((bytes_eq-Decides a.0.0 (codes "heap")).0 b.0) sizes.0 sizes.1 sizes.2 sizes.3 sizes.4, sizes.5)

pub checked_parts-means : (number : ℕ) (raw : RawLine) (parts : List (List ℕ)) → checked_parts number raw ≡ Ok parts → raw_text raw ≡ spell_parts parts
unfolding checked_parts
checked_parts-means number raw parts e =
    let formed : Result (List (List ℕ)) Kind = cond (not (is_formed raw.bytes)) (Err Form) (Ok (parts_of raw.bytes)) in
    let a = refused (ltb 1048576 number || ltb 256 (length raw.bytes)) Long (cond (not raw.ended) (Err Cut) formed) parts e in
    let b = refused (not raw.ended) Cut formed parts a.1 in
    let c = refused (not (is_formed raw.bytes)) Form (Ok (parts_of raw.bytes)) parts b.1 in
    let joined : join_with_byte 32 (parts_of raw.bytes) ≡ raw.bytes = join_with_byte-slice_split 32 raw.bytes in
    ended_text raw.ended raw.bytes (join_with_byte 32 parts) (not-false raw.ended b.0) (sym joined ∙ ap (join_with_byte 32) (ok_is (parts_of raw.bytes) parts c.1))

-- the parts are those of the request's line, and the request fits
abbrev ReadsRequest : List (List ℕ) → Request → Type 0
ReadsRequest parts request = (parts ≡ request_parts request) × RequestFits request

command_request-means : (first : List ℕ) (rest : List (List ℕ)) (request : Request) → (command_or_fault first rest >>= λ owned. Ok (requests.Command owned.0 owned.1)) ≡ Ok request → ReadsRequest (first ∷ rest) request
command_request-means first rest request e =
    let a = bind_ok (command_or_fault first rest) (λ owned. Ok (requests.Command owned.0 owned.1)) request e in
    subst (ReadsRequest (first ∷ rest)) (ok_is (requests.Command a.0.0 a.0.1) request a.2) (command_or_fault-means first rest a.0 a.1)

-- a line that begins with its keyword
alone-means : (word : List ℕ) (args : List (List ℕ)) (this request : Request) → ReadsRequest (word ∷ []) this → alone args this ≡ Ok request → ReadsRequest (word ∷ args) request
alone-means word [] this request reads e = subst (ReadsRequest (word ∷ [])) (ok_is this request e) reads
alone-means word (a ∷ args) this request reads e = absurd cc

read_shade-means : (args : List (List ℕ)) (request : Request) → read_shade args ≡ Ok request → ReadsRequest (codes "shade" ∷ args) request
unfolding read_shade
read_shade-means args request e =
    let a = bind_ok (or_fault (one_part args) Form) (λ part. root_or_fault part >>= λ r. Ok (requests.Shade r)) request e in
    let b = bind_ok (root_or_fault a.0) (λ r. Ok (requests.Shade r)) request a.2 in
    let args_are = one_part-means args a.0 (or_fault_ok (one_part args) Form a.0 a.1) in
    let root_is = root_or_fault-means a.0 b.0 b.1 in
    let whole : codes "shade" ∷ args ≡ request_parts (requests.Shade b.0) = ap (λ (ps : List (List ℕ)). codes "shade" ∷ ps) (args_1 a.0 (root_text b.0) args args_are root_is.0) in
    subst (ReadsRequest (codes "shade" ∷ args)) (ok_is (requests.Shade b.0) request b.2) (whole, root_is.1)

read_deal-means : (args : List (List ℕ)) (request : Request) → read_deal args ≡ Ok request → ReadsRequest (codes "deal" ∷ args) request
unfolding read_deal
read_deal-means args request e =
    let a = bind_ok (or_fault (three_parts args) Form) (λ parts. kind_or_fault parts.0 >>= λ k. number_or_fault parts.1 >>= λ m. tray_or_fault parts.2 >>= λ t. Ok (requests.Deal k m t)) request e in
    let b = bind_ok (kind_or_fault a.0.0) (λ k. number_or_fault a.0.1 >>= λ m. tray_or_fault a.0.2 >>= λ t. Ok (requests.Deal k m t)) request a.2 in
    let c = bind_ok (number_or_fault a.0.1) (λ m. tray_or_fault a.0.2 >>= λ t. Ok (requests.Deal b.0 m t)) request b.2 in
    let d = bind_ok (tray_or_fault a.0.2) (λ t. Ok (requests.Deal b.0 c.0 t)) request c.2 in
    let args_are = three_parts-means args a.0 (or_fault_ok (three_parts args) Form a.0 a.1) in
    let kind_is = kind_or_fault-means a.0.0 b.0 b.1 in
    let most_is = number_or_fault-means a.0.1 c.0 c.1 in
    let tray_is = tray_or_fault-means a.0.2 d.0 d.1 in
    let whole : codes "deal" ∷ args ≡ request_parts (requests.Deal b.0 c.0 d.0) = ap (λ (ps : List (List ℕ)). codes "deal" ∷ ps) (args_3 a.0.0 a.0.1 a.0.2 (kind_text b.0) (decimal c.0) d.0 args args_are kind_is most_is.0 tray_is.0) in
    subst (ReadsRequest (codes "deal" ∷ args)) (ok_is (requests.Deal b.0 c.0 d.0) request d.2) (whole, (most_is.1, tray_is.1))

read_give-means : (args : List (List ℕ)) (request : Request) → read_give args ≡ Ok request → ReadsRequest (codes "give" ∷ args) request
unfolding read_give
read_give-means args request e =
    let a = bind_ok (or_fault (one_part args) Form) (λ part. tray_or_fault part >>= λ t. Ok (requests.Give t)) request e in
    let b = bind_ok (tray_or_fault a.0) (λ t. Ok (requests.Give t)) request a.2 in
    let args_are = one_part-means args a.0 (or_fault_ok (one_part args) Form a.0 a.1) in
    let tray_is = tray_or_fault-means a.0 b.0 b.1 in
    let whole : codes "give" ∷ args ≡ request_parts (requests.Give b.0) = ap (λ (ps : List (List ℕ)). codes "give" ∷ ps) (args_1 a.0 b.0 args args_are tray_is.0) in
    subst (ReadsRequest (codes "give" ∷ args)) (ok_is (requests.Give b.0) request b.2) (whole, tray_is.1)

read_join-means : (args : List (List ℕ)) (request : Request) → read_join args ≡ Ok request → ReadsRequest (codes "join" ∷ args) request
unfolding read_join
read_join-means args request e =
    let a = bind_ok (or_fault (two_parts args) Form) (λ parts. tray_or_fault parts.0 >>= λ i. tray_or_fault parts.1 >>= λ o. Ok (requests.Join i o)) request e in
    let b = bind_ok (tray_or_fault a.0.0) (λ i. tray_or_fault a.0.1 >>= λ o. Ok (requests.Join i o)) request a.2 in
    let c = bind_ok (tray_or_fault a.0.1) (λ o. Ok (requests.Join b.0 o)) request b.2 in
    let args_are = two_parts-means args a.0 (or_fault_ok (two_parts args) Form a.0 a.1) in
    let into_is = tray_or_fault-means a.0.0 b.0 b.1 in
    let other_is = tray_or_fault-means a.0.1 c.0 c.1 in
    let whole : codes "join" ∷ args ≡ request_parts (requests.Join b.0 c.0) = ap (λ (ps : List (List ℕ)). codes "join" ∷ ps) (args_2 a.0.0 a.0.1 b.0 c.0 args args_are into_is.0 other_is.0) in
    subst (ReadsRequest (codes "join" ∷ args)) (ok_is (requests.Join b.0 c.0) request c.2) (whole, (into_is.1, other_is.1))

read_idle-means : (args : List (List ℕ)) (request : Request) → read_idle args ≡ Ok request → ReadsRequest (codes "idle" ∷ args) request
unfolding read_idle
read_idle-means args request e =
    let a = bind_ok (or_fault (one_part args) Form) (λ part. number_or_fault part >>= λ n. Ok (requests.Idle n)) request e in
    let b = bind_ok (number_or_fault a.0) (λ n. Ok (requests.Idle n)) request a.2 in
    let args_are = one_part-means args a.0 (or_fault_ok (one_part args) Form a.0 a.1) in
    let words_is = number_or_fault-means a.0 b.0 b.1 in
    let whole : codes "idle" ∷ args ≡ request_parts (requests.Idle b.0) = ap (λ (ps : List (List ℕ)). codes "idle" ∷ ps) (args_1 a.0 (decimal b.0) args args_are words_is.0) in
    subst (ReadsRequest (codes "idle" ∷ args)) (ok_is (requests.Idle b.0) request b.2) (whole, words_is.1)

read_resize-means : (args : List (List ℕ)) (request : Request) → read_resize args ≡ Ok request → ReadsRequest (codes "resize" ∷ args) request
unfolding read_resize
read_resize-means args request e =
    let a = bind_ok (or_fault (one_part args) Form) (λ part. number_or_fault part >>= λ n. Ok (requests.Resize n)) request e in
    let b = bind_ok (number_or_fault a.0) (λ n. Ok (requests.Resize n)) request a.2 in
    let args_are = one_part-means args a.0 (or_fault_ok (one_part args) Form a.0 a.1) in
    let words_is = number_or_fault-means a.0 b.0 b.1 in
    let whole : codes "resize" ∷ args ≡ request_parts (requests.Resize b.0) = ap (λ (ps : List (List ℕ)). codes "resize" ∷ ps) (args_1 a.0 (decimal b.0) args args_are words_is.0) in
    subst (ReadsRequest (codes "resize" ∷ args)) (ok_is (requests.Resize b.0) request b.2) (whole, words_is.1)

read_tickets-means : (args : List (List ℕ)) (request : Request) → read_tickets args ≡ Ok request → ReadsRequest (codes "tickets" ∷ args) request
unfolding read_tickets
read_tickets-means args request e =
    let a = bind_ok (or_fault (one_part args) Form) (λ part. number_or_fault part >>= λ n. Ok (requests.Tickets n)) request e in
    let b = bind_ok (number_or_fault a.0) (λ n. Ok (requests.Tickets n)) request a.2 in
    let args_are = one_part-means args a.0 (or_fault_ok (one_part args) Form a.0 a.1) in
    let tickets_is = number_or_fault-means a.0 b.0 b.1 in
    let whole : codes "tickets" ∷ args ≡ request_parts (requests.Tickets b.0) = ap (λ (ps : List (List ℕ)). codes "tickets" ∷ ps) (args_1 a.0 (decimal b.0) args args_are tickets_is.0) in
    subst (ReadsRequest (codes "tickets" ∷ args)) (ok_is (requests.Tickets b.0) request b.2) (whole, tickets_is.1)

read_unwatch-means : (args : List (List ℕ)) (request : Request) → read_unwatch args ≡ Ok request → ReadsRequest (codes "unwatch" ∷ args) request
unfolding read_unwatch
read_unwatch-means args request e =
    let a = bind_ok (or_fault (one_part args) Form) (λ part. number_or_fault part >>= λ n. Ok (requests.Unwatch n)) request e in
    let b = bind_ok (number_or_fault a.0) (λ n. Ok (requests.Unwatch n)) request a.2 in
    let args_are = one_part-means args a.0 (or_fault_ok (one_part args) Form a.0 a.1) in
    let ticket_is = number_or_fault-means a.0 b.0 b.1 in
    let whole : codes "unwatch" ∷ args ≡ request_parts (requests.Unwatch b.0) = ap (λ (ps : List (List ℕ)). codes "unwatch" ∷ ps) (args_1 a.0 (decimal b.0) args args_are ticket_is.0) in
    subst (ReadsRequest (codes "unwatch" ∷ args)) (ok_is (requests.Unwatch b.0) request b.2) (whole, ticket_is.1)

listing_request-means : (word : List ℕ) (args : List (List ℕ)) (request : Request) → listing_request word args ≡ Ok request → ReadsRequest (word ∷ args) request
unfolding listing_request
listing_request-means word args request e =
    let dumps : Result Request Kind = cond (bytes_eq word (codes "dump")) (alone args requests.Dump) (Err Word) in
    let stats : Result Request Kind = cond (bytes_eq word (codes "stat")) (alone args requests.Stat) dumps in
    let says : List ℕ → Request → Type 0 = λ w l. ReadsRequest (w ∷ args) l in
    by_keyword says word (codes "trays") (alone args requests.Trays) stats request (alone-means (codes "trays") args requests.Trays request (refl, tt))
    (by_keyword says word (codes "stat") (alone args requests.Stat) dumps request (alone-means (codes "stat") args requests.Stat request (refl, tt))
    (by_keyword says word (codes "dump") (alone args requests.Dump) (Err Word) request (alone-means (codes "dump") args requests.Dump request (refl, tt)) (λ no. absurd cc))) e

watching_request-means : (word : List ℕ) (args : List (List ℕ)) (request : Request) → watching_request word args ≡ Ok request → ReadsRequest (word ∷ args) request
unfolding watching_request
watching_request-means word args request e =
    let gone : Result Request Kind = cond (bytes_eq word (codes "gone")) (alone args requests.Gone) (listing_request word args) in
    let unwatches : Result Request Kind = cond (bytes_eq word (codes "unwatch")) (read_unwatch args) gone in
    let says : List ℕ → Request → Type 0 = λ w l. ReadsRequest (w ∷ args) l in
    by_keyword says word (codes "tickets") (read_tickets args) unwatches request (read_tickets-means args request)
    (by_keyword says word (codes "unwatch") (read_unwatch args) gone request (read_unwatch-means args request)
    (by_keyword says word (codes "gone") (alone args requests.Gone) (listing_request word args) request (alone-means (codes "gone") args requests.Gone request (refl, tt)) (listing_request-means word args request))) e

keyword_request-means : (word : List ℕ) (args : List (List ℕ)) (request : Request) → keyword_request word args ≡ Ok request → ReadsRequest (word ∷ args) request
unfolding keyword_request
keyword_request-means word args request e =
    let watches : Result Request Kind = watching_request word args in
    let resizes : Result Request Kind = cond (bytes_eq word (codes "resize")) (read_resize args) watches in
    let idles : Result Request Kind = cond (bytes_eq word (codes "idle")) (read_idle args) resizes in
    let abandons : Result Request Kind = cond (bytes_eq word (codes "abandon")) (alone args requests.Abandon) idles in
    let recalls : Result Request Kind = cond (bytes_eq word (codes "recall")) (alone args requests.Recall) abandons in
    let flips : Result Request Kind = cond (bytes_eq word (codes "flip")) (alone args requests.Flip) recalls in
    let joins : Result Request Kind = cond (bytes_eq word (codes "join")) (read_join args) flips in
    let gives : Result Request Kind = cond (bytes_eq word (codes "give")) (read_give args) joins in
    let deals : Result Request Kind = cond (bytes_eq word (codes "deal")) (read_deal args) gives in
    let shades : Result Request Kind = cond (bytes_eq word (codes "shade")) (read_shade args) deals in
    let says : List ℕ → Request → Type 0 = λ w l. ReadsRequest (w ∷ args) l in
    by_keyword says word (codes "begin") (alone args requests.Begin) shades request (alone-means (codes "begin") args requests.Begin request (refl, tt))
    (by_keyword says word (codes "shade") (read_shade args) deals request (read_shade-means args request)
    (by_keyword says word (codes "deal") (read_deal args) gives request (read_deal-means args request)
    (by_keyword says word (codes "give") (read_give args) joins request (read_give-means args request)
    (by_keyword says word (codes "join") (read_join args) flips request (read_join-means args request)
    (by_keyword says word (codes "flip") (alone args requests.Flip) recalls request (alone-means (codes "flip") args requests.Flip request (refl, tt))
    (by_keyword says word (codes "recall") (alone args requests.Recall) abandons request (alone-means (codes "recall") args requests.Recall request (refl, tt))
    (by_keyword says word (codes "abandon") (alone args requests.Abandon) idles request (alone-means (codes "abandon") args requests.Abandon request (refl, tt))
    (by_keyword says word (codes "idle") (read_idle args) resizes request (read_idle-means args request)
    (by_keyword says word (codes "resize") (read_resize args) watches request (read_resize-means args request) (watching_request-means word args request)))))))))) e

-- a line that begins with an owner
read_watch-means : (owner : List ℕ) (args : List (List ℕ)) (request : Request) → read_watch owner args ≡ Ok request → ReadsRequest (owner ∷ codes "watch" ∷ args) request
unfolding read_watch
read_watch-means owner args request e =
    let a = bind_ok (or_fault (one_part args) Form) (λ part. number_or_fault owner >>= λ o. root_or_fault part >>= λ r. Ok (requests.Watch o r)) request e in
    let b = bind_ok (number_or_fault owner) (λ o. root_or_fault a.0 >>= λ r. Ok (requests.Watch o r)) request a.2 in
    let c = bind_ok (root_or_fault a.0) (λ r. Ok (requests.Watch b.0 r)) request b.2 in
    let args_are = one_part-means args a.0 (or_fault_ok (one_part args) Form a.0 a.1) in
    let owner_is = number_or_fault-means owner b.0 b.1 in
    let root_is = root_or_fault-means a.0 c.0 c.1 in
    let whole : owner ∷ codes "watch" ∷ args ≡ request_parts (requests.Watch b.0 c.0) = after_owner owner (decimal b.0) (codes "watch") args (root_text c.0 ∷ []) owner_is.0 (args_1 a.0 (root_text c.0) args args_are root_is.0) in
    subst (ReadsRequest (owner ∷ codes "watch" ∷ args)) (ok_is (requests.Watch b.0 c.0) request c.2) (whole, (owner_is.1, root_is.1))

owned_request-means : (first : List ℕ) (rest : List (List ℕ)) (request : Request) → owned_request first rest ≡ Ok request → ReadsRequest (first ∷ rest) request
unfolding owned_request
owned_request-means first [] request e = absurd cc
owned_request-means first (word ∷ args) request e =
    let commands : Result Request Kind = command_or_fault first (word ∷ args) >>= λ owned. Ok (requests.Command owned.0 owned.1) in
    let says : List ℕ → Request → Type 0 = λ w l. ReadsRequest (first ∷ w ∷ args) l in
    by_keyword says word (codes "watch") (read_watch first args) commands request (read_watch-means first args request) (command_request-means first (word ∷ args) request) e

by_owner : (t : Bool) (first : List ℕ) (rest : List (List ℕ)) (request : Request) → cond t (owned_request first rest) (keyword_request first rest) ≡ Ok request → ReadsRequest (first ∷ rest) request
by_owner true first rest request e = owned_request-means first rest request e
by_owner false first rest request e = keyword_request-means first rest request e

request_of_parts-means : (parts : List (List ℕ)) (request : Request) → request_of_parts parts ≡ Ok request → ReadsRequest parts request
unfolding request_of_parts
request_of_parts-means [] request e = absurd cc
request_of_parts-means (first ∷ rest) request e = by_owner (begins_with_digit first) first rest request e

pub request_or_fault-means : (number : ℕ) (raw : RawLine) (request : Request) → request_or_fault number raw ≡ Ok request → (raw_text raw ≡ spell_request request) × RequestFits request
unfolding request_or_kind
request_or_fault-means number raw request e =
    let a = bind_ok (checked_parts number raw) request_of_parts request (with_fault_ok number (checked_parts number raw >>= request_of_parts) request e) in
    let b = request_of_parts-means a.0 request a.2 in
    (checked_parts-means number raw a.0 a.1 ∙ ap spell_parts b.0, b.1)

pub header_or_fault-means : (raw : RawLine) (h : declared.Header.Header) → header_or_fault raw ≡ Ok h → (raw_text raw ≡ spell_header h) × HeaderFits h
unfolding header_or_kind
header_or_fault-means raw h e =
    let a = bind_ok (checked_parts 1 raw) header_of_parts h (with_fault_ok 1 (checked_parts 1 raw >>= header_of_parts) h e) in
    let b = header_of_parts-means a.0 h a.2 in
    (checked_parts-means 1 raw a.0 a.1 ∙ ap spell_parts b.0, b.1)

-- the requests of the lines
record ReadAs (raws : List RawLine) (number : ℕ) (requests : List Request) : Type 0 where
  text : flat_map raw_text raws ≡ flat_map spell_request requests
  fit : AllByRecursion RequestFits requests
  few : number + length requests ≤ 1048577

requests_from-means : (raws : List RawLine) (number : ℕ) (requests : List Request) → number ≤ 1048577 → requests_from number raws ≡ Ok requests → ReadAs raws number requests
unfolding requests_from
requests_from-means [] number requests small e = subst (ReadAs [] number) (ok_is [] requests e) (record { text = refl; fit = tt; few = omega arith })
requests_from-means (raw ∷ raws) number requests small e =
    let a = bind_ok (request_or_fault number raw) (λ first. requests_from (number + 1) raws >>= λ others. Ok (first ∷ others)) requests e in
    let b = bind_ok (requests_from (number + 1) raws) (λ others. Ok (a.0 ∷ others)) requests a.2 in
    let within = number_within number raw a.0 (sym a.1) in
    let first = request_or_fault-means number raw a.0 a.1 in
    let others = requests_from-means raws (number + 1) b.0 (omega (arith, within)) b.1 in
    let text : flat_map raw_text (raw ∷ raws) ≡ flat_map spell_request (a.0 ∷ b.0) = ap (λ (t : List ℕ). t ++ flat_map raw_text raws) first.0 ∙ ap (λ (t : List ℕ). spell_request a.0 ++ t) others.text in
    subst (ReadAs (raw ∷ raws) number) (ok_is (a.0 ∷ b.0) requests b.2) (record { text = text; fit = (first.1, others.fit); few = omega (arith, others.few) })

script_or_fault-means : (raws : List RawLine) (script : Script) → script_or_fault raws ≡ Ok script → IsScript script × (flat_map raw_text raws ≡ spelling script)
unfolding script_or_fault
script_or_fault-means [] script e = absurd cc
script_or_fault-means (raw ∷ raws) script e =
    let a = bind_ok (header_or_fault raw) (λ header. requests_from 2 raws >>= λ requests. Ok (record { header = header; requests = requests })) script e in
    let b = bind_ok (requests_from 2 raws) (λ requests. Ok (record { header = a.0; requests = requests })) script a.2 in
    let first = header_or_fault-means raw a.0 a.1 in
    let others = requests_from-means raws 2 b.0 (omega arith) b.1 in
    let made : Script = record { header = a.0; requests = b.0 } in
    let text : flat_map raw_text (raw ∷ raws) ≡ spelling made = ap (λ (t : List ℕ). t ++ flat_map raw_text raws) first.0 ∙ ap (λ (t : List ℕ). spell_header a.0 ++ t) others.text in
    subst (λ (s : Script). IsScript s × (flat_map raw_text (raw ∷ raws) ≡ spelling s)) (ok_is made script b.2) (record { header = first.1; requests = others.fit; few = omega (arith, others.few) }, text)

-- a header and requests that were read make a trace that fits
pub IsScript-made : (bytes rest : List ℕ) (raw : RawLine) (h : declared.Header.Header) (ls : List Request) → lines_of bytes ≡ raw ∷ lines_of rest → Ok h ≡ header_or_fault raw → requests_from 2 (lines_of rest) ≡ Ok ls → IsScript (record { header = h; requests = ls })
unfolding script_or_fault
IsScript-made bytes rest raw h ls is first others =
    let made : Script = record { header = h; requests = ls } in
    let read : script_or_fault (lines_of bytes) ≡ Ok made =
    ap script_or_fault is
    ∙ ap (λ (r : Result declared.Header.Header TraceFault). r >>= λ header. requests_from 2 (lines_of rest) >>= λ requests. Ok (record { header = header; requests = requests })) (sym first)
    ∙ ap (λ (r : Result (List Request) TraceFault). r >>= λ requests. Ok (record { header = h; requests = requests })) others in
    (script_or_fault-means (lines_of bytes) made read).0

pub trace_of-means : (bytes : List ℕ) (script : Script) → trace_of bytes ≡ Ok script → IsScript script × (bytes ≡ spelling script)
trace_of-means bytes script e =
    let h = script_or_fault-means (lines_of bytes) script e in
    (h.0, sym (lines_text bytes) ∙ h.1)

pub parsed_is_spelled : (bytes : List ℕ) (r : Result Script ParseError) → Gives (λ x. x) r (trace_of bytes) → IfOk r (λ script. IsScript script × (bytes ≡ spelling script))
parsed_is_spelled bytes (Ok script) given = trace_of-means bytes script given
parsed_is_spelled bytes (Err e) given = tt
