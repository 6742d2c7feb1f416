-- The fault that reading finds comes first in the order of the format.
use Rattle.std.proofs.Common.{◌≡◌, ℕ, ℤ, ◌+◌, ◌<◌, ◌⊎◌, Bool, true, false, cond, ltb, eqb, not, ◌||◌, List, [], ◌∷◌, ◌++◌, length, Option, Some, None, Result, Ok, Err, refl, sym, ap, subst, ◌∙◌, arith, inl, inr}
use Rattle.std.specs.Bool.{Decides}
use Rattle.std.specs.Prelude.{codes, ⊤}
use Rattle.std.specs.Str.{bytes_eq}
use Rattle.std.proofs.lemmas.Bool.{false≢true}
use Rattle.std.proofs.lemmas.Bool.Decides.{Decides-or, Decides-ltb, Decides-not, not_from_Decides, Decides-eqb}
use Rattle.std.proofs.lemmas.List.{length-append}
use Rattle.std.proofs.lemmas.Slice.Eq.{bytes_eq-Decides}
use Rattle.rh_layout.specs.declared.command.Command.{Command}
use Rattle.rh_layout.specs.declared.command.Operand.{Operand}
use Rattle.rh_layout.specs.declared.command.Operand.TheVariants as operands
use Rattle.rh_layout.specs.declared.command.RootId.{RootId}
use Rattle.rh_layout.specs.declared.kind.Kind as pieces
use Rattle.rh_layout.specs.declared.kind.Kind.TheVariants.{Copies, Entries}
use Rattle.rh_text.specs.Number.{number_of, integer_of}
use Rattle.rh_text.specs.Parts.{parts_of, is_formed, has_dot, begins_with_digit, one_part, two_parts, three_parts, six_parts, IsFormedLine}
use Rattle.rh_text.specs.RawLine.{RawLine, lines_of, raw_text}
use Rattle.rh_text.specs.Root.{root_of}
use Rattle.rh_text.specs.Stages.{◌when◌, ◌▸◌, in_lines, IsFirst, IsLeast}
use Rattle.rh_text.specs.Steps.{◌>>=◌, or_fault, with_fault}
use Rattle.rh_text.specs.lemmas.Formed.{is_formed-Decides, not_ended}
use Rattle.rh_text.specs.lemmas.Integers.{integer_means, integer_of-decimal}
use Rattle.rh_text.specs.lemmas.Numbers.{number_means, number_of-decimal}
use Rattle.rh_text.specs.lemmas.Roots.{root_means, root_of-text}
use Rattle.rh_text.specs.lemmas.Stages.{Judges, JudgesLines, judges-end, judges-here, judges-later, judges-test, judges-found, judges-line, judges-no_lines, judges-made, judges-step, in_lines-from}
use Rattle.rh_text.specs.lemmas.Steps.{none_some, bind_bind}
use Rattle.rh_syntax.specs.declared.fault.Kind.{Kind}
use Rattle.rh_syntax.specs.declared.fault.Kind.TheVariants.{Empty, Long, Cut, Form, Header, Word, Number, Root, Tray}
use Rattle.rh_syntax.specs.declared.fault.TraceFault.{TraceFault}
use Rattle.rh_syntax.specs.declared.line as declared
use Rattle.rh_syntax.specs.declared.request.Request.{Request}
use Rattle.rh_syntax.specs.declared.request.Request.TheVariants as requests
use Rattle.rh_syntax.specs.Faults.{Sort, keyword, number, root, operand, copies_or_entries, tray, header_form, command_forms, owned_forms, keyword_forms, lookup, IsNumber, IsRoot, IsInteger, HasDot, IsDigitFirst, each_part, form_faults, BeginsWithOwner, LacksKeyword, form_of, owned_part_faults, command_part_faults, command_faults, keyword_part_faults, line_part_faults, IsFirstPart, header_part_faults, raw_line_faults, header_faults, line_faults, trace_faults}
use Rattle.rh_syntax.specs.Reading.{number_or_fault, integer_or_fault, root_or_fault, operand_or_fault, read_alloc, read_raw, read_load, read_store, read_copy, read_same, read_drop, command_or_fault, owned_command, single_command, alone, tray_or_fault, kind_or_fault, read_shade, read_deal, read_give, read_join, read_idle, read_resize, read_tickets, read_unwatch, listing_request, watching_request, keyword_request, read_watch, owned_request, request_of_parts, sizes_of, header_of_parts, checked_parts, fault_at, request_or_kind, header_or_kind, requests_from, script_or_fault, trace_of}
use Rattle.rh_syntax.specs.Spelling.{Script, spell_request, spell_header, RequestFits, HeaderFits}
use Rattle.rh_syntax.specs.TrayName.{tray_name_of, IsTrayName}
use Rattle.rh_syntax.specs.lemmas.ReadIsSpelled.{request_or_fault-means, header_or_fault-means}
use Rattle.rh_syntax.specs.lemmas.TrayNames.{in_range-Decides, name-from_read, read-from_name}

-- ---- numbers, roots and operands

pub no_number : (part : List ℕ) → number_of part ≡ None → ¬ IsNumber part
no_number part e h = none_some (number_of part) h.0 e (ap number_of h.2 ∙ number_of-decimal h.0 h.1)

pub number_is : (part : List ℕ) (n : ℕ) → number_of part ≡ Some n → IsNumber part
number_is part n e = let m = number_means part n e in (n, m.1, m.0)

judges-number : {A : Type 0} (part : List ℕ) (others : ℕ → Kind → Type 0) (f : ℕ → Result A Kind) → ((n : ℕ) → Judges others (f n)) → Judges (Number when (¬ IsNumber part) ▸ others) (number_or_fault part >>= f)
judges-number part others f next = judges-found (number_of part) Number (¬ IsNumber part) others f (no_number part) (λ n e fails. fails (number_is part n e)) (λ n e. next n)

pub no_root : (part : List ℕ) → root_of part ≡ None → ¬ IsRoot part
no_root part e h = none_some (root_of part) h.0 e (ap root_of h.2 ∙ root_of-text h.0 h.1)

pub root_is : (part : List ℕ) (r : RootId) → root_of part ≡ Some r → IsRoot part
root_is part r e = let m = root_means part r e in (r, m.1, m.0)

judges-root : {A : Type 0} (part : List ℕ) (others : ℕ → Kind → Type 0) (f : RootId → Result A Kind) → ((r : RootId) → Judges others (f r)) → Judges (Root when (¬ IsRoot part) ▸ others) (root_or_fault part >>= f)
judges-root part others f next = judges-found (root_of part) Root (¬ IsRoot part) others f (no_root part) (λ r e fails. fails (root_is part r e)) (λ r e. next r)

pub no_integer : (part : List ℕ) → integer_of part ≡ None → ¬ IsInteger part
no_integer part e h = none_some (integer_of part) h.0 e (ap integer_of h.2 ∙ integer_of-decimal h.0 h.1)

pub integer_is : (part : List ℕ) (n : ℤ) → integer_of part ≡ Some n → IsInteger part
integer_is part n e = let m = integer_means part n e in (n, m.1, m.0)

dot_step : (here there : Bool) (P Q : Type 0) → Decides here P → Decides there Q → Decides (here || there) (P ⊎ Q)
dot_step here there P Q h t = Decides-or here there h t

pub has_dot-Decides : (part : List ℕ) → Decides (has_dot part) (HasDot part)
has_dot-Decides [] = (λ e. false≢true e, λ h. absurd h)
has_dot-Decides (b ∷ bs) = dot_step (eqb b 46) (has_dot bs) (b ≡ 46) (HasDot bs) (Decides-eqb b 46) (has_dot-Decides bs)

-- nil has no dot
pub nil_dotless : (part : List ℕ) → part ≡ codes "nil" → ¬ HasDot part
nil_dotless part e h = false≢true (ap has_dot (sym e) ∙ (has_dot-Decides part).1 h)

abbrev operand_faults : List ℕ → (ℕ → Kind → Type 0) → ℕ → Kind → Type 0
operand_faults part others = Root when (HasDot part × (¬ IsRoot part)) ▸ Number when ((¬ HasDot part) × ((part ≡ codes "nil") → ⊥) × (¬ IsInteger part)) ▸ others

module _ {A : Type 0} (part : List ℕ) (others : ℕ → Kind → Type 0) (f : Operand → Result A Kind) (next : (x : Operand) → Judges others (f x)) where
  operand_root : (dotted : HasDot part) (bare : ¬ (part ≡ codes "nil")) → Judges (operand_faults part others) ((root_or_fault part >>= λ r. Ok (operands.Root r)) >>= f)
  operand_root dotted bare =
      let number_stage = Number when ((¬ HasDot part) × ((part ≡ codes "nil") → ⊥) × (¬ IsInteger part)) in
      subst (Judges (operand_faults part others)) (sym (bind_bind (root_or_fault part) (λ r. Ok (operands.Root r)) f))
      (judges-found (root_of part) Root (HasDot part × (¬ IsRoot part)) (Number when ((¬ HasDot part) × ((part ≡ codes "nil") → ⊥) × (¬ IsInteger part)) ▸ others) (λ r. f (operands.Root r))
      (λ e. (dotted, no_root part e)) (λ r e h. h.1 (root_is part r e))
      (λ r e. judges-later Number ((¬ HasDot part) × ((part ≡ codes "nil") → ⊥) × (¬ IsInteger part)) others (f (operands.Root r)) (λ h. h.0 dotted) (next (operands.Root r))))

  operand_integer : (dotless : ¬ HasDot part) (bare : ¬ (part ≡ codes "nil")) → Judges (operand_faults part others) ((integer_or_fault part >>= λ n. Ok (operands.Int n)) >>= f)
  operand_integer dotless bare =
      subst (Judges (operand_faults part others)) (sym (bind_bind (integer_or_fault part) (λ n. Ok (operands.Int n)) f))
      (judges-later Root (HasDot part × (¬ IsRoot part)) (Number when ((¬ HasDot part) × ((part ≡ codes "nil") → ⊥) × (¬ IsInteger part)) ▸ others) (integer_or_fault part >>= λ n. f (operands.Int n)) (λ h. dotless h.0)
      (judges-found (integer_of part) Number ((¬ HasDot part) × ((part ≡ codes "nil") → ⊥) × (¬ IsInteger part)) others (λ n. f (operands.Int n))
      (λ e. (dotless, bare, no_integer part e)) (λ n e h. h.2 (integer_is part n e))
      (λ n e. next (operands.Int n))))

  operand_nil : part ≡ codes "nil" → Judges (operand_faults part others) (f operands.Nil)
  operand_nil nil =
      judges-later Root (HasDot part × (¬ IsRoot part)) (Number when ((¬ HasDot part) × ((part ≡ codes "nil") → ⊥) × (¬ IsInteger part)) ▸ others) (f operands.Nil) (λ h. nil_dotless part nil h.0)
      (judges-later Number ((¬ HasDot part) × ((part ≡ codes "nil") → ⊥) × (¬ IsInteger part)) others (f operands.Nil) (λ h. h.1 nil) (next operands.Nil))

  operand_by : (nil dot : Bool) → Decides nil (part ≡ codes "nil") → Decides dot (HasDot part) → Judges (operand_faults part others) (cond nil (Ok operands.Nil) (cond dot (root_or_fault part >>= λ r. Ok (operands.Root r)) (integer_or_fault part >>= λ n. Ok (operands.Int n))) >>= f)
  operand_by true dot nils dots = operand_nil (nils.0 refl)
  operand_by false true nils dots = operand_root (dots.0 refl) (not_from_Decides false nils refl)
  operand_by false false nils dots = operand_integer (not_from_Decides false dots refl) (not_from_Decides false nils refl)

  judges-operand : Judges (operand_faults part others) (operand_or_fault part >>= f)
  unfolding operand_or_fault
  judges-operand = operand_by (bytes_eq part (codes "nil")) (has_dot part) (bytes_eq-Decides part (codes "nil")) (has_dot-Decides part)

-- ---- names of trays, and what is dealt

pub no_tray : (part : List ℕ) → tray_name_of part ≡ None → ¬ IsTrayName part
no_tray part e h = none_some (tray_name_of part) part e (read-from_name part h)

pub tray_is : (part name : List ℕ) → tray_name_of part ≡ Some name → IsTrayName part
tray_is part name e = let m = name-from_read part name e in subst IsTrayName m.0 m.1

judges-tray : {A : Type 0} (part : List ℕ) (others : ℕ → Kind → Type 0) (f : List ℕ → Result A Kind) → ((name : List ℕ) → Judges others (f name)) → Judges (Tray when (¬ IsTrayName part) ▸ others) (tray_or_fault part >>= f)
judges-tray part others f next = judges-found (tray_name_of part) Tray (¬ IsTrayName part) others f (no_tray part) (λ name e fails. fails (tray_is part name e)) (λ name e. next name)

-- neither of the words that say what is dealt
abbrev IsNeither : List ℕ → Type 0
IsNeither part = (¬ (part ≡ codes "copies")) × (¬ (part ≡ codes "entries"))

module _ {A : Type 0} (part : List ℕ) (others : ℕ → Kind → Type 0) (f : pieces.Kind → Result A Kind) (next : (x : pieces.Kind) → Judges others (f x)) where
  kind_by : (copies entries : Bool) → Decides copies (part ≡ codes "copies") → Decides entries (part ≡ codes "entries") → Judges (Word when IsNeither part ▸ others) (cond copies (Ok Copies) (cond entries (Ok Entries) (Err Word)) >>= f)
  kind_by true entries copied entered = judges-later Word (IsNeither part) others (f Copies) (λ h. h.0 (copied.0 refl)) (next Copies)
  kind_by false true copied entered = judges-later Word (IsNeither part) others (f Entries) (λ h. h.1 (entered.0 refl)) (next Entries)
  kind_by false false copied entered = judges-here Word (IsNeither part) others (not_from_Decides false copied refl, not_from_Decides false entered refl)

  judges-kind : Judges (Word when IsNeither part ▸ others) (kind_or_fault part >>= f)
  unfolding kind_or_fault
  judges-kind = kind_by (bytes_eq part (codes "copies")) (bytes_eq part (codes "entries")) (bytes_eq-Decides part (codes "copies")) (bytes_eq-Decides part (codes "entries"))

-- ---- so many parts

-- what stands before the arguments: an owner and a keyword, or a keyword alone
module _ {A : Type 0} (before : List Sort) (first : List (List ℕ)) (even : length first ≡ length before) where
  counted : (sorts : List Sort) (args : List (List ℕ)) (r : Result A Kind) → length args ≡ length sorts → Judges (each_part (before ++ sorts) (first ++ args)) r → Judges (form_faults (Some (before ++ sorts)) (first ++ args)) r
  counted sorts args r count judged = judges-later Form (¬ (length (first ++ args) ≡ length (before ++ sorts))) (each_part (before ++ sorts) (first ++ args)) r (λ fails. fails (omega (arith, even, count, length-append first args, length-append before sorts))) judged

  miscounted : (sorts : List Sort) (args : List (List ℕ)) → ¬ (length args ≡ length sorts) → Judges {A = A} (form_faults (Some (before ++ sorts)) (first ++ args)) (Err Form)
  miscounted sorts args differs = judges-here Form (¬ (length (first ++ args) ≡ length (before ++ sorts))) (each_part (before ++ sorts) (first ++ args)) (λ e. differs (omega (arith, even, e, length-append first args, length-append before sorts)))

  judges-one : (s : Sort) (args : List (List ℕ)) (f : List ℕ → Result A Kind) → ((a : List ℕ) → Judges (each_part (before ++ s ∷ []) (first ++ a ∷ [])) (f a))
      → Judges (form_faults (Some (before ++ s ∷ [])) (first ++ args)) (or_fault (one_part args) Form >>= f)
  unfolding one_part
  judges-one s [] f next = miscounted (s ∷ []) [] (λ e. absurd (omega (arith, e)))
  judges-one s (a ∷ []) f next = counted (s ∷ []) (a ∷ []) (f a) refl (next a)
  judges-one s (a ∷ b ∷ args) f next = miscounted (s ∷ []) (a ∷ b ∷ args) (λ e. absurd (omega (arith, e)))

  judges-two : (s t : Sort) (args : List (List ℕ)) (f : List ℕ × List ℕ → Result A Kind) → ((a b : List ℕ) → Judges (each_part (before ++ s ∷ t ∷ []) (first ++ a ∷ b ∷ [])) (f (a, b)))
      → Judges (form_faults (Some (before ++ s ∷ t ∷ [])) (first ++ args)) (or_fault (two_parts args) Form >>= f)
  unfolding two_parts
  judges-two s t [] f next = miscounted (s ∷ t ∷ []) [] (λ e. absurd (omega (arith, e)))
  judges-two s t (a ∷ []) f next = miscounted (s ∷ t ∷ []) (a ∷ []) (λ e. absurd (omega (arith, e)))
  judges-two s t (a ∷ b ∷ []) f next = counted (s ∷ t ∷ []) (a ∷ b ∷ []) (f (a, b)) refl (next a b)
  judges-two s t (a ∷ b ∷ c ∷ args) f next = miscounted (s ∷ t ∷ []) (a ∷ b ∷ c ∷ args) (λ e. absurd (omega (arith, e)))

  judges-three : (s t u : Sort) (args : List (List ℕ)) (f : List ℕ × List ℕ × List ℕ → Result A Kind) → ((a b c : List ℕ) → Judges (each_part (before ++ s ∷ t ∷ u ∷ []) (first ++ a ∷ b ∷ c ∷ [])) (f (a, b, c)))
      → Judges (form_faults (Some (before ++ s ∷ t ∷ u ∷ [])) (first ++ args)) (or_fault (three_parts args) Form >>= f)
  unfolding three_parts
  judges-three s t u [] f next = miscounted (s ∷ t ∷ u ∷ []) [] (λ e. absurd (omega (arith, e)))
  judges-three s t u (a ∷ []) f next = miscounted (s ∷ t ∷ u ∷ []) (a ∷ []) (λ e. absurd (omega (arith, e)))
  judges-three s t u (a ∷ b ∷ []) f next = miscounted (s ∷ t ∷ u ∷ []) (a ∷ b ∷ []) (λ e. absurd (omega (arith, e)))
  judges-three s t u (a ∷ b ∷ c ∷ []) f next = counted (s ∷ t ∷ u ∷ []) (a ∷ b ∷ c ∷ []) (f (a, b, c)) refl (next a b c)
  judges-three s t u (a ∷ b ∷ c ∷ d ∷ args) f next = miscounted (s ∷ t ∷ u ∷ []) (a ∷ b ∷ c ∷ d ∷ args) (λ e. absurd (omega (arith, e)))

-- ---- the command lines, keyword by keyword

abbrev owner_and_keyword : List Sort
owner_and_keyword = number ∷ keyword ∷ []

judges-alloc : (owner word : List ℕ) (args : List (List ℕ)) → Judges (form_faults (Some (number ∷ keyword ∷ root ∷ number ∷ [])) (owner ∷ word ∷ args)) (read_alloc owner args)
unfolding read_alloc
judges-alloc owner word args = judges-two owner_and_keyword (owner ∷ word ∷ []) refl root number args _ (λ a b.
    judges-number owner _ _ (λ o. judges-root a _ _ (λ r. judges-number b _ _ (λ n. judges-end _))))

judges-raw : (owner word : List ℕ) (args : List (List ℕ)) → Judges (form_faults (Some (number ∷ keyword ∷ root ∷ number ∷ [])) (owner ∷ word ∷ args)) (read_raw owner args)
unfolding read_raw
judges-raw owner word args = judges-two owner_and_keyword (owner ∷ word ∷ []) refl root number args _ (λ a b.
    judges-number owner _ _ (λ o. judges-root a _ _ (λ r. judges-number b _ _ (λ n. judges-end _))))

judges-load : (owner word : List ℕ) (args : List (List ℕ)) → Judges (form_faults (Some (number ∷ keyword ∷ root ∷ root ∷ number ∷ [])) (owner ∷ word ∷ args)) (read_load owner args)
unfolding read_load
judges-load owner word args = judges-three owner_and_keyword (owner ∷ word ∷ []) refl root root number args _ (λ a b c.
    judges-number owner _ _ (λ o. judges-root a _ _ (λ r. judges-root b _ _ (λ s. judges-number c _ _ (λ n. judges-end _)))))

judges-store : (owner word : List ℕ) (args : List (List ℕ)) → Judges (form_faults (Some (number ∷ keyword ∷ root ∷ number ∷ operand ∷ [])) (owner ∷ word ∷ args)) (read_store owner args)
unfolding read_store
judges-store owner word args = judges-three owner_and_keyword (owner ∷ word ∷ []) refl root number operand args _ (λ a b c.
    judges-number owner _ _ (λ o. judges-root a _ _ (λ r. judges-number b _ _ (λ n. judges-operand c _ _ (λ x. judges-end _)))))

judges-copy : (owner word : List ℕ) (args : List (List ℕ)) → Judges (form_faults (Some (number ∷ keyword ∷ root ∷ root ∷ [])) (owner ∷ word ∷ args)) (read_copy owner args)
unfolding read_copy
judges-copy owner word args = judges-two owner_and_keyword (owner ∷ word ∷ []) refl root root args _ (λ a b.
    judges-number owner _ _ (λ o. judges-root a _ _ (λ r. judges-root b _ _ (λ s. judges-end _))))

judges-same : (owner word : List ℕ) (args : List (List ℕ)) → Judges (form_faults (Some (number ∷ keyword ∷ root ∷ root ∷ [])) (owner ∷ word ∷ args)) (read_same owner args)
unfolding read_same
judges-same owner word args = judges-two owner_and_keyword (owner ∷ word ∷ []) refl root root args _ (λ a b.
    judges-number owner _ _ (λ o. judges-root a _ _ (λ r. judges-root b _ _ (λ s. judges-end _))))

judges-drop : (owner word : List ℕ) (args : List (List ℕ)) → Judges (form_faults (Some (number ∷ keyword ∷ root ∷ [])) (owner ∷ word ∷ args)) (read_drop owner args)
unfolding read_drop
judges-drop owner word args = judges-one owner_and_keyword (owner ∷ word ∷ []) refl root args _ (λ a.
    judges-number owner _ _ (λ o. judges-root a _ _ (λ r. judges-end _)))

-- ---- the keyword

-- Word, where what would name the form is lacking, and then the faults of the form
abbrev word_faults : (Option (List Sort) → Type 0) → List (List ℕ) → Option (List Sort) → ℕ → Kind → Type 0
word_faults Lacks parts form = Word when (Lacks form) ▸ form_faults form parts

some_none : {A : Type 0} (x : A) → ◌≡◌ {A = Option A} (Some x) None → ⊥
some_none x e = cc

module _ {A : Type 0} (Lacks : Option (List Sort) → Type 0) (parts : List (List ℕ)) where
  -- one keyword more: the form where the word is this one, or else that of the other keywords
  by_keyword : ((form : List Sort) → ¬ Lacks (Some form)) → (t : Bool) (form : List Sort) (o : Option (List Sort)) (this others : Result A Kind)
      → Judges (form_faults (Some form) parts) this → Judges (word_faults Lacks parts o) others → Judges (word_faults Lacks parts (cond t (Some form) o)) (cond t this others)
  by_keyword known true form o this others here there = judges-later Word (Lacks (Some form)) (form_faults (Some form) parts) this (known form) here
  by_keyword known false form o this others here there = there

  unknown : Lacks None → Judges {A = A} (word_faults Lacks parts None) (Err Word)
  unknown lacks = judges-here Word (Lacks None) (form_faults None parts) lacks

-- ---- the lines that begin with an owner

-- no owner stands first, or its keyword names no form
abbrev LacksCommand : List (List ℕ) → Option (List Sort) → Type 0
LacksCommand parts form = (¬ BeginsWithOwner parts) ⊎ (form ≡ None)

owned_form : (parts : List (List ℕ)) → BeginsWithOwner parts → (form : List Sort) → ¬ LacksCommand parts (Some form)
owned_form parts owned form h = elim h [ inl bare ↦ bare owned | inr e ↦ some_none form e ]

judges-keyword : (owner word : List ℕ) (args : List (List ℕ)) → IsDigitFirst owner → Judges (word_faults (LacksCommand (owner ∷ word ∷ args)) (owner ∷ word ∷ args) (lookup word command_forms)) (command_or_fault owner (word ∷ args))
unfolding command_or_fault
judges-keyword owner word args owned =
    let parts = owner ∷ word ∷ args in
    let known = owned_form parts owned in
    by_keyword (LacksCommand parts) parts known (bytes_eq word (codes "alloc")) _ _ _ _ (judges-alloc owner word args)
    (by_keyword (LacksCommand parts) parts known (bytes_eq word (codes "raw")) _ _ _ _ (judges-raw owner word args)
    (by_keyword (LacksCommand parts) parts known (bytes_eq word (codes "load")) _ _ _ _ (judges-load owner word args)
    (by_keyword (LacksCommand parts) parts known (bytes_eq word (codes "store")) _ _ _ _ (judges-store owner word args)
    (by_keyword (LacksCommand parts) parts known (bytes_eq word (codes "copy")) _ _ _ _ (judges-copy owner word args)
    (by_keyword (LacksCommand parts) parts known (bytes_eq word (codes "same")) _ _ _ _ (judges-same owner word args)
    (by_keyword (LacksCommand parts) parts known (bytes_eq word (codes "drop")) _ _ _ _ (judges-drop owner word args)
    (unknown (LacksCommand parts) parts (inr refl))))))))

judges-command : (owner : List ℕ) (rest : List (List ℕ)) → IsDigitFirst owner → Judges (command_part_faults (owner ∷ rest)) (command_or_fault owner rest)
unfolding command_or_fault
judges-command owner [] owned = judges-here Form (LacksKeyword (owner ∷ [])) (word_faults (LacksCommand (owner ∷ [])) (owner ∷ []) None) owned
judges-command owner (word ∷ args) owned =
    let parts = owner ∷ word ∷ args in
    judges-later Form (LacksKeyword parts) (word_faults (LacksCommand parts) parts (lookup word command_forms)) (command_or_fault owner (word ∷ args)) (λ h. h) (judges-keyword owner word args owned)

no_keyword : (first : List ℕ) (rest : List (List ℕ)) → ¬ IsDigitFirst first → LacksKeyword (first ∷ rest) → ⊥
no_keyword first [] bare h = bare h
no_keyword first (word ∷ args) bare h = h

judges-no_owner : (first : List ℕ) (rest : List (List ℕ)) → ¬ IsDigitFirst first → Judges {A = ℕ × Command} (command_part_faults (first ∷ rest)) (Err Word)
judges-no_owner first rest bare =
    let parts = first ∷ rest in
    judges-later Form (LacksKeyword parts) (word_faults (LacksCommand parts) parts (form_of command_forms parts)) (Err Word) (no_keyword first rest bare)
    (judges-here Word (LacksCommand parts (form_of command_forms parts)) (form_faults (form_of command_forms parts) parts) (inl bare))

pub begins_with_digit-Decides : (part : List ℕ) → Decides (begins_with_digit part) (IsDigitFirst part)
begins_with_digit-Decides [] = (λ e. false≢true e, λ h. absurd h)
begins_with_digit-Decides (b ∷ bs) = in_range-Decides 48 57 b

by_first : (t : Bool) (first : List ℕ) (rest : List (List ℕ)) → Decides t (IsDigitFirst first) → Judges (command_part_faults (first ∷ rest)) (cond t (command_or_fault first rest) (Err Word))
by_first true first rest decides = judges-command first rest (decides.0 refl)
by_first false first rest decides = judges-no_owner first rest (not_from_Decides false decides refl)

pub judges-owned : (parts : List (List ℕ)) → Judges (command_part_faults parts) (owned_command parts)
unfolding owned_command
judges-owned [] = judges-here Form ⊤ (word_faults (LacksCommand []) [] None) tt
judges-owned (first ∷ rest) = by_first (begins_with_digit first) first rest (begins_with_digit-Decides first)

-- ---- the lines that begin with their keyword

cons_nil : {A : Type 0} (x : A) (xs : List A) → ◌≡◌ {A = List A} (x ∷ xs) [] → ⊥
cons_nil x xs e = cc

judges-alone : (word : List ℕ) (args : List (List ℕ)) (request : Request) → Judges (form_faults (Some (keyword ∷ [])) (word ∷ args)) (alone args request)
judges-alone word [] request = counted (keyword ∷ []) (word ∷ []) refl [] [] (Ok request) refl (judges-end request)
judges-alone word (a ∷ args) request = miscounted (keyword ∷ []) (word ∷ []) refl [] (a ∷ args) (λ e. absurd (omega (arith, e)))

judges-shade : (word : List ℕ) (args : List (List ℕ)) → Judges (form_faults (Some (keyword ∷ root ∷ [])) (word ∷ args)) (read_shade args)
unfolding read_shade
judges-shade word args = judges-one (keyword ∷ []) (word ∷ []) refl root args _ (λ a. judges-root a _ _ (λ r. judges-end _))

judges-deal : (word : List ℕ) (args : List (List ℕ)) → Judges (form_faults (Some (keyword ∷ copies_or_entries ∷ number ∷ tray ∷ [])) (word ∷ args)) (read_deal args)
unfolding read_deal
judges-deal word args = judges-three (keyword ∷ []) (word ∷ []) refl copies_or_entries number tray args _ (λ a b c.
    judges-kind a _ _ (λ k. judges-number b _ _ (λ n. judges-tray c _ _ (λ t. judges-end _))))

judges-give : (word : List ℕ) (args : List (List ℕ)) → Judges (form_faults (Some (keyword ∷ tray ∷ [])) (word ∷ args)) (read_give args)
unfolding read_give
judges-give word args = judges-one (keyword ∷ []) (word ∷ []) refl tray args _ (λ a. judges-tray a _ _ (λ t. judges-end _))

judges-join : (word : List ℕ) (args : List (List ℕ)) → Judges (form_faults (Some (keyword ∷ tray ∷ tray ∷ [])) (word ∷ args)) (read_join args)
unfolding read_join
judges-join word args = judges-two (keyword ∷ []) (word ∷ []) refl tray tray args _ (λ a b.
    judges-tray a _ _ (λ t. judges-tray b _ _ (λ u. judges-end _)))

judges-idle : (word : List ℕ) (args : List (List ℕ)) → Judges (form_faults (Some (keyword ∷ number ∷ [])) (word ∷ args)) (read_idle args)
unfolding read_idle
judges-idle word args = judges-one (keyword ∷ []) (word ∷ []) refl number args _ (λ a. judges-number a _ _ (λ n. judges-end _))

judges-resize : (word : List ℕ) (args : List (List ℕ)) → Judges (form_faults (Some (keyword ∷ number ∷ [])) (word ∷ args)) (read_resize args)
unfolding read_resize
judges-resize word args = judges-one (keyword ∷ []) (word ∷ []) refl number args _ (λ a. judges-number a _ _ (λ n. judges-end _))

judges-tickets : (word : List ℕ) (args : List (List ℕ)) → Judges (form_faults (Some (keyword ∷ number ∷ [])) (word ∷ args)) (read_tickets args)
unfolding read_tickets
judges-tickets word args = judges-one (keyword ∷ []) (word ∷ []) refl number args _ (λ a. judges-number a _ _ (λ n. judges-end _))

judges-unwatch : (word : List ℕ) (args : List (List ℕ)) → Judges (form_faults (Some (keyword ∷ number ∷ [])) (word ∷ args)) (read_unwatch args)
unfolding read_unwatch
judges-unwatch word args = judges-one (keyword ∷ []) (word ∷ []) refl number args _ (λ a. judges-number a _ _ (λ n. judges-end _))

-- the keyword names no form
abbrev LacksForm : Option (List Sort) → Type 0
LacksForm form = form ≡ None

judges-keyword_request : (word : List ℕ) (args : List (List ℕ)) → Judges (keyword_part_faults (word ∷ args)) (keyword_request word args)
unfolding keyword_request watching_request listing_request
judges-keyword_request word args =
    let parts = word ∷ args in
    judges-later Form (parts ≡ []) (word_faults LacksForm parts (lookup word keyword_forms)) (keyword_request word args) (cons_nil word args)
    (by_keyword LacksForm parts some_none (bytes_eq word (codes "begin")) _ _ _ _ (judges-alone word args requests.Begin)
    (by_keyword LacksForm parts some_none (bytes_eq word (codes "shade")) _ _ _ _ (judges-shade word args)
    (by_keyword LacksForm parts some_none (bytes_eq word (codes "deal")) _ _ _ _ (judges-deal word args)
    (by_keyword LacksForm parts some_none (bytes_eq word (codes "give")) _ _ _ _ (judges-give word args)
    (by_keyword LacksForm parts some_none (bytes_eq word (codes "join")) _ _ _ _ (judges-join word args)
    (by_keyword LacksForm parts some_none (bytes_eq word (codes "flip")) _ _ _ _ (judges-alone word args requests.Flip)
    (by_keyword LacksForm parts some_none (bytes_eq word (codes "recall")) _ _ _ _ (judges-alone word args requests.Recall)
    (by_keyword LacksForm parts some_none (bytes_eq word (codes "abandon")) _ _ _ _ (judges-alone word args requests.Abandon)
    (by_keyword LacksForm parts some_none (bytes_eq word (codes "idle")) _ _ _ _ (judges-idle word args)
    (by_keyword LacksForm parts some_none (bytes_eq word (codes "resize")) _ _ _ _ (judges-resize word args)
    (by_keyword LacksForm parts some_none (bytes_eq word (codes "tickets")) _ _ _ _ (judges-tickets word args)
    (by_keyword LacksForm parts some_none (bytes_eq word (codes "unwatch")) _ _ _ _ (judges-unwatch word args)
    (by_keyword LacksForm parts some_none (bytes_eq word (codes "gone")) _ _ _ _ (judges-alone word args requests.Gone)
    (by_keyword LacksForm parts some_none (bytes_eq word (codes "trays")) _ _ _ _ (judges-alone word args requests.Trays)
    (by_keyword LacksForm parts some_none (bytes_eq word (codes "stat")) _ _ _ _ (judges-alone word args requests.Stat)
    (by_keyword LacksForm parts some_none (bytes_eq word (codes "dump")) _ _ _ _ (judges-alone word args requests.Dump)
    (unknown LacksForm parts refl)))))))))))))))))

-- ---- the lines that begin with an owner, in a trace

judges-watch : (owner word : List ℕ) (args : List (List ℕ)) → Judges (form_faults (Some (number ∷ keyword ∷ root ∷ [])) (owner ∷ word ∷ args)) (read_watch owner args)
unfolding read_watch
judges-watch owner word args = judges-one owner_and_keyword (owner ∷ word ∷ []) refl root args _ (λ a.
    judges-number owner _ _ (λ o. judges-root a _ _ (λ r. judges-end _)))

judges-owned_request : (owner : List ℕ) (rest : List (List ℕ)) → IsDigitFirst owner → Judges (owned_part_faults owned_forms (owner ∷ rest)) (owned_request owner rest)
unfolding owned_request
judges-owned_request owner [] owned = judges-here Form (LacksKeyword (owner ∷ [])) (word_faults (LacksCommand (owner ∷ [])) (owner ∷ []) None) owned
judges-owned_request owner (word ∷ args) owned =
    let parts = owner ∷ word ∷ args in
    let commands = judges-step (command_or_fault owner (word ∷ args)) (λ o. requests.Command o.0 o.1) (judges-keyword owner word args owned) in
    judges-later Form (LacksKeyword parts) (word_faults (LacksCommand parts) parts (lookup word owned_forms)) (owned_request owner (word ∷ args)) (λ h. h)
    (by_keyword (LacksCommand parts) parts (owned_form parts owned) (bytes_eq word (codes "watch")) _ _ _ _ (judges-watch owner word args) commands)

-- ---- all lines

-- the same faults, in other words
judges-alike : {A : Type 0} (faults others : ℕ → Kind → Type 0) (r : Result A Kind) → ((p : ℕ) (k : Kind) → faults p k → others p k) → ((p : ℕ) (k : Kind) → others p k → faults p k) → Judges faults r → Judges others r
judges-alike faults others r to from judged = record {
  none = λ x e p k h. judged.none x e p k (from p k h);
  least = λ kind e. let l = judged.least kind e in record { stage = l.stage; holds = to l.stage kind l.holds; least = λ p k h. l.least p k (from p k h) };
}

pub judges-with_owner : {A : Type 0} (parts : List (List ℕ)) (r : Result A Kind) → BeginsWithOwner parts → Judges (owned_part_faults owned_forms parts) r → Judges (line_part_faults parts) r
judges-with_owner parts r owned judged = judges-alike (owned_part_faults owned_forms parts) (line_part_faults parts) r (λ p k h. inl (owned, h)) (λ p k h. elim h [ inl command ↦ command.1 | inr other ↦ absurd (other.0 owned) ]) judged

pub judges-without_owner : {A : Type 0} (parts : List (List ℕ)) (r : Result A Kind) → ¬ BeginsWithOwner parts → Judges (keyword_part_faults parts) r → Judges (line_part_faults parts) r
judges-without_owner parts r bare judged = judges-alike (keyword_part_faults parts) (line_part_faults parts) r (λ p k h. inr (bare, h)) (λ p k h. elim h [ inl command ↦ absurd (bare command.0) | inr other ↦ other.1 ]) judged

by_owner : (t : Bool) (first : List ℕ) (rest : List (List ℕ)) → Decides t (IsDigitFirst first) → Judges (line_part_faults (first ∷ rest)) (cond t (owned_request first rest) (keyword_request first rest))
by_owner true first rest decides = judges-with_owner (first ∷ rest) (owned_request first rest) (decides.0 refl) (judges-owned_request first rest (decides.0 refl))
by_owner false first rest decides = judges-without_owner (first ∷ rest) (keyword_request first rest) (not_from_Decides false decides refl) (judges-keyword_request first rest)

judges-request_parts : (parts : List (List ℕ)) → Judges (line_part_faults parts) (request_of_parts parts)
unfolding request_of_parts
judges-request_parts [] = judges-without_owner [] (Err Form) (λ h. h) (judges-here Form (◌≡◌ {A = List (List ℕ)} [] []) (word_faults LacksForm [] None) refl)
judges-request_parts (first ∷ rest) = by_owner (begins_with_digit first) first rest (begins_with_digit-Decides first)

-- ---- the first line

judges-sizes : (word a b c d e : List ℕ) → Judges (each_part header_form (word ∷ a ∷ b ∷ c ∷ d ∷ e ∷ [])) (sizes_of a b c d e)
unfolding sizes_of
judges-sizes word a b c d e =
    judges-number a _ _ (λ words. judges-number b _ _ (λ ratio. judges-number c _ _ (λ log. judges-number d _ _ (λ owners. judges-number e _ _ (λ slots. judges-end _)))))

abbrev header_stage : List (List ℕ) → Type 0
header_stage parts = (¬ IsFirstPart (codes "heap") parts) ⊎ (¬ (length parts ≡ 6))

by_heap : (t : Bool) (word a b c d e : List ℕ) → Decides t (word ≡ codes "heap") → Judges (header_part_faults (word ∷ a ∷ b ∷ c ∷ d ∷ e ∷ [])) (cond t (sizes_of a b c d e) (Err Header))
by_heap true word a b c d e decides =
    let parts = word ∷ a ∷ b ∷ c ∷ d ∷ e ∷ [] in
    judges-later Header (header_stage parts) (each_part header_form parts) (sizes_of a b c d e) (λ h. elim h [ inl other ↦ other (decides.0 refl) | inr count ↦ count refl ]) (judges-sizes word a b c d e)
by_heap false word a b c d e decides =
    let parts = word ∷ a ∷ b ∷ c ∷ d ∷ e ∷ [] in
    judges-here Header (header_stage parts) (each_part header_form parts) (inl (not_from_Decides false decides refl))

wrong_count : (parts : List (List ℕ)) → ¬ (length parts ≡ 6) → Judges {A = declared.Header.Header} (header_part_faults parts) (Err Header)
wrong_count parts count = judges-here Header (header_stage parts) (each_part header_form parts) (inr count)

judges-header_parts : (parts : List (List ℕ)) → Judges (header_part_faults parts) (header_of_parts parts)
unfolding header_of_parts six_parts
judges-header_parts [] = wrong_count [] (λ e. absurd (omega (arith, e)))
judges-header_parts (a ∷ []) = wrong_count (a ∷ []) (λ e. absurd (omega (arith, e)))
judges-header_parts (a ∷ b ∷ []) = wrong_count (a ∷ b ∷ []) (λ e. absurd (omega (arith, e)))
judges-header_parts (a ∷ b ∷ c ∷ []) = wrong_count (a ∷ b ∷ c ∷ []) (λ e. absurd (omega (arith, e)))
judges-header_parts (a ∷ b ∷ c ∷ d ∷ []) = wrong_count (a ∷ b ∷ c ∷ d ∷ []) (λ e. absurd (omega (arith, e)))
judges-header_parts (a ∷ b ∷ c ∷ d ∷ f ∷ []) = wrong_count (a ∷ b ∷ c ∷ d ∷ f ∷ []) (λ e. absurd (omega (arith, e)))
judges-header_parts (a ∷ b ∷ c ∷ d ∷ f ∷ g ∷ []) = by_heap (bytes_eq a (codes "heap")) a b c d f g (bytes_eq-Decides a (codes "heap"))
judges-header_parts (a ∷ b ∷ c ∷ d ∷ f ∷ g ∷ h ∷ parts) = wrong_count (a ∷ b ∷ c ∷ d ∷ f ∷ g ∷ h ∷ parts) (λ e. absurd (omega (arith, e)))

-- ---- a raw line

pub judges-raw_line : {A : Type 0} (part_faults : List (List ℕ) → ℕ → Kind → Type 0) (n : ℕ) (line : RawLine) (f : List (List ℕ) → Result A Kind) → Judges (part_faults (parts_of line.bytes)) (f (parts_of line.bytes))
    → Judges (raw_line_faults part_faults n line) (checked_parts n line >>= f)
unfolding checked_parts
judges-raw_line part_faults n line f judged =
    let limits : Decides (ltb 1048576 n || ltb 256 (length line.bytes)) ((1048576 < n) ⊎ (256 < length line.bytes)) = Decides-or (ltb 1048576 n) (ltb 256 (length line.bytes)) (Decides-ltb 1048576 n) (Decides-ltb 256 (length line.bytes)) in
    judges-test (ltb 1048576 n || ltb 256 (length line.bytes)) Long ((1048576 < n) ⊎ (256 < length line.bytes)) _ _ f limits (λ short.
    judges-test (not line.ended) Cut (line.ended ≡ false) _ _ f (not_ended line.ended) (λ ended.
    judges-test (not (is_formed line.bytes)) Form (¬ IsFormedLine line.bytes) _ _ f (Decides-not (is_formed line.bytes) (is_formed-Decides line.bytes)) (λ formed. judged)))

pub judges-request_or_kind : (n : ℕ) (line : RawLine) → Judges (line_faults n line) (request_or_kind n line)
unfolding request_or_kind
judges-request_or_kind n line = judges-raw_line line_part_faults n line request_of_parts (judges-request_parts (parts_of line.bytes))

pub judges-header_or_kind : (line : RawLine) → Judges (header_faults line) (header_or_kind line)
unfolding header_or_kind
judges-header_or_kind line = judges-raw_line header_part_faults 1 line header_of_parts (judges-header_parts (parts_of line.bytes))

-- ---- a single line

-- a test that decides the stage, and else what is read
pub judges-checked : {A : Type 0} (t : Bool) (kind : Kind) (P : Type 0) (others : ℕ → Kind → Type 0) (r : Result A Kind) → Decides t P → Judges others r → Judges (kind when P ▸ others) (cond t (Err kind) r)
judges-checked true kind P others r decides judged = judges-here kind P others (decides.0 refl)
judges-checked false kind P others r decides judged = judges-later kind P others r (λ h. false≢true (decides.1 h)) judged

pub judges-single : (line : List ℕ) → Judges (command_faults line) (single_command line)
unfolding single_command
judges-single line = judges-checked (not (is_formed line)) Form (¬ IsFormedLine line) (command_part_faults (parts_of line)) (owned_command (parts_of line)) (Decides-not (is_formed line) (is_formed-Decides line)) (judges-owned (parts_of line))

pub no_fault_of_single : (line : List ℕ) (owned : ℕ × Command) → single_command line ≡ Ok owned → (p : ℕ) (k : Kind) → command_faults line p k → ⊥
no_fault_of_single line owned e = (judges-single line).none owned e

pub first_fault_of_single : (line : List ℕ) (kind : Kind) → single_command line ≡ Err kind → IsLeast (command_faults line) kind
first_fault_of_single line kind e = (judges-single line).least kind e

-- ---- the whole text

abbrev line_at : TraceFault → ℕ
line_at f = f.line

abbrev kind_at : TraceFault → Kind
kind_at f = f.kind

judges-requests_from : (n : ℕ) (lines : List RawLine) → JudgesLines line_at kind_at (in_lines line_faults n lines) (requests_from n lines)
unfolding requests_from
judges-requests_from n [] = judges-no_lines line_at kind_at line_faults n []
judges-requests_from n (line ∷ lines) =
    judges-line line_at kind_at (fault_at n) n (line_faults n line) (in_lines line_faults (n + 1) lines) (request_or_kind n line) (λ first. requests_from (n + 1) lines >>= λ others. Ok (first ∷ others))
    (λ k. refl) (λ k. refl) (λ m p k h. let after = in_lines-from line_faults (n + 1) lines m p k h in omega arith)
    (judges-request_or_kind n line) (λ first e. judges-made line_at kind_at (in_lines line_faults (n + 1) lines) (requests_from (n + 1) lines) (λ others. first ∷ others) (judges-requests_from (n + 1) lines))

err_ok : (x : Script) (f : TraceFault) → ◌≡◌ {A = Result Script TraceFault} (Err f) (Ok x) → ⊥
err_ok x f e = cc

err_is : (f g : TraceFault) → ◌≡◌ {A = Result Script TraceFault} (Err f) (Err g) → f ≡ g
err_is f g e = cc

empty_text : JudgesLines {A = Script} line_at kind_at (trace_faults []) (Err (fault_at 1 Empty))
empty_text = record {
  none = λ x e n p k h. absurd (err_ok x (fault_at 1 Empty) e);
  first = λ f e. subst (λ (g : TraceFault). IsFirst (trace_faults []) g.line g.kind) (err_is (fault_at 1 Empty) f e)
      (record { stage = 0; holds = (refl, refl, refl); first = λ n p k h. inr (h.0, inr (h.1, h.2)) });
}

judges-script : (lines : List RawLine) → JudgesLines line_at kind_at (trace_faults lines) (script_or_fault lines)
unfolding script_or_fault
judges-script [] = empty_text
judges-script (line ∷ lines) =
    judges-line line_at kind_at (fault_at 1) 1 (header_faults line) (in_lines line_faults 2 lines) (header_or_kind line) (λ header. requests_from 2 lines >>= λ others. Ok (record { header = header; requests = others }))
    (λ k. refl) (λ k. refl) (λ m p k h. let after = in_lines-from line_faults 2 lines m p k h in omega arith)
    (judges-header_or_kind line) (λ header e. judges-made line_at kind_at (in_lines line_faults 2 lines) (requests_from 2 lines) (λ others. record { header = header; requests = others }) (judges-requests_from 2 lines))

-- what the law says
pub first_fault : (bytes : List ℕ) (fault : TraceFault) → trace_of bytes ≡ Err fault → IsFirst (trace_faults (lines_of bytes)) fault.line fault.kind
first_fault bytes fault e = (judges-script (lines_of bytes)).first fault e

pub no_fault_of_trace : (bytes : List ℕ) (script : Script) → trace_of bytes ≡ Ok script → (n p : ℕ) (k : Kind) → trace_faults (lines_of bytes) n p k → ⊥
no_fault_of_trace bytes script e = (judges-script (lines_of bytes)).none script e

-- a line without a fault is spelled well
pub read_of : {A : Type 0} (faults : ℕ → Kind → Type 0) (r : Result A Kind) → Judges faults r → ((p : ℕ) (k : Kind) → faults p k → ⊥) → (x : A) × (r ≡ Ok x)
read_of faults (Ok x) judged none = (x, refl)
read_of faults (Err k) judged none = let l = judged.least k refl in absurd (none l.stage k l.holds)

pub spelled_line : (n : ℕ) (line : RawLine) → ((p : ℕ) (k : Kind) → line_faults n line p k → ⊥) → (l : Request) × RequestFits l × (raw_text line ≡ spell_request l)
spelled_line n line none =
    let r = read_of (line_faults n line) (request_or_kind n line) (judges-request_or_kind n line) none in
    let m = request_or_fault-means n line r.0 (ap (with_fault (fault_at n)) r.1) in
    (r.0, m.1, m.0)

pub spelled_header : (line : RawLine) → ((p : ℕ) (k : Kind) → header_faults line p k → ⊥) → (h : declared.Header.Header) × HeaderFits h × (raw_text line ≡ spell_header h)
spelled_header line none =
    let r = read_of (header_faults line) (header_or_kind line) (judges-header_or_kind line) none in
    let m = header_or_fault-means line r.0 (ap (with_fault (fault_at 1)) r.1) in
    (r.0, m.1, m.0)
