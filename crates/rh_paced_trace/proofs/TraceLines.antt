-- The lines of a trace: its commands, the first line that is none, and the biggest object.
use Rattle.std.proofs.Common.{◌≡◌, ℕ, zero, suc, ◌+◌, ◌≤◌, ◌⊎◌, inl, inr, min, max, true, false, cond, List, [], ◌∷◌, length, take, map, Option, Some, None, refl, sym, ap, subst, ◌∙◌, arith}
use Rattle.std.specs.Prelude.{◌↔◌, count_by, slice_get}
use Rattle.std.proofs.lemmas.Bool.{cases_lt}
use Rattle.std.proofs.lemmas.List.Elements.{All-nil, All-cons, All-head, All-tail}
use Rattle.std.proofs.lemmas.Option.{none-some, same_Some}
use Rattle.rh_layout.specs.declared.command.Command.{Command}
use Rattle.rh_layout.specs.declared.command.RootId.{RootId}
use Rattle.rh_layout.specs.declared.shape.Shape.{Shape}
use Rattle.rh_layout.specs.Command.{made_by}
use Rattle.rh_syntax.specs.declared.fault.Kind.TheVariants.{Word}
use Rattle.rh_syntax.specs.declared.fault.TraceFault.{TraceFault}
use Rattle.rh_syntax.specs.declared.request.Request.{Request}
use Rattle.rh_syntax.specs.declared.request.Request.TheVariants as requests
use Rattle.rh_syntax.specs.Reading.{fault_at}
use Rattle.rh_trace.specs.Events.{is_command}
use Rattle.rh_trace.proofs.CountsByHead.{count_by-head}
use Rattle.rh_paced_trace.specs.Lines.{AreCommands, Commands, IsFirstOther, biggest_of, commands_in, other_fault, words_asked, words_of_asked}

-- the request is a command
abbrev IsCommand : Request → Type 0
IsCommand request = is_command request ≡ true

-- ---- the commands

command_there : (request : Request) (others : List Request) (owner : ℕ) (command : Command) → request ≡ requests.Command owner command
    → slice_get (commands_in (request ∷ others)) 0 ≡ Some (owner, command)
command_there request others owner command is = ap (λ (r : Request). slice_get (commands_in (r ∷ others)) 0) is

counted_command : (owner : ℕ) (command : Command) (before : List Request) → count_by is_command (requests.Command owner command ∷ before) ≡ suc (count_by is_command before)
counted_command owner command before = omega (arith, count_by-head is_command (requests.Command owner command) before)

counted_other : (request : Request) (before : List Request) → is_command request ≡ false → count_by is_command (request ∷ before) ≡ count_by is_command before
counted_other request before other = omega (arith, count_by-head is_command request before ∙ ap (λ b. cond b 1 0 + count_by is_command before) other)

pub placed_in_order : (all : List Request) (i owner : ℕ) (command : Command) → slice_get all i ≡ Some (requests.Command owner command)
    → slice_get (commands_in all) (count_by is_command (take i all)) ≡ Some (owner, command)
placed_in_order [] i owner command is = absurd (none-some _ is)
placed_in_order (request ∷ others) zero owner command is = command_there request others owner command (same_Some _ _ is)
placed_in_order (requests.Command o c ∷ others) (suc i) owner command is =
    ap (slice_get ((o, c) ∷ commands_in others)) (counted_command o c (take i others)) ∙ placed_in_order others i owner command is
placed_in_order (request ∷ others) (suc i) owner command is =
    ap (slice_get (commands_in others)) (counted_other request (take i others) refl) ∙ placed_in_order others i owner command is

pub commands_counted : (all : List Request) → length (commands_in all) ≡ count_by is_command all
commands_counted [] = refl
commands_counted (requests.Command o c ∷ others) = omega (arith, commands_counted others, counted_command o c others)
commands_counted (request ∷ others) = commands_counted others ∙ sym (counted_other request others refl)

pub commands_alone : (all : List Request) → AreCommands all → map (λ owned. requests.Command owned.0 owned.1) (commands_in all) ≡ all
commands_alone [] are = refl
commands_alone (requests.Command o c ∷ others) are =
    ap (λ (rs : List Request). requests.Command o c ∷ rs) (commands_alone others (All-tail IsCommand (requests.Command o c) others are))
commands_alone (request ∷ others) are = absurd (let is = All-head IsCommand request others are in cc)

-- ---- the first line that is none

at_line : (n m : ℕ) → n ≡ m → Some (fault_at n Word) ≡ Some (fault_at m Word)
at_line n m is = ap (λ (line : ℕ). Some (fault_at line Word)) is

pub told_first : (number : ℕ) (all : List Request) (fault : TraceFault) → other_fault number all ≡ Some fault
    → (i : ℕ) × IsFirstOther all i × (fault ≡ fault_at (i + number) Word)
told_first number [] fault is = absurd (none-some _ is)
told_first number (requests.Command o c ∷ others) fault is =
    let later = told_first (number + 1) others fault is in
    let line : later.0 + (number + 1) ≡ suc later.0 + number = omega arith in
    (suc later.0, (later.1.0, All-cons IsCommand (requests.Command o c) (take later.0 others) refl later.1.1), later.2 ∙ ap (λ (n : ℕ). fault_at n Word) line)
told_first number (request ∷ others) fault is =
    let line : number ≡ 0 + number = omega arith in
    (0, (refl, All-nil IsCommand), sym (same_Some _ _ is) ∙ ap (λ (n : ℕ). fault_at n Word) line)

pub first_told : (number : ℕ) (all : List Request) (i : ℕ) → IsFirstOther all i → other_fault number all ≡ Some (fault_at (i + number) Word)
first_told number [] i first = absurd first.0
first_told number (requests.Command o c ∷ others) zero first = absurd (let is = first.0 in cc)
first_told number (requests.Command o c ∷ others) (suc i) first =
    first_told (number + 1) others i (first.0, All-tail IsCommand (requests.Command o c) (take i others) first.1)
    ∙ at_line (i + (number + 1)) (suc i + number) (omega arith)
first_told number (request ∷ others) zero first = at_line number (0 + number) (omega arith)
first_told number (request ∷ others) (suc i) first = absurd (let is = All-head IsCommand request (take i others) first.1 in cc)

pub none_other : (number : ℕ) (all : List Request) → (other_fault number all ≡ None) ↔ AreCommands all
none_other number [] = (λ is. All-nil IsCommand, λ are. refl)
none_other number (requests.Command o c ∷ others) =
    let rest = none_other (number + 1) others in
    (λ is. All-cons IsCommand (requests.Command o c) others refl (rest.0 is), λ are. rest.1 (All-tail IsCommand (requests.Command o c) others are))
none_other number (request ∷ others) = (λ is. absurd (none-some _ (sym is)), λ are. absurd (let is = All-head IsCommand request others are in cc))

-- ---- the biggest object

-- some line makes an object of so many words
abbrev IsMade : List Request → ℕ → Type 0
IsMade all words =
    (i : ℕ) × (owner : ℕ) × (command : Command) × (dst : RootId) × (shape : Shape)
    × (slice_get all i ≡ Some (requests.Command owner command)) × (made_by command ≡ Some (dst, shape)) × (words ≡ min shape.fields 4095 + 2)

within_max : (fields n : ℕ) → min fields 4095 + 2 ≤ max (min (fields + 2) 4097) n
within_max fields n = omega arith

bound_here : (request : Request) (others : List Request) (owner : ℕ) (command : Command) (dst : RootId) (shape : Shape) → request ≡ requests.Command owner command → made_by command ≡ Some (dst, shape)
    → min shape.fields 4095 + 2 ≤ biggest_of (commands_in (request ∷ others))
bound_here request others owner command dst shape is made =
    subst (λ (r : Request). min shape.fields 4095 + 2 ≤ biggest_of (commands_in (r ∷ others))) (sym is)
    (subst (λ (x : Option (RootId × Shape)). min shape.fields 4095 + 2 ≤ max (words_of_asked x) (biggest_of (commands_in others))) (sym made) (within_max shape.fields (biggest_of (commands_in others))))

pub biggest_bounds : (all : List Request) (i owner : ℕ) (command : Command) → slice_get all i ≡ Some (requests.Command owner command) → (dst : RootId) (shape : Shape) → made_by command ≡ Some (dst, shape)
    → min shape.fields 4095 + 2 ≤ biggest_of (commands_in all)
biggest_bounds [] i owner command is dst shape made = absurd (none-some _ is)
biggest_bounds (request ∷ others) zero owner command is dst shape made = bound_here request others owner command dst shape (same_Some _ _ is) made
biggest_bounds (requests.Command o c ∷ others) (suc i) owner command is dst shape made =
    omega (arith, biggest_bounds others i owner command is dst shape made)
biggest_bounds (request ∷ others) (suc i) owner command is dst shape made = biggest_bounds others i owner command is dst shape made

-- a line further on
made_on : (request : Request) (others : List Request) (words : ℕ) → IsMade others words → IsMade (request ∷ others) words
made_on request others words is = (suc is.0, is.1, is.2, is.3, is.4, is.5, is.6, is.7)

reached_on : (request : Request) (others : List Request) (words old : ℕ) → words ≡ old → (old ≡ 2) ⊎ IsMade others old → (words ≡ 2) ⊎ IsMade (request ∷ others) words
reached_on request others words old same (inl is) = inl (same ∙ is)
reached_on request others words old same (inr is) = inr (made_on request others words (subst (IsMade others) (sym same) is))

larger : (m n : ℕ) → (max m n ≡ m) ⊎ (max m n ≡ n)
larger m n = elim (cases_lt m n) [ inl less ↦ inr (omega (arith, less)) | inr more ↦ inl (omega (arith, more)) ]

reached_made : (o : ℕ) (c : Command) (others : List Request) (made : Option (RootId × Shape)) → made_by c ≡ made → (biggest_of (commands_in others) ≡ 2) ⊎ IsMade others (biggest_of (commands_in others))
    → (biggest_of (commands_in (requests.Command o c ∷ others)) ≡ 2) ⊎ IsMade (requests.Command o c ∷ others) (biggest_of (commands_in (requests.Command o c ∷ others)))
reached_made o c others None none so =
    let asked : words_asked c ≡ 0 = ap words_of_asked none in
    reached_on (requests.Command o c) others (biggest_of (commands_in (requests.Command o c ∷ others))) (biggest_of (commands_in others)) (omega (arith, asked)) so
reached_made o c others (Some made) is so =
    let asked : words_asked c ≡ min (made.1.fields + 2) 4097 = ap words_of_asked is in
    elim (larger (words_asked c) (biggest_of (commands_in others))) [
      | inl same ↦ inr (0, o, c, made.0, made.1, refl, is, omega (arith, same, asked))
      | inr same ↦ reached_on (requests.Command o c) others (biggest_of (commands_in (requests.Command o c ∷ others))) (biggest_of (commands_in others)) same so
    ]

pub biggest_reached : (all : List Request) → (biggest_of (commands_in all) ≡ 2) ⊎ IsMade all (biggest_of (commands_in all))
biggest_reached [] = inl refl
biggest_reached (requests.Command o c ∷ others) = reached_made o c others (made_by c) refl (biggest_reached others)
biggest_reached (request ∷ others) =
    reached_on request others (biggest_of (commands_in others)) (biggest_of (commands_in others)) refl (biggest_reached others)

asked_at_most : (made : Option (RootId × Shape)) → words_of_asked made ≤ 4097
asked_at_most None = omega arith
asked_at_most (Some made) = omega arith

pub biggest_at_most : (commands : Commands) → biggest_of commands ≤ 4097
biggest_at_most [] = omega arith
biggest_at_most (owned ∷ others) = omega (arith, asked_at_most (made_by owned.1), biggest_at_most others)

pub biggest-least : (commands : Commands) → 2 ≤ biggest_of commands
biggest-least [] = omega arith
biggest-least (owned ∷ others) = omega (arith, biggest-least others)
