-- What clap's matches hold, as far as a request is read from them.
use Rattle.std.proofs.Common.{◌≡◌, ◌≢◌, ◌⊎◌, inl, inr, List, [], ◌∷◌, map, Option, Some, None, Result, option_map, ap, sym, subst, codes, Bool, true, false, ◌&&◌, refl, ◌∙◌}
use Rattle.std.specs.List.{AllByRecursion, list_any}
use Rattle.clap.specs.Words.{App, FailsBy, HasKind, Kinds, Row, Text, fault_of, is_simple_and_free, kind_of, found_of, rows_of, subcommand_rows_of, built, is_simple, HasMatchesOf, subcommand_name_of, subcommand_of, takes}
use Rattle.clap.specs.Faults.{is_free_app}
use Rattle.clap.specs.declared.error.Error.{Error as ClapError}
use Rattle.clap.specs.declared.error.kind.ErrorKind.{ErrorKind}
use Rattle.clap.specs.declared.error.kind.ErrorKind.TheVariants.{OutOfMemory}
use Rattle.clap.specs.declared.parser.matches.ArgMatches.{ArgMatches}
use Rattle.clap.specs.declared.parser.matches.ArgMatches.TheViews.{out-ArgMatches, out-SubCommand}
use Rattle.std.specs.Box.{box_value}
use Rattle.std.specs.Str.{bytes_eq}
use Rattle.std.proofs.lemmas.Slice.Eq.{bytes_eq-Decides}
use Rattle.clap.proofs.WalkLemmas.{first_value-rows}
use Rattle.clap.proofs.OnLiterals.{clap_on_literals}
use Rattle.rh_command_line.specs.Ask.{Given, command_and_file_in, command_and_file_of, command_asked, error_kinds, explains_in, explains_of, given_in, given_of, is_set, is_taken, out_in, out_of, viewed_by, viewed_in, viewed_of, with_file}
use Rattle.rh_command_line.specs.Table.{CommandState, first_word, names_command, rheap_app, rheap_app_for, table}
use Rattle.rh_command_line.specs.Fault.{IsClapError}
use Rattle.rh_command_line.specs.declared.fault.CommandLineError.{CommandLineError}
use Rattle.rh_command_line.specs.declared.fault.CommandLineError.TheVariants as errors
use Rattle.rh_command_line.specs.declared.fault.CommandLineFault.TheVariants as faults

abbrev both : {X : Type 0} → (X → Text) → (X → List Row) → X → Text × List Row
both name rows x = (name x, rows x)

abbrev labelled : Text → List Row → Text × List Row
labelled n r = (n, r)

rows_are : {X : Type 0} (name : X → Text) (rows : X → List Row) (o : Option X) (n : Text) (r : List Row) → Some n ≡ option_map name o
    → Some r ≡ option_map (λ (p : Text × List Row). p.1) (option_map (both name rows) o) → option_map (both name rows) o ≡ Some (labelled n r)
rows_are name rows None n r e f = absurd cc
rows_are name rows (Some x) n r e f = cc

-- the subcommand that matches hold, with its rows
entered_is : (m : ArgMatches) (n : Text) (values : ArgMatches) → Some n ≡ subcommand_name_of m
    → Some (rows_of (found_of values)) ≡ option_map (λ (p : Text × List Row). p.1) (subcommand_rows_of m)
    → subcommand_rows_of m ≡ Some (labelled n (rows_of (found_of values)))
entered_is m n values name rows =
    rows_are (λ b. (out-SubCommand (box_value b)).name.now) (λ b. rows_of (found_of (out-SubCommand (box_value b)).matches)) (out-ArgMatches m).subcommand n (rows_of (found_of values)) name rows

-- the first values of matches are those of their rows
given_is : (values : ArgMatches) → given_of values ≡ given_in (rows_of (found_of values))
given_is values = λ k name. first_value-rows (found_of values) name k

-- a subcommand with this name and these matches is held with the values that they have
pub command_and_file_in-matches : (m : ArgMatches) (n : Text) (values : ArgMatches) → Some n ≡ subcommand_name_of m
    → Some (rows_of (found_of values)) ≡ option_map (λ (p : Text × List Row). p.1) (subcommand_rows_of m)
    → command_and_file_in (subcommand_rows_of m) ≡ with_file (command_asked n (given_of values)) (given_of values (codes "FILE"))
command_and_file_in-matches m n values name rows =
    ap command_and_file_in (entered_is m n values name rows) ∙ ap (λ (g : Given). with_file (command_asked n g) (g (codes "FILE"))) (sym (given_is values))

-- what a subcommand with these matches says of explanations
pub explains_in-matches : (m : ArgMatches) (n : Text) (values : ArgMatches) → Some n ≡ subcommand_name_of m
    → Some (rows_of (found_of values)) ≡ option_map (λ (p : Text × List Row). p.1) (subcommand_rows_of m)
    → explains_in (subcommand_rows_of m) ≡ is_set (given_of values (codes "explain"))
explains_in-matches m n values name rows =
    ap explains_in (entered_is m n values name rows) ∙ ap (λ (g : Given). is_set (g (codes "explain"))) (sym (given_is values))

-- what a subcommand with these matches says of the file of a text
pub out_in-matches : (m : ArgMatches) (n : Text) (values : ArgMatches) → Some n ≡ subcommand_name_of m
    → Some (rows_of (found_of values)) ≡ option_map (λ (p : Text × List Row). p.1) (subcommand_rows_of m)
    → out_in (subcommand_rows_of m) ≡ given_of values (codes "heapsnapshot")
out_in-matches m n values name rows =
    ap out_in (entered_is m n values name rows) ∙ ap (λ (g : Given). g (codes "heapsnapshot")) (sym (given_is values))

-- what a subcommand with these matches says of views
pub viewed_in-matches : (m : ArgMatches) (n : Text) (values : ArgMatches) → Some n ≡ subcommand_name_of m
    → Some (rows_of (found_of values)) ≡ option_map (λ (p : Text × List Row). p.1) (subcommand_rows_of m)
    → viewed_in (subcommand_rows_of m) ≡ viewed_by (given_of values)
viewed_in-matches m n values name rows = ap viewed_in (entered_is m n values name rows) ∙ ap viewed_by (sym (given_is values))

by_equality : (P : Text → Type 0) (word : Text) (name : Text) (b : Bool) → (b ≡ true → word ≡ name) → P name → (b ≡ false → P word) → P word
by_equality P word name true same here there = subst P (sym (same refl)) here
by_equality P word name false same here there = there refl

-- what holds of a text that the word may be holds of the word, if it does where the word differs
by_word : (P : Text → Type 0) (word : Text) (name : Text) → P name → (bytes_eq word name ≡ false → P word) → P word
by_word P word name here there = by_equality P word name (bytes_eq word name) (bytes_eq-Decides word name).0 here there

-- what holds of each of these texts, and of a word that is none of them, holds of each word
for_words : (P : Text → Type 0) (word : Text) (names : List Text) → AllByRecursion P names → (list_any (bytes_eq word) names ≡ false → P word) → P word
for_words P word [] all other = other refl
for_words P word (name ∷ names) all other = by_word P word name all.0 (λ differs. for_words P word names all.1 (λ none. other (rw differs none)))

abbrev IsFreeFor : Text → Type 0
IsFreeFor word = is_simple_and_free (rheap_app_for word) ≡ true

free_for_others : (word : Text) → names_command word ≡ false → IsFreeFor word
unfolding clap_on_literals
free_for_others word is = rw is refl

is_free_line : (word : Text) → IsFreeFor word
unfolding clap_on_literals
is_free_line word = for_words IsFreeFor word (map (λ (command : CommandState). command.name) table) (refl, (refl, (refl, (refl, (refl, (refl, (refl, (refl, tt)))))))) (free_for_others word)

-- the first of two that hold
first_holds : (one other : Bool) → one && other ≡ true → one ≡ true
first_holds true other is = refl
first_holds false other is = is

simple_of_free : (a : App) → is_simple_and_free a ≡ true → is_simple a ≡ true
simple_of_free a is = first_holds (is_simple a) (is_free_app (built a)) is

is_simple_line : (word : Text) → is_simple (rheap_app_for word) ≡ true
is_simple_line word = simple_of_free (rheap_app_for word) (is_free_line word)

-- what the matches hold is what clap's parse of the arguments holds
pub command_and_file_of-matches : (a : App) (arguments : List Text) (m : ArgMatches) → a ≡ rheap_app arguments → HasMatchesOf a arguments m → command_and_file_of arguments ≡ command_and_file_in (subcommand_rows_of m)
unfolding command_and_file_of
command_and_file_of-matches a arguments m is h =
    let entered = (h (ap is_simple is ∙ is_simple_line (first_word arguments))).1 in
    ap command_and_file_in (sym (entered ∙ ap (λ (x : App). subcommand_of x arguments) is))

-- so it is with explanations
pub explains_of-matches : (a : App) (arguments : List Text) (m : ArgMatches) → a ≡ rheap_app arguments → HasMatchesOf a arguments m → explains_of arguments ≡ explains_in (subcommand_rows_of m)
unfolding explains_of
explains_of-matches a arguments m is h =
    let entered = (h (ap is_simple is ∙ is_simple_line (first_word arguments))).1 in
    ap explains_in (sym (entered ∙ ap (λ (x : App). subcommand_of x arguments) is))

-- and with the file of a text
pub out_of-matches : (a : App) (arguments : List Text) (m : ArgMatches) → a ≡ rheap_app arguments → HasMatchesOf a arguments m → out_of arguments ≡ out_in (subcommand_rows_of m)
unfolding out_of
out_of-matches a arguments m is h =
    let entered = (h (ap is_simple is ∙ is_simple_line (first_word arguments))).1 in
    ap out_in (sym (entered ∙ ap (λ (x : App). subcommand_of x arguments) is))

-- and with views
pub viewed_of-matches : (a : App) (arguments : List Text) (m : ArgMatches) → a ≡ rheap_app arguments → HasMatchesOf a arguments m → viewed_of arguments ≡ viewed_in (subcommand_rows_of m)
unfolding viewed_of
viewed_of-matches a arguments m is h =
    let entered = (h (ap is_simple is ∙ is_simple_line (first_word arguments))).1 in
    ap viewed_in (sym (entered ∙ ap (λ (x : App). subcommand_of x arguments) is))

-- arguments that clap takes are taken by the same command line under another name
pub taken-app : (a : App) (arguments : List Text) → a ≡ rheap_app arguments → is_taken arguments ≡ true → takes a arguments ≡ true
unfolding is_taken
taken-app a arguments is taken = ap (λ (x : App). takes x arguments) is ∙ taken

-- a parse of the same command line under another name ends as these kinds of error say
pub fails_by_error_kinds : {T : Type 0} (a : App) (arguments : List Text) (r : Result T ClapError) → a ≡ rheap_app arguments
    → (is_simple_and_free a ≡ true → FailsBy (fault_of a arguments) r) → FailsBy (error_kinds arguments) r
unfolding error_kinds
fails_by_error_kinds a arguments r is fails =
    subst (λ (x : App). FailsBy (fault_of x arguments) r) is (fails (ap is_simple_and_free is ∙ is_free_line (first_word arguments)))

is_want_of_memory : (kind : ErrorKind) → (kind ≡ OutOfMemory) ⊎ (kind ≢ OutOfMemory)
is_want_of_memory OutOfMemory = inl refl
is_want_of_memory kind = inr (λ is. cc)

told_as : (kinds : Kinds) (error : ClapError) (told : CommandLineError) → HasKind kinds error → (kind_of error ≢ OutOfMemory → told ≡ errors.Fault (faults.Arguments error))
    → kind_of error ≢ OutOfMemory → IsClapError kinds told
told_as kinds error told (inl is) same other = absurd (other is)
told_as kinds error told (inr among) same other = rw (same other) among

-- an error of one of these kinds is told as it is, or as want of memory
pub told_of_clap : (kinds : Kinds) (error : ClapError) (told : CommandLineError) → HasKind kinds error → (kind_of error ≡ OutOfMemory → told ≡ errors.OutOfMemory)
    → (kind_of error ≢ OutOfMemory → told ≡ errors.Fault (faults.Arguments error)) → IsClapError kinds told
told_of_clap kinds error told has memory same =
    elim (is_want_of_memory (kind_of error)) [ inl is ↦ rw (memory is) tt | inr other ↦ told_as kinds error told has same other ]
