-- A line of a tray, and the line of a heap's numbers, tell what they list.
use Rattle.std.specs.Prelude.{◌≡◌, ◌≢◌, ℕ, ◌==◌, if◌then◌else◌, Bool, true, false, not, List, [], ◌∷◌, ◌++◌, drop, length, slice_index_or, codes, decimal}
use Rattle.std.specs.List.{AllByRecursion}
use Rattle.std.proofs.Common.{refl, sym, ap, ◌∙◌, arith, append_assoc, inl, inr}
use Rattle.std.proofs.lemmas.Bool.{ne_eqb}
use Rattle.std.proofs.lemmas.List.{append-nil}
use Rattle.std.proofs.lemmas.List.Elements.{filter-append}
use Rattle.rh_core.specs.declared.stat.Stat.{Stat}
use Rattle.rh_syntax.specs.TrayName.{IsTrayName, IsNameByte}
use Rattle.rh_syntax.specs.lemmas.TextNumbers.{is_digit, EndsNumber, numbers_in, letters_in, numbers_in-decimal, numbers_in-one, numbers_in-two, numbers_in-two_then, letters_in-decimal}
use Rattle.rh_engine.specs.Trays.{Tray}
use Rattle.rh_engine.specs.CycleAnswers.{two_numbers, tray_text, cycle_text, stat_log, stat_work, stat_text}
use Rattle.rh_engine.specs.ToldAnswers.{IsToldTray, IsToldStat}

abbrev number : List ℕ → ℕ → ℕ
number numbers i = slice_index_or numbers i 0

-- A tray

-- what stands before the first space, and what stands from there on
abbrev before_space : List ℕ → List ℕ
before_space [] = []
before_space (b ∷ bs) = if b == 32 then [] else b ∷ before_space bs

abbrev from_space : List ℕ → List ℕ
from_space [] = []
from_space (b ∷ bs) = if b == 32 then b ∷ bs else from_space bs

-- bytes other than spaces
abbrev HasNoSpace : List ℕ → Type 0
HasNoSpace bytes = AllByRecursion (λ b. b ≢ 32) bytes

before_space-here : (name rest : List ℕ) → HasNoSpace name → before_space (name ++ 32 ∷ rest) ≡ name
before_space-here [] rest none = refl
before_space-here (b ∷ bs) rest none =
    ap (λ t. if t then [] else b ∷ before_space (bs ++ 32 ∷ rest)) (ne_eqb b 32 none.0) ∙ ap (λ l. b ∷ l) (before_space-here bs rest none.1)

from_space-here : (name rest : List ℕ) → HasNoSpace name → from_space (name ++ 32 ∷ rest) ≡ 32 ∷ rest
from_space-here [] rest none = refl
from_space-here (b ∷ bs) rest none =
    ap (λ t. if t then b ∷ (bs ++ 32 ∷ rest) else from_space (bs ++ 32 ∷ rest)) (ne_eqb b 32 none.0) ∙ from_space-here bs rest none.1

no_space_byte : (b : ℕ) → IsNameByte b → b ≢ 32
no_space_byte b (inl letter) same = absurd (omega (arith, letter.0, same))
no_space_byte b (inr (inl digit)) same = absurd (omega (arith, digit.0, same))
no_space_byte b (inr (inr line)) same = absurd (omega (arith, line, same))

no_space_bytes : (bytes : List ℕ) → AllByRecursion IsNameByte bytes → HasNoSpace bytes
no_space_bytes [] named = tt
no_space_bytes (b ∷ bs) named = (no_space_byte b named.0, no_space_bytes bs named.1)

no_space : (name : List ℕ) → IsTrayName name → HasNoSpace name
no_space [] named = absurd named
no_space (first ∷ rest) named = (no_space_byte first (inl named.0), no_space_bytes rest named.2)

-- what follows the name in the line of a tray
abbrev after_name : Tray → List ℕ
after_name t = two_numbers (codes " epoch ") t.epoch (codes " entries ") (length t.entries)

name_told : (name : List ℕ) (t : Tray) → IsTrayName name → before_space (drop 5 (tray_text name t)) ≡ name
name_told name t named = before_space-here name (drop 1 (after_name t)) (no_space name named)

numbers_told : (name : List ℕ) (t : Tray) → IsTrayName name → IsToldTray t → numbers_in (from_space (drop 5 (tray_text name t))) ≡ t.epoch ∷ length t.entries ∷ []
numbers_told name t named told =
    ap numbers_in (from_space-here name (drop 1 (after_name t)) (no_space name named))
    ∙ numbers_in-two t.epoch (length t.entries) (codes " entries ") told.0 told.1 (λ y. refl) refl

pub tray_text-tells : (name other : List ℕ) (t u : Tray) → IsTrayName name → IsTrayName other → IsToldTray t → IsToldTray u → tray_text name t ≡ tray_text other u
    → (name ≡ other) × (t.epoch ≡ u.epoch) × (length t.entries ≡ length u.entries)
tray_text-tells name other t u named other_named told other_told same =
    let numbers : t.epoch ∷ length t.entries ∷ [] ≡ u.epoch ∷ length u.entries ∷ [] =
    sym (numbers_told name t named told) ∙ ap (λ text. numbers_in (from_space (drop 5 text))) same ∙ numbers_told other u other_named other_told in (
      sym (name_told name t named) ∙ ap (λ text. before_space (drop 5 text)) same ∙ name_told other u other_named,
      ap (λ ns. number ns 0) numbers,
      ap (λ ns. number ns 1) numbers,
    )

-- A heap's numbers

cycle_wordy : (on : Bool) (x : List ℕ) → numbers_in (cycle_text on ++ x) ≡ numbers_in x
cycle_wordy true x = refl
cycle_wordy false x = refl

cycle_ends : (on : Bool) (x : List ℕ) → EndsNumber (cycle_text on ++ x)
cycle_ends true x = refl
cycle_ends false x = refl

-- the numbers of the ledger, and what is placed and missing
work_numbers : (s : Stat) → IsToldStat s → numbers_in (stat_work s) ≡ s.granted ∷ s.spent ∷ s.placed ∷ s.missing ∷ s.idle ∷ []
work_numbers s told =
    let idle : List ℕ = codes " idle " ++ decimal s.idle in
    numbers_in-two_then s.granted s.spent (codes " spent ") told.granted told.spent (λ y. refl) (two_numbers (codes " placed ") s.placed (codes " missing ") s.missing ++ idle) refl refl
    ∙ ap (λ ns. s.granted ∷ s.spent ∷ ns) (numbers_in-two_then s.placed s.missing (codes " missing ") told.placed told.missing (λ y. refl) idle refl refl
    ∙ ap (λ ns. s.placed ∷ s.missing ∷ ns) (numbers_in-one s.idle told.idle))

-- those before them
log_numbers : (s : Stat) → IsToldStat s → numbers_in (stat_log s ++ stat_work s) ≡ s.epoch ∷ s.number ∷ s.log ∷ s.granted ∷ s.spent ∷ s.placed ∷ s.missing ∷ s.idle ∷ []
log_numbers s told =
    ap numbers_in (append_assoc (two_numbers (codes " epoch ") s.epoch (codes " number ") s.number) (codes " log " ++ decimal s.log) (stat_work s))
    ∙ numbers_in-two_then s.epoch s.number (codes " number ") told.epoch told.number (λ y. refl) ((codes " log " ++ decimal s.log) ++ stat_work s) refl refl
    ∙ ap (λ ns. s.epoch ∷ s.number ∷ ns) (numbers_in-decimal s.log (stat_work s) told.log refl ∙ ap (λ ns. s.log ∷ ns) (work_numbers s told))

-- and all
stat_numbers : (s : Stat) → IsToldStat s → numbers_in (stat_text s) ≡ s.used ∷ s.free ∷ s.epoch ∷ s.number ∷ s.log ∷ s.granted ∷ s.spent ∷ s.placed ∷ s.missing ∷ s.idle ∷ []
stat_numbers s told =
    let rest : List ℕ = stat_log s ++ stat_work s in
    ap numbers_in (append_assoc (two_numbers (codes "stat used ") s.used (codes " free ") s.free) (cycle_text s.cycle) rest)
    ∙ numbers_in-two_then s.used s.free (codes " free ") told.used told.free (λ y. refl) (cycle_text s.cycle ++ rest) refl (cycle_ends s.cycle rest)
    ∙ ap (λ ns. s.used ∷ s.free ∷ ns) (cycle_wordy s.cycle rest ∙ log_numbers s told)

-- the letter that says whether a cycle is on
letters_of_two : (s : Stat) → IsToldStat s → letters_in (two_numbers (codes "stat used ") s.used (codes " free ") s.free) ≡ codes "stat used  free "
letters_of_two s told =
    ap (λ l. codes "stat used " ++ l) (letters_in-decimal s.used (codes " free " ++ decimal s.free) told.used
    ∙ ap (λ l. codes " free " ++ l) (ap letters_in (sym (append-nil (decimal s.free))) ∙ letters_in-decimal s.free [] told.free))

cycle_letter : (s : Stat) → IsToldStat s → number (letters_in (stat_text s)) 24 ≡ (if s.cycle then 110 else 102)
cycle_letter s told =
    let two : List ℕ = two_numbers (codes "stat used ") s.used (codes " free ") s.free in
    let rest : List ℕ = stat_log s ++ stat_work s in
    ap (λ text. number (letters_in text) 24) (append_assoc two (cycle_text s.cycle) rest)
    ∙ ap (λ l. number l 24) (filter-append (λ b. not (is_digit b)) two (cycle_text s.cycle ++ rest) ∙ ap (λ l. l ++ letters_in (cycle_text s.cycle ++ rest)) (letters_of_two s told))
    ∙ by s.cycle rest
  where
    by : (on : Bool) (x : List ℕ) → number (codes "stat used  free " ++ letters_in (cycle_text on ++ x)) 24 ≡ (if on then 110 else 102)
    by true x = refl
    by false x = refl

-- the numbers that a text tells, with these flips and words of roots, which it doesn't tell
abbrev stat_told : List ℕ → ℕ → ℕ → ℕ → Stat
stat_told ns letter flips root_words = record {
  used = number ns 0;
  free = number ns 1;
  cycle = letter == 110;
  epoch = number ns 2;
  number = number ns 3;
  log = number ns 4;
  granted = number ns 5;
  spent = number ns 6;
  placed = number ns 7;
  missing = number ns 8;
  idle = number ns 9;
  flips = flips;
  root_words = root_words;
}

stat_told-text : (s : Stat) → IsToldStat s → (flips root_words : ℕ) → stat_told (numbers_in (stat_text s)) (number (letters_in (stat_text s)) 24) flips root_words ≡ record s { flips = flips; root_words = root_words }
stat_told-text s told flips root_words =
    ap (λ ns. stat_told ns (number (letters_in (stat_text s)) 24) flips root_words) (stat_numbers s told)
    ∙ ap (λ letter. stat_told (s.used ∷ s.free ∷ s.epoch ∷ s.number ∷ s.log ∷ s.granted ∷ s.spent ∷ s.placed ∷ s.missing ∷ s.idle ∷ []) letter flips root_words) (cycle_letter s told)
    ∙ ap (λ on. record s { cycle = on; flips = flips; root_words = root_words }) (by s.cycle)
  where
    by : (on : Bool) → ((if on then 110 else 102) == 110) ≡ on
    by true = refl
    by false = refl

pub stat_text-injective : (a b : Stat) → IsToldStat a → IsToldStat b → stat_text a ≡ stat_text b → a ≡ record b { flips = a.flips; root_words = a.root_words }
stat_text-injective a b one other same =
    sym (stat_told-text a one a.flips a.root_words)
    ∙ ap (λ text. stat_told (numbers_in text) (number (letters_in text) 24) a.flips a.root_words) same
    ∙ stat_told-text b other a.flips a.root_words
