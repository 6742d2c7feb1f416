-- What is found of each sort of part.
use Rattle.std.proofs.Common.{◌≡◌, ◌≢◌, ℕ, ℤ, List, [], ◌∷◌, Some, None, Err, true, false}
use Rattle.std.specs.Prelude.{codes}
use Rattle.std.specs.Str.{bytes_eq}
use Rattle.std.proofs.lemmas.Slice.Eq.{bytes_eq-Decides}
use Rattle.std.proofs.lemmas.Bool.Decides.{not_from_Decides}
use Rattle.rh_layout.specs.declared.command.RootId.{RootId}
use Rattle.rh_text.specs.Number.{number_of, integer_of}
use Rattle.rh_text.specs.Parts.{has_dot}
use Rattle.rh_text.specs.Root.{root_of}
use Rattle.rh_text.specs.lemmas.Stages.{judges-here, judges-later}
use Rattle.rh_syntax.specs.declared.fault.Kind.TheVariants.{Word, Number, Root, Tray}
use Rattle.rh_syntax.specs.Faults.{number, root, operand, copies_or_entries, tray, each_part, IsNumber, IsRoot, IsInteger, HasDot}
use Rattle.rh_syntax.specs.TrayName.{tray_name_of, IsTrayName}
use Rattle.rh_syntax.specs.lemmas.FirstFault.{no_number, number_is, no_root, root_is, no_integer, integer_is, has_dot-Decides, nil_dotless, no_tray, tray_is}
use Rattle.rh_explain.specs.Judging.{Passes, Fails}

pub number_passes : (part : List ℕ) (n : ℕ) → number_of part ≡ Some n → Passes (number ∷ []) (part ∷ [])
number_passes part n e = λ due left read judged. judges-later Number (¬ IsNumber part) (each_part due left) read (λ fails. fails (number_is part n e)) judged

pub number_fails : (part : List ℕ) → number_of part ≡ None → Fails number part Number
number_fails part e = λ due left. judges-here Number (¬ IsNumber part) (each_part due left) (no_number part e)

pub root_passes : (part : List ℕ) (r : RootId) → root_of part ≡ Some r → Passes (root ∷ []) (part ∷ [])
root_passes part r e = λ due left read judged. judges-later Root (¬ IsRoot part) (each_part due left) read (λ fails. fails (root_is part r e)) judged

pub root_fails : (part : List ℕ) → root_of part ≡ None → Fails root part Root
root_fails part e = λ due left. judges-here Root (¬ IsRoot part) (each_part due left) (no_root part e)

pub tray_passes : (part name : List ℕ) → tray_name_of part ≡ Some name → Passes (tray ∷ []) (part ∷ [])
tray_passes part name e = λ due left read judged. judges-later Tray (¬ IsTrayName part) (each_part due left) read (λ fails. fails (tray_is part name e)) judged

pub tray_fails : (part : List ℕ) → tray_name_of part ≡ None → Fails tray part Tray
tray_fails part e = λ due left. judges-here Tray (¬ IsTrayName part) (each_part due left) (no_tray part e)

-- neither of the words that say what is dealt
abbrev IsNeither : List ℕ → Type 0
IsNeither part = (part ≢ codes "copies") × (part ≢ codes "entries")

pub copies_passes : (part : List ℕ) → bytes_eq part (codes "copies") ≡ true → Passes (copies_or_entries ∷ []) (part ∷ [])
copies_passes part e = λ due left read judged. judges-later Word (IsNeither part) (each_part due left) read (λ fails. fails.0 ((bytes_eq-Decides part (codes "copies")).0 e)) judged

pub entries_passes : (part : List ℕ) → bytes_eq part (codes "entries") ≡ true → Passes (copies_or_entries ∷ []) (part ∷ [])
entries_passes part e = λ due left read judged. judges-later Word (IsNeither part) (each_part due left) read (λ fails. fails.1 ((bytes_eq-Decides part (codes "entries")).0 e)) judged

pub neither_fails : (part : List ℕ) → bytes_eq part (codes "copies") ≡ false → bytes_eq part (codes "entries") ≡ false → Fails copies_or_entries part Word
neither_fails part e f = λ due left.
    judges-here Word (IsNeither part) (each_part due left)
    (not_from_Decides (bytes_eq part (codes "copies")) (bytes_eq-Decides part (codes "copies")) e, not_from_Decides (bytes_eq part (codes "entries")) (bytes_eq-Decides part (codes "entries")) f)

-- what an operand with a dot must not be, and what one without a dot must not be
abbrev NoDotted : List ℕ → Type 0
NoDotted part = HasDot part × (¬ IsRoot part)

abbrev NoInteger : List ℕ → Type 0
NoInteger part = (¬ HasDot part) × (part ≢ codes "nil") × (¬ IsInteger part)

operand_passes : (part : List ℕ) → ¬ NoDotted part → ¬ NoInteger part → Passes (operand ∷ []) (part ∷ [])
operand_passes part dotted dotless = λ due left read judged.
    judges-later Root (NoDotted part) _ read dotted (judges-later Number (NoInteger part) (each_part due left) read dotless judged)

pub nil_passes : (part : List ℕ) → bytes_eq part (codes "nil") ≡ true → Passes (operand ∷ []) (part ∷ [])
nil_passes part e =
    let nil = (bytes_eq-Decides part (codes "nil")).0 e in
    operand_passes part (λ h. nil_dotless part nil h.0) (λ h. h.1 nil)

pub root_operand_passes : (part : List ℕ) (r : RootId) → has_dot part ≡ true → root_of part ≡ Some r → Passes (operand ∷ []) (part ∷ [])
root_operand_passes part r dot e = operand_passes part (λ h. h.1 (root_is part r e)) (λ h. h.0 ((has_dot-Decides part).0 dot))

pub integer_passes : (part : List ℕ) (n : ℤ) → has_dot part ≡ false → integer_of part ≡ Some n → Passes (operand ∷ []) (part ∷ [])
integer_passes part n dot e = operand_passes part (λ h. not_from_Decides (has_dot part) (has_dot-Decides part) dot h.0) (λ h. h.2 (integer_is part n e))

pub root_operand_fails : (part : List ℕ) → has_dot part ≡ true → root_of part ≡ None → Fails operand part Root
root_operand_fails part dot e = λ due left. judges-here Root (NoDotted part) _ ((has_dot-Decides part).0 dot, no_root part e)

pub integer_fails : (part : List ℕ) → bytes_eq part (codes "nil") ≡ false → has_dot part ≡ false → integer_of part ≡ None → Fails operand part Number
integer_fails part nil dot e = λ due left.
    let dotless = not_from_Decides (has_dot part) (has_dot-Decides part) dot in
    judges-later Root (NoDotted part) _ (Err Number) (λ h. dotless h.0)
    (judges-here Number (NoInteger part) (each_part due left) (dotless, not_from_Decides (bytes_eq part (codes "nil")) (bytes_eq-Decides part (codes "nil")) nil, no_integer part e))
