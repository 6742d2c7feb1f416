-- Parts that are what they should be: with them a line whose first parts are right goes on without a fault.
use Rattle.std.proofs.Common.{◌≡◌, ℕ, true, false, List, [], ◌∷◌, ◌++◌, length, map, Some, Ok, refl, sym, ap, subst, ◌∙◌, arith}
use Rattle.std.specs.Prelude.{codes, decimal}
use Rattle.std.specs.Str.{bytes_eq}
use Rattle.std.proofs.lemmas.List.{length-append, length-map}
use Rattle.rh_layout.specs.declared.command.RootId.{RootId}
use Rattle.rh_text.specs.Parts.{begins_with_digit}
use Rattle.rh_text.specs.Root.{root_text}
use Rattle.rh_text.specs.Stages.{IsFaultless}
use Rattle.rh_text.specs.lemmas.Numbers.{number_of-decimal}
use Rattle.rh_text.specs.lemmas.Roots.{root_of-text}
use Rattle.rh_text.specs.lemmas.Stages.{Judges, judges-end}
use Rattle.rh_syntax.specs.Faults.{Sort, keyword, number, root, operand, copies_or_entries, tray, lookup, header_form, owned_forms, keyword_forms, each_part, line_part_faults, header_part_faults}
use Rattle.rh_syntax.specs.lemmas.TrayNames.{read-from_name}
use Rattle.rh_explain.specs.Judging.{Passes}
use Rattle.rh_explain.proofs.Lines.{parts_judged, keyword_known, keyword_line, owned_line, header_line}
use Rattle.rh_explain.proofs.Parts.{number_passes, root_passes, nil_passes, copies_passes, tray_passes}

-- the root 0.0
abbrev first_root : RootId
first_root = record { owner = 0; slot = 0 }

-- a part of each sort
abbrev pub legal : Sort → List ℕ
legal keyword = []
legal number = decimal 0
legal root = root_text first_root
legal operand = codes "nil"
legal copies_or_entries = codes "copies"
legal tray = codes "t"

legal_passes : (sort : Sort) → Passes (sort ∷ []) (legal sort ∷ [])
legal_passes keyword = λ due left read judged. judged
legal_passes number = number_passes (decimal 0) 0 (number_of-decimal 0 (omega arith))
legal_passes root = root_passes (root_text first_root) first_root (root_of-text first_root (omega arith, omega arith))
legal_passes operand = nil_passes (codes "nil") refl
legal_passes copies_or_entries = copies_passes (codes "copies") refl
legal_passes tray = tray_passes (codes "t") (codes "t") (read-from_name (codes "t") ((omega arith, omega arith), omega arith, tt))

all_legal : (due : List Sort) → Judges (each_part due (map legal due)) (Ok (tt {0}))
all_legal [] = judges-end tt
all_legal (sort ∷ due) = legal_passes sort due (map legal due) (Ok tt) (all_legal due)

-- the parts before one, and legal ones from there on
module _ (done due : List Sort) (ahead : List (List ℕ)) (passes : Passes done ahead) (even : length done ≡ length ahead) where
  filled : Judges (each_part (done ++ due) (ahead ++ map legal due)) (Ok (tt {0}))
  filled = passes due (map legal due) (Ok tt) (all_legal due)

  same_length : length (ahead ++ map legal due) ≡ length (done ++ due)
  same_length = omega (arith, even, length-append ahead (map legal due), length-append done due, length-map due legal)

pub keyword_viable : (done due : List Sort) (ahead : List (List ℕ)) (passes : Passes done ahead) (even : length done ≡ length ahead) (word : List ℕ) (left : List (List ℕ)) → ahead ≡ word ∷ left → begins_with_digit word ≡ false
    → lookup word keyword_forms ≡ Some (done ++ due) → IsFaultless (line_part_faults (ahead ++ map legal due))
keyword_viable done due ahead passes even word left is bare e =
    let parts = parts_judged (done ++ due) (ahead ++ map legal due) (Ok tt) (same_length done due ahead passes even) (filled done due ahead passes even) in
    let same : ahead ++ map legal due ≡ word ∷ (left ++ map legal due) = ap (λ (ps : List (List ℕ)). ps ++ map legal due) is in
    (keyword_line (ahead ++ map legal due) word (left ++ map legal due) (done ++ due) (Ok tt) same bare e parts).none tt refl

pub owned_viable : (done due : List Sort) (ahead : List (List ℕ)) (passes : Passes done ahead) (even : length done ≡ length ahead) (owner word : List ℕ) (left : List (List ℕ)) → ahead ≡ owner ∷ word ∷ left → begins_with_digit owner ≡ true
    → lookup word owned_forms ≡ Some (done ++ due) → IsFaultless (line_part_faults (ahead ++ map legal due))
owned_viable done due ahead passes even owner word left is digit e =
    let parts = parts_judged (done ++ due) (ahead ++ map legal due) (Ok tt) (same_length done due ahead passes even) (filled done due ahead passes even) in
    let same : ahead ++ map legal due ≡ owner ∷ word ∷ (left ++ map legal due) = ap (λ (ps : List (List ℕ)). ps ++ map legal due) is in
    (owned_line (ahead ++ map legal due) owner word (left ++ map legal due) (done ++ due) (Ok tt) same digit e parts).none tt refl

pub header_viable : (done due : List Sort) (ahead : List (List ℕ)) (passes : Passes done ahead) (even : length done ≡ length ahead) (word : List ℕ) (left : List (List ℕ)) → ahead ≡ word ∷ left → bytes_eq word (codes "heap") ≡ true
    → header_form ≡ done ++ due → IsFaultless (header_part_faults (ahead ++ map legal due))
header_viable done due ahead passes even word left is heap e =
    let same : ahead ++ map legal due ≡ word ∷ (left ++ map legal due) = ap (λ (ps : List (List ℕ)). ps ++ map legal due) is in
    (header_line (ahead ++ map legal due) word (left ++ map legal due) (Ok tt) same heap (same_length done due ahead passes even ∙ ap length (sym e)) (subst (λ (f : List Sort). Judges (each_part f (ahead ++ map legal due)) (Ok (tt {0}))) (sym e) (filled done due ahead passes even))).none tt refl

-- a line without a fault
pub flip_viable : IsFaultless (line_part_faults (codes "flip" ∷ []))
flip_viable = (keyword_known (codes "flip") [] refl (keyword ∷ []) (Ok tt) refl (parts_judged (keyword ∷ []) (codes "flip" ∷ []) (Ok tt) refl (judges-end tt))).none tt refl
