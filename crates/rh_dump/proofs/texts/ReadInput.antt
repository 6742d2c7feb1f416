-- A dump read from the bytes that a reader gave.
use Rattle.std.proofs.Common.{◌≡◌, ℕ, ◌<◌, ◌⊎◌, List, [], ◌++◌, length, Option, Some, None, IfSome, Result, Ok, Err, ap, subst, ◌∙◌, append-nil, inl, inr, arith}
use Rattle.std.specs.Io.KnownBytes.{Consumes, IsAtEnd}
use Rattle.rh_text.specs.Input.{ReadsPast}
use Rattle.rh_dump.specs.Dump.{GraphState}
use Rattle.rh_dump.specs.texts.Reading.{graph_of_text}
use Rattle.rh_dump.specs.texts.Putting.{Gives, Reads, TakesAll, ReadsDump}
use Rattle.rh_dump.specs.declared.reading.read_error.DumpReadError.{DumpReadError}
use Rattle.rh_dump.specs.declared.reading.read_error.DumpReadError.TheVariants as errors
use Rattle.rh_dump.proofs.texts.ReadIsSpelled.{graph_within-means}
use Rattle.rh_dump.proofs.texts.PastLimit.{graph_within-longer}

-- what was read isn't past the limit, so all of it was taken
taken : (text : List ℕ) (g : GraphState) (left : Option (List ℕ)) → graph_of_text text ≡ Ok g → (268435456 < length text) ⊎ IsAtEnd left → IsAtEnd left
taken text g left e all = elim all [
  | inl past ↦ absurd (omega (arith, past, (graph_within-means 268435456 text g e).2))
  | inr done ↦ done
]

pub reads_text : {X : Type 0} (view : X → GraphState) (result : Result X DumpReadError) (text : List ℕ) (old left : Option (List ℕ)) → Consumes old left text → (268435456 < length text) ⊎ IsAtEnd left
    → Gives view result (graph_of_text text) → ReadsDump old left view result
reads_text view (Ok x) text old left from all e = (text, from, e, taken text (view x) left e all)
reads_text view (Err (errors.Fault fault)) text old left from all e = (text, from, e, all)
reads_text view (Err errors.Read) text old left from all e = absurd e
reads_text view (Err errors.OutOfMemory) text old left from all e = (text, from, tt, tt)

pub reads_past : {X V : Type 0} (items : V → List ℕ) (v : V) (view : X → GraphState) (result : Result X DumpReadError) (text : List ℕ) (old left : Option (List ℕ)) → ReadsPast 268435456 old left items (Ok v) → text ≡ items v
    → Gives view result (graph_of_text text) → ReadsDump old left view result
reads_past items v view result text old left h is e =
    let ends : (items v ≡ h.0) × ((268435456 < length h.0) ⊎ IsAtEnd left) = h.2 in
    reads_text view result h.0 old left h.1 ends.1 (subst (λ (t : List ℕ). Gives view result (graph_of_text t)) (is ∙ ends.0) e)

same_input : (input text rest : List ℕ) → input ≡ text ++ rest → rest ≡ [] → input ≡ text
same_input input text rest from done = from ∙ ap (λ (r : List ℕ). text ++ r) done ∙ append-nil text

fault_of_longer : (input text rest : List ℕ) → input ≡ text ++ rest → (268435456 < length text) ⊎ (rest ≡ []) → graph_of_text input ≡ graph_of_text text
fault_of_longer input text rest from all = elim all [
  | inl past ↦ ap graph_of_text from ∙ graph_within-longer 268435456 text rest past
  | inr done ↦ ap graph_of_text (same_input input text rest from done)
]

told_by : {X : Type 0} (view : X → GraphState) (result : Result X DumpReadError) (input text rest : List ℕ) → input ≡ text ++ rest → Reads view result text → TakesAll result text (Some rest) → Reads view result input
told_by view (Ok x) input text rest from e all = ap graph_of_text (same_input input text rest from all) ∙ e
told_by view (Err (errors.Fault fault)) input text rest from e all = fault_of_longer input text rest from all ∙ e
told_by view (Err errors.Read) input text rest from e all = tt
told_by view (Err errors.OutOfMemory) input text rest from e all = tt

-- a reader that tells its bytes had these
pub reads_told : {X : Type 0} (view : X → GraphState) (result : Result X DumpReadError) (old left : Option (List ℕ)) → ReadsDump old left view result → IfSome old (λ input. Reads view result input)
reads_told view result None left h = tt
reads_told view result (Some input) None h = absurd h.1
reads_told view result (Some input) (Some rest) h = told_by view result input h.0 rest h.1 h.2 h.3
