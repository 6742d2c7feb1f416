-- The total line tells the summary: it can be read back.
use Rattle.std.specs.Prelude.{◌≡◌, ℕ, List, [], ◌∷◌, ◌++◌, slice_index_or, codes, decimal}
use Rattle.std.proofs.Common.{refl, sym, ap, ◌∙◌}
use Rattle.rh_syntax.specs.lemmas.TextNumbers.{numbers_in, numbers_in-decimal}
use Rattle.rh_trace.specs.declared.summary.Summary.{Summary}
use Rattle.rh_trace.specs.Answers.{total_line, IsToldSummary}

-- the summary with these numbers
abbrev summary_numbered : List ℕ → Summary
summary_numbered ns = record {
  commands = slice_index_or ns 0 0;
  refused = slice_index_or ns 1 0;
  flips = slice_index_or ns 2 0;
  root_words = slice_index_or ns 3 0;
}

numbers_in-total : (s : Summary) → IsToldSummary s → numbers_in (total_line s) ≡ s.commands ∷ s.refused ∷ s.flips ∷ s.root_words ∷ []
numbers_in-total s told =
    let words : List ℕ = codes " rootwords " ++ (decimal s.root_words ++ 10 ∷ []) in
    let flips : List ℕ = codes " flips " ++ (decimal s.flips ++ words) in
    let refused : List ℕ = codes " refused " ++ (decimal s.refused ++ flips) in
    numbers_in-decimal s.commands refused told.commands refl
    ∙ ap (λ ns. s.commands ∷ ns) (numbers_in-decimal s.refused flips told.refused refl)
    ∙ ap (λ ns. s.commands ∷ s.refused ∷ ns) (numbers_in-decimal s.flips words told.flips refl)
    ∙ ap (λ ns. s.commands ∷ s.refused ∷ s.flips ∷ ns) (numbers_in-decimal s.root_words (10 ∷ []) told.root_words refl)

-- so two summaries with one total line are one
pub total_line-injective : (a b : Summary) → IsToldSummary a → IsToldSummary b → total_line a ≡ total_line b → a ≡ b
total_line-injective a b one other same =
    sym (ap summary_numbered (numbers_in-total a one)) ∙ ap (λ text. summary_numbered (numbers_in text)) same ∙ ap summary_numbered (numbers_in-total b other)
