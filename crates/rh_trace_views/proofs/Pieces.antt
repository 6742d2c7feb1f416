-- A text that is put at the end of another, piece by piece.
use Rattle.std.proofs.Common.{◌≡◌, ℕ, List, ◌++◌, ap, ◌∙◌, append_assoc}

module _ (old a t : List ℕ) (first : t ≡ old ++ a) where
  pub two : (b u : List ℕ) → u ≡ t ++ b → u ≡ old ++ (a ++ b)
  two b u is = is ∙ ap (λ (x : List ℕ). x ++ b) first ∙ append_assoc old a b

  pub three : (b u c v : List ℕ) → u ≡ t ++ b → v ≡ u ++ c → v ≡ old ++ (a ++ (b ++ c))
  three b u c v second third = third ∙ ap (λ (x : List ℕ). x ++ c) (two b u second) ∙ append_assoc old (a ++ b) c ∙ ap (λ (x : List ℕ). old ++ x) (append_assoc a b c)

  pub four : (b u c v d w : List ℕ) → u ≡ t ++ b → v ≡ u ++ c → w ≡ v ++ d → w ≡ old ++ (a ++ (b ++ (c ++ d)))
  four b u c v d w second third fourth =
      fourth ∙ ap (λ (x : List ℕ). x ++ d) (three b u c v second third) ∙ append_assoc old (a ++ (b ++ c)) d
      ∙ ap (λ (x : List ℕ). old ++ x) (append_assoc a (b ++ c) d ∙ ap (λ (x : List ℕ). a ++ x) (append_assoc b c d))

  pub five : (b u c v d w e x : List ℕ) → u ≡ t ++ b → v ≡ u ++ c → w ≡ v ++ d → x ≡ w ++ e → x ≡ old ++ (a ++ (b ++ (c ++ (d ++ e))))
  five b u c v d w e x second third fourth fifth =
      fifth ∙ ap (λ (y : List ℕ). y ++ e) (four b u c v d w second third fourth) ∙ append_assoc old (a ++ (b ++ (c ++ d))) e
      ∙ ap (λ (y : List ℕ). old ++ y) (append_assoc a (b ++ (c ++ d)) e ∙ ap (λ (y : List ℕ). a ++ y) (append_assoc b (c ++ d) e ∙ ap (λ (y : List ℕ). b ++ y) (append_assoc c d e)))
