-- A text that begins with what was read of it, piece by piece.
use Rattle.std.proofs.Common.{refl, ◌≡◌, ℕ, ◌-◌, ◌≤◌, List, [], ◌∷◌, ◌++◌, length, take, drop, sym, ap, ◌∙◌, append_assoc, arith}
use Rattle.std.proofs.lemmas.List.{length-take, length-append, take-append-drop, drop_at}

-- a part, a byte, and another part
pub joined : (byte : ℕ) (first last text next after rest : List ℕ) → text ≡ first ++ next → next ≡ byte ∷ after → after ≡ last ++ rest
    → text ≡ (first ++ byte ∷ last) ++ rest
joined byte first last text next after rest e f g = rw (e, f, g, append_assoc) refl

-- an owner and a keyword before the parts
pub after_word : (number word parts text rest : List ℕ) → text ≡ parts ++ rest → number ++ (word ++ text) ≡ (number ++ (word ++ parts)) ++ rest
after_word number word parts text rest e = rw (e, append_assoc, append_assoc) refl

-- a whole line, with its line end
pub line_ended : (number line text next after end rest : List ℕ) → text ≡ number ++ next → next ≡ 32 ∷ after
    → number ++ 32 ∷ after ≡ line ++ end → end ≡ 10 ∷ rest → text ≡ (line ++ 10 ∷ []) ++ rest
line_ended number line text next after end rest e f g h = rw (e, f, g, h, append_assoc) refl

-- a line with which the first bytes of a text begin, and what stands after it in the text
pub window_leads : (text window line rest : List ℕ) (n : ℕ) → n ≤ length text → window ≡ take n text → window ≡ line ++ rest → text ≡ line ++ drop (n - length rest) text
window_leads text window line rest n enough is begins =
    let after = drop n text in
    let whole : text ≡ line ++ (rest ++ after) =
    sym (take-append-drop n text) ∙ ap (λ (t : List ℕ). t ++ after) (sym is ∙ begins) ∙ append_assoc line rest after in
    let long : length line ≡ n - length rest = omega (arith, enough, ap length is, length-take n text, ap length begins, length-append line rest) in
    let left : drop (n - length rest) text ≡ rest ++ after = ap (drop (n - length rest)) whole ∙ drop_at line (rest ++ after) (n - length rest) long in
    whole ∙ ap (λ (t : List ℕ). line ++ t) (sym left)
