use Rattle.std.proofs.Common.{ℕ, List, [], ◌∷◌, ◌++◌, codes, ap, sym, ◌∙◌}
use Rattle.rh_text.specs.Root.{root_text}
use Rattle.rh_dump.specs.texts.Line.{value_text}
use Rattle.rh_dot.proofs.Parts.{root_put, root_ended}
use Rattle.rh_dot.proofs.spelling.put_root_node.Goals as goal

pub returns-clause-value : goal.returns-clause-value
returns-clause-value c =
    let head = codes "{ rank=source \"" in
    let root = root_text c.args.root in
    let middle = codes "\" [shape=box label=\"" in
    let value = value_text c.args.value in
    let end = codes "\"] }" in
    let begun = c.put_root.ensures.value ∙ ap (λ (t : List ℕ). t ++ root) (c.put.ensures ∙ ap (λ (t : List ℕ). t ++ head) c.clear.ensures) in
    let more = c.put_root-2.ensures.value ∙ ap (λ (t : List ℕ). t ++ root) (c.put-2.ensures ∙ ap (λ (t : List ℕ). t ++ middle) begun) in
    let most = c.put_value.ensures.value ∙ ap (λ (t : List ℕ). t ++ value) (c.put-3.ensures ∙ ap (λ (t : List ℕ). t ++ 32 ∷ []) more) in
    c.put-4.ensures ∙ ap (λ (t : List ℕ). t ++ (end ++ 10 ∷ [])) most ∙ root_put head root middle (32 ∷ []) value (end ++ 10 ∷ []) ∙ sym (root_ended head root middle (32 ∷ []) value end (10 ∷ []))
