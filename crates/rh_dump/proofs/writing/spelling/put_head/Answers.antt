use Rattle.std.proofs.Common.{ℕ, List, [], ◌∷◌, ◌++◌, codes, ap, ◌∙◌}
use Rattle.std.specs.Prelude.{decimal}
use Rattle.rh_dump.proofs.writing.spelling.put_head.Goals as goal

-- the first line is that of version 2
pub returns : goal.returns
returns c =
    let lines = codes "rheap 2" ++ 10 ∷ codes "roots " in
    c.put-2.ensures ∙ ap (λ (text : List ℕ). text ++ 10 ∷ []) (c.put_integer.ensures.value ∙ ap (λ (text : List ℕ). text ++ decimal c.args.roots) (c.put.ensures ∙ ap (λ (text : List ℕ). text ++ lines) c.clear.ensures))
