use Rattle.std.proofs.Common.{◌≡◌, ◌∷◌, length, get_or, drop, ◌-◌, length-drop, sym, ◌∙◌, ap, arith}
use Rattle.std.proofs.lemmas.List.{drop_more, take_all}
use Rattle.rh_text.proofs.leading.after_byte.Goals as goal

pub returns-in-empty : goal.returns-in-empty
returns-in-empty c = λ rest e. let same : length c.args.text.now ≡ length (c.args.byte ∷ rest) = ap length e in absurd (omega (arith, c.in-empty.len_below))

pub returns-then-first-byte : goal.returns-then-first-byte
returns-then-first-byte c =
    let text = c.args.text.now in
    drop_more text 0 0 c.in-len1-up.len_at_least
    ∙ ap (λ b. b ∷ drop 1 text) c.if-first-byte.true
    ∙ ap (λ l. c.args.byte ∷ l) (sym (take_all (length text - 1) (drop 1 text) (omega (arith, length-drop 1 text))))

pub returns-else-first-byte : goal.returns-else-first-byte
returns-else-first-byte c = λ rest e. c.if-first-byte.false (ap (λ l. get_or l 0 0) e)
