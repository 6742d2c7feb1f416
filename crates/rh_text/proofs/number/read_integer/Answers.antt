use Rattle.std.proofs.Common.{◌≡◌, sym, ap, ◌∙◌, of_z, to_z}
use Rattle.std.specs.Int.{w64}
use Rattle.std.specs.Fmt.{signed_decimal}
use Rattle.std.proofs.lemmas.Int.{to_z-of_z}
use Rattle.rh_text.proofs.ReadInteger.{not_utf8, not_parsed, parsed_fits, other_spelling, integer_found}
use Rattle.rh_text.proofs.number.read_integer.Goals as goal

pub returns-in_default : goal.returns-in_default
returns-in_default c = not_utf8 c.args.part.now c.in_default.ensures.cases.0

pub returns-in_default-parse : goal.returns-in_default-parse
returns-in_default-parse c = rw (← c.in-Ok.ensures.cases.0) (not_parsed c.in-Ok.text.now c.in_default-parse.field-0 c.in_default-parse.ensures.value.0)

pub returns-then-eq : goal.returns-then-eq
returns-then-eq c =
    let n = c.in-Ok-parse.number in
    let text = c.in-Ok.text.now in
    let read = c.in-Ok-parse.ensures.value.0 in
    let back : to_z w64 (of_z w64 n) ≡ n = to_z-of_z w64 n (parsed_fits text n read) in
    let shown : c.as_bytes.result.now ≡ signed_decimal n = c.as_bytes.ensures.value ∙ c.format.ensures.text ∙ ap signed_decimal back in
    rw (back, ← c.in-Ok.ensures.cases.0) (integer_found text c.as_bytes.result.now n read shown (rw c.in-Ok.ensures.cases.0 (sym c.eq.ensures ∙ c.if-eq.true)))

pub returns-else-eq : goal.returns-else-eq
returns-else-eq c =
    let n = c.in-Ok-parse.number in
    let text = c.in-Ok.text.now in
    let read = c.in-Ok-parse.ensures.value.0 in
    let shown : c.as_bytes.result.now ≡ signed_decimal n = c.as_bytes.ensures.value ∙ c.format.ensures.text ∙ ap signed_decimal (to_z-of_z w64 n (parsed_fits text n read)) in
    rw (← c.in-Ok.ensures.cases.0) (other_spelling text c.as_bytes.result.now n read shown (rw c.in-Ok.ensures.cases.0 (sym c.eq.ensures ∙ c.if-eq.false)))
