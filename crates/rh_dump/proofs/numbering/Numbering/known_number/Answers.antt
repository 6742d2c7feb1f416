use Rattle.std.proofs.Common.{◌≡◌, ◌<◌, length, refl, sym, ap, subst, ◌∙◌, arith, rules}
use Rattle.std.specs.Prelude.{List, ℕ, Some, slice_get}
use Rattle.std.proofs.lemmas.Option.{slice_get_read, slice_get_within, same_Some}
use Rattle.rh_dump.specs.Numbering.{with_name, number_in}
use Rattle.rh_dump.specs.Meeting.{NumberingState}
use Rattle.rh_dump.proofs.numbers.Index.{IsIndexOf-known, IsIndexOf-new}
use Rattle.rh_dump.proofs.numbering.Numbering.known_number.Goals as goal

pub returns-then-known-len-clause-new : goal.returns-then-known-len-clause-new
returns-then-known-len-clause-new g c none =
    let numbers = c.self.inside.numbers.items in
    let names = c.self.inside.names.items in
    let at : slice_get numbers c.args.name ≡ Some c.index-known.result.now =
    slice_get_read numbers (length numbers) c.args.name c.index-known.result.now refl (omega (arith, c.requires, ap (λ (s : NumberingState). s.limit) c.self.view_is)) c.index-known.ensures in
    subst (λ (l : List ℕ). number_in l c.args.name ≡ length l) (ap (λ (s : NumberingState). s.names) c.self.view_is)
    (IsIndexOf-new numbers names c.self.invariant.0 c.args.name c.index-known.result.now at
    (λ is. let within : c.index-known.result.now < length names = slice_get_within names c.index-known.result.now c.args.name is in
    omega (arith, within, c.if-known-len.true, c.len.ensures, c.self.inside.names.ok.0)))

pub returns-then-index-name-clause-new : goal.returns-then-index-name-clause-new
returns-then-index-name-clause-new g c none =
    let numbers = c.self.inside.numbers.items in
    let names = c.self.inside.names.items in
    let at : slice_get numbers c.args.name ≡ Some c.index-known.result.now =
    slice_get_read numbers (length numbers) c.args.name c.index-known.result.now refl (omega (arith, c.requires, ap (λ (s : NumberingState). s.limit) c.self.view_is)) c.index-known.ensures in
    let met : slice_get names c.index-known.result.now ≡ Some c.index.result.now =
    slice_get_read names (length names) c.index-known.result.now c.index.result.now refl (omega (arith, c.if-known-len.false, c.len.ensures, c.self.inside.names.ok.0)) c.index.ensures in
    subst (λ (l : List ℕ). number_in l c.args.name ≡ length l) (ap (λ (s : NumberingState). s.names) c.self.view_is)
    (IsIndexOf-new numbers names c.self.invariant.0 c.args.name c.index-known.result.now at
    (λ is. c.if-index-name.true (same_Some c.index.result.now c.args.name (sym met ∙ is))))

pub returns-clause-known : goal.returns-clause-known
returns-clause-known g c =
    let numbers = c.self.inside.numbers.items in
    let names = c.self.inside.names.items in
    let met : slice_get names c.index-known.result.now ≡ Some c.index.result.now =
    slice_get_read names (length names) c.index-known.result.now c.index.result.now refl (omega (arith, c.if-known-len.false, c.len.ensures, c.self.inside.names.ok.0)) c.index.ensures in
    let it = IsIndexOf-known numbers names c.self.invariant.0 c.args.name c.index-known.result.now (met ∙ ap Some c.if-index-name.false) in
    subst (λ (l : List ℕ). (c.index-known.result.now ≡ number_in l c.args.name) × (with_name l c.args.name ≡ l)) (ap (λ (s : NumberingState). s.names) c.self.view_is) (it.1, it.0)

pub returns-clause-new : goal.returns-clause-new
returns-clause-new g c = search rules
