use Rattle.std.proofs.Common.{◌≡◌, ◌∷◌, ◌++◌, [], length, sym, ap, subst, ◌∙◌, arith, rules}
use Rattle.std.specs.Prelude.{List, ℕ, Some, slice_get, slice_set}
use Rattle.std.proofs.Math.ListN.{get_or}
use Rattle.std.proofs.lemmas.List.{length-set}
use Rattle.std.proofs.lemmas.Option.{slice_get-get_or}
use Rattle.rh_dump.specs.Numbering.{with_name, number_in}
use Rattle.rh_dump.specs.Meeting.{NumberingState, IsIndexOf}
use Rattle.rh_dump.proofs.numbers.Index.{IsIndexOf-few, IsIndexOf-push, IsIndexOf-added, with_name-state}
use Rattle.rh_dump.proofs.numbering.Numbering.number.Goals as goal

pub overflow_cast-next : goal.overflow_cast-next
overflow_cast-next g c =
    let few = IsIndexOf-few c.self.inside.numbers.items c.self.inside.names.items c.self.invariant.0 in
    omega (arith, few, c.self.invariant.1, c.len-next.ensures, c.self.inside.names.ok.0)

pub invariant_of-self-2 : goal.invariant_of-self-2
invariant_of-self-2 g c =
    let numbers = c.self.inside.numbers.items in
    let names = c.self.inside.names.items in
    let met : number_in c.args.self.now.names c.args.name ≡ length c.args.self.now.names = first_of (search (rules, c.in_default.ensures.new, c.in_default.is), grind (arith, c.in_default.ensures.new, c.in_default.is)) in
    let past : number_in names c.args.name ≡ length names = subst (λ (l : List ℕ). number_in l c.args.name ≡ length l) (sym (ap (λ (s : NumberingState). s.names) c.self.view_is)) met in
    let at : slice_get numbers c.args.name ≡ Some (get_or numbers c.args.name 0) =
    slice_get-get_or numbers c.args.name 0 (omega (arith, c.requires, ap (λ (s : NumberingState). s.limit) c.self.view_is)) in
    let next : c.len-next.result ≡ length names = c.len-next.ensures ∙ c.self.inside.names.ok.0 in (
      subst (λ (l : List ℕ). IsIndexOf (slice_set numbers c.args.name c.len-next.result) l) (sym c.in_ok-push_name.ensures.ok)
          (subst (λ (n : ℕ). IsIndexOf (slice_set numbers c.args.name n) (names ++ c.args.name ∷ [])) (sym next)
          (IsIndexOf-push numbers names c.self.invariant.0 c.args.name (get_or numbers c.args.name 0) at past)),
      omega (arith, length-set numbers c.args.name c.len-next.result, c.self.invariant.1),
    )

pub returns-clause-state : goal.returns-clause-state
returns-clause-state g c =
    let names = c.self.inside.names.items in
    let met : number_in c.args.self.now.names c.args.name ≡ length c.args.self.now.names = first_of (search (rules, c.in_default.ensures.new, c.in_default.is), grind (arith, c.in_default.ensures.new, c.in_default.is)) in
    let past : number_in names c.args.name ≡ length names = subst (λ (l : List ℕ). number_in l c.args.name ≡ length l) (sym (ap (λ (s : NumberingState). s.names) c.self.view_is)) met in
    with_name-state c.args.self.now c.self.inside.numbers.items names c.push_name.new.names.items c.self.inside.graph c.args.name c.len-next.result c.self.view_is c.in_ok-push_name.ensures.ok past

pub returns-clause-number : goal.returns-clause-number
returns-clause-number g c =
    let names = c.self.inside.names.items in
    let met : number_in c.args.self.now.names c.args.name ≡ length c.args.self.now.names = first_of (search (rules, c.in_default.ensures.new, c.in_default.is), grind (arith, c.in_default.ensures.new, c.in_default.is)) in
    let past : number_in names c.args.name ≡ length names = subst (λ (l : List ℕ). number_in l c.args.name ≡ length l) (sym (ap (λ (s : NumberingState). s.names) c.self.view_is)) met in
    let next : c.len-next.result ≡ length names = c.len-next.ensures ∙ c.self.inside.names.ok.0 in
    next ∙ (IsIndexOf-added c.self.inside.numbers.items names c.self.invariant.0 c.args.name past).1
    ∙ ap (λ (s : NumberingState). number_in (with_name s.names c.args.name) c.args.name) c.self.view_is
