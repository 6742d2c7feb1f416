use Rattle.std.proofs.Common.{rules, ◌≡◌, ℕ, List, [], ◌∷◌, ◌++◌, refl, sym, ap, ◌∙◌, append_assoc}
use Rattle.rh_cycles.specs.Line.{column, cycle_line, ends_text, entries_text, words_text, work_text}
use Rattle.rh_cycles.proofs.Parts.{on_err, part_of}
use Rattle.rh_cycles.proofs.line.put_cycle.Goals as goal

pub returns-in_err-extend_from_slice-2-clause-part : goal.returns-in_err-extend_from_slice-2-clause-part
returns-in_err-extend_from_slice-2-clause-part g c =
    let old = c.args.text.now.items in
    let cycle = c.args.cycle.now in
    let is : c.extend_from_slice-2.new.self.items ≡ old ++ ends_text cycle = search rules in
    on_err c.from_residual-in_err-extend_from_slice-2.result (part_of old (ends_text cycle) _ (cycle_line cycle) c.extend_from_slice-2.new.self.items is refl)

pub returns-in_err-extend_from_slice-3-clause-part : goal.returns-in_err-extend_from_slice-3-clause-part
returns-in_err-extend_from_slice-3-clause-part g c =
    let old = c.args.text.now.items in
    let cycle = c.args.cycle.now in
    let ends = ends_text cycle in
    let words = words_text cycle in
    let rest = work_text cycle ++ (entries_text cycle.entries ++ (column cycle.words ++ 10 ∷ [])) in
    let is : c.extend_from_slice-3.new.self.items ≡ (old ++ ends) ++ words = search rules in
    on_err c.from_residual-in_err-extend_from_slice-3.result (part_of old (ends ++ words) rest (cycle_line cycle) c.extend_from_slice-3.new.self.items (is ∙ append_assoc old ends words) (sym (append_assoc ends words rest)))

pub returns-in_err-extend_from_slice-4-clause-part : goal.returns-in_err-extend_from_slice-4-clause-part
returns-in_err-extend_from_slice-4-clause-part g c =
    let old = c.args.text.now.items in
    let cycle = c.args.cycle.now in
    let ends = ends_text cycle in
    let words = words_text cycle in
    let work = work_text cycle in
    let rest = entries_text cycle.entries ++ (column cycle.words ++ 10 ∷ []) in
    let is : c.extend_from_slice-4.new.self.items ≡ ((old ++ ends) ++ words) ++ work = search rules in
    let all = append_assoc ends (words ++ work) rest ∙ ap (λ (t : List ℕ). ends ++ t) (append_assoc words work rest) in
    on_err c.from_residual-in_err-extend_from_slice-4.result (part_of old (ends ++ (words ++ work)) rest (cycle_line cycle) c.extend_from_slice-4.new.self.items (is ∙ (append_assoc (old ++ ends) words work ∙ append_assoc old ends (words ++ work))) (sym all))
