use Rattle.std.proofs.Common.{refl, sym, ◌∙◌}
use Rattle.rh_syntax.specs.Reading.{command_or_fault}
use Rattle.rh_syntax.proofs.Steps.{parts_from_first}
use Rattle.rh_syntax.proofs.lines.commands.command_or_fault.Goals as goal

pub returns-in_default : goal.returns-in_default
unfolding command_or_fault
returns-in_default c = rw (parts_from_first _ _ c.in_default.ensures) refl

pub returns-then-is_text : goal.returns-then-is_text
unfolding command_or_fault
returns-then-is_text c =
    let first = parts_from_first _ _ c.in-Some.ensures in
    let alloc = sym c.is_text.ensures ∙ c.if-is_text.true in
    rw (first, alloc) c.read_alloc.ensures

pub returns-then-is_text-2 : goal.returns-then-is_text-2
unfolding command_or_fault
returns-then-is_text-2 c =
    let first = parts_from_first _ _ c.in-Some.ensures in
    let alloc = sym c.is_text.ensures ∙ c.if-is_text.false in
    let raw = sym c.is_text-2.ensures ∙ c.if-is_text-2.true in
    rw (first, alloc, raw) c.read_raw.ensures

pub returns-then-is_text-3 : goal.returns-then-is_text-3
unfolding command_or_fault
returns-then-is_text-3 c =
    let first = parts_from_first _ _ c.in-Some.ensures in
    let alloc = sym c.is_text.ensures ∙ c.if-is_text.false in
    let raw = sym c.is_text-2.ensures ∙ c.if-is_text-2.false in
    let load = sym c.is_text-3.ensures ∙ c.if-is_text-3.true in
    rw (first, alloc, raw, load) c.read_load.ensures

pub returns-then-is_text-4 : goal.returns-then-is_text-4
unfolding command_or_fault
returns-then-is_text-4 c =
    let first = parts_from_first _ _ c.in-Some.ensures in
    let alloc = sym c.is_text.ensures ∙ c.if-is_text.false in
    let raw = sym c.is_text-2.ensures ∙ c.if-is_text-2.false in
    let load = sym c.is_text-3.ensures ∙ c.if-is_text-3.false in
    let store = sym c.is_text-4.ensures ∙ c.if-is_text-4.true in
    rw (first, alloc, raw, load, store) c.read_store.ensures

pub returns-then-is_text-5 : goal.returns-then-is_text-5
unfolding command_or_fault
returns-then-is_text-5 c =
    let first = parts_from_first _ _ c.in-Some.ensures in
    let alloc = sym c.is_text.ensures ∙ c.if-is_text.false in
    let raw = sym c.is_text-2.ensures ∙ c.if-is_text-2.false in
    let load = sym c.is_text-3.ensures ∙ c.if-is_text-3.false in
    let store = sym c.is_text-4.ensures ∙ c.if-is_text-4.false in
    let copy = sym c.is_text-5.ensures ∙ c.if-is_text-5.true in
    rw (first, alloc, raw, load, store, copy) c.read_copy.ensures

pub returns-then-is_text-6 : goal.returns-then-is_text-6
unfolding command_or_fault
returns-then-is_text-6 c =
    let first = parts_from_first _ _ c.in-Some.ensures in
    let alloc = sym c.is_text.ensures ∙ c.if-is_text.false in
    let raw = sym c.is_text-2.ensures ∙ c.if-is_text-2.false in
    let load = sym c.is_text-3.ensures ∙ c.if-is_text-3.false in
    let store = sym c.is_text-4.ensures ∙ c.if-is_text-4.false in
    let copy = sym c.is_text-5.ensures ∙ c.if-is_text-5.false in
    let same = sym c.is_text-6.ensures ∙ c.if-is_text-6.true in
    rw (first, alloc, raw, load, store, copy, same) c.read_same.ensures

pub returns-then-is_text-7 : goal.returns-then-is_text-7
unfolding command_or_fault
returns-then-is_text-7 c =
    let first = parts_from_first _ _ c.in-Some.ensures in
    let alloc = sym c.is_text.ensures ∙ c.if-is_text.false in
    let raw = sym c.is_text-2.ensures ∙ c.if-is_text-2.false in
    let load = sym c.is_text-3.ensures ∙ c.if-is_text-3.false in
    let store = sym c.is_text-4.ensures ∙ c.if-is_text-4.false in
    let copy = sym c.is_text-5.ensures ∙ c.if-is_text-5.false in
    let same = sym c.is_text-6.ensures ∙ c.if-is_text-6.false in
    let drop = sym c.is_text-7.ensures ∙ c.if-is_text-7.true in
    rw (first, alloc, raw, load, store, copy, same, drop) c.read_drop.ensures

pub returns : goal.returns
unfolding command_or_fault
returns c =
    let first = parts_from_first _ _ c.in-Some.ensures in
    let alloc = sym c.is_text.ensures ∙ c.if-is_text.false in
    let raw = sym c.is_text-2.ensures ∙ c.if-is_text-2.false in
    let load = sym c.is_text-3.ensures ∙ c.if-is_text-3.false in
    let store = sym c.is_text-4.ensures ∙ c.if-is_text-4.false in
    let copy = sym c.is_text-5.ensures ∙ c.if-is_text-5.false in
    let same = sym c.is_text-6.ensures ∙ c.if-is_text-6.false in
    let drop = sym c.is_text-7.ensures ∙ c.if-is_text-7.false in
    rw (first, alloc, raw, load, store, copy, same, drop) refl
