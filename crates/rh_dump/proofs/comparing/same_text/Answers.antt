use Rattle.std.proofs.Common.{◌≡◌, true, sym, ◌∙◌}
use Rattle.std.proofs.lemmas.Bool.{false≢true}
use Rattle.rh_dump.proofs.graphs.SameTexts.{flat_at, same_flat, flat_roots, flat_shapes, flat_values}
use Rattle.rh_dump.proofs.comparing.same_text.Goals as goal

pub returns-then-not-same_roots : goal.returns-then-not-same_roots
returns-then-not-same_roots g c =
    let a = flat_at c.a.inside.roots.items c.a.inside.shapes.items c.a.inside.values.items in
    let b = flat_at c.b.inside.roots.items c.b.inside.shapes.items c.b.inside.values.items in (
      λ e. absurd (false≢true e),
      λ e.
          let same = flat_roots a b c.args.a.now c.args.b.now c.a.view_is c.b.view_is c.a.invariant c.b.invariant e in
          let t : c.same_roots.result ≡ true = c.same_roots.ensures.1 (c.deref.ensures.value ∙ same ∙ sym c.deref-2.ensures.value) in
          absurd (cc),
    )

pub returns-then-not-same_shapes : goal.returns-then-not-same_shapes
returns-then-not-same_shapes g c =
    let a = flat_at c.a.inside.roots.items c.a.inside.shapes.items c.a.inside.values.items in
    let b = flat_at c.b.inside.roots.items c.b.inside.shapes.items c.b.inside.values.items in (
      λ e. absurd (false≢true e),
      λ e.
          let same = flat_shapes a b c.args.a.now c.args.b.now c.a.view_is c.b.view_is c.a.invariant c.b.invariant e in
          let t : c.same_shapes.result ≡ true = c.same_shapes.ensures.1 (c.deref-3.ensures.value ∙ same ∙ sym c.deref-4.ensures.value) in
          absurd (cc),
    )

pub returns : goal.returns
returns g c =
    let a = flat_at c.a.inside.roots.items c.a.inside.shapes.items c.a.inside.values.items in
    let b = flat_at c.b.inside.roots.items c.b.inside.shapes.items c.b.inside.values.items in
    let t : c.same_roots.result ≡ true = cc in
    let u : c.same_shapes.result ≡ true = cc in
    let roots = sym c.deref.ensures.value ∙ c.same_roots.ensures.0 t ∙ c.deref-2.ensures.value in
    let shapes = sym c.deref-3.ensures.value ∙ c.same_shapes.ensures.0 u ∙ c.deref-4.ensures.value in (
      λ e. same_flat a b c.args.a.now c.args.b.now c.a.view_is c.b.view_is roots shapes (sym c.deref-5.ensures.value ∙ c.same_values.ensures.0 e ∙ c.deref-6.ensures.value),
      λ e. c.same_values.ensures.1 (c.deref-5.ensures.value ∙ flat_values a b c.args.a.now c.args.b.now c.a.view_is c.b.view_is c.a.invariant c.b.invariant e ∙ sym c.deref-6.ensures.value),
    )
