-- The lemmas on elements of lists, passed on.
pub use Rattle.rh_layout.specs.lemmas.Elements.{slice_get-append, slice_get-pushed, slice_get-pushed_other, slice_get-set_same, slice_get-set_other}
