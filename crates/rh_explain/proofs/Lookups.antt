-- A keyword is looked for row by row.
use Rattle.std.proofs.Common.{◌≡◌, ℕ, ◌+◌, ◌<◌, ◌≤◌, List, drop, get_or, length, map, Some, None, true, false, refl}
use Rattle.std.proofs.lemmas.List.{drop_more, drop_all}
use Rattle.std.specs.Str.{bytes_eq}
use Rattle.rh_syntax.specs.Faults.{lookup}
use Rattle.rh_explain.specs.declared.rows.TraceRow.{TraceRow}
use Rattle.rh_explain.specs.Explain.{entry_of, sorts_of}

pub lookup_here : (word : List ℕ) (rows : List TraceRow) (i : ℕ) (d : TraceRow) → i < length rows → bytes_eq word (get_or rows i d).keyword.now ≡ true
    → lookup word (map entry_of (drop i rows)) ≡ Some (sorts_of (get_or rows i d))
lookup_here word rows i d lt is = rw (drop_more rows i d lt, is) refl

pub lookup_next : (word : List ℕ) (rows : List TraceRow) (i : ℕ) (d : TraceRow) → i < length rows → bytes_eq word (get_or rows i d).keyword.now ≡ false
    → lookup word (map entry_of (drop i rows)) ≡ lookup word (map entry_of (drop (i + 1) rows))
lookup_next word rows i d lt other = rw (drop_more rows i d lt, other) refl

pub lookup_none : (word : List ℕ) (rows : List TraceRow) (i : ℕ) → length rows ≤ i → lookup word (map entry_of (drop i rows)) ≡ None
lookup_none word rows i le = rw (drop_all i rows le) refl
