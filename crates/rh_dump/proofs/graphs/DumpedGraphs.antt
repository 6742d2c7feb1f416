-- Dumps of what can be dumped are graphs, and so have equal texts exactly where they are equal.
use Rattle.std.specs.Prelude.{◌≡◌, ◌↔◌, ◌⊎◌, ◌<◌, ◌≤◌, ℕ, zero, suc, length, slice_get, Some}
use Rattle.std.proofs.Common.{ap, subst, arith, inl, inr}
use Rattle.std.proofs.lemmas.Bool.{cases_lt}
use Rattle.std.proofs.lemmas.Option.{slice_get_within, slice_get-get_or}
use Rattle.std.proofs.Math.ListN.{get_or}
use Rattle.rh_model.specs.Graph.{Graph}
use Rattle.rh_model.specs.SameGraph.{SameGraph}
use Rattle.rh_dump.specs.Dump.{IsGraph}
use Rattle.rh_dump.specs.texts.Line.{dump_text}
use Rattle.rh_dump.specs.Dumpable.{IsDumpable}
use Rattle.rh_dump.specs.Numbering.{values_at, names_after, dump_below}
use Rattle.rh_dump.proofs.numbers.Names.{with_values-keeps}
use Rattle.rh_dump.proofs.numbers.Numbered.{names_after-few}
use Rattle.rh_dump.proofs.numbers.FlatDump.{IsDumpable-reaches, IsGraph-flat_after, flat_after-below}
use Rattle.rh_dump.proofs.graphs.SameNumbers.{dump_below-exact}
use Rattle.rh_dump.proofs.texts.SpelledIsRead.{dump_text-injective}

module _ (g : Graph) where
  -- so many objects were looked at, and no others have numbers
  abbrev AllLookedAt : ℕ → Type 0
  AllLookedAt n = length (names_after g n) ≡ n

  -- at one of the looks up to this one all objects were looked at, or there is a further one
  all_or_further : (k : ℕ) → ((n : ℕ) × AllLookedAt n × (n ≤ k)) ⊎ (k < length (names_after g k))
  all_or_further zero = elim (cases_lt 0 (length (names_after g 0))) [
    | inl more ↦ inr more
    | inr none ↦ inl (0, omega (arith, none), omega arith)
  ]
  all_or_further (suc k) = elim (all_or_further k) [
    | inl found ↦ inl (found.0, found.1, omega (arith, found.2))
    | inr more ↦
        let a : ℕ = get_or (names_after g k) k 0 in
        let kept : slice_get (names_after g (suc k)) k ≡ Some a =
        with_values-keeps (names_after g k) (values_at g (slice_get (names_after g k) k)) k a (slice_get-get_or (names_after g k) k 0 more) in
        let within : k < length (names_after g (suc k)) = slice_get_within (names_after g (suc k)) k a kept in
        elim (cases_lt (suc k) (length (names_after g (suc k)))) [
          | inl further ↦ inr further
          | inr no_more ↦ inl (suc k, omega (arith, within, no_more), omega arith)
        ]
  ]

-- the dump of what can be dumped is a graph
pub IsGraph-dump_below : (g : Graph) (limit : ℕ) → IsDumpable limit g → IsGraph (dump_below limit g)
IsGraph-dump_below g limit d = elim (all_or_further g limit) [
  | inl all ↦ subst IsGraph (flat_after-below g limit d all.0 all.1 all.2) (IsGraph-flat_after g limit d all.0 all.1 all.2)
  | inr more ↦ absurd (omega (arith, more, names_after-few g limit (λ a reached. (IsDumpable-reaches g limit d a reached).1)))
]

-- dump texts are equal exactly where the graphs are the same
pub dump_text-exact : (g h : Graph) (m n : ℕ) → IsDumpable m g → IsDumpable n h → (dump_text (dump_below m g) ≡ dump_text (dump_below n h)) ↔ SameGraph g h
dump_text-exact g h m n first second =
    let exact = dump_below-exact g h m n (IsDumpable-reaches g m first) (IsDumpable-reaches h n second) in (
      λ texts. exact.0 (dump_text-injective (dump_below m g) (dump_below n h) (IsGraph-dump_below g m first) (IsGraph-dump_below h n second) texts),
      λ same. ap dump_text (exact.1 same),
    )
