use Rattle.std.proofs.Common.{◌≡◌, ◌⊎◌, ◌<◌, inl, inr, Err, ap, ◌∙◌, arith}
use Rattle.rh_mutator.specs.declared.config.ConfigFault.TheVariants.{BadRoots}
use Rattle.rh_mutator.specs.Config.{FaultHolds}
use Rattle.rh_mutator.specs.lemmas.FirstFault.{fault_of-none}
use Rattle.rh_syntax.specs.declared.line.Header.{Header}
use Rattle.rh_trace.specs.Run.{config_of}
use Rattle.rh_trace_views.proofs.recording.recorder_for.Goals as goal

-- owners or slots that no recorder has are a fault of the sizes
bad_roots : (header : Header) → (header.owners ≡ 0) ⊎ ((16 < header.owners) ⊎ ((header.slots ≡ 0) ⊎ (256 < header.slots))) → FaultHolds (config_of header) BadRoots
bad_roots header bad = elim bad [
  | inl none ↦ inl (omega (arith, none))
  | inr others ↦ elim others [
    | inl many ↦ inr (inl many)
    | inr slots ↦ elim slots [
      | inl none ↦ inr (inr (inl (omega (arith, none))))
      | inr many ↦ inr (inr (inr many))
    ]
  ]
]

pub unreachable-requires : goal.unreachable-requires
unreachable-requires g c =
    fault_of-none (config_of c.args.header) c.requires.sizes BadRoots (bad_roots c.args.header (c.new.ensures.bad_roots.0 (c.in-Err-BadRoots.is ∙ ap Err c.in-Err-BadRoots.field-0-is)))
