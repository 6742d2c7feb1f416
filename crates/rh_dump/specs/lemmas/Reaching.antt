-- Heaps whose roots and fields can be told reach objects alone.
use Rattle.std.specs.Prelude.{◌≡◌, ◌<◌, ℕ, IsSome, List, slice_get, Option, Some, None}
use Rattle.std.proofs.Common.{refl, subst}
use Rattle.rh_layout.specs.declared.value.Value.{Value}
use Rattle.rh_layout.specs.declared.value.Value.TheVariants.{Ref}
use Rattle.rh_layout.specs.declared.command.RootId.{RootId}
use Rattle.rh_model.specs.Graph.{Graph, root_value}
use Rattle.rh_model.specs.Effects.{IsObject}
use Rattle.rh_model.specs.Reach.{Reached, from_root, from_field}
use Rattle.rh_dump.specs.Numbering.{ReachesObjectsBelow}
use Rattle.rh_dump.specs.Dumpable.{IsTellable}

-- what is reached are objects below the limit, where roots and fields can be told
module _ (limit : ℕ) (g : Graph) (names : (a : ℕ) (fields : List Value) → g.fields a ≡ Some fields → a < limit) (roots : (r : RootId) → IsTellable g (root_value g r))
    (each : (a f : ℕ) (fields : List Value) (v : Value) → g.fields a ≡ Some fields → slice_get fields f ≡ Some v → IsTellable g v) where
  reached_object : (a : ℕ) → Reached g a → IsObject g a
  reached_object _ (from_root r a is) = let told : IsTellable g (Ref a) = subst (IsTellable g) is (roots r) in told
  reached_object _ (from_field a fields f b reached is found) = each a f fields (Ref b) is found

  pub reaches_objects : ReachesObjectsBelow limit g
  reaches_objects a reached = let object = reached_object a reached in (object, by (g.fields a) refl object)
    where
      by : (o : Option (List Value)) → g.fields a ≡ o → IsSome o → a < limit
      by None is object = absurd (cc)
      by (Some fields) is object = names a fields is
