-- What can be dumped.
use Rattle.std.specs.Prelude.{◌≡◌, ◌<◌, ◌≤◌, ℕ, true, false, List, length, slice_get, Some}
use Rattle.rh_layout.specs.declared.value.Value.{Value}
use Rattle.rh_layout.specs.declared.value.Value.TheVariants.{Nil, Int, Ref}
use Rattle.rh_layout.specs.declared.command.RootId.{RootId}
use Rattle.rh_layout.specs.Value.{is_reference}
use Rattle.rh_layout.specs.Word.{IsWhole}
use Rattle.rh_model.specs.Graph.{Graph, root_value}
use Rattle.rh_model.specs.Effects.{IsObject}

-- what a dump can say of a value of a graph: a whole number has a word, a reference is to an object
abbrev pub IsTellable : Graph → Value → Type 0
IsTellable g Nil = Unit {0}
IsTellable g (Int n) = IsWhole n
IsTellable g (Ref a) = IsObject g a

-- What every heap keeps that is dumped, where all names are below a limit: it holds nothing that a
-- dump can't say.
pub record IsDumpable (limit : ℕ) (g : Graph) : Type 0 where
  pub few : limit ≤ 16777216
  pub owners : g.owners ≤ 16
  pub slots : g.slots ≤ 256
  pub roots : (r : RootId) → IsTellable g (root_value g r)
  pub names : (a : ℕ) (fields : List Value) → g.fields a ≡ Some fields → a < limit
  pub counts : (a : ℕ) (fields : List Value) → g.fields a ≡ Some fields → length fields ≤ 4095
  pub fields : (a f : ℕ) (fields : List Value) (v : Value)
      → g.fields a ≡ Some fields → slice_get fields f ≡ Some v → IsTellable g v
  -- and no reference in a field of a raw object
  pub raw : (a f : ℕ) (fields : List Value) (v : Value) → g.raw a ≡ true
      → g.fields a ≡ Some fields → slice_get fields f ≡ Some v → is_reference v ≡ false
