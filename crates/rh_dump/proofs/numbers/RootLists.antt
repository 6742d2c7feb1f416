-- The roots that aren't nil, as a list and by name.
use Rattle.std.specs.Prelude.{◌≡◌, ◌≢◌, ◌<◌, ◌≤◌, ◌+◌, ℕ, zero, suc, [], ◌++◌}
use Rattle.std.proofs.Common.{refl, sym, ap, subst, ◌∙◌, arith, inl, inr}
use Rattle.std.proofs.lemmas.Bool.{cases_eq}
use Rattle.std.proofs.lemmas.List.{append-nil}
use Rattle.rh_layout.specs.declared.value.Value.{Value}
use Rattle.rh_layout.specs.declared.value.Value.TheVariants.{Nil, Int, Ref}
use Rattle.rh_layout.specs.declared.command.RootId.{RootId}
use Rattle.rh_dump.specs.Numbering.{filled_root, filled_slots, filled_roots}
use Rattle.rh_dump.proofs.numbers.Names.{Member, Member-left, Member-right, Member-either}

-- the root of an owner and a slot
abbrev pub root_named : ℕ → ℕ → RootId
root_named owner slot = record { owner = owner; slot = slot }

-- what stands for a root is the root and its value, which isn't nil
pub Member-filled_root : (r : RootId) (v : Value) (entry : RootId × Value) → Member entry (filled_root r v) → (entry.0 ≡ r) × (entry.1 ≡ v) × (v ≢ Nil)
Member-filled_root r Nil entry m = absurd m
Member-filled_root r (Int n) entry (inl is) = (ap (λ e. e.0) (sym is), ap (λ e. e.1) (sym is), λ nil. cc)
Member-filled_root r (Int n) entry (inr m) = absurd m
Member-filled_root r (Ref a) entry (inl is) = (ap (λ e. e.0) (sym is), ap (λ e. e.1) (sym is), λ nil. cc)
Member-filled_root r (Ref a) entry (inr m) = absurd m

filled_root-Member : (r : RootId) (v : Value) → v ≢ Nil → Member (r, v) (filled_root r v)
filled_root-Member r Nil filled = absurd (filled refl)
filled_root-Member r (Int n) filled = inl refl
filled_root-Member r (Ref a) filled = inl refl

module _ (held : RootId → Value) where
  -- each entry is a root with what it holds, which isn't nil
  entry_of_slots : (owner slots : ℕ) (entry : RootId × Value) → Member entry (filled_slots held owner slots) → (entry.1 ≡ held entry.0) × (entry.1 ≢ Nil)
  entry_of_slots owner zero entry m = absurd m
  entry_of_slots owner (suc slots) entry m = elim (Member-either entry (filled_slots held owner slots) (filled_root (root_named owner slots) (held (root_named owner slots))) m) [
    | inl before ↦ entry_of_slots owner slots entry before
    | inr last ↦
        let is = Member-filled_root (root_named owner slots) (held (root_named owner slots)) entry last in
        (is.1 ∙ ap held (sym is.0), λ nil. is.2 (sym is.1 ∙ nil))
  ]

  pub entry_of_roots : (slots owners : ℕ) (entry : RootId × Value) → Member entry (filled_roots held slots owners) → (entry.1 ≡ held entry.0) × (entry.1 ≢ Nil)
  entry_of_roots slots zero entry m = absurd m
  entry_of_roots slots (suc owners) entry m = elim (Member-either entry (filled_roots held slots owners) (filled_slots held owners slots) m) [
    | inl before ↦ entry_of_roots slots owners entry before
    | inr last ↦ entry_of_slots owners slots entry last
  ]

  -- and each root that isn't nil has an entry
  slots_have_entry : (owner slots slot : ℕ) → slot < slots → held (root_named owner slot) ≢ Nil → Member (root_named owner slot, held (root_named owner slot)) (filled_slots held owner slots)
  slots_have_entry owner zero slot below filled = absurd (omega (arith, below))
  slots_have_entry owner (suc slots) slot below filled = elim (cases_eq slot slots) [
    | inl last ↦
        Member-right (root_named owner slot, held (root_named owner slot)) (filled_slots held owner slots) (filled_root (root_named owner slots) (held (root_named owner slots)))
        (subst (λ s. Member (root_named owner slot, held (root_named owner slot)) (filled_root (root_named owner s) (held (root_named owner s)))) last
        (filled_root-Member (root_named owner slot) (held (root_named owner slot)) filled))
    | inr before ↦
        Member-left (root_named owner slot, held (root_named owner slot)) (filled_slots held owner slots) (filled_root (root_named owner slots) (held (root_named owner slots)))
        (slots_have_entry owner slots slot (omega (arith, below, before)) filled)
  ]

  pub roots_have_entry : (slots owners owner slot : ℕ) → owner < owners → slot < slots → held (root_named owner slot) ≢ Nil → Member (root_named owner slot, held (root_named owner slot)) (filled_roots held slots owners)
  roots_have_entry slots zero owner slot below within filled = absurd (omega (arith, below))
  roots_have_entry slots (suc owners) owner slot below within filled = elim (cases_eq owner owners) [
    | inl last ↦
        Member-right (root_named owner slot, held (root_named owner slot)) (filled_roots held slots owners) (filled_slots held owners slots)
        (subst (λ o. Member (root_named owner slot, held (root_named owner slot)) (filled_slots held o slots)) last (slots_have_entry owner slots slot within filled))
    | inr before ↦
        Member-left (root_named owner slot, held (root_named owner slot)) (filled_roots held slots owners) (filled_slots held owners slots)
        (roots_have_entry slots owners owner slot (omega (arith, below, before)) within filled)
  ]

  -- More owners and slots, whose roots are nil, add nothing.

  filled_slots-nil : (owner slots : ℕ) → ((slot : ℕ) → held (root_named owner slot) ≡ Nil) → filled_slots held owner slots ≡ []
  filled_slots-nil owner zero nil = refl
  filled_slots-nil owner (suc slots) nil =
      ap (λ l. l ++ filled_root (root_named owner slots) (held (root_named owner slots))) (filled_slots-nil owner slots nil)
      ∙ ap (filled_root (root_named owner slots)) (nil slots)

  filled_slots-more : (owner slots more : ℕ) → ((slot : ℕ) → slots ≤ slot → held (root_named owner slot) ≡ Nil) → filled_slots held owner (more + slots) ≡ filled_slots held owner slots
  filled_slots-more owner slots zero nil = let none : (0 + slots) ≡ slots = omega arith in ap (filled_slots held owner) none
  filled_slots-more owner slots (suc more) nil =
      let next : (suc more + slots) ≡ suc (more + slots) = omega arith in
      ap (filled_slots held owner) next
      ∙ ap (λ l. l ++ filled_root (root_named owner (more + slots)) (held (root_named owner (more + slots)))) (filled_slots-more owner slots more nil)
      ∙ ap (λ v. filled_slots held owner slots ++ filled_root (root_named owner (more + slots)) v) (nil (more + slots) (omega arith))
      ∙ append-nil (filled_slots held owner slots)

  filled_roots-slots : (slots more owners : ℕ) → ((owner slot : ℕ) → slots ≤ slot → held (root_named owner slot) ≡ Nil) → filled_roots held (more + slots) owners ≡ filled_roots held slots owners
  filled_roots-slots slots more zero nil = refl
  filled_roots-slots slots more (suc owners) nil =
      ap (λ l. l ++ filled_slots held owners (more + slots)) (filled_roots-slots slots more owners nil)
      ∙ ap (λ l. filled_roots held slots owners ++ l) (filled_slots-more owners slots more (nil owners))

  filled_roots-owners : (slots owners more : ℕ) → ((owner slot : ℕ) → owners ≤ owner → held (root_named owner slot) ≡ Nil) → filled_roots held slots (more + owners) ≡ filled_roots held slots owners
  filled_roots-owners slots owners zero nil = let none : (0 + owners) ≡ owners = omega arith in ap (filled_roots held slots) none
  filled_roots-owners slots owners (suc more) nil =
      let next : (suc more + owners) ≡ suc (more + owners) = omega arith in
      ap (filled_roots held slots) next
      ∙ ap (λ l. l ++ filled_slots held (more + owners) slots) (filled_roots-owners slots owners more nil)
      ∙ ap (λ l. filled_roots held slots owners ++ l) (filled_slots-nil (more + owners) slots (λ slot. nil (more + owners) slot (omega arith)))
      ∙ append-nil (filled_roots held slots owners)

  pub filled_roots-more : (slots more_slots owners more_owners : ℕ) → ((owner slot : ℕ) → slots ≤ slot → held (root_named owner slot) ≡ Nil) → ((owner slot : ℕ) → owners ≤ owner → held (root_named owner slot) ≡ Nil)
      → filled_roots held (more_slots + slots) (more_owners + owners) ≡ filled_roots held slots owners
  filled_roots-more slots more_slots owners more_owners of_slots of_owners =
      filled_roots-owners (more_slots + slots) owners more_owners of_owners ∙ filled_roots-slots slots more_slots owners of_slots
