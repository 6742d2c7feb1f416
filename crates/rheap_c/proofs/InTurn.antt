-- Commands of a heap that grows that are done one after the other, up to the first that is refused.
use Rattle.std.proofs.Common.{◌≡◌, ℕ, suc, ◌+◌, ◌-◌, ◌<◌, ◌≤◌, List, [], ◌∷◌, Result, Ok, Err, refl, sym, subst, arith}
use Rattle.rh_layout.specs.declared.command.Command.{Command}
use Rattle.rh_layout.specs.declared.command.Reply.{Reply}
use Rattle.rh_layout.specs.declared.refusal.Refusal.{Refusal}
use Rattle.rh_layout.specs.Refusal.{rank_of}
use Rattle.rh_growing.specs.Growing.{GrowingState}
use Rattle.rheap_c.specs.Grown.{DoInTurn, GoesOn}

module _ (Does : GrowingState → GrowingState → ℕ → Command → Result Reply Refusal → Type 0) (first : GrowingState) (row : List (ℕ × Command)) where
  -- What is done by the commands that are left is, with so many before them, what is done by all.
  abbrev pub Leads : ℕ → GrowingState → List (ℕ × Command) → Type 0
  Leads done mid rest = (new : GrowingState) (count status : ℕ) → DoInTurn Does mid new rest count status
      → DoInTurn Does first new row (done + count) status

  module _ (rows : ℕ → List (ℕ × Command)) (n : ℕ) where
    pub leads-first : rows n ≡ row → Leads 0 first (rows (n - 0))
    leads-first whole = λ new count status done.
        let none : n - 0 ≡ n = omega arith in
        let same : count ≡ 0 + count = omega arith in
        subst (λ (i : ℕ). DoInTurn Does first new row i status) same
        (subst (λ (r : List (ℕ × Command)). DoInTurn Does first new r count status) whole
        (subst (λ (k : ℕ). DoInTurn Does first new (rows k) count status) none done))

    pub leads-left : (i : ℕ) (mid : GrowingState) → i < n → Leads i mid (rows (n - i)) → Leads i mid (rows (suc (n - (i + 1))))
    leads-left i mid within leads =
        let one : n - i ≡ suc (n - (i + 1)) = omega (arith, within) in
        subst (λ (k : ℕ). Leads i mid (rows k)) one leads

    -- none is left
    pub leads-last : (i : ℕ) (mid : GrowingState) → n ≤ i → i ≤ n → rows 0 ≡ [] → Leads i mid (rows (n - i)) → DoInTurn Does first mid row n 0
    leads-last i mid past few none leads =
        let left : n - i ≡ 0 = omega (arith, past) in
        let all : i + 0 ≡ n = omega (arith, past, few) in
        let last : Leads i mid [] = subst (λ (r : List (ℕ × Command)). Leads i mid r) none (subst (λ (k : ℕ). Leads i mid (rows k)) left leads) in
        subst (λ (k : ℕ). DoInTurn Does first mid row k 0) all (last mid 0 0 (refl, refl, refl))

  module _ (done : ℕ) (mid after : GrowingState) (owner : ℕ) (command : Command) (rest : List (ℕ × Command)) (told : Result Reply Refusal)
      (does : Does mid after owner command told) (leads : Leads done mid ((owner, command) ∷ rest)) where
    -- a command was done
    pub leads-next : (reply : Reply) → told ≡ Ok reply → Leads (done + 1) after rest
    leads-next reply ok = λ new count status further.
        let more : done + suc count ≡ done + 1 + count = omega arith in
        let goes : GoesOn told after new (suc count) status (λ k. DoInTurn Does after new rest k status) =
        subst (λ (t : Result Reply Refusal). GoesOn t after new (suc count) status (λ k. DoInTurn Does after new rest k status)) (sym ok) (count, refl, further) in
        subst (λ (i : ℕ). DoInTurn Does first new row i status) more (leads new (suc count) status (told, after, does, goes))

    -- one was refused
    pub leads-refused : (why : Refusal) (status : ℕ) → told ≡ Err why → status ≡ rank_of why → DoInTurn Does first after row done status
    leads-refused why status refused is =
        let same : done + 0 ≡ done = omega arith in
        let goes : GoesOn told after after 0 status (λ k. DoInTurn Does after after rest k status) =
        subst (λ (t : Result Reply Refusal). GoesOn t after after 0 status (λ k. DoInTurn Does after after rest k status)) (sym refused) (refl, refl, is) in
        subst (λ (i : ℕ). DoInTurn Does first after row i status) same (leads after 0 status (told, after, does, goes))
