-- `refuses_next` at a call: what it is handed, a `&` and a token of its lifetime, and what a caller has of it. Assumes `Logic`.
use Rattle.std.proofs.Common.{◌≡◌, ℕ, Bool, List, [], ◌∷◌, refl, ap}
use seplogic.Ra.Ura.{Ura}
use mir.Val.{Val, vbool, vptr}
use base.Logic.{SProp, ent, sep, ex, guard, id⊢}
use base.Fml.{Lft, Share, ftrue, fsep, flft}
use prog.Memory.{Memory}
use prog.Routine.{Routine}
use types.Logic.{Logic, sem}
use contract.Monad.{Fun}
use types.Kit.{‵, raw, ◌⊛◌, some, later, ◌$◌, ◌∵◌, !, qed, move, keep, use1, split, join, pick, fjoin, feq_i, feq_l, check, show, await, updating, now as at_once, done}
use denote.Memory.{hidden_shr}
use denote.Builtin.{bool}
use denote.Steps.{nothing, only}
use denote.Triple.Statement.{Contract}
use denote.Triple.Spec.{triple_of}
use Rattle.refusing.specs.declared.Requests.{Requests}
use Rattle.refusing.specs.contracts.Requests as counter
use Rattle.refusing.specs.contracts.Requests.refuses_next as counted

module _ {M : Type 1} {𝓤 : Ura M} (𝓛 : Logic 𝓤) (at_mem : Memory → SProp 𝓤) (run : Routine → Fun 𝓤) where
  abbrev pub Counts : Contract 𝓤
  Counts = triple_of 𝓛 counted.signature (counted.spec 𝓛 at_mem run)

  abbrev pub at_counts : Lft → Share → ℕ × ℕ → Requests → Counts.Ghost
  at_counts κ q p c = (((κ, tt), (q, tt), tt, (record { ref_ptr = p; now = c }, tt), (vptr p.0 p.1 ∷ [], tt)), tt)

  module _ (κ : Lft) (q : Share) (p : ℕ × ℕ) (c : Requests) where
    open 𝓛 use {H, A}

    pub Counts-goes : ent 𝓤 (sep 𝓤 (sem 𝓛 (hidden_shr counter.the_row κ c p.0 p.1)) (A.lft κ q)) (Counts.pre (at_counts κ q p c))
    Counts-goes =
        qed 𝓛 (‵ (hidden_shr counter.the_row κ c p.0 p.1) ∷ ‵ (flft κ q) ∷ []) ∵ feq_i ! (List Val) (vptr p.0 p.1 ∷ []) (vptr p.0 p.1 ∷ []) refl $ fjoin ! $
        nothing ! $ move ! (1 ∷ []) $ fjoin ! $ nothing ! $ move ! (2 ∷ []) $ join ! $ join ! $ nothing ! $ move ! (1 ∷ []) $ done !

    pub Counts-gives : (v : Val) → ent 𝓤 (Counts.post (at_counts κ q p c) v) (H.⇛ (ex 𝓤 (λ (b : Bool). guard 𝓤 (v ≡ vbool b) (A.lft κ q))))
    Counts-gives v =
        qed 𝓛 (raw (Counts.post (at_counts κ q p c) v) ∷ []) ∵ updating ! $
        use1 𝓛 (later (some (λ (b : Bool). ((‵ (flft κ q) ⊛ ‵ ftrue) ⊛ ‵ (bool.own_val b (v ∷ []))) ⊛ some (λ (ws : Unit {0} × Unit {0}). ‵ (fsep ftrue ftrue) ⊛ ‵ ftrue)))) (id⊢ 𝓤 _) $ await ! tt $ pick ! (λ b.
        split ! $ split ! $ move ! (1 ∷ []) $ feq_l ! (λ e. split ! $ at_once ! $ show ! (λ (b : Bool). guard 𝓤 (v ≡ vbool b) (A.lft κ q)) b $ check ! (ap only e) $ keep ! (0 ∷ []) $ done !))
