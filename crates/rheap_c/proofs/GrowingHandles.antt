-- The machine values of the part of a handle that keeps a heap that grows, and what its test for null answers. Assumes `Logic`.
use Rattle.std.proofs.Common.{◌≡◌, List, [], ◌∷◌, refl, sym, subst, lit<}
use Rattle.std.specs.Prelude.{Option, Some, None, is_none}
use seplogic.Ra.Ura.{Ura}
use mir.Syntax.{ptr_eq}
use mir.Raw.{raw as bare}
use mir.Val.{Val, vbool, vnull, op2_val}
use base.Logic.{ent, emp, never, fst∗}
use types.Logic.{Logic, sem}
use types.Kit.{Item, Goal, Seq, Step, ‵, raw, ◌$◌, ◌∵◌, !, qed, done, drop, use0, use1, fsplit, fpick, feq_l}
use contract.Monad.{fact, fact_i}
use denote.RattleType.{RattleType}
use denote.Memory.{lone}
use denote.RawPtr.{Ptr, block_ptr, null_ptr, ptr_val, Testable, in_a_block}
use denote.Laws.{Is, shows}
use denote.Steps.{heard, peeks}
use Rattle.std.specs.contracts.impls.GlobalAllocator.TheImpl.{ghosts}
use Rattle.std.proofs.GlobalToken.{dealloc_token-Testable}
use Rattle.rheap_c.specs.Held.{growing_boxed, growing_type, growing_held}
use Rattle.rheap_c.specs.contracts.growing_part.GrowingPart as growing
use Rattle.rheap_c.proofs.growing_part.GrowingPart.TheLaws as growing_laws
use Rattle.rheap_c.proofs.Handles.{word, word_in}

abbrev pub GrowingHandle : RattleType
GrowingHandle = growing.the_row

module _ {M : Type 1} {𝓤 : Ura M} {𝓛 : Logic 𝓤} {K : Type 0} {Γ : List (Item 𝓤)} {G : Goal 𝓤 𝓛.H} where
  pub growing_out : K → (h : GrowingHandle.Denot) (vs : List Val)
      → (vs ≡ word h.at ∷ [] → Seq K 𝓛 (‵ (growing_held h.at h.state) ∷ Γ) G)
      → Seq K 𝓛 (‵ (GrowingHandle.own_val h vs) ∷ Γ) G
  growing_out t h vs k = peeks t GrowingHandle (Is GrowingHandle) (shows 𝓛 GrowingHandle) h vs (λ is. fsplit t $ drop t $ k (growing_laws.lowers.val_is h vs is))

  pub growing_in : K → (h : GrowingHandle.Denot)
      → Step K 𝓛 (‵ (GrowingHandle.own_val h (word h.at ∷ [])) ∷ Γ) G (‵ (growing_held h.at h.state) ∷ Γ) G
  growing_in t h = word_in t growing.the_type.name growing.the_type.args growing.the_type.types h.at (growing_held h.at h.state)

-- an address may be compared with null, and is null exactly where nothing is held
abbrev pub IsGrowingTested : Ptr → Option growing_type.Denot → Type 0
IsGrowingTested p state = Testable p × (op2_val ptr_eq (ptr_val p) vnull ≡ vbool (is_none state))

module _ {M : Type 1} {𝓤 : Ura M} (𝓛 : Logic 𝓤) where
  abbrev pub GrowingTells : Ptr → Option growing_type.Denot → Type 1
  GrowingTells p state = ent 𝓤 (sem 𝓛 (growing_held p state)) (fact 𝓤 (IsGrowingTested p state))

  pub growing_held_tells : (p : Ptr) (state : Option growing_type.Denot) → GrowingTells p state
  growing_held_tells p None = qed 𝓛 (‵ (growing_held p None) ∷ []) ∵ feq_l ! (λ e. let Told : Type 0 = IsGrowingTested p None in
      use0 𝓛 (raw (fact 𝓤 Told)) (fact_i 𝓤 Told (emp 𝓤) (subst (λ (q : Ptr). IsGrowingTested q None) (sym e) (lit< tt, refl))) $ done !)
  growing_held_tells p (Some s) = let τ = bare (lone growing_type.mir) in let Told : Type 0 = IsGrowingTested p (Some s) in
      qed 𝓛 (‵ (growing_held p (Some s)) ∷ []) ∵ fpick ! (λ alloc. let token = ghosts.dealloc_token alloc in
      in_a_block ! p (λ q. growing_boxed q s alloc) (fst∗ 𝓤 (never 𝓤) (sem 𝓛 (token τ null_ptr))) (λ b o e. fsplit ! $ drop ! $
      use1 𝓛 (raw (fact 𝓤 (Testable (block_ptr b o)))) (dealloc_token-Testable 𝓛 alloc τ (block_ptr b o)) $ heard ! (Testable (block_ptr b o)) (λ t.
      use0 𝓛 (raw (fact 𝓤 Told)) (fact_i 𝓤 Told (emp 𝓤) (subst (λ (q : Ptr). IsGrowingTested q (Some s)) (sym e) (t, refl))) $ done !)))
