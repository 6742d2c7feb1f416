-- The machine values of a handle and of a box without its allocator, and what the test for null answers. Assumes `Logic`.
use Rattle.std.proofs.Common.{◌≡◌, List, [], ◌∷◌, refl, sym, subst, lit<}
use Rattle.std.specs.Prelude.{Option, Some, None, IsSome, is_none}
use mathlib.Core.Bool.{true, ◌&&◌}
use seplogic.Ra.Ura.{Ura}
use lib.Dec.{T}
use mir.Syntax.{Sym, Lifetime, ptr_eq, ty_ptr}
use mir.Raw.{raw as bare}
use mir.Val.{Val, vbool, vnull, vstruct, vcons, vnil, op2_val, has_ty, WT}
use base.Logic.{ent, emp, never, fst∗}
use base.Fml.{Fml, fsep}
use types.Logic.{Logic, sem}
use types.Kit.{Item, Goal, Seq, Step, step, ‵, raw, ◌$◌, ◌∵◌, !, qed, done, drop, use0, use1, fsplit, fjoin, fpick, feq_l}
use contract.Monad.{fact, fact_i}
use denote.RattleType.{RattleType}
use denote.Builtin.{RawPtr}
use denote.Memory.{lone}
use denote.RawPtr.{Ptr, block_ptr, null_ptr, ptr_val, Testable, in_a_block, rawptr_pure}
use denote.Laws.{Is, shows}
use denote.Param.Laws.{Laws}
use denote.Steps.{heard, owned, peeks}
use denote.Struct.Struct.{Shape, Struct, Struct-Makes}
use Rattle.std.proofs.lemmas.Bool.{false≢true}
use Rattle.std.specs.contracts.impls.GlobalAllocator.TheImpl.{ghosts}
use Rattle.std.proofs.GlobalToken.{dealloc_token-Testable}
use Rattle.rheap_c.specs.Held.{boxed, heap_type, held}
use Rattle.rheap_c.specs.Parted.{parted}
use Rattle.rheap_c.specs.contracts.fixed_part.FixedPart as handle
use Rattle.rheap_c.specs.contracts.parted.Parted as apart
use Rattle.rheap_c.proofs.fixed_part.FixedPart.TheLaws as handle_laws
use Rattle.rheap_c.proofs.parted.Parted.TheLaws as apart_laws

abbrev pub Handle : RattleType
Handle = handle.the_row

abbrev pub Apart : RattleType → RattleType
Apart = apart.the_row

-- the one word of a struct that has this address alone
abbrev pub word : Ptr → Val
word p = vstruct (vcons (ptr_val p) vnil)

module _ {M : Type 1} {𝓤 : Ura M} {𝓛 : Logic 𝓤} {K : Type 0} {Γ : List (Item 𝓤)} {G : Goal 𝓤 𝓛.H} where
  -- such a struct is its word, and what it owns beside
  pub word_in : K → (name : Sym) (args : List Lifetime) (types : List RattleType) (p : Ptr) (F : Fml)
      → let S : RattleType = Struct (record { name = name; args = args; types = types; fields = RawPtr ∷ [] }) in
      Step K 𝓛 (‵ (fsep (S.own_val (p, tt) (word p ∷ [])) F) ∷ Γ) G (‵ F ∷ Γ) G
  word_in t name args types p F =
      let shape : Shape = record { name = name; args = args; types = types; fields = RawPtr ∷ [] } in
      step (λ s. owned t (Struct shape) (Is (Struct shape)) (Struct-Makes 𝓛 shape (rawptr_pure, tt)) (p, tt) (word p ∷ []) ((ptr_val p ∷ [], tt), (refl, (refl, tt))) $ fjoin t $ s)

  pub handle_out : K → (h : Handle.Denot) (vs : List Val)
      → (vs ≡ word h.at ∷ [] → Seq K 𝓛 (‵ (held h.at h.state) ∷ Γ) G)
      → Seq K 𝓛 (‵ (Handle.own_val h vs) ∷ Γ) G
  handle_out t h vs k = peeks t Handle (Is Handle) (shows 𝓛 Handle) h vs (λ is. fsplit t $ drop t $ k (handle_laws.lowers.val_is h vs is))

  pub handle_in : K → (h : Handle.Denot)
      → Step K 𝓛 (‵ (Handle.own_val h (word h.at ∷ [])) ∷ Γ) G (‵ (held h.at h.state) ∷ Γ) G
  handle_in t h = word_in t handle.the_type.name handle.the_type.args handle.the_type.types h.at (held h.at h.state)

  module _ (R : RattleType) where
    pub apart_out : K → Laws R → (d : (Apart R).Denot) (vs : List Val)
        → (vs ≡ word d.at ∷ [] → Seq K 𝓛 (‵ (parted R d.at d.value) ∷ Γ) G)
        → Seq K 𝓛 (‵ ((Apart R).own_val d vs) ∷ Γ) G
    apart_out t L d vs k = peeks t (Apart R) (Is (Apart R)) (shows 𝓛 (Apart R)) d vs (λ is. fsplit t $ drop t $ k ((apart_laws.lowers R L).val_is d vs is))

    pub apart_in : K → (d : (Apart R).Denot)
        → Step K 𝓛 (‵ ((Apart R).own_val d (word d.at ∷ [])) ∷ Γ) G (‵ (parted R d.at d.value) ∷ Γ) G
    apart_in t d = word_in t (apart.the_type R).name (apart.the_type R).args (apart.the_type R).types d.at (parted R d.at d.value)

-- an address may be compared with null, and is null exactly where nothing is held
abbrev pub IsTested : Ptr → Option heap_type.Denot → Type 0
IsTested p state = Testable p × (op2_val ptr_eq (ptr_val p) vnull ≡ vbool (is_none state))

module _ {M : Type 1} {𝓤 : Ura M} (𝓛 : Logic 𝓤) where
  abbrev pub Tells : Ptr → Option heap_type.Denot → Type 1
  Tells p state = ent 𝓤 (sem 𝓛 (held p state)) (fact 𝓤 (IsTested p state))

  pub held_tells : (p : Ptr) (state : Option heap_type.Denot) → Tells p state
  held_tells p None = qed 𝓛 (‵ (held p None) ∷ []) ∵ feq_l ! (λ e. let Told : Type 0 = IsTested p None in
      use0 𝓛 (raw (fact 𝓤 Told)) (fact_i 𝓤 Told (emp 𝓤) (subst (λ (q : Ptr). IsTested q None) (sym e) (lit< tt, refl))) $ done !)
  held_tells p (Some s) = let τ = bare (lone heap_type.mir) in let Told : Type 0 = IsTested p (Some s) in
      qed 𝓛 (‵ (held p (Some s)) ∷ []) ∵ fpick ! (λ alloc. let token = ghosts.dealloc_token alloc in
      in_a_block ! p (λ q. boxed q s alloc) (fst∗ 𝓤 (never 𝓤) (sem 𝓛 (token τ null_ptr))) (λ b o e. fsplit ! $ drop ! $
      use1 𝓛 (raw (fact 𝓤 (Testable (block_ptr b o)))) (dealloc_token-Testable 𝓛 alloc τ (block_ptr b o)) $ heard ! (Testable (block_ptr b o)) (λ t.
      use0 𝓛 (raw (fact 𝓤 Told)) (fact_i 𝓤 Told (emp 𝓤) (subst (λ (q : Ptr). IsTested q (Some s)) (sym e) (t, refl))) $ done !)))

-- a machine address is of its type
pub good_ptr : (p : Ptr) → T (has_ty ty_ptr (ptr_val p)) × WT (ptr_val p)
good_ptr (block_ptr b o) = (tt, tt)
good_ptr null_ptr = (tt, record { fits = lit< tt })

-- and so is the word of a struct that has it alone
pub good_word : (p : Ptr) → T (has_ty ty_ptr (ptr_val p) && true) × WT (word p)
good_word (block_ptr b o) = (tt, (tt, tt))
good_word null_ptr = (tt, (record { fits = lit< tt }, tt))

-- what is held, where something is
pub known : {X : Type 0} (o : Option X) → IsSome o → (x : X) × (o ≡ Some x)
known None s = absurd (false≢true s)
known (Some x) s = (x, refl)
