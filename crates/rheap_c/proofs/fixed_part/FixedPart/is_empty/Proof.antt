-- `is_empty` compares the address with null.
use Rattle.std.proofs.Common.{◌≡◌, List, [], ◌∷◌, ◌++◌, refl}
use Rattle.std.specs.Prelude.{is_none}
use mir.Val.{Val, vptr, vbool}
use base.Fraction.{full_share}
use base.Logic.{emp, guard_i}
use base.Fml.{ftrue, flft}
use prog.Wp.{WpFn}
use types.Logic.{sem}
use types.Kit.{regoal, prop, ‵, raw, ◌⊛◌, ◌$◌, ◌∵◌, !, qed, by, move, keep, split, join, fsplit, fsplit3, fjoin, fjoin3, given, learn, use0, use1, rewrite, feq_i}
use types.Run.{stop, fld, load, lit, of_opd, bin, returns, enter}
use types.ByLocal.{alloc_all, pass_all, free_all, look_at, get, through, sets, is}
use types.Part.{sub, whole, look_in}
use contract.Monad.{fact, fact_i, fact_use}
use contract.Running.{tables}
use denote.RattleType.{owns}
use denote.Memory.{cell_at}
use denote.Signature.{types_at, plain}
use denote.RawPtr.{tests_null}
use denote.Steps.{nothing, opens, closes}
use denote.Triple.Walked.{Stays, stay_ref, walk_of, Goes-ref}
use Rattle.std.proofs.raw_atomic.Walks.{proved_at, leaves}
use Rattle.rheap_c.specs.Held.{held}
use Rattle.rheap_c.specs.contracts.fixed_part.FixedPart.is_empty.{ended, clauses}
use Rattle.rheap_c.specs.contracts.fixed_part.FixedPart.is_empty.Key.{name as #self}
use Rattle.rheap_c.proofs.Handles.{Handle, word, handle_out, handle_in, IsTested, held_tells, good_ptr}
use Rattle.rheap_c.proofs.fixed_part.FixedPart.is_empty.Statement.{statement}
use Rattle.rheap_c.proofs.fixed_part.FixedPart.is_empty.Code as code

pub is_empty_spec : {M : Type 1} → statement M
is_empty_spec 𝓤 𝓛 𝓜 𝓡 wired =
    let H = 𝓛.H in let 𝓣 = tables 𝓤 H 𝓜 𝓡 𝓡.env in let En = ended in let c = clauses 𝓛 𝓜.mem 𝓡.returns in let fn = code.function in
    let hs : Stays En.signature.params En.kept = (stay_ref (0 ∷ []) tt (plain (λ _. Handle)), tt) in
    proved_at 𝓛 En hs c 𝓜 𝓡 (Goes-ref 𝓛 1 0 tt (plain (λ _. Handle)), tt) #self fn (code.unfolded 𝓤 H 𝓜 𝓡 wired) (λ z are.
    let κ = z.0.0.0 in let q = z.0.1.0 in let a = z.0.3.0 in let vss = z.0.4 in let b = a.ref_ptr.0 in let o = a.ref_ptr.1 in let h : Handle.Denot = a.now in
    qed 𝓛 (((‵ (flft κ q) ⊛ ‵ ftrue) ⊛ ‵ (owns (types_at En.signature.params z.0.0) z.0.3 vss)) ∷ raw ((c z.0.0 z.0.3).requires z.1) ∷ []) ∵
    split ! $ split ! $ move ! (2 ∷ []) $ fsplit ! $ fsplit3 ! $ keep ! (1 ∷ 2 ∷ 4 ∷ []) $ let us : List Val = vptr b o ∷ [] in
    regoal ! (λ (ws : List Val). prop (WpFn 𝓤 H 𝓣.C 𝓣.Λ fn ws ((walk_of 𝓛 En hs c).post z))) (λ i. are.0.0 i ++ []) refl $
    enter ! 𝓣.C 𝓣.Λ fn us _ $ alloc_all ! (λ l. pass_all ! refl ((tt, tt), tt) $
    -- [the borrow, in two entries; its token]
    opens ! tt Handle b o (λ ts. move ! (1 ∷ []) $ handle_out ! h ts (λ e. let Told : Type 0 = IsTested h.at h.state in
    rewrite ! 1 (λ (vs : List Val). ‵ (cell_at full_share Handle.mir vs b o)) e refl $
    use1 𝓛 (given Told (‵ (held h.at h.state))) (fact_use 𝓤 Told (held_tells 𝓛 h.at h.state) (λ t. guard_i 𝓤 Told (sem 𝓛 (held h.at h.state)) t)) $ learn ! (λ t.
    -- [what is held; the handle's word; the open borrow, in three entries]
    sets ! (of_opd ! (load ! (through ! refl (fld ! refl (stop !))) (look_in ! 1 (sub ! 0 refl (whole !))))) refl (good_ptr h.at) $
    sets ! (is ! (bin ! (get ! refl) (lit ! tt) (tests_null h.at t.0)) t.1) refl (tt, tt) $
    handle_in ! h $ move ! (1 ∷ 0 ∷ 2 ∷ 3 ∷ 4 ∷ []) $ closes ! tt Handle h (word h.at ∷ []) b o $
    -- [the borrow, in two entries; its token]
    feq_i ! (List Val) vss.0 (vptr b o ∷ []) are.0.0 $ fjoin3 ! $ nothing ! $ move ! (1 ∷ 0 ∷ []) $ fjoin ! $
    nothing ! $ move ! (2 ∷ 0 ∷ []) $ join ! $ let y = is_none h.state in feq_i ! (List Val) (vbool y ∷ []) (vbool y ∷ []) refl $
    use0 𝓛 (raw (fact 𝓤 (h.state ≡ h.state))) (fact_i 𝓤 (h.state ≡ h.state) (emp 𝓤) refl) $ use0 𝓛 (raw (fact 𝓤 (y ≡ is_none h.state))) (fact_i 𝓤 (y ≡ is_none h.state) (emp 𝓤) refl) $ join ! $
    returns ! (look_at ! 0 refl) $ free_all ! refl $ keep ! (2 ∷ 3 ∷ 1 ∷ 0 ∷ []) $ by ! (leaves 𝓛 En hs c z (vbool y) y (h, tt) (tt, tt)))))))
