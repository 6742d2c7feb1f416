-- `put` writes the address of a box into the handle. Assumes `Logic`.
use Rattle.std.proofs.Common.{◌≡◌, List, [], ◌∷◌, ◌++◌, refl}
use Rattle.std.specs.Prelude.{Some}
use mir.Val.{Val, vptr, vunit}
use base.Fraction.{full_share}
use base.Logic.{emp, id⊢}
use base.Fml.{ftrue, flft}
use prog.Wp.{WpFn}
use types.Kit.{regoal, prop, ‵, raw, ◌⊛◌, ◌$◌, ◌∵◌, !, qed, by, move, keep, drop, split, join, fsplit, fsplit3, fjoin, fjoin3, use0, use1, rewrite, feq_i}
use types.Run.{stop, fld, of_opd, unit_lit, assigns, returns, enter}
use types.ByLocal.{alloc_all, pass_all, free_all, look_at, get, get_in, through, sets}
use types.Part.{sub, whole, store_in}
use contract.Monad.{fact, fact_i}
use contract.Running.{tables}
use denote.Exit.{yes}
use denote.RattleType.{RattleType, owns}
use denote.Memory.{cell_at}
use denote.Signature.{types_at, plain}
use denote.Steps.{nothing, opens, closes}
use denote.Triple.Walked.{Stays, stay_dropped, stay_ref, walk_of, Goes-dropped, Goes-ref}
use Rattle.std.proofs.raw_atomic.Walks.{proved_at, leaves}
use Rattle.rheap_c.specs.Held.{heap_type, held}
use Rattle.rheap_c.specs.contracts.fixed_part.FixedPart.put.{ended, clauses}
use Rattle.rheap_c.specs.contracts.fixed_part.FixedPart.put.Key.{name as #self}
use Rattle.rheap_c.proofs.Boxes.{heap_type_laws}
use Rattle.rheap_c.proofs.Handles.{Handle, Apart, word, handle_out, handle_in, apart_out, good_ptr, good_word}
use Rattle.rheap_c.proofs.fixed_part.FixedPart.put.Statement.{statement}
use Rattle.rheap_c.proofs.fixed_part.FixedPart.put.Code as code

pub put_spec : {M : Type 1} → statement M
put_spec 𝓤 𝓛 𝓜 𝓡 wired =
    let H = 𝓛.H in let 𝓣 = tables 𝓤 H 𝓜 𝓡 𝓡.env in let En = ended in let c = clauses 𝓛 𝓜.mem 𝓡.returns in let fn = code.function in let Ap : RattleType = Apart heap_type in
    let hs : Stays En.signature.params En.kept = (stay_ref (0 ∷ []) tt (plain (λ _. Handle)), (stay_dropped (plain (λ _. Ap)) yes, tt)) in
    proved_at 𝓛 En hs c 𝓜 𝓡 (Goes-ref 𝓛 1 0 tt (plain (λ _. Handle)), (Goes-dropped 𝓛 1 (plain (λ _. Ap)) yes (λ κs x f. refl), tt)) #self fn (code.unfolded 𝓤 H 𝓜 𝓡 wired) (λ z are.
    let κ = z.0.0.0 in let q = z.0.1.0 in let a = z.0.3.0 in let d : Ap.Denot = z.0.3.1.0 in let vss = z.0.4 in let b = a.ref_ptr.0 in let o = a.ref_ptr.1 in let h : Handle.Denot = a.now in
    qed 𝓛 (((‵ (flft κ q) ⊛ ‵ ftrue) ⊛ ‵ (owns (types_at En.signature.params z.0.0) z.0.3 vss)) ∷ raw ((c z.0.0 z.0.3).requires z.1) ∷ []) ∵
    split ! $ split ! $ move ! (2 ∷ []) $ fsplit ! $ fsplit3 ! $ move ! (3 ∷ []) $ fsplit ! $ apart_out heap_type ! heap_type_laws d vss.1.0 (λ ws.
    keep ! (0 ∷ 3 ∷ 4 ∷ 5 ∷ []) $ let us : List Val = vptr b o ∷ word d.at ∷ [] in
    regoal ! (λ (ws : List Val). prop (WpFn 𝓤 H 𝓣.C 𝓣.Λ fn ws ((walk_of 𝓛 En hs c).post z))) (λ i. are.0.0 i ++ (ws i ++ [])) refl $
    enter ! 𝓣.C 𝓣.Λ fn us _ $ alloc_all ! (λ l. pass_all ! refl ((tt, tt), (good_word d.at, tt)) $
    -- [what the box owned; the borrow, in two entries; its token]
    move ! (1 ∷ 2 ∷ 3 ∷ []) $ opens ! tt Handle b o (λ ts. move ! (1 ∷ []) $ handle_out ! h ts (λ eh.
    let Cell = λ (vs : List Val). ‵ (cell_at full_share Handle.mir vs b o) in let h' : Handle.Denot = record { at = d.at; state = Some d.value } in
    rewrite ! 1 Cell eh refl $ drop ! $
    -- [the handle's word; the open borrow, in three entries; what the box owned]
    sets ! (of_opd ! (get_in ! (fld ! refl (stop !)) (sub ! 0 refl (whole !)))) refl (good_ptr d.at) $
    sets ! (of_opd ! (get ! refl)) refl (good_ptr d.at) $
    assigns ! (of_opd ! (get ! refl)) (through ! refl (fld ! refl (stop !))) (store_in ! 0 (sub ! 0 refl (whole !)) (good_ptr d.at)) $
    sets ! (of_opd ! (unit_lit !)) refl (tt, tt) $
    move ! (4 ∷ []) $ use1 𝓛 (‵ (held d.at (Some d.value))) (id⊢ 𝓤 _) $ handle_in ! h' $ move ! (1 ∷ 0 ∷ 2 ∷ 3 ∷ 4 ∷ []) $ closes ! tt Handle h' (word d.at ∷ []) b o $
    -- [the borrow, in two entries; its token]
    feq_i ! (List Val) vss.0 (vptr b o ∷ []) are.0.0 $ fjoin3 ! $ nothing ! $ nothing ! $ fjoin ! $ move ! (1 ∷ 0 ∷ []) $ fjoin ! $
    nothing ! $ move ! (2 ∷ 0 ∷ []) $ join ! $ feq_i ! (List Val) (vunit ∷ []) (vunit ∷ []) refl $
    use0 𝓛 (raw (fact 𝓤 (h'.state ≡ Some d.value))) (fact_i 𝓤 (h'.state ≡ Some d.value) (emp 𝓤) refl) $
    returns ! (look_at ! 0 refl) $ free_all ! refl $ keep ! (2 ∷ 3 ∷ 1 ∷ 0 ∷ []) $ by ! (leaves 𝓛 En hs c z vunit tt (h', (tt, tt)) (tt, (tt, tt))))))))
