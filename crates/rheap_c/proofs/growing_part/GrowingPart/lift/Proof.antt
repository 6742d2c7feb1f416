-- `lift` takes the address out of the handle, leaves null, and makes the box again. Assumes `Logic`.
use Rattle.std.proofs.Common.{◌≡◌, List, [], ◌∷◌, ◌++◌, refl, sym, ap, ◌∙◌, lit<}
use Rattle.std.specs.Prelude.{Option, Some, None, IsSome}
use mir.Raw.{raw as bare}
use mir.Val.{Val, vptr}
use base.Fraction.{full_share}
use base.Logic.{emp, never, id⊢, fst∗}
use base.Fml.{ftrue, flft}
use prog.Wp.{WpFn}
use types.Logic.{sem}
use types.Kit.{regoal, prop, at_ret, ‵, raw, ◌⊛◌, ◌$◌, ◌∵◌, !, qed, by, move, keep, split, join, later, some, use1, await, pick, drop, fpick, fsplit, fsplit3, fjoin, fjoin3, use0, rewrite, feq_i}
use types.Run.{first, blocks, exec, stop, fld, load, lit, of_opd, no_more, and_then, assigns, returns, enter}
use types.ByLocal.{env, lands_last, alloc_all, pass_all, free_all, look_at, get, through, sets}
use types.Part.{sub, whole, look_in, store_in}
use contract.Monad.{fact, fact_i}
use contract.Running.{tables}
use contract.BorrowLft.{◌⊑◌, ⊑_refl}
use denote.Exit.{yes}
use denote.RattleType.{RattleType, owns}
use denote.Memory.{cell_at, lone}
use denote.Signature.{types_at, plain}
use denote.RawPtr.{Ptr, block_ptr, null_ptr, in_a_block}
use denote.Laws.{Is, shows}
use denote.Steps.{peeks, nothing, heard, opens, closes}
use denote.Triple.Walked.{Stays, stay_dropped, stay_ref, walk_of, Goes-dropped, Goes-ref}
use denote.Param.NoDrop.{glues}
use denote.Triple.Spec.{triple_of}
use denote.Triple.Call.{calls_at_last}
use denote.Triple.Table.{framed}
use denote.Triple.Clauses.{Lasts, lasts}
use Rattle.std.proofs.alloc.Calls.{handle_tells}
use Rattle.std.proofs.raw_atomic.Walks.{proved_at, leaves}
use Rattle.std.specs.contracts.impls.GlobalAllocator.TheImpl.{ghosts, dict}
use Rattle.std.specs.contracts.alloc.Global as heap
use Rattle.std.proofs.alloc.Global.TheLaws as heap_laws
use Rattle.std_heap.proofs.GlobalAllocator.TheImpl.Met as heap_met
use Rattle.std_alloc.specs.Box.{box_allocator}
use Rattle.std_alloc.specs.contracts.boxed.Box as boxes
use Rattle.std_alloc.specs.contracts.boxed.Box.from_raw as F
use Rattle.std_alloc.proofs.boxed.Box.from_raw.Met as from_raw
use Rattle.std_alloc.proofs.boxed.Box.TheLaws as box_laws
use Rattle.rheap_c.specs.Held.{growing_boxed, growing_type, growing_held}
use Rattle.rheap_c.specs.contracts.growing_part.GrowingPart.lift.{ended, clauses}
use Rattle.rheap_c.specs.contracts.growing_part.GrowingPart.lift.Key.{name as #self}
use Rattle.rheap_c.proofs.Handles.{word, known}
use Rattle.rheap_c.proofs.GrowingHandles.{GrowingHandle, growing_out, growing_in}
use Rattle.rheap_c.proofs.Boxes.{Z, LZ, al, frees, growing_X, growing_LX, growing_type_laws}
use Rattle.rheap_c.proofs.Destruct++none.drop.Code.{code as drop_code}
use Rattle.rheap_c.proofs.growing_part.GrowingPart.lift.Statement.{statement}
use Rattle.rheap_c.proofs.growing_part.GrowingPart.lift.Code as code

pub lift_spec : {M : Type 1} → statement M
unfolding drop_code
lift_spec {M = M} 𝓤 𝓛 𝓜 𝓡 wired =
    let H = 𝓛.H in let γ = 𝓡.env in let 𝓣 = tables 𝓤 H 𝓜 𝓡 γ in let A : RattleType = heap.the_row in let Bx : RattleType = boxes.the_row growing_type A ghosts in let En = ended in let c = clauses 𝓛 𝓜.mem 𝓡.returns in let fn = code.function in
    let G = triple_of 𝓛 (F.signature growing_X Z ghosts dict frees) (F.spec growing_X Z ghosts dict frees 𝓛 𝓜.mem 𝓡.returns) in let Er = F.ended growing_X Z ghosts dict frees in
    let met = from_raw.met 𝓤 𝓛 𝓜 𝓡 (code.calls-std_alloc::boxed::Box::from_raw γ wired) growing_X Z growing_LX LZ ghosts dict frees
    (heap_met.passed γ (code.calls-std_heap::GlobalAllocator::allocate γ wired) (code.calls-std_heap::GlobalAllocator::deallocate γ wired) (code.calls-std_heap::GlobalAllocator::grow γ wired) (code.calls-std_heap::GlobalAllocator::shrink γ wired) M 𝓤 𝓛 𝓜 𝓡)
    (glues "rheap_c::Destruct++none::drop" γ (code.calls-rheap_c::Destruct++none::drop γ wired) Z LZ M 𝓤 𝓛 𝓜 𝓡) in
    let LA = heap_laws.the_row_laws in let LB = box_laws.the_field_loose growing_type A ghosts growing_type_laws LA in
    let hs : Stays En.signature.params En.kept = (stay_ref (0 ∷ []) tt (plain (λ _. GrowingHandle)), (stay_dropped (plain (λ _. A)) yes, tt)) in
    proved_at 𝓛 En hs c 𝓜 𝓡 (Goes-ref 𝓛 1 0 tt (plain (λ _. GrowingHandle)), (Goes-dropped 𝓛 1 (plain (λ _. A)) yes (λ κs x f. refl), tt)) #self fn (code.unfolded 𝓤 H 𝓜 𝓡 wired) (λ z are.
    let κ = z.0.0.0 in let q = z.0.1.0 in let a = z.0.3.0 in let alloc = z.0.3.1.0 in let vss = z.0.4 in let b = a.ref_ptr.0 in let o = a.ref_ptr.1 in let h : GrowingHandle.Denot = a.now in
    let Asked : Type 0 = IsSome h.state in
    qed 𝓛 (((‵ (flft κ q) ⊛ ‵ ftrue) ⊛ ‵ (owns (types_at En.signature.params z.0.0) z.0.3 vss)) ∷ raw (fact 𝓤 Asked) ∷ []) ∵
    move ! (1 ∷ []) $ heard ! Asked (λ asked. split ! $ split ! $ move ! (2 ∷ []) $ fsplit ! $ fsplit3 ! $ move ! (3 ∷ []) $ fsplit ! $ handle_tells al ! alloc vss.1.0 (λ hv eh fits.
    keep ! (0 ∷ 3 ∷ 4 ∷ 5 ∷ []) $ let us : List Val = vptr b o ∷ hv ∷ [] in
    regoal ! (λ (ws : List Val). prop (WpFn 𝓤 H 𝓣.C 𝓣.Λ fn ws ((walk_of 𝓛 En hs c).post z))) (λ i. are.0.0 i ++ (eh i ++ [])) refl $
    enter ! 𝓣.C 𝓣.Λ fn us _ $ alloc_all ! (λ l. pass_all ! refl ((tt, tt), (fits, tt)) $
    -- [the borrow, in two entries; its token; the allocator]
    move ! (1 ∷ 2 ∷ 3 ∷ []) $ opens ! tt GrowingHandle b o (λ ts. move ! (1 ∷ []) $ growing_out ! h ts (λ e.
    let is = known h.state asked in let s : growing_type.Denot = is.0 in let Cell = λ (ws : List Val). ‵ (cell_at full_share GrowingHandle.mir ws b o) in
    rewrite ! 1 Cell e refl $ rewrite ! 0 (λ (v : Option growing_type.Denot). ‵ (growing_held h.at v)) is.1 refl $
    fpick ! (λ freed. in_a_block ! h.at (λ p. growing_boxed p s freed) (fst∗ 𝓤 (never 𝓤) (sem 𝓛 (ghosts.dealloc_token freed (bare (lone growing_type.mir)) null_ptr))) (λ b' o' e'.
    rewrite ! 1 (λ (p : Ptr). Cell (word p ∷ [])) e' refl $ let h' : GrowingHandle.Denot = record { at = null_ptr; state = None } in
    -- [the box; the handle's word; the open borrow, in three entries; the allocator]
    sets ! (of_opd ! (load ! (through ! refl (fld ! refl (stop !))) (look_in ! 1 (sub ! 0 refl (whole !))))) refl (tt, tt) $
    sets ! (of_opd ! (get ! refl)) refl (tt, tt) $
    assigns ! (of_opd ! (lit ! tt)) (through ! refl (fld ! refl (stop !))) (store_in ! 1 (sub ! 0 refl (whole !)) (tt, record { fits = lit< tt })) $
    feq_i ! Ptr null_ptr null_ptr refl $ growing_in ! h' $ move ! (2 ∷ 0 ∷ 3 ∷ 4 ∷ 5 ∷ []) $ closes ! tt GrowingHandle h' (word null_ptr ∷ []) b o $
    feq_i ! (List Val) vss.0 (vptr b o ∷ []) are.0.0 $ fjoin3 ! $ move ! (3 ∷ 2 ∷ []) $
    -- [the allocator; the box; the borrow; its token]
    let zz : G.Ghost = ((([], ([], tt)), (full_share, (full_share, tt)), tt, (alloc, (block_ptr b' o', tt)), (hv ∷ [], (vptr b' o' ∷ [], tt))), s) in
    nothing ! $ feq_i ! (List Val) (vptr b' o' ∷ []) (vptr b' o' ∷ []) refl $ join ! $ move ! (1 ∷ 0 ∷ []) $ join ! $
    nothing ! $ use0 𝓛 (‵ (flft [] full_share)) (𝓛.lfts.lft-nil full_share) $ join ! $ use0 𝓛 (‵ (flft [] full_share)) (𝓛.lfts.lft-nil full_share) $ join ! $ join ! $
    move ! (1 ∷ []) $ use0 𝓛 (raw (fact 𝓤 ([] ⊑ Z.lives))) (fact_i 𝓤 ([] ⊑ Z.lives) (emp 𝓤) (⊑_refl [])) $ join ! $
    use0 𝓛 (raw (fact 𝓤 ([] ⊑ growing_X.lives))) (fact_i 𝓤 ([] ⊑ growing_X.lives) (emp 𝓤) (⊑_refl [])) $ join ! $ move ! (1 ∷ 0 ∷ []) $ join ! $
    use1 𝓛 (raw (G.pre zz)) (id⊢ 𝓤 _) $
    first ! $ blocks ! $ calls_at_last ! (framed 𝓤 H 𝓜 𝓣) G met zz (and_then ! (get ! refl) (and_then ! (get ! refl) (no_more !))) (λ v.
    use1 𝓛 (later (some (λ (r : Bx.Denot). ((‵ (flft [] full_share) ⊛ ‵ (flft [] full_share) ⊛ ‵ ftrue) ⊛ ‵ (Bx.own_val r (v ∷ []))) ⊛
    some (λ (ws : Lasts Er zz.0.0 zz.0.3). ‵ (lasts Er zz.0.0 zz.0.3 ws) ⊛ (raw (fact 𝓤 (r.value ≡ s)) ⊛ raw (fact 𝓤 (box_allocator r ≡ alloc))))))) (id⊢ 𝓤 _) $
    await ! tt $ pick ! (λ r. split ! $ split ! $ drop ! $ move ! (1 ∷ []) $ pick ! (λ ws. split ! $ drop ! $ split ! $ heard ! (r.value ≡ s) (λ same. drop ! $
    peeks ! Bx (Is Bx) (shows 𝓛 Bx) r (v ∷ []) (λ shown. let ok = ((LB.lawful 𝓛).typed r (v ∷ []) shown).0 in
    -- [the box; the borrow; its token]
    lands_last ! refl ok $ exec ! 𝓣.C 𝓣.Λ (env code.Mir.locals l) code.Mir.t-5 (at_ret _ ((walk_of 𝓛 En hs c).post z)) $ sets ! (of_opd ! (get ! refl)) refl ok $
    move ! (1 ∷ 2 ∷ []) $ nothing ! $ nothing ! $ fjoin ! $ move ! (1 ∷ 0 ∷ []) $ fjoin ! $ nothing ! $ move ! (2 ∷ 0 ∷ []) $ join ! $
    use0 𝓛 (raw (fact 𝓤 (None ≡ None))) (fact_i 𝓤 (None ≡ None) (emp 𝓤) refl) $
    use0 𝓛 (raw (fact 𝓤 (h.state ≡ Some r.value))) (fact_i 𝓤 (h.state ≡ Some r.value) (emp 𝓤) (is.1 ∙ ap (λ (x : growing_type.Denot). Some x) (sym same))) $ join ! $
    returns ! (look_at ! 0 refl) $ free_all ! refl $ keep ! (1 ∷ 2 ∷ 3 ∷ 0 ∷ []) $ by ! (leaves 𝓛 En hs c z v r (h', (tt, tt)) (tt, (tt, tt))))))))))))))))
