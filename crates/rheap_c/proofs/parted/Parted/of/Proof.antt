-- `of` takes the address out of a box, and keeps what the box owned. Assumes `Logic`.
use Rattle.std.proofs.Common.{◌≡◌, [], ◌∷◌, ◌++◌, refl, ap, ◌∙◌}
use mir.Syntax.{Args, Fn, a_type, dnil, dcons}
use mir.MapTy.{inst_fn}
use mir.Raw.{raw as bare}
use base.Logic.{emp, never, fst∗, id⊢}
use base.Fraction.{full_share}
use base.Fml.{Fml, ftrue, flft}
use prog.Wp.{WpFn}
use types.Logic.{sem}
use types.Kit.{some, later, await, pick, split3, feq_l, fpack, fjoin, by, use0, use1, join, ‵, raw, ◌⊛◌, prop, Sq, ◌$◌, ◌∵◌, !, qed, split, move, keep, drop}
use types.Part.{agg}
use types.Run.{returns, no_more, and_then, of_opd, enter}
use types.ByLocal.{lands_as, look_at, free_all, alloc_all, pass_all, get, sets}
use contract.BorrowLft.{◌⊑◌, ⊑_refl}
use contract.Monad.{fact, fact_i}
use contract.Running.{tables}
use denote.Memory.{lone}
use denote.Triple.Clauses.{Lasts, lasts}
use denote.Builtin.{RawPtr}
use denote.RawPtr.{Ptr, block_ptr, null_ptr, ptr_val, in_a_block}
use denote.Triple.Call.{calls_at}
use denote.Triple.Table.{framed}
use denote.Param.{bounded, param, layout}
use denote.Param.Laws.{param_laws}
use denote.RattleType.{RattleType}
use denote.Signature.{plain}
use denote.Steps.{heard, nothing, only}
use denote.Triple.Walked.{Stays, stay_dropped, walk_of, Goes-dropped}
use denote.Triple.Spec.{triple_of}
use denote.Param.Steps.{one_value}
use denote.Param.NoDrop.{glues}
use Rattle.std.specs.declared.alloc.Global.{Global}
use Rattle.std.proofs.raw_atomic.Walks.{proved_at, leaves}
use Rattle.std.specs.contracts.impls.GlobalAllocator.TheImpl.{ghosts, dict}
use Rattle.std.specs.contracts.alloc.Global as heap
use Rattle.std.proofs.alloc.Global.TheLaws as heap_laws
use Rattle.std_heap.proofs.GlobalAllocator.TheImpl.Met as heap_met
use Rattle.std_alloc.specs.Box.Ownership.{box_owns}
use Rattle.std_alloc.specs.contracts.boxed.Box as boxes
use Rattle.std_alloc.proofs.boxed.Box.TheLaws as box_laws
use Rattle.std_alloc.specs.contracts.boxed.Box.into_raw as raw_of
use Rattle.std_alloc.proofs.boxed.Box.into_raw.Met as raw_met
use Rattle.rheap_c.specs.contracts.parted.Parted.of.Key.{name as #self}
use Rattle.rheap_c.specs.contracts.parted.Parted.of as F
use Rattle.rheap_c.proofs.Boxes.{Z, LZ, frees}
use Rattle.rheap_c.proofs.Handles.{Apart, word, apart_in}
use Rattle.rheap_c.proofs.parted.Parted.of.Statement.{statement}
use Rattle.rheap_c.proofs.Destruct++none.drop.Code.{code as drop_code}
use Rattle.rheap_c.proofs.parted.Parted.of.Code as code

pub of_spec : {M : Type 1} → statement M
unfolding drop_code
of_spec {M = M} 𝓤 𝓛 𝓜 𝓡 wired R L d glue =
    let P : RattleType = param 0 R in let B : RattleType = boxes.the_row P heap.the_row ghosts in
    let args : Args = bounded (a_type ∷ []) (R, tt) (dcons d dnil) in let fn : Fn = inst_fn args code.function in
    let 𝓣 = tables 𝓤 𝓛.H 𝓜 𝓡 𝓡.env in let En = F.ended R d in let c = F.clauses R d 𝓛 𝓜.mem 𝓡.returns in
    let hs : Stays En.signature.params En.kept = (stay_dropped (plain (λ _. B)) En.kept.0, tt) in
    let G = triple_of 𝓛 (raw_of.signature R Z ghosts dict frees d) (raw_of.spec R Z ghosts dict frees d 𝓛 𝓜.mem 𝓡.returns) in
    let Er = raw_of.ended R Z ghosts dict frees d in let γ = 𝓡.env in
    let met = raw_met.met 𝓤 𝓛 𝓜 𝓡 (code.calls-std_alloc::boxed::Box::into_raw γ wired) R Z L LZ ghosts dict frees d
    (heap_met.passed γ (code.calls-std_heap::GlobalAllocator::allocate γ wired) (code.calls-std_heap::GlobalAllocator::deallocate γ wired) (code.calls-std_heap::GlobalAllocator::grow γ wired) (code.calls-std_heap::GlobalAllocator::shrink γ wired) M 𝓤 𝓛 𝓜 𝓡)
    (glues "rheap_c::Destruct++none::drop" γ (code.calls-rheap_c::Destruct++none::drop γ wired) Z LZ M 𝓤 𝓛 𝓜 𝓡) glue in
    proved_at 𝓛 En hs c 𝓜 𝓡 (Goes-dropped 𝓛 1 (plain (λ _. B)) En.kept.0 (λ κs x f. refl), tt) (#self args) fn (code.unfolded 𝓤 𝓛.H 𝓜 𝓡 wired (R, tt) d) (λ z are.
    let κ = z.0.0.0 in let q = z.0.1.0 in let b : B.Denot = z.0.3.0 in let vs = z.0.4.0 in
    let Owned : Ptr → Global → Fml = λ p h. box_owns (ghosts.dealloc_token h) P p b.value in
    qed 𝓛 (((‵ (flft κ q) ⊛ ‵ ftrue) ⊛ (‵ (B.own_val b vs) ⊛ ‵ ftrue)) ∷ (raw (fact 𝓤 (κ ⊑ R.lives)) ⊛ ‵ ftrue) ∷ []) ∵
    move ! (1 ∷ []) $ split ! $ heard ! (κ ⊑ R.lives) (λ le. drop ! $ split ! $ split ! $ move ! (2 ∷ []) $ split ! $ keep ! (0 ∷ 2 ∷ []) $
    one_value (layout B) (λ us. Sq 𝓛 (‵ (B.own_val b us) ∷ ‵ (flft κ q) ∷ []) (prop (WpFn 𝓤 𝓛.H 𝓣.C 𝓣.Λ fn (us ++ []) ((walk_of 𝓛 En hs c).post z)))) vs
    (((box_laws.the_field_loose P heap.the_row ghosts (param_laws 0 R L) heap_laws.the_row_laws).lawful 𝓛).typed b vs are.0) (λ whole ok.
    enter ! 𝓣.C 𝓣.Λ fn (whole ∷ []) _ $ alloc_all ! (λ l. pass_all ! refl (ok, tt) $
    -- [the box; the token]
    sets ! (of_opd ! (get ! refl)) refl ok $
    let zz : G.Ghost = (((κ, ([], tt)), (q, (full_share, tt)), tt, (b, tt), (whole ∷ [], tt)), tt) in
    use0 𝓛 (‵ (flft [] full_share)) (𝓛.lfts.lft-nil full_share) $ nothing ! $ move ! (1 ∷ 0 ∷ []) $ join ! $ move ! (2 ∷ 0 ∷ []) $ join ! $
    nothing ! $ move ! (2 ∷ 0 ∷ []) $ join ! $ move ! (1 ∷ 0 ∷ []) $ join ! $
    nothing ! $ use0 𝓛 (raw (fact 𝓤 ([] ⊑ Z.lives))) (fact_i 𝓤 ([] ⊑ Z.lives) (emp 𝓤) (⊑_refl [])) $ join ! $
    use0 𝓛 (raw (fact 𝓤 (κ ⊑ R.lives))) (fact_i 𝓤 (κ ⊑ R.lives) (emp 𝓤) le) $ join ! $ move ! (1 ∷ 0 ∷ []) $ join ! $
    use1 𝓛 (raw (G.pre zz)) (id⊢ 𝓤 _) $
    calls_at ! (framed 𝓤 𝓛.H 𝓜 𝓣) G met zz (and_then ! (get ! refl) (no_more !)) (λ v.
    use1 𝓛 (later (some (λ (p : Ptr). ((‵ (flft κ q) ⊛ ‵ (flft [] full_share) ⊛ ‵ ftrue) ⊛ ‵ (RawPtr.own_val p (v ∷ []))) ⊛
    some (λ (ws : Lasts Er zz.0.0 zz.0.3). ‵ (lasts Er zz.0.0 zz.0.3 ws) ⊛ ‵ (Owned p b.alloc))))) (id⊢ 𝓤 _) $
    await ! tt $ pick ! (λ p. split ! $ split ! $ split3 ! $ move ! (3 ∷ []) $ feq_l ! (λ ep. move ! (3 ∷ []) $ pick ! (λ ws. split ! $ drop ! $
    in_a_block ! p (λ p'. Owned p' b.alloc) (fst∗ 𝓤 (never 𝓤) (sem 𝓛 (ghosts.dealloc_token b.alloc (bare (lone P.mir)) null_ptr))) (λ x o e.
    -- [what the box owned; the tokens]
    let made : (Apart P).Denot = record { at = block_ptr x o; value = b.value } in
    lands_as ! (ap only ep ∙ ap ptr_val e) refl (tt, tt) $
    sets ! (agg ! (and_then ! (get ! refl) (no_more !))) refl (tt, (tt, tt)) $
    fpack ! Global (λ h. Owned (block_ptr x o) h) b.alloc $ apart_in P ! made $
    move ! (1 ∷ 3 ∷ []) $ join ! $ nothing ! $ nothing ! $ fjoin ! $
    use0 𝓛 (raw (fact 𝓤 (b.value ≡ b.value))) (fact_i 𝓤 (b.value ≡ b.value) (emp 𝓤) refl) $
    returns ! (look_at ! 0 refl) $ free_all ! refl $ keep ! (2 ∷ 1 ∷ 3 ∷ 0 ∷ []) $ by ! (leaves 𝓛 En hs c z (word (block_ptr x o)) made (tt, tt) (tt, tt)))))))))))
