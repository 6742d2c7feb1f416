-- `here` lends the heap at the address, and the handle follows it. Assumes `Logic`.
use Rattle.std.proofs.Common.{◌≡◌, ℕ, List, [], ◌∷◌, refl, sym}
use Rattle.std.specs.Prelude.{Option, IsSome}
use seplogic.Ra.Ura.{Ura}
use mir.Raw.{raw as bare}
use mir.Syntax.{named}
use mir.Val.{Val, vptr}
use base.Fraction.{full_share}
use base.Logic.{ent, sep, never, fst∗}
use base.Fml.{GName, Fml, ftrue, fsep, flft}
use types.Logic.{Logic, sem}
use types.Kit.{‵, raw, ◌⊛◌, later, some, at_ret, ◌$◌, ◌∵◌, !, qed, move, keep, split, split3, join, group, use1, await, pick, rewrite, fpick, fpack, fsplit, fsplit3, fjoin, suffices, frame, done}
use types.Run.{first, blocks, exec, stop, fld, addr, load, of_opd, returns, enter}
use types.ByLocal.{env, alloc_all, pass_all, free_all, look_at, get, through, sets, sets_last}
use types.Part.{sub, whole, look_in}
use contract.Monad.{fact}
use contract.Running.{tables}
use denote.Exit.{no}
use denote.RattleType.{RattleType, owns}
use denote.Memory.{cell_at, part_at, part_of, mem, lone}
use denote.Signature.{types_at, plain, mut_ref_to}
use denote.RawPtr.{Ptr, block_ptr, null_ptr, in_a_block}
use denote.Ref.{MutRef, mut_vals, mut_Tells}
use denote.Follow.{follows, lends_Part}
use denote.Steps.{nothing, heard, opens}
use denote.Triple.Walked.{says, Stays, stay_dropped, walk_of, ends_at, Goes-spent_ref}
use Rattle.std.specs.declared.alloc.Global.{Global}
use Rattle.std.specs.contracts.impls.GlobalAllocator.TheImpl.{ghosts}
use Rattle.std.proofs.raw_atomic.Walks.{proved}
use Rattle.std_alloc.proofs.VecSteps.Shapes.{after}
use Rattle.rheap_c.specs.Held.{boxed, heap_type, held}
use Rattle.rheap_c.specs.Lent.{with_heap}
use Rattle.rheap_c.specs.contracts.fixed_part.FixedPart.here.{ended, clauses}
use Rattle.rheap_c.specs.contracts.fixed_part.FixedPart.here.Key.{name as #self}
use Rattle.rheap_c.proofs.Handles.{Handle, word, handle_out, handle_in, known}
use Rattle.rheap_c.proofs.fixed_part.FixedPart.here.Statement.{statement}
use Rattle.rheap_c.proofs.fixed_part.FixedPart.here.Code as code

module _ {M : Type 1} {𝓤 : Ura M} (𝓛 : Logic 𝓤) (h : Handle.Denot) (b o b' o' : ℕ) (freed : Global) where
  -- all but the heap: the right to free its box, and the handle's word
  abbrev Rest : Fml
  Rest = fsep (ghosts.dealloc_token freed (bare (lone heap_type.mir)) (block_ptr b' o')) (cell_at full_share Handle.mir (word (block_ptr b' o') ∷ []) b o)

  back : h.at ≡ block_ptr b' o' → (s : heap_type.Denot) → ent 𝓤 (sep 𝓤 (sem 𝓛 ((mem heap_type).own_at s b' o')) (sem 𝓛 Rest)) (sem 𝓛 ((mem Handle).own_at (with_heap h s) b o))
  unfolding part_of
  back at s =
      let h' : Handle.Denot = with_heap h s in
      qed 𝓛 (‵ (part_at heap_type full_share s b' o') ∷ ‵ Rest ∷ []) ∵ move ! (1 ∷ []) $ fsplit ! $ move ! (2 ∷ 0 ∷ []) $ fjoin ! $
      rewrite ! 0 (λ (p : Ptr). ‵ (boxed p s freed)) (sym at) refl $ fpack ! Global (boxed h.at s) freed $
      rewrite ! 1 (λ (p : Ptr). ‵ (cell_at full_share Handle.mir (word p ∷ []) b o)) (sym at) refl $ handle_in ! h' $
      move ! (1 ∷ 0 ∷ []) $ fjoin ! $ fpack ! (List Val) (λ vs. fsep (cell_at full_share Handle.mir vs b o) (Handle.own_val h' vs)) (word h.at ∷ []) $ done !

pub here_spec : {M : Type 1} → statement M
here_spec 𝓤 𝓛 𝓜 𝓡 wired =
    let H = 𝓛.H in let 𝓣 = tables 𝓤 H 𝓜 𝓡 𝓡.env in let En = ended in let c = clauses 𝓛 𝓜.mem 𝓡.returns in let fn = code.function in
    let hs : Stays En.signature.params En.kept = (stay_dropped (mut_ref_to (0 ∷ []) tt (plain (λ _. Handle))) no, tt) in
    proved 𝓛 En hs c 𝓜 𝓡 (Goes-spent_ref 𝓛 1 (0 ∷ []) tt (plain (λ _. Handle)), tt) #self fn (code.unfolded 𝓤 H 𝓜 𝓡 wired)
    (λ κs. (mut_vals, tt)) (λ κs. (mut_Tells (named 0) κs.0 Handle, tt)) (λ κs qs bounds args g are.
    let κ = κs.0 in let q = qs.0 in let a = args.0 in let b = a.ref_ptr.0 in let o = a.ref_ptr.1 in let γ = a.ghost_name in let h : Handle.Denot = a.now in
    let Asked : Type 0 = IsSome h.state in let us : List Val = vptr b o ∷ [] in
    qed 𝓛 (((‵ (flft κ q) ⊛ ‵ ftrue) ⊛ ‵ (owns (types_at En.signature.params κs) args (us, tt))) ∷ raw (fact 𝓤 Asked) ∷ []) ∵
    move ! (1 ∷ []) $ heard ! Asked (λ asked. split ! $ split ! $ move ! (2 ∷ []) $ fsplit ! $ fsplit3 ! $ keep ! (1 ∷ 2 ∷ 4 ∷ []) $
    enter ! 𝓣.C 𝓣.Λ fn us _ $ alloc_all ! (λ l. pass_all ! refl ((tt, tt), tt) $
    -- [the borrow, in two entries; its token]
    opens ! tt Handle b o (λ ts. move ! (1 ∷ []) $ handle_out ! h ts (λ e.
    let is = known h.state asked in let s : heap_type.Denot = is.0 in let Cell = λ (ws : List Val). ‵ (cell_at full_share Handle.mir ws b o) in
    rewrite ! 1 Cell e refl $ rewrite ! 0 (λ (v : Option heap_type.Denot). ‵ (held h.at v)) is.1 refl $
    fpick ! (λ freed. in_a_block ! h.at (λ p. boxed p s freed) (fst∗ 𝓤 (never 𝓤) (sem 𝓛 (ghosts.dealloc_token freed (bare (lone heap_type.mir)) null_ptr))) (λ b' o' at. fsplit ! $
    rewrite ! 2 (λ (p : Ptr). Cell (word p ∷ [])) at refl $
    -- [the heap; the right to free its box; the handle's word; the open borrow, in three entries]
    first ! $ blocks ! $
    sets ! (of_opd ! (load ! (through ! refl (fld ! refl (stop !))) (look_in ! 2 (sub ! 0 refl (whole !))))) refl (tt, tt) $
    sets ! (of_opd ! (get ! refl)) refl (tt, tt) $
    sets_last ! (addr ! (through ! refl (stop !))) refl (tt, tt) $
    exec ! 𝓣.C 𝓣.Λ (env code.Mir.locals l) (after 1 fn.body) (at_ret _ ((walk_of 𝓛 En hs c).post ((κs, qs, bounds, args, (us, tt)), g))) $
    sets ! (of_opd ! (get ! refl)) refl (tt, tt) $
    move ! (1 ∷ 2 ∷ []) $ fjoin ! $ move ! (2 ∷ 3 ∷ 4 ∷ 1 ∷ 0 ∷ []) $ group ! 5 $
    let R : Fml = Rest 𝓛 h b o b' o' freed in let Lent : RattleType = MutRef (named 0) κ heap_type in let code_h = Handle.coded.code h in
    use1 𝓛 (later (some (λ (γ' : GName). ‵ (Lent.own_val (record { ref_ptr = (b', o'); ghost_name = γ'; now = s }) (vptr b' o' ∷ [])) ⊛ ‵ (flft κ q) ⊛ ‵ (follows Handle heap_type γ γ' (with_heap h)))))
    (lends_Part 𝓛 Handle heap_type (with_heap h) (named 0) κ q b o b' o' γ (sem 𝓛 R) (back 𝓛 h b o b' o' freed at) code_h code_h s) $ await ! tt $ pick ! (λ γ'. split3 ! $
    let r : Lent.Denot = record { ref_ptr = (b', o'); ghost_name = γ'; now = s } in
    returns ! (look_at ! 0 refl) $ free_all ! refl $ keep ! (0 ∷ 1 ∷ 2 ∷ []) $
    suffices ! _ (ends_at 𝓛 En hs c ((κs, qs, bounds, args, (us, tt)), g) (vptr b' o') r (tt, tt) (tt, tt)) $
    nothing ! $ nothing ! $ fjoin ! $ join ! $ nothing ! $ move ! (2 ∷ 0 ∷ []) $ join ! $ join ! $ frame ! $ says ! is.1 $ done !))))))))
