-- `into_loose` keeps the pointer, and owns what it owned.
use Rattle.std.proofs.Common.{◌≡◌, List, [], ◌∷◌, ◌++◌, refl, sym, ap, ◌∙◌, subst}
use mir.Val.{Val, vptr}
use base.Logic.{SProp, ent, id⊢}
use base.Fml.{ftrue, fsep}
use prog.Wp.{WpFn}
use types.Kit.{‵, raw, ◌⊛◌, ◌$◌, ◌∵◌, !, qed, move, keep, drop, split, join, fsplit3, fjoin, suffices, use1, done}
use types.Run.{stop, fld, of_opd, no_more, and_then, returns, enter}
use types.ByLocal.{alloc_all, pass_all, free_all, look_at, get, get_in, sets}
use types.Part.{agg, sub, whole}
use contract.Monad.{fact}
use contract.Running.{tables}
use denote.Exit.{yes}
use denote.RattleType.{RattleType}
use denote.Signature.{plain}
use denote.RawPtr.{Ptr, block_ptr}
use denote.Steps.{nothing, heard}
use denote.Triple.Walked.{says, Stays, stay_dropped, walk_of, Goes-dropped, ends_at}
use Rattle.std.specs.Prelude.{true, is_some}
use Rattle.std.specs.contracts.alloc.Global as heap
use Rattle.std.proofs.alloc.Global.TheLaws as heap_laws
use Rattle.std.specs.contracts.impls.GlobalAllocator.TheImpl.{ghosts}
use Rattle.std_alloc.specs.Box.Ownership.{box_owns}
use Rattle.std.proofs.raw_atomic.Walks.{proved_at}
use Rattle.morph_c.specs.contracts.held.Held as held
use Rattle.morph_c.specs.contracts.slot.Slot as slot
use Rattle.morph_c.proofs.Values.{both, Loose, loose_good, loose_in}
use Rattle.morph_c.proofs.Slots.{word, word_good, slot_out, held_in, handle_out}
use Rattle.morph_c.specs.contracts.slot.Slot.into_loose.{ended, clauses}
use Rattle.morph_c.specs.contracts.slot.Slot.into_loose.Key.{name as #self}
use Rattle.morph_c.proofs.slot.Slot.into_loose.Statement.{statement}
use Rattle.morph_c.proofs.slot.Slot.into_loose.Code as code

pub into_loose_spec : {M : Type 1} → statement M
into_loose_spec 𝓤 𝓛 𝓜 𝓡 wired =
    let H = 𝓛.H in let 𝓣 = tables 𝓤 H 𝓜 𝓡 𝓡.env in let c = clauses 𝓛 𝓜.mem 𝓡.returns in
    let R : RattleType = held.the_row in let Z : RattleType = heap.the_row in let LZ = heap_laws.the_row_laws in let Lr : RattleType = Loose R Z LZ ghosts in
    let hs : Stays ended.signature.params ended.kept = (stay_dropped (plain (λ _. slot.the_row)) yes, (stay_dropped (plain (λ _. Z)) yes, tt)) in
    proved_at 𝓛 ended hs c 𝓜 𝓡 (Goes-dropped 𝓛 0 (plain (λ _. slot.the_row)) yes (λ κs x f. refl), (Goes-dropped 𝓛 0 (plain (λ _. Z)) yes (λ κs x f. refl), tt)) #self code.function (code.unfolded 𝓤 H 𝓜 𝓡 wired) (λ z are.
    let v = z.0.3.0 in let a = z.0.3.1.0 in let Post : Val → SProp 𝓤 = (walk_of 𝓛 ended hs c).post z in let Run : List Val → SProp 𝓤 = λ ws. WpFn 𝓤 H 𝓣.C 𝓣.Λ code.function ws Post in
    qed 𝓛 ((‵ ftrue ⊛ ‵ (fsep (slot.the_row.own_val v z.0.4.0) (fsep (Z.own_val a z.0.4.1.0) ftrue))) ∷ raw (fact 𝓤 (is_some v.value ≡ true)) ∷ []) ∵ split ! $ drop ! $ fsplit3 ! $
    move ! (3 ∷ []) $ heard ! (is_some v.value ≡ true) (λ there. slot_out ! v z.0.4.0 (λ ws. held_in ! v.at v.value there (λ x is b o e.
    move ! (1 ∷ []) $ handle_out ! a z.0.4.1.0 (λ h hs' fits.
    let w : Val = word (block_ptr b o) in let us : List Val = w ∷ h ∷ [] in let made : Val = both (vptr b o) h in let typed = loose_good R Z LZ ghosts b o h fits in
    let ew : z.0.4.0 ≡ w ∷ [] = ws ∙ ap (λ (p : Ptr). word p ∷ []) e in
    suffices ! (Run us) (subst (λ (vs : List Val). ent 𝓤 (Run us) (Run vs)) (sym (λ i. ew i ++ (hs' i ++ []))) (id⊢ 𝓤 (Run us))) $ keep ! (1 ∷ 0 ∷ []) $
    enter ! 𝓣.C 𝓣.Λ code.function us Post $ alloc_all ! (λ l. pass_all ! refl (word_good (block_ptr b o), (fits, tt)) $
    sets ! (of_opd ! (get_in ! (fld ! refl (stop !)) (sub ! 0 refl (whole !)))) refl (tt, tt) $ sets ! (of_opd ! (get ! refl)) refl (tt, tt) $
    sets ! (agg ! (and_then ! (get ! refl) (and_then ! (get ! refl) (no_more !)))) refl typed $ returns ! (look_at ! 0 refl) $ free_all ! refl $
    use1 𝓛 (‵ (box_owns (ghosts.dealloc_token a) R (block_ptr b o) x)) (id⊢ 𝓤 _) $ loose_in R Z LZ ghosts ! b o h a x $
    suffices ! _ (ends_at 𝓛 ended hs c z made (record { at = block_ptr b o; alloc = a; value = x }) (tt, (tt, tt)) (tt, (tt, tt))) $ says ! is $
    nothing ! $ nothing ! $ fjoin ! $ nothing ! $ fjoin ! $ join ! $ nothing ! $ join ! $ done !))))))
