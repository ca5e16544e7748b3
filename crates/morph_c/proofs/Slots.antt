-- The machine value of a slot. Assumes `Logic`.
use Rattle.std.proofs.Common.{◌≡◌, ℕ, List, [], ◌∷◌, ◌++◌, refl, sym, subst, true≢false}
use lib.Dec.{T}
use seplogic.Ra.Ura.{Ura}
use mir.Syntax.{impl, tnil, dnil}
use mir.Raw.{raw as bare}
use mir.Val.{Val, vstruct, vcons, vnil, of_list, has_ty, WT}
use base.Logic.{never, fst∗}
use types.Logic.{Logic, sem}
use types.Kit.{Item, Goal, Seq, Step, step, ‵, ◌$◌, drop, fsplit, fjoin, fpick, fpack, feq_i, feq_l}
use denote.RattleType.{Valss}
use denote.Builtin.{RawPtr}
use denote.Memory.{lone}
use denote.RawPtr.{Ptr, block_ptr, null_ptr, ptr_val, in_a_block}
use denote.Steps.{nothing}
use denote.Param.{layout}
use denote.Struct.Struct.{within}
use denote.Struct.Owning.{shape}
use Rattle.core.proofs.atomic.Steps.{Ptr-Good}
use Rattle.std_alloc.proofs.ResultValues.{and_tt}
use Rattle.std.specs.Prelude.{Option, None, Some, true, is_some}
use Rattle.core.proofs.alloc.Calls.{Al, handle_tells}
use Rattle.core.proofs.cell.Inside.{Good}
use Rattle.std.specs.contracts.alloc.Global as global
use Rattle.std.proofs.alloc.Global.TheLaws as global_laws
use Rattle.std.specs.contracts.impls.GlobalAllocator.TheImpl.{ghosts}
use Rattle.std_alloc.specs.Box.Ownership.{box_owns}
use Rattle.morph_c.specs.Slots.{heap, slot_owns}
use Rattle.morph_c.specs.contracts.held.Held as held
use Rattle.morph_c.specs.contracts.slot.Slot as slot

abbrev pub word : Ptr → Val
word p = vstruct (vcons (ptr_val p) vnil)

pub word_good : (p : Ptr) → T (has_ty (layout slot.the_row) (word p)) × WT (word p)
word_good p = (and_tt _ (Ptr-Good p).0, ((Ptr-Good p).1, tt))

abbrev al : Al
al = record { row = global.the_row; laws = global_laws.the_row_laws; g = ghosts; d = impl [] tnil dnil; drops = impl [] tnil dnil }

module _ {M : Type 1} {𝓤 : Ura M} {𝓛 : Logic 𝓤} {K : Type 0} {Γ : List (Item 𝓤)} {G : Goal 𝓤 𝓛.H} where
  pub slot_out : K → (d : slot.the_row.Denot) (vs : List Val) → (vs ≡ word d.at ∷ [] → Seq K 𝓛 (‵ (slot_owns d.at d.value) ∷ Γ) G) → Seq K 𝓛 (‵ (slot.the_row.own_val d vs) ∷ Γ) G
  slot_out t d vs k =
      fsplit t $ fpick t (λ vss. fsplit t $ feq_l t (λ ev. fsplit t $ feq_l t (λ ep. drop t $ k (subst (λ (ps : List Val). vs ≡ vstruct (of_list (ps ++ [])) ∷ []) ep ev))))

  pub slot_in : K → (p : Ptr) (x : Option held.the_row.Denot) → Step K 𝓛 (‵ (slot.the_row.own_val (record { at = p; value = x }) (word p ∷ [])) ∷ Γ) G (‵ (slot_owns p x) ∷ Γ) G
  slot_in t p x = step (λ s.
      nothing t $ feq_i t (List Val) (ptr_val p ∷ []) (ptr_val p ∷ []) refl $ fjoin t $ feq_i t (List Val) (word p ∷ []) (word p ∷ []) refl $ fjoin t $
      fpack t (Valss (RawPtr ∷ [])) (within (shape slot.the_type) (p, tt) (word p ∷ [])) (ptr_val p ∷ [], tt) $ fjoin t $ s)

  -- where there is a value, the slot points to it
  pub held_in : K → (p : Ptr) (x : Option held.the_row.Denot) → is_some x ≡ true → ((y : held.the_row.Denot) → x ≡ Some y → (b o : ℕ) → p ≡ block_ptr b o → Seq K 𝓛 (‵ (box_owns (ghosts.dealloc_token heap) held.the_row (block_ptr b o) y) ∷ Γ) G) → Seq K 𝓛 (‵ (slot_owns p x) ∷ Γ) G
  held_in t p None there k = absurd (true≢false (sym there))
  held_in t p (Some y) there k = in_a_block t p (λ q. box_owns (ghosts.dealloc_token heap) held.the_row q y) (fst∗ 𝓤 (never 𝓤) (sem 𝓛 (ghosts.dealloc_token heap (bare (lone held.the_row.mir)) null_ptr))) (λ b o e. k y refl b o e)

  -- the machine value of the allocator's handle
  pub handle_out : K → (a : global.the_row.Denot) (vs : List Val) → ((h : Val) → vs ≡ h ∷ [] → Good (layout global.the_row) h → Seq K 𝓛 (‵ (global.the_row.own_val a (h ∷ [])) ∷ Γ) G) → Seq K 𝓛 (‵ (global.the_row.own_val a vs) ∷ Γ) G
  handle_out t a vs k = handle_tells al t a vs k
