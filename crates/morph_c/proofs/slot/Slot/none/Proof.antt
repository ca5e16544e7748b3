-- `none` points nowhere, and owns nothing.
use Rattle.std.proofs.Common.{[], ◌∷◌, refl}
use mir.Val.{Val}
use base.Logic.{SProp, emp}
use base.Fml.{ftrue}
use types.Kit.{‵, raw, ◌⊛◌, ◌$◌, ◌∵◌, !, qed, drop, split, join, suffices, done}
use types.Run.{lit, no_more, and_then, returns, enter}
use types.ByLocal.{alloc_all, pass_all, free_all, look_at, sets}
use types.Part.{agg}
use contract.Running.{tables}
use denote.RawPtr.{null_ptr}
use denote.Steps.{nothing}
use denote.Triple.Walked.{says, Stays, walk_of, ends_at}
use Rattle.std.specs.Prelude.{None}
use Rattle.std.proofs.raw_atomic.Walks.{proved_at}
use Rattle.morph_c.proofs.Slots.{word, word_good, slot_in}
use Rattle.morph_c.specs.contracts.slot.Slot.none.{ended, clauses}
use Rattle.morph_c.specs.contracts.slot.Slot.none.Key.{name as #self}
use Rattle.morph_c.proofs.slot.Slot.none.Statement.{statement}
use Rattle.morph_c.proofs.slot.Slot.none.Code as code

pub none_spec : {M : Type 1} → statement M
none_spec 𝓤 𝓛 𝓜 𝓡 wired =
    let H = 𝓛.H in let 𝓣 = tables 𝓤 H 𝓜 𝓡 𝓡.env in let c = clauses 𝓛 𝓜.mem 𝓡.returns in
    let hs : Stays ended.signature.params ended.kept = tt in
    proved_at 𝓛 ended hs c 𝓜 𝓡 tt #self code.function (code.unfolded 𝓤 H 𝓜 𝓡 wired) (λ z are.
    let Post : Val → SProp 𝓤 = (walk_of 𝓛 ended hs c).post z in
    qed 𝓛 ((‵ ftrue ⊛ ‵ ftrue) ∷ raw (emp 𝓤) ∷ []) ∵ split ! $ drop ! $ drop ! $ drop ! $
    enter ! 𝓣.C 𝓣.Λ code.function [] Post $ alloc_all ! (λ l. pass_all ! refl tt $
    sets ! (agg ! (and_then ! (lit ! tt) (no_more !))) refl (word_good null_ptr) $ returns ! (look_at ! 0 refl) $ free_all ! refl $
    nothing ! $ slot_in {Γ = []} ! null_ptr None $
    suffices ! _ (ends_at 𝓛 ended hs c z (word null_ptr) (record { at = null_ptr; value = None }) tt tt) $ says ! refl $
    nothing ! $ join ! $ nothing ! $ join ! $ done !))
