use Rattle.std.proofs.Common.{ℕ, Bool, List, length, subst, sym, ap, ◌∙◌, arith}
use Rattle.fsm_base.proofs.LoneLemmas.{lent_back}
use Rattle.project_model.specs.Known.{AreKnown}
use Rattle.project_model.proofs.Known.{known_more}
use Rattle.project_model.proofs.gathered.GatheredSymbols.intern.Goals as goal

pub invariant_of-self-2 : goal.invariant_of-self-2
invariant_of-self-2 c =
    let old = c.self.inside.known in
    let new = c.mark.new.known in
    let back = lent_back new old.items old.len (omega (arith, old.ok, c.self.invariant.0, c.mark.ensures.count)) in
    let marked = rw c.as_bytes-2.ensures.value at (rw c.deref_mut.ensures.value at c.mark.ensures.marked) in
    let are = known_more c.args.text.now c.self.inside.table old.items new c.self.invariant.1 marked in (
      ap length back ∙ c.mark.ensures.count,
      subst (λ (known : List Bool). AreKnown c.intern.new.self known) (sym back) (subst (λ (table : List (List ℕ)). AreKnown table new) (sym c.in_ok-intern.ensures.table) are),
    )
