use Rattle.std.proofs.Common.{◌<◌, ◌↔◌, List, Some, subst}
use Rattle.std.specs.Result.{IfOk}
use Rattle.std.proofs.lemmas.Result.{IfOk-weaker}
use Rattle.fsm_base.specs.declared.letters.Pair.{Pair}
use Rattle.fsm_base.specs.declared.letters.Sym.{Sym}
use Rattle.fst_algebra.specs.Relations.{UsesLower}
use Rattle.fst_algebra.proofs.Relabelled.{as_relabelled, relabelled_letters}
use Rattle.fst_flagged.specs.Conditions.{first}
use Rattle.fst_flagged.specs.Flagged.{FlaggedView, FlaggedRelates}
use Rattle.fst_flagged.specs.Images.{moved_below}
use Rattle.fst_flagged.proofs.Loads.{RelatesAbove}
use Rattle.fst_flagged.proofs.Stands.{below_relation, below_letters}
use Rattle.fst_flagged.proofs.flagged.Flagged.with_conditions_below.Goals as goal

pub returns-clause-letters : goal.returns-clause-letters
returns-clause-letters c =
    let f : FlaggedView = record { net = c.self.inside.net; conditions = c.self.inside.conditions.items } in
    subst (λ (z : FlaggedView). IfOk c.substituted.result (λ m. (x : Sym) → UsesLower m x → x.0 < first → UsesLower z.net x)) c.self.view_is
    (IfOk-weaker _ _ _ (λ m letters. below_letters f c.self.invariant m (relabelled_letters (λ (p : Pair). Some (moved_below p)) f.net m letters)) c.substituted.ensures.letters)

pub returns-clause-relation : goal.returns-clause-relation
returns-clause-relation c =
    let f : FlaggedView = record { net = c.self.inside.net; conditions = c.self.inside.conditions.items } in
    subst (λ (z : FlaggedView). IfOk c.substituted.result (λ m. (u w : List Sym) → FlaggedRelates z u w ↔ RelatesAbove m z.conditions u w)) c.self.view_is
    (IfOk-weaker _ _ _ (λ m same. below_relation f c.self.invariant m (as_relabelled (λ (p : Pair). Some (moved_below p)) f.net m same)) c.substituted.ensures.language)
