use Rattle.std.proofs.Common.{◌↔◌, List, reverse}
use Rattle.std.proofs.lemmas.Result.{IfOk-weaker}
use Rattle.fsm_base.specs.declared.letters.Pair.{Pair}
use Rattle.word_relations.specs.Relations.{AreSame}
use Rattle.fsa.specs.Automaton.{UsesLetter}
use Rattle.fsa.specs.Language.{Accepts}
use Rattle.fst_algebra.specs.Relation.{IsRelated}
use Rattle.network_algebra.proofs.Meanings.{reversed_pairs}
use Rattle.replace_directed.proofs.turning.turned_network.Goals as goal

pub returns-clause-letters : goal.returns-clause-letters
returns-clause-letters c =
    let backwards = c.in_ok-backwards.backwards in
    IfOk-weaker c.reduced.result (λ m. (x : Pair) → UsesLetter m x → UsesLetter backwards x) (λ m. (x : Pair) → UsesLetter m x → UsesLetter c.args.network.now x) (λ m used x h. c.in_ok-backwards.ensures.letters x (used x h)) c.reduced.ensures.letters

pub returns-clause-relation : goal.returns-clause-relation
returns-clause-relation c =
    let network = c.args.network.now in
    let backwards = c.in_ok-backwards.backwards in
    IfOk-weaker c.reduced.result (λ m. (w : List Pair) → Accepts m w ↔ Accepts backwards w) (λ m. AreSame (IsRelated m) (λ u w. IsRelated network (reverse u) (reverse w)))
    (λ m same. reversed_pairs network m (λ w. (λ h. (c.in_ok-backwards.ensures.language w).0 ((same w).0 h), λ h. (same w).1 ((c.in_ok-backwards.ensures.language w).1 h)))) c.reduced.ensures.language
