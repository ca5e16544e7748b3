use Rattle.std.proofs.Common.{IfOk, subst, sym}
use Rattle.std.proofs.lemmas.Result.{IfOk-weaker}
use Rattle.word_relations.specs.Relations.{AreSame}
use Rattle.word_relations.proofs.Pairs.{same_trans}
use Rattle.fst_algebra.specs.Relation.{IsRelated}
use Rattle.lookup.specs.Nets.{NetRelates}
use Rattle.network_algebra.specs.Networks.{PairsOf}
use Rattle.network_algebra.specs.declared.network.Network.{Network}
use Rattle.network_algebra.specs.declared.network.Network.TheVariants.{Words}
use Rattle.network_build.specs.Networks.{CompiledView}
use Rattle.network_build.proofs.compiled.Compiled.of.Goals as goal

pub returns-in_ok-transducer-in-Words-clause-relation : goal.returns-in_ok-transducer-in-Words-clause-relation
returns-in_ok-transducer-in-Words-clause-relation c =
    let made = c.in_ok-transducer-in-Words in
    subst (λ (n : Network). IfOk c.plain.result (λ x. AreSame (NetRelates x.net) (PairsOf n))) (sym c.in-Words.is)
    (IfOk-weaker c.plain.result (λ (x : CompiledView). AreSame (NetRelates x.net) (IsRelated made.transducer)) (λ (x : CompiledView). AreSame (NetRelates x.net) (PairsOf (Words c.in-Words.words)))
    (λ x same. same_trans (NetRelates x.net) (IsRelated made.transducer) (PairsOf (Words c.in-Words.words)) same made.ensures.pairs) c.plain.ensures.relation)
