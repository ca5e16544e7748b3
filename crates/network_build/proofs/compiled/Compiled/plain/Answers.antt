use Rattle.std.proofs.Common.{sym, subst}
use Rattle.fsm_base.specs.Alphabet.{symbols_of}
use Rattle.fsa.specs.Language.{Accepts}
use Rattle.fst_algebra.specs.Relation.{IsRelated}
use Rattle.fst_algebra.proofs.Languages.{related_same}
use Rattle.lookup.specs.Answering.{IsOverAlphabet}
use Rattle.lookup.specs.Nets.{NetView, NetRelates}
use Rattle.word_relations.specs.Relations.{AreSame}
use Rattle.network_build.proofs.Sounds.{over_alphabet}
use Rattle.network_build.proofs.compiled.Compiled.plain.Goals as goal

pub returns-clause-relation : goal.returns-clause-relation
returns-clause-relation c =
    let straight = c.in_ok-straight in
    subst (λ (n : NetView). AreSame (NetRelates n) (IsRelated c.args.transducer)) (sym c.in_ok-net.ensures)
    (related_same (Accepts straight.straight) (Accepts c.args.transducer) straight.ensures.language)

pub returns-clause-alphabet : goal.returns-clause-alphabet
returns-clause-alphabet c = λ alphabet over.
    let straight = c.in_ok-straight in
    subst (λ (n : NetView). IsOverAlphabet alphabet n) (sym c.in_ok-net.ensures)
    (over_alphabet alphabet c.args.transducer straight.straight straight.ensures.letters over)
