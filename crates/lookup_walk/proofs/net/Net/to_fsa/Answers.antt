use Rattle.std.proofs.Common.{◌≡◌, ap, subst, sym, ◌∙◌, IfOk, ℕ, List}
use Rattle.std.proofs.lemmas.Result.{IfOk-weaker}
use Rattle.word_relations.specs.Relations.{AreSame}
use Rattle.fsm_base.specs.declared.letters.Pair.{Pair}
use Rattle.fsm_base.specs.declared.letters.Sym.{Sym}
use Rattle.fsa.specs.Automaton.{Automaton}
use Rattle.fst_algebra.specs.Relation.{IsRelated}
use Rattle.lookup_walk.specs.Answering.{HasSymbolsOf, IsOverAlphabet}
use Rattle.lookup_walk.specs.Nets.{NetView, NetRelates, flagged, plain}
use Rattle.lookup_walk.specs.Ways.{view_of}
use Rattle.lookup_walk.proofs.net.Net.to_fsa.Goals as goal

pub returns-in-Plain-clause-symbols : goal.returns-in-Plain-clause-symbols
returns-in-Plain-clause-symbols c =
    let view : c.args.self.now ≡ plain c.in-Plain.net = sym c.self.view_is ∙ ap view_of c.in-Plain.is in
    IfOk-weaker c.copied.result (λ (m : Automaton Pair). m ≡ c.in-Plain.net) (λ (m : Automaton Pair). (alphabet : List (Sym × List ℕ)) → IsOverAlphabet alphabet c.args.self.now → HasSymbolsOf alphabet m)
    (λ m is alphabet over. subst (HasSymbolsOf alphabet) (sym is) (subst (λ (n : NetView). IsOverAlphabet alphabet n) view over)) c.copied.ensures

pub returns-in-Flagged-clause-relation : goal.returns-in-Flagged-clause-relation
returns-in-Flagged-clause-relation c =
    let view : c.args.self.now ≡ flagged c.in-Flagged.kept.net = sym c.self.view_is ∙ ap view_of c.in-Flagged.is in
    subst (λ (n : NetView). IfOk c.resolve.result (λ m. AreSame (IsRelated m) (NetRelates n))) (sym view) c.resolve.ensures.relation
