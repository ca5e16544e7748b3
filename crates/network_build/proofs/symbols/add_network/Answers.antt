use Rattle.std.proofs.Common.{ap, ◌∙◌}
use Rattle.fsm_base.specs.declared.letters.Pair.{Pair}
use Rattle.fsa.specs.Automaton.{Automaton}
use Rattle.std.proofs.lemmas.Result.{on_ok_weaker}
use Rattle.network_build.specs.Networks.{UsesSymbol}
use Rattle.network_build.proofs.Uses.{Given, Reads, Relates, RelatesLetter, flagged_use, given_as, pairs_use, words_use}
use Rattle.network_build.proofs.symbols.add_network.Goals as goal

pub returns-in-Words : goal.returns-in-Words
returns-in-Words c =
    on_ok_weaker c.add_words.result
    (given_as c.args.symbols.now c.add_words.new.symbols (Given Reads c.edges.result.now) (UsesSymbol c.args.network.now) (words_use c.args.network.now c.in-Words.words c.edges.result.now c.in-Words.is c.edges.ensures.edges))
    c.add_words.ensures

pub returns-in-Pairs : goal.returns-in-Pairs
returns-in-Pairs c =
    on_ok_weaker c.add_pairs.result
    (given_as c.args.symbols.now c.add_pairs.new.symbols (Given Relates c.edges-in-Pairs.result.now) (UsesSymbol c.args.network.now) (pairs_use c.args.network.now c.in-Pairs.pairs c.edges-in-Pairs.result.now c.in-Pairs.is c.edges-in-Pairs.ensures.edges))
    c.add_pairs.ensures

pub returns-in-Flagged : goal.returns-in-Flagged
returns-in-Flagged c =
    on_ok_weaker c.add_flagged.result
    (given_as c.args.symbols.now c.add_flagged.new.symbols (Given RelatesLetter c.edges-in-Flagged.result.now) (UsesSymbol c.args.network.now) (flagged_use c.args.network.now c.in-Flagged.flagged c.edges-in-Flagged.result.now c.in-Flagged.is (c.edges-in-Flagged.ensures.edges ∙ ap (λ (m : Automaton Pair). m.edges) c.net.ensures)))
    c.add_flagged.ensures
