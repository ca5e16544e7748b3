use Rattle.std.proofs.Common.{◌≡◌, ◌+◌, ap, length, subst, sym, arith, ℕ}
use Rattle.std.specs.List.{Contains}
use Rattle.lookup.specs.Graph.{IsWithin}
use Rattle.lookup.proofs.Nodes.{are_graph, graph_letters, graph_within, graph_words}
use Rattle.lookup.proofs.conditions.graph_of.Goals as goal

pub raised_edges-requires : goal.raised_edges-requires
raised_edges-requires c = λ e held.
    let inside = c.edges.ensures.formed.within e (subst (λ es. Contains es e) c.edges.ensures.edges held) in
    let same : length c.finals-finals.result.now ≡ length c.args.words.now.finals = ap length c.finals-finals.ensures.finals in
    (omega (arith, inside.0), omega (arith, inside.1))

pub returns-clause-within : goal.returns-clause-within
returns-clause-within c =
    let edges = c.add_closing.new.edges.items in
    subst (λ (n : ℕ). IsWithin edges (n + 1)) (sym (ap length c.finals-finals.ensures.finals))
    (graph_within c.args.words.now edges
    (are_graph c.args.words.now c.edges.result.now c.in_ok-edges.edges.items edges c.finals-finals.result.now c.edges.ensures.edges c.finals-finals.ensures.finals c.in_ok-edges.ensures c.in_ok-add_closing.ensures) c.finals-finals.ensures.formed)

pub returns-clause-symbols : goal.returns-clause-symbols
returns-clause-symbols c =
    let edges = c.add_closing.new.edges.items in
    graph_letters c.args.words.now edges
    (are_graph c.args.words.now c.edges.result.now c.in_ok-edges.edges.items edges c.finals-finals.result.now c.edges.ensures.edges c.finals-finals.ensures.finals c.in_ok-edges.ensures c.in_ok-add_closing.ensures)

pub returns-clause-words : goal.returns-clause-words
returns-clause-words c =
    let edges = c.add_closing.new.edges.items in
    graph_words c.args.words.now edges
    (are_graph c.args.words.now c.edges.result.now c.in_ok-edges.edges.items edges c.finals-finals.result.now c.edges.ensures.edges c.finals-finals.ensures.finals c.in_ok-edges.ensures c.in_ok-add_closing.ensures)
