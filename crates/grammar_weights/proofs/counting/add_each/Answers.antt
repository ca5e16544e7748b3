use Rattle.std.proofs.Common.{◌+◌, drop, map, sym, ap, ◌∙◌, arith}
use Rattle.std.proofs.lemmas.List.{drop_all}
use Rattle.std.specs.List.{flat_map}
use Rattle.word_relations.proofs.Behind.{left_behind}
use Rattle.grammar_pairs.specs.Plain.{pair_of}
use Rattle.grammar_weights.specs.Counting.{all_added, kept}
use Rattle.grammar_weights.specs.Weights.{written_pair}
use Rattle.grammar_weights.proofs.Counted.{go_on}
use Rattle.grammar_weights.proofs.counting.add_each.Goals as goal

pub atoms-preserved : goal.atoms-preserved
atoms-preserved c =
    go_on (λ p. pair_of p.now) c.atoms.pairs.keys c.add_pair.new.pairs.keys _ (drop c.atoms.atom-index c.args.atoms.now) (drop (c.atoms.atom-index + 1) c.args.atoms.now) c.atom-item.result c.in_ok-add_pair.ensures
    (left_behind c.args.atoms.now c.atoms.atom-index c.atom-item.result (omega arith) c.atom-item.is) c.atoms.invariant

pub returns : goal.returns
returns c =
    ap (λ z. all_added c.atoms.pairs.keys (map kept (flat_map written_pair (map (λ p. pair_of p.now) z)))) (sym (drop_all c.atoms.atom-index c.args.atoms.now (omega arith))) ∙ c.atoms.invariant
