use Rattle.std.proofs.lemmas.Result.{IfOk-weaker}
use Rattle.network_expr.proofs.LeafWords.{leaf_done, leaves_done, spelled_only, spelled_words}
use Rattle.network_expr.proofs.leaves.symbols.Goals as goal

pub leaves-preserved : goal.leaves-preserved
leaves-preserved c =
    leaf_done c.args.alphabet.now c.args.leaves.now c.leaves.leaf-index _ c.symbol_of.result c.leaves.letters.items c.push.new.self.items c.leaves-test.true c.symbol_of.ensures c.requires c.leaves.invariant c.in_ok-push.ensures.items

pub returns-clause-letters : goal.returns-clause-letters
returns-clause-letters c =
    let A = c.args.alphabet.now in
    let spell = leaves_done A c.args.leaves.now c.leaves.leaf-index c.leaves.letters.items c.leaves-test.false c.leaves.invariant in
    IfOk-weaker _ _ _ (λ m. spelled_only A c.args.leaves.now c.leaves.letters.items m spell) (rw c.deref.ensures.value at c.word.ensures.letters)

pub returns-clause-words : goal.returns-clause-words
returns-clause-words c =
    let A = c.args.alphabet.now in
    let spell = leaves_done A c.args.leaves.now c.leaves.leaf-index c.leaves.letters.items c.leaves-test.false c.leaves.invariant in
    IfOk-weaker _ _ _ (λ m. spelled_words A c.args.leaves.now c.leaves.letters.items m spell) (rw c.deref.ensures.value at c.word.ensures.language)
