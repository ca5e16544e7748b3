use Rattle.std.proofs.Common.{Vec, Global, ℕ, ◌↔◌, ◌++◌, ◌∷◌, ◌∙◌, IsTrue}
use Rattle.std.proofs.lemmas.Result.{IfOk-weaker}
use Rattle.fsm_base.specs.Alphabet.{spelled, symbols_of}
use Rattle.fsa.specs.Complete.{Accepts}
use Rattle.lang_equal.specs.Difference.{Differs, IsShortest}
use Rattle.reply_meaning.specs.Replies.{headed}
use Rattle.named_networks.specs.Comparisons.{word_told}
use Rattle.named_networks.proofs.Answered.{differs_over, told_differ, told_same}
use Rattle.named_networks.proofs.comparing.equality.Goals as goal

pub line_of-requires : goal.line_of-requires
line_of-requires c =
    let a = c.args.first.now in
    let b = c.args.second.now in
    let found : IsShortest (Differs (Accepts a) (Accepts b)) c.in-Differ.word.items × (IsTrue c.in-Differ.first ↔ Accepts a c.in-Differ.word.items) = rw c.in-Differ.is at c.in_ok-compare.ensures.differ in
    rw c.deref.ensures.value (differs_over (symbols_of c.args.alphabet.now) a b c.requires.first c.requires.second c.in-Differ.word.items found.0.inside)

pub returns-in-Same : goal.returns-in-Same
returns-in-Same c project one other p q =
    IfOk-weaker _ _ _
    (λ (bytes : Vec ℕ Global) is. told_same c.args.alphabet.now c.requires.formed project c.args.version one other (Accepts c.args.first.now) (Accepts c.args.second.now) p q bytes.items (c.in_ok-compare.ensures.same.0 c.in-Same.is) is)
    c.no_word.ensures

pub returns-in-Differ : goal.returns-in-Differ
returns-in-Differ c project one other p q =
    let alphabet = c.args.alphabet.now in
    let a = c.args.first.now in
    let b = c.args.second.now in
    let found : IsShortest (Differs (Accepts a) (Accepts b)) c.in-Differ.word.items × (IsTrue c.in-Differ.first ↔ Accepts a c.in-Differ.word.items) = rw c.in-Differ.is at c.in_ok-compare.ensures.differ in
    let head = c.differ_head.ensures in
    let word = c.deref.ensures.value in
    IfOk-weaker _ _ _
    (λ (bytes : Vec ℕ Global) is. told_differ alphabet c.requires.formed project c.args.version one other (Accepts a) (Accepts b) p q bytes.items c.in-Differ.first c.in-Differ.word.items found.0 found.1
    (is ∙ (λ i. headed c.args.version (head i ++ 32 ∷ word_told (spelled alphabet (word i))))))
    c.line_of.ensures
