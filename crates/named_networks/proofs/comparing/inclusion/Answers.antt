use Rattle.std.proofs.Common.{Vec, Global, ℕ, ◌++◌, ◌∷◌, ◌∙◌, codes}
use Rattle.std.proofs.lemmas.Result.{IfOk-weaker}
use Rattle.fsm_base.specs.Alphabet.{spelled, symbols_of}
use Rattle.fsa.specs.Complete.{Accepts}
use Rattle.lang_equal.specs.Difference.{IsOutside, IsShortest}
use Rattle.reply_meaning.specs.Replies.{headed}
use Rattle.named_networks.specs.Comparisons.{word_told}
use Rattle.named_networks.proofs.Answered.{outside_over, told_outside, told_within}
use Rattle.named_networks.proofs.comparing.inclusion.Goals as goal

pub line_of-requires : goal.line_of-requires
line_of-requires c =
    let a = c.args.first.now in
    let b = c.args.second.now in
    let found : IsShortest (IsOutside (Accepts a) (Accepts b)) c.in-Some.word.items = rw c.in-Some.is at c.in_ok-outside.ensures.shortest in
    rw c.deref.ensures.value (outside_over (symbols_of c.args.alphabet.now) a b c.requires.first c.in-Some.word.items found.inside)

pub returns-in-None : goal.returns-in-None
returns-in-None c project one other p q =
    IfOk-weaker _ _ _
    (λ (bytes : Vec ℕ Global) is. told_within c.args.alphabet.now c.requires.formed project c.args.version one other (Accepts c.args.first.now) (Accepts c.args.second.now) p q bytes.items (c.in_ok-outside.ensures.none.0 c.in-None.is) is)
    c.no_word.ensures

pub returns-in-Some : goal.returns-in-Some
returns-in-Some c project one other p q =
    let alphabet = c.args.alphabet.now in
    let a = c.args.first.now in
    let b = c.args.second.now in
    let found : IsShortest (IsOutside (Accepts a) (Accepts b)) c.in-Some.word.items = rw c.in-Some.is at c.in_ok-outside.ensures.shortest in
    let word = c.deref.ensures.value in
    IfOk-weaker _ _ _
    (λ (bytes : Vec ℕ Global) is. told_outside alphabet c.requires.formed project c.args.version one other (Accepts a) (Accepts b) p q bytes.items c.in-Some.word.items found
    (is ∙ (λ i. headed c.args.version (codes "outside" ++ 32 ∷ word_told (spelled alphabet (word i))))))
    c.line_of.ensures
