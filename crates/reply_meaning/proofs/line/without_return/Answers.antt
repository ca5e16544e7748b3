use Rattle.std.proofs.Common.{ℕ, ◌++◌, ◌∷◌, [], sym, ap, ◌∙◌}
use Rattle.reply_meaning.specs.Replies.{without_last}
use Rattle.reply_meaning.proofs.Returns.{last_dropped, last_kept, not_same}
use Rattle.reply_meaning.proofs.line.without_return.Goals as goal

pub returns-then-last-eq13 : goal.returns-then-last-eq13
returns-then-last-eq13 c =
    let line = c.in-Some.ensures.cases.0 ∙ ap (λ (b : ℕ). c.in-Some.front.now ++ b ∷ []) c.if-last-eq13.true in
    sym (ap (without_last 13) line ∙ last_dropped 13 c.in-Some.front.now)

pub returns-else-last-eq13 : goal.returns-else-last-eq13
returns-else-last-eq13 c =
    let line = c.in-Some.ensures.cases.0 in
    line ∙ sym (ap (without_last 13) line ∙ last_kept 13 c.in-Some.front.now c.in-Some.last.now (not_same c.in-Some.last.now 13 c.if-last-eq13.false))
