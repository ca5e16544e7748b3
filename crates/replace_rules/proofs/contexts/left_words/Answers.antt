use Rattle.std.proofs.Common.{◌∙◌}
use Rattle.std.proofs.lemmas.Result.{IfOk-weaker}
use Rattle.replace_words.specs.Marked.{side_of, on_left}
use Rattle.replace_rules.proofs.Sets.{suffix_words}
use Rattle.replace_rules.proofs.contexts.left_words.Goals as goal

pub returns : goal.returns
returns c =
    let rows = c.deref.ensures.value ∙ c.in_ok-rows.ensures in
    IfOk-weaker _ _ _ (λ lang is. suffix_words (side_of (on_left c.args.side)) c.args.marks.now c.args.context.now c.in_ok-words.words c.in_ok-ends.ends c.in_ok-any.any c.in_ok-whole.whole
    c.in_ok-words.ensures.language (rw rows at c.in_ok-ends.ensures.language) c.in_ok-any.ensures lang is c.in_ok-whole.ensures.language) c.over.ensures
