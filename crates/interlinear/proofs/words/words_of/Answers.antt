use Rattle.std.proofs.Common.{rules, ap, ◌∙◌}
use Rattle.std.proofs.lemmas.Fn.{filter_same}
use Rattle.std.specs.List.{filter}
use Rattle.interlinear.specs.Words.{is_some}
use Rattle.interlinear.proofs.words.words_of.Goals as goal

pub returns : goal.returns
returns c =
    filter_same _ is_some _ (λ word kept after called. search rules) _ _ c.retain.ensures.filtered
    ∙ ap (filter is_some) c.in_ok-words.ensures
