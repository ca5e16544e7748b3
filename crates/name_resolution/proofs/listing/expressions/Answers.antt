use Rattle.std.proofs.Common.{◌++◌, ◌+◌, ◌∙◌, ap, arith, drop, map}
use Rattle.std.specs.List.{flat_map}
use Rattle.word_relations.proofs.Behind.{left_behind}
use Rattle.expr_leaves.proofs.Behind.{go_on}
use Rattle.name_resolution.specs.Symbols.{terms_behind}
use Rattle.name_resolution.specs.Plain.{form_of, lexicon_of}
use Rattle.project_meaning.specs.Leaves.{expressions_in, expressions_of}
use Rattle.project_meaning.specs.Trees.{lexc}
use Rattle.name_resolution.proofs.ResolvedLexicons.{one_lexicon}
use Rattle.name_resolution.proofs.listing.expressions.Goals as goal

pub lexicons-preserved : goal.lexicons-preserved
lexicons-preserved g c =
    let l = c.lexicon-item.result in
    let rest = drop (c.lexicons.lexicon-index + 1) c.args.lexicons.now in
    go_on (terms_behind c.lexicons.found.items) (terms_behind c.add_expressions.new.found.items) (flat_map expressions_in (map (λ e. form_of e.form) l.entries.items)) (expressions_of (lexc (map lexicon_of rest))) _ _
    (c.in_ok-add_expressions.ensures ∙ ap (λ z. terms_behind c.lexicons.found.items ++ flat_map expressions_in (map (λ e. form_of e.form) z)) c.deref.ensures.value)
    (ap (λ z. expressions_of (lexc (map lexicon_of z))) (left_behind c.args.lexicons.now c.lexicons.lexicon-index l (omega arith) c.lexicon-item.is) ∙ one_lexicon expressions_in l rest) c.lexicons.invariant
