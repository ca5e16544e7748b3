use Rattle.std.proofs.Common.{map, sym, ap, ◌∙◌}
use Rattle.std.proofs.lemmas.Result.{on_ok_weaker}
use Rattle.std.specs.List.{flat_map}
use Rattle.regex_ast.specs.declared.expr.Raw.{Raw}
use Rattle.expr_leaves.specs.Leaves.{seen}
use Rattle.name_resolution.specs.Plain.{lexicon_of}
use Rattle.grammar_pairs.specs.Plain.{grammar_of}
use Rattle.project_meaning.specs.Leaves.{forms_in, resolved, symbol_in, symbol_of, symbols_in}
use Rattle.project_definitions.specs.Plain.{body_of}
use Rattle.project_definitions.specs.declared.definition.Body.{Body}
use Rattle.project_model.specs.Gathered.{gathered}
use Rattle.name_resolution.specs.Symbols.{symbols_at}
use Rattle.project_model.proofs.symbols.add_body.Goals as goal

pub returns-in-Lexc : goal.returns-in-Lexc
returns-in-Lexc c =
    let lexicons = map lexicon_of c.in-Lexc.lexicons.items in
    on_ok_weaker c.add_lexicons.result
    (λ same.
    same
    ∙ ap (gathered c.args.table.now)
    (ap (λ z. flat_map (symbols_at c.args.names.now) (forms_in (map lexicon_of z))) c.deref.ensures.value ∙ sym (c.symbols_are_of_forms.ensures c.args.names.now lexicons)
    ∙ ap (λ (b : Body Raw). symbols_in (resolved c.args.names.now (body_of b))) (sym c.in-Lexc.is)))
    c.add_lexicons.ensures

pub returns-in_ok-add_letters-in-Twolc : goal.returns-in_ok-add_letters-in-Twolc
returns-in_ok-add_letters-in-Twolc c =
    let of = λ (leaf : Raw). symbol_in (symbol_of leaf) in
    c.in_ok-add_letters-in-Twolc.ensures
    ∙ ap (gathered c.args.table.now)
    (ap (λ z. flat_map of (seen z)) c.deref-in-Twolc.ensures.value ∙ ap (flat_map of) c.in_ok-grammar_leaves-in-Twolc.ensures ∙ sym (c.symbols_are_of_leaves.ensures (grammar_of c.in-Twolc.grammar))
    ∙ ap (λ (b : Body Raw). symbols_in (resolved c.args.names.now (body_of b))) (sym c.in-Twolc.is))
