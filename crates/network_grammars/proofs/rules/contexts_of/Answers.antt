use Rattle.std.proofs.Common.{◌+◌, List, arith, subst, sym, take}
use Rattle.std.proofs.lemmas.List.{take_all}
use Rattle.regex_ast.specs.declared.expr.Atom.{Atom}
use Rattle.regex_ast.specs.declared.expr.Context.{Context}
use Rattle.regex_ast.specs.declared.twolc.PairPart.{PairPart}
use Rattle.two_level.specs.declared.rule.PairContext.{PairContext}
use Rattle.network_grammars.specs.Rules.{IsContextOf, Pairwise}
use Rattle.network_grammars.proofs.Rows.{context_forms, pairs_more}
use Rattle.network_grammars.proofs.rules.contexts_of.Goals as goal

pub language_of-requires-clause-form : goal.language_of-requires-clause-form
language_of-requires-clause-form c = (context_forms c.args.contexts.now c.requires.forms c.contexts.context-index c.context-item.result (omega arith) c.context-item.is).0

pub language_of-requires-in-contexts-clause-form : goal.language_of-requires-in-contexts-clause-form
language_of-requires-in-contexts-clause-form c = (context_forms c.args.contexts.now c.requires.forms c.contexts.context-index c.context-item.result (omega arith) c.context-item.is).1

pub contexts-preserved : goal.contexts-preserved
contexts-preserved c =
    let i = c.contexts.context-index in
    subst (λ (z : List PairContext). Pairwise (IsContextOf c.args.scope.now) (take (i + 1) c.args.contexts.now) z) (sym c.in_ok-push.ensures.items)
    (pairs_more (IsContextOf c.args.scope.now) c.args.contexts.now i c.context-item.result c.contexts.built.items (record { left = c.in_ok-language_of.field-0; right = c.in_ok-language_of-2.field-0 }) (omega arith) c.context-item.is c.contexts.invariant
    (record { left = c.in_ok-language_of.ensures; right = c.in_ok-language_of-2.ensures }))

pub returns : goal.returns
returns c = subst (λ (z : List (Context (PairPart Atom))). Pairwise (IsContextOf c.args.scope.now) z c.contexts.built.items) (take_all c.contexts.context-index c.args.contexts.now (omega arith)) c.contexts.invariant
