use Rattle.std.proofs.Common.{◌≡◌, [], ◌∷◌, ◌∙◌, ap, ◌++◌}
use Rattle.std.proofs.lemmas.Result.{IfOk-weaker}
use Rattle.word_relations.specs.Relations.{AreSame}
use Rattle.word_relations.proofs.Pairs.{same_trans}
use Rattle.fst_algebra.specs.Relation.{IsRelated}
use Rattle.expr_meaning.specs.Replacement.{IsRewritten}
use Rattle.replace_words.specs.Places.{IsRewrittenAt}
use Rattle.replace_insertions.specs.Insertions.{AsksBy, InsertsBy}
use Rattle.replace_insertions.specs.Marked.{inserting}
use Rattle.replace_insertions.proofs.Insertions.{by_contexts, by_everywhere, no_contexts, some_contexts}
use Rattle.replace_insertions.proofs.inserting.insert.Goals as goal

pub returns-then-is_empty-clause-relation : goal.returns-then-is_empty-clause-relation
returns-then-is_empty-clause-relation c =
    let syms = c.args.syms.now in
    let put = c.args.put.now in
    let side = c.args.side in
    let contexts = c.args.contexts.now in
    let places = c.deref.result.now in
    let optional = c.args.optional in
    let anywhere = c.in_ok-anywhere.field-0 in
    let one : places ≡ anywhere ∷ [] = c.deref.ensures.value ∙ c.in_ok-push.ensures.items ∙ ap (λ cs. cs ++ anywhere ∷ []) c.new-everywhere.ensures.items in
    let none : contexts ≡ [] = no_contexts contexts c.is_empty.result c.is_empty.ensures c.if-is_empty.true in
    IfOk-weaker c.inserted.result (λ m. AreSame (IsRelated m) (IsRewrittenAt (inserting put side) places syms optional)) (λ m. AreSame (IsRelated m) (IsRewritten syms (InsertsBy put side contexts) (AsksBy side contexts) optional))
    (λ m is. same_trans (IsRelated m) (IsRewrittenAt (inserting put side) places syms optional) (IsRewritten syms (InsertsBy put side contexts) (AsksBy side contexts) optional) is
    (by_everywhere syms put side contexts places anywhere none one c.in_ok-anywhere.ensures optional)) c.inserted.ensures.relation

pub returns-clause-relation : goal.returns-clause-relation
returns-clause-relation c =
    let syms = c.args.syms.now in
    let put = c.args.put.now in
    let side = c.args.side in
    let contexts = c.args.contexts.now in
    let optional = c.args.optional in
    IfOk-weaker c.inserted-2.result (λ m. AreSame (IsRelated m) (IsRewrittenAt (inserting put side) contexts syms optional)) (λ m. AreSame (IsRelated m) (IsRewritten syms (InsertsBy put side contexts) (AsksBy side contexts) optional))
    (λ m is. same_trans (IsRelated m) (IsRewrittenAt (inserting put side) contexts syms optional) (IsRewritten syms (InsertsBy put side contexts) (AsksBy side contexts) optional) is
    (by_contexts syms put side contexts (some_contexts contexts c.is_empty.result c.is_empty.ensures c.if-is_empty.false) optional)) c.inserted-2.ensures.relation
