use Rattle.std.proofs.Common.{◌≡◌, [], ◌∷◌, ◌∙◌, ap, ◌++◌}
use Rattle.std.proofs.lemmas.Result.{IfOk-weaker}
use Rattle.word_relations.specs.Relations.{AreSame}
use Rattle.word_relations.proofs.Pairs.{same_trans}
use Rattle.fst_algebra.specs.Relation.{IsRelated}
use Rattle.replace_words.specs.Places.{ReplacesAt}
use Rattle.expr_meaning.specs.Directed.{IsDirectedBy}
use Rattle.directed_words.specs.Laws.{MatchesAt, from_left}
use Rattle.replace_directed.specs.Directed.{IsMatch, ReplacesIn}
use Rattle.replace_directed.specs.Marked.{directing}
use Rattle.replace_directed.proofs.Relations.{by_contexts, by_everywhere, no_contexts, some_contexts}
use Rattle.replace_directed.proofs.directing.directed_from_left.Goals as goal

pub returns-then-is_empty-clause-relation : goal.returns-then-is_empty-clause-relation
returns-then-is_empty-clause-relation c =
    let syms = c.args.syms.now in
    let maps = c.args.maps.now in
    let contexts = c.args.contexts.now in
    let places = c.deref.result.now in
    let way = from_left c.args.size in
    let anywhere = c.in_ok-anywhere.field-0 in
    let one : places ≡ anywhere ∷ [] = c.deref.ensures.value ∙ c.in_ok-push.ensures.items ∙ ap (λ cs. cs ++ anywhere ∷ []) c.new-everywhere.ensures.items in
    let none : contexts ≡ [] = no_contexts contexts c.is_empty.result c.is_empty.ensures c.if-is_empty.true in
    let At = IsDirectedBy (MatchesAt (directing maps) places) syms (ReplacesAt (directing maps) places) way in
    let In = IsDirectedBy (IsMatch maps contexts) syms (ReplacesIn maps contexts) way in
    IfOk-weaker c.directed_at.result (λ m. AreSame (IsRelated m) At) (λ m. AreSame (IsRelated m) In)
    (λ m is. same_trans (IsRelated m) At In is (by_everywhere syms maps contexts places anywhere none one c.in_ok-anywhere.ensures way)) c.directed_at.ensures.relation

pub returns-clause-relation : goal.returns-clause-relation
returns-clause-relation c =
    let syms = c.args.syms.now in
    let maps = c.args.maps.now in
    let contexts = c.args.contexts.now in
    let way = from_left c.args.size in
    let At = IsDirectedBy (MatchesAt (directing maps) contexts) syms (ReplacesAt (directing maps) contexts) way in
    let In = IsDirectedBy (IsMatch maps contexts) syms (ReplacesIn maps contexts) way in
    IfOk-weaker c.directed_at-2.result (λ m. AreSame (IsRelated m) At) (λ m. AreSame (IsRelated m) In)
    (λ m is. same_trans (IsRelated m) At In is (by_contexts syms maps contexts (some_contexts contexts c.is_empty.result c.is_empty.ensures c.if-is_empty.false) way)) c.directed_at-2.ensures.relation
