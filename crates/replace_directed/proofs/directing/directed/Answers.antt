use Rattle.std.proofs.Common.{subst, sym}
use Rattle.std.specs.Prelude.{IfOk}
use Rattle.word_relations.specs.Relations.{AreSame}
use Rattle.fst_algebra.specs.Relation.{IsRelated}
use Rattle.expr_meaning.specs.Directed.{IsDirectedBy}
use Rattle.replace_directed.specs.Directed.{IsMatch, ReplacesIn}
use Rattle.replace_directed.proofs.directing.directed.Goals as goal

pub returns-in-LeftLongest-clause-relation : goal.returns-in-LeftLongest-clause-relation
returns-in-LeftLongest-clause-relation c =
    subst (λ way. IfOk c.directed_from_left.result (λ m. AreSame (IsRelated m) (IsDirectedBy (IsMatch c.args.maps.now c.args.contexts.now) c.args.syms.now (ReplacesIn c.args.maps.now c.args.contexts.now) way))) (sym c.in-LeftLongest.is) c.directed_from_left.ensures.relation

pub returns-in-LeftShortest-clause-relation : goal.returns-in-LeftShortest-clause-relation
returns-in-LeftShortest-clause-relation c =
    subst (λ way. IfOk c.directed_from_left-in-LeftShortest.result (λ m. AreSame (IsRelated m) (IsDirectedBy (IsMatch c.args.maps.now c.args.contexts.now) c.args.syms.now (ReplacesIn c.args.maps.now c.args.contexts.now) way))) (sym c.in-LeftShortest.is) c.directed_from_left-in-LeftShortest.ensures.relation

pub returns-in-RightLongest-clause-relation : goal.returns-in-RightLongest-clause-relation
returns-in-RightLongest-clause-relation c =
    subst (λ way. IfOk c.directed_from_right.result (λ m. AreSame (IsRelated m) (IsDirectedBy (IsMatch c.args.maps.now c.args.contexts.now) c.args.syms.now (ReplacesIn c.args.maps.now c.args.contexts.now) way))) (sym c.in-RightLongest.is) c.directed_from_right.ensures.relation

pub returns-in-RightShortest-clause-relation : goal.returns-in-RightShortest-clause-relation
returns-in-RightShortest-clause-relation c =
    subst (λ way. IfOk c.directed_from_right-in-RightShortest.result (λ m. AreSame (IsRelated m) (IsDirectedBy (IsMatch c.args.maps.now c.args.contexts.now) c.args.syms.now (ReplacesIn c.args.maps.now c.args.contexts.now) way))) (sym c.in-RightShortest.is) c.directed_from_right-in-RightShortest.ensures.relation
