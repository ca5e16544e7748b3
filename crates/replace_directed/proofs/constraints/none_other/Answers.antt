use Rattle.std.proofs.Common.{sym, subst}
use Rattle.std.specs.Prelude.{IfOk}
use Rattle.std.proofs.lemmas.Result.{IfOk-weaker}
use Rattle.word_relations.specs.Words.{IsOver}
use Rattle.fsa.specs.Complete.{Accepts}
use Rattle.lang_algebra.specs.Languages.{IsLang}
use Rattle.replace_directed.specs.Marked.{NoneOther}
use Rattle.replace_directed.proofs.Kept.{shorter_words}
use Rattle.replace_directed.proofs.constraints.none_other.Goals as goal

pub returns-in_ok-inside-in-Shortest : goal.returns-in_ok-inside-in-Shortest
returns-in_ok-inside-in-Shortest c =
    let left = c.args.left.now in
    let others = c.args.others.now in
    let right = c.args.right.now in
    subst (λ size. IfOk c.none_between-in-Shortest.result (IsLang left.letters (λ w. IsOver left.letters w × NoneOther size (Accepts left) (Accepts others) (Accepts right) w))) (sym c.in-Shortest.is)
    (IfOk-weaker _ _ _ (λ kept. shorter_words left others right c.in_ok-inside-in-Shortest.inside kept c.in_ok-inside-in-Shortest.ensures) c.none_between-in-Shortest.ensures)
