use Rattle.std.proofs.Common.{◌↔◌, IsTrue, sym, ◌∙◌, true≢false}
use Rattle.project_meaning.specs.Touched.{AreSameSymbols}
use Rattle.touched_names.proofs.Numbers.{same_texts}
use Rattle.touched_names.proofs.changes.same_symbols.Goals as goal
use Rattle.touched_names.proofs.changes.same_symbols.Goals.{then-are_below, else-are_below}

pub returns : goal.returns
returns c = λ old_distinct new_distinct.
    let olds = c.args.old.now in
    let news = c.args.new.now in
    let first = rw (c.deref.ensures.value, c.in_ok-among_old.ensures.places old_distinct) at c.are_below.ensures in
    elim c.if-are_below.branch as (λ _. IsTrue c.if-are_below.result ↔ AreSameSymbols olds news) [
      | then-are_below w ↦
          let second = rw (w.deref-then-are_below.ensures.value, c.in_ok-among_new.ensures.places new_distinct) at w.are_below-then-are_below.ensures in (
            λ yes. (same_texts olds news).0 (first.0 w.if-are_below.true, second.0 (sym w.result-is ∙ yes)),
            λ same. w.result-is ∙ second.1 ((same_texts olds news).1 same).1,
          )
      | else-are_below w ↦ (
        λ yes. absurd (true≢false (sym yes ∙ w.result-is ∙ w.if-are_below.false)),
        λ same. absurd (true≢false (sym (first.1 ((same_texts olds news).1 same).0) ∙ w.if-are_below.false)),
      )
    ]
