use Rattle.pair_test.proofs.Endings.{before_made, behind_made}
use Rattle.pair_test.proofs.making.context_test.Goals as goal

pub ends_in-requires-clause-only : goal.ends_in-requires-clause-only
ends_in-requires-clause-only c = λ x used. c.requires.within.0 x (c.in_ok-left.ensures.letters x used)

pub ends_in-requires-2-clause-only : goal.ends_in-requires-2-clause-only
ends_in-requires-2-clause-only c = λ x used. c.requires.within.1 x (c.in_ok-right.ensures.letters x (c.in_ok-turned.ensures.letters x used))

pub returns : goal.returns
returns c =
    let letters = c.args.letters.now in
    let context = c.args.context.now in
    record {
      before_letters = c.in_ok-before.ensures.letters;
      behind_letters = c.in_ok-behind.ensures.letters;
      before = before_made letters context.left c.in_ok-left.left c.in_ok-left.ensures.language c.in_ok-before.before c.in_ok-before.ensures.words;
      behind = behind_made letters context.right c.in_ok-right.right c.in_ok-right.ensures.language c.in_ok-behind.behind c.in_ok-turned.turned c.in_ok-turned.ensures.language c.in_ok-behind.ensures.words;
    }
