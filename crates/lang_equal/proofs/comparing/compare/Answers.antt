use Rattle.std.proofs.Common.{◌∙◌, sym}
use Rattle.fsa.specs.Complete.{Accepts}
use Rattle.lang_equal.specs.Difference.{IsShortest, IsSought}
use Rattle.lang_equal.specs.declared.sought.Sought.TheVariants.{Differing}
use Rattle.lang_equal.proofs.Pairs.{sought_over}
use Rattle.lang_equal.proofs.comparing.compare.Goals as goal

pub accepts-requires : goal.accepts-requires
accepts-requires c =
    let first = c.in_ok-first.first in
    let second = c.in_ok-second.second in
    let found : IsShortest (IsSought Differing (Accepts first) (Accepts second)) c.in-Some.word.items = rw c.in-Some.is at c.in_ok-word.ensures.shortest in
    rw c.deref.ensures.value (sought_over Differing c.args.a.now.letters first second c.in_ok-first.ensures.letters (c.in_ok-second.ensures.letters ∙ sym c.requires) c.in-Some.word.items found.inside)
