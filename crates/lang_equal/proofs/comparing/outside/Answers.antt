use Rattle.std.proofs.Common.{◌≡◌, ◌↔◌, List, None, IfSome}
use Rattle.std.proofs.lemmas.Result.{IfOk-weaker}
use Rattle.fsa.specs.Complete.{Accepts}
use Rattle.fsm_base.specs.declared.letters.Sym.{Sym}
use Rattle.lang_equal.specs.Difference.{IsOutside, IsShortest, IsSought}
use Rattle.lang_equal.specs.declared.sought.Sought.TheVariants.{Outside}
use Rattle.lang_equal.proofs.Pairs.{shortest_alike, sought_alike}
use Rattle.lang_equal.proofs.comparing.outside.Goals as goal

pub returns-clause-none : goal.returns-clause-none
returns-clause-none c =
    let first = c.in_ok-first.first in
    let second = c.in_ok-second.second in
    let a = c.args.a.now in
    let b = c.args.b.now in
    let same = sought_alike Outside (Accepts first) (Accepts a) (Accepts second) (Accepts b) c.in_ok-first.ensures.language c.in_ok-second.ensures.language in
    IfOk-weaker c.shortest.result (λ found. found ≡ None ↔ ((w : List Sym) → ¬ IsSought Outside (Accepts first) (Accepts second) w)) (λ found. found ≡ None ↔ ((w : List Sym) → ¬ IsOutside (Accepts a) (Accepts b) w))
    (λ found both. (λ none w h. both.0 none w ((same w).1 h), λ never. both.1 (λ w h. never w ((same w).0 h))))
    c.shortest.ensures.none

pub returns-clause-shortest : goal.returns-clause-shortest
returns-clause-shortest c =
    let first = c.in_ok-first.first in
    let second = c.in_ok-second.second in
    let a = c.args.a.now in
    let b = c.args.b.now in
    let same = sought_alike Outside (Accepts first) (Accepts a) (Accepts second) (Accepts b) c.in_ok-first.ensures.language c.in_ok-second.ensures.language in
    IfOk-weaker c.shortest.result (λ found. IfSome found (λ word. IsShortest (IsSought Outside (Accepts first) (Accepts second)) word.items)) (λ found. IfSome found (λ word. IsShortest (IsOutside (Accepts a) (Accepts b)) word.items))
    (λ found. shortest_alike (λ word. word.items) (IsSought Outside (Accepts first) (Accepts second)) (IsOutside (Accepts a) (Accepts b)) same found)
    c.shortest.ensures.shortest
