use Rattle.std.proofs.Common.{◌≡◌, ◌+◌, ◌++◌, [], ◌∷◌, take, get_or, subst}
use Rattle.std.proofs.lemmas.List.{take_more, take_all}
use Rattle.replace_rules.specs.Alike.{IsFirstIn}
use Rattle.replace_rules.proofs.Told.{IsBuilt, built_none, built_more}
use Rattle.replace_rules.proofs.alike.firsts_in.Goals as goal

pub loop-class-init : goal.loop-class-init
loop-class-init c = built_none (IsFirstIn c.args.syms.now c.args.firsts.now) c.new-found.result.items c.new-found.ensures.items

pub first_in-requires-clause-class : goal.first_in-requires-clause-class
first_in-requires-clause-class c = c.requires.classes c.loop-class.class-index 0 c.loop-class-test.true

pub loop-class-preserved : goal.loop-class-preserved
loop-class-preserved c =
    let of_places = c.args.of_places.now in
    let i = c.loop-class.class-index in
    built_more (IsFirstIn c.args.syms.now c.args.firsts.now) (take (i + 1) of_places) (take i of_places) (get_or of_places i 0) _ c.loop-class.found.items c.first_in.result (take_more of_places i 0 c.loop-class-test.true) c.in_ok-push.ensures.items c.loop-class.invariant c.first_in.ensures

pub returns : goal.returns
returns c =
    let of_places = c.args.of_places.now in
    let R = IsFirstIn c.args.syms.now c.args.firsts.now in
    let all = subst (λ ps. IsBuilt R ps c.loop-class.found.items) (take_all c.loop-class.class-index of_places c.loop-class-test.false) c.loop-class.invariant in
    record { count = all.0; each = all.1 }
