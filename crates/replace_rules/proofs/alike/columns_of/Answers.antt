use Rattle.std.proofs.Common.{◌≡◌, ◌+◌, ◌++◌, [], ◌∷◌, take, ap, sym, subst, ◌∙◌}
use Rattle.std.proofs.lemmas.List.{take_more, take_all}
use Rattle.replace_rules.specs.Alike.{IsColumn}
use Rattle.replace_rules.proofs.Told.{IsBuilt, built_none, built_more}
use Rattle.replace_rules.proofs.alike.columns_of.Goals as goal

pub loop-letter-init : goal.loop-letter-init
loop-letter-init g c = built_none (IsColumn c.args.own.now c.args.of_places.now c.args.none) c.new-columns.result.items c.new-columns.ensures.items

pub loop-letter-preserved : goal.loop-letter-preserved
loop-letter-preserved g c =
    let letters = c.args.letters.now in
    let i = c.loop-letter.letter-index in
    let x = c.letter-item.result in
    let front : take (i + 1) letters ≡ take i letters ++ x ∷ [] = take_more letters i x c.loop-letter-test.true ∙ ap (λ z. take i letters ++ z ∷ []) (sym c.letter-item.is) in
    built_more (IsColumn c.args.own.now c.args.of_places.now c.args.none) (take (i + 1) letters) (take i letters) x _ c.loop-letter.columns.items c.column_of.result front c.in_ok-push.ensures.items c.loop-letter.invariant c.column_of.ensures

pub returns : goal.returns
returns g c =
    let letters = c.args.letters.now in
    let columns = c.loop-letter.columns.items in
    let R = IsColumn c.args.own.now c.args.of_places.now c.args.none in
    let all = subst (λ ls. IsBuilt R ls columns) (take_all c.loop-letter.letter-index letters c.loop-letter-test.false) c.loop-letter.invariant in
    record { count = all.0; each = all.1 }
