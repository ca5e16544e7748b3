use Rattle.std.proofs.Common.{◌≡◌, subst, arith}
use Rattle.fsa_explore.specs.Alike.{AreAlike, GoAlike}
use Rattle.fsa_explore.proofs.Grouping.{HasSignature, grouped_none, grouped_more, grouped_alike, signatures_alike}
use Rattle.fsa_explore.proofs.alike.rows_alike.Goals as goal

pub loop-place-init : goal.loop-place-init
loop-place-init c = grouped_none (HasSignature c.args.rows.now) c.none-found.result c.new-firsts.result.items c.none-found.ensures c.new-firsts.ensures.items

pub loop-place-preserved : goal.loop-place-preserved
loop-place-preserved c =
    let rows = c.args.rows.now in
    let signature = c.in_ok-signature.signature.items in
    grouped_more (HasSignature rows) c.loop-place.place c.loop-place.found c.add_letter.new.found c.loop-place.firsts.items c.add_letter.new.firsts.items signature
    (c.out.result.now, c.out.ensures, c.in_ok-signature.ensures) (rw c.deref.ensures.value at c.in_ok-add_letter.ensures) c.loop-place.invariant

pub returns : goal.returns
returns c =
    let rows = c.args.rows.now in
    let alike = grouped_alike (HasSignature rows) (GoAlike rows) (signatures_alike rows) c.loop-place.place c.loop-place.found c.loop-place.firsts.items c.loop-place.invariant in
    let past = c.loop-place-test.false in
    let below = c.loop-place.auto.place-end in
    let all : c.loop-place.place ≡ c.args.bound = omega arith in
    rw c.into_numbers.ensures (subst (λ n. AreAlike (GoAlike rows) n c.loop-place.found.next c.loop-place.firsts.items) all alike)
