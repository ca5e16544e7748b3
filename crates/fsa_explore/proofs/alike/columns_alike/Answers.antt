use Rattle.std.proofs.Common.{◌≡◌, ◌<◌, length, get_or, ap, subst, ◌∙◌}
use Rattle.std.proofs.lemmas.Result.{IfOk-weaker}
use Rattle.fsa_explore.specs.Alike.{AreAlike, AreBothAlike, IsCounting, LeadAlike}
use Rattle.fsa_explore.proofs.Grouping.{classes_within, firsts_alike, apart_alike}
use Rattle.fsa_explore.proofs.alike.columns_alike.Goals as goal

pub lead_as_firsts-requires : goal.lead_as_firsts-requires
lead_as_firsts-requires g c =
    let of_places = c.in_ok-classes.classes.of_places.items in
    let firsts = c.in_ok-classes.classes.firsts.items in
    let alike = c.in_ok-classes.ensures in
    let letters : length c.deref.result.now ≡ length c.args.a.now.letters = ap length c.deref.ensures.value ∙ c.in_ok-numbers.ensures in
    record {
      count = ap length c.deref-then-are_some_alike.ensures.value ∙ alike.count ∙ letters;
      classes = rw (c.deref-then-are_some_alike.ensures.value, c.deref-then-are_some_alike-2.ensures.value) (classes_within (AreBothAlike c.deref.result.now c.deref-2.result.now) (length c.deref.result.now) of_places firsts alike);
      places = rw c.deref-then-are_some_alike-2.ensures.value (λ k d l. subst (λ n. get_or firsts k d < n) letters (alike.within k d l));
    }

pub returns-then-lead_as_firsts : goal.returns-then-lead_as_firsts
returns-then-lead_as_firsts g c =
    let both = AreBothAlike c.deref.result.now c.deref-2.result.now in
    let of_places = c.in_ok-classes.classes.of_places.items in
    let firsts = c.in_ok-classes.classes.firsts.items in
    let letters : length c.deref.result.now ≡ length c.args.a.now.letters = ap length c.deref.ensures.value ∙ c.in_ok-numbers.ensures in
    firsts_alike c.args.a.now both (length c.args.a.now.letters) of_places firsts (subst (λ n. AreAlike both n of_places firsts) letters c.in_ok-classes.ensures)
    (rw (c.deref-then-are_some_alike.ensures.value, c.deref-then-are_some_alike-2.ensures.value) at (c.lead_as_firsts.ensures c.if-lead_as_firsts.true))

pub returns : goal.returns
returns g c =
    let a = c.args.a.now in
    let count = length c.letters.result.now in
    IfOk-weaker c.all_apart.result (λ classes. IsCounting count classes.of_places.items × IsCounting count classes.firsts.items)
    (λ classes. AreAlike (LeadAlike a) (length a.letters) classes.of_places.items classes.firsts.items)
    (λ classes r. subst (λ n. AreAlike (LeadAlike a) n classes.of_places.items classes.firsts.items) (ap length c.letters.ensures.letters)
    (apart_alike a count classes.of_places.items classes.firsts.items r.0 r.1)) c.all_apart.ensures
