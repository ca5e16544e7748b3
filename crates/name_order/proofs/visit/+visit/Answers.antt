use Rattle.std.proofs.Common.{◌≡◌, ◌<◌, ℕ, List, Option, Some, length, get_or, refl, sym, ap, subst, ◌∙◌, arith}
use Rattle.std.specs.List.{Contains, slice_get}
use Rattle.std.specs.Option.{IfNone}
use Rattle.std.specs.Vec.{with_item}
use Rattle.std.proofs.lemmas.List.Elements.{All-nil, Contains-get_or}
use Rattle.std.proofs.lemmas.Option.{slice_get_read}
use Rattle.name_order.specs.Graph.{graph_of, Refers}
use Rattle.name_order.specs.Visits.{Visited}
use Rattle.name_order.specs.declared.visit.Mark.TheVariants.{New, Open}
use Rattle.name_order.specs.declared.visit.Visits.{Visits}
use Rattle.name_order.proofs.References.{count_of, refers_from, refers_to}
use Rattle.name_order.proofs.Visiting.{below_all, below_more, extends_none, extends_on, fewer_new, open_reach, opened_visits, visited_after}
use Rattle.name_order.proofs.visit.+visit.Goals as goal

pub below-init : goal.below-init
below-init t c =
    let old = c.args.visits.now in
    let within : c.args.place < length old.marks.items = omega (arith, c.requires.within, c.requires.visits.marks, count_of c.args.references.now) in
    let new_there : slice_get old.marks.items c.args.place ≡ Some New = slice_get_read _ _ c.args.place c.index.result.now refl within c.index.ensures ∙ ap Some c.in-New.is in
    record {
      visits = opened_visits (graph_of c.args.references.now) old _ c.args.place c.requires.visits new_there refl refl;
      extends = extends_none _;
      done = All-nil (Contains old.order.items);
    }

pub visit-requires : goal.visit-requires
visit-requires t c =
    let graph = graph_of c.args.references.now in
    let old = c.args.visits.now in
    let opened : Visits = record { marks = with_item old.marks c.args.place Open; order = old.order } in
    let within : c.args.place < length old.marks.items = omega (arith, c.requires.within, c.requires.visits.marks, count_of c.args.references.now) in
    let new_there : slice_get old.marks.items c.args.place ≡ Some New = slice_get_read _ _ c.args.place c.index.result.now refl within c.index.ensures ∙ ap Some c.in-New.is in
    let list = c.index-references-place.result in
    let items = c.deref-below-items.result.now in
    let next = get_or items c.below.below-index 0 in
    let among : Contains list.items next = subst (λ (xs : List ℕ). Contains xs next) c.deref-below-items.ensures.value (Contains-get_or items c.below.below-index 0 c.below-test.true) in
    let refers : Refers graph c.args.place next = refers_from c.args.references.now c.args.place list c.requires.within c.index-references-place.is next among in
    let below : next < length graph = c.requires.whole c.args.place next refers in
    let less = fewer_new graph old opened c.args.place c.requires.visits new_there refl refl in
    let few = c.below.invariant.extends.fewer in (
      omega (arith, c.decreases, less, few),
      (
        c.requires.whole,
        (
          omega (arith, below, count_of c.args.references.now),
          (
            c.below.invariant.visits,
            open_reach graph old opened c.args.place c.requires.visits new_there refl refl next refers c.requires.open c.below.visits c.below.invariant.extends,
          ),
        ),
      ),
    )

pub below-preserved : goal.below-preserved
below-preserved t c =
    let graph = graph_of c.args.references.now in
    let items = c.deref-below-items.result.now in
    let next = get_or items c.below.below-index 0 in
    let seen : Visited graph c.below.visits c.visit.new.visits next =
    subst (λ (o : Option ℕ). IfNone o (Visited graph c.below.visits c.visit.new.visits next)) c.in_default.is c.in_ok-met.ensures.done in
    record {
      visits = seen.visits;
      extends = extends_on _ _ _ c.below.invariant.extends seen.extends;
      done = below_more items c.below.below-index c.below.visits c.visit.new.visits c.below-test.true c.below.invariant.done seen.extends seen.done;
    }

pub returns-clause-done : goal.returns-clause-done
returns-clause-done t c =
    let graph = graph_of c.args.references.now in
    let old = c.args.visits.now in
    let opened : Visits = record { marks = with_item old.marks c.args.place Open; order = old.order } in
    let within : c.args.place < length old.marks.items = omega (arith, c.requires.within, c.requires.visits.marks, count_of c.args.references.now) in
    let new_there : slice_get old.marks.items c.args.place ≡ Some New = slice_get_read _ _ c.args.place c.index.result.now refl within c.index.ensures ∙ ap Some c.in-New.is in
    let list = c.index-references-place.result in
    let items = c.deref-below-items.result.now in
    visited_after graph old opened c.args.place c.requires.visits new_there refl refl c.below.visits _ c.below.invariant.visits c.below.invariant.extends
    (λ other r. below_all items c.below.below-index c.below.visits c.below-test.false c.below.invariant.done other
    (subst (λ (xs : List ℕ). Contains xs other) (sym c.deref-below-items.ensures.value) (refers_to c.args.references.now c.args.place list c.requires.within c.index-references-place.is other r)))
    refl c.in_ok-push.ensures.items
