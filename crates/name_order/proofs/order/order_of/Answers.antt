use Rattle.std.proofs.Common.{ℕ, Option, sym, subst, inl, inr, arith}
use Rattle.std.specs.List.{Contains}
use Rattle.std.specs.Option.{IfNone}
use Rattle.std.proofs.lemmas.Bool.{cases_eq}
use Rattle.name_order.specs.Graph.{graph_of}
use Rattle.name_order.specs.Visits.{Visited}
use Rattle.name_order.proofs.Ordering.{no_cycle, order_is}
use Rattle.name_order.proofs.References.{count_of}
use Rattle.name_order.proofs.order.order_of.Goals as goal

pub places-init : goal.places-init
places-init c = record {
  visits = c.in_ok-visits.ensures.visits (graph_of c.args.references.now) (count_of c.args.references.now);
  none_open = c.in_ok-visits.ensures.open;
  done = λ place before. absurd (omega (arith, before));
}

pub places-preserved : goal.places-preserved
places-preserved c =
    let graph = graph_of c.args.references.now in
    let old = c.places.visits in
    let new = c.visit.new.visits in
    let seen : Visited graph old new c.places.place = subst (λ (o : Option ℕ). IfNone o (Visited graph old new c.places.place)) c.in_default.is c.in_ok-met.ensures.done in
    record {
      visits = seen.visits;
      none_open = λ place h. c.places.invariant.none_open place ((seen.extends.open_alike place).1 h);
      done = λ place before. elim (cases_eq place c.places.place) as (λ _. Contains new.order.items place) [
        | inl same ↦ subst (λ (p : ℕ). Contains new.order.items p) (sym same) seen.done
        | inr apart ↦ seen.extends.more place (c.places.invariant.done place (omega (arith, before, apart)))
      ];
    }

pub returns : goal.returns
returns c =
    let graph = graph_of c.args.references.now in
    let size = count_of c.args.references.now in
    let order = order_is graph c.places.visits c.places.invariant.visits (λ place within. c.places.invariant.done place (omega (arith, within, size, c.places-test.false))) in
    (order, no_cycle graph c.places.visits.order.items order)
