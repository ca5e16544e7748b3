use Rattle.std.proofs.Common.{None, Some, List, ℕ, ◌∙◌, refl, subst, sym, arith}
use Rattle.fsa_explore.specs.Targets.{AreWithin}
use Rattle.std.specs.List.{Contains}
use Rattle.fsa.specs.declared.automaton.Edge.{Edge}
use Rattle.lookup.specs.Walks.{AreFrom, LeadsOn}
use Rattle.lookup.specs.declared.walk.Byte.{Byte}
use Rattle.lookup.proofs.Least.{least_from}
use Rattle.lookup.proofs.Moves.{below_all, below_more, below_none, more_none, more_of, more_then}
use Rattle.lookup.proofs.walk.moves_from.Goals as goal

pub bytes-init : goal.bytes-init
bytes-init c = record {
  bound = refl;
  more = more_none c.args.sets.now;
  floor_within = omega arith;
  moves = rw c.new-moves.ensures.items (below_none c.args.rows.now c.args.sets.now c.args.front.now);
}

pub next_front-requires : goal.next_front-requires
next_front-requires c = record {
  within = subst (λ n. AreWithin c.args.rows.now n) (sym c.bytes.invariant.bound) c.requires;
  leaving = λ e h. ((c.in_ok-kept.ensures e).0 (subst (λ (es : List (Edge Byte)). Contains es e) c.as_slice-leaving.ensures.value h)).0;
}

pub bytes-smaller : goal.bytes-smaller
bytes-smaller c =
    let passes = c.in-Some.ensures.passes c.in-Some.byte refl in
    omega (arith, passes.0, c.above-floor.ensures.value, c.above-floor.ensures.within)

pub bytes-preserved : goal.bytes-preserved
bytes-preserved c =
    let inv = c.bytes.invariant in
    let rows = c.args.rows.now in
    let front = c.args.front.now in
    let old = c.bytes.sets in
    let new = c.number_of.new.self in
    let more = more_of old new c.deref.result.now c.in_ok-to.ensures.kept in
    let from = subst (λ (es : List (Edge Byte)). AreFrom rows front es) (sym c.as_slice-leaving.ensures.value) c.in_ok-kept.ensures in
    let least = least_from c.bytes.floor rows c.as_slice-leaving.result.now front (Some c.in-Some.byte) from c.in-Some.ensures in
    let on = subst (λ (f : List ℕ). LeadsOn rows front c.in-Some.byte f) (sym c.deref.ensures.value) (c.in_ok-next.ensures.front front from) in
    record {
      bound = c.in_ok-next.ensures.bound ∙ inv.bound;
      more = more_then c.args.sets.now old new inv.more more;
      floor_within = c.above-floor.ensures.within;
      moves = rw (c.in_ok-push.ensures.items, c.above-floor.ensures.value)
          (below_more rows old new front c.bytes.floor c.in-Some.byte c.in_ok-to.to c.deref.result.now c.bytes.moves.items more c.in_ok-to.ensures.number least on inv.moves);
    }

pub returns-clause-moves : goal.returns-clause-moves
returns-clause-moves c =
    let rows = c.args.rows.now in
    let front = c.args.front.now in
    let from = subst (λ (es : List (Edge Byte)). AreFrom rows front es) (sym c.as_slice-leaving.ensures.value) c.in_ok-kept.ensures in
    let least = least_from c.bytes.floor rows c.as_slice-leaving.result.now front None from c.in_default.ensures in
    below_all rows c.bytes.sets front c.bytes.floor c.bytes.moves.items least c.bytes.invariant.moves
