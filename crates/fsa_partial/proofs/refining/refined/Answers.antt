use Rattle.std.proofs.Common.{length, ap, ◌∙◌}
use Rattle.std.proofs.lemmas.List.{length-map}
use Rattle.fsa_partial.proofs.Apart.{split_apart, groups_below, ends_apart}
use Rattle.fsa_partial.proofs.refining.refined.Goals as goal

pub split-requires-clause-below : goal.split-requires-clause-below
split-requires-clause-below g c =
    groups_below c.args.m.now c.finals.ensures.formed c.args.groups.now c.requires (length c.deref-in-loop-pass.result.now) (ap length c.deref-in-loop-pass.ensures.value ∙ c.loop-pass.invariant.count)

pub loop-pass-init : goal.loop-pass-init
loop-pass-init g c =
    let e = rw c.finals.ensures.finals at c.in_ok-classes.ensures in
    record {
      count = ap length e ∙ length-map c.args.m.now.finals _;
      apart = λ ok live. ends_apart c.args.m.now ok c.in_ok-classes.classes.items e;
    }

pub loop-pass-preserved : goal.loop-pass-preserved
loop-pass-preserved g c = record {
  count = c.in_ok-next.ensures.count ∙ ap length c.deref-in-loop-pass.ensures.value ∙ c.loop-pass.invariant.count;
  apart = λ ok live.
      split_apart c.args.m.now c.finals.ensures.formed ok live c.args.groups.now c.requires c.loop-pass.classes.items c.loop-pass.classes.items c.in_ok-next.next.items
      (c.loop-pass.invariant.apart ok live) (c.loop-pass.invariant.apart ok live) (rw (c.deref-in-loop-pass.ensures.value, c.deref-in-loop-pass-2.ensures.value) at c.in_ok-next.ensures.split);
}

pub returns-then-is_last-clause-apart : goal.returns-then-is_last-clause-apart
returns-then-is_last-clause-apart g c = λ ok live.
    split_apart c.args.m.now c.finals.ensures.formed ok live c.args.groups.now c.requires c.loop-pass.classes.items c.loop-pass.classes.items c.in_ok-next.next.items
    (c.loop-pass.invariant.apart ok live) (c.loop-pass.invariant.apart ok live) (rw (c.deref-in-loop-pass.ensures.value, c.deref-in-loop-pass-2.ensures.value) at c.in_ok-next.ensures.split)
