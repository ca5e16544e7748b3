use Rattle.std.proofs.Common.{◌≡◌, List, length, take, Some, None, min, rules, arith, sym, ap, subst, ◌∙◌}
use Rattle.interlinear.specs.Glosses.{Entry, gloss_of}
use Rattle.interlinear.specs.Tables.{AreWithin}
use Rattle.interlinear.proofs.Keys.{lookup-kept, none_longer_first, none_longer_next, longest_here, none_left}
use Rattle.interlinear.proofs.table.GlossTable.longest_front.Goals as goal

pub lengths-init : goal.lengths-init
lengths-init c =
    let within = subst (AreWithin c.self.inside.longest) c.self.view_is c.self.invariant in
    let is : c.min-length.result ≡ min c.self.inside.longest (length c.args.text.now) = search rules in
    record {
      fits = omega (arith, is);
      none_longer = none_longer_first c.args.self.now c.self.inside.longest within c.args.text.now c.min-length.result is;
    }

pub returns-in-Some : goal.returns-in-Some
returns-in-Some c =
    let front = take c.lengths.length c.args.text.now in
    let found : gloss_of c.args.self.now front ≡ Some c.in-Some.gloss.now =
    ap (λ (es : List Entry). gloss_of es front) (sym c.self.view_is) ∙ sym (lookup-kept c.self.inside.glosses.entries front) ∙ sym c.in-Some.ensures.value in (
      c.lengths-test.true,
      c.lengths.invariant.fits,
      longest_here c.args.self.now c.args.text.now c.lengths.length c.lengths.invariant.fits c.lengths.invariant.none_longer c.in-Some.gloss.now found,
      found ∙ ap Some (sym c.as_str.ensures),
    )

pub lengths-preserved : goal.lengths-preserved
lengths-preserved c =
    let front = take c.lengths.length c.args.text.now in
    let none : gloss_of c.args.self.now front ≡ None =
    ap (λ (es : List Entry). gloss_of es front) (sym c.self.view_is) ∙ sym (lookup-kept c.self.inside.glosses.entries front) ∙ sym c.in_default.ensures.value in
    record {
      fits = omega (arith, c.lengths.invariant.fits);
      none_longer = none_longer_next c.args.self.now c.args.text.now c.lengths.length c.lengths.invariant.fits c.lengths.invariant.none_longer none;
    }

pub returns : goal.returns
returns c =
    let within = subst (AreWithin c.self.inside.longest) c.self.view_is c.self.invariant in
    none_left c.args.self.now c.self.inside.longest within c.args.text.now c.lengths.length c.lengths-test.false c.lengths.invariant.none_longer
