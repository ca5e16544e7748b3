use Rattle.std.proofs.Common.{◌≡◌, false, true, length, min, take, rules, arith, sym, ap, subst, ◌∙◌}
use Rattle.std.specs.List.{list_any}
use Rattle.std.specs.Str.{bytes_eq}
use Rattle.lexc_forms.specs.Kept.{AreWithin}
use Rattle.lexc_forms.proofs.Symbols.{any_kept, none_longer_first, none_longer_next, longest_here, none_left}
use Rattle.lexc_forms.proofs.table.DeclaredSymbols.longest_front.Goals as goal

pub lengths-init : goal.lengths-init
lengths-init c =
    let within = subst (AreWithin c.self.inside.longest) c.self.view_is c.self.invariant.0 in
    let is : c.min-length.result ≡ min c.self.inside.longest (length c.args.text.now) = search rules in
    record {
      fits = omega (arith, is);
      none_longer = none_longer_first c.args.self.now c.args.text.now c.self.inside.longest within c.min-length.result is;
    }

pub returns-then-contains : goal.returns-then-contains
returns-then-contains c =
    let front = take c.lengths.length c.args.text.now in
    let there : list_any (bytes_eq front) c.args.self.now ≡ true =
    ap (list_any (bytes_eq front)) (sym c.self.view_is) ∙ sym (any_kept c.self.inside.symbols.keys front) ∙ sym c.contains.ensures ∙ c.if-contains.true in
    longest_here c.args.self.now c.args.text.now c.lengths.length c.lengths.invariant.fits c.lengths.invariant.none_longer c.lengths-test.true there

pub lengths-preserved : goal.lengths-preserved
lengths-preserved c =
    let front = take c.lengths.length c.args.text.now in
    let absent : list_any (bytes_eq front) c.args.self.now ≡ false =
    ap (list_any (bytes_eq front)) (sym c.self.view_is) ∙ sym (any_kept c.self.inside.symbols.keys front) ∙ sym c.contains.ensures ∙ c.if-contains.false in
    record {
      fits = omega (arith, c.lengths.invariant.fits);
      none_longer = none_longer_next c.args.self.now c.args.text.now c.lengths.length c.lengths.invariant.fits c.lengths.invariant.none_longer absent;
    }

pub returns : goal.returns
returns c =
    let within = subst (AreWithin c.self.inside.longest) c.self.view_is c.self.invariant.0 in
    none_left c.args.self.now c.args.text.now c.self.inside.longest within c.lengths.length c.lengths-test.false c.lengths.invariant.none_longer
