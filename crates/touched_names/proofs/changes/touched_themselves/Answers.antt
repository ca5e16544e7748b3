use Rattle.std.proofs.Common.{◌≡◌, IsTrue, Some, length, slice_get, refl, sym, arith}
use Rattle.std.proofs.lemmas.Option.{get_or_from_slice_get, slice_get_read, slice_get_within}
use Rattle.touched_names.proofs.Marked.{count_more, right_more}
use Rattle.touched_names.specs.Itself.{IsTouchedItself, number_there}
use Rattle.touched_names.proofs.changes.touched_themselves.Goals as goal

pub definitions-preserved : goal.definitions-preserved
definitions-preserved c =
    let names = c.args.numbers.now.names.items in
    let at = slice_get_read names (length names) c.definitions.place c.index-number.result.now refl (omega (arith, c.definitions-test.true, c.requires)) c.index-number.ensures in
    let number : c.index-number.result.now ≡ number_there c.args.numbers.now c.definitions.place =
    sym (get_or_from_slice_get names c.definitions.place c.index-number.result.now c.definitions.place at) in
    let given : slice_get c.args.new.now c.definitions.place ≡ Some c.index-new-place.result =
    slice_get_read c.args.new.now (length c.args.new.now) c.definitions.place c.index-new-place.result refl (omega (arith, c.definitions-test.true)) c.index-new-place.is in
    record {
      count = count_more c.args.new.now (IsTouchedItself c.args.old.now c.args.numbers.now (IsTrue c.args.same_symbols)) (number_there c.args.numbers.now)
          c.definitions.marks.items c.push.new.self.items c.definitions.place c.in_ok-mark.mark c.index-new-place.result c.index-number.result.now
          c.in_ok-push.ensures.items given number c.in_ok-mark.ensures c.definitions.invariant.count c.definitions.invariant.right;
      right = right_more c.args.new.now (IsTouchedItself c.args.old.now c.args.numbers.now (IsTrue c.args.same_symbols)) (number_there c.args.numbers.now)
          c.definitions.marks.items c.push.new.self.items c.definitions.place c.in_ok-mark.mark c.index-new-place.result c.index-number.result.now
          c.in_ok-push.ensures.items given number c.in_ok-mark.ensures c.definitions.invariant.count c.definitions.invariant.right;
    }

pub returns-clause-marks : goal.returns-clause-marks
returns-clause-marks c = λ place d at.
    let less = slice_get_within c.args.new.now place d at in
    c.definitions.invariant.right place d (omega (arith, less, c.definitions-test.false)) at
