use Rattle.std.proofs.Common.{◌≡◌, ◌<◌, ◌∙◌, ℕ, List, Option, arith, length, refl, rules, subst, sym, ap}
use Rattle.std.proofs.lemmas.Option.{slice_get_read}
use Rattle.expr_kinds.specs.Atoms.{kind_at}
use Rattle.expr_kinds.specs.declared.form.Form.{Form}
use Rattle.fsm_base.specs.Alphabet.{symbols_of}
use Rattle.fsm_base.specs.declared.letters.Sym.{Sym}
use Rattle.project_versions.specs.Keeping.{IsKept, IsServing}
use Rattle.project_versions.specs.declared.networks.Built.{Built}
use Rattle.project_versions.proofs.Serving.{AreMarkedIn, KeptSoFar, keep_numbers, kept_here, more_kept, none_kept, of_item}
use Rattle.project_versions.proofs.keeping.kept_networks.Goals as goal

pub places-init : goal.places-init
places-init c = record {
  count = search rules;
  kept = rw c.new-kept.ensures.items (none_kept c.args.old.now c.args.networks.now c.args.new.now c.args.touched.now);
}

pub places-preserved : goal.places-preserved
places-preserved c =
    let old = c.args.old.now in
    let new = c.args.new.now in
    let networks = c.args.networks.now in
    let touched = c.args.touched.now in
    let place = c.places.place in
    let numbers = c.in_ok-numbers.numbers.items in
    let marks = c.in_ok-marks.marks.items in
    let kept = c.places.kept.items in
    let found = c.in_ok-found.found in
    let count = c.places.invariant.count in
    let before_are = c.definitions.ensures.definitions ∙ c.plan-before.ensures.definitions in
    let now_are = c.definitions-2.ensures.definitions ∙ c.plan-plan.ensures.definitions in
    let numbers_are = (rw (before_are, now_are) at c.in_ok-numbers.ensures.places) c.plan-before.ensures.formed.names in
    let own : c.len.result ≡ length numbers = c.len.ensures ∙ c.in_ok-numbers.numbers.ok.0 in
    let marked : AreMarkedIn (length numbers) touched marks = subst (λ (k : ℕ). AreMarkedIn k touched marks) own c.in_ok-marks.ensures.marks in
    let below : place < length numbers = omega arith in
    let number_at = slice_get_read numbers (length numbers) place c.index-number.result.now refl below c.index-number.ensures in
    let mark_at = slice_get_read marks (length marks) place c.index-mark.result.now refl (let size = c.in_ok-marks.ensures.count in omega (arith, below, size, own)) c.index-mark.ensures in
    let kind_is = c.kind_of-kind.ensures ∙ ap (λ (fs : List Form). kind_at fs place) (c.forms-forms.ensures.forms ∙ c.plan-plan.ensures.forms) in
    record {
      count = search rules;
      kept =
          subst (λ (bs : List (Option Built)). KeptSoFar old networks new touched bs) (sym c.in_ok-push.ensures.items)
          (more_kept old networks new touched kept found c.places.invariant.kept
          (λ b is.
          let told = of_item _ _ b is c.in_ok-found.ensures in
          let keep =
          keep_numbers old new c.in_ok-same.same.items (length c.symbols.result.now) (ap (λ (xs : List Sym). length xs) (c.symbols.ensures.symbols ∙ ap (λ (a : List (Sym × List ℕ)). symbols_of a) c.alphabet-3.ensures)) (rw (c.alphabet.ensures, c.alphabet-2.ensures) at c.in_ok-same.ensures) (rw c.deref.ensures.value at (c.are_marked-stays.ensures told.0)) in
          subst (λ k. IsKept old networks new touched k b) (sym count)
          (kept_here old new networks c.requires touched numbers numbers_are marks marked place c.index-mark.result.now mark_at told.1 keep c.index-number.result.now number_at b
          (subst (λ k. IsServing networks c.index-number.result.now k b) kind_is told.2))));
    }
