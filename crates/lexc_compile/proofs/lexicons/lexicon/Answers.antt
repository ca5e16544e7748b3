use Rattle.std.proofs.Common.{◌≡◌, ◌<◌, ◌≤◌, List, [], Some, map, length, sym, ap, subst, arith, ◌∙◌}
use Rattle.std.specs.List.{slice_get}
use Rattle.std.specs.Option.{option_map}
use Rattle.std.proofs.lemmas.Bool.{false≢true}
use Rattle.std.proofs.lemmas.List.{length-map}
use Rattle.std.proofs.lemmas.Option.{slice_get-map, slice_get-get_or}
use Rattle.word_relations.proofs.Members.{Contains-nil_cases}
use Rattle.lexc_compile.specs.declared.entry.LexEntry.{LexEntry}
use Rattle.lexc_compile.specs.Blocks.{IsThere}
use Rattle.lexc_compile.proofs.Entries.{Upto, all_before, each_language, each_letters, entries_all, entries_more, entries_none, entries_past, has_begun}
use Rattle.lexc_compile.proofs.lexicons.lexicon.Goals as goal
use Rattle.lexc_compile.proofs.lexicons.lexicon.Goals.{then-is_there+in_ok-add_entry, else-is_there}

pub lexicons-init : goal.lexicons-init
lexicons-init c =
    let lexicons : List (List LexEntry) = map (λ v. v.items) c.args.lexicons.now in
    record {
      entries = [];
      given = c.in_ok-builder.ensures.given;
      count = c.in_ok-builder.ensures.count ∙ sym (length-map c.args.lexicons.now (λ v. v.items));
      only = λ e h. absurd (Contains-nil_cases e h);
      all = λ k e h. let l = h.0 in absurd (omega arith);
    }

pub entries-init : goal.entries-init
entries-init c = entries_none (map (λ v. v.items) c.args.lexicons.now) c.args.root c.lexicons.builder c.lexicons.place c.as_slice-entry-items.result.now c.lexicons.invariant

pub add_entry-requires : goal.add_entry-requires
add_entry-requires c =
    let lexicons : List (List LexEntry) = map (λ v. v.items) c.args.lexicons.now in
    let counted = c.entries.invariant.count ∙ length-map c.args.lexicons.now (λ v. v.items) in
    record {
      begun = has_begun lexicons c.args.root c.entries.builder (Upto lexicons c.lexicons.place c.as_slice-entry-items.result.now c.entries.entry-index) c.entries.invariant;
      placed = (
        subst (λ n. c.lexicons.place < n) (sym counted) c.lexicons-test.true,
        subst (λ n. IsThere n c.entry-item.result.next) (sym counted) (c.is_there.ensures.0 c.if-is_there.true),
      );
    }

pub entries-preserved : goal.entries-preserved
entries-preserved c =
    let all = c.args.lexicons.now in
    let lexicons : List (List LexEntry) = map (λ v. v.items) all in
    let same : length lexicons ≡ length all = length-map all (λ v. v.items) in
    let entries = c.as_slice-entry-items.result.now in
    let entry = c.entry-item.result in
    let vec = c.index-lexicons-place.result in
    let there : slice_get all c.lexicons.place ≡ Some vec = slice_get-get_or all c.lexicons.place vec c.lexicons-test.true ∙ ap Some (sym c.index-lexicons-place.is) in
    let at : slice_get lexicons c.lexicons.place ≡ Some entries =
    slice_get-map (λ v. v.items) all c.lexicons.place ∙ ap (λ o. option_map (λ v. v.items) o) there ∙ ap Some (sym c.as_slice-entry-items.ensures.value) in
    elim c.if-is_there.branch [
      | then-is_there+in_ok-add_entry w ↦
          rw (w.builder-is) (entries_more lexicons c.args.root c.entries.builder c.lexicons.place entries c.entries.entry-index entry c.entries-test.true c.entry-item.is c.entries.invariant at w.add_entry.new.builder
          (subst (λ n. IsThere n entry.next) (sym same) (c.is_there.ensures.0 w.if-is_there.true)) w.in_ok-add_entry.ensures)
      | else-is_there w ↦
          rw (w.builder-is) (entries_past lexicons c.args.root c.entries.builder c.lexicons.place entries c.entries.entry-index entry c.entries-test.true c.entry-item.is c.entries.invariant
          (λ there_too. false≢true (sym w.if-is_there.false ∙ c.is_there.ensures.1 (subst (λ n. IsThere n entry.next) same there_too))))
    ]

pub lexicons-preserved : goal.lexicons-preserved
lexicons-preserved c =
    let all = c.args.lexicons.now in
    let lexicons : List (List LexEntry) = map (λ v. v.items) all in
    let entries = c.as_slice-entry-items.result.now in
    let vec = c.index-lexicons-place.result in
    let there : slice_get all c.lexicons.place ≡ Some vec = slice_get-get_or all c.lexicons.place vec c.lexicons-test.true ∙ ap Some (sym c.index-lexicons-place.is) in
    let at : slice_get lexicons c.lexicons.place ≡ Some entries =
    slice_get-map (λ v. v.items) all c.lexicons.place ∙ ap (λ o. option_map (λ v. v.items) o) there ∙ ap Some (sym c.as_slice-entry-items.ensures.value) in
    entries_all lexicons c.args.root c.entries.builder c.lexicons.place entries at c.entries.entry-index c.entries-test.false c.entries.invariant

pub returns : goal.returns
returns c =
    let lexicons : List (List LexEntry) = map (λ v. v.items) c.args.lexicons.now in
    let same : length lexicons ≡ length c.args.lexicons.now = length-map c.args.lexicons.now (λ v. v.items) in
    let end = c.lexicons-test.false in
    let past : length lexicons ≤ c.lexicons.place = omega arith in
    let is = all_before lexicons c.args.root c.lexicons.builder c.lexicons.place past c.lexicons.invariant in
    record {
      letters = λ x uses. each_letters lexicons c.args.root c.lexicons.builder is x (c.finish.ensures.letters c.args.root is.entries is.given x uses);
      language = λ tape.
          let made = c.finish.ensures.language c.args.root is.entries is.given tape in
          let paths = each_language lexicons c.args.root c.lexicons.builder is tape in
          (λ h. paths.0 (made.0 h), λ h. made.1 (paths.1 h));
    }
