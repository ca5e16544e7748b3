use Rattle.std.proofs.Common.{◌+◌, ◌<◌, map, take, subst, sym, ◌∙◌}
use Rattle.network_lexicons.specs.Plain.{entry_of}
use Rattle.network_lexicons.specs.Built.{FormIsBuilt}
use Rattle.network_lexicons.specs.Entries.{AreEntriesFor, GivesAll}
use Rattle.network_lexicons.proofs.Gathered.{HasGiven, given_more, given_none, given_past, mapped_all, mapped_holds, mapped_more, place_there, still_begun}
use Rattle.network_lexicons.proofs.entries.add_entries.Goals as goal
use Rattle.network_lexicons.proofs.entries.add_entries.Goals.{in-Some+in_ok-add_form, in_default}

pub entries-init : goal.entries-init
entries-init c = given_none c.args.parts.now c.args.alphabet.now c.args.names.now c.args.place c.args.flags.now c.args.builder.now

pub add_form-requires : goal.add_form-requires
add_form-requires c =
    let given = c.entries.invariant.given in
    record {
      ground = c.requires.ground;
      built = mapped_holds entry_of c.args.entries.now c.entries.entry-index c.entry-item.result c.entries-test.true c.entry-item.is (λ entry. FormIsBuilt c.args.parts.now c.args.alphabet.now entry.form) c.requires.built;
      begun = still_begun (AreEntriesFor c.args.parts.now c.args.alphabet.now c.args.names.now c.entries.flags c.args.place (take c.entries.entry-index (map entry_of c.args.entries.now))) c.args.builder.now c.entries.builder c.requires.begun given;
      placed = (
        subst (λ n. c.args.place < n) (sym given.0) c.requires.place,
        place_there c.args.names.now c.entry-item.result.next c.in-Some.next c.entries.builder.count (given.0 ∙ c.requires.count) c.in-Some.ensures,
      );
    }

pub entries-preserved : goal.entries-preserved
entries-preserved c =
    let parts = c.args.parts.now in
    let alphabet = c.args.alphabet.now in
    let names = c.args.names.now in
    let all = c.args.entries.now in
    let i = c.entries.entry-index in
    let entry = c.entry-item.result in
    let before = c.args.flags.now in
    let flags = c.entries.flags in
    let old = c.args.builder.now in
    let now = take i (map entry_of all) in
    let next = take (i + 1) (map entry_of all) in
    let more = mapped_more entry_of all i entry c.entries-test.true c.entry-item.is in
    elim c.match-target_of.branch as (λ _. HasGiven parts alphabet names c.args.place before c.match-target_of.flags next old c.match-target_of.builder) [
      | in-Some+in_ok-add_form w ↦
          rw (w.flags-is, w.builder-is)
          (given_more parts alphabet names c.args.place before flags now next old c.entries.builder c.entries.invariant (entry_of entry) more w.add_form.new.flags w.in-Some.next w.add_form.new.builder w.in_ok-add_form.ensures.kept
          w.in-Some.ensures w.in_ok-add_form.ensures.given)
      | in_default w ↦ rw (w.flags-is, w.builder-is) (given_past parts alphabet names c.args.place before flags now next old c.entries.builder c.entries.invariant (entry_of entry) more w.in_default.ensures)
    ]

pub returns-clause-kept : goal.returns-clause-kept
returns-clause-kept c = c.entries.invariant.kept

pub returns-clause-given : goal.returns-clause-given
returns-clause-given c =
    subst (λ es. GivesAll (AreEntriesFor c.args.parts.now c.args.alphabet.now c.args.names.now c.entries.flags c.args.place es) c.args.builder.now c.entries.builder) (mapped_all entry_of c.args.entries.now c.entries.entry-index c.entries-test.false)
    c.entries.invariant.given
