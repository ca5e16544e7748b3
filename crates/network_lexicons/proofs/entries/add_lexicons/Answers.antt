use Rattle.std.proofs.Common.{◌≡◌, ◌+◌, length, map, take, subst, arith, ◌∙◌}
use Rattle.std.proofs.lemmas.List.{length-map, length-take}
use Rattle.network_lexicons.specs.Plain.{lexicon_of}
use Rattle.network_lexicons.specs.Built.{EntriesAreBuilt}
use Rattle.network_lexicons.specs.Entries.{AreLexiconsFor, GivesAll}
use Rattle.network_lexicons.proofs.Gathered.{lexicons_given, lexicons_none, mapped_all, mapped_holds, mapped_more, still_begun}
use Rattle.network_lexicons.proofs.entries.add_lexicons.Goals as goal

pub lexicons-init : goal.lexicons-init
lexicons-init c = lexicons_none c.args.parts.now c.args.alphabet.now c.args.names.now c.args.flags.now c.args.builder.now

pub add_entries-requires : goal.add_entries-requires
add_entries-requires c =
    let given = c.lexicons.invariant.given in
    let within = c.lexicons-test.true in
    let places = c.requires.places in
    let counted = given.0 ∙ c.requires.count in
    record {
      ground = c.requires.ground;
      built =
          rw c.deref.ensures.value
          (mapped_holds lexicon_of c.args.lexicons.now c.lexicons.place c.index-lexicons-place.result c.lexicons-test.true c.index-lexicons-place.is (λ lexicon. EntriesAreBuilt c.args.parts.now c.args.alphabet.now lexicon.entries) c.requires.built);
      begun = still_begun (AreLexiconsFor c.args.parts.now c.args.alphabet.now c.args.names.now c.lexicons.flags (take c.lexicons.place (map lexicon_of c.args.lexicons.now))) c.args.builder.now c.lexicons.builder c.requires.begun given;
      count = counted;
      place = omega arith;
    }

pub lexicons-preserved : goal.lexicons-preserved
lexicons-preserved c =
    let parts = c.args.parts.now in
    let alphabet = c.args.alphabet.now in
    let names = c.args.names.now in
    let all = c.args.lexicons.now in
    let i = c.lexicons.place in
    let lexicon = c.index-lexicons-place.result in
    let now = take i (map lexicon_of all) in
    let within = c.lexicons-test.true in
    let counted = length-map all lexicon_of in
    let here : i ≡ length now = omega (arith, length-take i (map lexicon_of all)) in
    lexicons_given parts alphabet names c.args.flags.now c.lexicons.flags c.add_entries.new.flags now (take (i + 1) (map lexicon_of all)) i (lexicon_of lexicon) c.args.builder.now c.lexicons.builder c.add_entries.new.builder
    c.lexicons.invariant here (mapped_more lexicon_of all i lexicon within c.index-lexicons-place.is) c.in_ok-add_entries.ensures.kept (rw c.deref.ensures.value at c.in_ok-add_entries.ensures.given)

pub returns-clause-kept : goal.returns-clause-kept
returns-clause-kept c = c.lexicons.invariant.kept

pub returns-clause-given : goal.returns-clause-given
returns-clause-given c =
    subst (λ ls. GivesAll (AreLexiconsFor c.args.parts.now c.args.alphabet.now c.args.names.now c.lexicons.flags ls) c.args.builder.now c.lexicons.builder) (mapped_all lexicon_of c.args.lexicons.now c.lexicons.place c.lexicons-test.false)
    c.lexicons.invariant.given
