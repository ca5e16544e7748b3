use Rattle.std.proofs.Common.{◌≡◌, List, ℕ, ◌≤◌, ◌↔◌, length, arith, sym, subst, ap}
use Rattle.std.specs.String.{string_bytes}
use Rattle.att_text.specs.Lines.{said_in}
use Rattle.att_text.specs.Paths.{Relates, RelatesTexts}
use Rattle.att_text.specs.Writing.{BeginsWith, HasTextOf, IsAttText}
use Rattle.att_text.specs.Written.{IsWriting}
use Rattle.att_text.proofs.Placed.{edges_of, first_place, writing_none, written_relates, written_begins, written_text}
use Rattle.att_text.proofs.writing.write_att.Goals as goal

pub places-init : goal.places-init
places-init c =
    subst (λ (t : List ℕ). IsWriting c.args.alphabet.now c.args.net.now c.place_of.new.self 0 t) (sym c.new-text.ensures.bytes)
    (writing_none c.args.alphabet.now c.args.net.now c.place_of.new.self (first_place c.new-states.result c.place_of.new.self c.in_ok-place_of.field-0 c.new-states.ensures c.in_ok-place_of.ensures.kept c.in_ok-place_of.ensures.place))

pub push_lines-requires-clause-symbols : goal.push_lines-requires-clause-symbols
push_lines-requires-clause-symbols c = edges_of c.args.alphabet.now c.args.net.now c.requires.symbols

pub returns-clause-text : goal.returns-clause-text
returns-clause-text c =
    let same : string_bytes c.places.text ≡ c.into_bytes.result.items = sym (ap (λ v. v.items) c.into_bytes.ensures.value) in
    let past : length c.places.states ≤ c.places.place = omega (arith, c.places-test.false, c.len.ensures) in
    subst IsAttText same (written_text c.args.alphabet.now c.args.net.now c.places.states c.places.place (string_bytes c.places.text) c.places.invariant past)

pub returns-clause-relation : goal.returns-clause-relation
returns-clause-relation c =
    let same : string_bytes c.places.text ≡ c.into_bytes.result.items = sym (ap (λ v. v.items) c.into_bytes.ensures.value) in
    let past : length c.places.states ≤ c.places.place = omega (arith, c.places-test.false, c.len.ensures) in
    subst (λ (t : List ℕ). (upper lower : List (List ℕ)) → Relates t upper lower ↔ RelatesTexts (HasTextOf c.args.alphabet.now) c.args.net.now upper lower) same
    (written_relates c.args.alphabet.now c.args.net.now c.places.states c.places.place (string_bytes c.places.text) c.places.invariant past)

pub returns-clause-start : goal.returns-clause-start
returns-clause-start c =
    let same : string_bytes c.places.text ≡ c.into_bytes.result.items = sym (ap (λ v. v.items) c.into_bytes.ensures.value) in
    let past : length c.places.states ≤ c.places.place = omega (arith, c.places-test.false, c.len.ensures) in
    subst (λ (t : List ℕ). BeginsWith 0 (said_in t)) same (written_begins c.args.alphabet.now c.args.net.now c.places.states c.places.place (string_bytes c.places.text) c.places.invariant past)
