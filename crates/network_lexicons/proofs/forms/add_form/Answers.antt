use Rattle.std.proofs.Common.{OnOk, sym, subst}
use Rattle.std.proofs.lemmas.Result.{on_ok_weaker}
use Rattle.regex_ast.specs.declared.expr.Atom.{Atom}
use Rattle.regex_ast.specs.declared.lexc.Form.{Form}
use Rattle.regex_ast.specs.Terms.{term}
use Rattle.flag_diacritics.specs.Numbers.{Keeps}
use Rattle.lexc_compile.specs.Paths.{network, word}
use Rattle.network_lexicons.specs.Plain.{form_of}
use Rattle.network_lexicons.specs.Built.{FormIsBuilt}
use Rattle.network_lexicons.specs.Entries.{GivesForm}
use Rattle.network_lexicons.proofs.Formed.{pairs_tapes, pairs_symbols, sides_tape, sides_symbols}
use Rattle.network_lexicons.proofs.forms.add_form.Goals as goal

pub relation_of-requires-clause-built : goal.relation_of-requires-clause-built
relation_of-requires-clause-built c = (subst (λ (f : Form Atom). FormIsBuilt c.args.parts.now c.args.alphabet.now (form_of f)) c.in-Pairs.is c.requires.built).0

pub relation_of-requires-clause-fits : goal.relation_of-requires-clause-fits
relation_of-requires-clause-fits c = (subst (λ (f : Form Atom). FormIsBuilt c.args.parts.now c.args.alphabet.now (form_of f)) c.in-Pairs.is c.requires.built).1

pub returns-in_ok-tape-in-Sides-clause-kept : goal.returns-in_ok-tape-in-Sides-clause-kept
returns-in_ok-tape-in-Sides-clause-kept c = on_ok_weaker c.add_word.result (λ gives. c.in_ok-tape-in-Sides.ensures.kept) c.add_word.ensures

pub returns-in_ok-tape-in-Sides-clause-given : goal.returns-in_ok-tape-in-Sides-clause-given
returns-in_ok-tape-in-Sides-clause-given c =
    let parts = c.args.parts.now in
    let alphabet = c.args.alphabet.now in
    let flags = c.tape_of.new.flags in
    let tape = c.deref-in-Sides-2.result.now in
    let built = subst (λ (f : Form Atom). FormIsBuilt parts alphabet (form_of f)) c.in-Sides.is c.requires.built in
    let has = rw (c.deref.ensures.value, c.deref-in-Sides.ensures.value, ← c.deref-in-Sides-2.ensures.value) at c.in_ok-tape-in-Sides.ensures.sides in
    subst (λ (f : Form Atom). OnOk c.add_word.result (GivesForm parts alphabet flags c.args.place (form_of f) c.args.next c.args.builder.now c.add_word.new.self)) (sym c.in-Sides.is)
    (on_ok_weaker c.add_word.result
    (λ gives. (
      word tape,
      sides_symbols flags c.in-Sides.upper.items c.in-Sides.lower.items tape has alphabet built.0 built.1,
      sides_tape flags c.in-Sides.upper.items c.in-Sides.lower.items tape has parts alphabet,
      gives,
    ))
    c.add_word.ensures)

pub returns-in_ok-tapes-in-Pairs-clause-kept : goal.returns-in_ok-tapes-in-Pairs-clause-kept
returns-in_ok-tapes-in-Pairs-clause-kept c =
    let same : Keeps c.args.flags.now c.args.flags.now = λ k x at. at in
    on_ok_weaker c.add_network.result (λ gives. same) c.add_network.ensures

pub returns-in_ok-tapes-in-Pairs-clause-given : goal.returns-in_ok-tapes-in-Pairs-clause-given
returns-in_ok-tapes-in-Pairs-clause-given c =
    let parts = c.args.parts.now in
    let alphabet = c.args.alphabet.now in
    let flags = c.args.flags.now in
    let e = term c.in-Pairs.expr in
    let pairs = c.in_ok-pairs-in-Pairs.pairs in
    let tapes = c.in_ok-tapes-in-Pairs.tapes in
    subst (λ (f : Form Atom). OnOk c.add_network.result (GivesForm parts alphabet flags c.args.place (form_of f) c.args.next c.args.builder.now c.add_network.new.self)) (sym c.in-Pairs.is)
    (on_ok_weaker c.add_network.result
    (λ gives. (
      network tapes,
      pairs_symbols alphabet pairs tapes c.in_ok-pairs-in-Pairs.ensures.symbols c.in_ok-tapes-in-Pairs.ensures.letters,
      pairs_tapes alphabet pairs tapes parts flags e c.in_ok-pairs-in-Pairs.ensures.relation c.in_ok-tapes-in-Pairs.ensures.language,
      gives,
    ))
    c.add_network.ensures)
