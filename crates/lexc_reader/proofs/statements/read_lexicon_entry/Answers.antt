use Rattle.std.proofs.Common.{List, Err, subst}
use Rattle.lexc_reader.specs.EntryAnswers.{IsEntryRead}
use Rattle.lexc_tokens.specs.declared.token.Token.{Token}
use Rattle.lexc_grammar.specs.Lexicons.{form_of}
use Rattle.lexc_grammar.specs.declared.statements.Stage.TheVariants.{InLexicon}
use Rattle.lexc_reader.specs.Answers.{IsStatementRead, known_of, lines_of}
use Rattle.lexc_reader.proofs.Reading.{passed_on}
use Rattle.lexc_reader.proofs.Steps.{barred, empty_entry, entry_read, entry_stopped, may_be_entry}
use Rattle.lexc_reader.proofs.statements.read_lexicon_entry.Goals as goal

pub returns-in-Semicolon : goal.returns-in-Semicolon
returns-in-Semicolon c = rw c.no_statement.ensures (empty_entry c.args.text.now c.args.found (known_of c.args.state.now) c.requires.found c.in-Semicolon.is)

pub read_entry-requires : goal.read_entry-requires
read_entry-requires c =
    rw c.deref.ensures.value
    (may_be_entry c.args.text.now c.args.found (known_of c.args.state.now) c.requires.found c.in_default.not-Semicolon c.requires.word c.split_at.result.1.now c.split_at.ensures.back c.in_ok-entry.entry c.in_ok-entry.ensures c.requires.lines)

pub returns-in_err-form : goal.returns-in_err-form
returns-in_err-form c =
    let known = known_of c.args.state.now in
    let error = c.in_err-form.field-0.0 in
    passed_on (IsStatementRead (lines_of c.args.text.now c.args.found) InLexicon known c.args.text.now known) c.from_residual-in_err-form.result error c.from_residual-in_err-form.ensures.1
    (entry_stopped c.args.text.now c.args.found known c.requires.found c.in_default.not-Semicolon c.requires.word c.split_at.result.1.now c.split_at.ensures.back c.in_ok-entry.entry c.in_ok-entry.ensures
    known error (subst (λ (tokens : List Token). IsEntryRead known.declared c.args.found.line tokens c.in_ok-entry.entry.ending (Err error)) c.deref.ensures.value c.in_err-form.ensures.said))

pub returns-in-Some : goal.returns-in-Some
returns-in-Some c =
    barred c.args.text.now c.args.found (known_of c.args.state.now) c.requires.found c.in_default.not-Semicolon c.requires.word c.split_at.result.1.now c.split_at.ensures.back c.in_ok-entry.entry c.in_ok-entry.ensures
    (form_of c.in_ok-form.form) c.in_ok-form.next (rw c.deref.ensures.value at c.in_ok-form.ensures.said) c.in_ok-form.ensures.ended
    c.in-Some.why (rw c.in-Some.is at c.in_ok-why.ensures)

pub returns : goal.returns
returns c =
    entry_read c.args.text.now c.args.found (known_of c.args.state.now) c.requires.found c.in_default.not-Semicolon c.requires.word c.split_at.result.1.now c.split_at.ensures.back c.in_ok-entry.entry c.in_ok-entry.ensures
    (form_of c.in_ok-form.form) c.in_ok-form.next (rw c.deref.ensures.value at c.in_ok-form.ensures.said) c.in_ok-form.ensures.ended
    (known_of c.add_entry.new.self) (rw c.in-None.is at c.in_ok-why.ensures)
