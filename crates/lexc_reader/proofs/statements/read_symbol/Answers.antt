use Rattle.std.proofs.Common.{List, ℕ, ap, subst, ◌∙◌}
use Rattle.regex_ast.specs.Flags.{IsFlag}
use Rattle.lexc_forms.proofs.Pieces.{flag_of_parts}
use Rattle.lexc_forms.specs.Letters.{characters_of, text_of}
use Rattle.lexc_grammar.specs.Lexicons.{with_symbol}
use Rattle.lexc_reader.specs.Answers.{known_of}
use Rattle.lexc_reader.proofs.Steps.{is_flag, is_symbol, no_symbol}
use Rattle.lexc_reader.proofs.statements.read_symbol.Goals as goal

pub returns-in_default : goal.returns-in_default
returns-in_default c = rw c.no_statement.ensures (no_symbol c.args.text.now c.args.found.now (known_of c.args.state.now) c.requires.found c.in_default.not-Word)

pub returns-in-Some : goal.returns-in-Some
returns-in-Some c =
    let text_is = c.as_str.ensures ∙ c.in_ok-symbol.ensures ∙ ap text_of c.letters.ensures in
    let flag = rw c.in-Some.is at c.in_ok-read_flag.ensures in
    is_flag c.args.text.now c.args.found.now (known_of c.args.state.now) c.requires.found c.in-Word.word c.in-Word.is (c.requires.word c.in-Word.word c.in-Word.is)
    (subst (λ (text : List ℕ). IsFlag text) text_is (flag_of_parts c.as_str.result.now c.in-Some.field-0 flag))

pub returns-in_ok-add_symbol-in-None : goal.returns-in_ok-add_symbol-in-None
returns-in_ok-add_symbol-in-None c =
    let named = c.in_ok-symbol.ensures ∙ ap text_of c.letters.ensures in
    let none = rw c.in-None.is at c.in_ok-read_flag.ensures in
    let spelled = c.in_ok-characters-in-None.ensures ∙ ap characters_of c.letters-in-None.ensures in
    let known = known_of c.args.state.now in
    is_symbol c.args.text.now c.args.found.now known c.requires.found c.in-Word.word c.in-Word.is (c.requires.word c.in-Word.word c.in-Word.is) (known_of c.add_symbol.new.self)
    (subst (λ (text : List ℕ). IsFlag text → ⊥) (c.as_str.ensures ∙ named) none)
    (c.in_ok-add_symbol-in-None.ensures ∙ ap (λ (cs : List ℕ). with_symbol known c.args.found.now.line cs c.in_ok-symbol.symbol) spelled ∙ ap (λ (t : List ℕ). with_symbol known c.args.found.now.line (characters_of c.in-Word.word) t) named)
