use Rattle.std.proofs.Common.{◌≡◌, ◌≢◌, List, ℕ, true, false, sym, ap, subst, ◌∙◌}
use Rattle.std.proofs.lemmas.Bool.{true≢false}
use Rattle.lexc_forms.specs.Letters.{text_of}
use Rattle.lexc_forms.specs.declared.letters.Letter.{Letter}
use Rattle.lexc_grammar.specs.Entries.{hash}
use Rattle.lexc_grammar.specs.Files.{is_among}
use Rattle.lexc_grammar.specs.Lexicons.{with_lexicon}
use Rattle.lexc_reader.specs.Answers.{known_of}
use Rattle.lexc_reader.proofs.Steps.{is_hash, one_word, name_again, name_broken, name_is_none, name_read, name_unended}
use Rattle.lexc_reader.proofs.statements.read_name.Goals as goal

pub returns-in-End : goal.returns-in-End
returns-in-End c =
    let none = rw c.in-End.is at c.in_ok-scan.ensures in
    rw c.no_statement.ensures (name_unended c.args.text.now c.args.found.now c.args.stage (known_of c.args.state.now) c.requires.found c.requires.word c.split_at.result.1.now c.split_at.ensures.back none)

pub returns-in-NoToken : goal.returns-in-NoToken
returns-in-NoToken c =
    let none = rw c.in-NoToken.is at c.in_ok-scan.ensures in
    name_broken c.args.text.now c.args.found.now c.args.stage (known_of c.args.state.now) c.requires.found c.requires.word c.split_at.result.1.now c.split_at.ensures.back c.in-NoToken.at none

pub returns-in_default : goal.returns-in_default
returns-in_default c =
    let next = rw c.in-Found.is at c.in_ok-scan.ensures in
    rw c.no_statement-in_default.ensures
    (name_is_none c.args.text.now c.args.found.now c.args.stage (known_of c.args.state.now) c.requires.found c.requires.word c.split_at.result.1.now c.split_at.ensures.back c.in-Found.name next
    (λ letters same. absurd (c.in_default.not-Word letters same)))

pub returns-then-not-is_name : goal.returns-then-not-is_name
returns-then-not-is_name c =
    let next = rw c.in-Found.is at c.in_ok-scan.ensures in
    let is : c.in-Word.word ≡ hash = is_hash c.in-Word.word (subst (λ (l : List Letter). (l ≢ hash) → ⊥) c.letters.ensures (λ other. true≢false (sym (c.is_name.ensures.1 other) ∙ c.if-not-is_name.true))) in
    rw c.no_statement-then-not-is_name.ensures
    (name_is_none c.args.text.now c.args.found.now c.args.stage (known_of c.args.state.now) c.requires.found c.requires.word c.split_at.result.1.now c.split_at.ensures.back c.in-Found.name next
    (λ letters same. subst (λ (l : List Letter). l ≡ hash) (one_word c.in-Word.word letters (sym c.in-Word.is ∙ same)) is))

pub returns-then-contains : goal.returns-then-contains
returns-then-contains c =
    let next = rw c.in-Found.is at c.in_ok-scan.ensures in
    let named = c.as_str.ensures ∙ c.in_ok-named.ensures ∙ ap text_of c.letters-2.ensures in
    let known = known_of c.args.state.now in
    name_again c.args.text.now c.args.found.now c.args.stage known c.requires.found c.requires.word c.split_at.result.1.now c.split_at.ensures.back c.in-Found.name next c.in-Word.word c.in-Word.is
    (subst (λ (l : List Letter). l ≢ hash) c.letters.ensures (c.is_name.ensures.0 c.if-not-is_name.false))
    (subst (λ (text : List ℕ). is_among known.names text ≡ true) named (sym c.contains.ensures ∙ c.if-contains.true))

pub returns : goal.returns
returns c =
    let next = rw c.in-Found.is at c.in_ok-scan.ensures in
    let named = c.in_ok-named.ensures ∙ ap text_of c.letters-2.ensures in
    let known = known_of c.args.state.now in
    name_read c.args.text.now c.args.found.now c.args.stage known c.requires.found c.requires.word c.split_at.result.1.now c.split_at.ensures.back c.in-Found.name next c.in-Word.word c.in-Word.is
    (subst (λ (l : List Letter). l ≢ hash) c.letters.ensures (c.is_name.ensures.0 c.if-not-is_name.false)) (known_of c.open_lexicon.new.self)
    (subst (λ (text : List ℕ). is_among known.names text ≡ false) (c.as_str.ensures ∙ named) (sym c.contains.ensures ∙ c.if-contains.false))
    (c.in_ok-open_lexicon.ensures ∙ ap (λ (t : List ℕ). with_lexicon known c.args.found.now.line t) named)
