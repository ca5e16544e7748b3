use Rattle.std.proofs.Common.{List, drop, refl, sym, subst, ◌∙◌}
use Rattle.lexc_forms.specs.declared.letters.Letter.{Letter}
use Rattle.lexc_tokens.specs.Steps.{IsTokenFront}
use Rattle.lexc_tokens.specs.declared.token.Token.TheVariants.{Word as word}
use Rattle.lexc_tokens.proofs.Fronts.{none_stands, word_stands, no_letters, some_letters}
use Rattle.lexc_tokens.proofs.scanning.word_front.Goals as goal

pub returns-then-is_empty : goal.returns-then-is_empty
returns-then-is_empty c =
    none_stands c.args.opens c.args.text.now c.requires.no_end c.requires.no_expression c.in_ok-letters.letters.items (drop c.in_ok-letters.len c.args.text.now) c.in_ok-letters.ensures.letters
    (no_letters c.in_ok-letters.letters (sym c.is_empty.ensures ∙ c.if-is_empty.true))

pub returns : goal.returns
returns c =
    subst (λ (ls : List Letter). IsTokenFront c.args.opens c.args.text.now (word ls) c.in_ok-letters.len) (sym c.from.ensures)
    (word_stands c.args.opens c.args.text.now c.requires.no_end c.requires.no_expression c.in_ok-letters.letters.items (drop c.in_ok-letters.len c.args.text.now) c.in_ok-letters.ensures.letters c.in_ok-letters.len refl c.in_ok-letters.ensures.within
    (some_letters c.in_ok-letters.letters (sym c.is_empty.ensures ∙ c.if-is_empty.false)))
