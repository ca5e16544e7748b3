-- What `==` of letters says.
use Rattle.std.proofs.Common.{◌≡◌, Decides, rules, tests}
use Rattle.lexc_forms.specs.declared.letters.Letter.{Letter}
use Rattle.lexc_forms.specs.declared.letters.Letter.TheVariants.{Plain, Escaped}
use Rattle.lexc_forms.specs.contracts.letters.LetterPartialEq.TheImpl as letters_eq

pub same_letter : (a b : Letter) → Decides ((letters_eq.eq-value).it a b) (a ≡ b)
same_letter (Plain x) (Plain y) = search (rules, tests)
same_letter (Plain x) (Escaped y) = search (rules, tests)
same_letter (Escaped x) (Plain y) = search (rules, tests)
same_letter (Escaped x) (Escaped y) = search (rules, tests)
