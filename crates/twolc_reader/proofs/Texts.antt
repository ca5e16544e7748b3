-- From the tokens of a text to the text.
use Rattle.std.proofs.Common.{◌≡◌, ℕ, List, map, Result, Ok, Err, IfOk}
use Rattle.regex_ast.specs.declared.expr.Raw.{Raw}
use Rattle.regex_ast.specs.declared.fault.ReadError.{ReadError}
use Rattle.regex_ast.specs.declared.fault.ReadError.TheVariants.{Fault, Memory}
use Rattle.regex_ast.specs.declared.twolc.Grammar.{Grammar}
use Rattle.regex_tokens.specs.declared.token.Ending.{Ending}
use Rattle.twolc_tokens.specs.Cuts.{Cuts}
use Rattle.twolc_tokens.specs.declared.token.Placed.{Placed}
use Rattle.twolc_grammar.specs.Sections.{Says, nothing_read}
use Rattle.twolc_reader.specs.Reading.{HaveLines, IsAnswer, IsRead, name_of, names_at}

module _ (text : List ℕ) (placed : List Placed) (ending : Ending) (cut : Cuts 1 text placed ending) where
  pub text_says : (result : Result (Grammar Raw) ReadError) → IsAnswer (Says (nothing_read placed ending)) result → IsRead text result
  text_says (Ok g) says = record { placed = placed; ending = ending; cut = cut; says = says }
  text_says (Err (Fault line reason)) says = record { placed = placed; ending = ending; cut = cut; says = says }
  text_says (Err (Memory error)) says = tt

  pub text_lines : (result : Result (Grammar Raw) ReadError) → IfOk result (λ g. map name_of g.rules.items ≡ names_at placed) → IfOk result (λ g. HaveLines text g.rules.items)
  text_lines (Ok g) e = (placed, ending, cut, e)
  text_lines (Err error) e = tt
