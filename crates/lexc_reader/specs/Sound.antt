-- What holds of the lexicons that a text says.
use Rattle.std.specs.Prelude.{◌≡◌, ◌<◌, ℕ, ⊤, List, [], ◌∷◌, length, map, codes, All, Contains, Option, None, Some, Ok}
use Rattle.word_relations.specs.Words.{IsDistinct}
use Rattle.regex_ast.specs.Flags.{IsFeature}
use Rattle.regex_ast.specs.declared.expr.Raw.{Raw}
use Rattle.flag_texts.specs.Reading.{MayHave}
use Rattle.project_meaning.specs.Trees.{Piece, letter, flag, Form, sides, pairs}
use Rattle.project_meaning.specs.Leaves.{written}
use Rattle.lexc_grammar.specs.Files.{ReadsAs}
use Rattle.lexc_grammar.specs.Lexicons.{LexiconAt}

-- a symbol isn't empty, and a flag has a value or none, as its kind asks
abbrev pub PieceIsSound : Piece Raw → Type 0
PieceIsSound (letter leaf) = 0 < length (written leaf)
PieceIsSound (flag f) = IsFeature f.feature × MayHave f.kind f.value

-- each piece of both sides is such a one. Of an expression nothing is said
abbrev pub FormIsSound : Form Raw → Type 0
FormIsSound (sides upper lower) = All PieceIsSound upper × All PieceIsSound lower
FormIsSound (pairs e) = ⊤

-- a path ends, or goes on in one of these
abbrev pub GoesOnIn : List (List ℕ) → Option (List ℕ) → Type 0
GoesOnIn names None = ⊤
GoesOnIn names (Some name) = Contains names name

-- Behind the lexicon of the declared symbols, which has the empty name, stand those that were declared, each by a name of its own that
-- isn't empty, and one is `Root`. Each entry goes on in one of these.
pub record AreSound (lexicons : List LexiconAt) : Type 0 where
  pub declared : List (List ℕ)
  pub names : map (λ l. l.name) lexicons ≡ [] ∷ declared
  pub distinct : IsDistinct ([] ∷ declared)
  pub root : Contains declared (codes "Root")
  pub forms : All (λ l. All (λ e. FormIsSound e.entry.form) l.entries) lexicons
  pub nexts : All (λ l. All (λ e. GoesOnIn declared e.entry.next) l.entries) lexicons

abbrev pub LexiconsAreSound : Type 0
LexiconsAreSound = (text : List ℕ) (lexicons : List LexiconAt) → ReadsAs text (Ok lexicons) → AreSound lexicons
