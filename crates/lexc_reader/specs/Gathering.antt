-- The tokens of an entry.
use Rattle.std.specs.Prelude.{◌≡◌, ◌≤◌, ◌+◌, ℕ, false, List, ◌∷◌, length, drop}
use Rattle.regex_tokens.specs.Cuts.{newlines}
use Rattle.lexc_tokens.specs.declared.token.Token.{Token}
use Rattle.lexc_grammar.specs.Files.{HasTokens}
use Rattle.lexc_reader.specs.declared.gathering.EntryTokens.{EntryTokens}

-- the first token, and those that the text goes on with, which begins in this line
pub record AreEntryTokens (line : ℕ) (first : Token) (text : List ℕ) (found : EntryTokens) : Type 0 where
  pub others : List Token
  pub all : found.tokens.items ≡ first ∷ others
  pub has : HasTokens (line + newlines text) false text others found.ending (drop found.len text)
  pub within : found.len ≤ length text
  pub line_is : found.behind + newlines (drop found.len text) ≡ line + newlines text
