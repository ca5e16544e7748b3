-- The AT&T text of a name.
use Rattle.std.specs.Prelude.{◌≡◌, ◌↔◌, ◌++◌, ℕ, List, Contains, codes}
use Rattle.att_text.specs.Lines.{no_symbol, said_in}
use Rattle.att_text.specs.Paths.{Relates}
use Rattle.att_text.specs.Writing.{BeginsWith, IsAttText}
use Rattle.project_meaning.specs.Meaning.{Meaning, Word}
use Rattle.project_meaning.specs.Projects.{Project, Defines}
use Rattle.reply_meaning.specs.Replies.{headed}
use Rattle.named_networks.specs.Responses.{Response, answer, refusal}

-- an AT&T text that relates the words that the name does, and whose first line, if there is one, begins with state 0
pub record IsTextOf (project : Project) (name text : List ℕ) : Type 0 where
  pub lawful : IsAttText text
  pub relation : (upper lower : Word) → Relates text upper lower ↔ Meaning project name upper lower
  pub start : BeginsWith 0 (said_in text)

-- one of the project's symbols has the text by which a side without symbol is told
abbrev pub HasZeroSymbol : Project → Type 0
HasZeroSymbol project = Contains project.alphabet no_symbol

-- what is told as the AT&T text of a name: the first of two reasons why there is none, or the text
pub data IsAtt (project : Project) (version : ℕ) (name : List ℕ) (told : Response) : Type 0 where
  no_net : ¬ (Defines project name) → told ≡ refusal (headed version (codes "net " ++ name)) → IsAtt project version name told
  zero_symbol : Defines project name → HasZeroSymbol project → told ≡ refusal (headed version (codes "zero-symbol")) → IsAtt project version name told
  written : (text : List ℕ) → Defines project name → ¬ (HasZeroSymbol project) → IsTextOf project name text → told ≡ answer text → IsAtt project version name told
