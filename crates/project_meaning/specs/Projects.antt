-- A project: its alphabet, and its definitions in order, their leaves resolved.
use Rattle.std.specs.Prelude.{◌≡◌, ℕ, List, [], ◌∷◌, ◌++◌, map, Contains}
use Rattle.std.specs.List.{flat_map}
use Rattle.regex_ast.specs.declared.expr.Raw.{Raw}
use Rattle.fsm_base.specs.Symbols.{with_text}
use Rattle.project_meaning.specs.Trees.{Body}
use Rattle.project_meaning.specs.Leaves.{Leaf, resolved, symbols_in, names_in}

-- a name and what it stands for
pub record Definition : Type 0 where
  pub name : List ℕ
  pub body : Body Leaf

pub record Project : Type 0 where
  -- the symbols, each once
  pub alphabet : List (List ℕ)
  pub definitions : List Definition

-- a definition as it is written, with the file and the line of its statement
pub record Written : Type 0 where
  pub name : List ℕ
  pub line : ℕ
  pub file : List ℕ
  pub body : Body Raw

abbrev pub names_of : List Written → List (List ℕ)
names_of written = map (λ d. d.name) written

-- a definition where these names are defined
abbrev pub definition_in : List (List ℕ) → Written → Definition
definition_in names d = record { name = d.name; body = resolved names d.body }

-- written definitions, resolved by their own names: a name may stand before or after its definition, in any file
abbrev pub definitions_of : List Written → List Definition
definitions_of written = map (definition_in (names_of written)) written

-- the table's texts, and then each of these that is new, in their order
abbrev pub with_texts : List (List ℕ) → List (List ℕ) → List (List ℕ)
with_texts table [] = table
with_texts table (text ∷ texts) = with_texts (with_text text table) texts

-- the symbols that stand in definitions, and further ones, each once
abbrev pub alphabet_of : List Definition → List (List ℕ) → List (List ℕ)
alphabet_of definitions further = with_texts [] (flat_map (λ d. symbols_in d.body) definitions ++ further)

-- the project of written definitions and further symbols
abbrev pub project_of : List Written → List (List ℕ) → Project
project_of written further = record { alphabet = alphabet_of (definitions_of written) further; definitions = definitions_of written }

-- the project defines the name
abbrev pub Defines : Project → List ℕ → Type 0
Defines project name = (d : Definition) × Contains project.definitions d × (d.name ≡ name)

-- the definition of a name refers to another name, or reaches it by such steps
abbrev pub Refers : Project → List ℕ → List ℕ → Type 0
Refers project name other = (d : Definition) × Contains project.definitions d × (d.name ≡ name) × Contains (names_in d.body) other

pub data Reaches (project : Project) : List ℕ → List ℕ → Type 0 where
  at_once : {name other : List ℕ} → Refers project name other → Reaches project name other
  further : {name next other : List ℕ} → Refers project name next → Reaches project next other → Reaches project name other

-- no name reaches itself
abbrev pub HasNoCycle : Project → Type 0
HasNoCycle project = (name : List ℕ) → Reaches project name name → ⊥

-- each name that a definition refers to is defined
abbrev pub IsClosed : Project → Type 0
IsClosed project = (name other : List ℕ) → Refers project name other → Defines project other
