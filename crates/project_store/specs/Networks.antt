-- What a compiled definition is, and which project it shows.
use Rattle.std.specs.Prelude.{◌≡◌, ◌↔◌, ℕ, List, Option, None, Some}
use Rattle.fsm_base.specs.declared.letters.Sym.{Sym}
use Rattle.fsm_base.specs.Alphabet.{IsAlphabet, texts_of, spelled}
use Rattle.project_meaning.specs.Projects.{Project, Defines}
use Rattle.project_meaning.specs.Meaning.{Meaning}
use Rattle.interlinear.specs.Glosses.{Entry}
use Rattle.lookup_answers.specs.declared.direction.Direction.{Direction}
use Rattle.lookup_answers.specs.declared.direction.Direction.TheVariants.{Up, Down}
use Rattle.lookup.specs.Answering.{IsOverAlphabet, UpperTexts, LowerTexts}
use Rattle.lookup.specs.Nets.{NetView, NetRelates}

-- a name with its network, over the symbols of an alphabet; it has none where the project doesn't define the name. And the
-- glosses in which words are told
pub record NetworkView : Type 0 where
  pub alphabet : List (Sym × List ℕ)
  pub name : List ℕ
  pub net : Option NetView
  pub glosses : List Entry

-- the network is over the alphabet, and has the relation of the project's name
pub record ShowsName (alphabet : List (Sym × List ℕ)) (name : List ℕ) (net : NetView) (project : Project) : Type 0 where
  pub defined : Defines project name
  pub over : IsOverAlphabet alphabet net
  pub relates : (u w : List (List ℕ)) → Meaning project name u w
      ↔ ((upper : List Sym) × (lower : List Sym) × NetRelates net upper lower × (u ≡ spelled alphabet upper) × (w ≡ spelled alphabet lower))

abbrev pub ShowsNet : List (Sym × List ℕ) → List ℕ → Option NetView → Project → Type 0
ShowsNet alphabet name None project = ¬ (Defines project name)
ShowsNet alphabet name (Some net) project = ShowsName alphabet name net project

-- the network has the project's alphabet, and what the project says of its name
pub record Shows (network : NetworkView) (project : Project) : Type 0 where
  pub formed : IsAlphabet network.alphabet
  pub alphabet : project.alphabet ≡ texts_of network.alphabet
  pub net : ShowsNet network.alphabet network.name network.net project

-- the texts of the words that the network relates to this word
abbrev pub TextsTo : Direction → NetView → List (Sym × List ℕ) → List Sym → List ℕ → Type 0
TextsTo Up net alphabet word = UpperTexts net alphabet word
TextsTo Down net alphabet word = LowerTexts net alphabet word
