-- The languages of two names, compared.
use Rattle.std.specs.Prelude.{◌≡◌, ◌++◌, ◌∷◌, ℕ, List, length, codes, decimal}
use Rattle.word_relations.specs.Words.{joined}
use Rattle.expr_kinds.specs.declared.form.Kind.TheVariants.{Language, Relation}
use Rattle.lang_equal.specs.Difference.{Differs, IsOutside, IsShortest}
use Rattle.project_meaning.specs.Forms.{kind_in}
use Rattle.project_meaning.specs.Meaning.{Meaning, Word}
use Rattle.project_meaning.specs.Projects.{Project, Defines}
use Rattle.reply_meaning.specs.Replies.{headed}
use Rattle.named_networks.specs.Responses.{Response, answer, refusal}
use Rattle.named_networks.specs.declared.told.Question.{Question}
use Rattle.named_networks.specs.declared.told.Question.TheVariants.{Equal, Within}

-- the words of a name that is a language: those that it relates to themselves
abbrev pub HasWord : Project → List ℕ → Word → Type 0
HasWord project name word = Meaning project name word word

-- the project defines the name, and by its form it is a language
abbrev pub IsLanguage : Project → List ℕ → Type 0
IsLanguage project name = Defines project name × (kind_in project name ≡ Language)

-- why two names aren't compared: one of them isn't defined, and else one isn't a language by its form
pub data IsWhyNot (project : Project) (first second : List ℕ) (why : List ℕ) : Type 0 where
  no_first : ¬ (Defines project first) → why ≡ codes "net " ++ first → IsWhyNot project first second why
  no_second : Defines project first → ¬ (Defines project second) → why ≡ codes "net " ++ second → IsWhyNot project first second why
  first_relation : Defines project first → Defines project second → kind_in project first ≡ Relation → why ≡ codes "relation " ++ first → IsWhyNot project first second why
  second_relation : IsLanguage project first → Defines project second → kind_in project second ≡ Relation → why ≡ codes "relation " ++ second → IsWhyNot project first second why

-- a word by the number of its symbols and its text
abbrev pub word_told : Word → List ℕ
word_told word = decimal (length word) ++ 32 ∷ joined word

-- whether two languages are the same: they are, or a shortest word that is in exactly one of them, and in which
pub data AreTold (P Q : Word → Type 0) : Question → List ℕ → Type 0 where
  same : {rest : List ℕ} → ((w : Word) → ¬ (Differs P Q w)) → rest ≡ codes "same" → AreTold P Q Equal rest
  in_first : {rest : List ℕ} (word : Word) → IsShortest (Differs P Q) word → P word → rest ≡ codes "differ 1 " ++ word_told word → AreTold P Q Equal rest
  in_second : {rest : List ℕ} (word : Word) → IsShortest (Differs P Q) word → Q word → rest ≡ codes "differ 2 " ++ word_told word → AreTold P Q Equal rest
  -- whether the first is within the second: it is, or a shortest word of the first that isn't in the second
  within : {rest : List ℕ} → ((w : Word) → ¬ (IsOutside P Q w)) → rest ≡ codes "within" → AreTold P Q Within rest
  outside : {rest : List ℕ} (word : Word) → IsShortest (IsOutside P Q) word → rest ≡ codes "outside " ++ word_told word → AreTold P Q Within rest

-- the line that tells how the languages of two names compare
abbrev pub IsComparison : Project → ℕ → Question → List ℕ → List ℕ → List ℕ → Type 0
IsComparison project version question first second line = (rest : List ℕ) × AreTold (HasWord project first) (HasWord project second) question rest × (line ≡ headed version rest)

-- what is told of two names: why they aren't compared, or how their languages compare
pub data IsCompared (project : Project) (version : ℕ) (question : Question) (first second : List ℕ) (told : Response) : Type 0 where
  refused : (why : List ℕ) → IsWhyNot project first second why → told ≡ refusal (headed version why) → IsCompared project version question first second told
  compared : (line : List ℕ) → IsLanguage project first → IsLanguage project second → IsComparison project version question first second line → told ≡ answer line → IsCompared project version question first second told
