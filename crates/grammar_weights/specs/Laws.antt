-- The weight of a grammar by other leaves.
use Rattle.std.specs.Prelude.{◌≡◌, All, Bool}
use Rattle.std.specs.Str.{bytes_eq}
use Rattle.project_meaning.specs.Grammars.{grammar_weight as meant_weight}
use Rattle.project_meaning.specs.Leaves.{Leaf}
use Rattle.project_meaning.specs.Lexicons.{text_in}
use Rattle.project_meaning.specs.Trees.{Grammar}
use Rattle.grammar_pairs.specs.Mapped.{mapped_grammar}
use Rattle.name_resolution.specs.Leaves.{leaves_in}
use Rattle.grammar_weights.specs.Weights.{grammar_weight}

-- leaves that are replaced count as the same where what they are replaced by is
abbrev pub MappedWeighs : (A B : Type 0) → Type 0
MappedWeighs A B = (same : B → B → Bool) (f : A → B) (g : Grammar A) → grammar_weight same (mapped_grammar f g) ≡ grammar_weight (λ a b. same (f a) (f b)) g

-- in a project leaves are the same where their texts are
abbrev pub MeantWeighs : Type 0
MeantWeighs = (g : Grammar Leaf) → meant_weight g ≡ grammar_weight (λ a b. bytes_eq (text_in a) (text_in b)) g

-- tests that agree on leaves with a property, which those of the grammar have
abbrev pub AlikeWeighs : (A : Type 0) → (A → Type 0) → Type 0
AlikeWeighs A P =
    (same other : A → A → Bool) → ((a b : A) → P a → P b → same a b ≡ other a b)
    → (g : Grammar A) → All P (leaves_in g) → grammar_weight same g ≡ grammar_weight other g
