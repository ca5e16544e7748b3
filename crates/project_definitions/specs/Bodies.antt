-- What bodies are by what is known of their leaves: their kind and weight, whether they fit, and with other leaves.
use Rattle.std.specs.Prelude.{◌+◌, ℕ, Bool, List, [], ◌∷◌, codes, All, Contains, length, map, sum_by}
use Rattle.word_relations.specs.Words.{IsDistinct}
use Rattle.expr_kinds.specs.Kinds.{Leaves, kind_of, Fits}
use Rattle.expr_kinds.specs.Weights.{weight_of}
use Rattle.expr_kinds.specs.declared.form.Kind.{Kind}
use Rattle.expr_kinds.specs.declared.form.Kind.TheVariants.{Relation}
use Rattle.expr_leaves.specs.Mapped.{mapped}
use Rattle.project_meaning.specs.Trees.{Form, sides, pairs, Entry, Lexicon, Body, xfst, lexc, twolc}
use Rattle.project_meaning.specs.Leaves.{expressions_in, expressions_of}
use Rattle.expr_spelling.specs.Mapped.{mapped_lexicon}
use Rattle.grammar_pairs.specs.Mapped.{mapped_grammar}
use Rattle.grammar_pairs.specs.Plain.{IsFormed as GrammarIsFormed}
use Rattle.grammar_weights.specs.Weights.{grammar_weight}

-- an expression has its own kind, lexicons and grammars are relations
abbrev pub kind_of_body : {A : Type 0} → Leaves A → Body A → Kind
kind_of_body leaves (xfst e) = kind_of leaves e
kind_of_body leaves _ = Relation

-- in each expression each operand that must be a language is one
abbrev pub FormFitsBy : {A : Type 0} → Leaves A → Form A → Type 0
FormFitsBy leaves form = All (Fits leaves) (expressions_in form)

abbrev pub LexiconFitsBy : {A : Type 0} → Leaves A → Lexicon A → Type 0
LexiconFitsBy leaves lexicon = All (λ entry. FormFitsBy leaves entry.form) lexicon.entries

abbrev pub BodyFitsBy : {A : Type 0} → Leaves A → Body A → Type 0
BodyFitsBy leaves body = All (Fits leaves) (expressions_of body)

-- lexicons have names of their own, and one is `Root`
pub record AreRooted {A : Type 0} (lexicons : List (Lexicon A)) : Type 0 where
  pub distinct : IsDistinct (map (λ l. l.name) lexicons)
  pub root : Contains (map (λ l. l.name) lexicons) (codes "Root")

-- lexicons are such, and the expressions and rules of a grammar have the forms that stand in a text
abbrev pub IsFormed : {A : Type 0} → Body A → Type 0
IsFormed (xfst e) = Unit {0}
IsFormed (lexc lexicons) = AreRooted lexicons
IsFormed (twolc grammar) = GrammarIsFormed grammar

-- the entries of a lexicon that weigh something: declared symbols, which are a lexicon with the empty name, weigh nothing
abbrev pub weighty : {A : Type 0} → List ℕ → List (Entry A) → List (Entry A)
weighty [] entries = []
weighty (b ∷ bs) entries = entries

-- by the weight of each leaf
module _ {A : Type 0} (leaf : A → ℕ) where
  -- the pieces of both sides of an entry, or its expression, and one more
  abbrev pub form_weight : Form A → ℕ
  form_weight (sides upper lower) = length upper + length lower + 1
  form_weight (pairs e) = weight_of leaf e + 1

  abbrev pub lexicon_weight : Lexicon A → ℕ
  lexicon_weight lexicon = sum_by (λ entry. form_weight entry.form) (weighty lexicon.name lexicon.entries)

-- by the weight of each leaf, and which leaves are the same symbol
abbrev pub weight_of_body : {A : Type 0} → (A → ℕ) → (A → A → Bool) → Body A → ℕ
weight_of_body leaf same (xfst e) = weight_of leaf e
weight_of_body leaf same (lexc lexicons) = sum_by (lexicon_weight leaf) lexicons
weight_of_body leaf same (twolc grammar) = grammar_weight same grammar

-- the same body with another leaf for each
abbrev pub mapped_body : {A B : Type 0} → (A → B) → Body A → Body B
mapped_body f (xfst e) = xfst (mapped f e)
mapped_body f (lexc lexicons) = lexc (map (mapped_lexicon f f) lexicons)
mapped_body f (twolc grammar) = twolc (mapped_grammar f grammar)
