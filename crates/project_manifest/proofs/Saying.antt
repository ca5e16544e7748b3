-- What the words of a line say, by its keyword.
use Rattle.std.proofs.Common.{◌≡◌, ℕ, List, [], ◌∷◌, map, Option, Some, None, refl, sym, ap, subst, ◌∙◌}
use Rattle.std.specs.List.{list_all}
use Rattle.std.specs.Prelude.{IsTrue}
use Rattle.regex_reader.specs.Files.{is_name}
use Rattle.project_manifest.specs.Lines.{IsFine, Line, SaysLine, alphabet_line, gloss_line, keyword_of, lexc_line, line_in, require_line, said_behind, twolc_line, xfst_line}
use Rattle.project_manifest.specs.Manifests.{text_of}
use Rattle.project_manifest.specs.Sayings.{AreNames, AreSymbols, IsFile, IsNamedFile, SaysBy}
use Rattle.project_manifest.specs.declared.keywords.Keyword.{Keyword}
use Rattle.project_manifest.specs.declared.keywords.Keyword.TheVariants.{Lexc, Twolc, Xfst, Alphabet, Require, Gloss}

-- a line that these words are
fine_at : (said line : Line) (words : List (List ℕ)) → Some line ≡ Some said → IsFine said words → IsFine line words
fine_at said line words is fine = let same : said ≡ line = cc in subst (λ (l : Line). IsFine l words) same fine

nothing : (said : Line) → None ≡ Some said → ⊥
nothing said is = cc

-- `lexc NAME FILE`, and the like
pub lexc_says : (words : List (List ℕ)) (name file : List ℕ) → IsNamedFile words name file → SaysBy Lexc words (lexc_line name file)
lexc_says words name file (is, named, fine) = subst (λ (w : List (List ℕ)). SaysBy Lexc w (lexc_line name file)) (sym is) (refl, (named, fine))

pub lexc_none : (words : List (List ℕ)) → ((name file : List ℕ) → IsNamedFile words name file → ⊥) → (said : Line) → SaysBy Lexc words said → ⊥
lexc_none [] none said (is, fine) = nothing said is
lexc_none (a ∷ []) none said (is, fine) = nothing said is
lexc_none (a ∷ b ∷ []) none said (is, fine) = let both = fine_at said (lexc_line a b) (a ∷ b ∷ []) is fine in none a b (refl, both.0, both.1)
lexc_none (a ∷ b ∷ c ∷ words) none said (is, fine) = nothing said is

pub twolc_says : (words : List (List ℕ)) (name file : List ℕ) → IsNamedFile words name file → SaysBy Twolc words (twolc_line name file)
twolc_says words name file (is, named, fine) = subst (λ (w : List (List ℕ)). SaysBy Twolc w (twolc_line name file)) (sym is) (refl, (named, fine))

pub twolc_none : (words : List (List ℕ)) → ((name file : List ℕ) → IsNamedFile words name file → ⊥) → (said : Line) → SaysBy Twolc words said → ⊥
twolc_none [] none said (is, fine) = nothing said is
twolc_none (a ∷ []) none said (is, fine) = nothing said is
twolc_none (a ∷ b ∷ []) none said (is, fine) = let both = fine_at said (twolc_line a b) (a ∷ b ∷ []) is fine in none a b (refl, both.0, both.1)
twolc_none (a ∷ b ∷ c ∷ words) none said (is, fine) = nothing said is

-- `xfst FILE` and `gloss FILE`
pub xfst_says : (words : List (List ℕ)) (file : List ℕ) → IsFile words file → SaysBy Xfst words (xfst_line file)
xfst_says words file (is, fine) = subst (λ (w : List (List ℕ)). SaysBy Xfst w (xfst_line file)) (sym is) (refl, fine)

pub xfst_none : (words : List (List ℕ)) → ((file : List ℕ) → IsFile words file → ⊥) → (said : Line) → SaysBy Xfst words said → ⊥
xfst_none [] none said (is, fine) = nothing said is
xfst_none (a ∷ []) none said (is, fine) = none a (refl, fine_at said (xfst_line a) (a ∷ []) is fine)
xfst_none (a ∷ b ∷ words) none said (is, fine) = nothing said is

pub gloss_says : (words : List (List ℕ)) (file : List ℕ) → IsFile words file → SaysBy Gloss words (gloss_line file)
gloss_says words file (is, fine) = subst (λ (w : List (List ℕ)). SaysBy Gloss w (gloss_line file)) (sym is) (refl, fine)

pub gloss_none : (words : List (List ℕ)) → ((file : List ℕ) → IsFile words file → ⊥) → (said : Line) → SaysBy Gloss words said → ⊥
gloss_none [] none said (is, fine) = nothing said is
gloss_none (a ∷ []) none said (is, fine) = none a (refl, fine_at said (gloss_line a) (a ∷ []) is fine)
gloss_none (a ∷ b ∷ words) none said (is, fine) = nothing said is

-- `alphabet SYM ..` and `require NAME ..`
some_word : (word : List ℕ) (words : List (List ℕ)) → word ∷ words ≡ [] → ⊥
some_word word words is = cc

pub alphabet_says : (words texts : List (List ℕ)) → AreSymbols words → texts ≡ map text_of words → SaysBy Alphabet words (alphabet_line texts)
alphabet_says [] texts (some, all) is = absurd (some refl)
alphabet_says (word ∷ words) texts (some, all) is = (ap (λ (t : List (List ℕ)). Some (alphabet_line t)) (sym is), all)

pub alphabet_none : (words : List (List ℕ)) → (AreSymbols words → ⊥) → (said : Line) → SaysBy Alphabet words said → ⊥
alphabet_none [] none said (is, fine) = nothing said is
alphabet_none (word ∷ words) none said (is, fine) = none (some_word word words, fine_at said (alphabet_line (map text_of (word ∷ words))) (word ∷ words) is fine)

pub require_says : (words names : List (List ℕ)) → AreNames words → names ≡ words → SaysBy Require words (require_line names)
require_says [] names (some, all) is = absurd (some refl)
require_says (word ∷ words) names (some, all) is = (ap (λ (t : List (List ℕ)). Some (require_line t)) (sym is), subst (λ (t : List (List ℕ)). IsTrue (list_all is_name t)) (sym is) all)

pub require_none : (words : List (List ℕ)) → (AreNames words → ⊥) → (said : Line) → SaysBy Require words said → ⊥
require_none [] none said (is, fine) = nothing said is
require_none (word ∷ words) none said (is, fine) = none (some_word word words, fine_at said (require_line (word ∷ words)) (word ∷ words) is fine)

-- The words of a line, the first of which is its keyword.
module _ (words : List (List ℕ)) (first : List ℕ) (others : List (List ℕ)) (split : words ≡ first ∷ others) where
  abbrev SaysOf : Option Keyword → Line → Type 0
  SaysOf keyword said = (said_behind keyword others ≡ Some said) × IsFine said others

  pub line_says : (keyword : Keyword) (said : Line) → Some keyword ≡ keyword_of first → SaysBy keyword others said → SaysLine words said
  line_says keyword said is says = subst (λ (w : List (List ℕ)). SaysLine w said) (sym split) (subst (λ (k : Option Keyword). SaysOf k said) is says)

  pub line_none : (keyword : Keyword) → Some keyword ≡ keyword_of first → ((said : Line) → SaysBy keyword others said → ⊥) → (said : Line) → SaysLine words said → ⊥
  line_none keyword is none said says = none said (subst (λ (k : Option Keyword). SaysOf k said) (sym is) (subst (λ (w : List (List ℕ)). SaysLine w said) split says))

  pub no_keyword : None ≡ keyword_of first → (said : Line) → SaysLine words said → ⊥
  no_keyword is said says = nothing said (subst (λ (k : Option Keyword). SaysOf k said) (sym is) (subst (λ (w : List (List ℕ)). SaysLine w said) split says)).0

pub no_line : (words : List (List ℕ)) → words ≡ [] → (said : Line) → SaysLine words said → ⊥
no_line words none said says = subst (λ (w : List (List ℕ)). SaysLine w said) none says

-- words say one thing
pub one_line : (words : List (List ℕ)) (a b : Line) → SaysLine words a → SaysLine words b → a ≡ b
one_line [] a b p q = absurd p
one_line (word ∷ words) a b p q = let e : Some a ≡ Some b = sym p.0 ∙ q.0 in cc

-- the line of words that say something
pub line_is : (words : List (List ℕ)) (said : Line) → SaysLine words said → line_in words ≡ Some said
line_is [] said says = absurd says
line_is (word ∷ words) said says = says.0
