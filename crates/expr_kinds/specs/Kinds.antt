-- Whether an expression is a language or a relation, by its form alone (Beesley and Karttunen, Finite State
-- Morphology, 2003, chapter 2), and whether each operand that must be a language is one.
use Rattle.std.specs.Prelude.{◌≡◌, Bool, true, false, cond, List, [], ◌∷◌}
use Rattle.regex_ast.specs.declared.expr.Suffix.{Suffix}
use Rattle.regex_ast.specs.declared.expr.Suffix.TheVariants.{Upper, Lower}
use Rattle.regex_ast.specs.Terms.{Term, Terms, Links, Contexts, Steps, Mappings, Groups, empty, any, edge, atom, letters, group, maybe, not_one, cross, suffixed, prefixed, ignore, concat, chain, only, rules, directed, steps, no_term, then_term, no_link, or, and, less, no_context, between, no_step, cross_with, then, no_mapping, plain, markup, insert, no_group, then_group}
use Rattle.expr_kinds.specs.declared.half.Half.{Half}
use Rattle.expr_kinds.specs.declared.half.Half.TheVariants.{Nothing, One, Longer}
use Rattle.expr_kinds.specs.declared.form.Kind.{Kind}
use Rattle.expr_kinds.specs.declared.form.Kind.TheVariants.{Language, Relation}

-- what is known of leaves: the kind of each, a symbol being a language and a name what its definition is; and
-- whether two of them are the same symbol
pub record Leaves (A : Type 0) : Type 0 where
  pub kind : A → Kind
  pub same : A → A → Bool

-- a language where both are, else a relation
abbrev pub both : Kind → Kind → Kind
both Language other = other
both Relation other = Relation

-- a side of a colon without its square brackets: the empty string, one leaf, or anything else
abbrev pub half : {A : Type 0} → Term A → Half A
half empty = Nothing
half (atom a) = One a
half (letters (a ∷ [])) = One a
half (group e) = half e
half _ = Longer

-- both are empty, or the same symbol
abbrev pub are_alike : {A : Type 0} → (A → A → Bool) → Half A → Half A → Bool
are_alike same Nothing Nothing = true
are_alike same (One a) (One b) = same a b
are_alike same _ _ = false

-- the upper and the lower side are languages; the other suffixes leave the kind as it is
abbrev pub kind_behind : Kind → Suffix → Kind
kind_behind kind Upper = Language
kind_behind kind Lower = Language
kind_behind kind _ = kind

abbrev pub with_suffixes : Kind → List Suffix → Kind
with_suffixes kind [] = kind
with_suffixes kind (suffix ∷ suffixes) = with_suffixes (kind_behind kind suffix) suffixes

abbrev mutual
  -- a language or a relation. A colon between two empty sides or the same symbol twice is a language, every other
  -- one a relation; so are `.x.` and replacement. Every other operator gives a language where all its operands are
  -- languages, else a relation
  pub kind_of : {A : Type 0} → Leaves A → Term A → Kind
  kind_of leaves empty = Language
  kind_of leaves any = Language
  kind_of leaves edge = Language
  kind_of leaves (atom a) = leaves.kind a
  kind_of leaves (letters all) = Language
  kind_of leaves (group e) = kind_of leaves e
  kind_of leaves (maybe e) = kind_of leaves e
  kind_of leaves (not_one n e) = kind_of leaves e
  kind_of leaves (cross e f) = cond (are_alike leaves.same (half e) (half f)) Language Relation
  kind_of leaves (suffixed e suffixes) = with_suffixes (kind_of leaves e) suffixes
  kind_of leaves (prefixed prefixes e) = kind_of leaves e
  kind_of leaves (ignore es) = kind_of_each leaves es
  kind_of leaves (concat es) = kind_of_each leaves es
  kind_of leaves (chain e links) = kind_of_chain leaves (kind_of leaves e) links
  kind_of leaves (only e contexts) = both (kind_of leaves e) (kind_of_contexts leaves contexts)
  kind_of leaves (rules optional groups) = Relation
  kind_of leaves (directed way maps contexts) = Relation
  kind_of leaves (steps e more) = kind_of_steps leaves (kind_of leaves e) more

  pub kind_of_each : {A : Type 0} → Leaves A → Terms A → Kind
  kind_of_each leaves no_term = Language
  kind_of_each leaves (then_term e es) = both (kind_of leaves e) (kind_of_each leaves es)

  -- a row from left to right, by the kind of what stands before
  pub kind_of_chain : {A : Type 0} → Leaves A → Kind → Links A → Kind
  kind_of_chain leaves before no_link = before
  kind_of_chain leaves before (or e links) = kind_of_chain leaves (both before (kind_of leaves e)) links
  kind_of_chain leaves before (and e links) = kind_of_chain leaves (both before (kind_of leaves e)) links
  kind_of_chain leaves before (less e links) = kind_of_chain leaves (both before (kind_of leaves e)) links

  pub kind_of_steps : {A : Type 0} → Leaves A → Kind → Steps A → Kind
  kind_of_steps leaves before no_step = before
  kind_of_steps leaves before (cross_with e more) = kind_of_steps leaves Relation more
  kind_of_steps leaves before (then e more) = kind_of_steps leaves (both before (kind_of leaves e)) more

  pub kind_of_contexts : {A : Type 0} → Leaves A → Contexts A → Kind
  kind_of_contexts leaves no_context = Language
  kind_of_contexts leaves (between l r contexts) = both (both (kind_of leaves l) (kind_of leaves r)) (kind_of_contexts leaves contexts)

abbrev pub IsLanguage : {A : Type 0} → Leaves A → Term A → Type 0
IsLanguage leaves e = kind_of leaves e ≡ Language

abbrev mutual
  -- every operand that must be a language is one, at every depth: those of `\`, `~`, `$`, `/`, `&`, `-`, `:` and `.x.`,
  -- both sides of `=>`, and the centres, results and contexts of replacement
  pub Fits : {A : Type 0} → Leaves A → Term A → Type 0
  Fits leaves empty = Unit {0}
  Fits leaves any = Unit {0}
  Fits leaves edge = Unit {0}
  Fits leaves (atom a) = Unit {0}
  Fits leaves (letters all) = Unit {0}
  Fits leaves (group e) = Fits leaves e
  Fits leaves (maybe e) = Fits leaves e
  Fits leaves (not_one n e) = IsLanguage leaves e × Fits leaves e
  Fits leaves (cross e f) = IsLanguage leaves e × Fits leaves e × IsLanguage leaves f × Fits leaves f
  Fits leaves (suffixed e suffixes) = Fits leaves e
  Fits leaves (prefixed prefixes e) = IsLanguage leaves e × Fits leaves e
  Fits leaves (ignore es) = EachFitsAsLanguage leaves es
  Fits leaves (concat es) = EachFits leaves es
  Fits leaves (chain e links) = Fits leaves e × ChainFits leaves (kind_of leaves e) links
  Fits leaves (only e contexts) = IsLanguage leaves e × Fits leaves e × ContextsFit leaves contexts
  Fits leaves (rules optional groups) = GroupsFit leaves groups
  Fits leaves (directed way maps contexts) = MappingsFit leaves maps × ContextsFit leaves contexts
  Fits leaves (steps e more) = Fits leaves e × StepsFit leaves (kind_of leaves e) more

  pub EachFits : {A : Type 0} → Leaves A → Terms A → Type 0
  EachFits leaves no_term = Unit {0}
  EachFits leaves (then_term e es) = Fits leaves e × EachFits leaves es

  pub EachFitsAsLanguage : {A : Type 0} → Leaves A → Terms A → Type 0
  EachFitsAsLanguage leaves no_term = Unit {0}
  EachFitsAsLanguage leaves (then_term e es) = IsLanguage leaves e × Fits leaves e × EachFitsAsLanguage leaves es

  -- a row from left to right, by the kind of what stands before
  pub ChainFits : {A : Type 0} → Leaves A → Kind → Links A → Type 0
  ChainFits leaves before no_link = Unit {0}
  ChainFits leaves before (or e links) = Fits leaves e × ChainFits leaves (both before (kind_of leaves e)) links
  ChainFits leaves before (and e links) = (before ≡ Language) × IsLanguage leaves e × Fits leaves e × ChainFits leaves (both before (kind_of leaves e)) links
  ChainFits leaves before (less e links) = (before ≡ Language) × IsLanguage leaves e × Fits leaves e × ChainFits leaves (both before (kind_of leaves e)) links

  pub StepsFit : {A : Type 0} → Leaves A → Kind → Steps A → Type 0
  StepsFit leaves before no_step = Unit {0}
  StepsFit leaves before (cross_with e more) = (before ≡ Language) × IsLanguage leaves e × Fits leaves e × StepsFit leaves Relation more
  StepsFit leaves before (then e more) = Fits leaves e × StepsFit leaves (both before (kind_of leaves e)) more

  pub ContextsFit : {A : Type 0} → Leaves A → Contexts A → Type 0
  ContextsFit leaves no_context = Unit {0}
  ContextsFit leaves (between l r contexts) = IsLanguage leaves l × Fits leaves l × IsLanguage leaves r × Fits leaves r × ContextsFit leaves contexts

  pub MappingsFit : {A : Type 0} → Leaves A → Mappings A → Type 0
  MappingsFit leaves no_mapping = Unit {0}
  MappingsFit leaves (plain c r maps) = IsLanguage leaves c × Fits leaves c × IsLanguage leaves r × Fits leaves r × MappingsFit leaves maps
  MappingsFit leaves (markup c b a maps) = IsLanguage leaves c × Fits leaves c × IsLanguage leaves b × Fits leaves b × IsLanguage leaves a × Fits leaves a × MappingsFit leaves maps
  MappingsFit leaves (insert r maps) = IsLanguage leaves r × Fits leaves r × MappingsFit leaves maps

  pub GroupsFit : {A : Type 0} → Leaves A → Groups A → Type 0
  GroupsFit leaves no_group = Unit {0}
  GroupsFit leaves (then_group maps side contexts groups) = MappingsFit leaves maps × ContextsFit leaves contexts × GroupsFit leaves groups
