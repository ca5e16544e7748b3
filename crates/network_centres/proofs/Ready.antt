-- The centres of an expression that is built and fits are languages, and are built and fit themselves.
use Rattle.std.proofs.Common.{List, [], ◌∷◌, ◌++◌, Bool, All}
use Rattle.std.proofs.lemmas.List.Elements.{All-nil, All-cons, All-append}
use Rattle.regex_ast.specs.Terms.{Term, Terms, Links, Contexts, Steps, Mappings, Groups, empty, any, edge, atom, letters, group, maybe, not_one, cross, suffixed, prefixed, ignore, concat, chain, only, rules, directed, steps, no_term, then_term, no_link, or, and, less, no_context, between, no_step, cross_with, then, no_mapping, plain, markup, insert, no_group, then_group}
use Rattle.expr_kinds.specs.Built.{AnyCentre, AreBuiltWith, LinksAreBuiltWith, ContextsAreBuiltWith, StepsAreBuiltWith, MappingsAreBuiltWith, GroupsAreBuiltWith, IsBuiltWith}
use Rattle.expr_kinds.specs.Kinds.{Leaves, ChainFits, ContextsFit, EachFits, EachFitsAsLanguage, Fits, GroupsFit, IsLanguage, MappingsFit, StepsFit, both, kind_of}
use Rattle.expr_kinds.specs.declared.form.Kind.{Kind}
use Rattle.expr_kinds.specs.declared.form.Kind.TheVariants.{Relation}
use Rattle.project_meaning.specs.Centres.{centres_in, centres_in_contexts, centres_in_each, centres_in_groups, centres_in_links, centres_in_mappings, centres_in_steps}

module _ {A : Type 0} (leaf letter : A → Bool) (leaves : Leaves A) where
  -- what is asked of an expression whose language is built, but for its centres
  pub record IsReady (e : Term A) : Type 0 where
    pub built : IsBuiltWith leaf letter AnyCentre e
    pub fits : Fits leaves e
    pub language : IsLanguage leaves e

  two : (xs ys : List (Term A)) → All IsReady xs → All IsReady ys → All IsReady (xs ++ ys)
  two xs ys first second = All-append IsReady xs ys first second

  none : All IsReady []
  none = All-nil IsReady

  mutual
    pub ready_in : (e : Term A) → IsBuiltWith leaf letter AnyCentre e → Fits leaves e → All IsReady (centres_in e)
    ready_in empty b f = none
    ready_in any b f = none
    ready_in edge b f = none
    ready_in (atom a) b f = none
    ready_in (letters all) b f = none
    ready_in (group e) b f = ready_in e b f
    ready_in (maybe e) b f = ready_in e b f
    ready_in (not_one n e) b f = ready_in e b f.1
    ready_in (cross d e) b f = two (centres_in d) (centres_in e) (ready_in d b.0 f.1) (ready_in e b.1 f.3)
    ready_in (suffixed e suffixes) b f = ready_in e b f
    ready_in (prefixed prefixes e) b f = ready_in e b f.1
    ready_in (ignore es) b f = ready_ignored es b f
    ready_in (concat es) b f = ready_each es b f
    ready_in (chain e links) b f = two (centres_in e) (centres_in_links links) (ready_in e b.0 f.0) (ready_links (kind_of leaves e) links b.1 f.1)
    ready_in (only e contexts) b f = two (centres_in e) (centres_in_contexts contexts) (ready_in e b.0 f.1) (ready_contexts contexts b.1 f.2)
    ready_in (rules optional groups) b f = ready_groups groups b.1 f
    ready_in (directed way maps contexts) b f = two (centres_in_mappings maps) (centres_in_contexts contexts) (ready_mappings maps b.1 f.0) (ready_contexts contexts b.2 f.1)
    ready_in (steps e more) b f = two (centres_in e) (centres_in_steps more) (ready_in e b.0 f.0) (ready_steps (kind_of leaves e) more b.1 f.1)

    ready_each : (es : Terms A) → AreBuiltWith leaf letter AnyCentre es → EachFits leaves es → All IsReady (centres_in_each es)
    ready_each no_term b f = none
    ready_each (then_term e es) b f = two (centres_in e) (centres_in_each es) (ready_in e b.0 f.0) (ready_each es b.1 f.1)

    ready_ignored : (es : Terms A) → AreBuiltWith leaf letter AnyCentre es → EachFitsAsLanguage leaves es → All IsReady (centres_in_each es)
    ready_ignored no_term b f = none
    ready_ignored (then_term e es) b f = two (centres_in e) (centres_in_each es) (ready_in e b.0 f.1) (ready_ignored es b.1 f.2)

    ready_links : (before : Kind) (links : Links A) → LinksAreBuiltWith leaf letter AnyCentre links → ChainFits leaves before links → All IsReady (centres_in_links links)
    ready_links before no_link b f = none
    ready_links before (or e links) b f = two (centres_in e) (centres_in_links links) (ready_in e b.0 f.0) (ready_links (both before (kind_of leaves e)) links b.1 f.1)
    ready_links before (and e links) b f = two (centres_in e) (centres_in_links links) (ready_in e b.0 f.2) (ready_links (both before (kind_of leaves e)) links b.1 f.3)
    ready_links before (less e links) b f = two (centres_in e) (centres_in_links links) (ready_in e b.0 f.2) (ready_links (both before (kind_of leaves e)) links b.1 f.3)

    ready_contexts : (contexts : Contexts A) → ContextsAreBuiltWith leaf letter AnyCentre contexts → ContextsFit leaves contexts → All IsReady (centres_in_contexts contexts)
    ready_contexts no_context b f = none
    ready_contexts (between l r contexts) b f =
        two (centres_in l ++ centres_in r) (centres_in_contexts contexts) (two (centres_in l) (centres_in r) (ready_in l b.0 f.1) (ready_in r b.1 f.3)) (ready_contexts contexts b.2 f.4)

    ready_steps : (before : Kind) (more : Steps A) → StepsAreBuiltWith leaf letter AnyCentre more → StepsFit leaves before more → All IsReady (centres_in_steps more)
    ready_steps before no_step b f = none
    ready_steps before (cross_with e more) b f = two (centres_in e) (centres_in_steps more) (ready_in e b.0 f.2) (ready_steps Relation more b.1 f.3)
    ready_steps before (then e more) b f = two (centres_in e) (centres_in_steps more) (ready_in e b.0 f.0) (ready_steps (both before (kind_of leaves e)) more b.1 f.1)

    ready_mappings : (maps : Mappings A) → MappingsAreBuiltWith leaf letter AnyCentre maps → MappingsFit leaves maps → All IsReady (centres_in_mappings maps)
    ready_mappings no_mapping b f = none
    ready_mappings (plain c r maps) b f =
        let own = All-cons IsReady c (centres_in c) (record { built = b.1; fits = f.1; language = f.0 }) (ready_in c b.1 f.1) in
        two (c ∷ centres_in c ++ centres_in r) (centres_in_mappings maps) (two (c ∷ centres_in c) (centres_in r) own (ready_in r b.2 f.3)) (ready_mappings maps b.3 f.4)
    ready_mappings (markup c before after maps) b f =
        let own = All-cons IsReady c (centres_in c) (record { built = b.1; fits = f.1; language = f.0 }) (ready_in c b.1 f.1) in
        two (c ∷ centres_in c ++ centres_in before ++ centres_in after) (centres_in_mappings maps)
        (two (c ∷ centres_in c ++ centres_in before) (centres_in after) (two (c ∷ centres_in c) (centres_in before) own (ready_in before b.2 f.3)) (ready_in after b.3 f.5))
        (ready_mappings maps b.4 f.6)
    ready_mappings (insert r maps) b f = two (centres_in r) (centres_in_mappings maps) (ready_in r b.0 f.1) (ready_mappings maps b.1 f.2)

    ready_groups : (groups : Groups A) → GroupsAreBuiltWith leaf letter AnyCentre groups → GroupsFit leaves groups → All IsReady (centres_in_groups groups)
    ready_groups no_group b f = none
    ready_groups (then_group maps side contexts groups) b f =
        two (centres_in_mappings maps ++ centres_in_contexts contexts) (centres_in_groups groups)
        (two (centres_in_mappings maps) (centres_in_contexts contexts) (ready_mappings maps b.0 f.0) (ready_contexts contexts b.1 f.1)) (ready_groups groups b.2 f.2)
