-- The centres of an expression that is built are built themselves.
use Rattle.std.proofs.Common.{List, [], ◌∷◌, ◌++◌, Bool, All}
use Rattle.std.proofs.lemmas.List.Elements.{All-nil, All-cons, All-append}
use Rattle.regex_ast.specs.Terms.{Term, Terms, Links, Contexts, Steps, Mappings, Groups, empty, any, edge, atom, letters, group, maybe, not_one, cross, suffixed, prefixed, ignore, concat, chain, only, rules, directed, steps, no_term, then_term, no_link, or, and, less, no_context, between, no_step, cross_with, then, no_mapping, plain, markup, insert, no_group, then_group}
use Rattle.expr_kinds.specs.Built.{IsBuiltBy, AreBuiltBy, LinksAreBuiltBy, ContextsAreBuiltBy, StepsAreBuiltBy, MappingsAreBuiltBy, GroupsAreBuiltBy}
use Rattle.project_meaning.specs.Centres.{centres_in, centres_in_contexts, centres_in_each, centres_in_groups, centres_in_links, centres_in_mappings, centres_in_steps}

module _ {A : Type 0} (leaf letter : A → Bool) where
  abbrev Built : Term A → Type 0
  Built e = IsBuiltBy leaf letter e

  two : (xs ys : List (Term A)) → All Built xs → All Built ys → All Built (xs ++ ys)
  two xs ys first second = All-append Built xs ys first second

  none : All Built []
  none = All-nil Built

  mutual
    pub built_within : (e : Term A) → Built e → All Built (centres_in e)
    built_within empty b = none
    built_within any b = none
    built_within edge b = none
    built_within (atom a) b = none
    built_within (letters all) b = none
    built_within (group e) b = built_within e b
    built_within (maybe e) b = built_within e b
    built_within (not_one n e) b = built_within e b
    built_within (cross d e) b = two (centres_in d) (centres_in e) (built_within d b.0) (built_within e b.1)
    built_within (suffixed e suffixes) b = built_within e b
    built_within (prefixed prefixes e) b = built_within e b
    built_within (ignore es) b = each_within es b
    built_within (concat es) b = each_within es b
    built_within (chain e links) b = two (centres_in e) (centres_in_links links) (built_within e b.0) (links_within links b.1)
    built_within (only e contexts) b = two (centres_in e) (centres_in_contexts contexts) (built_within e b.0) (contexts_within contexts b.1)
    built_within (rules optional groups) b = groups_within groups b.1
    built_within (directed way maps contexts) b = two (centres_in_mappings maps) (centres_in_contexts contexts) (mappings_within maps b.1) (contexts_within contexts b.2)
    built_within (steps e more) b = two (centres_in e) (centres_in_steps more) (built_within e b.0) (steps_within more b.1)

    each_within : (es : Terms A) → AreBuiltBy leaf letter es → All Built (centres_in_each es)
    each_within no_term b = none
    each_within (then_term e es) b = two (centres_in e) (centres_in_each es) (built_within e b.0) (each_within es b.1)

    links_within : (links : Links A) → LinksAreBuiltBy leaf letter links → All Built (centres_in_links links)
    links_within no_link b = none
    links_within (or e links) b = two (centres_in e) (centres_in_links links) (built_within e b.0) (links_within links b.1)
    links_within (and e links) b = two (centres_in e) (centres_in_links links) (built_within e b.0) (links_within links b.1)
    links_within (less e links) b = two (centres_in e) (centres_in_links links) (built_within e b.0) (links_within links b.1)

    contexts_within : (contexts : Contexts A) → ContextsAreBuiltBy leaf letter contexts → All Built (centres_in_contexts contexts)
    contexts_within no_context b = none
    contexts_within (between l r contexts) b =
        two (centres_in l ++ centres_in r) (centres_in_contexts contexts) (two (centres_in l) (centres_in r) (built_within l b.0) (built_within r b.1)) (contexts_within contexts b.2)

    steps_within : (more : Steps A) → StepsAreBuiltBy leaf letter more → All Built (centres_in_steps more)
    steps_within no_step b = none
    steps_within (cross_with e more) b = two (centres_in e) (centres_in_steps more) (built_within e b.0) (steps_within more b.1)
    steps_within (then e more) b = two (centres_in e) (centres_in_steps more) (built_within e b.0) (steps_within more b.1)

    mappings_within : (maps : Mappings A) → MappingsAreBuiltBy leaf letter maps → All Built (centres_in_mappings maps)
    mappings_within no_mapping b = none
    mappings_within (plain c r maps) b =
        let own = All-cons Built c (centres_in c) b.1 (built_within c b.1) in
        two (c ∷ centres_in c ++ centres_in r) (centres_in_mappings maps) (two (c ∷ centres_in c) (centres_in r) own (built_within r b.2)) (mappings_within maps b.3)
    mappings_within (markup c before after maps) b =
        let own = All-cons Built c (centres_in c) b.1 (built_within c b.1) in
        two (c ∷ centres_in c ++ centres_in before ++ centres_in after) (centres_in_mappings maps)
        (two (c ∷ centres_in c ++ centres_in before) (centres_in after) (two (c ∷ centres_in c) (centres_in before) own (built_within before b.2)) (built_within after b.3))
        (mappings_within maps b.4)
    mappings_within (insert r maps) b = two (centres_in r) (centres_in_mappings maps) (built_within r b.0) (mappings_within maps b.1)

    groups_within : (groups : Groups A) → GroupsAreBuiltBy leaf letter groups → All Built (centres_in_groups groups)
    groups_within no_group b = none
    groups_within (then_group maps side contexts groups) b =
        two (centres_in_mappings maps ++ centres_in_contexts contexts) (centres_in_groups groups)
        (two (centres_in_mappings maps) (centres_in_contexts contexts) (mappings_within maps b.0) (contexts_within contexts b.1)) (groups_within groups b.2)
