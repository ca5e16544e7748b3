-- What is asked of all centres in an expression is asked of it as a whole.
use Rattle.std.proofs.Common.{List, ◌∷◌, ◌++◌, Bool, All}
use Rattle.std.proofs.lemmas.List.Elements.{All-head, All-tail}
use Rattle.regex_ast.specs.Terms.{Term, Terms, Links, Contexts, Steps, Mappings, Groups, empty, any, edge, atom, letters, group, maybe, not_one, cross, suffixed, prefixed, ignore, concat, chain, only, rules, directed, steps, no_term, then_term, no_link, or, and, less, no_context, between, no_step, cross_with, then, no_mapping, plain, markup, insert, no_group, then_group}
use Rattle.expr_kinds.specs.Built.{AnyCentre, IsBuiltWith, AreBuiltWith, LinksAreBuiltWith, ContextsAreBuiltWith, StepsAreBuiltWith, MappingsAreBuiltWith, GroupsAreBuiltWith}
use Rattle.network_sets.proofs.Inside.{over_left, over_right}
use Rattle.project_meaning.specs.Centres.{centres_in, centres_in_contexts, centres_in_each, centres_in_groups, centres_in_links, centres_in_mappings, centres_in_steps}

module _ {A : Type 0} (leaf letter : A → Bool) (Centre : Term A → Type 0) where
  front : (xs ys : List (Term A)) → All Centre (xs ++ ys) → All Centre xs
  front xs ys h = over_left Centre xs ys h

  back : (xs ys : List (Term A)) → All Centre (xs ++ ys) → All Centre ys
  back xs ys h = over_right Centre xs ys h

  mutual
    pub filled_built : (e : Term A) → IsBuiltWith leaf letter AnyCentre e → All Centre (centres_in e) → IsBuiltWith leaf letter Centre e
    filled_built empty b h = tt
    filled_built any b h = tt
    filled_built edge b h = tt
    filled_built (atom a) b h = b
    filled_built (letters all) b h = b
    filled_built (group e) b h = filled_built e b h
    filled_built (maybe e) b h = filled_built e b h
    filled_built (not_one n e) b h = filled_built e b h
    filled_built (cross d e) b h = (filled_built d b.0 (front (centres_in d) (centres_in e) h), filled_built e b.1 (back (centres_in d) (centres_in e) h))
    filled_built (suffixed e suffixes) b h = filled_built e b h
    filled_built (prefixed prefixes e) b h = filled_built e b h
    filled_built (ignore es) b h = each_filled es b h
    filled_built (concat es) b h = each_filled es b h
    filled_built (chain e links) b h = (filled_built e b.0 (front (centres_in e) (centres_in_links links) h), links_filled links b.1 (back (centres_in e) (centres_in_links links) h))
    filled_built (only e contexts) b h = (filled_built e b.0 (front (centres_in e) (centres_in_contexts contexts) h), contexts_filled contexts b.1 (back (centres_in e) (centres_in_contexts contexts) h))
    filled_built (rules optional groups) b h = (b.0, groups_filled groups b.1 h)
    filled_built (directed way maps contexts) b h =
        (b.0, mappings_filled maps b.1 (front (centres_in_mappings maps) (centres_in_contexts contexts) h), contexts_filled contexts b.2 (back (centres_in_mappings maps) (centres_in_contexts contexts) h))
    filled_built (steps e more) b h = (filled_built e b.0 (front (centres_in e) (centres_in_steps more) h), steps_filled more b.1 (back (centres_in e) (centres_in_steps more) h))

    each_filled : (es : Terms A) → AreBuiltWith leaf letter AnyCentre es → All Centre (centres_in_each es) → AreBuiltWith leaf letter Centre es
    each_filled no_term b h = tt
    each_filled (then_term e es) b h = (filled_built e b.0 (front (centres_in e) (centres_in_each es) h), each_filled es b.1 (back (centres_in e) (centres_in_each es) h))

    links_filled : (links : Links A) → LinksAreBuiltWith leaf letter AnyCentre links → All Centre (centres_in_links links) → LinksAreBuiltWith leaf letter Centre links
    links_filled no_link b h = tt
    links_filled (or e links) b h = (filled_built e b.0 (front (centres_in e) (centres_in_links links) h), links_filled links b.1 (back (centres_in e) (centres_in_links links) h))
    links_filled (and e links) b h = (filled_built e b.0 (front (centres_in e) (centres_in_links links) h), links_filled links b.1 (back (centres_in e) (centres_in_links links) h))
    links_filled (less e links) b h = (filled_built e b.0 (front (centres_in e) (centres_in_links links) h), links_filled links b.1 (back (centres_in e) (centres_in_links links) h))

    contexts_filled : (contexts : Contexts A) → ContextsAreBuiltWith leaf letter AnyCentre contexts → All Centre (centres_in_contexts contexts) → ContextsAreBuiltWith leaf letter Centre contexts
    contexts_filled no_context b h = tt
    contexts_filled (between l r contexts) b h =
        let sides = front (centres_in l ++ centres_in r) (centres_in_contexts contexts) h in (
          filled_built l b.0 (front (centres_in l) (centres_in r) sides),
          filled_built r b.1 (back (centres_in l) (centres_in r) sides),
          contexts_filled contexts b.2 (back (centres_in l ++ centres_in r) (centres_in_contexts contexts) h),
        )

    steps_filled : (more : Steps A) → StepsAreBuiltWith leaf letter AnyCentre more → All Centre (centres_in_steps more) → StepsAreBuiltWith leaf letter Centre more
    steps_filled no_step b h = tt
    steps_filled (cross_with e more) b h = (filled_built e b.0 (front (centres_in e) (centres_in_steps more) h), steps_filled more b.1 (back (centres_in e) (centres_in_steps more) h))
    steps_filled (then e more) b h = (filled_built e b.0 (front (centres_in e) (centres_in_steps more) h), steps_filled more b.1 (back (centres_in e) (centres_in_steps more) h))

    mappings_filled : (maps : Mappings A) → MappingsAreBuiltWith leaf letter AnyCentre maps → All Centre (centres_in_mappings maps) → MappingsAreBuiltWith leaf letter Centre maps
    mappings_filled no_mapping b h = tt
    mappings_filled (plain c r maps) b h =
        let parts = front (c ∷ centres_in c ++ centres_in r) (centres_in_mappings maps) h in
        let own = front (c ∷ centres_in c) (centres_in r) parts in (
          All-head Centre c (centres_in c) own,
          filled_built c b.1 (All-tail Centre c (centres_in c) own),
          filled_built r b.2 (back (c ∷ centres_in c) (centres_in r) parts),
          mappings_filled maps b.3 (back (c ∷ centres_in c ++ centres_in r) (centres_in_mappings maps) h),
        )
    mappings_filled (markup c before after maps) b h =
        let parts = front (c ∷ centres_in c ++ centres_in before ++ centres_in after) (centres_in_mappings maps) h in
        let first = front (c ∷ centres_in c ++ centres_in before) (centres_in after) parts in
        let own = front (c ∷ centres_in c) (centres_in before) first in (
          All-head Centre c (centres_in c) own,
          filled_built c b.1 (All-tail Centre c (centres_in c) own),
          filled_built before b.2 (back (c ∷ centres_in c) (centres_in before) first),
          filled_built after b.3 (back (c ∷ centres_in c ++ centres_in before) (centres_in after) parts),
          mappings_filled maps b.4 (back (c ∷ centres_in c ++ centres_in before ++ centres_in after) (centres_in_mappings maps) h),
        )
    mappings_filled (insert r maps) b h = (filled_built r b.0 (front (centres_in r) (centres_in_mappings maps) h), mappings_filled maps b.1 (back (centres_in r) (centres_in_mappings maps) h))

    groups_filled : (groups : Groups A) → GroupsAreBuiltWith leaf letter AnyCentre groups → All Centre (centres_in_groups groups) → GroupsAreBuiltWith leaf letter Centre groups
    groups_filled no_group b h = tt
    groups_filled (then_group maps side contexts groups) b h =
        let parts = front (centres_in_mappings maps ++ centres_in_contexts contexts) (centres_in_groups groups) h in (
          mappings_filled maps b.0 (front (centres_in_mappings maps) (centres_in_contexts contexts) parts),
          contexts_filled contexts b.1 (back (centres_in_mappings maps) (centres_in_contexts contexts) parts),
          groups_filled groups b.2 (back (centres_in_mappings maps ++ centres_in_contexts contexts) (centres_in_groups groups) h),
        )
