-- The centres of an expression whose leaves are replaced by others: the centres of the expression, their leaves replaced so.
use Rattle.std.proofs.Common.{◌≡◌, List, ◌∷◌, ◌++◌, map, refl, ap, sym, ◌∙◌}
use Rattle.std.proofs.lemmas.List.{map-append}
use Rattle.regex_ast.specs.Terms.{Term, Terms, Links, Contexts, Steps, Mappings, Groups, empty, any, edge, atom, letters, group, maybe, not_one, cross, suffixed, prefixed, ignore, concat, chain, only, rules, directed, steps, no_term, then_term, no_link, or, and, less, no_context, between, no_step, cross_with, then, no_mapping, plain, markup, insert, no_group, then_group}
use Rattle.expr_leaves.specs.Mapped.{mapped, mapped_each, mapped_links, mapped_contexts, mapped_steps, mapped_mappings, mapped_groups}
use Rattle.project_meaning.specs.Centres.{centres_in, centres_in_contexts, centres_in_each, centres_in_groups, centres_in_links, centres_in_mappings, centres_in_steps}

module _ {A B : Type 0} (f : A → B) where
  abbrev all : List (Term A) → List (Term B)
  all es = map (λ (e : Term A). mapped f e) es

  two : (vs ws : List (Term B)) (xs ys : List (Term A)) → vs ≡ all xs → ws ≡ all ys → vs ++ ws ≡ all (xs ++ ys)
  two vs ws xs ys first second =
      ap (λ (z : List (Term B)). z ++ ws) first ∙ ap (λ (z : List (Term B)). all xs ++ z) second ∙ sym (map-append (λ (e : Term A). mapped f e) xs ys)

  own : (c : Term A) → centres_in (mapped f c) ≡ all (centres_in c) → mapped f c ∷ centres_in (mapped f c) ≡ all (c ∷ centres_in c)
  own c is = ap (λ (z : List (Term B)). mapped f c ∷ z) is

  mutual
    pub centres_in-mapped : (e : Term A) → centres_in (mapped f e) ≡ all (centres_in e)
    centres_in-mapped empty = refl
    centres_in-mapped any = refl
    centres_in-mapped edge = refl
    centres_in-mapped (atom a) = refl
    centres_in-mapped (letters leaves) = refl
    centres_in-mapped (group e) = centres_in-mapped e
    centres_in-mapped (maybe e) = centres_in-mapped e
    centres_in-mapped (not_one n e) = centres_in-mapped e
    centres_in-mapped (cross d e) = two (centres_in (mapped f d)) (centres_in (mapped f e)) (centres_in d) (centres_in e) (centres_in-mapped d) (centres_in-mapped e)
    centres_in-mapped (suffixed e suffixes) = centres_in-mapped e
    centres_in-mapped (prefixed prefixes e) = centres_in-mapped e
    centres_in-mapped (ignore es) = each_mapped es
    centres_in-mapped (concat es) = each_mapped es
    centres_in-mapped (chain e links) = two (centres_in (mapped f e)) (centres_in_links (mapped_links f links)) (centres_in e) (centres_in_links links) (centres_in-mapped e) (links_mapped links)
    centres_in-mapped (only e contexts) =
        two (centres_in (mapped f e)) (centres_in_contexts (mapped_contexts f contexts)) (centres_in e) (centres_in_contexts contexts) (centres_in-mapped e) (contexts_mapped contexts)
    centres_in-mapped (rules optional groups) = groups_mapped groups
    centres_in-mapped (directed way maps contexts) =
        two (centres_in_mappings (mapped_mappings f maps)) (centres_in_contexts (mapped_contexts f contexts)) (centres_in_mappings maps) (centres_in_contexts contexts) (mappings_mapped maps) (contexts_mapped contexts)
    centres_in-mapped (steps e more) = two (centres_in (mapped f e)) (centres_in_steps (mapped_steps f more)) (centres_in e) (centres_in_steps more) (centres_in-mapped e) (steps_mapped more)

    each_mapped : (es : Terms A) → centres_in_each (mapped_each f es) ≡ all (centres_in_each es)
    each_mapped no_term = refl
    each_mapped (then_term e es) = two (centres_in (mapped f e)) (centres_in_each (mapped_each f es)) (centres_in e) (centres_in_each es) (centres_in-mapped e) (each_mapped es)

    links_mapped : (links : Links A) → centres_in_links (mapped_links f links) ≡ all (centres_in_links links)
    links_mapped no_link = refl
    links_mapped (or e links) = two (centres_in (mapped f e)) (centres_in_links (mapped_links f links)) (centres_in e) (centres_in_links links) (centres_in-mapped e) (links_mapped links)
    links_mapped (and e links) = two (centres_in (mapped f e)) (centres_in_links (mapped_links f links)) (centres_in e) (centres_in_links links) (centres_in-mapped e) (links_mapped links)
    links_mapped (less e links) = two (centres_in (mapped f e)) (centres_in_links (mapped_links f links)) (centres_in e) (centres_in_links links) (centres_in-mapped e) (links_mapped links)

    contexts_mapped : (contexts : Contexts A) → centres_in_contexts (mapped_contexts f contexts) ≡ all (centres_in_contexts contexts)
    contexts_mapped no_context = refl
    contexts_mapped (between l r contexts) =
        two (centres_in (mapped f l) ++ centres_in (mapped f r)) (centres_in_contexts (mapped_contexts f contexts)) (centres_in l ++ centres_in r) (centres_in_contexts contexts)
        (two (centres_in (mapped f l)) (centres_in (mapped f r)) (centres_in l) (centres_in r) (centres_in-mapped l) (centres_in-mapped r)) (contexts_mapped contexts)

    steps_mapped : (more : Steps A) → centres_in_steps (mapped_steps f more) ≡ all (centres_in_steps more)
    steps_mapped no_step = refl
    steps_mapped (cross_with e more) = two (centres_in (mapped f e)) (centres_in_steps (mapped_steps f more)) (centres_in e) (centres_in_steps more) (centres_in-mapped e) (steps_mapped more)
    steps_mapped (then e more) = two (centres_in (mapped f e)) (centres_in_steps (mapped_steps f more)) (centres_in e) (centres_in_steps more) (centres_in-mapped e) (steps_mapped more)

    mappings_mapped : (maps : Mappings A) → centres_in_mappings (mapped_mappings f maps) ≡ all (centres_in_mappings maps)
    mappings_mapped no_mapping = refl
    mappings_mapped (plain c r maps) =
        two (mapped f c ∷ centres_in (mapped f c) ++ centres_in (mapped f r)) (centres_in_mappings (mapped_mappings f maps)) (c ∷ centres_in c ++ centres_in r) (centres_in_mappings maps)
        (two (mapped f c ∷ centres_in (mapped f c)) (centres_in (mapped f r)) (c ∷ centres_in c) (centres_in r) (own c (centres_in-mapped c)) (centres_in-mapped r)) (mappings_mapped maps)
    mappings_mapped (markup c b a maps) =
        two (mapped f c ∷ centres_in (mapped f c) ++ centres_in (mapped f b) ++ centres_in (mapped f a)) (centres_in_mappings (mapped_mappings f maps))
        (c ∷ centres_in c ++ centres_in b ++ centres_in a) (centres_in_mappings maps)
        (two (mapped f c ∷ centres_in (mapped f c) ++ centres_in (mapped f b)) (centres_in (mapped f a)) (c ∷ centres_in c ++ centres_in b) (centres_in a)
        (two (mapped f c ∷ centres_in (mapped f c)) (centres_in (mapped f b)) (c ∷ centres_in c) (centres_in b) (own c (centres_in-mapped c)) (centres_in-mapped b)) (centres_in-mapped a))
        (mappings_mapped maps)
    mappings_mapped (insert r maps) = two (centres_in (mapped f r)) (centres_in_mappings (mapped_mappings f maps)) (centres_in r) (centres_in_mappings maps) (centres_in-mapped r) (mappings_mapped maps)

    groups_mapped : (groups : Groups A) → centres_in_groups (mapped_groups f groups) ≡ all (centres_in_groups groups)
    groups_mapped no_group = refl
    groups_mapped (then_group maps side contexts groups) =
        two (centres_in_mappings (mapped_mappings f maps) ++ centres_in_contexts (mapped_contexts f contexts)) (centres_in_groups (mapped_groups f groups))
        (centres_in_mappings maps ++ centres_in_contexts contexts) (centres_in_groups groups)
        (two (centres_in_mappings (mapped_mappings f maps)) (centres_in_contexts (mapped_contexts f contexts)) (centres_in_mappings maps) (centres_in_contexts contexts) (mappings_mapped maps) (contexts_mapped contexts))
        (groups_mapped groups)
