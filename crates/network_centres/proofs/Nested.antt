-- The centres inside a centre stand behind it.
use Rattle.std.proofs.Common.{List, [], ◌∷◌, ◌++◌, All}
use Rattle.std.specs.List.{Contains}
use Rattle.std.proofs.lemmas.List.Elements.{All-weaker, All-contains_itself, Contains-append_left}
use Rattle.regex_ast.specs.Terms.{Term, Terms, Links, Contexts, Steps, Mappings, Groups, empty, any, edge, atom, letters, group, maybe, not_one, cross, suffixed, prefixed, ignore, concat, chain, only, rules, directed, steps, no_term, then_term, no_link, or, and, less, no_context, between, no_step, cross_with, then, no_mapping, plain, markup, insert, no_group, then_group}
use Rattle.project_meaning.specs.Centres.{centres_in, centres_in_contexts, centres_in_each, centres_in_groups, centres_in_links, centres_in_mappings, centres_in_steps}

-- what is inside each of these is among those behind it
abbrev pub AreNested : {A : Type 0} → List (Term A) → Type 0
AreNested [] = Unit {0}
AreNested (c ∷ behind) = All (Contains behind) (centres_in c) × AreNested behind

both : {A : Type 0} (xs ys : List (Term A)) → AreNested xs → AreNested ys → AreNested (xs ++ ys)
both [] ys first second = second
both (x ∷ xs) ys first second = (All-weaker (Contains xs) (Contains (xs ++ ys)) (λ c. Contains-append_left xs ys c) (centres_in x) first.0, both xs ys first.1 second)

pub nested_behind : {A : Type 0} (xs ys : List (Term A)) → AreNested (xs ++ ys) → AreNested ys
nested_behind [] ys h = h
nested_behind (x ∷ xs) ys h = nested_behind xs ys h.1

mutual
  pub nested_in : {A : Type 0} (e : Term A) → AreNested (centres_in e)
  nested_in empty = tt
  nested_in any = tt
  nested_in edge = tt
  nested_in (atom a) = tt
  nested_in (letters all) = tt
  nested_in (group e) = nested_in e
  nested_in (maybe e) = nested_in e
  nested_in (not_one n e) = nested_in e
  nested_in (cross e f) = both (centres_in e) (centres_in f) (nested_in e) (nested_in f)
  nested_in (suffixed e suffixes) = nested_in e
  nested_in (prefixed prefixes e) = nested_in e
  nested_in (ignore es) = nested_each es
  nested_in (concat es) = nested_each es
  nested_in (chain e links) = both (centres_in e) (centres_in_links links) (nested_in e) (nested_links links)
  nested_in (only e contexts) = both (centres_in e) (centres_in_contexts contexts) (nested_in e) (nested_contexts contexts)
  nested_in (rules optional groups) = nested_groups groups
  nested_in (directed way maps contexts) = both (centres_in_mappings maps) (centres_in_contexts contexts) (nested_mappings maps) (nested_contexts contexts)
  nested_in (steps e more) = both (centres_in e) (centres_in_steps more) (nested_in e) (nested_steps more)

  nested_each : {A : Type 0} (es : Terms A) → AreNested (centres_in_each es)
  nested_each no_term = tt
  nested_each (then_term e es) = both (centres_in e) (centres_in_each es) (nested_in e) (nested_each es)

  nested_links : {A : Type 0} (links : Links A) → AreNested (centres_in_links links)
  nested_links no_link = tt
  nested_links (or e links) = both (centres_in e) (centres_in_links links) (nested_in e) (nested_links links)
  nested_links (and e links) = both (centres_in e) (centres_in_links links) (nested_in e) (nested_links links)
  nested_links (less e links) = both (centres_in e) (centres_in_links links) (nested_in e) (nested_links links)

  nested_contexts : {A : Type 0} (contexts : Contexts A) → AreNested (centres_in_contexts contexts)
  nested_contexts no_context = tt
  nested_contexts (between l r contexts) = both (centres_in l ++ centres_in r) (centres_in_contexts contexts) (both (centres_in l) (centres_in r) (nested_in l) (nested_in r)) (nested_contexts contexts)

  nested_steps : {A : Type 0} (more : Steps A) → AreNested (centres_in_steps more)
  nested_steps no_step = tt
  nested_steps (cross_with e more) = both (centres_in e) (centres_in_steps more) (nested_in e) (nested_steps more)
  nested_steps (then e more) = both (centres_in e) (centres_in_steps more) (nested_in e) (nested_steps more)

  nested_mappings : {A : Type 0} (maps : Mappings A) → AreNested (centres_in_mappings maps)
  nested_mappings no_mapping = tt
  nested_mappings (plain c r maps) =
      let own : AreNested (c ∷ centres_in c) = (All-contains_itself (centres_in c), nested_in c) in
      both (c ∷ centres_in c ++ centres_in r) (centres_in_mappings maps) (both (c ∷ centres_in c) (centres_in r) own (nested_in r)) (nested_mappings maps)
  nested_mappings (markup c b a maps) =
      let own : AreNested (c ∷ centres_in c) = (All-contains_itself (centres_in c), nested_in c) in
      both (c ∷ centres_in c ++ centres_in b ++ centres_in a) (centres_in_mappings maps)
      (both (c ∷ centres_in c ++ centres_in b) (centres_in a) (both (c ∷ centres_in c) (centres_in b) own (nested_in b)) (nested_in a)) (nested_mappings maps)
  nested_mappings (insert r maps) = both (centres_in r) (centres_in_mappings maps) (nested_in r) (nested_mappings maps)

  nested_groups : {A : Type 0} (groups : Groups A) → AreNested (centres_in_groups groups)
  nested_groups no_group = tt
  nested_groups (then_group maps side contexts groups) =
      both (centres_in_mappings maps ++ centres_in_contexts contexts) (centres_in_groups groups)
      (both (centres_in_mappings maps) (centres_in_contexts contexts) (nested_mappings maps) (nested_contexts contexts)) (nested_groups groups)
