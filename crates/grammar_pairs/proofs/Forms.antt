-- What is listed of expressions over pairs.
use Rattle.std.proofs.Common.{◌≡◌, List, ◌++◌, map, refl, sym, ap, ◌∙◌, append-nil}
use Rattle.std.proofs.lemmas.Grind.{flat_map-append}
use Rattle.std.proofs.lemmas.List.{map-append}
use Rattle.std.specs.List.{flat_map}
use Rattle.regex_ast.specs.Terms.{Term, Terms, Links, empty, any, edge, atom, group, maybe, not_one, suffixed, prefixed, ignore, concat, chain, no_term, then_term, no_link, or, and, less}
use Rattle.expr_leaves.specs.Leaves.{listed, listed_each, listed_links, leaf_alone}
use Rattle.expr_leaves.specs.Mapped.{mapped, mapped_each, mapped_links}
use Rattle.grammar_pairs.specs.Plain.{IsPairForm, ArePairForms, LinksArePairForms}

-- what is listed of an expression with other leaves
module _ {A B X Y : Type 0} (f : A → B) (h : B → List Y) (k : A → List X) (s : X → Y) (same : (a : A) → h (f a) ≡ map s (k a)) where
  beside : (u v : List Y) (x y : List X) → u ≡ map s x → v ≡ map s y → u ++ v ≡ map s (x ++ y)
  beside u v x y e d = ap (λ z. z ++ v) e ∙ ap (λ z. map s x ++ z) d ∙ sym (map-append s x y)

  mutual
    pub listed_map : (e : Term A) → IsPairForm e → listed h (mapped f e) ≡ map s (listed k e)
    listed_map empty form = refl
    listed_map any form = refl
    listed_map edge form = refl
    listed_map (atom a) form = same a
    listed_map (group e) form = listed_map e form
    listed_map (maybe e) form = listed_map e form
    listed_map (not_one n e) form = listed_map e form
    listed_map (suffixed e suffixes) form = listed_map e form
    listed_map (prefixed prefixes e) form = listed_map e form
    listed_map (ignore es) form = each_map es form
    listed_map (concat es) form = each_map es form
    listed_map (chain e links) form = beside (listed h (mapped f e)) (listed_links h (mapped_links f links)) (listed k e) (listed_links k links) (listed_map e form.0) (links_map links form.1)
    listed_map _ form = absurd form

    each_map : (es : Terms A) → ArePairForms es → listed_each h (mapped_each f es) ≡ map s (listed_each k es)
    each_map no_term form = refl
    each_map (then_term e es) form = beside (listed h (mapped f e)) (listed_each h (mapped_each f es)) (listed k e) (listed_each k es) (listed_map e form.0) (each_map es form.1)

    links_map : (links : Links A) → LinksArePairForms links → listed_links h (mapped_links f links) ≡ map s (listed_links k links)
    links_map no_link form = refl
    links_map (or e links) form = beside (listed h (mapped f e)) (listed_links h (mapped_links f links)) (listed k e) (listed_links k links) (listed_map e form.0) (links_map links form.1)
    links_map (and e links) form = beside (listed h (mapped f e)) (listed_links h (mapped_links f links)) (listed k e) (listed_links k links) (listed_map e form.0) (links_map links form.1)
    links_map (less e links) form = beside (listed h (mapped f e)) (listed_links h (mapped_links f links)) (listed k e) (listed_links k links) (listed_map e form.0) (links_map links form.1)

-- what is listed of an expression with other leaves is listed of each of its leaves
module _ {A B Y : Type 0} (f : A → B) (h : B → List Y) where
  abbrev each_leaf : A → List Y
  each_leaf a = h (f a)

  together : (u v : List Y) (x y : List A) → u ≡ flat_map each_leaf x → v ≡ flat_map each_leaf y → u ++ v ≡ flat_map each_leaf (x ++ y)
  together u v x y e d = ap (λ z. z ++ v) e ∙ ap (λ z. flat_map each_leaf x ++ z) d ∙ sym (flat_map-append each_leaf x y)

  mutual
    pub listed_leaves : (e : Term A) → IsPairForm (mapped f e) → listed h (mapped f e) ≡ flat_map each_leaf (listed leaf_alone e)
    listed_leaves empty form = refl
    listed_leaves any form = refl
    listed_leaves edge form = refl
    listed_leaves (atom a) form = sym (append-nil (h (f a)))
    listed_leaves (group e) form = listed_leaves e form
    listed_leaves (maybe e) form = listed_leaves e form
    listed_leaves (not_one n e) form = listed_leaves e form
    listed_leaves (suffixed e suffixes) form = listed_leaves e form
    listed_leaves (prefixed prefixes e) form = listed_leaves e form
    listed_leaves (ignore es) form = each_leaves es form
    listed_leaves (concat es) form = each_leaves es form
    listed_leaves (chain e links) form = together (listed h (mapped f e)) (listed_links h (mapped_links f links)) (listed leaf_alone e) (listed_links leaf_alone links) (listed_leaves e form.0) (links_leaves links form.1)
    listed_leaves _ form = absurd form

    each_leaves : (es : Terms A) → ArePairForms (mapped_each f es) → listed_each h (mapped_each f es) ≡ flat_map each_leaf (listed_each leaf_alone es)
    each_leaves no_term form = refl
    each_leaves (then_term e es) form = together (listed h (mapped f e)) (listed_each h (mapped_each f es)) (listed leaf_alone e) (listed_each leaf_alone es) (listed_leaves e form.0) (each_leaves es form.1)

    links_leaves : (links : Links A) → LinksArePairForms (mapped_links f links) → listed_links h (mapped_links f links) ≡ flat_map each_leaf (listed_links leaf_alone links)
    links_leaves no_link form = refl
    links_leaves (or e links) form = together (listed h (mapped f e)) (listed_links h (mapped_links f links)) (listed leaf_alone e) (listed_links leaf_alone links) (listed_leaves e form.0) (links_leaves links form.1)
    links_leaves (and e links) form = together (listed h (mapped f e)) (listed_links h (mapped_links f links)) (listed leaf_alone e) (listed_links leaf_alone links) (listed_leaves e form.0) (links_leaves links form.1)
    links_leaves (less e links) form = together (listed h (mapped f e)) (listed_links h (mapped_links f links)) (listed leaf_alone e) (listed_links leaf_alone links) (listed_leaves e form.0) (links_leaves links form.1)

-- an expression whose leaves stay is the same
mutual
  pub mapped_same : {A : Type 0} (e : Term A) → IsPairForm e → mapped (λ (a : A). a) e ≡ e
  mapped_same empty form = refl
  mapped_same any form = refl
  mapped_same edge form = refl
  mapped_same (atom a) form = refl
  mapped_same (group e) form = ap group (mapped_same e form)
  mapped_same (maybe e) form = ap maybe (mapped_same e form)
  mapped_same (not_one n e) form = ap (not_one n) (mapped_same e form)
  mapped_same (suffixed e suffixes) form = ap (λ t. suffixed t suffixes) (mapped_same e form)
  mapped_same (prefixed prefixes e) form = ap (prefixed prefixes) (mapped_same e form)
  mapped_same (ignore es) form = ap ignore (each_same es form)
  mapped_same (concat es) form = ap concat (each_same es form)
  mapped_same (chain e links) form = let a = mapped_same e form.0 in let b = links_same links form.1 in λ i. chain (a i) (b i)
  mapped_same _ form = absurd form

  each_same : {A : Type 0} (es : Terms A) → ArePairForms es → mapped_each (λ (a : A). a) es ≡ es
  each_same no_term form = refl
  each_same (then_term e es) form = let a = mapped_same e form.0 in let b = each_same es form.1 in λ i. then_term (a i) (b i)

  links_same : {A : Type 0} (links : Links A) → LinksArePairForms links → mapped_links (λ (a : A). a) links ≡ links
  links_same no_link form = refl
  links_same (or e links) form = let a = mapped_same e form.0 in let b = links_same links form.1 in λ i. or (a i) (b i)
  links_same (and e links) form = let a = mapped_same e form.0 in let b = links_same links form.1 in λ i. and (a i) (b i)
  links_same (less e links) form = let a = mapped_same e form.0 in let b = links_same links form.1 in λ i. less (a i) (b i)
