-- The feasible pairs of a grammar, listed pair by pair; and rows of items that are changed.
use Rattle.std.proofs.Common.{◌≡◌, List, [], ◌∷◌, ◌++◌, map, refl, sym, ap, ◌∙◌, append-nil, append_assoc}
use Rattle.std.proofs.lemmas.Grind.{flat_map-append}
use Rattle.std.proofs.lemmas.List.{map-append}
use Rattle.std.specs.List.{flat_map}
use Rattle.expr_leaves.specs.Leaves.{leaf_alone, listed, listed_contexts}
use Rattle.expr_leaves.specs.Mapped.{mapped, mapped_contexts}
use Rattle.name_resolution.specs.Leaves.{pairs_below, pairs_in_definition, pairs_in_part, pairs_in_rule}
use Rattle.grammar_weights.specs.Weights.{Letter, feasible, written_pair, written_part}
use Rattle.name_resolution.proofs.Listed.{contexts_is, listed_is}
use Rattle.name_resolution.proofs.Mapped.{contexts_listed, mapped_listed}
use Rattle.project_meaning.specs.Trees.{Part, pair, called, PairDefinition, Rule, Grammar}
use Rattle.regex_ast.specs.Terms.{Contexts, Term}

-- what is listed of what is listed
module _ {X A T : Type 0} (symbols : A → List T) (of : X → List A) where
  flat_twice : (xs : List X) → flat_map symbols (flat_map of xs) ≡ flat_map (λ x. flat_map symbols (of x)) xs
  flat_twice [] = refl
  flat_twice (x ∷ xs) = flat_map-append symbols (of x) (flat_map of xs) ∙ ap (λ (ts : List T). flat_map symbols (of x) ++ ts) (flat_twice xs)

  term_twice : (t : Term X) → listed (λ x. flat_map symbols (of x)) t ≡ flat_map symbols (listed of t)
  term_twice t = listed_is (λ x. flat_map symbols (of x)) t ∙ sym (flat_twice (listed leaf_alone t)) ∙ ap (flat_map symbols) (sym (listed_is of t))

  contexts_both : (cs : Contexts X) → listed_contexts (λ x. flat_map symbols (of x)) cs ≡ flat_map symbols (listed_contexts of cs)
  contexts_both cs = contexts_is (λ x. flat_map symbols (of x)) cs ∙ sym (flat_twice (listed_contexts leaf_alone cs)) ∙ ap (flat_map symbols) (sym (contexts_is of cs))

-- what items list is what is listed of what stands in them
row : {X P T : Type 0} (symbols : P → List T) (of : X → List P) (here : X → List T) → ((x : X) → here x ≡ flat_map symbols (of x)) → (xs : List X) → flat_map here xs ≡ flat_map symbols (flat_map of xs)
row symbols of here same [] = refl
row symbols of here same (x ∷ xs) =
    let own = same x in
    let rest = row symbols of here same xs in
    (λ i. own i ++ rest i) ∙ sym (flat_map-append symbols (of x) (flat_map of xs))

module _ {A : Type 0} where
  part : (p : Part A) → written_part p ≡ flat_map written_pair (pairs_in_part p)
  part (pair p) = sym (append-nil (written_pair p))
  part (called name) = refl

  definition : (d : PairDefinition A) → listed written_part d.term ≡ flat_map written_pair (pairs_in_definition d)
  definition d = (λ i. listed (λ p. part p i) d.term) ∙ term_twice written_pair pairs_in_part d.term

  contexts : (cs : Contexts (Part A)) → listed_contexts written_part cs ≡ flat_map written_pair (listed_contexts pairs_in_part cs)
  contexts cs = (λ i. listed_contexts (λ p. part p i) cs) ∙ contexts_both written_pair pairs_in_part cs

  rule : (r : Rule A) → written_pair r.centre ++ listed_contexts written_part r.contexts ≡ flat_map written_pair (pairs_in_rule r)
  rule r = ap (λ (z : List (Letter A)). written_pair r.centre ++ z) (contexts r.contexts)

  -- the feasible pairs are those of the alphabet, and those below
  pub feasible_is : (g : Grammar A) → feasible g ≡ flat_map written_pair g.pairs ++ flat_map written_pair (pairs_below g)
  feasible_is g =
      let definitions = row written_pair pairs_in_definition (λ (d : PairDefinition A). listed written_part d.term) definition g.definitions in
      let rules = row written_pair pairs_in_rule (λ (r : Rule A). written_pair r.centre ++ listed_contexts written_part r.contexts) rule g.rules in
      let d = flat_map pairs_in_definition g.definitions in
      let r = flat_map pairs_in_rule g.rules in
      (λ i. flat_map written_pair g.pairs ++ definitions i ++ rules i)
      ∙ append_assoc (flat_map written_pair g.pairs) (flat_map written_pair d) (flat_map written_pair r)
      ∙ ap (λ (z : List (Letter A)). flat_map written_pair g.pairs ++ z) (sym (flat_map-append written_pair d r))

-- rows of items that are changed, where what each lists is the image of what it listed
module _ {X Y U V : Type 0} (change : X → Y) (after : Y → List V) (before : X → List U) (image : U → V) (same : (x : X) → after (change x) ≡ map image (before x)) where
  flat_image : (xs : List X) → flat_map (λ x. after (change x)) xs ≡ map image (flat_map before xs)
  flat_image [] = refl
  flat_image (x ∷ xs) =
      let own = same x in
      let rest = flat_image xs in
      (λ i. own i ++ rest i) ∙ sym (map-append image (before x) (flat_map before xs))

  pub row_image : (xs : List X) → flat_map after (map change xs) ≡ map image (flat_map before xs)
  row_image [] = refl
  row_image (x ∷ xs) =
      let own = same x in
      let rest = row_image xs in
      (λ i. own i ++ rest i) ∙ sym (map-append image (before x) (flat_map before xs))

  pub term_image : (t : Term X) → listed after (mapped change t) ≡ map image (listed before t)
  term_image t = mapped_listed after change t ∙ listed_is (λ x. after (change x)) t ∙ flat_image (listed leaf_alone t) ∙ ap (map image) (sym (listed_is before t))

  pub contexts_image : (cs : Contexts X) → listed_contexts after (mapped_contexts change cs) ≡ map image (listed_contexts before cs)
  contexts_image cs =
      contexts_listed after change cs ∙ contexts_is (λ x. after (change x)) cs ∙ flat_image (listed_contexts leaf_alone cs) ∙ ap (map image) (sym (contexts_is before cs))

-- the same where nothing is changed
module _ {X U V : Type 0} (after : X → List V) (before : X → List U) (image : U → V) (same : (x : X) → after x ≡ map image (before x)) where
  pub flat_of_image : (xs : List X) → flat_map after xs ≡ map image (flat_map before xs)
  flat_of_image [] = refl
  flat_of_image (x ∷ xs) =
      let own = same x in
      let rest = flat_of_image xs in
      (λ i. own i ++ rest i) ∙ sym (map-append image (before x) (flat_map before xs))

  pub term_of_image : (t : Term X) → listed after t ≡ map image (listed before t)
  term_of_image t = listed_is after t ∙ flat_of_image (listed leaf_alone t) ∙ ap (map image) (sym (listed_is before t))

  pub contexts_of_image : (cs : Contexts X) → listed_contexts after cs ≡ map image (listed_contexts before cs)
  contexts_of_image cs = contexts_is after cs ∙ flat_of_image (listed_contexts leaf_alone cs) ∙ ap (map image) (sym (contexts_is before cs))

pub three : {U V : Type 0} (image : U → V) (u v w : List V) (x y z : List U) → u ≡ map image x → v ≡ map image y → w ≡ map image z → u ++ v ++ w ≡ map image (x ++ y ++ z)
three image u v w x y z e d f = (λ i. e i ++ d i ++ f i) ∙ ap (λ q. q ++ map image z) (sym (map-append image x y)) ∙ sym (map-append image (x ++ y) z)
