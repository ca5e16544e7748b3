-- A grammar by numbers, each of which has the text of its leaf, is by their texts the grammar itself.
use Rattle.std.proofs.Common.{◌≡◌, ℕ, Bool, IsTrue, List, [], ◌∷◌, All, Contains, map, refl, ap, ◌∙◌}
use Rattle.std.proofs.lemmas.List.{map-id}
use Rattle.std.proofs.lemmas.List.Elements.{All-contains, All-contains_itself, All-head, All-tail, All-weaker}
use Rattle.word_relations.proofs.Members.{Contains-map}
use Rattle.fsm_base.specs.declared.letters.Sym.{Sym}
use Rattle.regex_ast.specs.declared.expr.Atom.{Atom}
use Rattle.regex_ast.specs.Terms.{Term, Terms, Links, Contexts, empty, any, edge, atom, group, maybe, not_one, suffixed, prefixed, ignore, concat, chain, no_term, then_term, no_link, or, and, less, no_context, between}
use Rattle.expr_leaves.specs.Mapped.{mapped, mapped_contexts, mapped_each, mapped_links}
use Rattle.project_meaning.specs.Leaves.{Leaf}
use Rattle.project_meaning.specs.Trees.{Side, nothing, anything, one, member, Pair, Part, pair, called, PairDefinition, Rule, Set, Grammar}
use Rattle.grammar_pairs.specs.Laws.{HasLeaves}
use Rattle.grammar_pairs.specs.Mapped.{mapped_definition, mapped_grammar, mapped_pair, mapped_part, mapped_rule, mapped_set, mapped_side}
use Rattle.grammar_pairs.specs.Plain.{ArePairForms, ContextsArePairForms, IsFormed, IsFormedRule, IsNamedSide, IsPairForm, LinksArePairForms}
use Rattle.grammar_pairs.specs.Texts.{in_text, in_texts}
use Rattle.grammar_pairs.proofs.Forms.{mapped_same}
use Rattle.grammar_pairs.proofs.Replaced.{in_texts_mapped}

-- an expression whose leaves are replaced keeps its form
module _ {A B : Type 0} (f : A → B) where
  mutual
    form_back : (e : Term A) → IsPairForm (mapped f e) → IsPairForm e
    form_back empty form = tt
    form_back any form = tt
    form_back edge form = tt
    form_back (atom a) form = tt
    form_back (group e) form = form_back e form
    form_back (maybe e) form = form_back e form
    form_back (not_one n e) form = form_back e form
    form_back (suffixed e suffixes) form = form_back e form
    form_back (prefixed prefixes e) form = form_back e form
    form_back (ignore es) form = each_back es form
    form_back (concat es) form = each_back es form
    form_back (chain e links) form = (form_back e form.0, links_back links form.1)
    form_back _ form = absurd form

    each_back : (es : Terms A) → ArePairForms (mapped_each f es) → ArePairForms es
    each_back no_term form = tt
    each_back (then_term e es) form = (form_back e form.0, each_back es form.1)

    links_back : (links : Links A) → LinksArePairForms (mapped_links f links) → LinksArePairForms links
    links_back no_link form = tt
    links_back (or e links) form = (form_back e form.0, links_back links form.1)
    links_back (and e links) form = (form_back e form.0, links_back links form.1)
    links_back (less e links) form = (form_back e form.0, links_back links form.1)

  contexts_back : (cs : Contexts A) → ContextsArePairForms (mapped_contexts f cs) → ContextsArePairForms cs
  contexts_back no_context form = tt
  contexts_back (between l r cs) form = (form_back l form.0, form_back r form.1, contexts_back cs form.2)

-- what holds of each element that is replaced
all_back : {X Y : Type 0} (to : X → Y) (P : X → Type 0) (Q : Y → Type 0) → ((x : X) → Q (to x) → P x) → (xs : List X) → All Q (map to xs) → All P xs
all_back to P Q back xs h = All-weaker (Contains xs) P (λ x at. back x (All-contains Q (map to xs) (to x) h (Contains-map to xs x at))) xs (All-contains_itself xs)

module _ {A B : Type 0} (f : A → B) where
  side_back : (s : Side A) → IsNamedSide (mapped_side f s) → IsNamedSide s
  side_back nothing named = tt
  side_back anything named = absurd named
  side_back (one leaf) named = tt
  side_back (member set) named = absurd named

  rule_back : (r : Rule A) → IsFormedRule (mapped_rule f r) → IsFormedRule r
  rule_back r formed = (side_back r.centre.up formed.0, side_back r.centre.low formed.1, contexts_back (mapped_part f) r.contexts formed.2)

  pub formed_back : (g : Grammar A) → IsFormed (mapped_grammar f g) → IsFormed g
  formed_back g formed = record {
    definitions =
        all_back (mapped_definition f) (λ (d : PairDefinition A). IsPairForm d.term) (λ (d : PairDefinition B). IsPairForm d.term) (λ d. form_back (mapped_part f) d.term) g.definitions formed.definitions;
    rules = all_back (mapped_rule f) IsFormedRule IsFormedRule rule_back g.rules formed.rules;
  }

-- where leaves are replaced by themselves
row_same : {X : Type 0} (P : X → Type 0) (to : X → X) → ((x : X) → P x → to x ≡ x) → (xs : List X) → All P xs → map to xs ≡ xs
row_same P to same [] all = refl
row_same P to same (x ∷ xs) all = let here = same x (All-head P x xs all) in let rest = row_same P to same xs (All-tail P x xs all) in λ i. here i ∷ rest i

any_of : {X : Type 0} (xs : List X) → All (λ (x : X). Unit {0}) xs
any_of xs = λ k d below. tt

module _ {A : Type 0} where
  abbrev itself : A → A
  itself leaf = leaf

  side_same : (s : Side A) → mapped_side itself s ≡ s
  side_same nothing = refl
  side_same anything = refl
  side_same (one leaf) = refl
  side_same (member set) = refl

  pair_same : (p : Pair A) → mapped_pair itself p ≡ p
  pair_same p = let up = side_same p.up in let low = side_same p.low in λ i. record { up = up i; low = low i }

  part_same : (part : Part A) → mapped_part itself part ≡ part
  part_same (pair p) = ap pair (pair_same p)
  part_same (called name) = refl

  term_same : (t : Term (Part A)) → IsPairForm t → mapped (mapped_part itself) t ≡ t
  term_same t form = (λ i. mapped (λ part. part_same part i) t) ∙ mapped_same t form

  contexts_same : (cs : Contexts (Part A)) → ContextsArePairForms cs → mapped_contexts (mapped_part itself) cs ≡ cs
  contexts_same no_context form = refl
  contexts_same (between l r cs) form =
      let left = term_same l form.0 in let right = term_same r form.1 in let rest = contexts_same cs form.2 in λ i. between (left i) (right i) (rest i)

  set_same : (s : Set A) → mapped_set itself s ≡ s
  set_same s = ap (λ (symbols : List A). record { name = s.name; symbols = symbols }) (map-id s.symbols)

  definition_same : (d : PairDefinition A) → IsPairForm d.term → mapped_definition itself d ≡ d
  definition_same d form = ap (λ (t : Term (Part A)). record { name = d.name; term = t }) (term_same d.term form)

  rule_same : (r : Rule A) → IsFormedRule r → mapped_rule itself r ≡ r
  rule_same r formed =
      let centre = pair_same r.centre in let contexts = contexts_same r.contexts formed.2 in λ i. record { name = r.name; centre = centre i; kind = r.kind; contexts = contexts i }

  pub grammar_same : (g : Grammar A) → IsFormed g → mapped_grammar itself g ≡ g
  grammar_same g formed =
      let pairs = row_same (λ (p : Pair A). Unit {0}) (mapped_pair itself) (λ p all. pair_same p) g.pairs (any_of g.pairs) in
      let sets = row_same (λ (s : Set A). Unit {0}) (mapped_set itself) (λ s all. set_same s) g.sets (any_of g.sets) in
      let definitions = row_same (λ (d : PairDefinition A). IsPairForm d.term) (mapped_definition itself) definition_same g.definitions formed.definitions in
      let rules = row_same IsFormedRule (mapped_rule itself) rule_same g.rules formed.rules in
      λ i. record { pairs = pairs i; sets = sets i; definitions = definitions i; rules = rules i }

pub texts_back : (text : Sym → List ℕ) (in_symbols : Leaf → Atom) (passes : Leaf → Bool) → ((leaf : Leaf) → IsTrue (passes leaf) → in_text text (in_symbols leaf) ≡ leaf) → (g : Grammar Leaf)
    → IsFormed (mapped_grammar in_symbols g) → HasLeaves passes g → in_texts text (mapped_grammar in_symbols g) ≡ g
texts_back text in_symbols passes same g formed has =
    let own = formed_back in_symbols g formed in
    in_texts_mapped text in_symbols (λ leaf. leaf) passes same g own has ∙ grammar_same g own
