-- The network of a grammar, from its scope and from its rules.
use Rattle.std.proofs.Common.{◌≡◌, ◌↔◌, ℕ, List, [], ◌∷◌, ◌++◌, Option, None, Some, All, map, reverse, refl, sym, ap, subst, ◌∙◌, inl, inr}
use Rattle.std.proofs.lemmas.List.{reverse-append}
use Rattle.std.proofs.lemmas.List.Elements.{All-nil, All-cons, All-head, All-tail, All-append, All-contains}
use Rattle.std.specs.List.{Contains, flat_map}
use Rattle.std.specs.Option.{option_map, option_to_list}
use Rattle.fsm_base.specs.declared.letters.Bound.{Bound}
use Rattle.fsm_base.specs.declared.letters.Bound.TheVariants.{Edge, Inner}
use Rattle.fsm_base.specs.declared.letters.Pair.{Pair as Letter}
use Rattle.fsm_base.specs.declared.letters.Sym.{Sym}
use Rattle.word_relations.specs.Words.{IsOver}
use Rattle.word_relations.proofs.Members.{Contains-nil_cases, Contains-cons_cases, Contains-head, Contains-tail, Contains-map, Contains-map_cases}
use Rattle.regex_ast.specs.declared.expr.Atom.{Atom}
use Rattle.regex_ast.specs.declared.expr.Context.{Context}
use Rattle.regex_ast.specs.declared.expr.Expr.{Expr}
use Rattle.regex_ast.specs.declared.twolc.Grammar.{Grammar as GrammarOf}
use Rattle.regex_ast.specs.declared.twolc.PairPart.{PairPart}
use Rattle.regex_ast.specs.declared.twolc.TwoLevelRule.{TwoLevelRule}
use Rattle.fsa.specs.Complete.{Complete, Accepts}
use Rattle.fst_algebra.specs.Relation.{symbols_on}
use Rattle.expr_leaves.specs.Mapped.{mapped, mapped_contexts}
use Rattle.expr_meaning.specs.Meaning.{In, InContext}
use Rattle.expr_meaning.specs.Operators.{inner, HoldsLeft, HoldsRight}
use Rattle.expr_spelling.proofs.Words.{Carries, Tells, spelled_reverse}
use Rattle.expr_spelling.proofs.Edges.{bound, inner_spelled, left_context, right_context}
use Rattle.project_meaning.specs.Trees.{PairDefinition, Rule, Grammar}
use Rattle.project_meaning.specs.Leaves.{Leaf}
use Rattle.project_meaning.specs.Grammars.{Letter as TextLetter, feasible as feasible_in_texts, PartRelates}
use Rattle.project_meaning.proofs.Places.{in_front, in_back, in_flat}
use Rattle.grammar_pairs.specs.Feasible.{feasible, of_atom, of_definition, of_rule, of_context}
use Rattle.grammar_pairs.specs.Mapped.{mapped_definition, mapped_part, mapped_rule}
use Rattle.grammar_pairs.specs.Plain.{ContextsArePairForms, IsFormed, IsFormedRule, IsPairForm, contexts_in, definition_of, grammar_of, rule_of, pair_of, set_of, term_of}
use Rattle.grammar_pairs.specs.Tables.{HasSymbol, IsMember}
use Rattle.grammar_pairs.specs.Texts.{HasOwnTexts, IsPairOver, in_text, in_texts, letter_in}
use Rattle.grammar_pairs.proofs.Spelled.{feasible_same, written_same}
use Rattle.network_grammars.specs.Built.{IsBuilt}
use Rattle.network_algebra.specs.Networks.{all_letters}
use Rattle.network_grammars.specs.PairMeaning.{IsScope, pair_at}
use Rattle.network_grammars.specs.declared.scope.Scope.{Scope}
use Rattle.network_grammars.specs.Rules.{IsContextOf, IsLanguageOf, IsRuleOf, Pairwise}
use Rattle.network_grammars.proofs.Standing.{Agree, IsOn, agree, expression_back, expression_there, letters_apart}
use Rattle.two_level.specs.Rules.{HasLettersOf, Holds, IsContextOver, IsRuleOver}
use Rattle.two_level.specs.Spelled.{IsRuleFor, StandsFor, StandsIn}
use Rattle.two_level.specs.declared.rule.LangRule.{LangRule}
use Rattle.two_level.specs.declared.rule.PairContext.{PairContext}

-- elements of lists that go one by one
pub pair_right : {A B : Type 0} (R : A → B → Type 0) (xs : List A) (ys : List B) → Pairwise R xs ys → (y : B) → Contains ys y → (x : A) × Contains xs x × R x y
pair_right R [] [] all y among = absurd (Contains-nil_cases y among)
pair_right R [] (b ∷ ys) all y among = absurd all
pair_right R (a ∷ xs) [] all y among = absurd all
pair_right {A} R (a ∷ xs) (b ∷ ys) (here, rest) y among =
    elim (Contains-cons_cases b ys y among) as (λ _. (x : A) × Contains (a ∷ xs) x × R x y) [
      | inl is ↦ (a, Contains-head a xs, subst (R a) is here)
      | inr more ↦ let r = pair_right R xs ys rest y more in (r.0, Contains-tail a xs r.0 r.1, r.2)
    ]

pub pair_left : {A B : Type 0} (R : A → B → Type 0) (xs : List A) (ys : List B) → Pairwise R xs ys → (x : A) → Contains xs x → (y : B) × Contains ys y × R x y
pair_left R [] [] all x among = absurd (Contains-nil_cases x among)
pair_left R [] (b ∷ ys) all x among = absurd all
pair_left R (a ∷ xs) [] all x among = absurd all
pair_left {B = B} R (a ∷ xs) (b ∷ ys) (here, rest) x among =
    elim (Contains-cons_cases a xs x among) as (λ _. (y : B) × Contains (b ∷ ys) y × R x y) [
      | inl is ↦ (b, Contains-head b ys, subst (λ z. R z b) is here)
      | inr more ↦ let r = pair_left R xs ys rest x more in (r.0, Contains-tail b ys r.0 r.1, r.2)
    ]

-- what holds of all holds of them in reverse
all_reversed : {X : Type 0} (Q : X → Type 0) (xs : List X) → All Q xs → All Q (reverse xs)
all_reversed Q [] all = All-nil Q
all_reversed Q (x ∷ xs) all =
    subst (All Q) (sym (reverse-append (x ∷ []) xs)) (All-append Q (reverse xs) (x ∷ []) (all_reversed Q xs (All-tail Q x xs all)) (All-cons Q x [] (All-head Q x xs all) (All-nil Q)))

-- words of letters that are all there
somes : {X : Type 0} (a b : List X) → map Some a ≡ map Some b → a ≡ b
somes [] [] is = refl
somes [] (y ∷ b) is = let e : [] ≡ Some y ∷ map Some b = is in absurd (cc)
somes (x ∷ a) [] is = let e : Some x ∷ map Some a ≡ [] = is in absurd (cc)
somes (x ∷ a) (y ∷ b) is =
    let e : Some x ∷ map Some a ≡ Some y ∷ map Some b = is in
    let head : x ≡ y = cc in
    let tail : map Some a ≡ map Some b = cc in
    λ i. head i ∷ somes a b tail i

-- the feasible pairs and the sets of a scope are those of the grammar
pub begun : (g : GrammarOf Atom) (above : List (PairDefinition Atom)) (scope : Scope) → IsBuilt g above scope
    → ((x : Letter) → Contains scope.pairs x ↔ Contains (feasible g) x) × ((name : List ℕ) (s : Sym) → HasSymbol scope.sets name s ↔ IsMember (map set_of g.sets.items) name s)
begun g [] scope built = (built.pairs, built.sets)
begun g (d ∷ above) scope (old, m, before, words, more) =
    let r = begun g above old before in (
      subst (λ (P : List Letter). (x : Letter) → Contains P x ↔ Contains (feasible g) x) (sym more.pairs) r.0,
      subst (λ (z : List (List ℕ × List Sym)). (name : List ℕ) (s : Sym) → HasSymbol z name s ↔ IsMember (map set_of g.sets.items) name s) (sym more.sets) r.1,
    )

-- the rules are about feasible pairs, with contexts over them
module _ (g : GrammarOf Atom) (scope : Scope) (built : IsBuilt g (reverse (map definition_of g.definitions.items)) scope) (rules : List LangRule) (ruled : Pairwise (IsRuleOf scope) g.rules.items rules) where
  context_over : (c : Context (PairPart Atom)) (context : PairContext) → IsContextOf scope c context → IsContextOver scope.pairs context
  context_over c context is = (among context.left is.left.over, among context.right is.right.over)
    where
      among : (lang : Complete (Bound Letter)) → lang.letters ≡ all_letters scope.pairs → HasLettersOf scope.pairs lang
      among lang over x h = subst (λ (z : List (Bound Letter)). Contains z x) over h

  pub rule_over : (rule : LangRule) → Contains rules rule → IsRuleOver scope.pairs rule
  rule_over rule among =
      let r = pair_right (IsRuleOf scope) g.rules.items rules ruled rule among in
      let start = begun g (reverse (map definition_of g.definitions.items)) scope built in
      let own_pair : Contains (of_atom r.0.pair) rule.pair = subst (λ (z : List Letter). Contains z rule.pair) (sym r.2.pair) (Contains-head rule.pair []) in
      let listed : Contains (flat_map of_rule g.rules.items) rule.pair = in_flat of_rule g.rules.items r.0 rule.pair r.1 (in_front (of_atom r.0.pair) (flat_map of_context r.0.contexts.items) rule.pair own_pair) in (
        (start.0 rule.pair).1 (in_back (flat_map of_atom g.pairs.items ++ flat_map of_definition g.definitions.items) (flat_map of_rule g.rules.items) rule.pair listed),
        λ context has. let s = pair_right (IsContextOf scope) r.0.contexts.items rule.contexts.items r.2.contexts context has in context_over s.0 context s.2,
      )

-- symbols on a side of pairs that are over an alphabet
module _ (symbols : List Sym) (side : Letter → Option Sym) where
  pub on_side : (p : List Letter) → All (λ x. (s : Sym) → side x ≡ Some s → Contains symbols s) p → IsOver symbols (symbols_on side p)
  on_side [] all = All-nil (Contains symbols)
  on_side (x ∷ p) all =
      let Q : Letter → Type 0 = λ x. (s : Sym) → side x ≡ Some s → Contains symbols s in
      All-append (Contains symbols) (option_to_list (side x)) (symbols_on side p) (one (side x) (All-head Q x p all)) (on_side p (All-tail Q x p all))
    where
      one : (o : Option Sym) → ((s : Sym) → o ≡ Some s → Contains symbols s) → All (Contains symbols) (option_to_list o)
      one None among = All-nil (Contains symbols)
      one (Some s) among = All-cons (Contains symbols) s [] (among s refl) (All-nil (Contains symbols))

module _ (text : Sym → List ℕ) (g : GrammarOf Atom) (formed : IsFormed (grammar_of g)) (symbols : List Sym) (own : HasOwnTexts symbols text)
    (scope : Scope) (is_scope : IsScope scope) (built : IsBuilt g (reverse (map definition_of g.definitions.items)) scope) (over : All (IsPairOver symbols) (feasible g)) where
  abbrev P : List Letter
  P = scope.pairs

  abbrev G : Grammar Leaf
  G = in_texts text (grammar_of g)

  abbrev above : List (PairDefinition Leaf)
  above = reverse G.definitions

  start : ((x : Letter) → Contains scope.pairs x ↔ Contains (feasible g) x) × ((name : List ℕ) (s : Sym) → HasSymbol scope.sets name s ↔ IsMember (map set_of g.sets.items) name s)
  start = begun g (reverse (map definition_of g.definitions.items)) scope built

  pub pairs_over : (x : Letter) → Contains P x → IsPairOver symbols x
  pairs_over x among = All-contains (IsPairOver symbols) (feasible g) x over ((start.0 x).0 among)

  abbrev Spot : Type 0
  Spot = Rattle.network_grammars.proofs.Standing.Place text g formed symbols own P is_scope.distinct pairs_over start.0

  abbrev number : Spot → Sym
  number k = k.0

  abbrev letter : Spot → Letter
  letter k = k.1

  abbrev spelling : Spot → TextLetter
  spelling k = letter_in text k.1

  on : IsOn text g formed symbols own P is_scope.distinct pairs_over start.0 scope
  on = record { pairs = refl; numbers = is_scope.numbers; sets = start.1 }

  agreeing : Agree text g formed symbols own P is_scope.distinct pairs_over start.0 scope above
  agreeing =
      subst (Agree text g formed symbols own P is_scope.distinct pairs_over start.0 scope) (spelled_reverse (mapped_definition (in_text text)) (map definition_of g.definitions.items))
      (agree text g formed symbols own P is_scope.distinct pairs_over start.0 (reverse (map definition_of g.definitions.items)) scope
      (all_reversed (λ (d : PairDefinition Atom). IsPairForm d.term) (map definition_of g.definitions.items) formed.definitions) on built)

  -- the language of an expression, over pairs and over pairs of texts
  abbrev InTexts : Expr (PairPart Atom) → List (Bound TextLetter) → Type 0
  InTexts e w = In (PartRelates G above) (feasible_in_texts G) (mapped (mapped_part (in_text text)) (term_of e)) w

  renamed_is : (z : List (Bound Spot)) → map (pair_at P) (map (bound number) z) ≡ map Some (map (bound letter) z)
  renamed_is [] = refl
  renamed_is (Edge ∷ z) = ap (λ (u : List (Option (Bound Letter))). Some Edge ∷ u) (renamed_is z)
  renamed_is (Inner k ∷ z) = λ i. option_map Inner (k.2 i) ∷ renamed_is z i

  module _ (e : Expr (PairPart Atom)) (form : IsPairForm (term_of e)) (lang : Complete (Bound Letter)) (is : IsLanguageOf scope e lang) where
    language_there : Carries (bound letter) (bound spelling) (Accepts lang) (InTexts e)
    language_there = record {
      word = λ w accepted.
          let (v, has, named) = (is.words w).0 accepted in
          let r = (expression_there text g formed symbols own P is_scope.distinct pairs_over start.0 scope on above agreeing (term_of e) form).word v has in
          (r.0, somes w (map (bound letter) r.0) (sym named ∙ ap (map (pair_at P)) r.1 ∙ renamed_is r.0), r.2);
    }

    language_back : Carries (bound spelling) (bound letter) (InTexts e) (Accepts lang)
    language_back = record {
      word = λ w has.
          let r = (expression_back text g formed symbols own P is_scope.distinct pairs_over start.0 scope on above agreeing (term_of e) form).word w has in
          (r.0, r.1, (is.words (map (bound letter) r.0)).1 (map (bound number) r.0, r.2, renamed_is r.0));
    }

  letter_tells : Tells letter spelling
  letter_tells k l same = ap (letter_in text) same

  spelling_tells : Tells spelling letter
  spelling_tells k l same =
      letters_apart text g formed symbols own P is_scope.distinct pairs_over start.0 k.1 l.1 (Rattle.word_relations.proofs.Places.Contains-from_slice_get P k.0.0 k.1 k.2) same

  -- a context, between strings of places
  module _ (c : Context (PairPart Atom)) (context : PairContext) (is : IsContextOf scope c context) (left_form : IsPairForm (term_of c.left)) (right_form : IsPairForm (term_of c.right)) (x z : List Spot) where
    left_there : HoldsLeft (Accepts context.left) (inner (map letter x)) → HoldsLeft (InTexts c.left) (inner (map spelling x))
    left_there h =
        subst (HoldsLeft (InTexts c.left)) (sym (inner_spelled spelling x))
        (left_context letter spelling letter_tells (language_there c.left left_form context.left is.left) (inner x) (subst (HoldsLeft (Accepts context.left)) (inner_spelled letter x) h))

    left_back : HoldsLeft (InTexts c.left) (inner (map spelling x)) → HoldsLeft (Accepts context.left) (inner (map letter x))
    left_back h =
        subst (HoldsLeft (Accepts context.left)) (sym (inner_spelled letter x))
        (left_context spelling letter spelling_tells (language_back c.left left_form context.left is.left) (inner x) (subst (HoldsLeft (InTexts c.left)) (inner_spelled spelling x) h))

    right_there : HoldsRight (Accepts context.right) (inner (map letter z)) → HoldsRight (InTexts c.right) (inner (map spelling z))
    right_there h =
        subst (HoldsRight (InTexts c.right)) (sym (inner_spelled spelling z))
        (right_context letter spelling letter_tells (language_there c.right right_form context.right is.right) (inner z) (subst (HoldsRight (Accepts context.right)) (inner_spelled letter z) h))

    right_back : HoldsRight (InTexts c.right) (inner (map spelling z)) → HoldsRight (Accepts context.right) (inner (map letter z))
    right_back h =
        subst (HoldsRight (Accepts context.right)) (sym (inner_spelled letter z))
        (right_context spelling letter spelling_tells (language_back c.right right_form context.right is.right) (inner z) (subst (HoldsRight (InTexts c.right)) (inner_spelled spelling z) h))

  abbrev HoldsInTexts : List (Context (PairPart Atom)) → List Spot → List Spot → Type 0
  HoldsInTexts cs x z = InContext (PartRelates G above) (feasible_in_texts G) (mapped_contexts (mapped_part (in_text text)) (contexts_in cs)) (inner (map spelling x)) (inner (map spelling z))

  holds_there : (cs : List (Context (PairPart Atom))) (ls : List PairContext) → Pairwise (IsContextOf scope) cs ls → ContextsArePairForms (contexts_in cs) → (x z : List Spot) → Holds ls (map letter x) (map letter z) → HoldsInTexts cs x z
  holds_there [] [] all forms x z (l, among, left, right) = Contains-nil_cases l among
  holds_there [] (l ∷ ls) all forms x z h = absurd all
  holds_there (c ∷ cs) [] all forms x z h = absurd all
  holds_there (c ∷ cs) (l ∷ ls) (here, rest) forms x z (d, among, left, right) =
      elim (Contains-cons_cases l ls d among) as (λ _. HoldsInTexts (c ∷ cs) x z) [
        | inl is ↦ inl (
          left_there c l here forms.0 forms.1 x z (subst (λ (q : PairContext). HoldsLeft (Accepts q.left) (inner (map letter x))) (sym is) left),
          right_there c l here forms.0 forms.1 x z (subst (λ (q : PairContext). HoldsRight (Accepts q.right) (inner (map letter z))) (sym is) right),
        )
        | inr more ↦ inr (holds_there cs ls rest forms.2 x z (d, more, left, right))
      ]

  holds_back : (cs : List (Context (PairPart Atom))) (ls : List PairContext) → Pairwise (IsContextOf scope) cs ls → ContextsArePairForms (contexts_in cs) → (x z : List Spot) → HoldsInTexts cs x z → Holds ls (map letter x) (map letter z)
  holds_back [] [] all forms x z h = absurd h
  holds_back [] (l ∷ ls) all forms x z h = absurd all
  holds_back (c ∷ cs) [] all forms x z h = absurd all
  holds_back (c ∷ cs) (l ∷ ls) (here, rest) forms x z h =
      elim h as (λ _. Holds (l ∷ ls) (map letter x) (map letter z)) [
        | inl both ↦ (l, Contains-head l ls, left_back c l here forms.0 forms.1 x z both.0, right_back c l here forms.0 forms.1 x z both.1)
        | inr more ↦ let r = holds_back cs ls rest forms.2 x z more in (r.0, Contains-tail l ls r.0 r.1, r.2, r.3)
      ]

  -- a string of pairs, by its places
  spots : (x : List Letter) → IsOver P x → (k : List Spot) × (x ≡ map letter k)
  spots [] all = ([], refl)
  spots (y ∷ x) all =
      let at = Rattle.word_relations.proofs.Places.slice_get_from_Contains P y (All-head (Contains P) y x all) in
      let rest = spots x (All-tail (Contains P) y x all) in
      ((record { 0 = at.0 }, y, at.1) ∷ rest.0, ap (λ (z : List Letter). y ∷ z) rest.1)

  spelled_spots : (k : List Spot) → map (letter_in text) (map letter k) ≡ map spelling k
  spelled_spots [] = refl
  spelled_spots (s ∷ k) = ap (λ (z : List TextLetter). spelling s ∷ z) (spelled_spots k)

  contexts_same : (cs : List (Context (PairPart Atom))) (ls : List PairContext) → Pairwise (IsContextOf scope) cs ls → ContextsArePairForms (contexts_in cs) → (x z : List Letter) → IsOver P x → IsOver P z
      → Holds ls x z ↔ InContext (PartRelates G above) (feasible_in_texts G) (mapped_contexts (mapped_part (in_text text)) (contexts_in cs)) (inner (map (letter_in text) x)) (inner (map (letter_in text) z))
  contexts_same cs ls all forms x z first second =
      let k = spots x first in
      let l = spots z second in
      let up : map (letter_in text) x ≡ map spelling k.0 = ap (map (letter_in text)) k.1 ∙ spelled_spots k.0 in
      let low : map (letter_in text) z ≡ map spelling l.0 = ap (map (letter_in text)) l.1 ∙ spelled_spots l.0 in
      let Texts : List TextLetter → List TextLetter → Type 0 = λ u v. InContext (PartRelates G above) (feasible_in_texts G) (mapped_contexts (mapped_part (in_text text)) (contexts_in cs)) (inner u) (inner v) in (
        λ h. subst (λ u. Texts u (map (letter_in text) z)) (sym up) (subst (λ v. Texts (map spelling k.0) v) (sym low) (holds_there cs ls all forms k.0 l.0 (subst (λ (u : List Letter). Holds ls u (map letter l.0)) k.1 (subst (λ (v : List Letter). Holds ls x v) l.1 h)))),
        λ h. subst (λ (u : List Letter). Holds ls u z) (sym k.1) (subst (λ (v : List Letter). Holds ls (map letter k.0) v) (sym l.1) (holds_back cs ls all forms k.0 l.0 (subst (λ u. Texts u (map spelling l.0)) up (subst (λ v. Texts (map (letter_in text) x) v) low h)))),
      )

  module _ (rules : List LangRule) (ruled : Pairwise (IsRuleOf scope) g.rules.items rules) where
    formed_at : (r : TwoLevelRule Atom) → Contains g.rules.items r → IsFormedRule (rule_of r)
    formed_at r among = All-contains IsFormedRule (map rule_of g.rules.items) (rule_of r) formed.rules (Contains-map rule_of g.rules.items r among)

    pub rule_for : (r : TwoLevelRule Atom) (rule : LangRule) → Contains g.rules.items r → IsRuleOf scope r rule → IsRuleFor text G P (mapped_rule (in_text text) (rule_of r)) rule
    rule_for r rule among is = record {
      kind = is.kind;
      centre = written_same text (pair_of r.pair) ∙ ap (map (letter_in text)) is.pair;
      contexts = contexts_same r.contexts.items rule.contexts.items is.contexts (formed_at r among).2;
    }

    symbol_among : (s : Sym) → StandsIn P s → Contains symbols s
    symbol_among s (x, among, on_side) = elim on_side as (λ _. Contains symbols s) [ inl up ↦ (pairs_over x among).up s up | inr low ↦ (pairs_over x among).low s low ]

    pub stands_for : StandsFor text G P rules
    stands_for = record {
      apart = λ a b first second same. own a b (symbol_among a first) same;
      pairs_are = λ x. (
        λ among.
            let r = Contains-map_cases (letter_in text) (feasible g) x (subst (λ (z : List TextLetter). Contains z x) (feasible_same text g formed) among) in
            subst (Contains (map (letter_in text) P)) r.2 (Contains-map (letter_in text) P r.0 ((start.0 r.0).1 r.1)),
        λ among.
            let r = Contains-map_cases (letter_in text) P x among in
            subst (λ (z : List TextLetter). Contains z x) (sym (feasible_same text g formed)) (subst (Contains (map (letter_in text) (feasible g))) r.2 (Contains-map (letter_in text) (feasible g) r.0 ((start.0 r.0).0 r.1))),
      );
      over = rule_over g scope built rules ruled;
      rules_are = λ r among.
          let first = Contains-map_cases (mapped_rule (in_text text)) (map rule_of g.rules.items) r among in
          let second = Contains-map_cases rule_of g.rules.items first.0 first.1 in
          let found = pair_left (IsRuleOf scope) g.rules.items rules ruled second.0 second.1 in
          (found.0, found.1, subst (λ (z : Rule Leaf). IsRuleFor text G P z found.0) (ap (mapped_rule (in_text text)) second.2 ∙ first.2) (rule_for second.0 found.0 second.1 found.2));
      rules_only = λ rule among.
          let found = pair_right (IsRuleOf scope) g.rules.items rules ruled rule among in
          (mapped_rule (in_text text) (rule_of found.0), Contains-map (mapped_rule (in_text text)) (map rule_of g.rules.items) (rule_of found.0) (Contains-map rule_of g.rules.items found.0 found.1), rule_for found.0 rule found.1 found.2);
    }
