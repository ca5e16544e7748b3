-- What the leaves of a grammar relate in numbers of pairs they relate in texts, definition by definition.
use Rattle.std.proofs.Common.{◌≡◌, ◌≢◌, ◌↔◌, ◌⊎◌, ◌<◌, ℕ, zero, suc, Bool, true, false, cond, List, [], ◌∷◌, Option, None, Some, All, MatchOption, length, map, refl, sym, ap, subst, ◌∙◌, inl, inr, arith, true≢false}
use Rattle.std.proofs.lemmas.List.Elements.{All-head, All-tail}
use Rattle.std.proofs.lemmas.Option.{slice_get_within, same_Some}
use Rattle.std.proofs.lemmas.Slice.Eq.{bytes_eq-Decides}
use Rattle.std.specs.List.{Contains, slice_get}
use Rattle.std.specs.Option.{option_map}
use Rattle.std.specs.Str.{bytes_eq}
use Rattle.fsm_base.specs.declared.letters.Bound.{Bound}
use Rattle.fsm_base.specs.declared.letters.Pair.{Pair as Letter}
use Rattle.fsm_base.specs.declared.letters.Sym.{Sym}
use Rattle.word_relations.specs.Words.{IsDistinct}
use Rattle.word_relations.proofs.Members.{Contains-map, Contains-map_cases}
use Rattle.word_relations.proofs.Places.{Contains-from_slice_get, slice_get_from_Contains, same_at}
use Rattle.regex_ast.specs.Terms.{Term, Terms, Links, empty, any, edge, atom, group, maybe, not_one, suffixed, prefixed, ignore, concat, chain, no_term, then_term, no_link, or, and, less}
use Rattle.regex_ast.specs.declared.expr.Atom.{Atom}
use Rattle.regex_ast.specs.declared.twolc.Grammar.{Grammar as GrammarOf}
use Rattle.fsa.specs.Automaton.{Automaton}
use Rattle.fsa.specs.Language.{Accepts}
use Rattle.expr_kinds.specs.Built.{IsBuilt as HasLeaves, AreBuilt as HaveLeaves, LinksAreBuilt as LinksHaveLeaves}
use Rattle.expr_leaves.specs.Mapped.{mapped}
use Rattle.expr_meaning.specs.Meaning.{In}
use Rattle.expr_meaning.specs.Operators.{inner, IsItself}
use Rattle.expr_spelling.proofs.Words.{Carries, CarriesPairs, Tells}
use Rattle.expr_spelling.proofs.Edges.{bound, itself}
use Rattle.expr_spelling.proofs.Sides.{Side, Meets}
use Rattle.expr_spelling.proofs.Carrying.{set_goes}
use Rattle.project_meaning.specs.Trees.{Pair, Part, pair, called, PairDefinition, Grammar}
use Rattle.project_meaning.specs.Leaves.{Leaf}
use Rattle.project_meaning.specs.Grammars.{Letter as TextLetter, feasible as feasible_in_texts, IsMember as IsMemberInTexts, PartRelates}
use Rattle.grammar_pairs.specs.Feasible.{feasible}
use Rattle.grammar_pairs.specs.Fitting.{IsOneOf, IsTwice}
use Rattle.grammar_pairs.specs.Mapped.{mapped_definition, mapped_pair, mapped_part}
use Rattle.grammar_pairs.specs.Plain.{IsFormed, IsPairForm, ArePairForms, LinksArePairForms, grammar_of, set_of}
use Rattle.grammar_pairs.specs.Tables.{AreNumbers, HasSymbol, IsMember, under}
use Rattle.grammar_pairs.specs.Texts.{HasOwnTexts, IsPairOver, in_text, in_texts, letter_in}
use Rattle.grammar_pairs.proofs.Forms.{mapped_same}
use Rattle.grammar_pairs.proofs.Spelled.{feasible_same, member_there, member_back, side_there, side_back}
use Rattle.network_grammars.specs.Built.{IsBuilt, IsWith}
use Rattle.network_grammars.specs.PairMeaning.{HasWordsOf, stands}
use Rattle.network_grammars.specs.declared.scope.Scope.{Scope}

-- an expression over pairs has only leaves that pass a test that all pass
abbrev all_pass : {A : Type 0} → A → Bool
all_pass a = true

mutual
  has_leaves : {A : Type 0} (e : Term A) → IsPairForm e → HasLeaves all_pass e
  has_leaves empty form = tt
  has_leaves any form = tt
  has_leaves edge form = tt
  has_leaves (atom a) form = refl
  has_leaves (group e) form = has_leaves e form
  has_leaves (maybe e) form = has_leaves e form
  has_leaves (not_one n e) form = has_leaves e form
  has_leaves (suffixed e suffixes) form = has_leaves e form
  has_leaves (prefixed prefixes e) form = has_leaves e form
  has_leaves (ignore es) form = have_leaves es form
  has_leaves (concat es) form = have_leaves es form
  has_leaves (chain e links) form = (has_leaves e form.0, links_have_leaves links form.1)
  has_leaves _ form = absurd form

  have_leaves : {A : Type 0} (es : Terms A) → ArePairForms es → HaveLeaves all_pass es
  have_leaves no_term form = tt
  have_leaves (then_term e es) form = (has_leaves e form.0, have_leaves es form.1)

  links_have_leaves : {A : Type 0} (links : Links A) → LinksArePairForms links → LinksHaveLeaves all_pass links
  links_have_leaves no_link form = tt
  links_have_leaves (or e links) form = (has_leaves e form.0, links_have_leaves links form.1)
  links_have_leaves (and e links) form = (has_leaves e form.0, links_have_leaves links form.1)
  links_have_leaves (less e links) form = (has_leaves e form.0, links_have_leaves links form.1)

-- a relation that is carried to a larger one, and from a smaller one
carried_more : {K S M : Type 0} (f : K → S) (g : K → M) {R : List S → List S → Type 0} {T T' : List M → List M → Type 0} → ((u w : List M) → T u w → T' u w) → CarriesPairs f g R T → CarriesPairs f g R T'
carried_more f g {T'} more a = record { pair = λ u w r. let c = a.pair u w r in (c.0, c.1, c.2, c.3, more (map g c.0) (map g c.1) c.4) }

carried_less : {K S M : Type 0} (f : K → S) (g : K → M) {R R' : List S → List S → Type 0} {T : List M → List M → Type 0} → ((u w : List S) → R' u w → R u w) → CarriesPairs f g R T → CarriesPairs f g R' T
carried_less f g smaller a = record { pair = λ u w r. a.pair u w (smaller u w r) }

-- and a set of words that is the same
carried_same : {K S M : Type 0} (f : K → S) (g : K → M) {P P' : List S → Type 0} {Q : List M → Type 0} → ((w : List S) → P' w → P w) → Carries f g P Q → Carries f g P' Q
carried_same f g same a = record { word = λ w p. a.word w (same w p) }

carried_to : {K S M : Type 0} (f : K → S) (g : K → M) {P : List S → Type 0} {Q Q' : List M → Type 0} → ((w : List M) → Q w → Q' w) → Carries f g P Q → Carries f g P Q'
carried_to f g same a = record { word = λ w p. let c = a.word w p in (c.0, c.1, same (map g c.0) c.2) }

-- the element at a place that is there
missing : {X : Type 0} (ys : List X) (j : ℕ) → j < length ys → slice_get ys j ≡ None → ⊥
missing [] j low none = omega arith
missing (y ∷ ys) zero low none = let e : Some y ≡ None = none in cc
missing (y ∷ ys) (suc j) low none = missing ys j (omega arith) none

element_at : {X : Type 0} (xs : List X) (k : ℕ) → k < length xs → (x : X) × (slice_get xs k ≡ Some x)
element_at {X} xs k below = by (slice_get xs k) refl
  where
    by : (o : Option X) → slice_get xs k ≡ o → (x : X) × (slice_get xs k ≡ Some x)
    by (Some x) is = (x, is)
    by None is = absurd (missing xs k below is)

cases_of : (b : Bool) → (b ≡ true) ⊎ (b ≡ false)
cases_of true = inl refl
cases_of false = inr refl

-- the symbol of a side whose text is known
some_text : (text : Sym → List ℕ) (o : Option Sym) (t : List ℕ) → option_map text o ≡ Some t → (s : Sym) × (o ≡ Some s) × (text s ≡ t)
some_text text None t is = let e : None ≡ Some t = is in absurd (cc)
some_text text (Some s) t is = (s, refl, same_Some (text s) t is)

module _ (text : Sym → List ℕ) (g : GrammarOf Atom) (formed : IsFormed (grammar_of g)) (symbols : List Sym) (own : HasOwnTexts symbols text)
    (P : List Letter) (distinct : IsDistinct P) (over : (x : Letter) → Contains P x → IsPairOver symbols x) (pairs_are : (x : Letter) → Contains P x ↔ Contains (feasible g) x) where
  abbrev G : Grammar Leaf
  G = in_texts text (grammar_of g)

  -- a feasible pair with its number
  abbrev pub Place : Type 0
  Place = (n : Sym) × (x : Letter) × (slice_get P n.0 ≡ Some x)

  abbrev pub number : Place → Sym
  number k = k.0

  abbrev pub letter : Place → Letter
  letter k = k.1

  abbrev pub spelling : Place → TextLetter
  spelling k = letter_in text k.1

  stands_at : (k : Place) → Contains P k.1
  stands_at k = Contains-from_slice_get P k.0.0 k.1 k.2

  side_apart : (a b : Option Sym) → ((s : Sym) → a ≡ Some s → Contains symbols s) → option_map text a ≡ option_map text b → a ≡ b
  side_apart None None among is = refl
  side_apart None (Some t) among is = let e : None ≡ Some (text t) = is in absurd (cc)
  side_apart (Some s) None among is = let e : Some (text s) ≡ None = is in absurd (cc)
  side_apart (Some s) (Some t) among is = ap (λ (z : Sym). Some z) (own s t (among s refl) (same_Some (text s) (text t) is))

  pub letters_apart : (x y : Letter) → Contains P x → letter_in text x ≡ letter_in text y → x ≡ y
  letters_apart x y among is =
      let up = side_apart x.up y.up (over x among).up (ap (λ (z : TextLetter). z.up) is) in
      let low = side_apart x.low y.low (over x among).low (ap (λ (z : TextLetter). z.low) is) in
      λ i. record { up = up i; low = low i }

  number_tells : Tells number spelling
  number_tells k l same = ap (letter_in text) (same_at P l.0.0 k.1 l.1 (subst (λ (n : Sym). slice_get P n.0 ≡ Some k.1) same k.2) l.2)

  spelling_tells : Tells spelling number
  spelling_tells k l same =
      let one : k.1 ≡ l.1 = letters_apart k.1 l.1 (stands_at k) same in
      let place : k.0.0 ≡ l.0.0 = distinct k.0.0 l.0.0 k.1 k.2 (l.2 ∙ ap (λ (z : Letter). Some z) (sym one)) in
      λ i. record { 0 = place i }

  place_of : (x : Letter) → Contains P x → (k : Place) × (k.1 ≡ x)
  place_of x among = let at = slice_get_from_Contains P x among in ((record { 0 = at.0 }, x, at.1), refl)

  known_spelling : (k : Place) → Contains (feasible_in_texts G) (spelling k)
  known_spelling k =
      subst (λ (z : List TextLetter). Contains z (spelling k)) (sym (feasible_same text g formed)) (Contains-map (letter_in text) (feasible g) k.1 ((pairs_are k.1).0 (stands_at k)))

  spelled_place : (y : TextLetter) → Contains (feasible_in_texts G) y → (k : Place) × (spelling k ≡ y)
  spelled_place y among =
      let r = Contains-map_cases (letter_in text) (feasible g) y (subst (λ (z : List TextLetter). Contains z y) (feasible_same text g formed) among) in
      let k = place_of r.0 ((pairs_are r.0).1 r.1) in
      (k.0, ap (letter_in text) k.1 ∙ r.2)

  -- a scope has these pairs, and the sets of the grammar
  pub record IsOn (scope : Scope) : Type 0 where
    pub pairs : scope.pairs ≡ P
    pub numbers : AreNumbers P scope.numbers.items
    pub sets : (name : List ℕ) (s : Sym) → HasSymbol scope.sets name s ↔ IsMember (map set_of g.sets.items) name s

  numbered : (scope : Scope) → IsOn scope → (k : Place) → Contains scope.numbers.items k.0
  numbered scope on k = Contains-from_slice_get scope.numbers.items k.0.0 k.0 (on.numbers.each k.0.0 (slice_get_within P k.0.0 k.1 k.2))

  place_numbered : (scope : Scope) → IsOn scope → (n : Sym) → Contains scope.numbers.items n → (k : Place) × (k.0 ≡ n)
  place_numbered scope on n among =
      let at = slice_get_from_Contains scope.numbers.items n among in
      let below : at.0 < length P = omega (arith, slice_get_within scope.numbers.items at.0 n at.1, on.numbers.count) in
      let x = element_at P at.0 below in
      let is : record { 0 = at.0 } ≡ n = same_Some (record { 0 = at.0 }) n (sym (on.numbers.each at.0 below) ∙ at.1) in
      ((record { 0 = at.0 }, x.0, x.1), is)

  abbrev in_numbers : (scope : Scope) → IsOn scope → Side Place (Part Atom) (Part Atom) Sym
  in_numbers scope on = record { letter = number; leaf = stands scope; leaf_of = λ (c : Part Atom). c; alphabet = scope.numbers.items; named = numbered scope on; known = place_numbered scope on }

  abbrev spelled_out : List (PairDefinition Leaf) → Side Place (Part Atom) (Part Leaf) TextLetter
  spelled_out above = record { letter = spelling; leaf = PartRelates G above; leaf_of = mapped_part (in_text text); alphabet = feasible_in_texts G; named = known_spelling; known = spelled_place }

  -- each leaf relates the same in numbers and in texts
  pub record Agree (scope : Scope) (above : List (PairDefinition Leaf)) : Type 0 where
    pub there : (c : Part Atom) → CarriesPairs number spelling (stands scope c) (PartRelates G above (mapped_part (in_text text) c))
    pub back : (c : Part Atom) → CarriesPairs spelling number (PartRelates G above (mapped_part (in_text text) c)) (stands scope c)

  -- then so does each expression
  module _ (scope : Scope) (on : IsOn scope) (above : List (PairDefinition Leaf)) (agree : Agree scope above) (e : Term (Part Atom)) (form : IsPairForm e) where
    abbrev InTexts : List (Bound TextLetter) → Type 0
    InTexts w = In (PartRelates G above) (feasible_in_texts G) (mapped (mapped_part (in_text text)) e) w

    abbrev InNumbers : List (Bound Sym) → Type 0
    InNumbers w = In (stands scope) scope.numbers.items e w

    down : Meets all_pass (in_numbers scope on) (spelled_out above)
    down = record { tells = number_tells; leaves = λ c _. agree.there c }

    up : Meets all_pass (spelled_out above) (in_numbers scope on)
    up = record { tells = spelling_tells; leaves = λ c _. agree.back c }

    pub expression_there : Carries (bound number) (bound spelling) InNumbers InTexts
    expression_there =
        carried_same (bound number) (bound spelling) (λ w h. subst (λ (t : Term (Part Atom)). In (stands scope) scope.numbers.items t w) (sym (mapped_same e form)) h)
        (set_goes all_pass (in_numbers scope on) (spelled_out above) down up e (has_leaves e form))

    pub expression_back : Carries (bound spelling) (bound number) InTexts InNumbers
    expression_back =
        carried_to (bound spelling) (bound number) (λ w h. subst (λ (t : Term (Part Atom)). In (stands scope) scope.numbers.items t w) (mapped_same e form) h)
        (set_goes all_pass (spelled_out above) (in_numbers scope on) up down e (has_leaves e form))

  -- a pair
  module _ (scope : Scope) (on : IsOn scope) where
    abbrev at_place : (n : Sym) (x : Letter) → slice_get scope.pairs n.0 ≡ Some x → Place
    at_place n x at = (n, x, subst (λ (q : List Letter). slice_get q n.0 ≡ Some x) on.pairs at)

    in_scope : (k : Place) → slice_get scope.pairs k.0.0 ≡ Some k.1
    in_scope k = subst (λ (q : List Letter). slice_get q k.0.0 ≡ Some k.1) (sym on.pairs) k.2

    pair_there : (above : List (PairDefinition Leaf)) (p : Pair Atom) → CarriesPairs number spelling (stands scope (pair p)) (PartRelates G above (pair (mapped_pair (in_text text) p)))
    pair_there above p = record {
      pair = λ u w ((n, (x, at, (up, low)), is), same).
          let k = at_place n x at in (
            k ∷ [],
            k ∷ [],
            is,
            sym same ∙ is,
            (letter_in text x, known_spelling k, side_there text (grammar_of g) scope.sets on.sets p.up x.up up, side_there text (grammar_of g) scope.sets on.sets p.low x.low low, refl, refl),
          );
    }

    pair_back : (above : List (PairDefinition Leaf)) (p : Pair Atom) → CarriesPairs spelling number (PartRelates G above (pair (mapped_pair (in_text text) p))) (stands scope (pair p))
    pair_back above p = record {
      pair = λ u w (y, among, up, low, is, same).
          let r = spelled_place y among in
          let k = r.0 in
          let alone : u ≡ map spelling (k ∷ []) = is ∙ ap (λ (z : TextLetter). z ∷ []) (sym r.1) in
          let own_up = λ (s b : Sym) (found : k.1.up ≡ Some s) (eq : text s ≡ text b). own s b ((over k.1 (stands_at k)).up s found) eq in
          let own_low = λ (s b : Sym) (found : k.1.low ≡ Some s) (eq : text s ≡ text b). own s b ((over k.1 (stands_at k)).low s found) eq in
          let upper = side_back text (grammar_of g) scope.sets on.sets p.up k.1.up own_up (subst (λ (z : TextLetter). Rattle.project_meaning.specs.Grammars.MayBe G (mapped_pair (in_text text) p).up z.up) (sym r.1) up) in
          let lower = side_back text (grammar_of g) scope.sets on.sets p.low k.1.low own_low (subst (λ (z : TextLetter). Rattle.project_meaning.specs.Grammars.MayBe G (mapped_pair (in_text text) p).low z.low) (sym r.1) low) in
          (k ∷ [], k ∷ [], alone, sym same ∙ alone, ((k.0, (k.1, in_scope k, (upper, lower)), refl), refl));
    }

    -- a set's name, where no definition has it
    abbrev TwiceInNumbers : List ℕ → List Sym → List Sym → Type 0
    TwiceInNumbers name u w = IsOneOf scope.pairs (IsTwice scope.sets name) u × (u ≡ w)

    twice_there : (name : List ℕ) → CarriesPairs number spelling (TwiceInNumbers name) (PartRelates G [] (called name))
    twice_there name = record {
      pair = λ u w ((n, (x, at, (s, has, is_twice)), is), same).
          let k = at_place n x at in
          let t = text s in
          let spelled : spelling k ≡ record { up = Some t; low = Some t } = ap (letter_in text) is_twice in (
            k ∷ [],
            k ∷ [],
            is,
            sym same ∙ is,
            (t, member_there text (grammar_of g) name s ((on.sets name s).0 has), subst (Contains (feasible_in_texts G)) spelled (known_spelling k), ap (λ (z : TextLetter). z ∷ []) spelled, refl),
          );
    }

    twice_back : (name : List ℕ) → CarriesPairs spelling number (PartRelates G [] (called name)) (TwiceInNumbers name)
    twice_back name = record {
      pair = λ u w (t, has, among, is, same).
          let r = spelled_place (record { up = Some t; low = Some t }) among in
          let k = r.0 in
          let alone : u ≡ map spelling (k ∷ []) = is ∙ ap (λ (z : TextLetter). z ∷ []) (sym r.1) in
          let up = some_text text k.1.up t (ap (λ (z : TextLetter). z.up) r.1) in
          let low = some_text text k.1.low t (ap (λ (z : TextLetter). z.low) r.1) in
          let s = up.0 in
          let among_s = (over k.1 (stands_at k)).up s up.1 in
          let one : s ≡ low.0 = own s low.0 among_s (up.2 ∙ sym low.2) in
          let low_is : k.1.low ≡ Some s = low.1 ∙ ap (λ (z : Sym). Some z) (sym one) in
          let both : k.1 ≡ record { up = Some s; low = Some s } = λ i. record { up = up.1 i; low = low_is i } in
          let member = member_back text (grammar_of g) name s (λ b eq. own s b among_s eq) (subst (IsMemberInTexts G name) (sym up.2) has) in
          (k ∷ [], k ∷ [], alone, sym same ∙ alone, ((k.0, (k.1, in_scope k, (s, (on.sets name s).1 member, both)), refl), refl));
    }

  -- what a name relates, by what stands under it
  abbrev NameRelates : List Letter → List (List ℕ × List Sym) → List ℕ → Option (Automaton (Bound Sym)) → List Sym → List Sym → Type 0
  NameRelates pairs sets name found u w = MatchOption found (IsOneOf pairs (IsTwice sets name) u × (u ≡ w)) (λ m. Accepts m (inner u) × (u ≡ w))

  found_as : (pairs : List Letter) (sets : List (List ℕ × List Sym)) (name : List ℕ) (a b : Option (Automaton (Bound Sym))) → a ≡ b → (u w : List Sym) → NameRelates pairs sets name a u w → NameRelates pairs sets name b u w
  found_as pairs sets name a b is u w h = subst (λ (o : Option (Automaton (Bound Sym))). NameRelates pairs sets name o u w) is h

  -- the scope before a definition
  on_before : (old new : Scope) (name : List ℕ) (m : Automaton (Bound Sym)) → IsWith old name m new → IsOn new → IsOn old
  on_before old new name m more on = record {
    pairs = sym more.pairs ∙ on.pairs;
    numbers = subst (AreNumbers P) more.numbers on.numbers;
    sets = λ other s. subst (λ (z : List (List ℕ × List Sym)). HasSymbol z other s ↔ IsMember (map set_of g.sets.items) other s) more.sets (on.sets other s);
  }

  module _ (old new : Scope) (d : PairDefinition Atom) (m : Automaton (Bound Sym)) (more : IsWith old d.name m new) (on : IsOn new) (above : List (PairDefinition Leaf)) (agree : Agree old above) (words : HasWordsOf old d.term m) (form : IsPairForm d.term) where
    old_on : IsOn old
    old_on = on_before old new d.name m more on

    abbrev D : PairDefinition Leaf
    D = mapped_definition (in_text text) d

    -- its own name
    own_there : (name : List ℕ) → d.name ≡ name → under name new.definitions ≡ Some m → CarriesPairs number spelling (stands new (called name)) (PartRelates G (D ∷ above) (called name))
    own_there name is found =
        carried_less number spelling (found_as new.pairs new.sets name (under name new.definitions) (Some m) found)
        (carried_more number spelling (λ u w h. inl (is, h.0, h.1))
        (itself number spelling (carried_same (bound number) (bound spelling) (λ w h. (words w).0 h) (expression_there old old_on above agree d.term form))))

    own_back : (name : List ℕ) → d.name ≡ name → under name new.definitions ≡ Some m → CarriesPairs spelling number (PartRelates G (D ∷ above) (called name)) (stands new (called name))
    own_back name is found =
        carried_more spelling number (found_as new.pairs new.sets name (Some m) (under name new.definitions) (sym found))
        (carried_less spelling number only
        (itself spelling number (carried_to (bound spelling) (bound number) (λ w h. (words w).1 h) (expression_back old old_on above agree d.term form))))
      where
        only : (u w : List TextLetter) → PartRelates G (D ∷ above) (called name) u w → IsItself (In (PartRelates G above) (feasible_in_texts G) (mapped (mapped_part (in_text text)) d.term)) u w
        only u w (inl (same, h, e)) = (h, e)
        only u w (inr (differs, h)) = absurd (differs is)

    -- another name
    other_is : (name : List ℕ) → under name new.definitions ≡ under name old.definitions → stands new (called name) ≡ stands old (called name)
    other_is name found = λ i u w. NameRelates (more.pairs i) (more.sets i) name (found i) u w

    other_there : (name : List ℕ) → d.name ≢ name → under name new.definitions ≡ under name old.definitions → CarriesPairs number spelling (stands new (called name)) (PartRelates G (D ∷ above) (called name))
    other_there name differs found =
        carried_more number spelling (λ u w h. inr (differs, h))
        (subst (λ (R : List Sym → List Sym → Type 0). CarriesPairs number spelling R (PartRelates G above (called name))) (sym (other_is name found)) (agree.there (called name)))

    other_back : (name : List ℕ) → d.name ≢ name → under name new.definitions ≡ under name old.definitions → CarriesPairs spelling number (PartRelates G (D ∷ above) (called name)) (stands new (called name))
    other_back name differs found =
        subst (λ (R : List Sym → List Sym → Type 0). CarriesPairs spelling number (PartRelates G (D ∷ above) (called name)) R) (sym (other_is name found))
        (carried_less spelling number only (agree.back (called name)))
      where
        only : (u w : List TextLetter) → PartRelates G (D ∷ above) (called name) u w → PartRelates G above (called name) u w
        only u w (inl (same, h, e)) = absurd (differs same)
        only u w (inr (different, h)) = h

    more_agree : Agree new (D ∷ above)
    more_agree = record { there = there; back = back }
      where
        here : (name : List ℕ) (b : Bool) → bytes_eq d.name name ≡ b → under name new.definitions ≡ cond b (Some m) (under name old.definitions)
        here name b e = more.definitions name ∙ ap (λ (c : Bool). cond c (Some m) (under name old.definitions)) e

        apart : (name : List ℕ) → bytes_eq d.name name ≡ false → d.name ≢ name
        apart name e same = true≢false (sym ((bytes_eq-Decides d.name name).1 same) ∙ e)

        there : (c : Part Atom) → CarriesPairs number spelling (stands new c) (PartRelates G (D ∷ above) (mapped_part (in_text text) c))
        there (pair p) = pair_there new on (D ∷ above) p
        there (called name) = elim (cases_of (bytes_eq d.name name)) as (λ _. CarriesPairs number spelling (stands new (called name)) (PartRelates G (D ∷ above) (called name))) [
          | inl e ↦ own_there name ((bytes_eq-Decides d.name name).0 e) (here name true e)
          | inr e ↦ other_there name (apart name e) (here name false e)
        ]

        back : (c : Part Atom) → CarriesPairs spelling number (PartRelates G (D ∷ above) (mapped_part (in_text text) c)) (stands new c)
        back (pair p) = pair_back new on (D ∷ above) p
        back (called name) = elim (cases_of (bytes_eq d.name name)) as (λ _. CarriesPairs spelling number (PartRelates G (D ∷ above) (called name)) (stands new (called name))) [
          | inl e ↦ own_back name ((bytes_eq-Decides d.name name).0 e) (here name true e)
          | inr e ↦ other_back name (apart name e) (here name false e)
        ]

  -- the scope of a grammar's definitions
  pub agree : (above : List (PairDefinition Atom)) (scope : Scope) → All (λ d. IsPairForm d.term) above → IsOn scope → IsBuilt g above scope → Agree scope (map (mapped_definition (in_text text)) above)
  agree [] scope forms on built = record { there = there; back = back }
    where
      there : (c : Part Atom) → CarriesPairs number spelling (stands scope c) (PartRelates G [] (mapped_part (in_text text) c))
      there (pair p) = pair_there scope on [] p
      there (called name) = carried_less number spelling (found_as scope.pairs scope.sets name (under name scope.definitions) None (built.none name)) (twice_there scope on name)

      back : (c : Part Atom) → CarriesPairs spelling number (PartRelates G [] (mapped_part (in_text text) c)) (stands scope c)
      back (pair p) = pair_back scope on [] p
      back (called name) = carried_more spelling number (found_as scope.pairs scope.sets name None (under name scope.definitions) (sym (built.none name))) (twice_back scope on name)
  agree (d ∷ above) scope forms on (old, m, before, words, more) =
      let first = on_before old scope d.name m more on in
      let rest = agree above old (All-tail (λ (z : PairDefinition Atom). IsPairForm z.term) d above forms) first before in
      more_agree old scope d m more on (map (mapped_definition (in_text text)) above) rest words (All-head (λ (z : PairDefinition Atom). IsPairForm z.term) d above forms)
