-- A grammar over numbers of symbols, and the same over their texts: its feasible pairs, its sets, and what its atoms may be.
use Rattle.std.proofs.Common.{◌≡◌, ◌↔◌, ◌<◌, ℕ, Bool, true, false, cond, List, [], ◌∷◌, ◌++◌, Option, None, Some, All, length, map, nat_eq, refl, sym, ap, subst, ◌∙◌, arith}
use Rattle.std.proofs.lemmas.List.{map-append}
use Rattle.std.proofs.lemmas.List.Elements.{All-nil, All-cons, All-head, All-tail, All-contains}
use Rattle.std.proofs.lemmas.Option.{slice_get-map, same_Some}
use Rattle.std.specs.List.{Contains, flat_map, slice_get}
use Rattle.std.specs.Option.{option_map}
use Rattle.fsm_base.specs.Alphabet.{IsAlphabet, symbols_of, texts_of, text_of}
use Rattle.fsm_base.specs.Symbols.{IsSymbol}
use Rattle.fsm_base.specs.declared.letters.Pair.{Pair as Letter}
use Rattle.fsm_base.specs.declared.letters.Sym.{Sym}
use Rattle.fsm_base.proofs.AlphabetLemmas.{same_symbol, text_of-pair}
use Rattle.word_relations.proofs.Members.{Contains-head, Contains-tail, Contains-map, Contains-map_cases}
use Rattle.word_relations.proofs.Places.{slice_get_from_Contains, same_at}
use Rattle.regex_ast.specs.Terms.{term}
use Rattle.regex_ast.specs.declared.expr.Atom.{Atom}
use Rattle.regex_ast.specs.declared.expr.Context.{Context}
use Rattle.regex_ast.specs.declared.twolc.Grammar.{Grammar as GrammarOf}
use Rattle.regex_ast.specs.declared.twolc.PairAtom.{PairAtom}
use Rattle.regex_ast.specs.declared.twolc.PairDefine.{PairDefine}
use Rattle.regex_ast.specs.declared.twolc.PairPart.{PairPart}
use Rattle.regex_ast.specs.declared.twolc.TwoLevelRule.{TwoLevelRule}
use Rattle.expr_leaves.specs.Leaves.{listed, listed_contexts}
use Rattle.expr_leaves.specs.Mapped.{mapped, mapped_contexts}
use Rattle.project_meaning.specs.Trees.{Side, nothing, anything, one, member, Pair, Part, pair, called, Set, PairDefinition, Rule, Grammar}
use Rattle.project_meaning.specs.Leaves.{Leaf}
use Rattle.project_meaning.specs.Lexicons.{text_in}
use Rattle.project_meaning.specs.Grammars.{Letter as TextLetter, written_pair as written_in_texts, written_part as part_in_texts, feasible as feasible_in_texts, IsMember as IsMemberInTexts, MayBe as MayBeInTexts}
use Rattle.grammar_pairs.specs.Plain.{symbol_in, pair_of, part_of, term_of, contexts_in, definition_of, rule_of, grammar_of, IsPairForm, ContextsArePairForms, IsFormed, IsFormedRule}
use Rattle.grammar_pairs.specs.Feasible.{written_pair, written_part, of_atom, of_expression, of_context, of_definition, of_rule, feasible}
use Rattle.grammar_pairs.specs.Fitting.{MayBe}
use Rattle.grammar_pairs.specs.Mapped.{mapped_side, mapped_pair, mapped_part, mapped_set, mapped_definition, mapped_rule}
use Rattle.grammar_pairs.specs.Tables.{HasSymbol, IsMember}
use Rattle.grammar_pairs.specs.Texts.{in_text, in_texts, letter_in, HasOwnTexts}
use Rattle.grammar_pairs.proofs.Forms.{listed_map, listed_leaves}

flat_over : {X Y Z : Type 0} (h : Y → List Z) (k : X → Y) (xs : List X) → flat_map h (map k xs) ≡ flat_map (λ x. h (k x)) xs
flat_over h k [] = refl
flat_over h k (x ∷ xs) = ap (λ z. h (k x) ++ z) (flat_over h k xs)

-- what is listed of each is the image of what is listed of each
flat_image : {X Y Z : Type 0} (P : X → Type 0) (h : X → List Z) (k : X → List Y) (s : Y → Z) → ((x : X) → P x → h x ≡ map s (k x)) → (xs : List X) → All P xs → flat_map h xs ≡ map s (flat_map k xs)
flat_image P h k s same [] all = refl
flat_image P h k s same (x ∷ xs) all =
    ap (λ z. z ++ flat_map h xs) (same x (All-head P x xs all)) ∙ ap (λ z. map s (k x) ++ z) (flat_image P h k s same xs (All-tail P x xs all)) ∙ sym (map-append s (k x) (flat_map k xs))

-- a property of the images
All-over : {X Y : Type 0} (P : Y → Type 0) (k : X → Y) (xs : List X) → All P (map k xs) → All (λ x. P (k x)) xs
All-over P k [] all = All-nil (λ x. P (k x))
All-over P k (x ∷ xs) all = All-cons (λ x. P (k x)) x xs (All-head P (k x) (map k xs) all) (All-over P k xs (All-tail P (k x) (map k xs) all))

module _ (text : Sym → List ℕ) where
  pair_written : (up low : Side Atom) → written_in_texts (record { up = mapped_side (in_text text) up; low = mapped_side (in_text text) low }) ≡ map (letter_in text) (written_pair (record { up = up; low = low }))
  pair_written nothing nothing = refl
  pair_written nothing anything = refl
  pair_written nothing (one l) = refl
  pair_written nothing (member n) = refl
  pair_written anything low = refl
  pair_written (one l) nothing = refl
  pair_written (one l) anything = refl
  pair_written (one l) (one m) = refl
  pair_written (one l) (member n) = refl
  pair_written (member n) low = refl

  pub written_same : (p : Pair Atom) → written_in_texts (mapped_pair (in_text text) p) ≡ map (letter_in text) (written_pair p)
  written_same p = pair_written p.up p.low

  part_same : (part : Part Atom) → part_in_texts (mapped_part (in_text text) part) ≡ map (letter_in text) (written_part part)
  part_same (pair p) = written_same p
  part_same (called name) = refl

  module _ (g : GrammarOf Atom) (formed : IsFormed (grammar_of g)) where
    expression_same : (d : PairDefine Atom) → IsPairForm (term_of d.expr) → listed part_in_texts (mapped (mapped_part (in_text text)) (term_of d.expr)) ≡ map (letter_in text) (of_definition d)
    expression_same d form =
        listed_map (mapped_part (in_text text)) part_in_texts written_part (letter_in text) part_same (term_of d.expr) form
        ∙ ap (map (letter_in text)) (listed_leaves part_of written_part (term d.expr) form)

    contexts_same : (cs : List (Context (PairPart Atom))) → ContextsArePairForms (contexts_in cs) → listed_contexts part_in_texts (mapped_contexts (mapped_part (in_text text)) (contexts_in cs)) ≡ map (letter_in text) (flat_map of_context cs)
    contexts_same [] form = refl
    contexts_same (c ∷ cs) form =
        let left = listed_map (mapped_part (in_text text)) part_in_texts written_part (letter_in text) part_same (term_of c.left) form.0 ∙ ap (map (letter_in text)) (listed_leaves part_of written_part (term c.left) form.0) in
        let right = listed_map (mapped_part (in_text text)) part_in_texts written_part (letter_in text) part_same (term_of c.right) form.1 ∙ ap (map (letter_in text)) (listed_leaves part_of written_part (term c.right) form.1) in
        both_same (of_context c) (flat_map of_context cs) (both_same (of_expression c.left) (of_expression c.right) left right) (contexts_same cs form.2)
      where
        both_same : {u v : List TextLetter} (x y : List Letter) → u ≡ map (letter_in text) x → v ≡ map (letter_in text) y → u ++ v ≡ map (letter_in text) (x ++ y)
        both_same {u} {v} x y e d = ap (λ z. z ++ v) e ∙ ap (λ z. map (letter_in text) x ++ z) d ∙ sym (map-append (letter_in text) x y)

    rule_same : (r : TwoLevelRule Atom) → IsFormedRule (rule_of r)
        → written_in_texts (mapped_pair (in_text text) (pair_of r.pair)) ++ listed_contexts part_in_texts (mapped_contexts (mapped_part (in_text text)) (contexts_in r.contexts.items)) ≡ map (letter_in text) (of_rule r)
    rule_same r form =
        ap (λ z. z ++ listed_contexts part_in_texts (mapped_contexts (mapped_part (in_text text)) (contexts_in r.contexts.items))) (written_same (pair_of r.pair))
        ∙ ap (λ z. map (letter_in text) (of_atom r.pair) ++ z) (contexts_same r.contexts.items form.2)
        ∙ sym (map-append (letter_in text) (of_atom r.pair) (flat_map of_context r.contexts.items))

    -- the feasible pairs of the grammar of texts
    pub feasible_same : feasible_in_texts (in_texts text (grammar_of g)) ≡ map (letter_in text) (feasible g)
    feasible_same =
        let G = in_texts text (grammar_of g) in
        let first : flat_map written_in_texts G.pairs ≡ map (letter_in text) (flat_map of_atom g.pairs.items) =
        flat_over written_in_texts (mapped_pair (in_text text)) (map pair_of g.pairs.items) ∙ flat_over (λ (p : Pair Atom). written_in_texts (mapped_pair (in_text text) p)) pair_of g.pairs.items
        ∙ flat_image (λ _. Unit {0}) (λ (p : PairAtom Atom). written_in_texts (mapped_pair (in_text text) (pair_of p))) of_atom (letter_in text) (λ p _. written_same (pair_of p)) g.pairs.items (any_of g.pairs.items) in
        let second : flat_map (λ (d : PairDefinition Leaf). listed part_in_texts d.term) G.definitions ≡ map (letter_in text) (flat_map of_definition g.definitions.items) =
        flat_over (λ (d : PairDefinition Leaf). listed part_in_texts d.term) (mapped_definition (in_text text)) (map definition_of g.definitions.items)
        ∙ flat_over (λ (d : PairDefinition Atom). listed part_in_texts (mapped (mapped_part (in_text text)) d.term)) definition_of g.definitions.items
        ∙ flat_image (λ d. IsPairForm (term_of d.expr)) (λ (d : PairDefine Atom). listed part_in_texts (mapped (mapped_part (in_text text)) (term_of d.expr))) of_definition (letter_in text) expression_same g.definitions.items
        (All-over (λ (d : PairDefinition Atom). IsPairForm d.term) definition_of g.definitions.items formed.definitions) in
        let third : flat_map (λ (r : Rule Leaf). written_in_texts r.centre ++ listed_contexts part_in_texts r.contexts) G.rules ≡ map (letter_in text) (flat_map of_rule g.rules.items) =
        flat_over (λ (r : Rule Leaf). written_in_texts r.centre ++ listed_contexts part_in_texts r.contexts) (mapped_rule (in_text text)) (map rule_of g.rules.items)
        ∙ flat_over (λ (r : Rule Atom). written_in_texts (mapped_pair (in_text text) r.centre) ++ listed_contexts part_in_texts (mapped_contexts (mapped_part (in_text text)) r.contexts)) rule_of g.rules.items
        ∙ flat_image (λ r. IsFormedRule (rule_of r)) (λ (r : TwoLevelRule Atom). written_in_texts (mapped_pair (in_text text) (pair_of r.pair)) ++ listed_contexts part_in_texts (mapped_contexts (mapped_part (in_text text)) (contexts_in r.contexts.items))) of_rule (letter_in text) rule_same g.rules.items
        (All-over IsFormedRule rule_of g.rules.items formed.rules) in
        three (flat_map of_atom g.pairs.items) (flat_map of_definition g.definitions.items) (flat_map of_rule g.rules.items) first second third
      where
        any_of : {X : Type 0} (xs : List X) → All (λ (x : X). Unit {0}) xs
        any_of xs = λ k d below. tt

        three : {u v w : List TextLetter} (x y z : List Letter) → u ≡ map (letter_in text) x → v ≡ map (letter_in text) y → w ≡ map (letter_in text) z → (u ++ v) ++ w ≡ map (letter_in text) ((x ++ y) ++ z)
        three {u} {v} {w} x y z e d f =
            (λ i. (e i ++ d i) ++ f i) ∙ ap (λ q. q ++ map (letter_in text) z) (sym (map-append (letter_in text) x y)) ∙ sym (map-append (letter_in text) (x ++ y) z)

  -- sets, and what a side may be
  module _ (g : Grammar Atom) where
    pub member_there : (name : List ℕ) (s : Sym) → IsMember g.sets name s → IsMemberInTexts (in_texts text g) name (text s)
    member_there name s (set, among, is, has) =
        let r = Contains-map_cases symbol_in set.symbols s has in (
          mapped_set (in_text text) set,
          Contains-map (mapped_set (in_text text)) g.sets set among,
          is,
          subst (Contains (map text_in (map (in_text text) set.symbols))) (ap text r.2) (Contains-map text_in (map (in_text text) set.symbols) (in_text text r.0) (Contains-map (in_text text) set.symbols r.0 r.1)),
        )

    pub member_back : (name : List ℕ) (s : Sym) → ((b : Sym) → text s ≡ text b → s ≡ b) → IsMemberInTexts (in_texts text g) name (text s) → IsMember g.sets name s
    member_back name s own (found, among, is, has) =
        let r = Contains-map_cases (mapped_set (in_text text)) g.sets found among in
        let inside = subst (λ (x : Set Leaf). Contains (map text_in x.symbols) (text s)) (sym r.2) has in
        let leaf = Contains-map_cases text_in (map (in_text text) r.0.symbols) (text s) inside in
        let atom = Contains-map_cases (in_text text) r.0.symbols leaf.0 leaf.1 in
        let same : text (symbol_in atom.0) ≡ text s = ap text_in atom.2 ∙ leaf.2 in
        (r.0, r.1, ap (λ (x : Set Leaf). x.name) r.2 ∙ is, subst (Contains (map symbol_in r.0.symbols)) (sym (own (symbol_in atom.0) (sym same))) (Contains-map symbol_in r.0.symbols atom.0 atom.1))

    module _ (table : List (List ℕ × List Sym)) (sets : (name : List ℕ) (s : Sym) → HasSymbol table name s ↔ IsMember g.sets name s) where
      pub side_there : (side : Side Atom) (found : Option Sym) → MayBe table side found → MayBeInTexts (in_texts text g) (mapped_side (in_text text) side) (option_map text found)
      side_there nothing found is = ap (option_map text) is
      side_there anything found is = tt
      side_there (one leaf) found is = ap (option_map text) is
      side_there (member name) None is = absurd is
      side_there (member name) (Some s) is = member_there name s ((sets name s).0 is)

      pub side_back : (side : Side Atom) (found : Option Sym) → ((s b : Sym) → found ≡ Some s → text s ≡ text b → s ≡ b) → MayBeInTexts (in_texts text g) (mapped_side (in_text text) side) (option_map text found) → MayBe table side found
      side_back nothing None own is = refl
      side_back nothing (Some s) own is = let e : Some (text s) ≡ None = is in absurd (cc)
      side_back anything found own is = tt
      side_back (one leaf) None own is = let e : None ≡ Some (text (symbol_in leaf)) = is in absurd (cc)
      side_back (one leaf) (Some s) own is = let e : Some (text s) ≡ Some (text (symbol_in leaf)) = is in ap (λ (x : Sym). Some x) (own s (symbol_in leaf) refl (same_Some (text s) (text (symbol_in leaf)) e))
      side_back (member name) None own is = absurd is
      side_back (member name) (Some s) own is = (sets name s).1 (member_back name s (λ b. own s b refl) is)

-- an alphabet's symbols have their own texts
module _ (alphabet : List (Sym × List ℕ)) (formed : IsAlphabet alphabet) where
  text_of_none : (b : Sym) (table : List (Sym × List ℕ)) → 0 < length (text_of table b) → Contains table (b, text_of table b)
  text_of_none b [] some = absurd (omega arith)
  text_of_none b (e ∷ table) some = by (nat_eq b.0 e.0.0) refl (text_of_none b table) some
    where
      by : (r : Bool) → nat_eq b.0 e.0.0 ≡ r → (0 < length (text_of table b) → Contains table (b, text_of table b)) → 0 < length (cond r e.1 (text_of table b)) → Contains (e ∷ table) (b, cond r e.1 (text_of table b))
      by true test rest some = subst (λ (s : Sym). Contains (e ∷ table) (s, e.1)) (sym (same_symbol b e.0 test)) (Contains-head e table)
      by false test rest some = Contains-tail e table (b, text_of table b) (rest some)

  pub own_texts : HasOwnTexts (symbols_of alphabet) (text_of alphabet)
  own_texts a b among same =
      let r = Contains-map_cases (λ (e : Sym × List ℕ). e.0) alphabet a among in
      let entry = r.0 in
      let at = slice_get_from_Contains alphabet entry r.1 in
      let is : text_of alphabet a ≡ entry.1 = text_of-pair alphabet formed.distinct a entry.1 (subst (λ (s : Sym). Contains alphabet (s, entry.1)) r.2 r.1) in
      let some : 0 < length entry.1 = All-contains IsSymbol (texts_of alphabet) entry.1 formed.symbols (Contains-map (λ (e : Sym × List ℕ). e.1) alphabet entry r.1) in
      let other : text_of alphabet b ≡ entry.1 = sym same ∙ is in
      let held = text_of_none b alphabet (subst (λ (t : List ℕ). 0 < length t) (sym other) some) in
      let place = slice_get_from_Contains alphabet (b, text_of alphabet b) held in
      let one_place : at.0 ≡ place.0 =
      formed.apart at.0 place.0 entry.1 (slice_get-map (λ (e : Sym × List ℕ). e.1) alphabet at.0 ∙ ap (option_map (λ (e : Sym × List ℕ). e.1)) at.1)
      (slice_get-map (λ (e : Sym × List ℕ). e.1) alphabet place.0 ∙ ap (option_map (λ (e : Sym × List ℕ). e.1)) place.1 ∙ ap (λ (t : List ℕ). Some t) other) in
      let one_entry : entry ≡ (b, text_of alphabet b) = same_at alphabet place.0 entry (b, text_of alphabet b) (subst (λ (k : ℕ). slice_get alphabet k ≡ Some entry) one_place at.1) place.1 in
      sym r.2 ∙ ap (λ (e : Sym × List ℕ). e.0) one_entry
