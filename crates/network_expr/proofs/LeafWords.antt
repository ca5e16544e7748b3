-- The word of leaves side by side, one leaf more at a time.
use Rattle.std.proofs.Common.{◌≡◌, ◌↔◌, ◌<◌, ◌≤◌, ◌+◌, ◌==◌, ℕ, false, true, IsTrue, List, [], ◌∷◌, ◌++◌, length, take, get_or, refl, sym, ap, subst, ◌∙◌, inl, inr}
use Rattle.std.specs.List.{Contains, list_all}
use Rattle.std.proofs.lemmas.List.{take_more, take_all}
use Rattle.std.proofs.lemmas.Bool.{eqb-true}
use Rattle.std.proofs.lemmas.List.Elements.{Contains-push_cases}
use Rattle.std.proofs.lemmas.List.Sums.{AllPass-from_list_all}
use Rattle.std.proofs.lemmas.Map.Views.{Contains-from_any}
use Rattle.fsm_base.specs.declared.letters.Bound.{Bound}
use Rattle.fsm_base.specs.declared.letters.Bound.TheVariants.{Inner}
use Rattle.fsm_base.specs.declared.letters.Sym.{Sym}
use Rattle.word_relations.specs.Words.{IsConcatenation}
use Rattle.word_relations.proofs.Laws.{IsConcatenation-more, IsConcatenation-assoc, IsConcatenation-empty_left, IsConcatenation-empty_right}
use Rattle.word_relations.proofs.Members.{Contains-nil_cases}
use Rattle.regex_ast.specs.declared.expr.Atom.{Atom}
use Rattle.regex_ast.specs.declared.expr.Atom.TheVariants.{Sym as Symbol, Name}
use Rattle.expr_kinds.specs.Atoms.{is_symbol_of}
use Rattle.expr_meaning.specs.Meaning.{InLeaf, InLeaves}
use Rattle.fsa.specs.Automaton.{Automaton, UsesLetter}
use Rattle.fsa.specs.Language.{Accepts}
use Rattle.network_algebra.specs.Networks.{all_letters, UsesOnly}
use Rattle.network_algebra.proofs.Meanings.{among_inner}
use Rattle.network_expr.specs.Parts.{stands}
use Rattle.network_expr.specs.declared.parts.Part.{Part}

-- a leaf that passes is a symbol of the alphabet
abbrev IsSymbolOf : List Sym → Atom → Type 0
IsSymbolOf alphabet (Symbol s) = Contains alphabet s
IsSymbolOf alphabet (Name name) = ⊥

same_number : (a b : Sym) → (b.0 == a.0) ≡ true → a ≡ b
same_number a b e = ap (λ (n : ℕ). record { 0 = n }) (sym (eqb-true b.0 a.0 e))

pub symbol_held : (alphabet : List Sym) (leaf : Atom) → IsTrue (is_symbol_of alphabet leaf) → IsSymbolOf alphabet leaf
symbol_held alphabet (Symbol s) h = Contains-from_any {eq = λ (q t : Sym). t.0 == q.0} same_number s alphabet h
symbol_held alphabet (Name name) h = let no : false ≡ true = h in cc

-- each leaf of a list that passes does
pub passes_at : (alphabet : List Sym) (leaves : List Atom) (i : ℕ) (d : Atom) → i < length leaves → IsTrue (list_all (is_symbol_of alphabet) leaves) → IsTrue (is_symbol_of alphabet (get_or leaves i d))
passes_at alphabet leaves i d within all = AllPass-from_list_all (is_symbol_of alphabet) leaves all i d within

module _ (parts : List Part) (alphabet : List Sym) where
  leaves_append : (xs ys : List Atom) (w : List (Bound Sym)) → InLeaves (stands parts) alphabet (xs ++ ys) w ↔ IsConcatenation (InLeaves (stands parts) alphabet xs) (InLeaves (stands parts) alphabet ys) w
  leaves_append [] ys w = let e = IsConcatenation-empty_left (InLeaves (stands parts) alphabet ys) w in (e.1, e.0)
  leaves_append (x ∷ xs) ys w =
      let P = InLeaf (stands parts) alphabet x in
      let Q = InLeaves (stands parts) alphabet xs in
      let R = InLeaves (stands parts) alphabet ys in
      let assoc = IsConcatenation-assoc P Q R w in (
        λ h. assoc.1 (IsConcatenation-more P (InLeaves (stands parts) alphabet (xs ++ ys)) P (IsConcatenation Q R) (λ v p. p) (λ v. (leaves_append xs ys v).0) w h),
        λ h. IsConcatenation-more P (IsConcatenation Q R) P (InLeaves (stands parts) alphabet (xs ++ ys)) (λ v p. p) (λ v. (leaves_append xs ys v).1) w (assoc.0 h),
      )

  one_symbol : (s : Sym) (w : List (Bound Sym)) → (w ≡ Inner s ∷ []) ↔ InLeaves (stands parts) alphabet (Symbol s ∷ []) w
  one_symbol s w =
      let e = IsConcatenation-empty_right (InLeaf (stands parts) alphabet (Symbol s)) w in (
        λ h. e.1 (s ∷ [], h, (refl, refl)),
        λ h. let r = e.0 h in r.1 ∙ ap (λ (u : List Sym). Rattle.expr_meaning.specs.Operators.inner u) r.2.0,
      )

module _ (alphabet : List Sym) where
  -- the letters are the one word of the leaves, whatever names stand for
  pub record Spell (leaves : List Atom) (letters : List (Bound Sym)) : Type 0 where
    pub words : (parts : List Part) (w : List (Bound Sym)) → (w ≡ letters) ↔ InLeaves (stands parts) alphabet leaves w
    pub among : (x : Bound Sym) → Contains letters x → Contains (all_letters alphabet) x

  pub spell_none : Spell [] []
  spell_none = record { words = λ parts w. (λ h. h, λ h. h); among = λ x h. absurd (Contains-nil_cases x h) }

  pub spell_more : (leaves : List Atom) (letters : List (Bound Sym)) (s : Sym) → Contains alphabet s → Spell leaves letters → Spell (leaves ++ Symbol s ∷ []) (letters ++ Inner s ∷ [])
  spell_more leaves letters s held before = record {
    words = λ parts w. (
      λ h. (leaves_append parts alphabet leaves (Symbol s ∷ []) w).1 (letters, Inner s ∷ [], h, (before.words parts letters).0 refl, (one_symbol parts alphabet s (Inner s ∷ [])).0 refl),
      λ h. let r = (leaves_append parts alphabet leaves (Symbol s ∷ []) w).0 h in r.2 ∙ ap (λ z. z ++ r.1) ((before.words parts r.0).1 r.3) ∙ ap (λ z. letters ++ z) ((one_symbol parts alphabet s r.1).1 r.4),
    );
    among = λ x h. elim (Contains-push_cases letters (Inner s) x h) as (λ _. Contains (all_letters alphabet) x) [ inl old ↦ before.among x old | inr same ↦ subst (Contains (all_letters alphabet)) same (among_inner alphabet s held) ];
  }

  -- the loop over the leaves
  pub leaf_done : (leaves : List Atom) (i : ℕ) (d : Atom) (s : Sym) (letters new : List (Bound Sym)) → i < length leaves → get_or leaves i d ≡ Symbol s → IsTrue (list_all (is_symbol_of alphabet) leaves) → Spell (take i leaves) letters → new ≡ letters ++ Inner s ∷ [] → Spell (take (i + 1) leaves) new
  leaf_done leaves i d s letters new within is all before pushed =
      let held : Contains alphabet s = subst (IsSymbolOf alphabet) is (symbol_held alphabet (get_or leaves i d) (passes_at alphabet leaves i d within all)) in
      let front : take (i + 1) leaves ≡ take i leaves ++ Symbol s ∷ [] = take_more leaves i d within ∙ ap (λ (a : Atom). take i leaves ++ a ∷ []) is in
      subst (λ (xs : List Atom). Spell xs new) (sym front) (subst (λ (ls : List (Bound Sym)). Spell (take i leaves ++ Symbol s ∷ []) ls) (sym pushed) (spell_more (take i leaves) letters s held before))

  pub leaves_done : (leaves : List Atom) (i : ℕ) (letters : List (Bound Sym)) → length leaves ≤ i → Spell (take i leaves) letters → Spell leaves letters
  leaves_done leaves i letters past h = subst (λ (xs : List Atom). Spell xs letters) (take_all i leaves past) h

  pub spelled_only : (leaves : List Atom) (letters : List (Bound Sym)) (m : Automaton (Bound Sym)) → Spell leaves letters → ((x : Bound Sym) → UsesLetter m x → Contains letters x) → UsesOnly (all_letters alphabet) m
  spelled_only leaves letters m spell used x h = spell.among x (used x h)

  pub spelled_words : (leaves : List Atom) (letters : List (Bound Sym)) (m : Automaton (Bound Sym)) → Spell leaves letters → ((w : List (Bound Sym)) → Accepts m w ↔ (w ≡ letters)) → (parts : List Part) (w : List (Bound Sym)) → Accepts m w ↔ InLeaves (stands parts) alphabet leaves w
  spelled_words leaves letters m spell language parts w = (λ h. (spell.words parts w).0 ((language w).0 h), λ h. (language w).1 ((spell.words parts w).1 h))
