-- Leaves of an expression where names are defined: what they are, and by which numbers.
use Rattle.std.proofs.Common.{◌≡◌, ◌⊎◌, ℕ, ◌<◌, ◌==◌, Bool, true, false, not, cond, ◌&&◌, List, [], ◌∷◌, length, refl, sym, ap, subst, ◌∙◌, inl, inr, true≢false, arith, Contains}
use Rattle.std.proofs.lemmas.Bool.Decides.{nat_tests}
use Rattle.std.specs.List.{list_any}
use Rattle.std.specs.Str.{bytes_eq}
use Rattle.fsm_base.specs.Symbols.{number_of}
use Rattle.regex_ast.specs.declared.expr.Atom.TheVariants.{Sym, Name}
use Rattle.regex_ast.specs.declared.expr.Raw.{Raw}
use Rattle.regex_ast.specs.declared.expr.Raw.TheVariants.{Run, Quoted}
use Rattle.project_meaning.specs.Leaves.{Leaf, symbol, named, leaf_of, written}
use Rattle.name_resolution.specs.Names.{is_named, is_symbol_leaf}
use Rattle.name_resolution.specs.Numbered.{numbered}
use Rattle.name_resolution.specs.Resolved.{atom_of, letter_of}
use Rattle.name_resolution.proofs.Texts.{has_from_any}

apart : (n m : ℕ) → m < n → (n == m) ≡ false
apart n m less = grind (arith, nat_tests)

-- a leaf is a name, or a symbol
pub leaf_cases : (names : List (List ℕ)) (leaf : Raw) → ((leaf_of names leaf ≡ named (written leaf)) × Contains names (written leaf)) ⊎ (leaf_of names leaf ≡ symbol (written leaf))
leaf_cases names (Run text) = by (list_any (bytes_eq text) names) refl
  where
    by : (b : Bool) → list_any (bytes_eq text) names ≡ b
        → ((leaf_of names (Run text) ≡ named text) × Contains names text) ⊎ (leaf_of names (Run text) ≡ symbol text)
    by true e = inl (ap (λ (b : Bool). cond b (named text) (symbol text)) e, has_from_any text names e)
    by false e = inr (ap (λ (b : Bool). cond b (named text) (symbol text)) e)
leaf_cases names (Quoted text) = inr refl

pub run_test : (names : List (List ℕ)) (text : List ℕ) → list_any (bytes_eq text) names ≡ is_named (leaf_of names (Run text))
run_test names text = by (list_any (bytes_eq text) names)
  where
    by : (b : Bool) → b ≡ is_named (cond b (named text) (symbol text))
    by true = refl
    by false = refl

-- a leaf is a symbol where it is no name and has a text
pub symbol_test : (names : List (List ℕ)) (leaf : Raw) → (not (is_named (leaf_of names leaf)) && not (length (written leaf) == 0)) ≡ is_symbol_leaf (leaf_of names leaf)
symbol_test names leaf =
    elim (leaf_cases names leaf) as (λ _. (not (is_named (leaf_of names leaf)) && not (length (written leaf) == 0)) ≡ is_symbol_leaf (leaf_of names leaf)) [
      | inl (is, among) ↦ subst (λ (l : Leaf). (not (is_named l) && not (length (written leaf) == 0)) ≡ is_symbol_leaf l) (sym is) refl
      | inr is ↦ subst (λ (l : Leaf). (not (is_named l) && not (length (written leaf) == 0)) ≡ is_symbol_leaf l) (sym is) (by (written leaf))
    ]
  where
    by : (text : List ℕ) → not (length text == 0) ≡ is_symbol_leaf (symbol text)
    by [] = refl
    by (b ∷ bs) = ap not (apart (length (b ∷ bs)) 0 (omega arith))

pub name_is_no_symbol : (names : List (List ℕ)) (leaf : Raw) → is_named (leaf_of names leaf) ≡ true → is_symbol_leaf (leaf_of names leaf) ≡ false
name_is_no_symbol names leaf is = by (leaf_of names leaf) is
  where
    by : (l : Leaf) → is_named l ≡ true → is_symbol_leaf l ≡ false
    by (symbol text) e = cc
    by (named text) e = refl

module _ (names : List (List ℕ)) (leaf : Raw) where
  abbrev text : List ℕ
  text = written leaf

  pub atom_symbol : (table : List (List ℕ)) → is_symbol_leaf (leaf_of names leaf) ≡ true → Sym (record { 0 = number_of text table }) ≡ atom_of names table leaf
  atom_symbol table is =
      elim (leaf_cases names leaf) as (λ _. Sym (record { 0 = number_of text table }) ≡ atom_of names table leaf) [
        | inl (name, among) ↦ absurd (true≢false (sym is ∙ ap is_symbol_leaf name))
        | inr same ↦ by text (sym (ap is_symbol_leaf same) ∙ is) ∙ ap (numbered names table) (sym same)
      ]
    where
      by : (t : List ℕ) → is_symbol_leaf (symbol t) ≡ true → Sym (record { 0 = number_of t table }) ≡ numbered names table (symbol t)
      by [] e = cc
      by (b ∷ bs) e = refl

  pub atom_name : (table : List (List ℕ)) → is_named (leaf_of names leaf) ≡ true → Name (number_of text names) ≡ atom_of names table leaf
  atom_name table is =
      elim (leaf_cases names leaf) as (λ _. Name (number_of text names) ≡ atom_of names table leaf) [
        | inl (name, among) ↦ ap (numbered names table) (sym name)
        | inr same ↦ absurd (true≢false (sym is ∙ ap is_named same))
      ]

  pub atom_behind : (table : List (List ℕ)) → is_symbol_leaf (leaf_of names leaf) ≡ false → is_named (leaf_of names leaf) ≡ false → Name (length names) ≡ atom_of names table leaf
  atom_behind table no_symbol no_name = by (leaf_of names leaf) no_symbol no_name
    where
      by : (l : Leaf) → is_symbol_leaf l ≡ false → is_named l ≡ false → Name (length names) ≡ numbered names table l
      by (symbol []) e d = refl
      by (symbol (b ∷ bs)) e d = cc
      by (named name) e d = cc

  -- where no name may stand
  pub letter_without_text : (table : List (List ℕ)) → (length text == 0) ≡ true → Name (length names) ≡ letter_of names table leaf
  letter_without_text table none = by text none
    where
      by : (t : List ℕ) → (length t == 0) ≡ true → Name (length names) ≡ numbered names table (symbol t)
      by [] e = refl
      by (b ∷ bs) e = absurd (true≢false (sym e ∙ apart (length (b ∷ bs)) 0 (omega arith)))

  pub letter_with_text : (table : List (List ℕ)) → (length text == 0) ≡ false → Sym (record { 0 = number_of text table }) ≡ letter_of names table leaf
  letter_with_text table some = by text some
    where
      by : (t : List ℕ) → (length t == 0) ≡ false → Sym (record { 0 = number_of t table }) ≡ numbered names table (symbol t)
      by [] e = cc
      by (b ∷ bs) e = refl
