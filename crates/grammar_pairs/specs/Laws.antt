-- A grammar whose leaves are replaced by symbols, and these by their texts, is the grammar of the texts.
use Rattle.std.specs.Prelude.{◌≡◌, ℕ, Bool, true, ◌&&◌, IsTrue, List, All}
use Rattle.fsm_base.specs.declared.letters.Sym.{Sym}
use Rattle.regex_ast.specs.declared.expr.Atom.{Atom}
use Rattle.regex_ast.specs.declared.expr.Raw.{Raw}
use Rattle.expr_kinds.specs.Built.{IsBuilt, ContextsAreBuilt}
use Rattle.project_meaning.specs.Leaves.{Leaf, resolved_grammar, symbol_of}
use Rattle.project_meaning.specs.Trees.{Side, one, Pair, Part, pair, called, Grammar}
use Rattle.grammar_pairs.specs.Mapped.{mapped_grammar}
use Rattle.grammar_pairs.specs.Plain.{IsFormed}
use Rattle.grammar_pairs.specs.Texts.{in_text, in_texts}

module _ {C : Type 0} (passes : C → Bool) where
  abbrev pub side_passes : Side C → Bool
  side_passes (one leaf) = passes leaf
  side_passes _ = true

  abbrev pub pair_passes : Pair C → Bool
  pair_passes p = side_passes p.up && side_passes p.low

  abbrev pub part_passes : Part C → Bool
  part_passes (pair p) = pair_passes p
  part_passes (called name) = true

  -- each leaf of the grammar passes the test
  pub record HasLeaves (g : Grammar C) : Type 0 where
    pub pairs : All (λ p. IsTrue (pair_passes p)) g.pairs
    pub sets : All (λ s. All (λ leaf. IsTrue (passes leaf)) s.symbols) g.sets
    pub definitions : All (λ d. IsBuilt part_passes d.term) g.definitions
    pub rules : All (λ r. IsTrue (pair_passes r.centre) × ContextsAreBuilt part_passes r.contexts) g.rules

-- where the text of each leaf's symbol is its text
abbrev pub GrammarIsInTexts : (C : Type 0) → Type 0
GrammarIsInTexts C =
    (text : Sym → List ℕ) (in_symbols : C → Atom) (leaf_text : C → Leaf) (passes : C → Bool)
    → ((leaf : C) → IsTrue (passes leaf) → in_text text (in_symbols leaf) ≡ leaf_text leaf)
    → (g : Grammar C) → IsFormed g → HasLeaves passes g → in_texts text (mapped_grammar in_symbols g) ≡ mapped_grammar leaf_text g

-- a grammar that is resolved is the one that is written, with other leaves
abbrev pub ResolvedIsMapped : Type 0
ResolvedIsMapped = (g : Grammar Raw) → resolved_grammar g ≡ mapped_grammar symbol_of g
