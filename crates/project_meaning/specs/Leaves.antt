-- Names and symbols at the leaves of a body. A run without escape that is a name of the project stands for that name, and
-- every other leaf is a symbol. Names stand in expressions alone.
use Rattle.std.specs.Prelude.{ℕ, Bool, cond, List, [], ◌∷◌, ◌++◌, map}
use Rattle.std.specs.List.{flat_map, list_any}
use Rattle.std.specs.Str.{bytes_eq}
use Rattle.regex_ast.specs.declared.expr.Raw.{Raw}
use Rattle.regex_ast.specs.declared.expr.Raw.TheVariants.{Run, Quoted}
use Rattle.regex_ast.specs.Terms.{Term}
use Rattle.expr_leaves.specs.Alphabet.{uses_alphabet}
use Rattle.expr_leaves.specs.Leaves.{listed, listed_contexts}
use Rattle.expr_leaves.specs.Mapped.{mapped, mapped_contexts}
use Rattle.project_meaning.specs.Trees.{Piece, letter, flag, Form, sides, pairs, Entry, Lexicon, Side, nothing, anything, one, member, Pair, Part, pair, called, Set, PairDefinition, Rule, Grammar, Body, xfst, lexc, twolc}

-- a leaf by its text: a symbol, or the name of a definition
pub data Leaf : Type 0 where
  symbol : List ℕ → Leaf
  named : List ℕ → Leaf

-- the text of a leaf as it is written
abbrev pub written : Raw → List ℕ
written (Run text) = text
written (Quoted text) = text

-- what a leaf of an expression is where these names are defined
abbrev pub leaf_of : List (List ℕ) → Raw → Leaf
leaf_of names (Run text) = cond (list_any (bytes_eq text) names) (named text) (symbol text)
leaf_of names (Quoted text) = symbol text

-- what a leaf is where no name may stand
abbrev pub symbol_of : Raw → Leaf
symbol_of raw = symbol (written raw)

-- a lexicon's parts, resolved
abbrev pub resolved_piece : Piece Raw → Piece Leaf
resolved_piece (letter raw) = letter (symbol_of raw)
resolved_piece (flag f) = flag f

abbrev pub resolved_form : List (List ℕ) → Form Raw → Form Leaf
resolved_form names (sides upper lower) = sides (map resolved_piece upper) (map resolved_piece lower)
resolved_form names (pairs e) = pairs (mapped (leaf_of names) e)

abbrev pub resolved_entry : List (List ℕ) → Entry Raw → Entry Leaf
resolved_entry names entry = record { form = resolved_form names entry.form; next = entry.next }

abbrev pub resolved_lexicon : List (List ℕ) → Lexicon Raw → Lexicon Leaf
resolved_lexicon names lexicon = record { name = lexicon.name; entries = map (resolved_entry names) lexicon.entries }

-- a grammar's parts, resolved: a project's names mean nothing there
abbrev pub resolved_side : Side Raw → Side Leaf
resolved_side nothing = nothing
resolved_side anything = anything
resolved_side (one raw) = one (symbol_of raw)
resolved_side (member set) = member set

abbrev pub resolved_pair : Pair Raw → Pair Leaf
resolved_pair p = record { up = resolved_side p.up; low = resolved_side p.low }

abbrev pub resolved_part : Part Raw → Part Leaf
resolved_part (pair p) = pair (resolved_pair p)
resolved_part (called name) = called name

abbrev pub resolved_set : Set Raw → Set Leaf
resolved_set s = record { name = s.name; symbols = map symbol_of s.symbols }

abbrev pub resolved_pairs : PairDefinition Raw → PairDefinition Leaf
resolved_pairs d = record { name = d.name; term = mapped resolved_part d.term }

abbrev pub resolved_rule : Rule Raw → Rule Leaf
resolved_rule r = record { name = r.name; centre = resolved_pair r.centre; kind = r.kind; contexts = mapped_contexts resolved_part r.contexts }

abbrev pub resolved_grammar : Grammar Raw → Grammar Leaf
resolved_grammar g = record {
  pairs = map resolved_pair g.pairs;
  sets = map resolved_set g.sets;
  definitions = map resolved_pairs g.definitions;
  rules = map resolved_rule g.rules;
}

-- a body where these names are defined
abbrev pub resolved : List (List ℕ) → Body Raw → Body Leaf
resolved names (xfst e) = xfst (mapped (leaf_of names) e)
resolved names (lexc lexicons) = lexc (map (resolved_lexicon names) lexicons)
resolved names (twolc grammar) = twolc (resolved_grammar grammar)

-- the expression of a form, if it has one
abbrev pub expressions_in : {A : Type 0} → Form A → List (Term A)
expressions_in (sides upper lower) = []
expressions_in (pairs e) = e ∷ []

abbrev pub forms_in : {A : Type 0} → List (Lexicon A) → List (Form A)
forms_in lexicons = flat_map (λ lexicon. map (λ entry. entry.form) lexicon.entries) lexicons

-- the expressions of a body
abbrev pub expressions_of : {A : Type 0} → Body A → List (Term A)
expressions_of (xfst e) = e ∷ []
expressions_of (lexc lexicons) = flat_map expressions_in (forms_in lexicons)
expressions_of (twolc grammar) = []

-- the name that a leaf is, if it is one
abbrev pub name_in : Leaf → List (List ℕ)
name_in (named text) = text ∷ []
name_in (symbol text) = []

-- the symbol that a leaf is, if it is one; an empty text is none
abbrev pub symbol_in : Leaf → List (List ℕ)
symbol_in (symbol []) = []
symbol_in (symbol (b ∷ bs)) = (b ∷ bs) ∷ []
symbol_in (named text) = []

-- the names that a body refers to
abbrev pub names_in : Body Leaf → List (List ℕ)
names_in body = flat_map (λ e. listed name_in e) (expressions_of body)

-- the symbols that stand in a lexicon, in a grammar and in a body
abbrev pub piece_symbols : Piece Leaf → List (List ℕ)
piece_symbols (letter leaf) = symbol_in leaf
piece_symbols (flag f) = []

abbrev pub form_symbols : Form Leaf → List (List ℕ)
form_symbols (sides upper lower) = flat_map piece_symbols upper ++ flat_map piece_symbols lower
form_symbols (pairs e) = listed symbol_in e

abbrev pub side_symbols : Side Leaf → List (List ℕ)
side_symbols (one leaf) = symbol_in leaf
side_symbols _ = []

abbrev pub pair_symbols : Pair Leaf → List (List ℕ)
pair_symbols p = side_symbols p.up ++ side_symbols p.low

abbrev pub part_symbols : Part Leaf → List (List ℕ)
part_symbols (pair p) = pair_symbols p
part_symbols (called name) = []

abbrev pub grammar_symbols : Grammar Leaf → List (List ℕ)
grammar_symbols g =
    flat_map pair_symbols g.pairs
    ++ flat_map (λ s. flat_map symbol_in s.symbols) g.sets
    ++ flat_map (λ d. listed part_symbols d.term) g.definitions
    ++ flat_map (λ r. pair_symbols r.centre ++ listed_contexts part_symbols r.contexts) g.rules

abbrev pub symbols_in : Body Leaf → List (List ℕ)
symbols_in (xfst e) = listed symbol_in e
symbols_in (lexc lexicons) = flat_map form_symbols (forms_in lexicons)
symbols_in (twolc grammar) = grammar_symbols grammar

-- one of `?`, `\`, `~`, `$`, `=>` and replacement stands in an expression of it
abbrev pub body_uses_alphabet : Body Leaf → Bool
body_uses_alphabet body = list_any (λ e. uses_alphabet e) (expressions_of body)
