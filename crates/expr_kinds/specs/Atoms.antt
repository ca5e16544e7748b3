-- What is told of leaves by their numbers: a name has the kind and the weight of what it stands for, or counts as one symbol.
use Rattle.std.specs.Prelude.{◌==◌, ℕ, Bool, true, false, List, Option, None, Some, is_some, slice_get}
use Rattle.std.specs.List.{list_any}
use Rattle.fsm_base.specs.declared.letters.Sym.{Sym as Symbol}
use Rattle.regex_ast.specs.declared.expr.Atom.{Atom}
use Rattle.regex_ast.specs.declared.expr.Atom.TheVariants.{Sym, Name}
use Rattle.expr_kinds.specs.Kinds.{Leaves}
use Rattle.expr_kinds.specs.declared.form.Form.{Form}
use Rattle.expr_kinds.specs.declared.form.Kind.{Kind}
use Rattle.expr_kinds.specs.declared.form.Kind.TheVariants.{Language}

abbrev pub are_same : Atom → Atom → Bool
are_same (Sym s) (Sym t) = s.0 == t.0
are_same (Name n) (Name m) = n == m
are_same _ _ = false

abbrev pub symbols : Leaves Atom
symbols = record { kind = λ a. Language; same = are_same }

-- whether two leaves are the same symbol; a name is no symbol
abbrev pub are_one_symbol : Atom → Atom → Bool
are_one_symbol (Sym s) (Sym t) = s.0 == t.0
are_one_symbol _ _ = false

-- a symbol is a language, and a name of the kind of its number
abbrev pub kind_by : (ℕ → Kind) → Atom → Kind
kind_by names (Sym s) = Language
kind_by names (Name place) = names place

-- what is told of leaves where names are of these kinds
abbrev pub leaves_by : (ℕ → Kind) → Leaves Atom
leaves_by names = record { kind = kind_by names; same = are_one_symbol }

-- a symbol weighs 1, and a name the weight of its number
abbrev pub weight_by : (ℕ → ℕ) → Atom → ℕ
weight_by names (Sym s) = 1
weight_by names (Name place) = names place

-- the kind and the weight of a name by the form of its place; one without a form is a language, as heavy as a symbol
abbrev pub kind_told : Option Form → Kind
kind_told None = Language
kind_told (Some form) = form.kind

abbrev pub weight_told : Option Form → ℕ
weight_told None = 1
weight_told (Some form) = form.weight

abbrev pub kind_at : List Form → ℕ → Kind
kind_at forms place = kind_told (slice_get forms place)

abbrev pub weight_at : List Form → ℕ → ℕ
weight_at forms place = weight_told (slice_get forms place)

-- the kinds and the weights of leaves, and what is told of them, where names have these forms
unfoldable pub kinds_at : List Form → Atom → Kind
kinds_at forms = kind_by (kind_at forms)

unfoldable pub weights_at : List Form → Atom → ℕ
weights_at forms = weight_by (weight_at forms)

abbrev pub leaves_at : List Form → Leaves Atom
leaves_at forms = record { kind = kinds_at forms; same = are_one_symbol }

-- whether a leaf is a symbol, or a name with a form
unfoldable pub is_known_at : List Form → Atom → Bool
is_known_at forms (Sym s) = true
is_known_at forms (Name place) = is_some (slice_get forms place)

-- whether a leaf is a symbol and no name
abbrev pub is_symbol : Atom → Bool
is_symbol (Sym s) = true
is_symbol (Name n) = false

-- whether a leaf is a symbol of the alphabet; a name is none
abbrev pub is_symbol_of : List Symbol → Atom → Bool
is_symbol_of alphabet (Sym s) = list_any (λ t. t.0 == s.0) alphabet
is_symbol_of alphabet (Name place) = false

-- whether a leaf is a symbol of the alphabet, or a name with a form
abbrev pub is_leaf_at : List Form → List Symbol → Atom → Bool
is_leaf_at forms alphabet (Sym s) = is_symbol_of alphabet (Sym s)
is_leaf_at forms alphabet (Name place) = is_some (slice_get forms place)
