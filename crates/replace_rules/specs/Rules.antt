-- Rules of replacement whose parts are languages (Karttunen, The Replace Operator, 1995; Kempe and Karttunen, Parallel
-- Replacement in Finite State Calculus, 1996), as expr_meaning (specs/Replacement.antt) has them over expressions.
use Rattle.std.specs.Prelude.{◌≡◌, ◌⊎◌, List, [], ◌++◌, Option, Some, None, Contains}
use Rattle.fsm_base.specs.declared.letters.Bound.{Bound}
use Rattle.fsm_base.specs.declared.letters.Sym.{Sym}
use Rattle.word_relations.specs.Words.{IsOver}
use Rattle.fsa.specs.Complete.{Complete, Accepts}
use Rattle.expr_meaning.specs.Operators.{inner, HoldsLeft, HoldsRight}
use Rattle.expr_meaning.specs.Replacement.{Piece, read_before, read_behind}
use Rattle.replace_rules.specs.declared.rules.LangMap.{LangMap}
use Rattle.replace_rules.specs.declared.rules.LangContext.{LangContext}
use Rattle.replace_rules.specs.declared.rules.LangGroup.{LangGroup}

-- what a mapping puts in the place of a centre: a word of its result; or, where it is markup, the centre between two words
abbrev pub IsPut : Complete Sym → Option (Complete Sym) → List Sym → List Sym → Type 0
IsPut result None centre put = Accepts result put
IsPut result (Some after) centre put = (before : List Sym) × (behind : List Sym) × (put ≡ before ++ (centre ++ behind)) × Accepts result before × Accepts after behind

-- one of the mappings has the centre, and one replaces it by the word
abbrev pub HasCentre : List LangMap → List Sym → Type 0
HasCentre maps centre = (m : LangMap) × Contains maps m × Accepts m.centre centre

abbrev pub HasMapping : List LangMap → List Sym → List Sym → Type 0
HasMapping maps centre put = (m : LangMap) × Contains maps m × Accepts m.centre centre × IsPut m.result m.after centre put

-- one of the contexts holds between these words
abbrev pub HasContext : List LangContext → List (Bound Sym) → List (Bound Sym) → Type 0
HasContext contexts before behind = (c : LangContext) × Contains contexts c × HoldsLeft (Accepts c.left) before × HoldsRight (Accepts c.right) behind

-- the group asks for no context, or one of them holds between the pieces
abbrev pub Allows : LangGroup → List (Piece Sym) → List (Piece Sym) → Type 0
Allows g before behind = (g.contexts.items ≡ []) ⊎ HasContext g.contexts.items (inner (read_before g.side before)) (inner (read_behind g.side behind))

-- between these pieces, one of the groups replaces the centre by the word, and one has the centre
abbrev pub ReplacesBy : List LangGroup → List (Piece Sym) → List Sym → List Sym → List (Piece Sym) → Type 0
ReplacesBy groups before centre put behind = (g : LangGroup) × Contains groups g × HasMapping g.maps.items centre put × Allows g before behind

abbrev pub AppliesBy : List LangGroup → List (Piece Sym) → List Sym → List (Piece Sym) → Type 0
AppliesBy groups before centre behind = (g : LangGroup) × Contains groups g × HasCentre g.maps.items centre × Allows g before behind

-- what a mapping speaks of is over these symbols, and no centre is the empty word
pub record IsMapOver (symbols : List Sym) (m : LangMap) : Type 0 where
  pub centre : IsOver symbols m.centre.letters
  pub result : IsOver symbols m.result.letters
  pub after : (lang : Complete Sym) → m.after ≡ Some lang → IsOver symbols lang.letters
  pub no_empty : ¬ Accepts m.centre []

abbrev pub AreMapsOver : List Sym → List LangGroup → Type 0
AreMapsOver symbols groups = (g : LangGroup) → Contains groups g → (m : LangMap) → Contains g.maps.items m → IsMapOver symbols m
