-- Insertions whose parts are languages, as expr_meaning (specs/Replacement.antt) has them over expressions: the empty word is
-- replaced, at each place where one of the contexts holds, or everywhere where there is none.
use Rattle.std.specs.Prelude.{◌≡◌, ◌⊎◌, List, []}
use Rattle.fsm_base.specs.declared.letters.Sym.{Sym}
use Rattle.fsa.specs.Complete.{Complete, Accepts}
use Rattle.regex_ast.specs.declared.expr.Side.{Side}
use Rattle.expr_meaning.specs.Operators.{inner}
use Rattle.expr_meaning.specs.Replacement.{Piece, read_before, read_behind}
use Rattle.replace_rules.specs.declared.rules.LangContext.{LangContext}
use Rattle.replace_rules.specs.Rules.{HasContext}

-- no context is asked for, or one of them holds between the pieces
abbrev pub AllowsAt : Side → List LangContext → List (Piece Sym) → List (Piece Sym) → Type 0
AllowsAt side contexts before behind = (contexts ≡ []) ⊎ HasContext contexts (inner (read_before side before)) (inner (read_behind side behind))

-- between these pieces a word of the language is put in the place of the empty word
abbrev pub InsertsBy : Complete Sym → Side → List LangContext → List (Piece Sym) → List Sym → List Sym → List (Piece Sym) → Type 0
InsertsBy words side contexts before centre put behind = (centre ≡ []) × Accepts words put × AllowsAt side contexts before behind

-- between these pieces one is asked for
abbrev pub AsksBy : Side → List LangContext → List (Piece Sym) → List Sym → List (Piece Sym) → Type 0
AsksBy side contexts before centre behind = (centre ≡ []) × AllowsAt side contexts before behind
