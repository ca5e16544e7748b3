-- Directed rules whose parts are languages (Karttunen, Directed Replacement, 1996). All contexts are read on the upper side.
use Rattle.std.specs.Prelude.{◌≡◌, ◌⊎◌, List, [], Contains}
use Rattle.fsm_base.specs.declared.letters.Sym.{Sym}
use Rattle.expr_meaning.specs.Operators.{inner}
use Rattle.expr_meaning.specs.Replacement.{Piece, uppers}
use Rattle.replace_rules.specs.declared.rules.LangMap.{LangMap}
use Rattle.replace_rules.specs.declared.rules.LangContext.{LangContext}
use Rattle.replace_rules.specs.Rules.{HasCentre, HasMapping, HasContext, IsMapOver}

-- no context is asked for, or one of them holds between the words
abbrev pub HoldsIn : List LangContext → List Sym → List Sym → Type 0
HoldsIn contexts x z = (contexts ≡ []) ⊎ HasContext contexts (inner x) (inner z)

-- a match between two words: a centre of one of the mappings, where a context holds
abbrev pub IsMatch : List LangMap → List LangContext → List Sym → List Sym → List Sym → Type 0
IsMatch maps contexts x c z = HasCentre maps c × HoldsIn contexts x z

-- between these pieces, one of the mappings replaces the centre by the word
abbrev pub ReplacesIn : List LangMap → List LangContext → List (Piece Sym) → List Sym → List Sym → List (Piece Sym) → Type 0
ReplacesIn maps contexts before centre put behind = HasMapping maps centre put × HoldsIn contexts (uppers before) (uppers behind)

-- what mappings speak of is over these symbols, and no centre is the empty word
abbrev pub AreOver : List Sym → List LangMap → Type 0
AreOver symbols maps = (m : LangMap) → Contains maps m → IsMapOver symbols m
