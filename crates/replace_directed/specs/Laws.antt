-- Laws of directed rules, in the words of the subject.
use Rattle.std.specs.Prelude.{◌≡◌, ◌↔◌, false, List, [], ◌∷◌, ◌++◌}
use Rattle.fsm_base.specs.declared.letters.Sym.{Sym}
use Rattle.word_relations.specs.Words.{IsOver}
use Rattle.expr_meaning.specs.Replacement.{IsRewritten}
use Rattle.replace_rules.specs.declared.rules.LangMap.{LangMap}
use Rattle.replace_rules.specs.declared.rules.LangContext.{LangContext}
use Rattle.replace_rules.specs.Rules.{HasCentre}
use Rattle.regex_ast.specs.declared.expr.Way.{Way}
use Rattle.expr_meaning.specs.Directed.{AppliesOn, IsDirectedBy}
use Rattle.directed_words.specs.Comparisons.{NoneOverlap}
use Rattle.replace_directed.specs.Directed.{IsMatch, ReplacesIn}

-- a word without a match is related to itself alone
abbrev pub DirectedLeavesOthers : Type 0
DirectedLeavesOthers =
    (symbols : List Sym) (way : Way) (maps : List LangMap) (contexts : List LangContext) (u : List Sym) → IsOver symbols u → ((x c z : List Sym) → u ≡ x ++ (c ++ z) → IsMatch maps contexts x c z → ⊥)
    → (w : List Sym) → IsDirectedBy (IsMatch maps contexts) symbols (ReplacesIn maps contexts) way u w ↔ (u ≡ w)

-- what a directed rule relates, the obligatory rule without a direction does, where no centre is the empty word
abbrev pub DirectedIsRewriting : Type 0
DirectedIsRewriting =
    (symbols : List Sym) (way : Way) (maps : List LangMap) (contexts : List LangContext) (u w : List Sym) → ¬ HasCentre maps []
    → IsDirectedBy (IsMatch maps contexts) symbols (ReplacesIn maps contexts) way u w → IsRewritten symbols (ReplacesIn maps contexts) (AppliesOn (IsMatch maps contexts)) false u w

-- a word of which no matches overlap is related to what the obligatory rule without a direction relates it to, where no centre is the empty word
abbrev pub DirectedAgreesWithoutOverlap : Type 0
DirectedAgreesWithoutOverlap =
    (symbols : List Sym) (way : Way) (maps : List LangMap) (contexts : List LangContext) (u w : List Sym) → ¬ HasCentre maps [] → NoneOverlap (IsMatch maps contexts) u
    → IsDirectedBy (IsMatch maps contexts) symbols (ReplacesIn maps contexts) way u w ↔ IsRewritten symbols (ReplacesIn maps contexts) (AppliesOn (IsMatch maps contexts)) false u w

-- where each centre is one symbol, all ways relate the same, and what the obligatory rule without a direction does
abbrev pub DirectedAgreesOnSymbols : Type 0
DirectedAgreesOnSymbols =
    (symbols : List Sym) (way other : Way) (maps : List LangMap) (contexts : List LangContext) (u w : List Sym) → ((c : List Sym) → HasCentre maps c → (s : Sym) × (c ≡ s ∷ []))
    → (IsDirectedBy (IsMatch maps contexts) symbols (ReplacesIn maps contexts) way u w ↔ IsRewritten symbols (ReplacesIn maps contexts) (AppliesOn (IsMatch maps contexts)) false u w)
    × (IsDirectedBy (IsMatch maps contexts) symbols (ReplacesIn maps contexts) way u w ↔ IsDirectedBy (IsMatch maps contexts) symbols (ReplacesIn maps contexts) other u w)
