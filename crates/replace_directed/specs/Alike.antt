-- Symbols that no part of a directed rule tells from one another.
use Rattle.std.specs.Prelude.{◌≡◌, ℕ, List, Some, Contains, length, slice_get}
use Rattle.fsm_base.specs.declared.letters.Bound.TheVariants.{Inner}
use Rattle.fsm_base.specs.declared.letters.Sym.{Sym}
use Rattle.replace_rules.specs.declared.rules.LangMap.{LangMap}
use Rattle.replace_rules.specs.declared.rules.LangContext.{LangContext}
use Rattle.replace_rules.specs.Alike.{MapIsLike, ContextIsLike}

-- no language of a mapping or a context tells the symbols apart
pub record RuleIsLike (maps : List LangMap) (contexts : List LangContext) (s t : Sym) : Type 0 where
  pub in_maps : (m : LangMap) → Contains maps m → MapIsLike m s t
  pub in_contexts : (c : LangContext) → Contains contexts c → ContextIsLike c (Inner s) (Inner t)

-- for each symbol one that no part of the rule tells from it
pub record AreFirstsOf (symbols : List Sym) (maps : List LangMap) (contexts : List LangContext) (firsts : List Sym) : Type 0 where
  pub count : length firsts ≡ length symbols
  pub each : (j : ℕ) (s f : Sym) → slice_get symbols j ≡ Some s → slice_get firsts j ≡ Some f → Contains symbols f × RuleIsLike maps contexts s f
