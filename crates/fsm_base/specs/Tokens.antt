-- When a text has no cut into symbols.
use Rattle.std.specs.Prelude.{◌≡◌, ℕ, List, Result, Err}
use Rattle.fsm_base.specs.declared.alphabet.TokensError.{TokensError}
use Rattle.fsm_base.specs.declared.alphabet.TokensError.TheVariants.{NoSymbol, Memory}

-- the cut stops at the place that the error names. Want of memory says nothing of the cut
abbrev pub IsStopped : Result (List (List ℕ)) ℕ → TokensError → Type 0
IsStopped cut (NoSymbol at) = cut ≡ Err at
IsStopped cut (Memory refused) = Unit {0}
