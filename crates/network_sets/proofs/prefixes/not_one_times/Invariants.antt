use Rattle.fsa.specs.Language.{Accepts}
use Rattle.expr_meaning.specs.Operators.{IsNotOne}
use Rattle.network_algebra.specs.Networks.{UsesOnly, all_letters}
use Rattle.network_sets.proofs.Alike.{SameWords}
use Rattle.network_sets.proofs.prefixes.not_one_times.Given as goal

-- so many backslashes are done
abbrev pub invariant-times : goal.invariant-times
invariant-times l = record {
  only : UsesOnly (all_letters l.alphabet) l.words;
  words : SameWords (Accepts l.words) (IsNotOne l.alphabet l.counter (Accepts l.fn.words));
}
