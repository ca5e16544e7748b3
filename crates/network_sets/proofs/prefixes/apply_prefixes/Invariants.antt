use Rattle.std.proofs.Common.{◌≡◌, Some, length}
use Rattle.fsa.specs.Language.{Accepts}
use Rattle.regex_ast.specs.declared.expr.Prefix.TheVariants.{Not, Contains as Part}
use Rattle.expr_meaning.specs.Operators.{IsPrefixed}
use Rattle.network_algebra.specs.Networks.{UsesOnly, all_letters}
use Rattle.network_sets.proofs.Alike.{SameWords}
use Rattle.network_sets.proofs.PrefixRows.{ArePrefixedBehind}
use Rattle.network_sets.proofs.prefixes.apply_prefixes.Given as goal

-- the prefixes behind the rest are done
abbrev pub invariant-prefixes : goal.invariant-prefixes
invariant-prefixes l = record {
  only : UsesOnly (all_letters l.alphabet) l.words;
  done : ArePrefixedBehind l.alphabet l.fn.prefixes l.rest (Accepts l.fn.words) (Accepts l.words);
  settled : l.last ≡ Some Part → SameWords (IsPrefixed l.alphabet Part (Accepts l.words)) (Accepts l.words);
  turned : l.last ≡ Some Not → SameWords (IsPrefixed l.alphabet Not (IsPrefixed l.alphabet Not (Accepts l.words))) (Accepts l.words);
}

abbrev pub decreases-prefixes : goal.decreases-prefixes
decreases-prefixes l = length l.rest
