use Rattle.std.proofs.Common.{◌≡◌, ℕ, ◌<◌, Some, length}
use Rattle.std.specs.List.{slice_get}
use Rattle.word_relations.specs.Words.{IsDistinct}
use Rattle.regex_ast.specs.declared.lexc.FlagOp.{FlagOp}
use Rattle.flag_diacritics.specs.declared.actions.Action.{Action}
use Rattle.flag_diacritics.specs.Numbers.{StandsFor}
use Rattle.flag_diacritics.proofs.actions.actions_of.Given as goal

abbrev pub invariant-loop-flag : goal.invariant-loop-flag
invariant-loop-flag l = record {
  features_once : IsDistinct l.features;
  values_once : IsDistinct l.values;
  count : length l.list.items ≡ l.flag-index;
  stand : (n : ℕ) (f : FlagOp) → n < l.flag-index → slice_get l.flags n ≡ Some f → (a : Action) × (slice_get l.list.items n ≡ Some a) × StandsFor l.features l.values f a;
}
