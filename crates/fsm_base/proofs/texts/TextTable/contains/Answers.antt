use Rattle.std.proofs.Common.{◌≡◌, ℕ, false, List, Option, Some, None, MatchOption, sym, slice_get, ◌∙◌}
use Rattle.std.specs.List.{list_any}
use Rattle.std.specs.Option.{is_some}
use Rattle.std.specs.Str.{bytes_eq}
use Rattle.fsm_base.specs.Symbols.{number_of}
use Rattle.fsm_base.proofs.TextLemmas.{held}
use Rattle.fsm_base.proofs.texts.TextTable.contains.Goals as goal

by : (text : List ℕ) (texts : List (List ℕ)) (place : Option ℕ) → MatchOption place (list_any (bytes_eq text) texts ≡ false) (λ p. (slice_get texts p ≡ Some text) × (p ≡ number_of text texts)) → is_some place ≡ list_any (bytes_eq text) texts
by text texts None missing = sym missing
by text texts (Some p) found = sym (held text texts p found.0)

pub returns : goal.returns
returns c = c.is_some.ensures ∙ by c.args.text.now c.args.self.now c.place_of.result c.place_of.ensures
