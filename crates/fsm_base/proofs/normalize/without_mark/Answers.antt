use Rattle.std.proofs.Common.{◌≡◌, List, ℕ, Some, None, Option, MatchOption, drop, ap, ◌∙◌, unwrap_or}
use Rattle.std.specs.Str.{IsUtf8, chars}
use Rattle.std.specs.Str.Pattern.{FindsCharPrefix, StripsPrefix}
use denote.Ref.{Bor}
use Rattle.fsm_base.specs.Normal.{without_mark}
use Rattle.fsm_base.proofs.NormalLemmas.{mark_kept, mark_left_out}
use Rattle.fsm_base.proofs.normalize.without_mark.Goals as goal

stripped : (text : Bor (List ℕ)) (r : Option (Bor (List ℕ))) → IsUtf8 text.now → MatchOption r (FindsCharPrefix 0xFEFF text.now None) (λ x. StripsPrefix (FindsCharPrefix 0xFEFF) text.now x.now)
    → chars (unwrap_or r text).now ≡ without_mark (chars text.now)
stripped text None utf8 none = mark_kept text.now utf8 none
stripped text (Some x) utf8 some =
    ap chars some.2 ∙ mark_left_out text.now (drop some.0 text.now) utf8 some.1.split

pub returns-clause-characters : goal.returns-clause-characters
returns-clause-characters c =
    ap (λ (t : Bor (List ℕ)). chars t.now) c.unwrap_or.ensures ∙ stripped c.args.text c.strip_prefix.result c.utf8.text c.strip_prefix.ensures.cases
