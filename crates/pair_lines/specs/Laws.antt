-- What a string of pairs that passes tells of a name.
use Rattle.std.specs.Prelude.{List, option_to_list}
use Rattle.std.specs.List.{flat_map}
use Rattle.word_relations.specs.Words.{IsOver}
use Rattle.pair_test.specs.Verdicts.{IsVerdict}
use Rattle.pair_test.specs.declared.verdict.Verdict.TheVariants.{Pass}
use Rattle.project_meaning.specs.Grammars.{Letter, feasible}
use Rattle.project_meaning.specs.Meaning.{Meaning}
use Rattle.project_meaning.specs.Projects.{Project}
use Rattle.pair_lines.specs.Ready.{PairRulesView, ShowsRules}
use Rattle.pair_lines.specs.Replies.{IsRuleBrokenAt}

-- a name whose rules are ready relates the two sides, without zeros, of a string of its feasible pairs that breaks none of them
abbrev pub PassingIsMeant : Type 0
PassingIsMeant =
    (project : Project) (ready : PairRulesView) (shown : ShowsRules ready project) (p : List Letter) → IsOver (feasible shown.0) p → IsVerdict (IsRuleBrokenAt shown.0 p) shown.0.rules Pass
    → Meaning project ready.name (flat_map (λ x. option_to_list x.up) p) (flat_map (λ x. option_to_list x.low) p)
