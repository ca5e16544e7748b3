-- What there is of a name whose rules are asked for.
use Rattle.std.specs.Prelude.{◌≡◌, ℕ, List}
use Rattle.project_meaning.specs.Projects.{Project}
use Rattle.pair_lines.specs.Ready.{ShowsRules}
use Rattle.pair_lines.specs.Replies.{RefusesPairs}
use Rattle.pair_lines.specs.declared.opened.Opened.{Opened}
use Rattle.pair_lines.specs.declared.opened.Opened.TheVariants.{Rules, Refusal}

-- its rules, or the line that says why there are none
abbrev pub IsOpened : Project → ℕ → List ℕ → Opened → Type 0
IsOpened project version name (Rules rules) = (rules.name ≡ name) × ShowsRules rules project
IsOpened project version name (Refusal bytes) = RefusesPairs project version name bytes.items
