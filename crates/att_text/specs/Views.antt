-- What the program's values stand for.
use Rattle.std.specs.Prelude.{◌≢◌, ℕ, List, All}
use Rattle.std.specs.Option.{option_map}
use Rattle.att_text.specs.Lines.{Saying, arc, final}
use Rattle.att_text.specs.declared.fields.Arc.{Arc}
use Rattle.att_text.specs.declared.fields.Said as said
use Rattle.att_text.specs.declared.fields.Said.TheVariants as saids

-- the byte isn't among these
abbrev pub HasNo : ℕ → List ℕ → Type 0
HasNo byte bytes = All (λ b. b ≢ byte) bytes

-- what is said
abbrev pub arc_seen : Arc → Saying
arc_seen a = arc a.from a.to (option_map (λ symbol. symbol.now) a.up) (option_map (λ symbol. symbol.now) a.low)

abbrev pub said_seen : said.Said → Saying
said_seen (saids.Arc a) = arc_seen a
said_seen (saids.Final state) = final state
