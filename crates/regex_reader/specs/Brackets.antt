-- How deep brackets are. Any closing bracket closes the last one that is open, and a bracket isn't inside the pair that it opens or
-- closes.
use Rattle.std.specs.Prelude.{ℕ, ◌+◌, ◌-◌, Bool, false, ◌||◌, nat_lt, List, [], ◌∷◌}
use Rattle.regex_reader.specs.declared.brackets.Bracket.{Bracket}
use Rattle.regex_reader.specs.declared.brackets.Bracket.TheVariants.{Opening, Closing, Neither}
use Rattle.regex_reader.specs.Limits.{most_open}

-- how many brackets are open round a token, and behind it, where so many were open before it
abbrev pub open_round : ℕ → Bracket → ℕ
open_round count Opening = count
open_round count Closing = count - 1
open_round count Neither = count

abbrev pub open_behind : ℕ → Bracket → ℕ
open_behind count Opening = count + 1
open_behind count Closing = count - 1
open_behind count Neither = count

-- one of the tokens stands inside more open brackets than may be, where so many are open before them
abbrev pub nests_too_deep : ℕ → List Bracket → Bool
nests_too_deep count [] = false
nests_too_deep count (b ∷ bs) = nat_lt most_open (open_round count b) || nests_too_deep (open_behind count b) bs
