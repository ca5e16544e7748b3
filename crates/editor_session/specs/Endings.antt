-- How a run of several ends: by that one of their endings which goes before the others.
use Rattle.std.specs.Prelude.{List, [], ◌∷◌}
use Rattle.std.specs.List.{flat_map}
use Rattle.std.specs.Option.{option_to_list}
use Rattle.lane_session.specs.Lanes.{LaneView, ending_in}
use Rattle.reply_meaning.specs.declared.ending.Ending.{Ending}
use Rattle.reply_meaning.specs.declared.ending.Ending.TheVariants.{Finished, WriteFailed, ReadFailed, Spent}

-- a failed write goes before a failed read, and that before a spent budget
abbrev pub worse : Ending → Ending → Ending
worse Finished other = other
worse Spent Finished = Spent
worse Spent Spent = Spent
worse Spent ReadFailed = ReadFailed
worse Spent WriteFailed = WriteFailed
worse ReadFailed WriteFailed = WriteFailed
worse ReadFailed Finished = ReadFailed
worse ReadFailed Spent = ReadFailed
worse ReadFailed ReadFailed = ReadFailed
worse WriteFailed other = WriteFailed

abbrev pub worst : List Ending → Ending
worst [] = Finished
worst (ending ∷ endings) = worse ending (worst endings)

-- how those lanes ended that did
abbrev pub endings_in : {V : Type 0} → List (LaneView V) → List Ending
endings_in lanes = flat_map (λ lane. option_to_list (ending_in lane.work)) lanes
