use Rattle.std.proofs.Common.{List, ℕ, ap, map, sym, ◌∙◌}
use Rattle.std.specs.List.{flat_map}
use Rattle.std.proofs.lemmas.Result.{on_ok_weaker}
use Rattle.name_resolution.specs.Plain.{piece_of}
use Rattle.project_model.specs.Gathered.{gathered}
use Rattle.name_resolution.specs.Symbols.{symbols_in_piece}
use Rattle.project_model.proofs.Gathering.{gathered-append, still_short}
use Rattle.project_model.proofs.symbols.add_sides.Goals as goal

pub add_side-requires-2 : goal.add_side-requires-2
add_side-requires-2 c = still_short c.add_side.new.table c.args.table.now (flat_map symbols_in_piece (map piece_of c.args.upper.now)) c.in_ok-add_side.ensures

pub returns : goal.returns
returns c =
    let table = c.args.table.now in
    let upper = map piece_of c.args.upper.now in
    let lower = map piece_of c.args.lower.now in
    let above = flat_map symbols_in_piece upper in
    let below = flat_map symbols_in_piece lower in
    on_ok_weaker c.add_side-2.result
    (λ is. is ∙ ap (λ (t : List (List ℕ)). gathered t below) c.in_ok-add_side.ensures ∙ sym (gathered-append table above below))
    c.add_side-2.ensures
