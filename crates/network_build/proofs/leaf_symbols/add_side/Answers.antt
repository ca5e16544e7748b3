use Rattle.std.proofs.Common.{◌≡◌, ◌+◌, ◌++◌, ◌∷◌, [], arith, subst, sym, take}
use Rattle.std.proofs.lemmas.List.{take_all, take_more}
use Rattle.name_resolution.specs.Plain.{piece_of}
use Rattle.project_meaning.specs.Lexicons.{letters_of}
use Rattle.network_build.specs.Gathered.{AddsLeaves}
use Rattle.network_build.proofs.Gathering.{adds_more, adds_none, listed_joined, one_piece, side_leaves}
use Rattle.network_build.proofs.leaf_symbols.add_side.Goals as goal

pub side-init : goal.side-init
side-init c = adds_none c.args.symbols.now

pub side-preserved : goal.side-preserved
side-preserved c =
    let side = c.args.side.now in
    let i = c.side.piece-index in
    let piece = c.piece-item.result in
    adds_more side_leaves (listed_joined letters_of piece_of) c.args.symbols.now c.side.symbols c.add_piece.new.symbols side i piece
    (subst (λ x. take (i + 1) side ≡ take i side ++ x ∷ []) (sym c.piece-item.is) (take_more side i piece (omega arith)))
    (subst (AddsLeaves c.side.symbols c.add_piece.new.symbols) (one_piece piece) c.in_ok-add_piece.ensures) c.side.invariant

pub returns : goal.returns
returns c = subst (λ xs. AddsLeaves c.args.symbols.now c.side.symbols (side_leaves xs)) (take_all c.side.piece-index c.args.side.now (omega arith)) c.side.invariant
