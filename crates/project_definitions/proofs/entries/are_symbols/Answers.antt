use Rattle.std.proofs.Common.{All, map, refl, subst, sym, true≢false, ◌∙◌, arith}
use Rattle.std.proofs.lemmas.List.{take_all}
use Rattle.expr_kinds.specs.Atoms.{is_symbol}
use Rattle.name_resolution.specs.Plain.{piece_of}
use Rattle.project_sources.specs.Built.{PieceIsBuiltBy}
use Rattle.project_definitions.proofs.Telling.{never, piece_here, pieces_more}
use Rattle.project_definitions.proofs.entries.are_symbols.Goals as goal

pub returns-then-not-is_built : goal.returns-then-not-is_built
returns-then-not-is_built c = (
  λ h. absurd (never h),
  λ all. absurd (true≢false (sym (c.is_built.ensures.1 (piece_here c.args.side.now c.pieces.piece-index c.piece-item.result (omega arith) c.piece-item.is all)) ∙ c.if-not-is_built.true)),
)

pub pieces-preserved : goal.pieces-preserved
pieces-preserved c =
    pieces_more c.args.side.now c.pieces.piece-index c.piece-item.result (omega arith) c.piece-item.is (c.is_built.ensures.0 c.if-not-is_built.false) c.pieces.invariant

pub returns : goal.returns
returns c = (λ h. subst (λ pieces. All (PieceIsBuiltBy is_symbol) (map piece_of pieces)) (take_all c.pieces.piece-index c.args.side.now (omega arith)) c.pieces.invariant, λ all. refl)
