use Rattle.std.proofs.Common.{subst, sym}
use Rattle.std.proofs.lemmas.Result.{on_ok_weaker}
use Rattle.regex_ast.specs.declared.expr.Atom.{Atom}
use Rattle.regex_ast.specs.declared.lexc.Piece.{Piece}
use Rattle.name_resolution.specs.Plain.{piece_of}
use Rattle.project_meaning.specs.Lexicons.{letters_of}
use Rattle.network_build.specs.Gathered.{AddsLeaves}
use Rattle.network_build.proofs.Gathering.{adds_none, adds_one}
use Rattle.network_build.proofs.leaf_symbols.add_piece.Goals as goal

pub returns-in-Symbol : goal.returns-in-Symbol
returns-in-Symbol c =
    on_ok_weaker c.add_symbol.result
    (λ h. subst (λ (piece : Piece Atom). AddsLeaves c.args.symbols.now c.add_symbol.new.symbols (letters_of (piece_of piece))) (sym c.in-Symbol.is) (adds_one c.args.symbols.now c.add_symbol.new.symbols c.in-Symbol.leaf h))
    c.add_symbol.ensures

pub returns-in-Flag : goal.returns-in-Flag
returns-in-Flag c = subst (λ (piece : Piece Atom). AddsLeaves c.args.symbols.now c.args.symbols.now (letters_of (piece_of piece))) (sym c.in-Flag.is) (adds_none c.args.symbols.now)
