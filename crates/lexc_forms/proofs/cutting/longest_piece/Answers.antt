use Rattle.std.proofs.Common.{sym, subst}
use Rattle.regex_ast.specs.declared.expr.Raw.{Raw}
use Rattle.regex_ast.specs.declared.lexc.Piece.{Piece}
use Rattle.lexc_forms.specs.Forms.{IsLongestPiece}
use Rattle.lexc_forms.proofs.Pieces.{no_piece, symbol_alone, flag_alone, flag_first, symbol_first}
use Rattle.lexc_forms.proofs.cutting.longest_piece.Goals as goal

pub returns-in-None-symbol : goal.returns-in-None-symbol
returns-in-None-symbol c =
    let no_flag = rw c.in-None.is at c.in_ok-flag_front.ensures in
    no_piece c.args.declared.now c.args.text.now c.in-None-symbol.ensures no_flag

pub returns-in_ok-symbol_front-in-Some-symbol : goal.returns-in_ok-symbol_front-in-Some-symbol
returns-in_ok-symbol_front-in-Some-symbol c =
    let no_flag = rw c.in-None.is at c.in_ok-flag_front.ensures in
    subst (λ (p : Piece Raw). IsLongestPiece c.args.declared.now c.args.text.now c.in-Some-symbol.len p) (sym c.in_ok-symbol_front-in-Some-symbol.ensures)
    (symbol_alone c.args.declared.now c.args.text.now c.in-Some-symbol.len c.in-Some-symbol.ensures no_flag)

pub returns-in-None-symbol-2 : goal.returns-in-None-symbol-2
returns-in-None-symbol-2 c =
    let flag = rw c.in-Some.is at c.in_ok-flag_front.ensures in
    flag_alone c.args.declared.now c.args.text.now c.in-Some.flag_len c.in-Some.flag c.in-None-symbol-2.ensures flag

pub returns-then-len-flag_len : goal.returns-then-len-flag_len
returns-then-len-flag_len c =
    let flag = rw c.in-Some.is at c.in_ok-flag_front.ensures in
    flag_first c.args.declared.now c.args.text.now c.in-Some-symbol-2.len c.in-Some.flag_len c.in-Some.flag c.in-Some-symbol-2.ensures flag c.if-len-flag_len.true

pub returns-in_ok-symbol_front-in-Some-symbol-2 : goal.returns-in_ok-symbol_front-in-Some-symbol-2
returns-in_ok-symbol_front-in-Some-symbol-2 c =
    let flag = rw c.in-Some.is at c.in_ok-flag_front.ensures in
    subst (λ (p : Piece Raw). IsLongestPiece c.args.declared.now c.args.text.now c.in-Some-symbol-2.len p) (sym c.in_ok-symbol_front-in-Some-symbol-2.ensures)
    (symbol_first c.args.declared.now c.args.text.now c.in-Some-symbol-2.len c.in-Some.flag_len c.in-Some.flag c.in-Some-symbol-2.ensures flag c.if-len-flag_len.false)
