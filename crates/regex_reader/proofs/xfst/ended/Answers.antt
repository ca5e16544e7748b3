use Rattle.std.proofs.Common.{◌≡◌, ◌≢◌, ◌==◌, ℕ, false, length, arith}
use Rattle.std.proofs.lemmas.Bool.Decides.{nat_tests}
use Rattle.regex_reader.proofs.Stepping.{no_token_there, nothing_left, deep_at_end, open_at_end}
use Rattle.regex_reader.proofs.xfst.ended.Goals as goal
use Rattle.regex_reader.proofs.xfst.ended.Goals.{then-is_too_deep, else-is_too_deep}

empty_not : (n : ℕ) → n ≡ 0 → false ≡ (n == 0) → ⊥
empty_not n e h = let clash : false ≡ (0 == 0) = rw e at h in absurd cc

pub returns-in-NoToken : goal.returns-in-NoToken
returns-in-NoToken c = no_token_there c.args.tokens.now c.args.places.now c.args.ending c.in-NoToken.line c.requires.same c.requires.none c.in-NoToken.is

pub returns-then-is_empty : goal.returns-then-is_empty
returns-then-is_empty c =
    let none : length c.args.tokens.now ≡ 0 = grind (arith, nat_tests, c.if-is_empty.ensures) in
    nothing_left c.args.tokens.now c.args.places.now c.args.ending none c.in_default.not-NoToken

pub returns : goal.returns
returns c =
    let some : length c.args.tokens.now ≢ 0 = λ e. empty_not _ e c.if-is_empty.ensures in
    elim c.if-is_too_deep.branch [
      | then-is_too_deep w ↦ deep_at_end c.args.tokens.now c.args.places.now c.args.ending c.first_line-line.result c.if-is_too_deep.why c.requires.same some c.requires.none c.in_default.not-NoToken c.first_line-line.ensures w.if-is_too_deep.ensures w.why-is
      | else-is_too_deep w ↦ open_at_end c.args.tokens.now c.args.places.now c.args.ending c.first_line-line.result c.if-is_too_deep.why c.requires.same some c.requires.none c.in_default.not-NoToken c.first_line-line.ensures w.if-is_too_deep.ensures w.why-is
    ]
