use Rattle.std.proofs.Common.{◌≡◌, ◌+◌, length, ap, arith, ◌∙◌}
use Rattle.std.proofs.lemmas.Bool.Decides.{nat_tests}
use Rattle.std.proofs.lemmas.List.{drop_all, take_rest}
use Rattle.project_edits.proofs.Parted.{passes_last, passes_newline}
use Rattle.project_edits.proofs.lines.behind_line.Goals as goal

pub returns-in-Some : goal.returns-in-Some
returns-in-Some c = passes_newline c.args.content.now _ c.in-Some.at c.in-Some.ensures (take_rest c.args.content.now (c.in-Some.at + 1))

pub returns-in-None : goal.returns-in-None
returns-in-None c =
    let content = c.args.content.now in
    passes_last content _ (λ none. let no_bytes : length c.args.content.now ≡ 0 = ap length none in first_of (grind (arith, nat_tests), cc, omega arith))
    c.in-None.ensures (take_rest content (length content) ∙ drop_all (length content) content (omega arith))
