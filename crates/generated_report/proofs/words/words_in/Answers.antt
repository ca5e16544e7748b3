use Rattle.std.proofs.Common.{◌++◌, ℕ, List, length, ap, sym, ◌∙◌, arith}
use Rattle.std.proofs.lemmas.List.{append_assoc}
use Rattle.interlinear.proofs.Pieces.{words_within}
use Rattle.interlinear.specs.Words.{words_of}
use Rattle.generated_report.specs.Words.{words_in}
use Rattle.generated_report.proofs.Lines.{IsFirstLine, first_line, last_line, within_both, within_more}
use Rattle.generated_report.proofs.words.words_in.Goals as goal

pub lines-preserved : goal.lines-preserved
lines-preserved c =
    let text = c.lines.rest.now in
    let line = c.in-Some.line.now in
    let behind = c.in-Some.behind.now in
    let (i, j, found, line_is, behind_is, order, front, back) = c.in-Some.ensures.cases in
    let first : IsFirstLine text line behind = first_line text c.lines.invariant.utf8 line behind i j line_is behind_is found.1 found.0 in
    let here = c.in_ok-words_of.ensures in
    let new = c.in_ok-append.ensures.items ∙ ap (λ (z : List (List ℕ)). c.lines.words.items ++ z) here in
    record {
      utf8 = first.utf8;
      words =
          ap (λ (z : List (List ℕ)). z ++ words_in behind) new ∙ append_assoc c.lines.words.items (words_of line) (words_in behind)
          ∙ ap (λ (z : List (List ℕ)). c.lines.words.items ++ z) (sym first.words) ∙ c.lines.invariant.words;
      within =
          within_both (length c.args.text.now) c.lines.words.items (words_of line) c.append.new.self.items new c.lines.invariant.within
          (within_more (length text) (length c.args.text.now) c.lines.invariant.shorter (words_of line) first.within);
      shorter = (let less = first.shorter in let more = c.lines.invariant.shorter in omega (arith, less, more));
    }

pub returns : goal.returns
returns c =
    let text = c.lines.rest.now in
    let here = c.in_ok-words_of-2.ensures in
    let new = c.in_ok-append-2.ensures.items ∙ ap (λ (z : List (List ℕ)). c.lines.words.items ++ z) here in
    record {
      words = new ∙ ap (λ (z : List (List ℕ)). c.lines.words.items ++ z) (sym (last_line text c.lines.invariant.utf8 c.in_default.ensures.cases)) ∙ c.lines.invariant.words;
      within =
          within_both (length c.args.text.now) c.lines.words.items (words_of text) c.append-2.new.self.items new c.lines.invariant.within
          (within_more (length text) (length c.args.text.now) c.lines.invariant.shorter (words_of text) (words_within text c.lines.invariant.utf8));
    }
