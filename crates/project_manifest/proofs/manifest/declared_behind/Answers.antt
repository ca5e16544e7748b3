use Rattle.std.proofs.Common.{List, ℕ, Vec, Global, map, true≢false, sym, subst, ◌∙◌}
use Rattle.project_manifest.specs.Lines.{SaysLine}
use Rattle.project_manifest.specs.Reading.{IsLineError}
use Rattle.project_manifest.specs.Sayings.{AreTexts, as_written, line_of, placed_of, saying_of}
use Rattle.project_manifest.proofs.Refusing.{faultless_line, refused_many}
use Rattle.project_manifest.proofs.manifest.declared_behind.Goals as goal

pub declared-requires : goal.declared-requires
declared-requires c = subst (λ (w : List (Vec ℕ Global)). AreTexts (as_written w)) (sym c.deref.ensures.value) c.requires.texts

pub returns-then-names_too_many-clause-error : goal.returns-then-names_too_many-clause-error
returns-then-names_too_many-clause-error c =
    let read = rw c.in-Some.is at c.in_ok-declares.ensures in
    let says = subst (λ (w : List (Vec ℕ Global)). SaysLine (as_written w) (line_of c.in-Some.declares)) c.deref.ensures.value read in
    subst (IsLineError (map placed_of c.args.lines.now) (saying_of c.args.said.now)) (sym c.refused-then-names_too_many.ensures)
    (refused_many (map placed_of c.args.lines.now) (saying_of c.args.said.now) (line_of c.in-Some.declares) says (λ again. true≢false (sym (c.names_again.ensures.1 again) ∙ c.if-names_again.false)) ((c.names_too_many.ensures (map placed_of c.args.lines.now) c.requires.files).0 c.if-names_too_many.true))

pub returns-clause-faultless : goal.returns-clause-faultless
returns-clause-faultless c =
    let read = rw c.in-Some.is at c.in_ok-declares.ensures in
    let says = subst (λ (w : List (Vec ℕ Global)). SaysLine (as_written w) (line_of c.in-Some.declares)) c.deref.ensures.value read in
    faultless_line (map placed_of c.args.lines.now) (saying_of c.args.said.now) (line_of c.in-Some.declares) says (λ again. true≢false (sym (c.names_again.ensures.1 again) ∙ c.if-names_again.false)) (λ many. true≢false (sym ((c.names_too_many.ensures (map placed_of c.args.lines.now) c.requires.files).1 many) ∙ c.if-names_too_many.false))
