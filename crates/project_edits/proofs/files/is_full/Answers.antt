use Rattle.std.proofs.Common.{◌≡◌, ◌<◌, ◌≤◌, length, None, Some, sym, ◌∙◌, arith}
use Rattle.std.proofs.lemmas.Bool.Decides.{nat_tests}
use Rattle.fsm_io.specs.Folders.{file_of}
use Rattle.project_manifest.specs.Manifests.{project_name}
use Rattle.project_edits.proofs.Counting.{alone_most, besides_most, most_alone, most_besides}
use Rattle.project_edits.proofs.files.is_full.Goals as goal

pub returns-in-Some : goal.returns-in-Some
returns-in-Some c =
    let held : file_of project_name c.args.sources.now ≡ None → ⊥ = λ none. let both : Some c.in-Some.field-0.now ≡ None = c.in-Some.ensures ∙ none in cc in (
      λ test.
          let less : 64 < c.len.result = grind (arith, nat_tests) in
          let many : 64 < length c.args.sources.now = omega (arith, c.len.ensures.len) in
          most_besides c.args.sources.now c.len.ensures.apart held many,
      λ most.
          let many : 64 < length c.args.sources.now = besides_most c.args.sources.now c.len.ensures.apart held most in
          let less : 64 < c.len.result = omega (arith, c.len.ensures.len) in
          grind (arith, nat_tests),
    )

pub returns-in-None : goal.returns-in-None
returns-in-None c =
    let none : file_of project_name c.args.sources.now ≡ None = sym c.in-None.ensures in (
      λ test.
          let less : 64 ≤ c.len-in-None.result = grind (arith, nat_tests) in
          let many : 64 ≤ length c.args.sources.now = omega (arith, c.len-in-None.ensures.len) in
          most_alone c.args.sources.now c.len-in-None.ensures.apart none many,
      λ most.
          let many : 64 ≤ length c.args.sources.now = alone_most c.args.sources.now c.len-in-None.ensures.apart most in
          let less : 64 ≤ c.len-in-None.result = omega (arith, c.len-in-None.ensures.len) in
          grind (arith, nat_tests),
    )
