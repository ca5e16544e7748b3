use Rattle.std.proofs.Common.{◌↔◌, IfOk, IsTrue, length, map, sym, ap, subst, ◌∙◌}
use Rattle.std.specs.List.{flat_map}
use Rattle.name_resolution.specs.Symbols.{terms_behind}
use Rattle.name_resolution.specs.Plain.{lexicon_of}
use Rattle.project_meaning.specs.Leaves.{expressions_of}
use Rattle.project_meaning.specs.Trees.{lexc}
use Rattle.project_definitions.specs.Plain.{body_of}
use Rattle.project_definitions.specs.Referring.{places_in}
use Rattle.touched_names.specs.Places.{HasMarked}
use Rattle.touched_names.proofs.bodies.refers_to_marked.Goals as goal

pub returns-in_ok-expressions-in-Lexc : goal.returns-in_ok-expressions-in-Lexc
returns-in_ok-expressions-in-Lexc c =
    let n = length c.args.marks.now in
    let same = ap (λ z. terms_behind z) c.deref-in-Lexc.ensures.value ∙ c.in_ok-expressions-in-Lexc.ensures
    ∙ ap (λ ls. expressions_of (lexc (map lexicon_of ls))) c.deref.ensures.value ∙ ap (λ b. expressions_of (body_of b)) (sym c.in-Lexc.is) in
    subst (λ z. IfOk c.one_refers.result (λ refers. IsTrue refers ↔ HasMarked c.args.marks.now (flat_map (places_in n) z))) same c.one_refers.ensures
