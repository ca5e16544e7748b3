-- What is listed of the parts of an expression over pairs, and references to pairs.
use Rattle.std.proofs.Common.{◌≡◌, List, [], ◌∷◌, ◌++◌, map, sym, ap, ◌∙◌}
use Rattle.std.proofs.lemmas.List.{map-append}
use Rattle.std.proofs.lemmas.List.Folds.{flat_map-map}
use Rattle.std.specs.Borrow.{Bor}
use Rattle.std.specs.List.{flat_map}
use Rattle.expr_leaves.specs.Leaves.{leaves_in, listed}
use Rattle.expr_leaves.specs.Mapped.{mapped}
use Rattle.name_resolution.specs.Leaves.{pairs_behind}
use Rattle.grammar_pairs.specs.Plain.{pair_of, part_of}
use Rattle.name_resolution.proofs.Listed.{listed_is}
use Rattle.name_resolution.proofs.Mapped.{mapped_listed}
use Rattle.project_meaning.specs.Trees.{Part}
use Rattle.regex_ast.specs.Terms.{Term}
use Rattle.regex_ast.specs.declared.twolc.PairAtom.{PairAtom}
use Rattle.regex_ast.specs.declared.twolc.PairPart.{PairPart}

pub parts_listed : {A T : Type 0} (of : Part A → List T) (t : Term (PairPart A)) → flat_map of (map part_of (leaves_in t)) ≡ listed of (mapped part_of t)
parts_listed of t = flat_map-map of part_of (leaves_in t) ∙ sym (listed_is (λ p. of (part_of p)) t) ∙ sym (mapped_listed of part_of t)

-- one reference to a pair more
pub pushed : {A : Type 0} (old : List (Bor (PairAtom A))) (x : Bor (PairAtom A)) (new : List (Bor (PairAtom A))) → new ≡ old ++ x ∷ [] → pairs_behind new ≡ pairs_behind old ++ pair_of x.now ∷ []
pushed {A} old x new is = ap pairs_behind is ∙ map-append (λ (p : Bor (PairAtom A)). pair_of p.now) old (x ∷ [])
