-- Pairs, and expressions over them, with their leaves replaced.
use Rattle.std.proofs.Common.{◌≡◌, refl, sym, ap, ◌∙◌}
use Rattle.expr_leaves.specs.Mapped.{mapped, mapped_contexts}
use Rattle.grammar_pairs.specs.Mapped.{mapped_definition, mapped_pair, mapped_part, mapped_rule, mapped_side}
use Rattle.name_resolution.specs.Parts.{part_by, side_by}
use Rattle.grammar_pairs.specs.Plain.{definition_of, pair_of, part_of, rule_of, side_of}
use Rattle.name_resolution.proofs.Mapped.{contexts_twice, mapped_twice}
use Rattle.project_meaning.specs.Trees.{pair}
use Rattle.regex_ast.specs.Terms.{Contexts, Term, contexts_of, term}
use Rattle.regex_ast.specs.declared.twolc.PairAtom.{PairAtom}
use Rattle.regex_ast.specs.declared.twolc.PairDefine.{PairDefine}
use Rattle.regex_ast.specs.declared.twolc.PairPart.{PairPart}
use Rattle.regex_ast.specs.declared.twolc.PairPart.TheVariants.{Atom, Named}
use Rattle.regex_ast.specs.declared.twolc.PairSide.{PairSide}
use Rattle.regex_ast.specs.declared.twolc.PairSide.TheVariants.{Zero, Any, One, Member}
use Rattle.regex_ast.specs.declared.twolc.TwoLevelRule.{TwoLevelRule}

module _ {A B : Type 0} (f : A → B) where
  side_made : (s : PairSide A) → side_of (side_by f s) ≡ mapped_side f (side_of s)
  side_made Zero = refl
  side_made Any = refl
  side_made (One leaf) = refl
  side_made (Member set) = refl

  pub pair_made : (x : PairAtom A) (y : PairAtom B) → y.up ≡ side_by f x.up → y.low ≡ side_by f x.low → pair_of y ≡ mapped_pair f (pair_of x)
  pair_made x y up_is low_is =
      let up = ap side_of up_is ∙ side_made x.up in
      let low = ap side_of low_is ∙ side_made x.low in
      λ i. record { up = up i; low = low i }

  part_made : (p : PairPart A) → part_of (part_by f p) ≡ mapped_part f (part_of p)
  part_made (Atom p) = ap pair (pair_made p (record { up = side_by f p.up; low = side_by f p.low }) refl refl)
  part_made (Named name) = refl

  pub term_made : (t : Term (PairPart A)) → mapped part_of (mapped (part_by f) t) ≡ mapped (mapped_part f) (mapped part_of t)
  term_made t = mapped_twice part_of (part_by f) t ∙ (λ i. mapped (λ p. part_made p i) t) ∙ sym (mapped_twice (mapped_part f) part_of t)

  pub contexts_made : (cs : Contexts (PairPart A)) → mapped_contexts part_of (mapped_contexts (part_by f) cs) ≡ mapped_contexts (mapped_part f) (mapped_contexts part_of cs)
  contexts_made cs = contexts_twice part_of (part_by f) cs ∙ (λ i. mapped_contexts (λ p. part_made p i) cs) ∙ sym (contexts_twice (mapped_part f) part_of cs)

  -- a definition and a rule whose parts are those of another one, with other leaves
  pub definition_made : (x : PairDefine A) (y : PairDefine B) → y.name ≡ x.name → term y.expr ≡ mapped (part_by f) (term x.expr) → definition_of y ≡ mapped_definition f (definition_of x)
  definition_made x y name_is expr_is =
      let expr = ap (mapped part_of) expr_is ∙ term_made (term x.expr) in
      λ i. record { name = name_is i; term = expr i }

  pub rule_made : (x : TwoLevelRule A) (y : TwoLevelRule B) → y.name ≡ x.name → y.pair.up ≡ side_by f x.pair.up → y.pair.low ≡ side_by f x.pair.low → y.kind ≡ x.kind
      → contexts_of y.contexts.items ≡ mapped_contexts (part_by f) (contexts_of x.contexts.items) → rule_of y ≡ mapped_rule f (rule_of x)
  rule_made x y name_is up_is low_is kind_is contexts_are =
      let centre = pair_made x.pair y.pair up_is low_is in
      let contexts = ap (mapped_contexts part_of) contexts_are ∙ contexts_made (contexts_of x.contexts.items) in
      λ i. record { name = name_is i; centre = centre i; kind = kind_is i; contexts = contexts i }
