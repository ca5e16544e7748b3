-- Whether an expression uses the alphabet doesn't turn on its leaves.
use Rattle.std.proofs.Common.{◌≡◌, ◌||◌, refl}
use Rattle.regex_ast.specs.Terms.{Term, Terms, Links, Steps, empty, any, edge, atom, letters, group, maybe, not_one, cross, suffixed, prefixed, ignore, concat, chain, only, rules, directed, steps, no_term, then_term, no_link, or, and, less, no_step, cross_with, then}
use Rattle.expr_leaves.specs.Alphabet.{uses_alphabet, one_uses_alphabet, link_uses_alphabet, step_uses_alphabet}
use Rattle.expr_leaves.specs.Mapped.{mapped, mapped_each, mapped_links, mapped_steps}

module _ {A B : Type 0} (f : A → B) where
  mutual
    pub uses_mapped : (e : Term A) → uses_alphabet (mapped f e) ≡ uses_alphabet e
    uses_mapped empty = refl
    uses_mapped any = refl
    uses_mapped edge = refl
    uses_mapped (atom a) = refl
    uses_mapped (letters all) = refl
    uses_mapped (group e) = uses_mapped e
    uses_mapped (maybe e) = uses_mapped e
    uses_mapped (not_one n e) = refl
    uses_mapped (cross e d) = let p = uses_mapped e in let q = uses_mapped d in λ i. p i || q i
    uses_mapped (suffixed e all) = uses_mapped e
    uses_mapped (prefixed all e) = refl
    uses_mapped (ignore es) = each_uses es
    uses_mapped (concat es) = each_uses es
    uses_mapped (chain e links) = let p = uses_mapped e in let q = links_use links in λ i. p i || q i
    uses_mapped (only e contexts) = refl
    uses_mapped (rules optional groups) = refl
    uses_mapped (directed way maps contexts) = refl
    uses_mapped (steps e more) = let p = uses_mapped e in let q = steps_use more in λ i. p i || q i

    each_uses : (es : Terms A) → one_uses_alphabet (mapped_each f es) ≡ one_uses_alphabet es
    each_uses no_term = refl
    each_uses (then_term e es) = let p = uses_mapped e in let q = each_uses es in λ i. p i || q i

    links_use : (links : Links A) → link_uses_alphabet (mapped_links f links) ≡ link_uses_alphabet links
    links_use no_link = refl
    links_use (or e links) = let p = uses_mapped e in let q = links_use links in λ i. p i || q i
    links_use (and e links) = let p = uses_mapped e in let q = links_use links in λ i. p i || q i
    links_use (less e links) = let p = uses_mapped e in let q = links_use links in λ i. p i || q i

    steps_use : (more : Steps A) → step_uses_alphabet (mapped_steps f more) ≡ step_uses_alphabet more
    steps_use no_step = refl
    steps_use (cross_with e more) = let p = uses_mapped e in let q = steps_use more in λ i. p i || q i
    steps_use (then e more) = let p = uses_mapped e in let q = steps_use more in λ i. p i || q i
