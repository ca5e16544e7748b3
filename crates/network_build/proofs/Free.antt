-- An expression that doesn't use the alphabet has no rules of replacement, so no centres.
use Rattle.std.proofs.Common.{◌≡◌, ◌++◌, ◌||◌, Bool, true, false, List, [], refl, ap, ◌∙◌}
use Rattle.regex_ast.specs.Terms.{Term, Terms, Links, Steps, empty, any, edge, atom, letters, group, maybe, not_one, cross, suffixed, prefixed, ignore, concat, chain, only, rules, directed, steps, no_term, then_term, no_link, or, and, less, no_step, cross_with, then}
use Rattle.expr_leaves.specs.Alphabet.{uses_alphabet, one_uses_alphabet, link_uses_alphabet, step_uses_alphabet}
use Rattle.project_meaning.specs.Centres.{centres_in, centres_in_each, centres_in_links, centres_in_steps}

neither : (a b : Bool) → (a || b) ≡ false → (a ≡ false) × (b ≡ false)
neither true b h = let never : true ≡ false = h in absurd (cc)
neither false b h = (refl, h)

none : {A : Type 0} (xs ys : List (Term A)) → xs ≡ [] → ys ≡ [] → xs ++ ys ≡ []
none {A} xs ys first second = ap (λ (zs : List (Term A)). zs ++ ys) first ∙ second

always : {P : Type 0} → true ≡ false → P
always h = absurd (cc)

mutual
  pub no_centres : {A : Type 0} (e : Term A) → uses_alphabet e ≡ false → centres_in e ≡ []
  no_centres empty h = refl
  no_centres any h = refl
  no_centres edge h = refl
  no_centres (atom a) h = refl
  no_centres (letters all) h = refl
  no_centres (group e) h = no_centres e h
  no_centres (maybe e) h = no_centres e h
  no_centres (not_one n e) h = always h
  no_centres (cross e f) h = let (first, second) = neither (uses_alphabet e) (uses_alphabet f) h in none (centres_in e) (centres_in f) (no_centres e first) (no_centres f second)
  no_centres (suffixed e suffixes) h = no_centres e h
  no_centres (prefixed prefixes e) h = always h
  no_centres (ignore es) h = none_in_each es h
  no_centres (concat es) h = none_in_each es h
  no_centres (chain e links) h =
      let (first, second) = neither (uses_alphabet e) (link_uses_alphabet links) h in none (centres_in e) (centres_in_links links) (no_centres e first) (none_in_links links second)
  no_centres (only e contexts) h = always h
  no_centres (rules optional groups) h = always h
  no_centres (directed way maps contexts) h = always h
  no_centres (steps e more) h = let (first, second) = neither (uses_alphabet e) (step_uses_alphabet more) h in none (centres_in e) (centres_in_steps more) (no_centres e first) (none_in_steps more second)

  none_in_each : {A : Type 0} (es : Terms A) → one_uses_alphabet es ≡ false → centres_in_each es ≡ []
  none_in_each no_term h = refl
  none_in_each (then_term e es) h = let (first, second) = neither (uses_alphabet e) (one_uses_alphabet es) h in none (centres_in e) (centres_in_each es) (no_centres e first) (none_in_each es second)

  none_in_links : {A : Type 0} (links : Links A) → link_uses_alphabet links ≡ false → centres_in_links links ≡ []
  none_in_links no_link h = refl
  none_in_links (or e links) h =
      let (first, second) = neither (uses_alphabet e) (link_uses_alphabet links) h in none (centres_in e) (centres_in_links links) (no_centres e first) (none_in_links links second)
  none_in_links (and e links) h =
      let (first, second) = neither (uses_alphabet e) (link_uses_alphabet links) h in none (centres_in e) (centres_in_links links) (no_centres e first) (none_in_links links second)
  none_in_links (less e links) h =
      let (first, second) = neither (uses_alphabet e) (link_uses_alphabet links) h in none (centres_in e) (centres_in_links links) (no_centres e first) (none_in_links links second)

  none_in_steps : {A : Type 0} (more : Steps A) → step_uses_alphabet more ≡ false → centres_in_steps more ≡ []
  none_in_steps no_step h = refl
  none_in_steps (cross_with e more) h = let (first, second) = neither (uses_alphabet e) (step_uses_alphabet more) h in none (centres_in e) (centres_in_steps more) (no_centres e first) (none_in_steps more second)
  none_in_steps (then e more) h = let (first, second) = neither (uses_alphabet e) (step_uses_alphabet more) h in none (centres_in e) (centres_in_steps more) (no_centres e first) (none_in_steps more second)
