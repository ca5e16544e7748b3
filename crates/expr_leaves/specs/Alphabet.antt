-- Whether an expression uses the alphabet: whether what it means depends on symbols that don't stand in it.
use Rattle.std.specs.Prelude.{Bool, true, false, ◌||◌}
use Rattle.regex_ast.specs.Terms.{Term, Terms, Links, Steps, empty, any, edge, atom, letters, group, maybe, not_one, cross, suffixed, prefixed, ignore, concat, chain, only, rules, directed, steps, no_term, then_term, no_link, or, and, less, no_step, cross_with, then}

abbrev mutual
  -- one of `?`, `\`, `~`, `$`, `=>` and replacement, directed or not, stands in it
  pub uses_alphabet : {A : Type 0} → Term A → Bool
  uses_alphabet empty = false
  uses_alphabet any = true
  uses_alphabet edge = false
  uses_alphabet (atom a) = false
  uses_alphabet (letters all) = false
  uses_alphabet (group e) = uses_alphabet e
  uses_alphabet (maybe e) = uses_alphabet e
  uses_alphabet (not_one n e) = true
  uses_alphabet (cross e f) = uses_alphabet e || uses_alphabet f
  uses_alphabet (suffixed e suffixes) = uses_alphabet e
  uses_alphabet (prefixed prefixes e) = true
  uses_alphabet (ignore es) = one_uses_alphabet es
  uses_alphabet (concat es) = one_uses_alphabet es
  uses_alphabet (chain e links) = uses_alphabet e || link_uses_alphabet links
  uses_alphabet (only e contexts) = true
  uses_alphabet (rules optional groups) = true
  uses_alphabet (directed way maps contexts) = true
  uses_alphabet (steps e more) = uses_alphabet e || step_uses_alphabet more

  -- one of the items does
  pub one_uses_alphabet : {A : Type 0} → Terms A → Bool
  one_uses_alphabet no_term = false
  one_uses_alphabet (then_term e es) = uses_alphabet e || one_uses_alphabet es

  pub link_uses_alphabet : {A : Type 0} → Links A → Bool
  link_uses_alphabet no_link = false
  link_uses_alphabet (or e links) = uses_alphabet e || link_uses_alphabet links
  link_uses_alphabet (and e links) = uses_alphabet e || link_uses_alphabet links
  link_uses_alphabet (less e links) = uses_alphabet e || link_uses_alphabet links

  pub step_uses_alphabet : {A : Type 0} → Steps A → Bool
  step_uses_alphabet no_step = false
  step_uses_alphabet (cross_with e more) = uses_alphabet e || step_uses_alphabet more
  step_uses_alphabet (then e more) = uses_alphabet e || step_uses_alphabet more
