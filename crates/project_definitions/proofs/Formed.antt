-- A grammar whose leaves are replaced by others has the forms that it had.
use Rattle.std.proofs.lemmas.List.Elements.{All-map, All-weaker}
use Rattle.regex_ast.specs.Terms.{Term, Terms, Links, Contexts, empty, any, edge, atom, letters, group, maybe, not_one, cross, suffixed, prefixed, ignore, concat, chain, only, rules, directed, steps, no_term, then_term, no_link, or, and, less, no_context, between}
use Rattle.expr_leaves.specs.Mapped.{mapped, mapped_each, mapped_links, mapped_contexts}
use Rattle.grammar_pairs.specs.Mapped.{mapped_definition, mapped_grammar, mapped_part, mapped_rule, mapped_side}
use Rattle.grammar_pairs.specs.Plain.{ArePairForms, ContextsArePairForms, IsFormed, IsFormedRule, IsNamedSide, IsPairForm, LinksArePairForms}
use Rattle.project_meaning.specs.Trees.{Grammar, PairDefinition, Rule, Side, nothing, anything, one, member}

module _ {A B : Type 0} (f : A → B) where
  mutual
    form_mapped : (t : Term A) → IsPairForm t → IsPairForm (mapped f t)
    form_mapped empty h = tt
    form_mapped any h = tt
    form_mapped edge h = tt
    form_mapped (atom a) h = tt
    form_mapped (letters all) h = h
    form_mapped (group e) h = form_mapped e h
    form_mapped (maybe e) h = form_mapped e h
    form_mapped (not_one n e) h = form_mapped e h
    form_mapped (cross e g) h = h
    form_mapped (suffixed e suffixes) h = form_mapped e h
    form_mapped (prefixed prefixes e) h = form_mapped e h
    form_mapped (ignore es) h = each_mapped es h
    form_mapped (concat es) h = each_mapped es h
    form_mapped (chain e links) h = (form_mapped e h.0, links_mapped links h.1)
    form_mapped (only e contexts) h = h
    form_mapped (rules optional groups) h = h
    form_mapped (directed way maps contexts) h = h
    form_mapped (steps e more) h = h

    each_mapped : (es : Terms A) → ArePairForms es → ArePairForms (mapped_each f es)
    each_mapped no_term h = tt
    each_mapped (then_term e es) h = (form_mapped e h.0, each_mapped es h.1)

    links_mapped : (links : Links A) → LinksArePairForms links → LinksArePairForms (mapped_links f links)
    links_mapped no_link h = tt
    links_mapped (or e links) h = (form_mapped e h.0, links_mapped links h.1)
    links_mapped (and e links) h = (form_mapped e h.0, links_mapped links h.1)
    links_mapped (less e links) h = (form_mapped e h.0, links_mapped links h.1)

  contexts_mapped : (contexts : Contexts A) → ContextsArePairForms contexts → ContextsArePairForms (mapped_contexts f contexts)
  contexts_mapped no_context h = tt
  contexts_mapped (between l r contexts) h = (form_mapped l h.0, form_mapped r h.1, contexts_mapped contexts h.2)

module _ {A B : Type 0} (f : A → B) where
  side_mapped : (side : Side A) → IsNamedSide side → IsNamedSide (mapped_side f side)
  side_mapped nothing h = tt
  side_mapped anything h = h
  side_mapped (one leaf) h = tt
  side_mapped (member set) h = h

  rule_mapped : (r : Rule A) → IsFormedRule r → IsFormedRule (mapped_rule f r)
  rule_mapped r h = (side_mapped r.centre.up h.0, side_mapped r.centre.low h.1, contexts_mapped (mapped_part f) r.contexts h.2)

  pub formed_mapped : (g : Grammar A) → IsFormed g → IsFormed (mapped_grammar f g)
  formed_mapped g formed = record {
    definitions =
        All-map (λ (d : PairDefinition B). IsPairForm d.term) (mapped_definition f) g.definitions
        (All-weaker (λ (d : PairDefinition A). IsPairForm d.term) (λ (d : PairDefinition A). IsPairForm (mapped_definition f d).term) (λ d own. form_mapped (mapped_part f) d.term own) g.definitions formed.definitions);
    rules = All-map IsFormedRule (mapped_rule f) g.rules (All-weaker IsFormedRule (λ (r : Rule A). IsFormedRule (mapped_rule f r)) rule_mapped g.rules formed.rules);
  }
