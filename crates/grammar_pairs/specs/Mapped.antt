-- Grammars whose leaves are replaced by others.
use Rattle.std.specs.Prelude.{map}
use Rattle.expr_leaves.specs.Mapped.{mapped, mapped_contexts}
use Rattle.project_meaning.specs.Trees.{Side, nothing, anything, one, member, Pair, Part, pair, called, Set, PairDefinition, Rule, Grammar}

module _ {A B : Type 0} (f : A → B) where
  abbrev pub mapped_side : Side A → Side B
  mapped_side nothing = nothing
  mapped_side anything = anything
  mapped_side (one leaf) = one (f leaf)
  mapped_side (member set) = member set

  abbrev pub mapped_pair : Pair A → Pair B
  mapped_pair p = record { up = mapped_side p.up; low = mapped_side p.low }

  abbrev pub mapped_part : Part A → Part B
  mapped_part (pair p) = pair (mapped_pair p)
  mapped_part (called name) = called name

  abbrev pub mapped_set : Set A → Set B
  mapped_set s = record { name = s.name; symbols = map f s.symbols }

  abbrev pub mapped_definition : PairDefinition A → PairDefinition B
  mapped_definition d = record { name = d.name; term = mapped mapped_part d.term }

  abbrev pub mapped_rule : Rule A → Rule B
  mapped_rule r = record { name = r.name; centre = mapped_pair r.centre; kind = r.kind; contexts = mapped_contexts mapped_part r.contexts }

  abbrev pub mapped_grammar : Grammar A → Grammar B
  mapped_grammar g = record {
    pairs = map mapped_pair g.pairs;
    sets = map mapped_set g.sets;
    definitions = map mapped_definition g.definitions;
    rules = map mapped_rule g.rules;
  }
