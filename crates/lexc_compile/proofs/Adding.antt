-- One entry's block: its states, the edge into it, its edges, and the edges from its final states.
use Rattle.std.proofs.Common.{◌≡◌, ℕ, Option, ◌⊎◌, ◌++◌, false, replicate, length, subst, sym, inl, inr, ◌∙◌}
use Rattle.std.specs.List.{Contains}
use Rattle.fsa.specs.Automaton.{Automaton, IsWellFormed}
use Rattle.fsa.specs.declared.automaton.Edge.{Edge}
use Rattle.fsa_rational.specs.Shapes.{epsilon, shifted, Extends, ComesFrom, LeavesFinal}
use Rattle.fsa_rational.proofs.Extended.{Extends-then}
use Rattle.flag_diacritics.specs.declared.tape.Tape.{Tape}
use Rattle.lexc_compile.specs.Blocks.{home_of, target_of, IsBlockEdge, AddsBlock}

module _ (count place : ℕ) (net : Automaton Tape) (next : Option ℕ) (formed : IsWellFormed net) (old states into inside new : Automaton Tape)
    (finals : states.finals ≡ old.finals ++ replicate (length net.finals) false) (edges : states.edges ≡ old.edges)
    (first : Extends states into (λ e. e ≡ epsilon (home_of place) (length old.finals)))
    (second : Extends into inside (ComesFrom (shifted (length old.finals)) net.edges))
    (third : Extends inside new (LeavesFinal net.finals (length old.finals) (target_of count next))) where
  abbrev Last : Edge Tape → Type 0
  Last e = ComesFrom (shifted (length old.finals)) net.edges e ⊎ LeavesFinal net.finals (length old.finals) (target_of count next) e

  last : Extends into new Last
  last = Extends-then into inside new (ComesFrom (shifted (length old.finals)) net.edges) (LeavesFinal net.finals (length old.finals) (target_of count next)) Last (λ e r. r) (λ e p. inl p) (λ e q. inr q) second third

  whole : Extends states new (IsBlockEdge count place net next (length old.finals))
  whole = Extends-then states into new (λ e. e ≡ epsilon (home_of place) (length old.finals)) Last (IsBlockEdge count place net next (length old.finals)) (λ e r. r) (λ e p. inl p) (λ e q. inr q) first last

  pub adds_block : AddsBlock count place net next old new
  adds_block = record {
    formed = formed;
    finals = whole.finals ∙ finals;
    kept = λ e h. whole.kept e (subst (λ es. Contains es e) (sym edges) h);
    only = λ e h. elim (whole.only e h) [ inl held ↦ inl (subst (λ es. Contains es e) edges held) | inr made ↦ inr made ];
    all = λ e p. whole.all e p;
  }
