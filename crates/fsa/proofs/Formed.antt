-- Each change to an automaton keeps it well formed.
use Rattle.std.proofs.Common.{◌+◌, ◌<◌, List, [], ◌∷◌, ◌++◌, Bool, length, subst, inl, inr, arith}
use Rattle.std.proofs.lemmas.List.Elements.{Contains-push_cases}
use Rattle.fsa.specs.Automaton.{Automaton, IsWellFormed}
use Rattle.fsa.specs.declared.automaton.Edge.{Edge}

pub IsWellFormed-add_edge : {L : Type 0} (m : Automaton L) (e : Edge L) → IsWellFormed m → e.from < length m.finals → e.to < length m.finals → IsWellFormed (record m { edges = m.edges ++ e ∷ [] })
IsWellFormed-add_edge {L} m e ok from to = record {
  start = ok.start;
  within = λ x h. elim (Contains-push_cases m.edges e x h) [
    | inl old ↦ ok.within x old
    | inr same ↦ let P : Edge L → Type 0 = λ y. (y.from < length m.finals) × (y.to < length m.finals) in subst P same (from, to)
  ];
}

pub IsWellFormed-longer : {L : Type 0} (m : Automaton L) (finals : List Bool) → IsWellFormed m → length m.finals < length finals + 1 → IsWellFormed (record m { finals = finals })
IsWellFormed-longer m finals ok h = record {
  start = let s = ok.start in omega arith;
  within = λ e c. let r = ok.within e c in (omega arith, omega arith);
}
