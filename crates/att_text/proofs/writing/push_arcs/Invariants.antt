use Rattle.std.specs.String.{string_bytes}
use Rattle.att_text.specs.Written.{AddsArcs}
use Rattle.att_text.proofs.writing.push_arcs.Given as goal

abbrev pub invariant-edges : goal.invariant-edges
invariant-edges l = AddsArcs l.alphabet l.place l.edges l.edge-index (string_bytes l.initial.text) (string_bytes l.text) l.initial.states l.states
