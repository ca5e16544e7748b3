use Rattle.std.proofs.Common.{◌≡◌, ◌<◌, ◌+◌, ◌^◌, List, IsUtf8, length, take}
use Rattle.std.specs.List.{Contains}
use Rattle.fsa.specs.declared.automaton.Edge.{Edge}
use Rattle.fsm_base.specs.declared.letters.Sym.{Sym}
use Rattle.lookup.specs.Spelling.{text_on}
use Rattle.lookup.proofs.Spelled.{IsSpelled, Rest}
use Rattle.lookup.proofs.bytes.spelled.Given as goal

abbrev pub invariant-loop-edge : goal.invariant-loop-edge
invariant-loop-edge l = record {
  rests : List Rest;
  count : l.graph.count ≡ l.count + length rests;
  room : l.graph.count < 2 ^ 63 + length l.graph.edges.items;
  spelled : IsSpelled l.alphabet l.count (take l.edge-index l.edges) rests l.graph.edges.items;
  utf8 : (e : Edge Sym) → Contains (take l.edge-index l.edges) e → IsUtf8 (text_on l.alphabet e.letter);
}
