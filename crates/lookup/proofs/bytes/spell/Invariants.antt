use Rattle.std.proofs.Common.{◌≡◌, ◌<◌, ◌+◌, ◌^◌, ◌++◌, drop, length}
use Rattle.lookup.specs.Spelling.{chain}
use Rattle.lookup.proofs.bytes.spell.Given as goal

abbrev pub invariant-bytes : goal.invariant-bytes
invariant-bytes l = record {
  edges : l.fn.graph.edges.items ++ chain l.from l.fn.graph.count l.bytes l.to ≡ l.graph.edges.items ++ chain l.node l.graph.count (drop l.byte-index l.bytes) l.to;
  count : l.graph.count ≡ l.fn.graph.count + l.byte-index;
  room : l.graph.count < 2 ^ 63 + length l.graph.edges.items;
}
