use Rattle.std.proofs.Common.{ap, arith, length, length-drop}
use Rattle.std.proofs.lemmas.List.{take_rest}
use Rattle.fsm_io.specs.Objects.{SourceView}
use Rattle.fsm_io.proofs.Pieces.{source_gives, nothing_left}
use Rattle.fsm_io.proofs.memory_source.MemorySourceSource.read.Goals as goal

pub returns-clause-bytes : goal.returns-clause-bytes
returns-clause-bytes c =
    let h = c.self.inside in (
      source_gives _ h.bytes.items c.deref-2.result.now _ h.given c.give-count.result (ap (λ (v : SourceView). v.left) c.self.view_is) c.deref-2.ensures.value c.give-count.ensures.copied,
      λ none some. nothing_left h.bytes.items _ (omega (arith, none, c.give-count.ensures.count, c.self.invariant.0, c.requires, ap length (take_rest c.deref-2.result.now h.given), length-drop h.given c.deref-2.result.now, ap length c.deref-2.ensures.value)),
    )
