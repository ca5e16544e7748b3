use Rattle.std.proofs.Common.{◌≡◌, ℕ, List, ◌∷◌, Option, ◌≤◌, length}
use Rattle.std.specs.Arc.{arc_value}
use Rattle.fsm_io.specs.Reading.{size_of}
use Rattle.project_sources.specs.Edits.{Version}
use Rattle.project_versions.specs.Versions.{Stands}
use Rattle.editor_session.specs.Keeping.{batch_of}
use Rattle.editor_session.specs.Publishing.{ArePublished}
use Rattle.editor_session.specs.Running.{Sofar}
use Rattle.editor_session.proofs.session.EditorSession.answer_all.Given as goal

-- every command so far has its reply, and the versions that these made are published
abbrev pub invariant-commands : goal.invariant-commands
invariant-commands g l = record {
  number : (arc_value l.self.version).number ≡ length l.editor.values;
  board : l.editor.board ≡ l.fn.editor.board;
  sofar : (loaded present : Version) (made : List Version) (budget : ℕ) (left0 held0 : Option (List ℕ)) → Stands (arc_value l.fn.self.version) present → ArePublished l.fn.editor.values (loaded ∷ made) (arc_value l.fn.self.version)
      → Sofar loaded present made (batch_of l.fn.self.batch) budget left0 (g.I.Source.left l.fn.input) held0 (g.O.Sink.held l.fn.output) l.fn.self.lines
      → (now : Version) × (all : List Version) × Stands (arc_value l.self.version) now × ArePublished l.editor.values (loaded ∷ all) (arc_value l.self.version)
      × Sofar loaded now all (batch_of l.self.batch) budget left0 (g.I.Source.left l.input) held0 (g.O.Sink.held l.output) l.self.lines;
  later_input : g.I.Source.faults l.fn.input ≤ g.I.Source.faults l.input;
  later_output : g.O.Sink.faults l.fn.output ≤ g.O.Sink.faults l.output;
}

abbrev pub decreases-commands : goal.decreases-commands
decreases-commands g l = size_of l.self.lines
