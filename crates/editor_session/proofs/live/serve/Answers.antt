use Rattle.std.proofs.Common.{◌≡◌, ◌∷◌, [], ◌∙◌, ℕ, List, All, sym, subst, ap}
use Rattle.std.specs.Arc.{arc_value}
use Rattle.fsm_io.specs.Reading.{LinesView, at_start}
use Rattle.editor_session.specs.Running.{IsLoadedLine}
use Rattle.project_versions.specs.Versions.{Stands, VersionView}
use Rattle.publish_board.specs.Boards.{Seated, seated}
use Rattle.editor_session.specs.Live.{IsLive}
use Rattle.editor_session.proofs.Living.{all_begin, first_published, served_from}
use Rattle.editor_session.proofs.live.serve.Goals as goal

pub work_all-requires-clause-begun : goal.work_all-requires-clause-begun
work_all-requires-clause-begun g c κs o =
    let editor = c.in_ok-editor.editor in
    let seat = seated editor.board editor.values 0 in
    let seats = subst (λ (values : List VersionView). All (λ (s : Seated VersionView). s ≡ seated editor.board values 0) c.in_ok-editor.seats.items) (sym c.in_ok-editor.ensures.editor) c.in_ok-editor.ensures.seats in
    let budget = ap (λ (l : LinesView). l.budget) c.in_ok-lines.ensures.start in
    let rows = subst (λ (b : ℕ). All (λ (l : LinesView). l ≡ at_start b) c.in_ok-rows.rows.items) (sym budget) c.in_ok-rows.ensures.1 in
    all_begin seat c.in_ok-lines.lines.budget c.args.lanes.now c.sit_all.new.lanes (c.sit_all.ensures seat c.in_ok-lines.lines.budget seats rows)

pub returns-clause-live : goal.returns-clause-live
returns-clause-live g c loaded stands =
    let editor = c.in_ok-editor.editor in
    let seat = seated editor.board editor.values 0 in
    let seats = subst (λ (values : List VersionView). All (λ (s : Seated VersionView). s ≡ seated editor.board values 0) c.in_ok-editor.seats.items) (sym c.in_ok-editor.ensures.editor) c.in_ok-editor.ensures.seats in
    let budget = ap (λ (l : LinesView). l.budget) c.in_ok-lines.ensures.start in
    let shown : arc_value c.in_ok-version.version ≡ c.args.version = c.in_ok-version.ensures.ok in
    let values : editor.values ≡ arc_value c.in_ok-version.version ∷ [] = c.in_ok-editor.ensures.editor ∙ ap (λ (v : VersionView). v ∷ []) c.in_ok-first.ensures in
    let published = first_published editor.values (arc_value c.in_ok-version.version) loaded values (subst (λ (v : VersionView). Stands v loaded) (sym shown) stands) in
    let line = subst (IsLoadedLine loaded) (sym c.deref.ensures.value) (c.in_ok-line.ensures loaded stands) in
    let w = c.work_all.ensures.live loaded published line in
    let live = subst (λ (b : ℕ). IsLive loaded b (g.I.Source.left c.args.input.now) (g.I.Source.left c.work_all.new.input) (g.O.Sink.held c.args.output.now) (g.O.Sink.held c.work_all.new.output) w.0 c.sit_all.new.lanes c.work_all.new.lanes w.1) budget w.3 in (
      w.0,
      w.1,
      w.2,
      record {
        made = live.made;
        edited = live.edited;
        served = served_from seat c.args.budget (loaded ∷ live.made) c.args.lanes.now c.sit_all.new.lanes c.work_all.new.lanes w.1 (c.sit_all.ensures seat c.args.budget seats c.in_ok-rows.ensures.1) live.served;
      },
      w.4,
    )
