-- The versions that an editor publishes.
use Rattle.std.specs.Prelude.{List, [], ◌∷◌}
use Rattle.project_sources.specs.Edits.{Version}
use Rattle.project_versions.specs.Versions.{Stands, VersionView}
use Rattle.publish_board.specs.Boards.{EndsWith}

-- the published values stand for these versions, one for one
abbrev pub AreStanding : List VersionView → List Version → Type 0
AreStanding [] [] = Unit {0}
AreStanding [] (version ∷ versions) = ⊥
AreStanding (shown ∷ more) [] = ⊥
AreStanding (shown ∷ more) (version ∷ versions) = Stands shown version × AreStanding more versions

-- the values that are published stand for these versions, and the last one is this
pub record ArePublished (values : List VersionView) (versions : List Version) (last : VersionView) : Type 0 where
  pub standing : AreStanding values versions
  pub ends : EndsWith values last
