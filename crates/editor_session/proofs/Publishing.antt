-- The versions that the published values stand for.
use Rattle.std.proofs.Common.{◌≡◌, ◌++◌, List, [], ◌∷◌, refl, sym, subst, append-nil}
use Rattle.project_sources.specs.Edits.{Version}
use Rattle.project_versions.specs.Versions.{Stands, VersionView}
use Rattle.editor_session.specs.Publishing.{ArePublished, AreStanding}

standing_more : (values : List VersionView) (versions : List Version) (shown : VersionView) (next : Version) → AreStanding values versions → Stands shown next → AreStanding (values ++ shown ∷ []) (versions ++ next ∷ [])
standing_more [] [] shown next are stands = (stands, tt)
standing_more [] (version ∷ versions) shown next are stands = absurd are
standing_more (value ∷ values) [] shown next are stands = absurd are
standing_more (value ∷ values) (version ∷ versions) shown next are stands = (are.0, standing_more values versions shown next are.1 stands)

-- a value more, which stands for a version more
pub published_more : (before after : List VersionView) (versions : List Version) (last new shown : VersionView) (next : Version) → ArePublished before versions last → after ≡ before ++ shown ∷ [] → new ≡ shown → Stands shown next
    → ArePublished after (versions ++ next ∷ []) new
published_more before after versions last new shown next are more is stands =
    subst (λ (l : List VersionView). ArePublished l (versions ++ next ∷ []) new) (sym more)
    (subst (λ (v : VersionView). ArePublished (before ++ shown ∷ []) (versions ++ next ∷ []) v) (sym is) (record { standing = standing_more before versions shown next are.standing stands; ends = (before, refl) }))

-- no value more
pub published_same : (before after : List VersionView) (versions : List Version) (last new : VersionView) → ArePublished before versions last → after ≡ before → new ≡ last → ArePublished after (versions ++ []) new
published_same before after versions last new are same is =
    subst (λ (l : List VersionView). ArePublished l (versions ++ []) new) (sym same)
    (subst (λ (v : VersionView). ArePublished before (versions ++ []) v) (sym is) (subst (λ (l : List Version). ArePublished before l last) (sym (append-nil versions)) are))

-- the one value that is published stands for the one version
pub stands_alone : (values : List VersionView) (loaded : Version) (last : VersionView) → ArePublished values (loaded ∷ []) last → Stands last loaded
stands_alone values loaded last are = alone are.ends.0 (subst (λ (l : List VersionView). AreStanding l (loaded ∷ [])) are.ends.1 are.standing) where
  alone : (front : List VersionView) → AreStanding (front ++ last ∷ []) (loaded ∷ []) → Stands last loaded
  alone [] standing = standing.0
  alone (value ∷ []) standing = absurd standing.1
  alone (value ∷ other ∷ front) standing = absurd standing.1
