-- The lines of a content, counted off from its front, and written again.
use Rattle.std.specs.Prelude.{◌≡◌, ◌≤◌, ◌+◌, ◌-◌, ◌⊎◌, ◌++◌, ℕ, List, [], ◌∷◌, drop, length, take}
use Rattle.std.specs.List.{flat_map}
use Rattle.project_manifest.specs.Manifests.{lines_of}
use Rattle.project_sources.specs.Edits.{IsBadSplice, spliced}

-- lines, each with its newline
abbrev pub written : List (List ℕ) → List ℕ
written lines = flat_map (λ line. line ++ 10 ∷ []) lines

-- so many lines stand before the rest. Whatever stood there in place of the rest, they would be the same, unless it is the end
-- that ended the last of them
pub record Passes (content rest : List ℕ) (count : ℕ) : Type 0 where
  pub front : List ℕ
  pub whole : content ≡ front ++ rest
  pub lines : List (List ℕ)
  pub many : length lines ≡ count
  pub split : lines_of content ≡ lines ++ lines_of rest
  pub alone : lines_of front ≡ lines
  pub closed : (rest ≡ []) ⊎ ((more : List ℕ) → lines_of (front ++ more) ≡ lines ++ lines_of more)

-- the first lines, so many, and the others
pub record IsSplit (content : List ℕ) (count : ℕ) (front rest : List ℕ) : Type 0 where
  pub enough : count ≤ length (lines_of content)
  pub front_is : lines_of front ≡ take count (lines_of content)
  pub rest_is : lines_of rest ≡ drop count (lines_of content)

-- the lines before those that are replaced, and those behind
pub record AreAround (content : List ℕ) (from count : ℕ) (front rest : List ℕ) : Type 0 where
  pub good : IsBadSplice from count content → ⊥
  pub front_is : lines_of front ≡ take (from - 1) (lines_of content)
  pub rest_is : lines_of rest ≡ drop (from - 1 + count) (lines_of content)

-- the splice is no bad one, and this is what it makes
pub record IsSpliced (content : List ℕ) (from count : ℕ) (bytes new : List ℕ) : Type 0 where
  pub good : IsBadSplice from count content → ⊥
  pub is : new ≡ spliced from count bytes content
