-- The cut of a text into tokens: at each place the longest token is taken, behind the blanks and comments that
-- stand there (Beesley and Karttunen, Finite State Morphology, 2003, chapters 2 and 3).
use Rattle.std.specs.Prelude.{◌≡◌, ◌≢◌, ◌≤◌, ◌+◌, ℕ, Bool, true, false, not, ◌==◌, List, [], ◌∷◌, ◌++◌, length, count_by, if◌then◌else◌}
use Rattle.regex_ast.specs.Flags.{IsFlag}
use Rattle.regex_tokens.specs.Bytes.{is_blank, begins_comment}
use Rattle.regex_tokens.specs.Spelling.{Spells}
use Rattle.regex_tokens.specs.declared.comments.Comments.{Comments}
use Rattle.regex_tokens.specs.declared.token.Ending.{Ending}
use Rattle.regex_tokens.specs.declared.token.Ending.TheVariants.{Whole, NoToken}
use Rattle.regex_tokens.specs.declared.token.Place.{Place}
use Rattle.regex_tokens.specs.declared.token.Token.{Token}
use Rattle.regex_tokens.specs.declared.token.Token.TheVariants.{Operator as operator, Quoted as quoted, Braced as braced, Run as run}

abbrev pub newlines : List ℕ → ℕ
newlines text = count_by (λ b. b == 10) text

-- The blanks and comments in front of a text, and what is behind them. A comment goes to the end of its line; `inside` says
-- whether the text begins inside one.
abbrev pub gap_from : Comments → Bool → List ℕ → List ℕ
gap_from marks inside [] = []
gap_from marks false (b ∷ bs) = if is_blank b then b ∷ gap_from marks false bs else if begins_comment marks b then b ∷ gap_from marks true bs else []
gap_from marks true (b ∷ bs) = b ∷ gap_from marks (not (b == 10)) bs

abbrev pub behind_gap_from : Comments → Bool → List ℕ → List ℕ
behind_gap_from marks inside [] = []
behind_gap_from marks false (b ∷ bs) = if is_blank b then behind_gap_from marks false bs else if begins_comment marks b then behind_gap_from marks true bs else b ∷ bs
behind_gap_from marks true (b ∷ bs) = behind_gap_from marks (not (b == 10)) bs

abbrev pub gap : Comments → List ℕ → List ℕ
gap marks text = gap_from marks false text

abbrev pub behind_gap : Comments → List ℕ → List ℕ
behind_gap marks text = behind_gap_from marks false text

-- the longest token that is spelled by a front of the text, which these bytes are
pub record IsLongest (text : List ℕ) (token : Token) (front rest : List ℕ) : Type 0 where
  pub stands : text ≡ front ++ rest
  pub spelled : Spells token front
  pub longest : (other : Token) (longer behind : List ℕ) → text ≡ longer ++ behind → Spells other longer → length longer ≤ length front

-- a quoted text or run that is a flag is no token
abbrev pub IsRefused : Token → Type 0
IsRefused (operator o) = ⊥
IsRefused (quoted text) = IsFlag text
IsRefused (braced characters) = ⊥
IsRefused (run r) = IsFlag r.text

-- The token is the text's first: the longest one, which is then refused where it is a flag, whatever a shorter
-- front may spell.
pub record IsFirst (text : List ℕ) (token : Token) (front rest : List ℕ) : Type 0 where
  pub longest : IsLongest text token front rest
  pub taken : IsRefused token → ⊥

abbrev pub HasNoFirst : List ℕ → Type 0
HasNoFirst text = (token : Token) (front rest : List ℕ) → IsFirst text token front rest → ⊥

-- A text that begins in this line has these tokens, at these places, and they end so.
abbrev pub Cuts : Comments → ℕ → List ℕ → List Token → List Place → Ending → Type 0
Cuts marks line text [] [] Whole = behind_gap marks text ≡ []
Cuts marks line text [] [] (NoToken at) = (behind_gap marks text ≢ []) × HasNoFirst (behind_gap marks text) × (at ≡ line + newlines (gap marks text))
Cuts marks line text (token ∷ tokens) (place ∷ places) ending =
    (front : List ℕ) × (rest : List ℕ) × IsFirst (behind_gap marks text) token front rest
    × (place.line ≡ line + newlines (gap marks text))
    × (place.apart ≡ not (length (gap marks text) == 0))
    × Cuts marks (place.line + newlines front) rest tokens places ending
Cuts marks line text [] (place ∷ places) ending = ⊥
Cuts marks line text (token ∷ tokens) [] ending = ⊥

-- a text is cut in one way
abbrev pub HasOneCut : Type 0
HasOneCut =
    (marks : Comments) (line : ℕ) (text : List ℕ) (tokens others : List Token) (places them : List Place) (ending other : Ending)
    → Cuts marks line text tokens places ending → Cuts marks line text others them other
    → (tokens ≡ others) × (places ≡ them) × (ending ≡ other)
