-- The tokens of a lexc text (Beesley and Karttunen, Finite State Morphology, 2003, chapter 4), over its characters: words, `;` and
-- expressions `<EXPRESSION>`.
use Rattle.std.specs.Prelude.{◌≡◌, ◌≢◌, ◌+◌, ◌==◌, ◌&&◌, ◌||◌, ℕ, Bool, true, false, not, List, [], ◌∷◌, take, drop, Option, None, Some, if◌then◌else◌}
use Rattle.std.specs.Str.{encode_utf8_all}
use Rattle.regex_tokens.specs.Bytes.{begins, is_blank}
use Rattle.regex_tokens.specs.Cuts.{behind_gap}
use Rattle.regex_tokens.specs.declared.comments.Comments.TheVariants.{OfEntries}
use Rattle.lexc_forms.specs.declared.letters.Letter.{Letter}
use Rattle.lexc_forms.specs.declared.letters.Letter.TheVariants.{Plain, Escaped}
use Rattle.lexc_tokens.specs.declared.expressions.Inside.{Inside}
use Rattle.lexc_tokens.specs.declared.expressions.Inside.TheVariants.{Nothing, Escape, Quotes, Braces, BracedEscape, Comment}
use Rattle.lexc_tokens.specs.declared.token.Token.{Token}
use Rattle.lexc_tokens.specs.declared.token.Token.TheVariants.{Word as word, Semicolon as semicolon, Expression as expression}

-- Words.

-- a character that may stand in a word without an escape: no blank, `;`, `!` or `%`
abbrev pub is_plain : ℕ → Bool
is_plain c = not (is_blank c || (c == 59 || (c == 33 || c == 37)))

-- what `%` escapes: any but tab and newline
abbrev pub is_escapable : ℕ → Bool
is_escapable c = not (c == 9 || c == 10)

-- the letter that begins a text, and how many characters it has
abbrev pub escaped_front : List ℕ → Option (Letter × ℕ)
escaped_front [] = None
escaped_front (c ∷ cs) = if is_escapable c then Some (Escaped c, 2) else None

abbrev pub letter_front : List ℕ → Option (Letter × ℕ)
letter_front [] = None
letter_front (c ∷ cs) = if is_plain c then Some (Plain c, 1) else if c == 37 then escaped_front cs else None

-- a text begins with these letters, one after another, and none is behind them
abbrev pub IsWord : List ℕ → List Letter → List ℕ → Type 0
IsWord text [] rest = (letter_front text ≡ None) × (rest ≡ text)
IsWord text (letter ∷ letters) rest = (n : ℕ) × (letter_front text ≡ Some (letter, n)) × IsWord (drop n text) letters rest

-- Expressions.

-- what the text behind a character of an expression is inside of, by what that character is inside of. In quotes `%`
-- stands for itself, and a comment ends with its line
abbrev pub behind : Inside → ℕ → Inside
behind Nothing c = if c == 37 then Escape else if c == 34 then Quotes else if c == 123 then Braces else if c == 33 then Comment else Nothing
behind Escape c = Nothing
behind Quotes c = if c == 34 then Nothing else Quotes
behind Braces c = if c == 37 then BracedEscape else if c == 125 then Nothing else Braces
behind BracedEscape c = Braces
behind Comment c = if c == 10 then Nothing else Comment

-- a `>` that isn't escaped, in quotes or in a comment
abbrev pub is_end : Inside → ℕ → Bool
is_end Nothing c = c == 62
is_end Braces c = c == 62
is_end _ c = false

-- how many characters stand before the `>` that ends an expression, or all where none does
abbrev pub inner_len : Inside → List ℕ → ℕ
inner_len inside [] = 0
inner_len inside (c ∷ cs) = if is_end inside c then 0 else 1 + inner_len (behind inside c) cs

-- Tokens.

abbrev pub begins_expression : Bool → List ℕ → Bool
begins_expression opens text = opens && begins (λ c. c == 60) text

-- the token begins the text, and this is behind it. A `<` begins an expression where `opens` says so, which ends with the
-- text where no `>` does end it
abbrev pub Stands : Bool → List ℕ → Token → List ℕ → Type 0
Stands opens text (word letters) rest = (letters ≢ []) × (begins_expression opens text ≡ false) × IsWord text letters rest
Stands opens text semicolon rest = text ≡ 59 ∷ rest
Stands opens text (expression e) rest =
    (opens ≡ true) × (inner : List ℕ) × (text ≡ 60 ∷ inner) × (e ≡ encode_utf8_all (take (inner_len Nothing inner) inner)) × (rest ≡ drop (inner_len Nothing inner + 1) inner)

abbrev pub NoneStands : Bool → List ℕ → Type 0
NoneStands opens text = (token : Token) (rest : List ℕ) → Stands opens text token rest → ⊥

-- what is behind the blanks and comments in front of a text
abbrev pub behind_blanks : List ℕ → List ℕ
behind_blanks text = behind_gap OfEntries text

-- this token comes next, and this is behind it
abbrev pub Follows : Bool → List ℕ → Token → List ℕ → Type 0
Follows opens text token rest = Stands opens (behind_blanks text) token rest

-- a place where no token begins comes next
abbrev pub NoneFollows : Bool → List ℕ → Type 0
NoneFollows opens text = (behind_blanks text ≢ []) × NoneStands opens (behind_blanks text)
