-- Bytes of a text and what they may stand in (Beesley and Karttunen, Finite State Morphology, 2003,
-- chapter 2). A text is the list of its bytes in UTF-8 (RFC 3629).
use Rattle.std.specs.Prelude.{ℕ, Bool, false, not, ◌&&◌, ◌||◌, ◌==◌, nat_le, nat_lt, List, [], ◌∷◌, codes}
use Rattle.std.specs.List.{list_any, list_all}
use Rattle.regex_tokens.specs.declared.comments.Comments.{Comments}
use Rattle.regex_tokens.specs.declared.comments.Comments.TheVariants.{OfDefinitions, OfEntries}

-- space, tab and newline
abbrev pub is_blank : ℕ → Bool
is_blank b = b == 32 || (b == 9 || b == 10)

-- `!`, and in a file of definitions `#`
abbrev pub begins_comment : Comments → ℕ → Bool
begins_comment OfDefinitions b = b == 33 || b == 35
begins_comment OfEntries b = b == 33

-- operators, brackets, what begins a comment, quotes, `@` and the escape `%`
abbrev pub special : List ℕ
special = codes "[](){}|/\\&-~$*+^:;,?_.<>=!#@\"%"

-- a byte of a run: any but blanks and the special ones, so each byte of a character above U+007F too
abbrev pub is_run_byte : ℕ → Bool
is_run_byte b = not (is_blank b) && not (list_any (λ s. s == b) special)

-- a byte with which neither a run, quotes nor braces begin
abbrev pub is_sign : ℕ → Bool
is_sign b = not (b == 34 || (b == 123 || (b == 37 || is_run_byte b)))

-- what `%` escapes: any but tab and newline
abbrev pub is_escapable : ℕ → Bool
is_escapable b = not (b == 9 || b == 10)

-- a byte between quotes: any but `"`, the backslash, tab and newline
abbrev pub is_quoted_byte : ℕ → Bool
is_quoted_byte b = not (b == 34 || (b == 92 || (b == 9 || b == 10)))

-- a byte between braces, with no escape: any but `}`, `%`, tab and newline
abbrev pub is_braced_byte : ℕ → Bool
is_braced_byte b = not (b == 125 || (b == 37 || (b == 9 || b == 10)))

-- a byte that goes on with a character
abbrev pub is_continuing : ℕ → Bool
is_continuing b = nat_le 128 b && nat_lt b 192

-- one character: its first byte, and those that go on with it
abbrev pub is_character : List ℕ → Bool
is_character [] = false
is_character (b ∷ bs) = not (is_continuing b) && list_all is_continuing bs

-- the list has a first element, and it passes
abbrev pub begins : {X : Type 0} → (X → Bool) → List X → Bool
begins p [] = false
begins p (x ∷ xs) = p x
