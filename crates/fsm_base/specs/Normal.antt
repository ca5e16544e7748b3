-- The text of a source: what its bytes spell, without what editors put in, in Normalization Form C
-- (Unicode Standard Annex 15). A text is the list of its bytes in UTF-8 (RFC 3629), and its characters are
-- the list of their code points.
use Rattle.std.specs.Prelude.{◌≡◌, ℕ, ◌+◌, Bool, not, ◌||◌, ◌&&◌, ◌==◌, nat_eq, List, [], ◌∷◌, take, count_by, Result, Ok, Err, if◌then◌else◌}
use Rattle.std.specs.Char.{is_control}
use Rattle.std.specs.List.{before_first, list_any, starts_with}
use Rattle.std.specs.Str.{chars, encode_utf8_all, is_utf8}
use Rattle.std.specs.Str.Lossy.{utf8_valid_len}
use Rattle.unicode_normalization.specs.Forms.{nfc}
use Rattle.fsm_base.specs.declared.normalize.TextError.{TextError}
use Rattle.fsm_base.specs.declared.normalize.TextError.TheVariants.{NotUtf8, Control, Memory}

-- the text in Normalization Form C
abbrev pub nfc_of : List ℕ → List ℕ
nfc_of text = encode_utf8_all (nfc (chars text))

-- a text grows to eight times its bytes at most: a byte decomposes into two characters at most, and a character has four
-- bytes at most
abbrev pub most_growth : ℕ
most_growth = 8

-- a byte order mark, U+FEFF, is left out where the text begins with it
abbrev pub without_mark : List ℕ → List ℕ
without_mark [] = []
without_mark (c ∷ text) = if c == 0xFEFF then text else c ∷ text

-- a carriage return, 13, is left out where a newline, 10, follows it
abbrev pub without_returns : List ℕ → List ℕ
without_returns [] = []
without_returns (c ∷ text) = if starts_with nat_eq (c ∷ text) (13 ∷ 10 ∷ []) then without_returns text else c ∷ without_returns text

-- a control character, U+0000 to U+001F or U+007F to U+009F, other than tab, 9, and newline
abbrev pub is_refused : ℕ → Bool
is_refused c = is_control c && not (c == 9 || c == 10)

-- the line, counted from 1, of what comes behind this front of a text
abbrev pub line_behind : List ℕ → ℕ
line_behind front = count_by (λ c. c == 10) front + 1

-- the text of these characters, unless one is refused
abbrev pub text_of_characters : List ℕ → Result (List ℕ) TextError
text_of_characters characters =
    if list_any is_refused characters then Err (Control (line_behind (before_first is_refused characters)))
    else Ok (encode_utf8_all (nfc characters))

-- the text of a source, unless its bytes are no UTF-8 or spell a character that is refused
abbrev pub source_text : List ℕ → Result (List ℕ) TextError
source_text bytes =
    if is_utf8 bytes then text_of_characters (without_returns (without_mark (chars bytes)))
    else Err (NotUtf8 (line_behind (take (utf8_valid_len bytes) bytes)))

-- the error says why there is no text. Want of memory says nothing of it
abbrev pub IsWhyNoText : Result (List ℕ) TextError → TextError → Type 0
IsWhyNoText text (NotUtf8 line) = text ≡ Err (NotUtf8 line)
IsWhyNoText text (Control line) = text ≡ Err (Control line)
IsWhyNoText text (Memory refused) = Unit {0}
