-- A project that is generated from a number of stems, and the text that is glossed with it.
use Rattle.std.specs.Prelude.{ℕ, zero, suc, ◌+◌, ◌*◌, ◌/◌, ◌%◌, ◌==◌, ◌||◌, Bool, cond, List, [], ◌∷◌, ◌++◌, codes, slice_index_or}
use Rattle.fsm_io.specs.Folders.{Files}

-- the most stems
unfoldable pub most_stems : ℕ
most_stems = 20000

-- syllable k, counted round from 0 to 49: consonant k/5 and vowel k mod 5
abbrev pub syllable : ℕ → List ℕ
syllable k = slice_index_or (codes "bdfgklmnpr") (k % 50 / 5) 0 ∷ slice_index_or (codes "aeiou") (k % 50 % 5) 0 ∷ []

-- stem i: three syllables, the last of which changes from one stem to the next
abbrev pub stem : ℕ → List ℕ
stem i = syllable (i / 2500) ++ syllable (i / 50) ++ syllable i

-- the entries of the first stems
abbrev pub entries : ℕ → List ℕ
entries zero = []
entries (suc i) = entries i ++ stem i ++ codes " Num ;\n"

-- the three files
abbrev pub manifest : List ℕ
manifest = codes "lexc Lex n.lexc\nxfst r.xfst\n"

abbrev pub lexicon : ℕ → List ℕ
lexicon stems = codes "Multichar_Symbols +N +Sg +Pl\nLEXICON Root\n" ++ entries stems ++ codes "LEXICON Num\n+N+Sg:0 # ;\n+N+Pl:^s # ;\nEND\n"

abbrev pub rules : List ℕ
rules = codes "define Rules o -> {oe} || _ \"^\" s .o. \"^\" -> 0 ;\ndefine Net Lex .o. Rules ;\n"

abbrev pub generated : ℕ → Files
generated stems = (codes "project", manifest) ∷ (codes "n.lexc", lexicon stems) ∷ (codes "r.xfst", rules) ∷ []

-- The text: four words a stem.

-- the plural of a stem
abbrev pub ends_in_o : List ℕ → Bool
ends_in_o [] = Bool.false
ends_in_o (b ∷ []) = b == 111
ends_in_o (a ∷ b ∷ bs) = ends_in_o (b ∷ bs)

abbrev pub plural : List ℕ → List ℕ
plural text = text ++ cond (ends_in_o text) (codes "es") (codes "s")

-- word j of so many stems: of its stem the word itself, the plural, the word itself, and a word that there isn't
abbrev pub by_turn : ℕ → List ℕ → List ℕ
by_turn turn text = cond (turn == 1) (plural text) (cond (turn == 3) (text ++ codes "ss") text)

abbrev pub word : ℕ → ℕ → List ℕ
word stems j = by_turn (j % 4) (stem ((7 * j + 3) % stems))

-- behind a word stands a space, and behind each eighth and the last one a newline
abbrev pub behind : ℕ → ℕ → List ℕ
behind stems j = cond (j % 8 == 7 || j + 1 == 4 * stems) (10 ∷ []) (32 ∷ [])

-- the first words, with what stands behind them
abbrev pub words : ℕ → ℕ → List ℕ
words stems zero = []
words stems (suc j) = words stems j ++ word stems j ++ behind stems j

abbrev pub text : ℕ → List ℕ
text stems = words stems (4 * stems)
