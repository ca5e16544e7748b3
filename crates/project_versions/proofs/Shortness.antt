-- What a line asks for is no longer than the line.
use Rattle.std.proofs.Common.{◌≡◌, ℕ, ◌≤◌, ◌==◌, Bool, true, false, List, [], ◌∷◌, length, ◌⊎◌, inl, inr, ap, arith, length-append, if◌then◌else◌}
use Rattle.fsm_io.specs.Lines.{most_line}
use Rattle.reply_meaning.specs.Replies.{without_last, without_return}
use Rattle.edit_script.specs.Commands.{Asks, IsLook, IsNetAndWord, SpellsLook, asks, rests, spaced}
use Rattle.edit_script.specs.declared.looks.Look.{Look}
use Rattle.edit_script.specs.declared.looks.Look.TheVariants as looks
use Rattle.project_versions.specs.Looks.{IsShort}

pub no_longer : (last : ℕ) (bytes : List ℕ) → length (without_last last bytes) ≤ length bytes
no_longer last [] = omega arith
no_longer last (b ∷ []) = at (b == last) where
  at : (t : Bool) → length (if t then [] else b ∷ []) ≤ 1
  at true = omega arith
  at false = omega arith
no_longer last (b ∷ c ∷ bytes) = omega (arith, no_longer last (c ∷ bytes))

pub short_word : (net word rest : List ℕ) → IsNetAndWord net word rest → length word ≤ length rest
short_word net word rest h = by h.words
  where
    by : ((rest ≡ spaced net word) ⊎ ((word ≡ []) × (rest ≡ net))) → length word ≤ length rest
    by (inl is) = omega (arith, ap length is, length-append net (32 ∷ word))
    by (inr is) = omega (arith, ap length is.0)

short_asked : (keyword rest : List ℕ) (look : Look) → length rest ≤ most_line → Asks keyword rest look → IsShort look
short_asked keyword rest (looks.Up net word) short h = omega (arith, short, short_word net word rest h.1)
short_asked keyword rest (looks.Down net word) short h = omega (arith, short, short_word net word rest h.1)
short_asked keyword rest (looks.Gloss net text) short h = omega (arith, short, short_word net text rest h.1)
short_asked keyword rest looks.Rest short h = tt

short_spelling : (text : List ℕ) (look : Look) → length text ≤ most_line → SpellsLook text look → IsShort look
short_spelling text looks.Rest short (rests is) = tt
short_spelling text look short (asks keyword rest is h) = short_asked keyword rest look (omega (arith, short, ap length is, length-append keyword (32 ∷ rest))) h

pub short_look : (line : List ℕ) (look : Look) → IsLook line look → IsShort look
short_look line look is = short_spelling (without_return line) look (omega (arith, is.0.short, no_longer 13 line)) is.1
