-- Strings of pairs as they are written, with blanks between them: atoms `x`, which is `x:x`, and `x:y`, as in a twolc file (Karttunen
-- and Beesley, Two-Level Rule Compiler, 1992). Texts are lists of bytes in UTF-8 (RFC 3629).
use Rattle.std.specs.Prelude.{◌≡◌, ℕ, true, List, [], ◌∷◌, ◌++◌, All, Option, None, Some, ⊤}
use Rattle.regex_ast.specs.declared.expr.Raw.{Raw}
use Rattle.regex_tokens.specs.Bytes.{is_blank}
use Rattle.project_meaning.specs.Grammars.{Letter}
use Rattle.project_meaning.specs.Leaves.{written}
use Rattle.project_meaning.specs.Trees.{Side, one, Pair}
use Rattle.twolc_grammar.specs.Atoms.{symbols_in}
use Rattle.twolc_tokens.specs.Cuts.{HasFlag}
use Rattle.twolc_tokens.specs.Spelling.{IsAtom, sides_of}

-- an atom without a flag whose sides are symbols or one `0`. The name of a set or of a definition is a symbol here
pub record IsPair (atom : List ℕ) (p : Pair Raw) : Type 0 where
  pub spelled : IsAtom atom
  pub plain : ¬ HasFlag atom (sides_of atom)
  pub is : symbols_in atom ≡ Some p

abbrev pub AreBlanks : List ℕ → Type 0
AreBlanks text = All (λ b. is_blank b ≡ true) text

-- the text begins with a blank, or is empty
abbrev pub IsApart : List ℕ → Type 0
IsApart [] = ⊤
IsApart (b ∷ text) = is_blank b ≡ true

-- the text has these pairs: behind each stands a blank, or the end
abbrev pub IsPairString : List ℕ → List (Pair Raw) → Type 0
IsPairString text [] = AreBlanks text
IsPairString text (p ∷ pairs) =
    (blanks : List ℕ) × (atom : List ℕ) × (rest : List ℕ) × (text ≡ blanks ++ (atom ++ rest))
    × AreBlanks blanks × IsPair atom p × IsApart rest × IsPairString rest pairs

-- a pair by the texts of its symbols, none where a side is `0`
abbrev pub text_on : Side Raw → Option (List ℕ)
text_on (one raw) = Some (written raw)
text_on _ = None

abbrev pub letter_of : Pair Raw → Letter
letter_of p = record { up = text_on p.up; low = text_on p.low }
