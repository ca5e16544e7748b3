-- The words of a text, a line at a time.
use Rattle.std.proofs.Common.{◌≡◌, ◌<◌, ◌≤◌, ◌++◌, ◌==◌, ℕ, All, Bool, false, cond, List, [], ◌∷◌, length, take, drop, codes, sym, ap, subst, ◌∙◌, IsUtf8, arith, lit<}
use Rattle.std.specs.Prelude.{chars, encode_utf8}
use Rattle.std.specs.List.{flat_map}
use Rattle.std.specs.Str.{IsCharBoundary, NoCharPasses, NonePass}
use Rattle.std.specs.Str.Pattern.{HasCharAt}
use Rattle.std.proofs.Math.Utf8.{encodes}
use Rattle.std.proofs.lemmas.Bool.Decides.{nat_tests}
use Rattle.std.proofs.lemmas.List.Elements.{All-append, All-weaker}
use Rattle.std.proofs.lemmas.List.{append-nil, append_assoc, length-append, length-drop, take-append-drop}
use Rattle.std.proofs.lemmas.Str.{IsCharBoundary-before_ascii, IsUtf8-append, IsUtf8-drop, IsUtf8-from_ascii, IsUtf8-take, chars-append, chars_from_encodes, chars_past_char, encode_ascii}
use Rattle.std.proofs.lemmas.Str.Ascii.{IsAscii-cons, IsAscii-nil}
use Rattle.interlinear.specs.Glosses.{lines_of}
use Rattle.interlinear.proofs.Pieces.{words_within}
use Rattle.interlinear.specs.Words.{is_among, pieces_from, words_of}
use Rattle.generated_report.specs.Words.{words_in}

abbrev newline : List ℕ
newline = codes "\n"

is_apart : (c : ℕ) → (c == 10) ≡ false → is_among newline c ≡ false
is_apart c apart = grind (arith, nat_tests)

-- characters without a newline stand in the piece
within_piece : (piece cs rest : List ℕ) → NonePass (λ d. d == 10) cs → pieces_from newline piece (cs ++ rest) ≡ pieces_from newline (piece ++ encodes cs) rest
within_piece piece [] rest none = ap (λ (p : List ℕ). pieces_from newline p rest) (sym (append-nil piece))
within_piece piece (c ∷ cs) rest none =
    ap (λ (t : Bool). cond t (piece ∷ pieces_from newline [] (cs ++ rest)) (pieces_from newline (piece ++ encode_utf8 c) (cs ++ rest))) (is_apart c none.0)
    ∙ within_piece (piece ++ encode_utf8 c) cs rest none.1
    ∙ ap (λ (p : List ℕ). pieces_from newline p rest) (append_assoc piece (encode_utf8 c) (encodes cs))

-- the characters before the first newline, and those behind it
characters_cut : (cs ds : List ℕ) → NonePass (λ d. d == 10) cs → pieces_from newline [] (cs ++ 10 ∷ ds) ≡ encodes cs ∷ pieces_from newline [] ds
characters_cut cs ds none = within_piece [] cs (10 ∷ ds) none

-- no piece is longer than this
abbrev pub AreWithin : ℕ → List (List ℕ) → Type 0
AreWithin most pieces = All (λ piece. length piece ≤ most) pieces

-- the first line of a text, and what is behind its newline
pub record IsFirstLine (text line behind : List ℕ) : Type 0 where
  pub words : words_in text ≡ words_of line ++ words_in behind
  pub within : AreWithin (length text) (words_of line)
  pub utf8 : IsUtf8 behind
  pub shorter : length behind < length text

-- what is within less is within more
pub within_more : (few most : ℕ) → few ≤ most → (pieces : List (List ℕ)) → AreWithin few pieces → AreWithin most pieces
within_more few most less pieces within = All-weaker (λ piece. length piece ≤ few) (λ piece. length piece ≤ most) (λ piece h. omega (arith, h, less)) pieces within

-- words behind others
pub within_both : (most : ℕ) (words more new : List (List ℕ)) → new ≡ words ++ more → AreWithin most words → AreWithin most more → AreWithin most new
within_both most words more new is h k = subst (AreWithin most) (sym is) (All-append (λ piece. length piece ≤ most) words more h k)

module _ (text : List ℕ) (utf8 : IsUtf8 text) where
  -- the text without a newline is one line
  pub last_line : NoCharPasses (λ d. d == 10) text → words_in text ≡ words_of text
  last_line (cs, is, none) =
      let same : cs ≡ chars text = chars_from_encodes cs text utf8 is in
      let alone : pieces_from newline [] cs ≡ text ∷ [] = ap (pieces_from newline []) (sym (append-nil cs)) ∙ within_piece [] cs [] none ∙ ap (λ (line : List ℕ). line ∷ []) is in
      ap (flat_map words_of) (ap (pieces_from newline []) (sym same) ∙ alone) ∙ append-nil (words_of text)

  -- and else its first line stands before the first newline
  module _ (line behind : List ℕ) (i j : ℕ) (line_is : line ≡ take i text) (behind_is : behind ≡ drop j text) (at : HasCharAt 10 text i j) where
    split : drop i text ≡ 10 ∷ drop j text
    split = at.split ∙ ap (λ (z : List ℕ). z ++ drop j text) (encode_ascii 10 (lit< tt))

    cut : text ≡ line ++ 10 ∷ behind
    cut =
        sym (take-append-drop i text) ∙ ap (λ (z : List ℕ). z ++ drop i text) (sym line_is)
        ∙ ap (λ (z : List ℕ). line ++ z) (split ∙ ap (λ (z : List ℕ). 10 ∷ z) (sym behind_is))

    within : i < length text
    within = let longer = ap length split in omega (arith, length-drop i text, longer)

    line_utf8 : IsUtf8 line
    line_utf8 = subst IsUtf8 (sym line_is) (IsUtf8-take text i utf8 (IsCharBoundary-before_ascii text i within (let byte = at.byte (lit< tt) in omega (arith, byte))))

    behind_utf8 : IsUtf8 behind
    behind_utf8 = subst IsUtf8 (sym behind_is) (IsUtf8-drop text j utf8 (subst (IsCharBoundary text) (sym at.ends) at.after))

    pub first_line : NoCharPasses (λ d. d == 10) (take i text) → IsFirstLine text line behind
    first_line (cs, is, none) = record {
      words = ap (flat_map words_of) lines;
      within = within_more (length line) (length text) (let lengths = ap length cut in omega (arith, lengths, length-append line (10 ∷ behind))) (words_of line) (words_within line line_utf8);
      utf8 = behind_utf8;
      shorter = (let lengths = ap length cut in omega (arith, lengths, length-append line (10 ∷ behind)));
    }
      where
        front : cs ≡ chars line
        front = chars_from_encodes cs line line_utf8 (is ∙ sym line_is)

        back_utf8 : IsUtf8 (10 ∷ behind)
        back_utf8 = IsUtf8-append (10 ∷ []) behind (IsUtf8-from_ascii (10 ∷ []) (IsAscii-cons 10 [] (lit< tt) IsAscii-nil)) behind_utf8

        characters : chars text ≡ cs ++ 10 ∷ chars behind
        characters =
            ap chars cut ∙ chars-append line (10 ∷ behind) line_utf8 ∙ ap (λ (z : List ℕ). z ++ chars (10 ∷ behind)) (sym front)
            ∙ ap (λ (z : List ℕ). cs ++ z) (chars_past_char (10 ∷ behind) behind 10 back_utf8 (sym (ap (λ (z : List ℕ). z ++ behind) (encode_ascii 10 (lit< tt)))))

        lines : lines_of text ≡ line ∷ lines_of behind
        lines = ap (pieces_from newline []) characters ∙ characters_cut cs (chars behind) none ∙ ap (λ (z : List ℕ). z ∷ lines_of behind) (is ∙ sym line_is)
