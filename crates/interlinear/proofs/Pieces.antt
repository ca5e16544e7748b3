-- A text has no more lines than bytes, and one more; and no word with more bytes.
use Rattle.std.proofs.Common.{◌≡◌, ℕ, ◌+◌, ◌≤◌, Bool, true, false, List, [], ◌∷◌, ◌++◌, length, All, ap, arith, IsUtf8}
use Rattle.std.specs.Prelude.{chars, codes, encode_utf8, if◌then◌else◌}
use Rattle.std.proofs.Math.Utf8.{encodes}
use Rattle.std.proofs.lemmas.List.{length-append}
use Rattle.std.proofs.lemmas.List.Elements.{All-cons, All-filter, All-nil, All-weaker}
use Rattle.std.proofs.lemmas.Str.{length-le-encodes, encodes-chars}
use Rattle.interlinear.specs.Words.{between_words, is_among, is_some, pieces_from, pieces_of, words_of}
use Rattle.interlinear.specs.Glosses.{lines_of}

few_pieces : (ends piece cs : List ℕ) → length (pieces_from ends piece cs) ≤ length cs + 1
few_pieces ends piece [] = omega arith
few_pieces ends piece (c ∷ cs) = by (is_among ends c) (few_pieces ends [] cs) (few_pieces ends (piece ++ encode_utf8 c) cs)
  where
    by : (test : Bool) → length (pieces_from ends [] cs) ≤ length cs + 1 → length (pieces_from ends (piece ++ encode_utf8 c) cs) ≤ length cs + 1
        → length (if test then piece ∷ pieces_from ends [] cs else pieces_from ends (piece ++ encode_utf8 c) cs) ≤ length (c ∷ cs) + 1
    by true apart on = omega arith
    by false apart on = omega arith

pub few_lines : (text : List ℕ) → IsUtf8 text → length (lines_of text) ≤ length text + 1
few_lines text utf8 =
    let pieces = few_pieces (codes "\n") [] (chars text) in
    let characters = length-le-encodes (chars text) in
    let same : length (encodes (chars text)) ≡ length text = ap length (encodes-chars text utf8) in
    omega arith

-- it has so many bytes at most
abbrev pub IsWithin : ℕ → List ℕ → Type 0
IsWithin most piece = length piece ≤ most

-- what the characters behind a piece add to it
abbrev grown : List ℕ → List ℕ → ℕ
grown piece cs = length piece + length (encodes cs)

pieces_within : (ends piece cs : List ℕ) → All (IsWithin (grown piece cs)) (pieces_from ends piece cs)
pieces_within ends piece [] = All-cons (IsWithin (grown piece [])) piece [] (omega arith) (All-nil (IsWithin (grown piece [])))
pieces_within ends piece (c ∷ cs) = by (is_among ends c) (pieces_within ends [] cs) (pieces_within ends (piece ++ encode_utf8 c) cs)
  where
    longer : length (encodes (c ∷ cs)) ≡ length (encode_utf8 c) + length (encodes cs)
    longer = length-append (encode_utf8 c) (encodes cs)

    by : (test : Bool) → All (IsWithin (grown [] cs)) (pieces_from ends [] cs) → All (IsWithin (grown (piece ++ encode_utf8 c) cs)) (pieces_from ends (piece ++ encode_utf8 c) cs)
        → All (IsWithin (grown piece (c ∷ cs))) (if test then piece ∷ pieces_from ends [] cs else pieces_from ends (piece ++ encode_utf8 c) cs)
    by true apart on =
        All-cons (IsWithin (grown piece (c ∷ cs))) piece (pieces_from ends [] cs) (omega arith)
        (All-weaker (IsWithin (grown [] cs)) (IsWithin (grown piece (c ∷ cs))) (λ p within. omega (arith, within, longer)) (pieces_from ends [] cs) apart)
    by false apart on =
        All-weaker (IsWithin (grown (piece ++ encode_utf8 c) cs)) (IsWithin (grown piece (c ∷ cs))) (λ p within. omega (arith, within, longer, length-append piece (encode_utf8 c)))
        (pieces_from ends (piece ++ encode_utf8 c) cs) on

pub words_within : (text : List ℕ) → IsUtf8 text → All (IsWithin (length text)) (words_of text)
words_within text utf8 =
    let same : length (encodes (chars text)) ≡ length text = ap length (encodes-chars text utf8) in
    All-filter is_some (IsWithin (length text)) (pieces_of between_words text)
    (All-weaker (IsWithin (grown [] (chars text))) (IsWithin (length text)) (λ p within. omega (arith, within, same)) (pieces_of between_words text) (pieces_within between_words [] (chars text)))
