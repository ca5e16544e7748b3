-- Lines of a text and fields of a line, one after another.
use Rattle.std.proofs.Common.{◌≡◌, ◌≢◌, ◌+◌, ◌<◌, ◌==◌, ℕ, false, cond, List, [], ◌∷◌, ◌++◌, length, Option, Some, None, MatchOption, Bor, slice_index_or, refl, sym, subst, ap, ◌∙◌, arith, length-append, get_or, drop, IsUtf8}
use Rattle.std.specs.List.{All, onto_first}
use Rattle.std.proofs.lemmas.Bool.{ne_eqb}
use Rattle.std.proofs.lemmas.List.Elements.{All-head, All-tail, All-from_get_or, All-weaker}
use Rattle.std.proofs.lemmas.List.Splits.{slice_split_at, slice_split_none}
use Rattle.std.proofs.lemmas.List.{append_assoc, drop_at, get_or_at}
use Rattle.std.proofs.lemmas.Str.{IsCharBoundary-after_ascii, IsUtf8-drop}
use Rattle.std.proofs.lemmas.Str.Pattern.{IsSplitOnceResult, split_parts}
use Rattle.att_text.specs.Lines.{lines_of, fields_of}
use Rattle.att_text.specs.Views.{HasNo}

-- what `split_once` says, in these words
pub split_says : (mark : ℕ) → mark < 128 → (text : List ℕ) (r : Option (Bor (List ℕ) × Bor (List ℕ))) → IsSplitOnceResult mark text r → MatchOption r (HasNo mark text) (λ parts. HasNo mark parts.0.now × (text ≡ parts.0.now ++ mark ∷ parts.1.now))
split_says mark small text r h = by r (split_parts mark text r h small)
  where
    by : (r : Option (Bor (List ℕ) × Bor (List ℕ))) → MatchOption r ((i : ℕ) → i < length text → slice_index_or text i 0 ≢ mark) (λ x. (text ≡ x.0.now ++ (mark ∷ x.1.now)) × ((i : ℕ) → i < length x.0.now → slice_index_or x.0.now i 0 ≢ mark))
        → MatchOption r (HasNo mark text) (λ parts. HasNo mark parts.0.now × (text ≡ parts.0.now ++ mark ∷ parts.1.now))
    by None p = All-from_get_or (λ n. n ≢ mark) text 0 p
    by (Some parts) p = (All-from_get_or (λ n. n ≢ mark) parts.0.now 0 p.1, p.0)

-- the line before the first newline
pub lines_at : (line rest : List ℕ) → HasNo 10 line → lines_of (line ++ 10 ∷ rest) ≡ line ∷ lines_of rest
lines_at [] rest none = refl
lines_at (b ∷ bs) rest none =
    ap (λ t. cond t ([] ∷ lines_of (bs ++ 10 ∷ rest)) (onto_first b (lines_of (bs ++ 10 ∷ rest)))) (ne_eqb b 10 (All-head (λ n. n ≢ 10) b bs none))
    ∙ ap (onto_first b) (lines_at bs rest (All-tail (λ n. n ≢ 10) b bs none))

-- a last line without newline
lines_last : (b : ℕ) (bs : List ℕ) → HasNo 10 (b ∷ bs) → lines_of (b ∷ bs) ≡ (b ∷ bs) ∷ []
lines_last b [] none = ap (λ t. cond t ([] ∷ []) (onto_first b [])) (ne_eqb b 10 (All-head (λ n. n ≢ 10) b [] none))
lines_last b (c ∷ bs) none =
    ap (λ t. cond t ([] ∷ lines_of (c ∷ bs)) (onto_first b (lines_of (c ∷ bs)))) (ne_eqb b 10 (All-head (λ n. n ≢ 10) b (c ∷ bs) none))
    ∙ ap (onto_first b) (lines_last c bs (All-tail (λ n. n ≢ 10) b (c ∷ bs) none))

pub line_alone : (text : List ℕ) → 0 < length text → HasNo 10 text → lines_of text ≡ text ∷ []
line_alone [] some none = absurd (omega arith)
line_alone (b ∷ bs) some none = lines_last b bs none

pub line_first : (text line rest : List ℕ) → HasNo 10 line → text ≡ line ++ 10 ∷ rest → lines_of text ≡ line ∷ lines_of rest
line_first text line rest none is = ap lines_of is ∙ lines_at line rest none

pub shorter_behind : (text line rest : List ℕ) (mark : ℕ) → text ≡ line ++ mark ∷ rest → length rest < length text
shorter_behind text line rest mark is = let long = ap length is ∙ length-append line (mark ∷ rest) in omega arith

-- fields
apart : (mark : ℕ) (bytes : List ℕ) → HasNo mark bytes → All (λ b. (b == mark) ≡ false) bytes
apart mark bytes none = All-weaker (λ b. b ≢ mark) (λ b. (b == mark) ≡ false) (λ b ne. ne_eqb b mark ne) bytes none

pub field_first : (line field rest : List ℕ) → HasNo 9 field → line ≡ field ++ 9 ∷ rest → fields_of line ≡ field ∷ fields_of rest
field_first line field rest none is = ap fields_of is ∙ slice_split_at (λ b. b == 9) field 9 rest (apart 9 field none) refl

pub field_alone : (line : List ℕ) → HasNo 9 line → fields_of line ≡ line ∷ []
field_alone line none = slice_split_none (λ b. b == 9) line (apart 9 line none)

-- what stands behind a newline is text
pub utf8_behind : (text line rest : List ℕ) → IsUtf8 text → text ≡ line ++ 10 ∷ rest → IsUtf8 rest
utf8_behind text line rest utf8 is =
    let long : length text ≡ length line + length (10 ∷ rest) = ap length is ∙ length-append line (10 ∷ rest) in
    let within : length line < length text = omega arith in
    let byte : get_or text (length line) 0 ≡ 10 = ap (λ t. get_or t (length line) 0) is ∙ get_or_at line 10 rest 0 (length line) refl in
    let small : get_or text (length line) 0 < 128 = omega (arith, byte) in
    let cut : drop (length line + 1) text ≡ rest = ap (drop (length line + 1)) (is ∙ sym (append_assoc line (10 ∷ []) rest)) ∙ drop_at (line ++ 10 ∷ []) rest (length line + 1) (length-append line (10 ∷ [])) in
    subst IsUtf8 cut (IsUtf8-drop text (length line + 1) utf8 (IsCharBoundary-after_ascii text (length line) utf8 within small))
