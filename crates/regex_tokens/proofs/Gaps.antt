-- The blanks and comments in front of a text.
use Rattle.std.proofs.Common.{◌≡◌, ◌≤◌, ◌<◌, ℕ, ◌+◌, ◌-◌, Bool, true, false, cond, not, ◌==◌, List, [], ◌∷◌, ◌++◌, length, take, drop, Some, None, refl, sym, ap, subst, ◌∙◌, arith, length-append}
use Rattle.std.specs.List.{prefix_len}
use Rattle.std.specs.Str.{IsUtf8, IsCharBoundary}
use Rattle.std.proofs.lemmas.Str.{IsCharBoundary-after_ascii}
use Rattle.std.proofs.lemmas.List.Sums.{prefix_len-le-length}
use Rattle.std.proofs.lemmas.Bool.Decides.{Decides-eqb, nat_tests}
use Rattle.regex_tokens.specs.Bytes.{begins, is_blank, begins_comment}
use Rattle.regex_tokens.specs.Cuts.{gap_from, behind_gap_from, gap, behind_gap}
use Rattle.regex_tokens.specs.Reading.{gap_step, left}
use Rattle.regex_tokens.proofs.Lists.{drop-prefix_len, begins-left}
use Rattle.regex_tokens.proofs.Utf8.{blank_is_ascii, boundary_by}
use Rattle.regex_tokens.specs.declared.comments.Comments.{Comments}

module _ (marks : Comments) where
  -- a gap and what is behind it make up the text
  pub gap-behind : (inside : Bool) (text : List ℕ) → gap_from marks inside text ++ behind_gap_from marks inside text ≡ text
  gap-behind true [] = refl
  gap-behind false [] = refl
  gap-behind true (b ∷ bs) = ap (λ xs. b ∷ xs) (gap-behind (not (b == 10)) bs)
  gap-behind false (b ∷ bs) = by (is_blank b) (begins_comment marks b) (gap-behind false bs) (gap-behind true bs)
    where
      by : (blank comment : Bool) → gap_from marks false bs ++ behind_gap_from marks false bs ≡ bs → gap_from marks true bs ++ behind_gap_from marks true bs ≡ bs → cond blank (b ∷ gap_from marks false bs) (cond comment (b ∷ gap_from marks true bs) []) ++ cond blank (behind_gap_from marks false bs) (cond comment (behind_gap_from marks true bs) (b ∷ bs)) ≡ b ∷ bs
      by true comment plain inside = ap (λ xs. b ∷ xs) plain
      by false true plain inside = ap (λ xs. b ∷ xs) inside
      by false false plain inside = refl

  abbrev no_newline : ℕ → Bool
  no_newline b = not (b == 10)

  -- behind a comment the gap goes on at the end of its line
  comment_ends : (text : List ℕ) → behind_gap_from marks true text ≡ behind_gap_from marks false (left no_newline text)
  comment_ends [] = refl
  comment_ends (b ∷ bs) = by (b == 10) refl (comment_ends bs)
    where
      by : (newline : Bool) → (b == 10) ≡ newline → behind_gap_from marks true bs ≡ behind_gap_from marks false (left no_newline bs) → behind_gap_from marks (not newline) bs ≡ behind_gap_from marks false (cond (not newline) (left no_newline bs) (b ∷ bs))
      by true is more = let blank : is_blank b ≡ true = ap is_blank ((Decides-eqb b 10).0 is) in rw blank refl
      by false is more = more

  pub record Step (text : List ℕ) (n : ℕ) : Type 0 where
    pub some : 0 < n
    pub same : behind_gap marks text ≡ behind_gap marks (drop n text)
    pub cut : IsCharBoundary text n

  line_stops : (b : ℕ) → not (b == 10) ≡ false → b < 128
  line_stops b e = grind (arith, nat_tests)

  line_boundary : (text : List ℕ) → IsCharBoundary text (prefix_len no_newline text)
  line_boundary text = boundary_by text (prefix_len no_newline text) (prefix_len-le-length no_newline text) (λ b bs e. line_stops b (sym (ap (begins no_newline) (sym (drop-prefix_len no_newline text) ∙ e)) ∙ begins-left no_newline text))

  comment_is_no_newline : (b : ℕ) → begins_comment marks b ≡ true → no_newline b ≡ true
  comment_is_no_newline b e = grind (arith, nat_tests)

  comment_step : (b : ℕ) (bs : List ℕ) → is_blank b ≡ false → begins_comment marks b ≡ true → Step (b ∷ bs) (prefix_len no_newline (b ∷ bs))
  comment_step b bs blank comment =
      let here : no_newline b ≡ true = comment_is_no_newline b comment in
      let size : prefix_len no_newline (b ∷ bs) ≡ 1 + prefix_len no_newline bs = rw here refl in
      let inside : behind_gap marks (b ∷ bs) ≡ behind_gap_from marks true bs = rw (blank, comment) refl in
      let line : left no_newline (b ∷ bs) ≡ left no_newline bs = rw here refl in
      record {
        some = omega (arith, size);
        same = inside ∙ comment_ends bs ∙ sym (ap (behind_gap marks) (drop-prefix_len no_newline (b ∷ bs) ∙ line));
        cut = line_boundary (b ∷ bs);
      }

  blank_step : (b : ℕ) (bs : List ℕ) → IsUtf8 (b ∷ bs) → is_blank b ≡ true → Step (b ∷ bs) 1
  blank_step b bs utf8 blank = record {
    some = omega arith;
    same = rw blank refl;
    cut = let small : b < 128 = blank_is_ascii b blank in IsCharBoundary-after_ascii (b ∷ bs) 0 utf8 (omega arith) small;
  }

  pub step_some : (text : List ℕ) (n : ℕ) → IsUtf8 text → gap_step marks text ≡ Some n → Step text n
  step_some [] n utf8 e = absurd cc
  step_some (b ∷ bs) n utf8 e = by (is_blank b) (begins_comment marks b) refl refl e
    where
      by : (blank comment : Bool) → is_blank b ≡ blank → begins_comment marks b ≡ comment → cond blank (Some 1) (cond comment (Some (prefix_len no_newline (b ∷ bs))) None) ≡ Some n → Step (b ∷ bs) n
      by true comment is is_comment e = let same : 1 ≡ n = some_same e in subst (Step (b ∷ bs)) same (blank_step b bs utf8 is)
        where
          some_same : Some 1 ≡ Some n → 1 ≡ n
          some_same e = cc
      by false true is is_comment e = let same : prefix_len no_newline (b ∷ bs) ≡ n = some_same e in subst (Step (b ∷ bs)) same (comment_step b bs is is_comment)
        where
          some_same : Some (prefix_len no_newline (b ∷ bs)) ≡ Some n → prefix_len no_newline (b ∷ bs) ≡ n
          some_same e = cc
      by false false is is_comment e = absurd cc

  pub step_none : (text : List ℕ) → gap_step marks text ≡ None → behind_gap marks text ≡ text
  step_none [] e = refl
  step_none (b ∷ bs) e = by (is_blank b) (begins_comment marks b) e
    where
      by : (blank comment : Bool) → cond blank (Some 1) (cond comment (Some (prefix_len no_newline (b ∷ bs))) None) ≡ None → cond blank (behind_gap_from marks false bs) (cond comment (behind_gap_from marks true bs) (b ∷ bs)) ≡ b ∷ bs
      by true comment e = absurd cc
      by false true e = absurd cc
      by false false e = refl

  -- the gap is what is in front of what is behind it
  pub gap_is : (text behind : List ℕ) (n : ℕ) → behind ≡ behind_gap marks text → n ≡ length text - length behind → take n text ≡ gap marks text
  gap_is text behind n e size =
      let whole : gap marks text ++ behind ≡ text = ap (λ bs. gap marks text ++ bs) e ∙ gap-behind false text in
      let count : n ≡ length (gap marks text) = omega (arith, ap length whole, length-append (gap marks text) behind, size) in
      ap (λ k. take k text) count ∙ sym (ap (take (length (gap marks text))) whole) ∙ take-front (gap marks text) behind
    where
      take-front : (front rest : List ℕ) → take (length front) (front ++ rest) ≡ front
      take-front [] rest = refl
      take-front (b ∷ front) rest = ap (λ bs. b ∷ bs) (take-front front rest)

  pub behind_within : (text : List ℕ) → length (behind_gap marks text) ≤ length text
  behind_within text = omega (arith, ap length (gap-behind false text), length-append (gap marks text) (behind_gap marks text))
