-- Lines of a content, one after another, and what they are when they are written.
use Rattle.std.proofs.Common.{◌≡◌, ◌≢◌, ℕ, ◌+◌, ◌-◌, ◌<◌, ◌≤◌, ◌==◌, Bool, true, false, not, cond, List, [], ◌∷◌, ◌++◌, length, take, drop, inl, inr, refl, sym, ap, ◌∙◌, append_assoc, append-nil, arith, length-append, length-drop, drop-drop}
use Rattle.std.proofs.lemmas.Bool.Decides.{eqb_tells, nat_tests}
use Rattle.std.proofs.lemmas.List.Concat.{flat_map-append}
use Rattle.std.proofs.Math.Seq.{take-append_seam}
use Rattle.fsm_io.specs.Gather.{IsNewline}
use Rattle.fsm_io.specs.Lines.{IsWithinLine}
use Rattle.fsm_io.proofs.Cuts.{within-cons}
use Rattle.project_manifest.specs.Manifests.{lines_from, lines_of, some_of}
use Rattle.project_sources.specs.Edits.{IsBadSplice}
use Rattle.project_edits.specs.Lines.{AreAround, IsSplit, IsSpliced, Passes, written}

-- ---- a line, and what stands behind it

other_byte : (b c : ℕ) → b ≢ c → (b == c) ≡ false
other_byte b c other = elim (eqb_tells b c) as (λ _. (b == c) ≡ false) [ inl same ↦ absurd (other same.1) | inr apart ↦ apart.0 ]

lines_newline : (line piece more : List ℕ) → IsWithinLine piece → lines_from line (piece ++ 10 ∷ more) ≡ (line ++ piece) ∷ lines_of more
lines_newline line [] more within = ap (λ (l : List ℕ). l ∷ lines_of more) (sym (append-nil line))
lines_newline line (b ∷ piece) more within =
    let parts = within-cons b piece within in
    ap (λ (t : Bool). cond t (line ∷ lines_of (piece ++ 10 ∷ more)) (lines_from (line ++ b ∷ []) (piece ++ 10 ∷ more))) (other_byte b 10 parts.0)
    ∙ lines_newline (line ++ b ∷ []) piece more parts.1
    ∙ ap (λ (l : List ℕ). l ∷ lines_of more) (append_assoc line (b ∷ []) piece)

lines_last : (line piece : List ℕ) → IsWithinLine piece → lines_from line piece ≡ some_of (line ++ piece)
lines_last line [] within = ap some_of (sym (append-nil line))
lines_last line (b ∷ piece) within =
    let parts = within-cons b piece within in
    ap (λ (t : Bool). cond t (line ∷ lines_of piece) (lines_from (line ++ b ∷ []) piece)) (other_byte b 10 parts.0)
    ∙ lines_last (line ++ b ∷ []) piece parts.1
    ∙ ap some_of (append_assoc line (b ∷ []) piece)

pub passes_newline : (content rest : List ℕ) (at : ℕ) → IsNewline content at → rest ≡ drop (at + 1) content → Passes content rest 1
passes_newline content rest at n behind =
    let piece = take at content in
    let parts : content ≡ piece ++ 10 ∷ rest = n.divided ∙ ap (λ (l : List ℕ). piece ++ 10 ∷ l) (sym behind) in
    record {
      front = piece ++ 10 ∷ [];
      whole = parts ∙ sym (append_assoc piece (10 ∷ []) rest);
      lines = piece ∷ [];
      many = refl;
      split = ap lines_of parts ∙ lines_newline [] piece rest n.within;
      alone = lines_newline [] piece [] n.within;
      closed = inr (λ more. ap lines_of (append_assoc piece (10 ∷ []) more) ∙ lines_newline [] piece more n.within);
    }

pub passes_last : (content rest : List ℕ) → (content ≡ [] → ⊥) → IsWithinLine content → rest ≡ [] → Passes content rest 1
passes_last [] rest some within none = absurd (some refl)
passes_last (b ∷ content) rest some within none = record {
  front = b ∷ content;
  whole = sym (append-nil (b ∷ content)) ∙ ap (λ (l : List ℕ). (b ∷ content) ++ l) (sym none);
  lines = (b ∷ content) ∷ [];
  many = refl;
  split = lines_last [] (b ∷ content) within ∙ ap (λ (l : List ℕ). (b ∷ content) ∷ lines_of l) (sym none);
  alone = lines_last [] (b ∷ content) within;
  closed = inl none;
}

-- ---- and line after line

pub passes_none : (content : List ℕ) → Passes content content 0
passes_none content = record { front = []; whole = refl; lines = []; many = refl; split = refl; alone = refl; closed = inr (λ more. refl) }

-- there is a line where one stands before a rest
passes_some : (content rest : List ℕ) → Passes content rest 1 → content ≡ [] → ⊥
passes_some content rest p none =
    let no_lines : length (lines_of content) ≡ 0 = ap (λ (l : List ℕ). length (lines_of l)) none in
    let many : length (lines_of content) ≡ length p.lines + length (lines_of rest) = ap length p.split ∙ length-append p.lines (lines_of rest) in
    omega (arith, no_lines, many, p.many)

pub passes_more : (content rest0 rest : List ℕ) (n : ℕ) → Passes content rest0 n → Passes rest0 rest 1 → Passes content rest (n + 1)
passes_more content rest0 rest n a b = elim a.closed [
  | inl none ↦ absurd (passes_some rest0 rest b none)
  | inr goes ↦ record {
    front = a.front ++ b.front;
    whole = a.whole ∙ ap (λ (l : List ℕ). a.front ++ l) b.whole ∙ sym (append_assoc a.front b.front rest);
    lines = a.lines ++ b.lines;
    many = length-append a.lines b.lines ∙ ap (λ (k : ℕ). k + length b.lines) a.many ∙ ap (λ (k : ℕ). n + k) b.many;
    split = a.split ∙ ap (λ (ls : List (List ℕ)). a.lines ++ ls) b.split ∙ sym (append_assoc a.lines b.lines (lines_of rest));
    alone = goes b.front ∙ ap (λ (ls : List (List ℕ)). a.lines ++ ls) b.alone;
    closed = elim b.closed [
      | inl none ↦ inl none
      | inr further ↦ inr (λ more.
          ap lines_of (append_assoc a.front b.front more) ∙ goes (b.front ++ more) ∙ ap (λ (ls : List (List ℕ)). a.lines ++ ls) (further more)
          ∙ sym (append_assoc a.lines b.lines (lines_of more)))
    ];
  }
]

-- there are no more lines
pub passes_all : (content rest : List ℕ) (n count : ℕ) → Passes content rest n → rest ≡ [] → n < count → length (lines_of content) < count
passes_all content rest n count p none less =
    let all : lines_of content ≡ p.lines = p.split ∙ ap (λ (l : List ℕ). p.lines ++ lines_of l) none ∙ append-nil p.lines in
    let many : length (lines_of content) ≡ length p.lines = ap length all in
    omega (arith, many, p.many)

drop_seam : {A : Type 0} (xs ys : List A) → drop (length xs) (xs ++ ys) ≡ ys
drop_seam [] ys = refl
drop_seam (x ∷ xs) ys = drop_seam xs ys

pub inside : (content rest : List ℕ) (n : ℕ) → Passes content rest n → length rest ≤ length content
inside content rest n p =
    let whole : length content ≡ length p.front + length rest = ap length p.whole ∙ length-append p.front rest in
    omega arith

pub split_at : (content rest front behind : List ℕ) (n : ℕ) → Passes content rest n → front ≡ take (length content - length rest) content → behind ≡ drop (length content - length rest) content → IsSplit content n front behind
split_at content rest front behind n p is_front is_behind =
    let whole : length content ≡ length p.front + length rest = ap length p.whole ∙ length-append p.front rest in
    let at : length content - length rest ≡ length p.front = omega arith in
    let front_is : front ≡ p.front = is_front ∙ ap (λ (k : ℕ). take k content) at ∙ ap (take (length p.front)) p.whole ∙ take-append_seam p.front rest in
    let behind_is : behind ≡ rest = is_behind ∙ ap (λ (k : ℕ). drop k content) at ∙ ap (drop (length p.front)) p.whole ∙ drop_seam p.front rest in
    let many : length (lines_of content) ≡ length p.lines + length (lines_of rest) = ap length p.split ∙ length-append p.lines (lines_of rest) in
    record {
      enough = omega (arith, many, p.many);
      front_is = ap lines_of front_is ∙ p.alone ∙ sym (ap (take n) p.split ∙ ap (λ (k : ℕ). take k (p.lines ++ lines_of rest)) (sym p.many) ∙ take-append_seam p.lines (lines_of rest));
      rest_is = ap lines_of behind_is ∙ sym (ap (drop n) p.split ∙ ap (λ (k : ℕ). drop k (p.lines ++ lines_of rest)) (sym p.many) ∙ drop_seam p.lines (lines_of rest));
    }

-- ---- around the lines that are replaced

module _ (content : List ℕ) (from count : ℕ) where
  pub no_front : length (lines_of content) < from - 1 → IsBadSplice from count content
  no_front few = let less : length (lines_of content) + 1 < from = omega arith in inr (inl less)

  module _ (front behind : List ℕ) (first : IsSplit content (from - 1) front behind) where
    left : length (lines_of behind) ≡ length (lines_of content) - (from - 1)
    left = ap length first.rest_is ∙ length-drop (from - 1) (lines_of content)

    pub no_rest : 0 < from → length (lines_of behind) < count → IsBadSplice from count content
    no_rest some few = let less : length (lines_of content) + 1 < from + count = omega (arith, left, first.enough) in inr (inr less)

    pub are_around : 0 < from → (replaced rest : List ℕ) → IsSplit behind count replaced rest → AreAround content from count front rest
    are_around some replaced rest second = record {
      good = good;
      front_is = first.front_is;
      rest_is = second.rest_is ∙ ap (drop count) first.rest_is ∙ drop-drop count (from - 1) (lines_of content);
    }
      where
        good : IsBadSplice from count content → ⊥
        good (inl zero_line) = omega (arith, zero_line, some)
        good (inr (inl few)) = omega (arith, few, first.enough)
        good (inr (inr few)) = omega (arith, few, first.enough, second.enough, left, some)

-- ---- lines that are written

line_end : (line : List ℕ) (b : ℕ) → some_of (line ++ b ∷ []) ≡ (line ++ b ∷ []) ∷ []
line_end [] b = refl
line_end (c ∷ line) b = refl

written_closed : (line front : List ℕ) → written (lines_from line (front ++ 10 ∷ [])) ≡ line ++ (front ++ 10 ∷ [])
written_closed line [] = append-nil (line ++ 10 ∷ [])
written_closed line (b ∷ front) = by (b == 10) refl (λ l. written_closed l front) where
  by : (t : Bool) → (b == 10) ≡ t → ((l : List ℕ) → written (lines_from l (front ++ 10 ∷ [])) ≡ l ++ (front ++ 10 ∷ []))
      → written (cond t (line ∷ lines_of (front ++ 10 ∷ [])) (lines_from (line ++ b ∷ []) (front ++ 10 ∷ []))) ≡ line ++ (b ∷ (front ++ 10 ∷ []))
  by true e rest =
      let same : 10 ≡ b = grind (arith, nat_tests) in
      ap (λ (l : List ℕ). (line ++ 10 ∷ []) ++ l) (rest []) ∙ append_assoc line (10 ∷ []) (front ++ 10 ∷ []) ∙ ap (λ (c : ℕ). line ++ (c ∷ (front ++ 10 ∷ []))) same
  by false e rest = rest (line ++ b ∷ []) ∙ append_assoc line (b ∷ []) (front ++ 10 ∷ [])

written_open : (last : ℕ) → (last == 10) ≡ false → (line front : List ℕ) → written (lines_from line (front ++ last ∷ [])) ≡ (line ++ (front ++ last ∷ [])) ++ 10 ∷ []
written_open last other line [] =
    ap (λ (t : Bool). written (cond t (line ∷ []) (some_of (line ++ last ∷ [])))) other ∙ ap written (line_end line last) ∙ append-nil ((line ++ last ∷ []) ++ 10 ∷ [])
written_open last other line (b ∷ front) = by (b == 10) refl (λ l. written_open last other l front) where
  by : (t : Bool) → (b == 10) ≡ t → ((l : List ℕ) → written (lines_from l (front ++ last ∷ [])) ≡ (l ++ (front ++ last ∷ [])) ++ 10 ∷ [])
      → written (cond t (line ∷ lines_of (front ++ last ∷ [])) (lines_from (line ++ b ∷ []) (front ++ last ∷ []))) ≡ (line ++ (b ∷ (front ++ last ∷ []))) ++ 10 ∷ []
  by true e rest =
      let same : 10 ≡ b = grind (arith, nat_tests) in
      ap (λ (l : List ℕ). (line ++ 10 ∷ []) ++ l) (rest [])
      ∙ sym (append_assoc (line ++ 10 ∷ []) (front ++ last ∷ []) (10 ∷ []))
      ∙ ap (λ (l : List ℕ). l ++ 10 ∷ []) (append_assoc line (10 ∷ []) (front ++ last ∷ []) ∙ ap (λ (c : ℕ). line ++ (c ∷ (front ++ last ∷ []))) same)
  by false e rest = rest (line ++ b ∷ []) ∙ ap (λ (l : List ℕ). l ++ 10 ∷ []) (append_assoc line (b ∷ []) (front ++ last ∷ []))

-- a last line that has no newline gets one
pub written_lines : (content front : List ℕ) (last : ℕ) → content ≡ front ++ last ∷ [] → (ends : Bool) → (last == 10) ≡ ends → written (lines_of content) ≡ content ++ cond (not ends) (10 ∷ []) []
written_lines content front last is true e =
    let same : last ≡ 10 = grind (arith, nat_tests) in
    let all : content ≡ front ++ 10 ∷ [] = is ∙ ap (λ (b : ℕ). front ++ b ∷ []) same in
    ap (λ (l : List ℕ). written (lines_of l)) all ∙ written_closed [] front ∙ sym all ∙ sym (append-nil content)
written_lines content front last is false e =
    ap (λ (l : List ℕ). written (lines_of l)) is ∙ written_open last e [] front ∙ ap (λ (l : List ℕ). l ++ 10 ∷ []) (sym is)

pub is_spliced : (content front rest bytes new : List ℕ) (from count : ℕ) → AreAround content from count front rest
    → new ≡ ((written (lines_of front)) ++ written (lines_of bytes)) ++ written (lines_of rest) → IsSpliced content from count bytes new
is_spliced content front rest bytes new from count a is =
    let before = take (from - 1) (lines_of content) in
    let behind = drop (from - 1 + count) (lines_of content) in
    record {
      good = a.good;
      is =
          is ∙ ap (λ (ls : List (List ℕ)). (written ls ++ written (lines_of bytes)) ++ written (lines_of rest)) a.front_is ∙ ap (λ (ls : List (List ℕ)). (written before ++ written (lines_of bytes)) ++ written ls) a.rest_is
          ∙ ap (λ (l : List ℕ). l ++ written behind) (sym (flat_map-append (λ (line : List ℕ). line ++ 10 ∷ []) before (lines_of bytes)))
          ∙ sym (flat_map-append (λ (line : List ℕ). line ++ 10 ∷ []) (before ++ lines_of bytes) behind);
    }
