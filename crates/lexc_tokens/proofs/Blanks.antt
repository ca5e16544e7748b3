-- Blanks and comments, character by character.
use Rattle.std.proofs.Common.{◌≡◌, ◌+◌, ◌<◌, ◌≤◌, ◌==◌, ◌||◌, ℕ, Bool, true, false, cond, not, List, [], ◌∷◌, length, drop, get_or, refl, sym, ap, ◌∙◌, arith}
use Rattle.std.proofs.lemmas.Bool.Decides.{nat_tests}
use Rattle.regex_tokens.specs.Bytes.{is_blank}
use Rattle.regex_tokens.specs.Cuts.{behind_gap_from}
use Rattle.regex_tokens.specs.declared.comments.Comments.TheVariants.{OfEntries}
use Rattle.lexc_forms.proofs.Encoding.{left_behind, none_left}
use Rattle.lexc_tokens.specs.Steps.{is_in_gap, is_in_comment, IsGapLen}
use Rattle.lexc_tokens.specs.Tokens.{behind_blanks}

blank_is_no_comment : (c : ℕ) → is_blank c ≡ true → (c == 33) ≡ false
blank_is_no_comment c blank = grind (arith, nat_tests)

gap_stops : (inside : Bool) (c : ℕ) (cs : List ℕ) → is_in_gap inside c ≡ false → behind_gap_from OfEntries inside (c ∷ cs) ≡ c ∷ cs
gap_stops true c cs out = absurd cc
gap_stops false c cs out = by (is_blank c) (c == 33) out
  where
    by : (blank comment : Bool) → (blank || comment) ≡ false → cond blank (behind_gap_from OfEntries false cs) (cond comment (behind_gap_from OfEntries true cs) (c ∷ cs)) ≡ c ∷ cs
    by true comment out = absurd cc
    by false true out = absurd cc
    by false false out = refl

gap_goes_on : (inside : Bool) (c : ℕ) (cs : List ℕ) → is_in_gap inside c ≡ true → behind_gap_from OfEntries inside (c ∷ cs) ≡ behind_gap_from OfEntries (is_in_comment inside c) cs
gap_goes_on true c cs here = refl
gap_goes_on false c cs here = by (is_blank c) (c == 33) refl refl here
  where
    by : (blank comment : Bool) → is_blank c ≡ blank → (c == 33) ≡ comment → (blank || comment) ≡ true → cond blank (behind_gap_from OfEntries false cs) (cond comment (behind_gap_from OfEntries true cs) (c ∷ cs)) ≡ behind_gap_from OfEntries comment cs
    by true comment blank is here = ap (λ (b : Bool). behind_gap_from OfEntries b cs) (sym (blank_is_no_comment c blank) ∙ is)
    by false true blank is here = refl
    by false false blank is here = absurd cc

module _ (text : List ℕ) (i : ℕ) (inside : Bool) (so_far : behind_gap_from OfEntries inside (drop i text) ≡ behind_blanks text) where
  module _ (c : ℕ) (below : i < length text) (here : c ≡ get_or text i c) where
    pub gap_ends : is_in_gap inside c ≡ false → IsGapLen text i
    gap_ends out = record {
      within = omega arith;
      behind = left_behind text i c below here ∙ sym (gap_stops inside c (drop (i + 1) text) out) ∙ ap (behind_gap_from OfEntries inside) (sym (left_behind text i c below here)) ∙ so_far;
    }

    pub gap_more : (next : Bool) → is_in_gap inside c ≡ true → next ≡ is_in_comment inside c → behind_gap_from OfEntries next (drop (i + 1) text) ≡ behind_blanks text
    gap_more next inner is =
        ap (λ (b : Bool). behind_gap_from OfEntries b (drop (i + 1) text)) is ∙ sym (gap_goes_on inside c (drop (i + 1) text) inner)
        ∙ ap (behind_gap_from OfEntries inside) (sym (left_behind text i c below here)) ∙ so_far

  pub gap_is_all : (n : ℕ) → n ≡ length text → length text ≤ i → IsGapLen text n
  gap_is_all n is past = record {
    within = omega arith;
    behind = none_left text n (omega arith) ∙ sym (none_behind inside) ∙ ap (behind_gap_from OfEntries inside) (sym (none_left text i past)) ∙ so_far;
  }
    where
      none_behind : (b : Bool) → behind_gap_from OfEntries b [] ≡ []
      none_behind true = refl
      none_behind false = refl
