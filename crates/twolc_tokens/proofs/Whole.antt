-- The loop over the tokens: what was found, and what is behind it.
use Rattle.std.proofs.Common.{◌≡◌, ◌≢◌, ◌≤◌, ◌<◌, ℕ, ◌+◌, cond, ◌==◌, false, List, [], ◌∷◌, ◌++◌, length, take, drop, Option, Some, None, refl, sym, ap, subst, ◌∙◌, arith, append_assoc, append-nil, length-append}
use Rattle.std.specs.Str.{IsCharBoundary}
use Rattle.std.proofs.lemmas.List.{take-append-drop}
use Rattle.std.proofs.lemmas.List.Sums.{sum_by-append}
use Rattle.regex_tokens.specs.Cuts.{gap, behind_gap, newlines}
use Rattle.regex_tokens.specs.declared.comments.Comments.TheVariants.{OfEntries}
use Rattle.regex_tokens.specs.declared.token.Ending.{Ending}
use Rattle.regex_tokens.specs.declared.token.Ending.TheVariants.{Whole, NoToken}
use Rattle.regex_tokens.proofs.Gaps.{gap-behind}
use Rattle.twolc_tokens.specs.Cuts.{IsFirst, HasNoFirst, Cuts}
use Rattle.twolc_tokens.specs.Reading.{IsTaken}
use Rattle.twolc_tokens.specs.declared.token.Placed.{Placed}
use Rattle.twolc_tokens.specs.declared.token.Token.{Token}
use Rattle.twolc_tokens.proofs.Texts.{long}

newlines-append : (xs ys : List ℕ) → newlines (xs ++ ys) ≡ newlines xs + newlines ys
newlines-append xs ys = sum_by-append (λ b. cond (b == 10) 1 0) xs ys

abbrev pub gap_of : List ℕ → List ℕ
gap_of text = gap OfEntries text

abbrev pub behind_of : List ℕ → List ℕ
behind_of text = behind_gap OfEntries text

-- Any cut of the rest goes on with what was found to a cut of the text. There is room for the lines of the rest.
pub record SoFar (text : List ℕ) (tokens : List Placed) (here : ℕ) (rest : List ℕ) : Type 0 where
  pub count : here + newlines rest ≤ 1 + newlines text
  pub cuts : (ts : List Placed) (e : Ending) → Cuts here rest ts e → Cuts 1 text (tokens ++ ts) e

pub begin : (text : List ℕ) → SoFar text [] 1 text
begin text = record { count = omega arith; cuts = λ ts e h. h }

gap_lines : (rest : List ℕ) → newlines (gap_of rest) + newlines (behind_of rest) ≡ newlines rest
gap_lines rest = sym (newlines-append (gap_of rest) (behind_of rest)) ∙ ap newlines (gap-behind OfEntries false rest)

pub gap_room : (text : List ℕ) (tokens : List Placed) (here : ℕ) (rest : List ℕ) → SoFar text tokens here rest → here + newlines (gap_of rest) ≤ 1 + newlines text
gap_room text tokens here rest h = omega (arith, h.count, gap_lines rest)

first_lines : (text : List ℕ) (n : ℕ) → newlines (take n text) + newlines (drop n text) ≡ newlines text
first_lines text n = sym (newlines-append (take n text) (drop n text)) ∙ ap newlines (take-append-drop n text)

pub go_on : (text : List ℕ) (tokens : List Placed) (here : ℕ) (rest : List ℕ) (p : Placed) (n : ℕ) → SoFar text tokens here rest → IsFirst (behind_of rest) p.token (take n (behind_of rest)) (drop n (behind_of rest)) → p.line ≡ here + newlines (gap_of rest) → SoFar text (tokens ++ p ∷ []) p.line (drop n (behind_of rest))
go_on text tokens here rest p n h first at = record {
  count = omega (arith, h.count, gap_lines rest, first_lines (behind_of rest) n, at);
  cuts = λ ts e more.
      let whole : Cuts 1 text (tokens ++ p ∷ ts) e = h.cuts (p ∷ ts) e (take n (behind_of rest), drop n (behind_of rest), first, at, more) in
      subst (λ us. Cuts 1 text us e) (sym (append_assoc tokens (p ∷ []) ts)) whole;
}

ended : (text : List ℕ) (tokens : List Placed) (here : ℕ) (rest : List ℕ) (e : Ending) → SoFar text tokens here rest → Cuts here rest [] e → Cuts 1 text tokens e
ended text tokens here rest e h end = subst (λ us. Cuts 1 text us e) (append-nil tokens) (h.cuts [] e end)

empty : (bs : List ℕ) → length bs ≡ 0 → bs ≡ []
empty [] e = refl
empty (b ∷ bs) e = absurd (omega arith)

pub whole : (text : List ℕ) (tokens : List Placed) (here : ℕ) (rest : List ℕ) → SoFar text tokens here rest → length (behind_of rest) ≡ 0 → Cuts 1 text tokens Whole
whole text tokens here rest h none = ended text tokens here rest Whole h (empty (behind_of rest) none)

pub no_token : (text : List ℕ) (tokens : List Placed) (here : ℕ) (rest : List ℕ) (at : ℕ) → SoFar text tokens here rest → length (behind_of rest) ≢ 0 → HasNoFirst (behind_of rest) → at ≡ here + newlines (gap_of rest) → Cuts 1 text tokens (NoToken at)
no_token text tokens here rest at h some none is = ended text tokens here rest (NoToken at) h ((λ e. some (ap length e)), none, is)

pub first_shorter : (rest : List ℕ) (t : Token) (n : ℕ) → IsFirst (behind_of rest) t (take n (behind_of rest)) (drop n (behind_of rest)) → length (drop n (behind_of rest)) < length rest
first_shorter rest t n first = by (take n (behind_of rest)) refl
  where
    by : (front : List ℕ) → take n (behind_of rest) ≡ front → length (drop n (behind_of rest)) < length rest
    by [] e = absurd (long t (take n (behind_of rest)) first.longest.spelled e)
    by (b ∷ bs) e = omega (arith, ap length e, ap length (take-append-drop n (behind_of rest)), length-append (take n (behind_of rest)) (drop n (behind_of rest)), ap length (gap-behind OfEntries false rest), length-append (gap_of rest) (behind_of rest))

-- the first token, as it was read from what is behind the gap
pub first_is : (rest behind : List ℕ) (read : Option (Token × ℕ)) (t : Token) (n : ℕ) → behind ≡ behind_of rest → IsTaken behind read → read ≡ Some (t, n) → IsFirst (behind_of rest) t (take n (behind_of rest)) (drop n (behind_of rest)) × IsCharBoundary (behind_of rest) n
first_is rest behind read t n e h is = subst (λ bs. IsTaken bs (Some (t, n))) e (subst (IsTaken behind) is h)

pub none_first : (rest behind : List ℕ) (read : Option (Token × ℕ)) → behind ≡ behind_of rest → IsTaken behind read → read ≡ None → HasNoFirst (behind_of rest)
none_first rest behind read e h is = subst HasNoFirst e (subst (IsTaken behind) is h)

pub same_so_far : (text : List ℕ) (ts us : List Placed) (a b : List ℕ) (here : ℕ) → ts ≡ us → a ≡ b → SoFar text us here b → SoFar text ts here a
same_so_far text ts us a b here e f so_far = subst (λ xs. SoFar text xs here a) (sym e) (subst (SoFar text us here) (sym f) so_far)
