-- The loop over the tokens: what was found, and what is behind it.
use Rattle.std.proofs.Common.{◌≡◌, ◌≢◌, ◌≤◌, ◌<◌, ℕ, ◌+◌, false, cond, not, ◌==◌, List, [], ◌∷◌, ◌++◌, length, take, drop, Option, Some, None, refl, sym, ap, subst, ◌∙◌, arith, append_assoc, append-nil, length-append}
use Rattle.std.specs.Str.{IsCharBoundary}
use Rattle.regex_tokens.specs.Reading.{IsTaken}
use Rattle.std.proofs.lemmas.List.{take-append-drop}
use Rattle.std.proofs.lemmas.List.Sums.{sum_by-append, count_by-le-length}
use Rattle.regex_tokens.specs.Cuts.{IsFirst, HasNoFirst, Cuts, gap, behind_gap, newlines}
use Rattle.regex_tokens.specs.declared.token.Ending.{Ending}
use Rattle.regex_tokens.specs.declared.token.Ending.TheVariants.{Whole, NoToken}
use Rattle.regex_tokens.specs.declared.token.Place.{Place}
use Rattle.regex_tokens.specs.declared.token.Token.{Token}
use Rattle.regex_tokens.proofs.Gaps.{gap-behind}
use Rattle.regex_tokens.proofs.Spells.{Head, head, kind_of}
use Rattle.regex_tokens.specs.declared.comments.Comments.{Comments}

newlines-append : (xs ys : List ℕ) → newlines (xs ++ ys) ≡ newlines xs + newlines ys
newlines-append xs ys = sum_by-append (λ b. cond (b == 10) 1 0) xs ys

pub newlines_within : (text : List ℕ) → newlines text ≤ length text
newlines_within text = count_by-le-length (λ b. b == 10) text

module _ (marks : Comments) where
  -- Any cut of the rest goes on with what was found to a cut of the text.
  pub record SoFar (line : ℕ) (text : List ℕ) (tokens : List Token) (places : List Place) (here : ℕ) (rest : List ℕ) : Type 0 where
    pub count : here + newlines rest ≡ line + newlines text
    pub cuts : (ts : List Token) (ps : List Place) (e : Ending) → Cuts marks here rest ts ps e → Cuts marks line text (tokens ++ ts) (places ++ ps) e

  pub begin : (line : ℕ) (text : List ℕ) → SoFar line text [] [] line text
  begin line text = record { count = refl; cuts = λ ts ps e h. h }

  gap_lines : (rest : List ℕ) → newlines (gap marks rest) + newlines (behind_gap marks rest) ≡ newlines rest
  gap_lines rest = sym (newlines-append (gap marks rest) (behind_gap marks rest)) ∙ ap newlines (gap-behind marks false rest)

  pub gap_room : (line : ℕ) (text : List ℕ) (tokens : List Token) (places : List Place) (here : ℕ) (rest : List ℕ) → SoFar line text tokens places here rest → here + newlines (gap marks rest) ≤ line + newlines text
  gap_room line text tokens places here rest h = omega (arith, h.count, gap_lines rest)

  first_lines : (text : List ℕ) (n : ℕ) → newlines (take n text) + newlines (drop n text) ≡ newlines text
  first_lines text n = sym (newlines-append (take n text) (drop n text)) ∙ ap newlines (take-append-drop n text)

  pub first_room : (line : ℕ) (text : List ℕ) (tokens : List Token) (places : List Place) (here : ℕ) (rest : List ℕ) (n : ℕ) → SoFar line text tokens places here rest → here + newlines (gap marks rest) + newlines (take n (behind_gap marks rest)) ≤ line + newlines text
  first_room line text tokens places here rest n h = omega (arith, h.count, gap_lines rest, first_lines (behind_gap marks rest) n)

  pub go_on : (line : ℕ) (text : List ℕ) (tokens : List Token) (places : List Place) (here : ℕ) (rest : List ℕ) (t : Token) (p : Place) (n : ℕ) → SoFar line text tokens places here rest → IsFirst (behind_gap marks rest) t (take n (behind_gap marks rest)) (drop n (behind_gap marks rest)) → p.line ≡ here + newlines (gap marks rest) → p.apart ≡ not (length (gap marks rest) == 0) → SoFar line text (tokens ++ t ∷ []) (places ++ p ∷ []) (p.line + newlines (take n (behind_gap marks rest))) (drop n (behind_gap marks rest))
  go_on line text tokens places here rest t p n h first at apart = record {
    count = omega (arith, h.count, gap_lines rest, first_lines (behind_gap marks rest) n, at);
    cuts = λ ts ps e more.
        let whole : Cuts marks line text (tokens ++ t ∷ ts) (places ++ p ∷ ps) e = h.cuts (t ∷ ts) (p ∷ ps) e (take n (behind_gap marks rest), drop n (behind_gap marks rest), first, at, apart, more) in
        subst (λ us. Cuts marks line text us ((places ++ p ∷ []) ++ ps) e) (sym (append_assoc tokens (t ∷ []) ts)) (subst (λ qs. Cuts marks line text (tokens ++ t ∷ ts) qs e) (sym (append_assoc places (p ∷ []) ps)) whole);
  }

  ended : (line : ℕ) (text : List ℕ) (tokens : List Token) (places : List Place) (here : ℕ) (rest : List ℕ) (e : Ending) → SoFar line text tokens places here rest → Cuts marks here rest [] [] e → Cuts marks line text tokens places e
  ended line text tokens places here rest e h end = subst (λ us. Cuts marks line text us places e) (append-nil tokens) (subst (λ qs. Cuts marks line text (tokens ++ []) qs e) (append-nil places) (h.cuts [] [] e end))

  empty : (bs : List ℕ) → length bs ≡ 0 → bs ≡ []
  empty [] e = refl
  empty (b ∷ bs) e = absurd (omega arith)

  pub whole : (line : ℕ) (text : List ℕ) (tokens : List Token) (places : List Place) (here : ℕ) (rest : List ℕ) → SoFar line text tokens places here rest → length (behind_gap marks rest) ≡ 0 → Cuts marks line text tokens places Whole
  whole line text tokens places here rest h none = ended line text tokens places here rest Whole h (empty (behind_gap marks rest) none)

  pub no_token : (line : ℕ) (text : List ℕ) (tokens : List Token) (places : List Place) (here : ℕ) (rest : List ℕ) (at : ℕ) → SoFar line text tokens places here rest → length (behind_gap marks rest) ≢ 0 → HasNoFirst (behind_gap marks rest) → at ≡ here + newlines (gap marks rest) → Cuts marks line text tokens places (NoToken at)
  no_token line text tokens places here rest at h some none is = ended line text tokens places here rest (NoToken at) h ((λ e. some (ap length e)), none, is)

  -- a token takes a byte at least
  pub first_shorter : (rest : List ℕ) (t : Token) (n : ℕ) → IsFirst (behind_gap marks rest) t (take n (behind_gap marks rest)) (drop n (behind_gap marks rest)) → length (drop n (behind_gap marks rest)) < length rest
  first_shorter rest t n first =
      let h : Head (kind_of t) (take n (behind_gap marks rest)) = head t (take n (behind_gap marks rest)) first.longest.spelled in
      omega (arith, ap length h.spelled, ap length (take-append-drop n (behind_gap marks rest)), length-append (take n (behind_gap marks rest)) (drop n (behind_gap marks rest)), ap length (gap-behind marks false rest), length-append (gap marks rest) (behind_gap marks rest))

  -- the first token, as it was read from what is behind the gap
  pub first_is : (rest behind : List ℕ) (read : Option (Token × ℕ)) (t : Token) (n : ℕ) → behind ≡ behind_gap marks rest → IsTaken behind read → read ≡ Some (t, n) → IsFirst (behind_gap marks rest) t (take n (behind_gap marks rest)) (drop n (behind_gap marks rest)) × IsCharBoundary (behind_gap marks rest) n
  first_is rest behind read t n e h is = subst (λ bs. IsTaken bs (Some (t, n))) e (subst (IsTaken behind) is h)

  pub none_first : (rest behind : List ℕ) (read : Option (Token × ℕ)) → behind ≡ behind_gap marks rest → IsTaken behind read → read ≡ None → HasNoFirst (behind_gap marks rest)
  none_first rest behind read e h is = subst HasNoFirst e (subst (IsTaken behind) is h)

  pub same_so_far : (line : ℕ) (text : List ℕ) (ts us : List Token) (ps qs : List Place) (m n : ℕ) (a b : List ℕ) → ts ≡ us → ps ≡ qs → m ≡ n → a ≡ b → SoFar line text us qs n b → SoFar line text ts ps m a
  same_so_far line text ts us ps qs m n a b e f g h so_far =
      subst (λ xs. SoFar line text xs ps m a) (sym e) (subst (λ xs. SoFar line text us xs m a) (sym f) (subst (λ k. SoFar line text us qs k a) (sym g) (subst (SoFar line text us qs n) (sym h) so_far)))
