-- Prefixes one before another, `$` twice, and `~` three times.
use Rattle.std.proofs.Common.{◌≡◌, List, [], ◌∷◌, ◌++◌, length, arith, sym, ap, subst, ◌∙◌, append_assoc, append-nil}
use Rattle.fsm_base.specs.declared.letters.Bound.{Bound}
use Rattle.regex_ast.specs.declared.expr.Prefix.{Prefix}
use Rattle.regex_ast.specs.declared.expr.Prefix.TheVariants.{Not, Contains as Part}
use Rattle.expr_meaning.specs.Operators.{IsPrefixed, ArePrefixed}
use Rattle.network_sets.proofs.Alike.{SameWords, words_back, words_then, prefix_same}

module _ {L : Type 0} (alphabet : List L) where
  -- `$$A` is `$A`
  contains_again : (P : List (Bound L) → Type 0) → SameWords (IsPrefixed alphabet Part (IsPrefixed alphabet Part P)) (IsPrefixed alphabet Part P)
  contains_again P w = (
    λ (over, (x, y, z, is, (over_y, (a, b, c, parts, p)))). (
      over,
      (
        x ++ a,
        b,
        c ++ z,
        is ∙ ap (λ (v : List (Bound L)). x ++ (v ++ z)) parts ∙ ap (λ (v : List (Bound L)). x ++ v) (append_assoc a (b ++ c) z ∙ ap (λ (v : List (Bound L)). a ++ v) (append_assoc b c z)) ∙ sym (append_assoc x a (b ++ (c ++ z))),
        p,
      ),
    ),
    λ (over, part). (over, ([], w, [], sym (append-nil w), (over, part))),
  )

  -- what a prefix makes, `$` makes nothing new of, if it is that
  pub contains_settled : (prefix : Prefix) (P Q : List (Bound L) → Type 0) → SameWords Q (IsPrefixed alphabet prefix P) → prefix ≡ Part → SameWords (IsPrefixed alphabet Part Q) Q
  contains_settled prefix P Q made is =
      let same : SameWords Q (IsPrefixed alphabet Part P) = subst (λ x. SameWords Q (IsPrefixed alphabet x P)) is made in
      words_then (IsPrefixed alphabet Part Q) (IsPrefixed alphabet Part (IsPrefixed alphabet Part P)) Q
      (prefix_same alphabet Part Q (IsPrefixed alphabet Part P) same)
      (words_then (IsPrefixed alphabet Part (IsPrefixed alphabet Part P)) (IsPrefixed alphabet Part P) Q (contains_again P) (words_back Q (IsPrefixed alphabet Part P) same))

  -- `~~~A` is `~A`
  not_thrice : (P : List (Bound L) → Type 0) → SameWords (IsPrefixed alphabet Not (IsPrefixed alphabet Not (IsPrefixed alphabet Not P))) (IsPrefixed alphabet Not P)
  not_thrice P w = (λ h. (h.0, λ p. h.1 (h.0, λ x. x.1 p)), λ h. (h.0, λ x. x.1 h))

  -- what a prefix makes, `~~` makes nothing new of, if it is `~`
  pub not_settled : (prefix : Prefix) (P Q : List (Bound L) → Type 0) → SameWords Q (IsPrefixed alphabet prefix P) → prefix ≡ Not → SameWords (IsPrefixed alphabet Not (IsPrefixed alphabet Not Q)) Q
  not_settled prefix P Q made is =
      let N = IsPrefixed alphabet Not in
      let same : SameWords Q (N P) = subst (λ x. SameWords Q (IsPrefixed alphabet x P)) is made in
      words_then (N (N Q)) (N (N (N P))) Q
      (prefix_same alphabet Not (N Q) (N (N P)) (prefix_same alphabet Not Q (N P) same))
      (words_then (N (N (N P))) (N P) Q (not_thrice P) (words_back Q (N P) same))

  -- the same where the prefix is `$`
  pub some_same : (prefix : Prefix) (P : List (Bound L) → Type 0) → prefix ≡ Part → SameWords P (IsPrefixed alphabet Part P) → SameWords P (IsPrefixed alphabet prefix P)
  some_same prefix P is same = subst (λ x. SameWords P (IsPrefixed alphabet x P)) (sym is) same

  -- the set Q is P with the prefixes behind the rest of a row
  abbrev pub ArePrefixedBehind : List Prefix → List Prefix → (List (Bound L) → Type 0) → (List (Bound L) → Type 0) → Type 0
  ArePrefixedBehind whole rest P Q = (behind : List Prefix) × (whole ≡ rest ++ behind) × SameWords Q (ArePrefixed alphabet behind P)

  pub none_behind : (whole : List Prefix) (P : List (Bound L) → Type 0) → ArePrefixedBehind whole whole P P
  none_behind whole P = ([], sym (append-nil whole), λ w. (λ h. h, λ h. h))

  pub one_more_behind : (whole rest front : List Prefix) (prefix : Prefix) (P Q R : List (Bound L) → Type 0) → rest ≡ front ++ prefix ∷ [] → ArePrefixedBehind whole rest P Q → SameWords R (IsPrefixed alphabet prefix Q) → ArePrefixedBehind whole front P R
  one_more_behind whole rest front prefix P Q R parts (behind, is, same) made = (
    prefix ∷ behind,
    is ∙ ap (λ (z : List Prefix). z ++ behind) parts ∙ append_assoc front (prefix ∷ []) behind,
    words_then R (IsPrefixed alphabet prefix Q) (IsPrefixed alphabet prefix (ArePrefixed alphabet behind P)) made (prefix_same alphabet prefix Q (ArePrefixed alphabet behind P) same),
  )

  -- two `~` more, where they turn each other back
  pub two_more_behind : (whole rest front before : List Prefix) (prefix : Prefix) (P Q : List (Bound L) → Type 0) → rest ≡ front ++ prefix ∷ [] → front ≡ before ++ Not ∷ [] → prefix ≡ Not
      → ArePrefixedBehind whole rest P Q → SameWords (IsPrefixed alphabet Not (IsPrefixed alphabet Not Q)) Q → ArePrefixedBehind whole before P Q
  two_more_behind whole rest front before prefix P Q parts others is behind turned =
      let N = IsPrefixed alphabet Not in
      let one = one_more_behind whole rest front prefix P Q (N Q) parts behind (subst (λ x. SameWords (N Q) (IsPrefixed alphabet x Q)) (sym is) (λ w. (λ h. h, λ h. h))) in
      one_more_behind whole front before Not P (N Q) Q others one (words_back (N (N Q)) Q turned)

  pub all_behind : (whole rest : List Prefix) (P Q : List (Bound L) → Type 0) → length rest ≡ 0 → ArePrefixedBehind whole rest P Q → SameWords Q (ArePrefixed alphabet whole P)
  all_behind whole [] P Q none (behind, is, same) = subst (λ z. SameWords Q (ArePrefixed alphabet z P)) (sym is) same
  all_behind whole (x ∷ rest) P Q none behind = absurd (omega arith)
