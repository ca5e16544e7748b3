-- Names that aren't there, lexicon by lexicon.
use Rattle.std.proofs.Common.{◌≡◌, ◌≢◌, ◌+◌, ◌<◌, ℕ, Bool, true, false, cond, List, [], ◌∷◌, ◌++◌, length, drop, get_or, map, suc, Option, None, Some, refl, sym, ap, ◌∙◌, arith}
use lib.Seq.{drop-cons}
use Rattle.std.specs.List.{flat_map}
use Rattle.regex_ast.specs.declared.expr.Raw.{Raw}
use Rattle.regex_ast.specs.declared.lexc.Lexicon.{Lexicon}
use Rattle.lexc_grammar.specs.Files.{first_unknown, unknown_next}
use Rattle.lexc_grammar.specs.Lexicons.{EntryAt, entry_of, lexicon_of}

left_behind : {X : Type 0} (xs : List X) (i : ℕ) (x : X) → i < length xs → x ≡ get_or xs i x → drop i xs ≡ x ∷ drop (i + 1) xs
left_behind {X} xs i x below is = drop-cons xs i x below ∙ ap (λ (y : X). y ∷ drop (suc i) xs) (sym is) ∙ ap (λ (n : ℕ). x ∷ drop n xs) (one_more i)
  where
    one_more : (i : ℕ) → suc i ≡ i + 1
    one_more i = omega arith

pub is_none : (found : Option ℕ) → ((line : ℕ) → found ≢ Some line) → found ≡ None
is_none None none = refl
is_none (Some line) none = absurd (none line refl)

abbrev pub entries_of : List (Lexicon Raw) → List EntryAt
entries_of lexicons = flat_map (λ l. l.entries) (map lexicon_of lexicons)

module _ (names : List (List ℕ)) where
  first_in : (front back : List EntryAt) (line : ℕ) → first_unknown names front ≡ Some line → first_unknown names (front ++ back) ≡ Some line
  first_in [] back line is = absurd cc
  first_in (e ∷ front) back line is = by (unknown_next names e.entry.next) (first_in front back line) is
    where
      by : (b : Bool) → (first_unknown names front ≡ Some line → first_unknown names (front ++ back) ≡ Some line) → cond b (Some e.line) (first_unknown names front) ≡ Some line → cond b (Some e.line) (first_unknown names (front ++ back)) ≡ Some line
      by true later found = found
      by false later found = later found

  none_in : (front back : List EntryAt) → first_unknown names front ≡ None → first_unknown names (front ++ back) ≡ first_unknown names back
  none_in [] back is = refl
  none_in (e ∷ front) back is = by (unknown_next names e.entry.next) (none_in front back) is
    where
      by : (b : Bool) → (first_unknown names front ≡ None → first_unknown names (front ++ back) ≡ first_unknown names back) → cond b (Some e.line) (first_unknown names front) ≡ None → cond b (Some e.line) (first_unknown names (front ++ back)) ≡ first_unknown names back
      by true later found = absurd cc
      by false later found = later found

  module _ (lexicons : List (Lexicon Raw)) (i : ℕ) (lexicon : Lexicon Raw) (below : i < length lexicons) (here : lexicon ≡ get_or lexicons i lexicon) where
    split_lexicons : entries_of (drop i lexicons) ≡ map entry_of lexicon.entries.items ++ entries_of (drop (i + 1) lexicons)
    split_lexicons = ap entries_of (left_behind lexicons i lexicon below here)

    pub unknown_in : (line : ℕ) → first_unknown names (map entry_of lexicon.entries.items) ≡ Some line → first_unknown names (entries_of (drop i lexicons)) ≡ Some line
    unknown_in line is = ap (first_unknown names) split_lexicons ∙ first_in (map entry_of lexicon.entries.items) (entries_of (drop (i + 1) lexicons)) line is

    pub known_in : first_unknown names (map entry_of lexicon.entries.items) ≡ None → first_unknown names (entries_of (drop (i + 1) lexicons)) ≡ first_unknown names (entries_of (drop i lexicons))
    known_in is = sym (ap (first_unknown names) split_lexicons ∙ none_in (map entry_of lexicon.entries.items) (entries_of (drop (i + 1) lexicons)) is)
