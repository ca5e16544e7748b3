-- The loop over the words of a line.
use Rattle.std.proofs.Common.{◌≡◌, ◌≤◌, ◌<◌, ◌+◌, ℕ, Bool, true, false, cond, List, [], ◌∷◌, ◌++◌, Option, None, Some, length, take, drop, refl, sym, ap, subst, ◌∙◌, arith, append_assoc, append-nil, length-append, length-drop}
use Rattle.std.proofs.lemmas.List.{take-append-drop}
use Rattle.std.proofs.lemmas.List.Elements.{All-nil, All-cons, All-head, All-tail, All-append}
use Rattle.std.proofs.lemmas.Option.{same_Some}
use Rattle.std.specs.Option.{option_map}
use Rattle.regex_ast.specs.declared.expr.Raw.{Raw}
use Rattle.regex_ast.specs.declared.twolc.PairAtom.{PairAtom}
use Rattle.regex_tokens.specs.Bytes.{begins, is_blank}
use Rattle.project_meaning.specs.Trees.{Pair}
use Rattle.twolc_expressions.specs.Views.{pair_view}
use Rattle.twolc_grammar.specs.Atoms.{symbols_in}
use Rattle.twolc_tokens.specs.Cuts.{HasFlag}
use Rattle.twolc_tokens.specs.Spelling.{IsAtom, sides_of}
use Rattle.pair_lines.specs.Reading.{IsPairFound, behind_blanks, word_len}
use Rattle.pair_lines.specs.Strings.{AreBlanks, IsPair, IsPairString}
use Rattle.pair_lines.proofs.Splitting.{apart_behind, atom_clear, atom_len, behind_blanks_short, clear, len_within, some_word}

-- The pair of an atom.

pub no_atom : (atom : List ℕ) → (IsAtom atom × ¬ HasFlag atom (sides_of atom) → ⊥) → (p : Pair Raw) → ¬ IsPair atom p
no_atom atom none p is = none (is.spelled, is.plain)

pub pair_found : (atom : List ℕ) (found : Option (PairAtom Raw)) → IsAtom atom → ¬ HasFlag atom (sides_of atom) → option_map pair_view found ≡ symbols_in atom → IsPairFound atom found
pair_found atom None is plain same = λ p other. (let clash : None ≡ Some p = same ∙ other.is in cc)
pair_found atom (Some p) is plain same = record { spelled = is; plain = plain; is = sym same }

one_pair : (atom : List ℕ) (p q : Pair Raw) → IsPair atom p → IsPair atom q → p ≡ q
one_pair atom p q first second = same_Some p q (sym first.is ∙ second.is)

-- Blanks in front make no difference.

blanks_before : (blanks text : List ℕ) (pairs : List (Pair Raw)) → AreBlanks blanks → IsPairString text pairs → IsPairString (blanks ++ text) pairs
blanks_before blanks text [] all string = All-append (λ b. is_blank b ≡ true) blanks text all string
blanks_before blanks text (p ∷ pairs) all (more, atom, rest, is, are, pair, apart, string) = (
  blanks ++ more,
  atom,
  rest,
  ap (λ (z : List ℕ). blanks ++ z) is ∙ sym (append_assoc blanks more (atom ++ rest)),
  All-append (λ b. is_blank b ≡ true) blanks more all are,
  pair,
  apart,
  string,
)

blank_before : (b : ℕ) (text : List ℕ) (pairs : List (Pair Raw)) → is_blank b ≡ true → IsPairString text pairs → IsPairString (b ∷ text) pairs
blank_before b text pairs blank string = blanks_before (b ∷ []) text pairs (All-cons (λ b. is_blank b ≡ true) b [] blank (All-nil (λ b. is_blank b ≡ true))) string

-- and where one stands there, what is behind it is such a string, too
blank_behind : (b : ℕ) (text : List ℕ) (pairs : List (Pair Raw)) → is_blank b ≡ true → IsPairString (b ∷ text) pairs → IsPairString text pairs
blank_behind b text [] blank string = All-tail (λ b. is_blank b ≡ true) b text string
blank_behind b text (p ∷ pairs) blank ([], atom, rest, is, are, pair, apart, string) =
    let not : is_blank b ≡ false = ap (begins is_blank) is ∙ atom_clear atom rest pair.spelled in
    let clash : true ≡ false = sym blank ∙ not in absurd (cc)
blank_behind b text (p ∷ pairs) blank (c ∷ more, atom, rest, is, are, pair, apart, string) =
    let e : b ∷ text ≡ c ∷ (more ++ (atom ++ rest)) = is in
    let behind : text ≡ more ++ (atom ++ rest) = cc in
    (more, atom, rest, behind, All-tail (λ b. is_blank b ≡ true) c more are, pair, apart, string)

pub stripped : (text : List ℕ) (pairs : List (Pair Raw)) → IsPairString text pairs → IsPairString (behind_blanks text) pairs
stripped [] pairs string = string
stripped (b ∷ text) pairs string = by (is_blank b) refl (stripped text pairs)
  where
    by : (x : Bool) → is_blank b ≡ x → (IsPairString text pairs → IsPairString (behind_blanks text) pairs) → IsPairString (cond x (behind_blanks text) (b ∷ text)) pairs
    by true e more = more (blank_behind b text pairs e string)
    by false e more = string

pub unstripped : (text : List ℕ) (pairs : List (Pair Raw)) → IsPairString (behind_blanks text) pairs → IsPairString text pairs
unstripped [] pairs string = string
unstripped (b ∷ text) pairs string = by (is_blank b) refl (unstripped text pairs) string
  where
    by : (x : Bool) → is_blank b ≡ x → (IsPairString (behind_blanks text) pairs → IsPairString text pairs) → IsPairString (cond x (behind_blanks text) (b ∷ text)) pairs → IsPairString (b ∷ text) pairs
    by true e more front = blank_before b text pairs e (more front)
    by false e more front = front

-- The first word.

abbrev first_word : List ℕ → List ℕ
first_word text = take (word_len text) text

abbrev behind : List ℕ → List ℕ
behind text = drop (word_len text) text

word_and_rest : (text : List ℕ) → text ≡ first_word text ++ behind text
word_and_rest text = sym (take-append-drop (word_len text) text)

-- a string that begins with the first word
pub one_more : (text : List ℕ) (p : Pair Raw) (pairs : List (Pair Raw)) → IsPair (first_word text) p → IsPairString (behind text) pairs → IsPairString text (p ∷ pairs)
one_more text p pairs pair string = ([], first_word text, behind text, word_and_rest text, All-nil (λ b. is_blank b ≡ true), pair, apart_behind false text, string)

take_front : (a b : List ℕ) → take (length a) (a ++ b) ≡ a
take_front [] b = refl
take_front (x ∷ a) b = ap (λ (z : List ℕ). x ∷ z) (take_front a b)

drop_front : (a b : List ℕ) → drop (length a) (a ++ b) ≡ b
drop_front [] b = refl
drop_front (x ∷ a) b = drop_front a b

-- each string does, where no blank is in front
pub first_is : (text : List ℕ) (p : Pair Raw) (pairs : List (Pair Raw)) → begins is_blank text ≡ false → IsPairString text (p ∷ pairs) → IsPair (first_word text) p × IsPairString (behind text) pairs
first_is text p pairs none ([], atom, rest, is, are, pair, apart, string) =
    let len : word_len text ≡ length atom = ap word_len is ∙ atom_len atom rest pair.spelled apart in
    let word : first_word text ≡ atom = (λ i. take (len i) (is i)) ∙ take_front atom rest in
    let more : behind text ≡ rest = (λ i. drop (len i) (is i)) ∙ drop_front atom rest in
    (subst (λ (z : List ℕ). IsPair z p) (sym word) pair, subst (λ (z : List ℕ). IsPairString z pairs) (sym more) string)
first_is text p pairs none (c ∷ more, atom, rest, is, are, pair, apart, string) =
    let blank = All-head (λ b. is_blank b ≡ true) c more are in
    let clash : true ≡ false = sym blank ∙ ap (begins is_blank) (sym is) ∙ none in absurd (cc)

-- a string of no pairs is blank
pub none_left : (text : List ℕ) → begins is_blank text ≡ false → 0 < length text → ¬ IsPairString text []
none_left [] none some string = omega (arith, some)
none_left (b ∷ text) none some string = let blank = All-head (λ b. is_blank b ≡ true) b text string in let clash : true ≡ false = sym blank ∙ none in cc

-- The loop: what is left of the line, and the pairs so far.

pub record ReadSoFar (line rest : List ℕ) (pairs : List (Pair Raw)) : Type 0 where
  pub clear : begins is_blank rest ≡ false
  pub there : (more : List (Pair Raw)) → IsPairString rest more → IsPairString line (pairs ++ more)
  pub back : (all : List (Pair Raw)) → IsPairString line all → (more : List (Pair Raw)) × (all ≡ pairs ++ more) × IsPairString rest more
  pub few : length pairs + length rest ≤ length line

pub read_begin : (line : List ℕ) → ReadSoFar line (behind_blanks line) []
read_begin line = record {
  clear = clear line;
  there = unstripped line;
  back = λ all string. (all, refl, stripped line all string);
  few = (let short = behind_blanks_short line in omega (arith, short));
}

pub read_more : (line rest : List ℕ) (pairs : List (Pair Raw)) (p : Pair Raw) → ReadSoFar line rest pairs → 0 < length rest → IsPair (first_word rest) p → ReadSoFar line (behind_blanks (behind rest)) (pairs ++ p ∷ [])
read_more line rest pairs p so_far some pair = record {
  clear = clear (behind rest);
  there = λ more string. subst (IsPairString line) (sym (append_assoc pairs (p ∷ []) more)) (so_far.there (p ∷ more) (one_more rest p more pair (unstripped (behind rest) more string)));
  back = λ all string. (let r = so_far.back all string in split all r.0 r.1 r.2);
  few = (
      let word = some_word rest so_far.clear some in
      let within = len_within false rest in
      let short = behind_blanks_short (behind rest) in
      let before = so_far.few in
      omega (arith, word, within, short, before, length-drop (word_len rest) rest, length-append pairs (p ∷ [])));
}
  where
    split : (all more : List (Pair Raw)) → all ≡ pairs ++ more → IsPairString rest more → (others : List (Pair Raw)) × (all ≡ (pairs ++ p ∷ []) ++ others) × IsPairString (behind_blanks (behind rest)) others
    split all [] is string = absurd (none_left rest so_far.clear some string)
    split all (q ∷ others) is string =
        let first = first_is rest q others so_far.clear string in
        let same : q ≡ p = one_pair (first_word rest) q p first.0 pair in
        (others, is ∙ ap (λ (z : Pair Raw). pairs ++ z ∷ others) same ∙ sym (append_assoc pairs (p ∷ []) others), stripped (behind rest) others first.1)

pub read_whole : (line rest : List ℕ) (pairs : List (Pair Raw)) → ReadSoFar line rest pairs → length rest ≡ 0 → IsPairString line pairs
read_whole line rest pairs so_far none = subst (IsPairString line) (append-nil pairs) (so_far.there [] (nothing rest none))
  where
    nothing : (xs : List ℕ) → length xs ≡ 0 → IsPairString xs []
    nothing [] e = All-nil (λ b. is_blank b ≡ true)
    nothing (x ∷ xs) e = absurd (omega arith)

pub read_not : (line rest : List ℕ) (pairs : List (Pair Raw)) → ReadSoFar line rest pairs → 0 < length rest → ((p : Pair Raw) → ¬ IsPair (first_word rest) p) → (all : List (Pair Raw)) → ¬ IsPairString line all
read_not line rest pairs so_far some none all string = let r = so_far.back all string in by r.0 r.2
  where
    by : (more : List (Pair Raw)) → IsPairString rest more → ⊥
    by [] string = none_left rest so_far.clear some string
    by (q ∷ others) string = none q (first_is rest q others so_far.clear string).0

pub read_smaller : (rest : List ℕ) → begins is_blank rest ≡ false → 0 < length rest → length (behind_blanks (behind rest)) < length rest
read_smaller rest none some =
    let word = some_word rest none some in
    let within = len_within false rest in
    let short = behind_blanks_short (behind rest) in
    omega (arith, word, within, short, length-drop (word_len rest) rest)

-- what is found of a word that is the first one
pub none_there : (rest word : List ℕ) (found : Option (PairAtom Raw)) → word ≡ first_word rest → IsPairFound word found → found ≡ None → (p : Pair Raw) → ¬ IsPair (first_word rest) p
none_there rest word found is answer none p pair =
    let nothing : IsPairFound word None = subst (IsPairFound word) none answer in nothing p (subst (λ (z : List ℕ). IsPair z p) (sym is) pair)

pub one_there : (rest word : List ℕ) (found : Option (PairAtom Raw)) (p : PairAtom Raw) → word ≡ first_word rest → IsPairFound word found → found ≡ Some p → IsPair (first_word rest) (pair_view p)
one_there rest word found p is answer some = let here : IsPairFound word (Some p) = subst (IsPairFound word) some answer in subst (λ (z : List ℕ). IsPair z (pair_view p)) is here
