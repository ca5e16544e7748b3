-- What is told of a string by numbers is what is told of it by texts.
use Rattle.std.proofs.Common.{◌≡◌, ◌<◌, ◌+◌, ◌-◌, ◌++◌, ◌^◌, ℕ, suc, List, [], ◌∷◌, Some, length, map, refl, sym, ap, subst, ◌∙◌, arith}
use Rattle.std.specs.Prelude.{codes, decimal}
use Rattle.std.specs.List.{Contains, slice_index_or}
use Rattle.std.proofs.lemmas.List.{length-append}
use Rattle.std.proofs.lemmas.List.Elements.{All-cons, All-head, All-nil, All-tail, All-weaker}
use Rattle.fsm_base.specs.Alphabet.{text_of}
use Rattle.fsm_base.specs.declared.letters.Bound.{Bound}
use Rattle.fsm_base.specs.declared.letters.Pair.{Pair}
use Rattle.word_relations.specs.Words.{IsOver}
use Rattle.word_relations.proofs.Members.{Contains-head, Contains-map, Contains-map_cases, Contains-tail}
use Rattle.grammar_pairs.specs.Texts.{letter_in}
use Rattle.pair_test.specs.Ready.{AreTests, IsRuleTest, Pairwise}
use Rattle.pair_test.specs.Rules.{IsVerdictOn}
use Rattle.pair_test.specs.Tests.{placed_letters}
use Rattle.pair_test.specs.Verdicts.{IsVerdict}
use Rattle.pair_test.specs.declared.ready.RuleTest.{RuleTest}
use Rattle.pair_test.specs.declared.verdict.Verdict.{Verdict}
use Rattle.pair_test.specs.declared.verdict.Verdict.TheVariants.{Pass, Fail}
use Rattle.project_meaning.specs.Grammars.{Letter, feasible}
use Rattle.project_meaning.specs.Leaves.{Leaf}
use Rattle.project_meaning.specs.Trees.{Grammar, Rule}
use Rattle.project_meaning.specs.Projects.{Project}
use Rattle.regex_ast.specs.declared.expr.Raw.{Raw}
use Rattle.regex_ast.specs.declared.twolc.PairAtom.{PairAtom}
use Rattle.reply_meaning.specs.Replies.{headed}
use Rattle.twolc_expressions.specs.Views.{pair_view}
use Rattle.two_level.specs.declared.rule.LangRule.{LangRule}
use Rattle.pair_lines.specs.Numbers.{IsAmong, IsNumbered, IsWithin, pair_in, verdict_line}
use Rattle.pair_lines.specs.Ready.{AreOfGrammar, AreReady, PairRulesView, ShowsRules}
use Rattle.pair_lines.specs.Replies.{IsFirstOutside, IsRuleBrokenAt, RepliesToString, RepliesToText, no_pair, passes, fails, string}
use Rattle.pair_lines.specs.Strings.{IsPairString, letter_of}
use Rattle.pair_lines.specs.declared.numbers.Numbered.TheVariants.{Outside}
use Rattle.pair_lines.proofs.Numbering.{pair_back, pair_told}
use Rattle.pair_lines.proofs.Verdicts.{verdict_in_texts}

-- A word of the feasible pairs is over those of the tests.
pub over_tests : (ready : PairRulesView) → AreReady ready → (word : List Pair) → IsOver ready.pairs word → IsOver ready.tests.pairs word
over_tests ready is word over = All-weaker (Contains ready.pairs) (Contains ready.tests.pairs) is.over word over

tests_length : (letters : List (Bound Pair)) (rules : List LangRule) (tests : List RuleTest) → Pairwise (IsRuleTest letters) rules tests → length rules ≡ length tests
tests_length letters [] [] all = refl
tests_length letters [] (t ∷ tests) all = absurd all
tests_length letters (r ∷ rules) [] all = absurd all
tests_length letters (r ∷ rules) (t ∷ tests) (first, rest) = ap suc (tests_length letters rules tests rest)

pub few_tests : (ready : PairRulesView) → AreReady ready → length ready.tests.rules < 2 ^ 32
few_tests ready is =
    let (pairs, rules, tests, count) = is.made in
    let same = tests_length (placed_letters ready.tests.pairs) rules ready.tests.rules tests.rules_are in
    let few = is.few in
    omega (arith, same, count, few)

-- a verdict has the number of one of the names
pub verdict_within : (ready : PairRulesView) → AreReady ready → (word : List Pair) (verdict : Verdict) → ((pairs : List Pair) (rules : List LangRule) → AreTests pairs rules ready.tests → IsVerdictOn rules word verdict) → IsWithin (length ready.rules) verdict
verdict_within ready is word Pass tells = tt
verdict_within ready is word (Fail rule place) tells =
    let (pairs, rules, tests, count) = is.made in
    let first = tells pairs rules tests in
    let size = length-append first.before (first.broken ∷ first.behind) in
    let whole = ap (λ (z : List LangRule). length z) first.rules_are in
    (length first.before, length first.behind, first.number_is, omega (arith, size, whole, count))

-- The name of a rule by its number.

name_at : (before behind : List (Rule Leaf)) (broken : Rule Leaf) → slice_index_or (map (λ (r : Rule Leaf). r.name) (before ++ broken ∷ behind)) (length before) [] ≡ broken.name
name_at [] behind broken = refl
name_at (r ∷ before) behind broken = name_at before behind broken

named : (rules before behind : List (Rule Leaf)) (broken : Rule Leaf) (number : ℕ) → rules ≡ before ++ broken ∷ behind → number ≡ length before + 1 → slice_index_or (map (λ (r : Rule Leaf). r.name) rules) (number - 1) [] ≡ broken.name
named rules before behind broken number is count =
    let place : number - 1 ≡ length before = omega (arith, count) in
    (λ i. slice_index_or (map (λ (r : Rule Leaf). r.name) (is i)) (place i) []) ∙ name_at before behind broken

module _ (g : Grammar Leaf) (ready : PairRulesView) (o : AreOfGrammar g ready) where
  abbrev Known : Letter → Type 0
  Known x = IsAmong ready.numbers ready.pairs x

  known_there : (x : Letter) → Known x → Contains (feasible g) x
  known_there x (y, is, among) =
      (o.stand.0.pairs_are x).1
      (subst (Contains (map (letter_in (text_of o.alphabet)) o.pairs)) (pair_told o.alphabet o.formed ready.numbers o.numbers x y is) (Contains-map (letter_in (text_of o.alphabet)) o.pairs y ((o.pairs_are y).0 among)))

  known_back : (x : Letter) → Contains (feasible g) x → Known x
  known_back x among =
      let (y, there, is) = Contains-map_cases (letter_in (text_of o.alphabet)) o.pairs x ((o.stand.0.pairs_are x).0 among) in
      let own = (o.pairs_are y).1 there in
      (y, ap (pair_in ready.numbers) (sym is) ∙ pair_back o.alphabet o.formed ready.numbers o.numbers y (o.over y own), own)

  outside_told : (p : List Letter) (number : ℕ) → IsNumbered ready.numbers ready.pairs p (Outside number) → IsFirstOutside (feasible g) p number
  outside_told p number (before, x, behind, is, count, among, none) = record {
    before = before;
    outside = x;
    behind = behind;
    string_is = is;
    number_is = count;
    among = each before (λ y h. known_there y (among y h));
    not_among = λ h. none (known_back x h);
  }
    where
      each : (ys : List Letter) → ((y : Letter) → Contains ys y → Contains (feasible g) y) → IsOver (feasible g) ys
      each [] all = All-nil (Contains (feasible g))
      each (y ∷ ys) all = All-cons (Contains (feasible g)) y ys (all y (Contains-head y ys)) (each ys (λ z h. all z (Contains-tail y ys z h)))

  -- the letters are the word's, spelled
  spelled_word : (p : List Letter) (word : List Pair) → map (pair_in ready.numbers) p ≡ map (λ y. Some y) word → p ≡ map (letter_in (text_of o.alphabet)) word
  spelled_word [] [] same = refl
  spelled_word [] (y ∷ word) same = let clash : [] ≡ Some y ∷ map (λ z. Some z) word = same in absurd (cc)
  spelled_word (x ∷ p) [] same = let clash : pair_in ready.numbers x ∷ map (pair_in ready.numbers) p ≡ [] = same in absurd (cc)
  spelled_word (x ∷ p) (y ∷ word) same =
      let both : pair_in ready.numbers x ∷ map (pair_in ready.numbers) p ≡ Some y ∷ map (λ z. Some z) word = same in
      let head : pair_in ready.numbers x ≡ Some y = cc in
      let tail : map (pair_in ready.numbers) p ≡ map (λ z. Some z) word = cc in
      let first = pair_told o.alphabet o.formed ready.numbers o.numbers x y head in
      let rest = spelled_word p word tail in
      λ i. sym first i ∷ rest i

  feasible_word : (word : List Pair) → IsOver o.pairs word → IsOver (feasible g) (map (letter_in (text_of o.alphabet)) word)
  feasible_word [] over = All-nil (Contains (feasible g))
  feasible_word (y ∷ word) over =
      All-cons (Contains (feasible g)) (letter_in (text_of o.alphabet) y) (map (letter_in (text_of o.alphabet)) word)
      ((o.stand.0.pairs_are (letter_in (text_of o.alphabet) y)).1 (Contains-map (letter_in (text_of o.alphabet)) o.pairs y (All-head (Contains o.pairs) y word over)))
      (feasible_word word (All-tail (Contains o.pairs) y word over))

  pub outside_reply : (version : ℕ) (p : List Letter) (number : ℕ) (bytes : List ℕ) → IsNumbered ready.numbers ready.pairs p (Outside number) → bytes ≡ headed version (codes "pair " ++ decimal number) → RepliesToString g version p bytes
  outside_reply version p number bytes is line = no_pair number (outside_told p number is) line

  told : (version : ℕ) (p : List Letter) (bytes : List ℕ) (verdict : Verdict) → IsOver (feasible g) p → IsVerdict (IsRuleBrokenAt g p) g.rules verdict → bytes ≡ verdict_line version ready.rules verdict → RepliesToString g version p bytes
  told version p bytes Pass over is line = passes over is line
  told version p bytes (Fail rule place) over first line =
      let name : slice_index_or ready.rules (rule - 1) [] ≡ first.broken.name =
      ap (λ (z : List (List ℕ)). slice_index_or z (rule - 1) []) o.named ∙ named g.rules first.before first.behind first.broken rule first.rules_are first.number_is in
      fails rule place over first (line ∙ ap (λ (z : List ℕ). headed version (codes "fail " ++ decimal rule ++ 32 ∷ decimal place ++ 32 ∷ z)) name)

  pub word_reply : (version : ℕ) (p : List Letter) (word : List Pair) (bytes : List ℕ) (verdict : Verdict) → map (pair_in ready.numbers) p ≡ map (λ y. Some y) word → IsOver ready.pairs word
      → ((pairs : List Pair) (rules : List LangRule) → AreTests pairs rules ready.tests → IsVerdictOn rules word verdict) → bytes ≡ verdict_line version ready.rules verdict → RepliesToString g version p bytes
  word_reply version p word bytes verdict same over tells line =
      let own = All-weaker (Contains ready.pairs) (Contains o.pairs) (λ x h. (o.pairs_are x).0 h) word over in
      subst (λ (q : List Letter). RepliesToString g version q bytes) (sym (spelled_word p word same))
      (told version (map (letter_in (text_of o.alphabet)) word) bytes verdict (feasible_word word own)
      (verdict_in_texts (text_of o.alphabet) g o.pairs o.rules o.stand.0 word own o.stand.1 verdict (tells o.pairs o.rules o.tests)) line)

twice_mapped : {A B C : Type 0} (f : B → C) (h : A → B) (xs : List A) → map (λ x. f (h x)) xs ≡ map f (map h xs)
twice_mapped f h [] = refl
twice_mapped f h (x ∷ xs) = ap (λ z. f (h x) ∷ z) (twice_mapped f h xs)

-- the reply to a text that is a pair string
pub text_reply : (ready : PairRulesView) (project : Project) (version : ℕ) (line : List ℕ) (atoms : List (PairAtom Raw)) (bytes : List ℕ) (shown : ShowsRules ready project) → IsPairString line (map pair_view atoms)
    → RepliesToString shown.0 version (map (λ (p : PairAtom Raw). letter_of (pair_view p)) atoms) bytes → RepliesToText project version ready.name line bytes
text_reply ready project version line atoms bytes (g, has, own) is reply =
    string (map pair_view atoms) g is has (subst (λ (p : List Letter). RepliesToString g version p bytes) (twice_mapped letter_of pair_view atoms) reply)
