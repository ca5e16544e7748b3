-- A test of whether two definitions are the same.
use Rattle.std.proofs.Common.{◌≡◌, ◌⊎◌, ℕ, zero, suc, List, Option, Some, None, refl, inl, inr}
use Rattle.regex_ast.specs.declared.lexc.FlagKind.{FlagKind}
use Rattle.regex_ast.specs.declared.lexc.FlagKind.TheVariants.{P, N, C, R, D, U}
use Rattle.regex_ast.specs.declared.twolc.RuleKind.{RuleKind}
use Rattle.regex_ast.specs.declared.twolc.RuleKind.TheVariants.{Only, Must, Both, Never}
use Rattle.regex_ast.specs.Terms.{Term}
use Rattle.project_meaning.specs.Trees.{Flag, Piece, letter, flag, Form, sides, pairs, Entry, Lexicon, Side, nothing, anything, one, member, Pair, Part, pair, called, Set, PairDefinition, Rule, Grammar, Body, xfst, lexc, twolc}
use Rattle.project_meaning.specs.Leaves.{Leaf, symbol, named}
use Rattle.project_meaning.specs.Projects.{Definition}
use Rattle.touched_names.proofs.Tests.{Test, known_by, number_test, text_test, list_test, both_test, either_test}
use Rattle.touched_names.proofs.Trees.{term_test, contexts_test}

-- kinds of flags and of rules, by numbers
abbrev flag_number : FlagKind → ℕ
flag_number P = 0
flag_number C = 1
flag_number R = 2
flag_number D = 3
flag_number U = 4
flag_number N = 5

abbrev flag_of : ℕ → FlagKind
flag_of zero = P
flag_of (suc zero) = C
flag_of (suc (suc zero)) = R
flag_of (suc (suc (suc zero))) = D
flag_of (suc (suc (suc (suc zero)))) = U
flag_of (suc (suc (suc (suc (suc n))))) = N

flag_back : (k : FlagKind) → flag_of (flag_number k) ≡ k
flag_back P = refl
flag_back C = refl
flag_back R = refl
flag_back D = refl
flag_back U = refl
flag_back N = refl

abbrev rule_number : RuleKind → ℕ
rule_number Only = 0
rule_number Must = 1
rule_number Both = 2
rule_number Never = 3

abbrev rule_of : ℕ → RuleKind
rule_of zero = Only
rule_of (suc zero) = Must
rule_of (suc (suc zero)) = Both
rule_of (suc (suc (suc n))) = Never

rule_back : (k : RuleKind) → rule_of (rule_number k) ≡ k
rule_back Only = refl
rule_back Must = refl
rule_back Both = refl
rule_back Never = refl

-- what may be there, as a choice of numbers or it
abbrev option_parts : {X : Type 0} → Option X → ℕ ⊎ X
option_parts None = inl 0
option_parts (Some x) = inr x

abbrev option_of : {X : Type 0} → ℕ ⊎ X → Option X
option_of (inl n) = None
option_of (inr x) = Some x

option_back : {X : Type 0} (o : Option X) → option_of (option_parts o) ≡ o
option_back None = refl
option_back (Some x) = refl

option_test : {X : Type 0} → Test X → Test (Option X)
option_test test = known_by option_parts option_of option_back (either_test number_test test)

abbrev leaf_parts : Leaf → List ℕ ⊎ List ℕ
leaf_parts (symbol text) = inl text
leaf_parts (named text) = inr text

abbrev leaf_by : List ℕ ⊎ List ℕ → Leaf
leaf_by (inl text) = symbol text
leaf_by (inr text) = named text

leaf_back : (a : Leaf) → leaf_by (leaf_parts a) ≡ a
leaf_back (symbol text) = refl
leaf_back (named text) = refl

leaf_test : Test Leaf
leaf_test = known_by leaf_parts leaf_by leaf_back (either_test text_test text_test)

-- lexicons
flag_test : Test Flag
flag_test =
    known_by (λ f. (f.kind, (f.feature, f.value))) (λ p. record { kind = p.0; feature = p.1.0; value = p.1.1 }) (λ f. refl)
    (both_test (known_by flag_number flag_of flag_back number_test) (both_test text_test (option_test text_test)))

module _ {A : Type 0} (leaf : Test A) where
  abbrev piece_parts : Piece A → A ⊎ Flag
  piece_parts (letter a) = inl a
  piece_parts (flag f) = inr f

  abbrev piece_by : A ⊎ Flag → Piece A
  piece_by (inl a) = letter a
  piece_by (inr f) = flag f

  piece_back : (p : Piece A) → piece_by (piece_parts p) ≡ p
  piece_back (letter a) = refl
  piece_back (flag f) = refl

  pieces_test : Test (List (Piece A))
  pieces_test = list_test (known_by piece_parts piece_by piece_back (either_test leaf flag_test))

  abbrev form_parts : Form A → (List (Piece A) × List (Piece A)) ⊎ Term A
  form_parts (sides upper lower) = inl (upper, lower)
  form_parts (pairs e) = inr e

  abbrev form_by : (List (Piece A) × List (Piece A)) ⊎ Term A → Form A
  form_by (inl s) = sides s.0 s.1
  form_by (inr e) = pairs e

  form_back : (f : Form A) → form_by (form_parts f) ≡ f
  form_back (sides upper lower) = refl
  form_back (pairs e) = refl

  form_test : Test (Form A)
  form_test = known_by form_parts form_by form_back (either_test (both_test pieces_test pieces_test) (term_test leaf))

  entry_test : Test (Entry A)
  entry_test = known_by (λ e. (e.form, e.next)) (λ p. record { form = p.0; next = p.1 }) (λ e. refl) (both_test form_test (option_test text_test))

  lexicon_test : Test (Lexicon A)
  lexicon_test = known_by (λ l. (l.name, l.entries)) (λ p. record { name = p.0; entries = p.1 }) (λ l. refl) (both_test text_test (list_test entry_test))

  -- grammars
  abbrev side_parts : Side A → ℕ ⊎ (A ⊎ List ℕ)
  side_parts nothing = inl 0
  side_parts anything = inl 1
  side_parts (one a) = inr (inl a)
  side_parts (member name) = inr (inr name)

  abbrev side_by : ℕ ⊎ (A ⊎ List ℕ) → Side A
  side_by (inl zero) = nothing
  side_by (inl (suc n)) = anything
  side_by (inr (inl a)) = one a
  side_by (inr (inr name)) = member name

  side_back : (s : Side A) → side_by (side_parts s) ≡ s
  side_back nothing = refl
  side_back anything = refl
  side_back (one a) = refl
  side_back (member name) = refl

  side_test : Test (Side A)
  side_test = known_by side_parts side_by side_back (either_test number_test (either_test leaf text_test))

  pair_test : Test (Pair A)
  pair_test = known_by (λ p. (p.up, p.low)) (λ q. record { up = q.0; low = q.1 }) (λ p. refl) (both_test side_test side_test)

  abbrev part_parts : Part A → Pair A ⊎ List ℕ
  part_parts (pair p) = inl p
  part_parts (called name) = inr name

  abbrev part_by : Pair A ⊎ List ℕ → Part A
  part_by (inl p) = pair p
  part_by (inr name) = called name

  part_back : (p : Part A) → part_by (part_parts p) ≡ p
  part_back (pair p) = refl
  part_back (called name) = refl

  part_test : Test (Part A)
  part_test = known_by part_parts part_by part_back (either_test pair_test text_test)

  set_test : Test (Set A)
  set_test = known_by (λ s. (s.name, s.symbols)) (λ p. record { name = p.0; symbols = p.1 }) (λ s. refl) (both_test text_test (list_test leaf))

  pairs_test : Test (PairDefinition A)
  pairs_test = known_by (λ d. (d.name, d.term)) (λ p. record { name = p.0; term = p.1 }) (λ d. refl) (both_test text_test (term_test part_test))

  rule_test : Test (Rule A)
  rule_test =
      known_by (λ r. ((r.name, r.centre), (r.kind, r.contexts))) (λ p. record { name = p.0.0; centre = p.0.1; kind = p.1.0; contexts = p.1.1 }) (λ r. refl)
      (both_test (both_test text_test pair_test) (both_test (known_by rule_number rule_of rule_back number_test) (contexts_test part_test)))

  grammar_test : Test (Grammar A)
  grammar_test =
      known_by (λ g. ((g.pairs, g.sets), (g.definitions, g.rules))) (λ p. record { pairs = p.0.0; sets = p.0.1; definitions = p.1.0; rules = p.1.1 }) (λ g. refl)
      (both_test (both_test (list_test pair_test) (list_test set_test)) (both_test (list_test pairs_test) (list_test rule_test)))

  abbrev body_parts : Body A → Term A ⊎ (List (Lexicon A) ⊎ Grammar A)
  body_parts (xfst e) = inl e
  body_parts (lexc lexicons) = inr (inl lexicons)
  body_parts (twolc grammar) = inr (inr grammar)

  abbrev body_by : Term A ⊎ (List (Lexicon A) ⊎ Grammar A) → Body A
  body_by (inl e) = xfst e
  body_by (inr (inl lexicons)) = lexc lexicons
  body_by (inr (inr grammar)) = twolc grammar

  body_back : (b : Body A) → body_by (body_parts b) ≡ b
  body_back (xfst e) = refl
  body_back (lexc lexicons) = refl
  body_back (twolc grammar) = refl

  body_test : Test (Body A)
  body_test = known_by body_parts body_by body_back (either_test (term_test leaf) (either_test (list_test lexicon_test) grammar_test))

pub definition_test : Test Definition
definition_test = known_by (λ d. (d.name, d.body)) (λ p. record { name = p.0; body = p.1 }) (λ d. refl) (both_test text_test (body_test leaf_test))
