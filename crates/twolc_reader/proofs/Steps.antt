-- Steps over the head words and statements of a text.
use Rattle.std.proofs.Common.{◌≡◌, ◌≢◌, ◌<◌, ◌⊎◌, inl, inr, ℕ, Bool, true, false, not, ◌||◌, List, [], ◌∷◌, ◌++◌, map, length, None, Some, Result, Ok, Err, refl, sym, ap, subst, ◌∙◌, arith, cond, append-nil, length-append}
use Rattle.std.specs.List.{list_any}
use Rattle.std.specs.Prelude.{⊤}
use Rattle.regex_ast.specs.declared.expr.Raw.{Raw}
use Rattle.regex_ast.specs.declared.fault.ReadError.{ReadError}
use Rattle.regex_ast.specs.declared.fault.ReadError.TheVariants.{Fault, Memory}
use Rattle.regex_ast.specs.declared.fault.Why.{Why}
use Rattle.regex_ast.specs.declared.fault.Why.TheVariants as why
use Rattle.regex_reader.specs.Files.{FaultAt}
use Rattle.regex_tokens.specs.declared.token.Ending.{Ending}
use Rattle.regex_tokens.specs.declared.token.Ending.TheVariants.{Whole, NoToken}
use Rattle.project_meaning.specs.Trees.{Grammar}
use Rattle.twolc_tokens.specs.declared.token.Operator.TheVariants.{Semicolon}
use Rattle.twolc_tokens.specs.declared.token.Placed.{Placed}
use Rattle.twolc_tokens.specs.declared.token.Token.{Token}
use Rattle.twolc_tokens.specs.declared.token.Token.TheVariants.{Operator as operator, Atom as atom}
use Rattle.twolc_grammar.specs.Atoms.{Names}
use Rattle.twolc_grammar.specs.Sections.{Stage, within, State, Says, head, strange, no_token, unended, read, refused, IsOne, fault_at, is_open, is_quoted, is_semicolon, leads, may_begin, names_of, stage_behind, tokens_of, with_statement}
use Rattle.twolc_grammar.specs.Statements.{Section, in_alphabet, in_sets, in_definitions, in_rules, Statement, alphabet, set, definition, IsStatement, Verdict, deep, unread, is_too_deep}
use Rattle.twolc_reader.specs.Reading.{LeadsTo, broken_at, may_begin_in, open_fault}

-- a state by its parts
abbrev pub at : Stage → Grammar Raw → List Placed → Ending → State
at stage g rest ending = record { stage = stage; grammar = g; rest = rest; ending = ending }

pub stays : (s : State) → LeadsTo s s
stays s = λ answer says. says

pub then_leads : (s t u : State) → LeadsTo s t → LeadsTo t u → LeadsTo s u
then_leads s t u first second = λ answer says. first answer (second answer says)

module _ (stage : Stage) (g : Grammar Raw) (tokens : List Placed) (p : Placed) (more : List Placed) (ending : Ending) (is : tokens ≡ p ∷ more) where
  pub head_leads : (section : Section) → leads stage p.token ≡ Some section → LeadsTo (at stage g tokens ending) (at (within section) g more ending)
  head_leads section led = λ answer says. subst (λ ts. Says (at stage g ts ending) answer) (sym is) (head stage g p more ending section answer led says)

  pub strange_there : leads stage p.token ≡ None → may_begin stage p.token ≡ false → Says (at stage g tokens ending) (fault_at p.line why.Statement)
  strange_there none may_not = subst (λ ts. Says (at stage g ts ending) (fault_at p.line why.Statement)) (sym is) (strange stage g p more ending none may_not)

-- A statement without a `;`.

semicolon_there : (front : List Token) → list_any is_semicolon (front ++ operator Semicolon ∷ []) ≡ true
semicolon_there [] = refl
semicolon_there (t ∷ front) = or_right (is_semicolon t) (list_any is_semicolon (front ++ operator Semicolon ∷ [])) (semicolon_there front)
  where
    or_right : (a b : Bool) → b ≡ true → (a || b) ≡ true
    or_right true b e = refl
    or_right false b e = e

ended_so : (tokens front : List Token) → tokens ≡ front ++ operator Semicolon ∷ [] → list_any is_semicolon tokens ≡ true
ended_so tokens front e = ap (list_any is_semicolon) e ∙ semicolon_there front

-- every statement but a rule has one
has_semicolon : (names : Names) (section : Section) (tokens : List Token) (s : Statement) → section ≢ in_rules → IsStatement names section tokens s → list_any is_semicolon tokens ≡ true
has_semicolon names in_alphabet tokens (alphabet pairs) no_rule (atoms, list, said) = ended_so tokens (map atom atoms) list
has_semicolon names in_sets tokens (set s) no_rule h = ap (list_any is_semicolon) h.2.0 ∙ ended_so h.0 (map atom h.1) h.3
has_semicolon names in_definitions tokens (definition d) no_rule h = ap (list_any is_semicolon) h.1.0 ∙ semicolon_there h.0
has_semicolon names in_rules tokens s no_rule h = absurd (no_rule refl)
has_semicolon names section tokens s no_rule h = absurd h

no_statement : (names : Names) (section : Section) (tokens : List Token) → section ≢ in_rules → list_any is_semicolon tokens ≡ false → (s : Statement) → IsStatement names section tokens s → ⊥
no_statement names section tokens no_rule none s h = let clash : false ≡ true = sym none ∙ has_semicolon names section tokens s no_rule h in cc

open_verdict : (names : Names) (section : Section) (tokens : List Token) (b : Bool) → section ≢ in_rules → list_any is_semicolon tokens ≡ false → is_too_deep 0 tokens ≡ b → Verdict names section tokens (Err (cond b why.LimitNesting why.Statement))
open_verdict names section tokens true no_rule none e = deep e
open_verdict names section tokens false no_rule none e = unread e (no_statement names section tokens no_rule none)

is_open_there : (section : Section) (p : Placed) (more : List Placed) → section ≢ in_rules → list_any is_semicolon (tokens_of (p ∷ more)) ≡ false → is_open section p more ≡ true
is_open_there in_alphabet p more no_rule none = ap not none
is_open_there in_sets p more no_rule none = ap not none
is_open_there in_definitions p more no_rule none = ap not none
is_open_there in_rules p more no_rule none = absurd (no_rule refl)

-- a fault that a state says, or want of memory
abbrev pub SaysError : State → ReadError → Type 0
SaysError s (Fault line reason) = Says s (fault_at line reason)
SaysError s (Memory error) = ⊤

module _ (section : Section) (g : Grammar Raw) (tokens : List Placed) (p : Placed) (more : List Placed) (is : tokens ≡ p ∷ more) (not_led : leads (within section) p.token ≡ None) (may : may_begin (within section) p.token ≡ true) where
  no_token_there : (line : ℕ) → is_open section p more ≡ true → Says (at (within section) g tokens (NoToken line)) (fault_at line why.Token)
  no_token_there line left_open = subst (λ ts. Says (at (within section) g ts (NoToken line)) (fault_at line why.Token)) (sym is) (no_token section g p more line not_led may left_open)

  pub open_there : (ending : Ending) → section ≢ in_rules → list_any is_semicolon (tokens_of tokens) ≡ false → SaysError (at (within section) g tokens ending) (open_fault p.line (tokens_of tokens) ending)
  open_there (NoToken line) no_rule none = no_token_there line (is_open_there section p more no_rule (sym (ap (λ ts. list_any is_semicolon (tokens_of ts)) is) ∙ none))
  open_there Whole no_rule none = subst (λ ts. Says (at (within section) g ts Whole) (fault_at p.line (cond (is_too_deep 0 (tokens_of ts)) why.LimitNesting why.Statement))) (sym is)
      (unended section g p more (cond (is_too_deep 0 (tokens_of (p ∷ more))) why.LimitNesting why.Statement) no_rule not_led may (is_open_there section p more no_rule here) (open_verdict (names_of g) section (tokens_of (p ∷ more)) (is_too_deep 0 (tokens_of (p ∷ more))) no_rule here refl))
    where
      here : list_any is_semicolon (tokens_of (p ∷ more)) ≡ false
      here = sym (ap (λ ts. list_any is_semicolon (tokens_of ts)) is) ∙ none

-- The tokens of a statement.

not_ended : (front : List Placed) (last : Placed) → [] ≡ front ++ last ∷ [] → ⊥
not_ended [] last e = cc
not_ended (q ∷ front) last e = cc

none_is_one : (section : Section) (rest : List Placed) → IsOne section [] rest → ⊥
none_is_one in_alphabet rest h = not_ended h.front h.last h.whole
none_is_one in_sets rest h = not_ended h.front h.last h.whole
none_is_one in_definitions rest h = not_ended h.front h.last h.whole
none_is_one in_rules rest h = h

heads : (p q : Placed) (xs ys : List Placed) → p ∷ xs ≡ q ∷ ys → p ≡ q
heads p q xs ys e = cc

pub one_begins : (section : Section) (one rest : List Placed) (p : Placed) (more : List Placed) → one ++ rest ≡ p ∷ more → IsOne section one rest → (inner : List Placed) × (one ≡ p ∷ inner)
one_begins section [] rest p more e h = absurd (none_is_one section rest h)
one_begins section (q ∷ inner) rest p more e h = (inner, ap (λ x. x ∷ inner) (heads q p (inner ++ rest) more e))

-- a statement that a place without a token doesn't belong to
ends_here : (section : Section) (rest : List Placed) (ending : Ending) → broken_at section rest ending ≡ None → (rest ≢ []) ⊎ ((ending ≡ Whole) ⊎ (section ≢ in_rules))
ends_here section (p ∷ rest) ending e = inl (λ h. cc)
ends_here section [] Whole e = inr (inl refl)
ends_here in_alphabet [] (NoToken line) e = inr (inr (λ h. cc))
ends_here in_sets [] (NoToken line) e = inr (inr (λ h. cc))
ends_here in_definitions [] (NoToken line) e = inr (inr (λ h. cc))
ends_here in_rules [] (NoToken line) e = absurd cc

module _ (section : Section) (g : Grammar Raw) (tokens : List Placed) (p : Placed) (more : List Placed) (is : tokens ≡ p ∷ more) (not_led : leads (within section) p.token ≡ None) (may : may_begin (within section) p.token ≡ true)
    (one rest : List Placed) (ending : Ending) (split : tokens ≡ one ++ rest) (whole : IsOne section one rest) where
  begins : (inner : List Placed) × (one ≡ p ∷ inner)
  begins = one_begins section one rest p more (sym split ∙ is) whole

  tokens_are : p ∷ (begins.0 ++ rest) ≡ tokens
  tokens_are = sym (split ∙ ap (λ xs. xs ++ rest) begins.1)

  whole_is : IsOne section (p ∷ begins.0) rest
  whole_is = subst (λ xs. IsOne section xs rest) begins.1 whole

  pub read_on : (s : Statement) → broken_at section rest ending ≡ None → Verdict (names_of g) section (tokens_of one) (Ok s) → LeadsTo (at (within section) g tokens ending) (at (stage_behind section) (with_statement g s) rest ending)
  read_on s ends verdict = λ answer says.
      subst (λ ts. Says (at (within section) g ts ending) answer) tokens_are
      (read section g p begins.0 rest ending s answer not_led may whole_is (ends_here section rest ending ends) (subst (λ xs. Verdict (names_of g) section (tokens_of xs) (Ok s)) begins.1 verdict) says)

  pub refused_there : (reason : Why) → broken_at section rest ending ≡ None → Verdict (names_of g) section (tokens_of one) (Err reason) → Says (at (within section) g tokens ending) (fault_at p.line reason)
  refused_there reason ends verdict =
      subst (λ ts. Says (at (within section) g ts ending) (fault_at p.line reason)) tokens_are
      (refused section g p begins.0 rest ending reason not_led may whole_is (ends_here section rest ending ends) (subst (λ xs. Verdict (names_of g) section (tokens_of xs) (Err reason)) begins.1 verdict))

-- A place without a token that a rule may go on to.

tails : (p q : Placed) (xs ys : List Placed) → p ∷ xs ≡ q ∷ ys → xs ≡ ys
tails p q xs ys e = cc

rule_is_open : (p : Placed) (more one : List Placed) → p ∷ more ≡ one ++ [] → IsOne in_rules one [] → is_open in_rules p more ≡ true
rule_is_open p more [] e h = absurd h
rule_is_open p more (q ∷ inner) e h =
    let same : more ≡ inner = tails p q more (inner ++ []) e ∙ append-nil inner in ap not (ap (λ ps. list_any is_quoted (tokens_of ps)) same ∙ h.0)

some_same : (k l : ℕ) → Some k ≡ Some l → k ≡ l
some_same k l e = cc

broken_there : (section : Section) (g : Grammar Raw) (tokens : List Placed) (p : Placed) (more : List Placed) → tokens ≡ p ∷ more → leads (within section) p.token ≡ None → may_begin (within section) p.token ≡ true
    → (one behind : List Placed) (ending : Ending) → tokens ≡ one ++ behind → IsOne section one behind → (line : ℕ) → Some line ≡ broken_at section behind ending → Says (at (within section) g tokens ending) (fault_at line why.Token)
broken_there in_rules g tokens p more is not_led may one [] (NoToken place) split whole line e =
    subst (λ n. Says (at (within in_rules) g tokens (NoToken place)) (fault_at n why.Token)) (sym (some_same line place e))
    (no_token_there in_rules g tokens p more is not_led may place (rule_is_open p more one (sym is ∙ split) whole))
broken_there in_rules g tokens p more is not_led may one [] Whole split whole line e = absurd cc
broken_there in_rules g tokens p more is not_led may one (q ∷ behind) ending split whole line e = absurd cc
broken_there in_alphabet g tokens p more is not_led may one behind ending split whole line e = absurd cc
broken_there in_sets g tokens p more is not_led may one behind ending split whole line e = absurd cc
broken_there in_definitions g tokens p more is not_led may one behind ending split whole line e = absurd cc

-- The same at a stage that is within a section.

module _ (stage : Stage) (section : Section) (here : stage ≡ within section) (g : Grammar Raw) (tokens : List Placed) (p : Placed) (more : List Placed) (ending : Ending) (is : tokens ≡ p ∷ more) (none : None ≡ leads stage p.token) (may : may_begin_in section p.token ≡ true) where
  not_led : leads (within section) p.token ≡ None
  not_led = subst (λ s. leads s p.token ≡ None) here (sym none)

  says_here : (answer : Result (Grammar Raw) FaultAt) → Says (at (within section) g tokens ending) answer → Says (at stage g tokens ending) answer
  says_here answer says = subst (λ s. Says (at s g tokens ending) answer) (sym here) says

  pub open_at : (section ≢ in_rules) × (list_any is_semicolon (tokens_of tokens) ≡ false) → SaysError (at stage g tokens ending) (open_fault p.line (tokens_of tokens) ending)
  open_at (no_rule, bare) = subst (λ s. SaysError (at s g tokens ending) (open_fault p.line (tokens_of tokens) ending)) (sym here) (open_there section g tokens p more is not_led may ending no_rule bare)

  module _ (one behind : List Placed) (whole : (tokens ≡ one ++ behind) × IsOne section one behind) where
    pub broken_here : (line : ℕ) → Some line ≡ broken_at section behind ending → Says (at stage g tokens ending) (fault_at line why.Token)
    broken_here line e = says_here (fault_at line why.Token) (broken_there section g tokens p more is not_led may one behind ending whole.0 whole.1 line e)

    module _ (names : Names) (known : names ≡ names_of g) (ends : None ≡ broken_at section behind ending) where
      pub refused_here : (line : ℕ) (reason : Why) → (line ≡ p.line) × Verdict names section (tokens_of one) (Err reason) → Says (at stage g tokens ending) (fault_at line reason)
      refused_here line reason (place, verdict) =
          subst (λ n. Says (at stage g tokens ending) (fault_at n reason)) (sym place)
          (says_here (fault_at p.line reason) (refused_there section g tokens p more is not_led may one behind ending whole.0 whole.1 reason (sym ends) (subst (λ n. Verdict n section (tokens_of one) (Err reason)) known verdict)))

      pub read_here : (s : Statement) (next : Stage) (new : Grammar Raw) → Verdict names section (tokens_of one) (Ok s) → next ≡ stage_behind section → new ≡ with_statement g s → LeadsTo (at stage g tokens ending) (at next new behind ending)
      read_here s next new verdict next_is new_is = λ answer says.
          says_here answer (read_on section g tokens p more is not_led may one behind ending whole.0 whole.1 s (sym ends) (subst (λ n. Verdict n section (tokens_of one) (Ok s)) known verdict) answer
          (subst (λ x. Says (at x (with_statement g s) behind ending) answer) next_is (subst (λ x. Says (at next x behind ending) answer) new_is says)))

    pub behind_shorter : length behind < length tokens
    behind_shorter =
        let begun = one_begins section one behind p more (sym whole.0 ∙ is) whole.1 in omega (arith, ap length whole.0, length-append one behind, ap length begun.1)
