-- The tokens of one statement, by the place of what ends it.
use Rattle.std.proofs.Common.{◌≡◌, ◌≤◌, ◌<◌, ◌+◌, ℕ, zero, suc, Bool, true, false, ◌||◌, cond, List, [], ◌∷◌, length, take, drop, get_or, None, Some, refl, sym, ap, subst, ◌∙◌, arith, add-one}
use Rattle.std.specs.List.{list_any, position, position_from}
use Rattle.std.proofs.Math.Seq.{take-suc, drop-length}
use Rattle.std.proofs.lemmas.List.{take-append-drop}
use Rattle.std.proofs.lemmas.List.Quantifiers.{position-Some}
use Rattle.std.proofs.lemmas.Iterator.Adapters.{position_from-zero}
use Rattle.twolc_tokens.specs.declared.token.Operator.TheVariants.{Semicolon}
use Rattle.twolc_tokens.specs.declared.token.Placed.{Placed}
use Rattle.twolc_tokens.specs.declared.token.Token.{Token}
use Rattle.twolc_tokens.specs.declared.token.Token.TheVariants.{Operator as operator}
use Rattle.twolc_grammar.specs.Sections.{IsEnded, begins_rule, is_quoted, is_semicolon, tokens_of}
use Rattle.twolc_reader.proofs.Fronts.{semicolon_is}
use Rattle.twolc_reader.specs.Reading.{IsEndedSplit, IsEndOfRule}

some_place : Placed
some_place = record { token = operator Semicolon; line = 1 }

or_false : (a b : Bool) → a ≡ false → b ≡ false → (a || b) ≡ false
or_false a b p q = rw (p, q) refl

-- Tests of tokens that stand somewhere.

none_taken : (f : Token → Bool) (d : Placed) (ps : List Placed) (k : ℕ) → k ≤ length ps → ((j : ℕ) → j < k → f (get_or ps j d).token ≡ false) → list_any f (tokens_of (take k ps)) ≡ false
none_taken f d ps zero low before = refl
none_taken f d [] (suc k) low before = absurd (omega arith)
none_taken f d (p ∷ ps) (suc k) low before = or_false _ _ (before 0 (omega arith)) (none_taken f d ps k (omega arith) (λ j h. before (suc j) (omega arith)))

none_from : (f : Token → Bool) (ps : List Placed) (i : ℕ) → position_from (λ (p : Placed). f p.token) i ps ≡ None → list_any f (tokens_of ps) ≡ false
none_from f [] i e = refl
none_from f (p ∷ ps) i e = by (f p.token) (none_from f ps (i + 1)) e
  where
    by : (b : Bool) → (position_from (λ (q : Placed). f q.token) (i + 1) ps ≡ None → list_any f (tokens_of ps) ≡ false) → cond b (Some i) (position_from (λ (q : Placed). f q.token) (i + 1) ps) ≡ None → (b || list_any f (tokens_of ps)) ≡ false
    by true more e = absurd cc
    by false more e = more e

none_there : (f : Token → Bool) (ps : List Placed) → None ≡ position (λ (p : Placed). f p.token) ps → list_any f (tokens_of ps) ≡ false
none_there f ps none = none_from f ps 0 (sym (position_from-zero (λ (p : Placed). f p.token) ps) ∙ sym none)

-- To the first `;`.

ended_front : (ps : List Placed) (k : ℕ) → Some k ≡ position (λ (p : Placed). is_semicolon p.token) ps → IsEnded (take (suc k) ps)
ended_front ps k first =
    let found = position-Some (λ (p : Placed). is_semicolon p.token) ps k some_place (sym first) in
    record {
      front = take k ps;
      last = get_or ps k some_place;
      whole = take-suc ps k some_place found.0;
      front_is = none_taken is_semicolon some_place ps k (omega (arith, found.0)) found.2;
      last_is = semicolon_is (get_or ps k some_place).token found.1;
    }

pub ended_there : (ps : List Placed) (k : ℕ) → Some k ≡ position (λ (p : Placed). is_semicolon p.token) ps → IsEndedSplit ps (Some (take (k + 1) ps, drop (k + 1) ps))
ended_there ps k first = (sym (take-append-drop (k + 1) ps), subst (λ n. IsEnded (take n ps)) (sym (add-one k)) (ended_front ps k first))

pub unended_there : (ps : List Placed) → None ≡ position (λ (p : Placed). is_semicolon p.token) ps → IsEndedSplit ps None
unended_there ps none = none_there is_semicolon ps none

-- To the next quoted text.

rule_behind : (d : Placed) (ps : List Placed) (k : ℕ) → k < length ps → is_quoted (get_or ps k d).token ≡ true → begins_rule (drop k ps) ≡ true
rule_behind d [] k low is = absurd (omega arith)
rule_behind d (p ∷ ps) zero low is = is
rule_behind d (p ∷ ps) (suc k) low is = rule_behind d ps k (omega arith) is

rule_to : (p : Placed) (more : List Placed) (k : ℕ) → Some k ≡ position (λ (q : Placed). is_quoted q.token) more → IsEndOfRule (p ∷ more) (suc k)
rule_to p more k first =
    let found = position-Some (λ (q : Placed). is_quoted q.token) more k some_place (sym first) in
    (omega (arith, found.0), (none_taken is_quoted some_place more k (omega (arith, found.0)) found.2, rule_behind some_place more k found.0 found.1))

module _ (tokens : List Placed) (p : Placed) (more : List Placed) (is : tokens ≡ p ∷ more) where
  pub rule_ended : (k : ℕ) → Some k ≡ position (λ (q : Placed). is_quoted q.token) more → IsEndOfRule tokens (k + 1)
  rule_ended k first = subst (λ ts. IsEndOfRule ts (k + 1)) (sym is) (subst (λ n. IsEndOfRule (p ∷ more) n) (sym (add-one k)) (rule_to p more k first))

  pub rule_last : None ≡ position (λ (q : Placed). is_quoted q.token) more → IsEndOfRule tokens (length tokens)
  rule_last none = subst (λ ts. IsEndOfRule ts (length ts)) (sym is) (omega arith, (subst (λ ts. list_any is_quoted (tokens_of ts) ≡ false) (sym (all_taken more)) (none_there is_quoted more none), subst (λ ts. begins_rule ts ≡ true) (sym (drop-length more)) refl))
    where
      all_taken : (ps : List Placed) → take (length ps) ps ≡ ps
      all_taken [] = refl
      all_taken (q ∷ ps) = ap (λ qs. q ∷ qs) (all_taken ps)
