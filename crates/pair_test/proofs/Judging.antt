-- The first broken rule of a row.
use Rattle.std.proofs.Common.{◌≡◌, ◌<◌, ◌≤◌, ◌+◌, ℕ, List, [], ◌∷◌, ◌++◌, length, take, drop, get_or, sym, ap, subst, ◌∙◌, inl, inr, arith, length-append, take-append-drop, length-take-le}
use Rattle.std.specs.List.{Contains}
use Rattle.std.specs.Option.{option_to_list}
use Rattle.std.proofs.lemmas.List.{drop_more, take_all, take_more}
use Rattle.std.proofs.lemmas.List.Elements.{Contains-push_cases}
use Rattle.fsm_base.specs.declared.letters.Pair.{Pair}
use Rattle.word_relations.proofs.Members.{Contains-nil_cases}
use Rattle.pair_test.specs.Verdicts.{IsFirstBroken, IsLeast}
use Rattle.pair_test.specs.Tests.{IsBrokenBy}
use Rattle.pair_test.specs.declared.ready.RuleTest.{RuleTest}

module _ (word : List Pair) where
  -- a place is one more than a number of pairs before it
  pub broken_place : (t : RuleTest) (at : ℕ) → IsBrokenBy word t at → (k : ℕ) × (at ≡ k + 1) × (k ≤ length word)
  broken_place t at (x, filling, z, is, place, bad) =
      let long : length word ≡ length x + length (option_to_list filling ++ z) = ap length is ∙ length-append x (option_to_list filling ++ z) in
      (length x, place, omega (arith, long))

  pub none_before : (rules : List RuleTest) → (t : RuleTest) → Contains (take 0 rules) t → (at : ℕ) → IsBrokenBy word t at → ⊥
  none_before rules t among at broken = Contains-nil_cases t among

  pub one_more : (rules : List RuleTest) (i : ℕ) (r : RuleTest) → i < length rules → r ≡ get_or rules i r → ((t : RuleTest) → Contains (take i rules) t → (at : ℕ) → IsBrokenBy word t at → ⊥) → ((k : ℕ) → IsBrokenBy word r (k + 1) → ⊥)
      → (t : RuleTest) → Contains (take (i + 1) rules) t → (at : ℕ) → IsBrokenBy word t at → ⊥
  one_more rules i r within is kept free t among at broken =
      let longer : take (i + 1) rules ≡ take i rules ++ r ∷ [] = take_more rules i r within ∙ ap (λ (y : RuleTest). take i rules ++ y ∷ []) (sym is) in
      elim (Contains-push_cases (take i rules) r t (subst (λ (z : List RuleTest). Contains z t) longer among)) as (λ _. ⊥) [
        | inl before ↦ kept t before at broken
        | inr e ↦ let own : IsBrokenBy word r at = subst (λ (y : RuleTest). IsBrokenBy word y at) (sym e) broken in let p = broken_place r at own in free p.0 (subst (IsBrokenBy word r) p.1 own)
      ]

  pub all_kept : (rules : List RuleTest) (i : ℕ) → length rules ≤ i → ((t : RuleTest) → Contains (take i rules) t → (at : ℕ) → IsBrokenBy word t at → ⊥) → (t : RuleTest) → Contains rules t → (at : ℕ) → IsBrokenBy word t at → ⊥
  all_kept rules i most kept t among = kept t (subst (λ (z : List RuleTest). Contains z t) (sym (take_all i rules most)) among)

  pub first_is : (rules : List RuleTest) (i : ℕ) (r : RuleTest) (n : ℕ) → i < length rules → r ≡ get_or rules i r → ((t : RuleTest) → Contains (take i rules) t → (at : ℕ) → IsBrokenBy word t at → ⊥) → IsLeast (λ k. IsBrokenBy word r (k + 1)) n
      → IsFirstBroken (IsBrokenBy word) rules (i + 1) (n + 1)
  first_is rules i r n within is kept least =
      record {
        before = take i rules;
        broken = r;
        behind = drop (i + 1) rules;
        rules_are = sym (take-append-drop i rules) ∙ ap (λ (z : List RuleTest). take i rules ++ z) (drop_more rules i r within ∙ ap (λ (y : RuleTest). y ∷ drop (i + 1) rules) (sym is));
        number_is = ap (λ k. k + 1) (sym (length-take-le i rules (omega (arith, within))));
        kept = kept;
        place_is = record {
          holds = least.holds;
          least = λ other h. let p = broken_place r other h in let b : n ≤ p.0 = least.least p.0 (subst (IsBrokenBy word r) p.1 h) in let e : other ≡ p.0 + 1 = p.1 in omega (arith, b, e);
        };
      }
