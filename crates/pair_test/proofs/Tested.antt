-- Tests break where their rules do.
use Rattle.std.proofs.Common.{◌≡◌, ◌<◌, ◌+◌, ◌↔◌, ℕ, suc, List, Option, [], ◌∷◌, ◌++◌, length, take, get_or, reverse, refl, sym, ap, subst, ◌∙◌, inl, inr}
use Rattle.std.specs.List.{All, Contains}
use Rattle.std.specs.Option.{option_to_list}
use Rattle.std.proofs.lemmas.List.{take_more}
use Rattle.std.proofs.lemmas.List.Elements.{All-nil, All-cons, All-head, All-tail}
use Rattle.fsm_base.specs.declared.letters.Pair.{Pair}
use Rattle.fsm_base.specs.declared.letters.Bound.{Bound}
use Rattle.fsm_base.specs.declared.letters.Bound.TheVariants.{Edge}
use Rattle.word_relations.specs.Words.{IsOver}
use Rattle.word_relations.proofs.Members.{Contains-cons_cases, Contains-head, Contains-nil_cases, Contains-tail}
use Rattle.fsa.specs.Complete.{Accepts}
use Rattle.regex_ast.specs.declared.twolc.RuleKind.{RuleKind}
use Rattle.expr_meaning.specs.Operators.{HasPrefix, HasSuffix, inner}
use Rattle.two_level.specs.Rules.{Holds, IsRuleOver}
use Rattle.two_level.specs.declared.rule.LangRule.{LangRule}
use Rattle.two_level.specs.declared.rule.PairContext.{PairContext}
use Rattle.pair_test.specs.Splits.{IsBad}
use Rattle.pair_test.specs.Verdicts.{IsVerdict}
use Rattle.pair_test.specs.Tests.{HoldsBy, HoldsOne, IsBrokenBy, edge_before, placed_letters}
use Rattle.pair_test.specs.Rules.{IsRuleBrokenAt}
use Rattle.pair_test.specs.Ready.{IsContextTest, IsRuleTest, IsWithin, Pairwise}
use Rattle.pair_test.specs.declared.ready.ContextTest.{ContextTest}
use Rattle.pair_test.specs.declared.ready.RuleTest.{RuleTest}
use Rattle.pair_test.specs.declared.verdict.Verdict.{Verdict}
use Rattle.pair_test.specs.declared.verdict.Verdict.TheVariants.{Pass, Fail}
use Rattle.pair_test.proofs.Endings.{edge_reverse}
use Rattle.pair_test.proofs.Placed.{All-reverse, edge_over, placed_among}

-- Pairs of elements.

module _ {A B : Type 0} (R : A → B → Type 0) where
  pub pair_right : (xs : List A) (ys : List B) → Pairwise R xs ys → (y : B) → Contains ys y → (x : A) × Contains xs x × R x y
  pair_right [] [] all y among = absurd (Contains-nil_cases y among)
  pair_right [] (b ∷ ys) all y among = absurd all
  pair_right (a ∷ xs) [] all y among = absurd all
  pair_right (a ∷ xs) (b ∷ ys) (first, rest) y among =
      elim (Contains-cons_cases b ys y among) as (λ _. (x : A) × Contains (a ∷ xs) x × R x y) [
        | inl is ↦ (a, Contains-head a xs, subst (R a) is first)
        | inr more ↦ let r = pair_right xs ys rest y more in (r.0, Contains-tail a xs r.0 r.1, r.2)
      ]

  pub pair_left : (xs : List A) (ys : List B) → Pairwise R xs ys → (x : A) → Contains xs x → (y : B) × Contains ys y × R x y
  pair_left [] [] all x among = absurd (Contains-nil_cases x among)
  pair_left [] (b ∷ ys) all x among = absurd all
  pair_left (a ∷ xs) [] all x among = absurd all
  pair_left (a ∷ xs) (b ∷ ys) (first, rest) x among =
      elim (Contains-cons_cases a xs x among) as (λ _. (y : B) × Contains (b ∷ ys) y × R x y) [
        | inl is ↦ (b, Contains-head b ys, subst (λ (z : A). R z b) is first)
        | inr more ↦ let r = pair_left xs ys rest x more in (r.0, Contains-tail b ys r.0 r.1, r.2)
      ]

  pub pair_length : (xs : List A) (ys : List B) → Pairwise R xs ys → length xs ≡ length ys
  pair_length [] [] all = refl
  pair_length [] (b ∷ ys) all = absurd all
  pair_length (a ∷ xs) [] all = absurd all
  pair_length (a ∷ xs) (b ∷ ys) (first, rest) = ap suc (pair_length xs ys rest)

  pair_more : (xs : List A) (ys : List B) (x : A) (y : B) → Pairwise R xs ys → R x y → Pairwise R (xs ++ x ∷ []) (ys ++ y ∷ [])
  pair_more [] [] x y all here = (here, tt)
  pair_more [] (b ∷ ys) x y all here = absurd all
  pair_more (a ∷ xs) [] x y all here = absurd all
  pair_more (a ∷ xs) (b ∷ ys) x y (first, rest) here = (first, pair_more xs ys x y rest here)

  pub pairs_more : (xs : List A) (i : ℕ) (x : A) (ys new : List B) (y : B) → i < length xs → x ≡ get_or xs i x → Pairwise R (take i xs) ys → R x y → new ≡ ys ++ y ∷ [] → Pairwise R (take (i + 1) xs) new
  pairs_more xs i x ys new y below is all here new_is =
      let longer : take (i + 1) xs ≡ take i xs ++ x ∷ [] = take_more xs i x below ∙ ap (λ (z : A). take i xs ++ z ∷ []) (sym is) in
      subst (λ (z : List B). Pairwise R (take (i + 1) xs) z) (sym new_is) (subst (λ (z : List A). Pairwise R z (ys ++ y ∷ [])) (sym longer) (pair_more (take i xs) ys x y all here))

  -- a row that goes with a row in two parts
  pub record IsCut (xs : List A) (before : List B) (y : B) (behind : List B) : Type 0 where
    pub front : List A
    pub one : A
    pub back : List A
    pub is : xs ≡ front ++ one ∷ back
    pub before_are : Pairwise R front before
    pub one_is : R one y
    pub behind_are : Pairwise R back behind

  pub cut : (xs : List A) (before : List B) (y : B) (behind : List B) → Pairwise R xs (before ++ y ∷ behind) → IsCut xs before y behind
  cut [] [] y behind all = absurd all
  cut [] (b ∷ before) y behind all = absurd all
  cut (x ∷ xs) [] y behind (first, rest) = record { front = []; one = x; back = xs; is = refl; before_are = tt; one_is = first; behind_are = rest }
  cut (x ∷ xs) (b ∷ before) y behind (first, rest) =
      let c = cut xs before y behind rest in
      record { front = x ∷ c.front; one = c.one; back = c.back; is = ap (λ (z : List A). x ∷ z) c.is; before_are = (first, c.before_are); one_is = c.one_is; behind_are = c.behind_are }

  -- verdicts on rows that go together
  module _ (BrokenFirst : A → ℕ → Type 0) (BrokenSecond : B → ℕ → Type 0) (same : (x : A) (y : B) → R x y → (at : ℕ) → BrokenSecond y at ↔ BrokenFirst x at) where
    pub verdict_same : (xs : List A) (ys : List B) → Pairwise R xs ys → (verdict : Verdict) → IsVerdict BrokenSecond ys verdict → IsVerdict BrokenFirst xs verdict
    verdict_same xs ys all Pass kept = λ x among at broken. let r = pair_left xs ys all x among in kept r.0 r.1 at ((same x r.0 r.2 at).1 broken)
    verdict_same xs ys all (Fail rule place) first =
        let c = cut xs first.before first.broken first.behind (subst (Pairwise R xs) first.rules_are all) in
        record {
          before = c.front;
          broken = c.one;
          behind = c.back;
          rules_are = c.is;
          number_is = first.number_is ∙ ap (λ n. n + 1) (sym (pair_length c.front first.before c.before_are));
          kept = λ x among at broken. let r = pair_left c.front first.before c.before_are x among in first.kept r.0 r.1 at ((same x r.0 r.2 at).1 broken);
          place_is = record {
            holds = (same c.one first.broken c.one_is place).0 first.place_is.holds;
            least = λ other broken. first.place_is.least other ((same c.one first.broken c.one_is other).1 broken);
          };
        }

-- Contexts and rules.

front_over : {X : Type 0} (P : X → Type 0) (xs ys : List X) → All P (xs ++ ys) → All P xs
front_over P [] ys all = All-nil P
front_over P (x ∷ xs) ys all = All-cons P x xs (All-head P x (xs ++ ys) all) (front_over P xs ys (All-tail P x (xs ++ ys) all))

back_over : {X : Type 0} (P : X → Type 0) (xs ys : List X) → All P (xs ++ ys) → All P ys
back_over P [] ys all = all
back_over P (x ∷ xs) ys all = back_over P xs ys (All-tail P x (xs ++ ys) all)

module _ (keys : List Pair) where
  one_same : (c : PairContext) (t : ContextTest) → IsContextTest (placed_letters keys) c t → (x z : List Pair) → IsOver keys x → IsOver keys z
      → HoldsOne t x z ↔ (HasSuffix (Accepts c.left) (edge_before x) × HasPrefix (Accepts c.right) (inner z ++ Edge ∷ []))
  one_same c t is x z over_x over_z =
      let first = is.before (edge_before x) (edge_over keys x over_x) in
      let second = is.behind (edge_before (reverse z)) (edge_over keys (reverse z) (All-reverse (Contains keys) z over_z)) in
      let turned = edge_reverse z in (
        λ h. (first.0 h.0, subst (HasPrefix (Accepts c.right)) turned (second.0 h.1)),
        λ h. (first.1 h.0, second.1 (subst (HasPrefix (Accepts c.right)) (sym turned) h.1)),
      )

  holds_same : (contexts : List PairContext) (tests : List ContextTest) → Pairwise (IsContextTest (placed_letters keys)) contexts tests → (x z : List Pair) → IsOver keys x → IsOver keys z → HoldsBy tests x z ↔ Holds contexts x z
  holds_same contexts tests all x z over_x over_z = (
    λ h. let r = pair_right (IsContextTest (placed_letters keys)) contexts tests all h.0 h.1 in
        let k = (one_same r.0 h.0 r.2 x z over_x over_z).0 h.2 in (r.0, r.1, k.0, k.1),
    λ h. let r = pair_left (IsContextTest (placed_letters keys)) contexts tests all h.0 h.1 in (r.0, r.1, (one_same h.0 r.0 r.2 x z over_x over_z).1 (h.2, h.3)),
  )

  bad_by : (kind : RuleKind) (centre : Pair) (filling : Option Pair) (P Q : Type 0) → (P ↔ Q) → IsBad (λ (x : Pair). x.up) (λ x. x.low) kind centre filling P → IsBad (λ (x : Pair). x.up) (λ x. x.low) kind centre filling Q
  bad_by kind centre filling P Q same bad =
      elim bad as (λ _. IsBad (λ (x : Pair). x.up) (λ x. x.low) kind centre filling Q) [
        | inl h ↦ inl (h.0, λ q. h.1 (same.1 q))
        | inr h ↦ inr (h.0, same.0 h.1)
      ]

  module _ (word : List Pair) (over : IsOver keys word) where
    parts_over : (x z : List Pair) (filling : Option Pair) → word ≡ x ++ (option_to_list filling ++ z) → IsOver keys x × IsOver keys z
    parts_over x z filling is =
        let whole = subst (IsOver keys) is over in
        (front_over (Contains keys) x (option_to_list filling ++ z) whole, back_over (Contains keys) (option_to_list filling) z (back_over (Contains keys) x (option_to_list filling ++ z) whole))

    pub broken_same : (r : LangRule) (t : RuleTest) → IsRuleTest (placed_letters keys) r t → (at : ℕ) → IsBrokenBy word t at ↔ IsRuleBrokenAt word r at
    broken_same r t is at = (
      λ (x, filling, z, split, place, bad).
          let parts = parts_over x z filling split in
          let same = holds_same r.contexts.items t.contexts.items is.contexts x z parts.0 parts.1 in
          let own = bad_by t.kind t.pair filling (HoldsBy t.contexts.items x z) (Holds r.contexts.items x z) same bad in (
            x,
            filling,
            z,
            split,
            place,
            subst (λ (c : Pair). IsBad (λ (x : Pair). x.up) (λ x. x.low) r.kind c filling (Holds r.contexts.items x z)) is.pair
                (subst (λ (k : RuleKind). IsBad (λ (x : Pair). x.up) (λ x. x.low) k t.pair filling (Holds r.contexts.items x z)) is.kind own),
          ),
      λ (x, filling, z, split, place, bad).
          let parts = parts_over x z filling split in
          let same = holds_same r.contexts.items t.contexts.items is.contexts x z parts.0 parts.1 in
          let own = subst (λ (k : RuleKind). IsBad (λ (x : Pair). x.up) (λ x. x.low) k t.pair filling (Holds r.contexts.items x z)) (sym is.kind)
          (subst (λ (c : Pair). IsBad (λ (x : Pair). x.up) (λ x. x.low) r.kind c filling (Holds r.contexts.items x z)) (sym is.pair) bad) in
          (x, filling, z, split, place, bad_by t.kind t.pair filling (Holds r.contexts.items x z) (HoldsBy t.contexts.items x z) (same.1, same.0) own),
    )

-- What is made of rules over pairs.

pub within_from : (keys pairs : List Pair) → ((x : Pair) → Contains pairs x → Contains keys x) → (r : LangRule) → IsRuleOver pairs r → (c : PairContext) → Contains r.contexts.items c → IsWithin (placed_letters keys) c
within_from keys pairs all r over c among =
    let is = over.1 c among in (
      λ x h. placed_among keys pairs all x (is.0 x h),
      λ x h. placed_among keys pairs all x (is.1 x h),
    )

pub over_letters : (letters : List (Bound Pair)) (rules : List LangRule) (tests : List RuleTest) → Pairwise (IsRuleTest letters) rules tests → (t : RuleTest) → Contains tests t → (c : ContextTest) → Contains t.contexts.items c
    → (c.before.letters ≡ letters) × (c.behind.letters ≡ letters)
over_letters letters rules tests all t among c inside =
    let r = pair_right (IsRuleTest letters) rules tests all t among in
    let k = pair_right (IsContextTest letters) r.0.contexts.items t.contexts.items r.2.contexts c inside in
    (k.2.before_letters, k.2.behind_letters)
