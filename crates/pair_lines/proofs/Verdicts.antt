-- A string of pairs breaks the rules of a grammar by numbers where it breaks them by texts.
use Rattle.std.proofs.Common.{◌≡◌, ◌+◌, ◌↔◌, ℕ, suc, List, [], ◌∷◌, ◌++◌, Option, Some, None, length, map, refl, sym, ap, subst, ◌∙◌, inl, inr}
use Rattle.std.specs.List.{All, Contains}
use Rattle.std.specs.Option.{option_map, option_to_list}
use Rattle.std.proofs.lemmas.List.{length-map, map-append}
use Rattle.std.proofs.lemmas.List.Elements.{All-cons, All-head, All-nil, All-tail}
use Rattle.std.proofs.lemmas.Option.{same_Some}
use Rattle.fsm_base.specs.declared.letters.Pair.{Pair}
use Rattle.fsm_base.specs.declared.letters.Sym.{Sym}
use Rattle.word_relations.specs.Words.{IsOver}
use Rattle.word_relations.proofs.Members.{Contains-cons_cases, Contains-head, Contains-nil_cases, Contains-tail}
use Rattle.network_grammars.specs.Rules.{Pairwise}
use Rattle.network_grammars.proofs.Grammared.{pair_left, pair_right}
use Rattle.pair_test.specs.Rules.{IsRuleBrokenAt as IsBrokenByNumbers}
use Rattle.pair_test.specs.Splits.{IsBad, IsBarred, IsBrokenAt, IsOther, NeedsContext}
use Rattle.pair_test.specs.Verdicts.{IsVerdict}
use Rattle.pair_test.specs.declared.verdict.Verdict.{Verdict}
use Rattle.pair_test.specs.declared.verdict.Verdict.TheVariants.{Pass, Fail}
use Rattle.project_meaning.specs.Grammars.{Letter, Holds as HoldsInTexts, written_pair}
use Rattle.project_meaning.specs.Leaves.{Leaf}
use Rattle.project_meaning.specs.Trees.{Grammar, Rule}
use Rattle.regex_ast.specs.declared.twolc.RuleKind.{RuleKind}
use Rattle.regex_ast.specs.declared.twolc.RuleKind.TheVariants.{Only, Must, Both, Never}
use Rattle.two_level.specs.Rules.{Holds}
use Rattle.two_level.specs.Spelled.{IsRuleFor, StandsFor, spelled}
use Rattle.two_level.specs.declared.rule.LangRule.{LangRule}
use Rattle.pair_lines.specs.Replies.{IsRuleBrokenAt}

-- Rows that go together have the same verdict.

module _ {A B : Type 0} (R : A → B → Type 0) where
  pub pair_length : (xs : List A) (ys : List B) → Pairwise R xs ys → length xs ≡ length ys
  pair_length [] [] all = refl
  pair_length [] (b ∷ ys) all = absurd all
  pair_length (a ∷ xs) [] all = absurd all
  pair_length (a ∷ xs) (b ∷ ys) (first, rest) = ap suc (pair_length xs ys rest)

  -- a row that goes with a row in two parts
  record IsCut (xs : List A) (before : List B) (y : B) (behind : List B) : Type 0 where
    pub front : List A
    pub one : A
    pub back : List A
    pub is : xs ≡ front ++ one ∷ back
    pub before_are : Pairwise R front before
    pub one_is : R one y

  cut : (xs : List A) (before : List B) (y : B) (behind : List B) → Pairwise R xs (before ++ y ∷ behind) → IsCut xs before y behind
  cut [] [] y behind all = absurd all
  cut [] (b ∷ before) y behind all = absurd all
  cut (x ∷ xs) [] y behind (first, rest) = record { front = []; one = x; back = xs; is = refl; before_are = tt; one_is = first }
  cut (x ∷ xs) (b ∷ before) y behind (first, rest) =
      let c = cut xs before y behind rest in
      record { front = x ∷ c.front; one = c.one; back = c.back; is = ap (λ (z : List A). x ∷ z) c.is; before_are = (first, c.before_are); one_is = c.one_is }

  module _ (BrokenFirst : A → ℕ → Type 0) (BrokenSecond : B → ℕ → Type 0) (same : (x : A) (y : B) → R x y → (at : ℕ) → BrokenSecond y at ↔ BrokenFirst x at) where
    pub verdict_same : (xs : List A) (ys : List B) → Pairwise R xs ys → (verdict : Verdict) → IsVerdict BrokenSecond ys verdict → IsVerdict BrokenFirst xs verdict
    verdict_same xs ys all Pass kept = λ x among at broken. let r = pair_left R xs ys all x among in kept r.0 r.1 at ((same x r.0 r.2 at).1 broken)
    verdict_same xs ys all (Fail rule place) first =
        let c = cut xs first.before first.broken first.behind (subst (Pairwise R xs) first.rules_are all) in
        record {
          before = c.front;
          broken = c.one;
          behind = c.back;
          rules_are = c.is;
          number_is = first.number_is ∙ ap (λ n. n + 1) (sym (pair_length c.front first.before c.before_are));
          kept = λ x among at broken. let r = pair_left R c.front first.before c.before_are x among in first.kept r.0 r.1 at ((same x r.0 r.2 at).1 broken);
          place_is = record {
            holds = (same c.one first.broken c.one_is place).0 first.place_is.holds;
            least = λ other broken. first.place_is.least other ((same c.one first.broken c.one_is other).1 broken);
          };
        }

-- Splits of a string whose letters are renamed.

map_parts : {X Y : Type 0} (f : X → Y) (p : List X) (a b : List Y) → map f p ≡ a ++ b → (x : List X) × (r : List X) × (p ≡ x ++ r) × (map f x ≡ a) × (map f r ≡ b)
map_parts f p [] b is = ([], p, refl, refl, is)
map_parts f [] (y ∷ a) b is = let e : [] ≡ y ∷ (a ++ b) = is in absurd (cc)
map_parts f (x ∷ p) (y ∷ a) b is =
    let e : f x ∷ map f p ≡ y ∷ (a ++ b) = is in
    let head : f x ≡ y = cc in
    let tail : map f p ≡ a ++ b = cc in
    let rest = map_parts f p a b tail in
    (x ∷ rest.0, rest.1, ap (λ z. x ∷ z) rest.2, ap (λ z. z ∷ map f rest.0) head ∙ ap (λ z. y ∷ z) rest.3, rest.4)

map_filling : {X Y : Type 0} (f : X → Y) (p : List X) (d : Option Y) (b : List Y) → map f p ≡ option_to_list d ++ b → (filling : Option X) × (z : List X) × (p ≡ option_to_list filling ++ z) × (option_map f filling ≡ d) × (map f z ≡ b)
map_filling f p None b is = (None, p, refl, refl, is)
map_filling f [] (Some y) b is = let e : [] ≡ y ∷ b = is in absurd (cc)
map_filling f (x ∷ p) (Some y) b is =
    let e : f x ∷ map f p ≡ y ∷ b = is in
    let head : f x ≡ y = cc in
    let tail : map f p ≡ b = cc in
    (Some x, p, refl, ap (λ z. Some z) head, tail)

filling_map : {X Y : Type 0} (f : X → Y) (filling : Option X) (z : List X) → map f (option_to_list filling ++ z) ≡ option_to_list (option_map f filling) ++ map f z
filling_map f None z = refl
filling_map f (Some x) z = refl

over_left : {X : Type 0} (P : X → Type 0) (xs ys : List X) → All P (xs ++ ys) → All P xs
over_left P [] ys all = All-nil P
over_left P (x ∷ xs) ys all = All-cons P x xs (All-head P x (xs ++ ys) all) (over_left P xs ys (All-tail P x (xs ++ ys) all))

over_right : {X : Type 0} (P : X → Type 0) (xs ys : List X) → All P (xs ++ ys) → All P ys
over_right P [] ys all = all
over_right P (x ∷ xs) ys all = over_right P xs ys (All-tail P x (xs ++ ys) all)

module _ {X Y S T : Type 0} (up low : X → Option S) (above below : Y → Option T) (f : X → Y) (pairs : List X) (H : List X → List X → Type 0) (K : List Y → List Y → Type 0)
    (same_up : (a b : X) → Contains pairs a → Contains pairs b → (up a ≡ up b) ↔ (above (f a) ≡ above (f b)))
    (same_low : (a b : X) → Contains pairs a → Contains pairs b → (low a ≡ low b) ↔ (below (f a) ≡ below (f b)))
    (no_up : (a : X) → (up a ≡ None) ↔ (above (f a) ≡ None))
    (apart : (a b : X) → Contains pairs a → Contains pairs b → f a ≡ f b → a ≡ b)
    (holds : (x z : List X) → IsOver pairs x → IsOver pairs z → H x z ↔ K (map f x) (map f z)) (c : X) (known : Contains pairs c) (p : List X) (over : IsOver pairs p) where
  abbrev Known : Option X → Type 0
  Known None = Unit {0}
  Known (Some x) = Contains pairs x

  is_centre : (filling : Option X) → Known filling → (filling ≡ Some c) ↔ (option_map f filling ≡ Some (f c))
  is_centre None here = (λ e. let clash : None ≡ Some c = e in absurd (cc), λ e. let clash : None ≡ Some (f c) = e in absurd (cc))
  is_centre (Some x) here = (λ e. ap (option_map f) e, λ e. ap (λ z. Some z) (apart x c here known (same_Some (f x) (f c) e)))

  is_other : (filling : Option X) → Known filling → IsOther up low c filling ↔ IsOther above below (f c) (option_map f filling)
  is_other None here = no_up c
  is_other (Some x) here = (
    λ h. ((same_up x c here known).0 h.0, λ e. h.1 ((same_low x c here known).1 e)),
    λ h. ((same_up x c here known).1 h.0, λ e. h.1 ((same_low x c here known).0 e)),
  )

  needs : (kind : RuleKind) (filling : Option X) → Known filling → NeedsContext kind c filling ↔ NeedsContext kind (f c) (option_map f filling)
  needs Only filling here = is_centre filling here
  needs Must filling here = (λ h. h, λ h. h)
  needs Both filling here = is_centre filling here
  needs Never filling here = (λ h. h, λ h. h)

  barred : (kind : RuleKind) (filling : Option X) → Known filling → IsBarred up low kind c filling ↔ IsBarred above below kind (f c) (option_map f filling)
  barred Only filling here = (λ h. h, λ h. h)
  barred Must filling here = is_other filling here
  barred Both filling here = is_other filling here
  barred Never filling here = is_centre filling here

  bad : (kind : RuleKind) (filling : Option X) → Known filling → (P Q : Type 0) → (P ↔ Q) → IsBad up low kind c filling P ↔ IsBad above below kind (f c) (option_map f filling) Q
  bad kind filling here P Q same = (
    λ h. elim h as (λ _. IsBad above below kind (f c) (option_map f filling) Q) [
      | inl asks ↦ inl ((needs kind filling here).0 asks.0, λ q. asks.1 (same.1 q))
      | inr bars ↦ inr ((barred kind filling here).0 bars.0, same.0 bars.1)
    ],
    λ h. elim h as (λ _. IsBad up low kind c filling P) [
      | inl asks ↦ inl ((needs kind filling here).1 asks.0, λ q. asks.1 (same.0 q))
      | inr bars ↦ inr ((barred kind filling here).1 bars.0, same.1 bars.1)
    ],
  )

  round : (x z : List X) (filling : Option X) → p ≡ x ++ (option_to_list filling ++ z) → IsOver pairs x × Known filling × IsOver pairs z
  round x z filling is =
      let whole : IsOver pairs (x ++ (option_to_list filling ++ z)) = subst (IsOver pairs) is over in
      let right = over_right (Contains pairs) x (option_to_list filling ++ z) whole in
      (over_left (Contains pairs) x (option_to_list filling ++ z) whole, here filling right, over_right (Contains pairs) (option_to_list filling) z right)
    where
      here : (o : Option X) → IsOver pairs (option_to_list o ++ z) → Known o
      here None all = tt
      here (Some y) all = All-head (Contains pairs) y z all

  pub broken_there : (kind : RuleKind) (at : ℕ) → IsBrokenAt up low H kind c p at → IsBrokenAt above below K kind (f c) (map f p) at
  broken_there kind at (x, filling, z, split, place, is_bad) =
      let (over_x, here, over_z) = round x z filling split in (
        map f x,
        option_map f filling,
        map f z,
        ap (map f) split ∙ map-append f x (option_to_list filling ++ z) ∙ ap (λ (q : List Y). map f x ++ q) (filling_map f filling z),
        place ∙ ap (λ n. n + 1) (sym (length-map x f)),
        (bad kind filling here (H x z) (K (map f x) (map f z)) (holds x z over_x over_z)).0 is_bad,
      )

  pub broken_back : (kind : RuleKind) (at : ℕ) → IsBrokenAt above below K kind (f c) (map f p) at → IsBrokenAt up low H kind c p at
  broken_back kind at (a, d, b, split, place, is_bad) =
      let (x, r, first, x_is, r_is) = map_parts f p a (option_to_list d ++ b) split in
      let (filling, z, second, d_is, z_is) = map_filling f r d b r_is in
      let whole : p ≡ x ++ (option_to_list filling ++ z) = first ∙ ap (λ (q : List X). x ++ q) second in
      let (over_x, here, over_z) = round x z filling whole in
      let own : IsBad above below kind (f c) (option_map f filling) (K (map f x) (map f z)) =
      subst (λ (o : Option Y). IsBad above below kind (f c) o (K (map f x) (map f z))) (sym d_is)
      (subst (λ (u : List Y). IsBad above below kind (f c) d (K u (map f z))) (sym x_is) (subst (λ (v : List Y). IsBad above below kind (f c) d (K a v)) (sym z_is) is_bad)) in (
        x,
        filling,
        z,
        whole,
        place ∙ ap (λ (u : List Y). length u + 1) (sym x_is) ∙ ap (λ n. n + 1) (length-map x f),
        (bad kind filling here (H x z) (K (map f x) (map f z)) (holds x z over_x over_z)).1 own,
      )

-- Sides by their texts.

side_none : (text : Sym → List ℕ) (side : Option Sym) → (side ≡ None) ↔ (option_map text side ≡ None)
side_none text None = (λ e. refl, λ e. refl)
side_none text (Some s) = (λ e. let clash : Some s ≡ None = e in absurd (cc), λ e. let clash : Some (text s) ≡ None = e in absurd (cc))

pub side_apart : (text : Sym → List ℕ) (a b : Option Sym) → ((s t : Sym) → a ≡ Some s → b ≡ Some t → text s ≡ text t → s ≡ t) → option_map text a ≡ option_map text b → a ≡ b
side_apart text None None apart is = refl
side_apart text None (Some t) apart is = let clash : None ≡ Some (text t) = is in absurd (cc)
side_apart text (Some s) None apart is = let clash : Some (text s) ≡ None = is in absurd (cc)
side_apart text (Some s) (Some t) apart is = ap (λ z. Some z) (apart s t refl refl (same_Some (text s) (text t) is))

pub same_pair : (a b : Pair) → a.up ≡ b.up → a.low ≡ b.low → a ≡ b
same_pair a b e h = ap (λ (u : Option Sym). record { up = u; low = a.low }) e ∙ ap (λ (l : Option Sym). record { up = b.up; low = l }) h

module _ (text : Sym → List ℕ) (g : Grammar Leaf) (pairs : List Pair) (rules : List LangRule) (stands : StandsFor text g pairs rules) (p : List Pair) (over : IsOver pairs p) where
  f : Pair → Letter
  f x = spelled text x

  upper_apart : (a b : Pair) → Contains pairs a → Contains pairs b → option_map text a.up ≡ option_map text b.up → a.up ≡ b.up
  upper_apart a b in_a in_b is = side_apart text a.up b.up (λ s t e h same. stands.apart s t (a, in_a, inl e) (b, in_b, inl h) same) is

  lower_apart : (a b : Pair) → Contains pairs a → Contains pairs b → option_map text a.low ≡ option_map text b.low → a.low ≡ b.low
  lower_apart a b in_a in_b is = side_apart text a.low b.low (λ s t e h same. stands.apart s t (a, in_a, inr e) (b, in_b, inr h) same) is

  pairs_apart : (a b : Pair) → Contains pairs a → Contains pairs b → spelled text a ≡ spelled text b → a ≡ b
  pairs_apart a b in_a in_b is = same_pair a b (upper_apart a b in_a in_b (ap (λ (x : Letter). x.up) is)) (lower_apart a b in_a in_b (ap (λ (x : Letter). x.low) is))

  abbrev BrokenInTexts : Rule Leaf → RuleKind → Letter → ℕ → Type 0
  BrokenInTexts r kind centre at = IsBrokenAt (λ (x : Letter). x.up) (λ x. x.low) (HoldsInTexts g r.contexts) kind centre (map (spelled text) p) at

  broken_same : (r : Rule Leaf) (rule : LangRule) → Contains pairs rule.pair → IsRuleFor text g pairs r rule → (at : ℕ) → IsBrokenByNumbers p rule at ↔ BrokenInTexts r r.kind (spelled text rule.pair) at
  broken_same r rule known for at = (
    λ h. subst (λ (k : RuleKind). BrokenInTexts r k (spelled text rule.pair) at) for.kind
        (broken_there (λ (x : Pair). x.up) (λ x. x.low) (λ (x : Letter). x.up) (λ x. x.low) (spelled text) pairs (Holds rule.contexts.items) (HoldsInTexts g r.contexts) there_up there_low (λ a. side_none text a.up) pairs_apart for.contexts rule.pair known p over rule.kind at h),
    λ h. broken_back (λ (x : Pair). x.up) (λ x. x.low) (λ (x : Letter). x.up) (λ x. x.low) (spelled text) pairs (Holds rule.contexts.items) (HoldsInTexts g r.contexts) there_up there_low (λ a. side_none text a.up) pairs_apart for.contexts rule.pair known p over rule.kind at
        (subst (λ (k : RuleKind). BrokenInTexts r k (spelled text rule.pair) at) (sym for.kind) h),
  )
    where
      there_up : (a b : Pair) → Contains pairs a → Contains pairs b → (a.up ≡ b.up) ↔ (option_map text a.up ≡ option_map text b.up)
      there_up a b in_a in_b = (ap (λ s. option_map text s), upper_apart a b in_a in_b)

      there_low : (a b : Pair) → Contains pairs a → Contains pairs b → (a.low ≡ b.low) ↔ (option_map text a.low ≡ option_map text b.low)
      there_low a b in_a in_b = (ap (λ s. option_map text s), lower_apart a b in_a in_b)

  -- the rule has one centre
  rule_broken : (r : Rule Leaf) (rule : LangRule) → Contains pairs rule.pair → IsRuleFor text g pairs r rule → (at : ℕ) → IsBrokenByNumbers p rule at ↔ IsRuleBrokenAt g (map (spelled text) p) r at
  rule_broken r rule known for at = (
    λ h. (spelled text rule.pair, subst (λ (l : List Letter). Contains l (spelled text rule.pair)) (sym for.centre) (Contains-head (spelled text rule.pair) []), (broken_same r rule known for at).0 h),
    λ (centre, among, h). (broken_same r rule known for at).1 (subst (λ (d : Letter). BrokenInTexts r r.kind d at) (sym (own centre among)) h),
  )
    where
      own : (centre : Letter) → Contains (written_pair r.centre) centre → spelled text rule.pair ≡ centre
      own centre among =
          elim (Contains-cons_cases (spelled text rule.pair) [] centre (subst (λ (l : List Letter). Contains l centre) for.centre among)) as (λ _. spelled text rule.pair ≡ centre) [ inl e ↦ e | inr none ↦ absurd (Contains-nil_cases centre none) ]

  -- rules that go with those of the grammar, each about a feasible pair
  abbrev IsFor : Rule Leaf → LangRule → Type 0
  IsFor r rule = IsRuleFor text g pairs r rule × Contains pairs rule.pair

  -- a verdict by texts is one by numbers, where the string passes
  pub passes_by_numbers : Pairwise (IsRuleFor text g pairs) g.rules rules → IsVerdict (IsRuleBrokenAt g (map (spelled text) p)) g.rules Pass → IsVerdict (IsBrokenByNumbers p) rules Pass
  passes_by_numbers all kept = λ rule among at broken.
      let (r, there, for) = pair_right (IsRuleFor text g pairs) g.rules rules all rule among in
      kept r there at ((rule_broken r rule (stands.over rule among).0 for at).0 broken)

  known_too : (rs : List (Rule Leaf)) (ls : List LangRule) → Pairwise (IsRuleFor text g pairs) rs ls → ((rule : LangRule) → Contains ls rule → Contains pairs rule.pair) → Pairwise IsFor rs ls
  known_too [] [] all each = tt
  known_too [] (l ∷ ls) all each = absurd all
  known_too (r ∷ rs) [] all each = absurd all
  known_too (r ∷ rs) (l ∷ ls) (first, rest) each = ((first, each l (Contains-head l ls)), known_too rs ls rest (λ rule among. each rule (Contains-tail l ls rule among)))

  pub verdict_in_texts : Pairwise (IsRuleFor text g pairs) g.rules rules → (verdict : Verdict) → IsVerdict (IsBrokenByNumbers p) rules verdict → IsVerdict (IsRuleBrokenAt g (map (spelled text) p)) g.rules verdict
  verdict_in_texts all verdict is =
      verdict_same IsFor (IsRuleBrokenAt g (map (spelled text) p)) (IsBrokenByNumbers p) (λ r rule for at. rule_broken r rule for.1 for.0 at) g.rules rules
      (known_too g.rules rules all (λ rule among. (stands.over rule among).0)) verdict is
