-- Strings of pairs by the texts of their symbols.
use Rattle.std.proofs.Common.{◌≡◌, ◌≢◌, ◌↔◌, ℕ, List, [], ◌∷◌, ◌++◌, Option, Some, None, map, refl, sym, ap, subst, ◌∙◌, inl, inr}
use Rattle.std.specs.List.{Contains, flat_map}
use Rattle.std.specs.Option.{option_map, option_to_list}
use Rattle.std.proofs.lemmas.List.{map-append}
use Rattle.std.proofs.lemmas.List.Elements.{All-nil, All-cons, All-head, All-tail}
use Rattle.std.proofs.lemmas.Option.{same_Some}
use Rattle.fsm_base.specs.declared.letters.Sym.{Sym}
use Rattle.fsm_base.specs.declared.letters.Pair.{Pair}
use Rattle.word_relations.specs.Words.{IsOver}
use Rattle.word_relations.proofs.Members.{Contains-head, Contains-cons_cases, Contains-nil_cases, Contains-map, Contains-map_cases}
use Rattle.fst_algebra.specs.Relation.{uppers, lowers}
use Rattle.regex_ast.specs.declared.twolc.RuleKind.{RuleKind}
use Rattle.regex_ast.specs.declared.twolc.RuleKind.TheVariants.{Only, Must, Both, Never}
use Rattle.network_sets.proofs.Inside.{over_left, over_right}
use Rattle.project_meaning.specs.Trees.{Rule, Grammar}
use Rattle.project_meaning.specs.Leaves.{Leaf}
use Rattle.project_meaning.specs.TwoLevel.{KeepsOnly, KeepsMust, KeepsNever, KeepsBy}
use Rattle.project_meaning.specs.Grammars.{Letter, feasible, written_pair, Keeps as KeepsInTexts, GrammarRelates as RelatesTexts}
use Rattle.two_level.specs.Rules.{Keeps, GrammarRelates}
use Rattle.two_level.specs.Spelled.{spelled, IsRuleFor, StandsFor}
use Rattle.two_level.specs.declared.rule.LangRule.{LangRule}

-- a renamed list in two parts is a list in two parts
map_parts : {X Y : Type 0} (f : X → Y) (p : List X) (a b : List Y) → map f p ≡ a ++ b → (x : List X) × (r : List X) × (p ≡ x ++ r) × (map f x ≡ a) × (map f r ≡ b)
map_parts f p [] b is = ([], p, refl, refl, is)
map_parts f [] (y ∷ a) b is = let e : [] ≡ y ∷ (a ++ b) = is in absurd (cc)
map_parts f (x ∷ p) (y ∷ a) b is =
    let e : f x ∷ map f p ≡ y ∷ (a ++ b) = is in
    let head : f x ≡ y = cc in
    let tail : map f p ≡ a ++ b = cc in
    let rest = map_parts f p a b tail in
    (x ∷ rest.0, rest.1, ap (λ z. x ∷ z) rest.2, ap (λ z. z ∷ map f rest.0) head ∙ ap (λ z. y ∷ z) rest.3, rest.4)

map_head : {X Y : Type 0} (f : X → Y) (p : List X) (c : Y) (b : List Y) → map f p ≡ c ∷ b → (x : X) × (r : List X) × (p ≡ x ∷ r) × (f x ≡ c) × (map f r ≡ b)
map_head f [] c b is = let e : [] ≡ c ∷ b = is in absurd (cc)
map_head f (x ∷ p) c b is =
    let e : f x ∷ map f p ≡ c ∷ b = is in
    (x, p, refl, cc, cc)

-- strings that keep a rule, renamed
module _ {X Y S T : Type 0} (up low : X → Option S) (above below : Y → Option T) (f : X → Y) (pairs : List X) (H : List X → List X → Type 0) (K : List Y → List Y → Type 0)
    (same_up : (a b : X) → Contains pairs a → Contains pairs b → (up a ≡ up b) ↔ (above (f a) ≡ above (f b)))
    (same_low : (a b : X) → Contains pairs a → Contains pairs b → (low a ≡ low b) ↔ (below (f a) ≡ below (f b)))
    (no_up : (a : X) → (up a ≡ None) ↔ (above (f a) ≡ None))
    (apart : (a b : X) → Contains pairs a → Contains pairs b → f a ≡ f b → a ≡ b)
    (holds : (x z : List X) → IsOver pairs x → IsOver pairs z → H x z ↔ K (map f x) (map f z)) (c : X) (known : Contains pairs c) (p : List X) (over : IsOver pairs p) where
  around : (x r : List X) → p ≡ x ++ r → IsOver pairs x × IsOver pairs r
  around x r is = let whole : IsOver pairs (x ++ r) = subst (IsOver pairs) is over in (over_left (Contains pairs) x r whole, over_right (Contains pairs) x r whole)

  -- a place in the renamed string is a place in the string
  place_back : (a b : List Y) (d : Y) → map f p ≡ a ++ d ∷ b → (x : List X) × (z : List X) × (e : X) × (p ≡ x ++ e ∷ z) × (map f x ≡ a) × (map f z ≡ b) × (f e ≡ d) × Contains pairs e × IsOver pairs x × IsOver pairs z
  place_back a b d is =
      let parts = map_parts f p a (d ∷ b) is in
      let head = map_head f parts.1 d b parts.4 in
      let e : p ≡ parts.0 ++ head.0 ∷ head.1 = parts.2 ∙ ap (λ r. parts.0 ++ r) head.2 in
      let round = around parts.0 (head.0 ∷ head.1) e in
      (parts.0, head.1, head.0, e, parts.3, head.4, head.3, All-head (Contains pairs) head.0 head.1 round.1, round.0, All-tail (Contains pairs) head.0 head.1 round.1)

  place_there : (x z : List X) (e : X) → p ≡ x ++ e ∷ z → map f p ≡ map f x ++ f e ∷ map f z
  place_there x z e is = ap (λ q. map f q) is ∙ map-append f x (e ∷ z)

  only_same : KeepsOnly up low H c p ↔ KeepsOnly above below K (f c) (map f p)
  only_same = (
    λ h a b is.
        let r = place_back a b (f c) is in
        let e : r.2 ≡ c = apart r.2 c r.7 known r.6 in
        subst (λ a. K a b) r.4 (subst (λ b. K (map f r.0) b) r.5 ((holds r.0 r.1 r.8 r.9).0 (h r.0 r.1 (r.3 ∙ ap (λ d. r.0 ++ d ∷ r.1) e)))),
    λ h x z is. let round = around x (c ∷ z) is in (holds x z round.0 (All-tail (Contains pairs) c z round.1)).1 (h (map f x) (map f z) (place_there x z c is)),
  )

  never_same : KeepsNever up low H c p ↔ KeepsNever above below K (f c) (map f p)
  never_same = (
    λ h a b is k.
        let r = place_back a b (f c) is in
        let e : r.2 ≡ c = apart r.2 c r.7 known r.6 in
        h r.0 r.1 (r.3 ∙ ap (λ d. r.0 ++ d ∷ r.1) e) ((holds r.0 r.1 r.8 r.9).1 (subst (λ a. K a (map f r.1)) (sym r.4) (subst (λ b. K a b) (sym r.5) k))),
    λ h x z is k. let round = around x (c ∷ z) is in h (map f x) (map f z) (place_there x z c is) ((holds x z round.0 (All-tail (Contains pairs) c z round.1)).0 k),
  )

  must_same : KeepsMust up low H c p ↔ KeepsMust above below K (f c) (map f p)
  must_same = (there, back)
    where
      there : KeepsMust up low H c p → KeepsMust above below K (f c) (map f p)
      there h = (
        λ a b d is one other k.
            let r = place_back a b d is in
            let u : up r.2 ≡ up c = (same_up r.2 c r.7 known).1 (ap above r.6 ∙ one) in
            let l : low r.2 ≢ low c = λ e. other (sym (ap below r.6) ∙ (same_low r.2 c r.7 known).0 e) in
            h.0 r.0 r.1 r.2 r.3 u l ((holds r.0 r.1 r.8 r.9).1 (subst (λ a. K a (map f r.1)) (sym r.4) (subst (λ b. K a b) (sym r.5) k))),
        λ none a b is k.
            let parts = map_parts f p a b is in
            let round = around parts.0 parts.1 parts.2 in
            h.1 ((no_up c).1 none) parts.0 parts.1 parts.2 ((holds parts.0 parts.1 round.0 round.1).1 (subst (λ a. K a (map f parts.1)) (sym parts.3) (subst (λ b. K a b) (sym parts.4) k))),
      )

      back : KeepsMust above below K (f c) (map f p) → KeepsMust up low H c p
      back h = (
        λ x z d is one other k.
            let round = around x (d ∷ z) is in
            let among = All-head (Contains pairs) d z round.1 in
            h.0 (map f x) (map f z) (f d) (place_there x z d is) ((same_up d c among known).0 one) (λ e. other ((same_low d c among known).1 e)) ((holds x z round.0 (All-tail (Contains pairs) d z round.1)).0 k),
        λ none x z is k. let round = around x z is in h.1 ((no_up c).0 none) (map f x) (map f z) (ap (λ q. map f q) is ∙ map-append f x z) ((holds x z round.0 round.1).0 k),
      )

  pub keeps_same : (kind : RuleKind) → KeepsBy up low H kind c p ↔ KeepsBy above below K kind (f c) (map f p)
  keeps_same Only = only_same
  keeps_same Must = must_same
  keeps_same Both = (λ h. (only_same.0 h.0, must_same.0 h.1), λ h. (only_same.1 h.0, must_same.1 h.1))
  keeps_same Never = never_same

-- sides by their texts
side_none : (text : Sym → List ℕ) (side : Option Sym) → (side ≡ None) ↔ (option_map text side ≡ None)
side_none text None = (λ e. refl, λ e. refl)
side_none text (Some s) = (λ e. absurd (cc), λ e. let clash : Some (text s) ≡ None = e in absurd (cc))

side_apart : (text : Sym → List ℕ) (a b : Option Sym) → ((s t : Sym) → a ≡ Some s → b ≡ Some t → text s ≡ text t → s ≡ t) → option_map text a ≡ option_map text b → a ≡ b
side_apart text None None apart is = refl
side_apart text None (Some t) apart is = let clash : None ≡ Some (text t) = is in absurd (cc)
side_apart text (Some s) None apart is = let clash : Some (text s) ≡ None = is in absurd (cc)
side_apart text (Some s) (Some t) apart is = ap (λ z. Some z) (apart s t refl refl (same_Some (text s) (text t) is))

-- the symbols of a side, by their texts
side_texts : (text : Sym → List ℕ) (side : Option Sym) (rest : List Sym) → map text (option_to_list side ++ rest) ≡ option_to_list (option_map text side) ++ map text rest
side_texts text None rest = refl
side_texts text (Some s) rest = refl

uppers_texts : (text : Sym → List ℕ) (p : List Pair) → map text (uppers p) ≡ flat_map (λ (x : Letter). option_to_list x.up) (map (spelled text) p)
uppers_texts text [] = refl
uppers_texts text (x ∷ p) = side_texts text x.up (uppers p) ∙ ap (λ z. option_to_list (option_map text x.up) ++ z) (uppers_texts text p)

lowers_texts : (text : Sym → List ℕ) (p : List Pair) → map text (lowers p) ≡ flat_map (λ (x : Letter). option_to_list x.low) (map (spelled text) p)
lowers_texts text [] = refl
lowers_texts text (x ∷ p) = side_texts text x.low (lowers p) ∙ ap (λ z. option_to_list (option_map text x.low) ++ z) (lowers_texts text p)

module _ (text : Sym → List ℕ) (g : Grammar Leaf) (pairs : List Pair) (rules : List LangRule) (stands : StandsFor text g pairs rules) where
  f : Pair → Letter
  f x = spelled text x

  upper_apart : (a b : Pair) → Contains pairs a → Contains pairs b → option_map text a.up ≡ option_map text b.up → a.up ≡ b.up
  upper_apart a b in_a in_b is = side_apart text a.up b.up (λ s t e h same. stands.apart s t (a, in_a, inl e) (b, in_b, inl h) same) is

  lower_apart : (a b : Pair) → Contains pairs a → Contains pairs b → option_map text a.low ≡ option_map text b.low → a.low ≡ b.low
  lower_apart a b in_a in_b is = side_apart text a.low b.low (λ s t e h same. stands.apart s t (a, in_a, inr e) (b, in_b, inr h) same) is

  same_pair : (a b : Pair) → a.up ≡ b.up → a.low ≡ b.low → a ≡ b
  same_pair a b e h = ap (λ (u : Option Sym). record { up = u; low = a.low }) e ∙ ap (λ (l : Option Sym). record { up = b.up; low = l }) h

  pairs_apart : (a b : Pair) → Contains pairs a → Contains pairs b → spelled text a ≡ spelled text b → a ≡ b
  pairs_apart a b in_a in_b is = same_pair a b (upper_apart a b in_a in_b (ap (λ (x : Letter). x.up) is)) (lower_apart a b in_a in_b (ap (λ (x : Letter). x.low) is))

  keeps_rule : (r : Rule Leaf) (rule : LangRule) → Contains pairs rule.pair → IsRuleFor text g pairs r rule → (p : List Pair) → IsOver pairs p → Keeps p rule ↔ KeepsInTexts g (map (spelled text) p) r
  keeps_rule r rule known for p over = (
    λ h centre among.
        let is = of_centre centre among in
        subst (λ (d : Letter). KeepsBy (λ (x : Letter). x.up) (λ (x : Letter). x.low) (Rattle.project_meaning.specs.Grammars.Holds g r.contexts) r.kind d (map (spelled text) p)) is (subst (λ k. KeepsBy (λ (x : Letter). x.up) (λ (x : Letter). x.low) (Rattle.project_meaning.specs.Grammars.Holds g r.contexts) k (spelled text rule.pair) (map (spelled text) p)) for.kind ((same rule.kind).0 h)),
    λ h. (same rule.kind).1 (subst (λ k. KeepsBy (λ (x : Letter). x.up) (λ (x : Letter). x.low) (Rattle.project_meaning.specs.Grammars.Holds g r.contexts) k (spelled text rule.pair) (map (spelled text) p)) (sym for.kind) (h (spelled text rule.pair) (subst (λ (l : List Letter). Contains l (spelled text rule.pair)) (sym for.centre) (Contains-head (spelled text rule.pair) [])))),
  )
    where
      of_centre : (centre : Letter) → Contains (written_pair r.centre) centre → spelled text rule.pair ≡ centre
      of_centre centre among =
          elim (Contains-cons_cases (spelled text rule.pair) [] centre (subst (λ (l : List Letter). Contains l centre) for.centre among)) as (λ _. spelled text rule.pair ≡ centre) [ inl e ↦ e | inr none ↦ absurd (Contains-nil_cases centre none) ]

      same : (kind : RuleKind) → KeepsBy (λ (x : Pair). x.up) (λ (x : Pair). x.low) (Rattle.two_level.specs.Rules.Holds rule.contexts.items) kind rule.pair p ↔ KeepsBy (λ (x : Letter). x.up) (λ (x : Letter). x.low) (Rattle.project_meaning.specs.Grammars.Holds g r.contexts) kind (spelled text rule.pair) (map (spelled text) p)
      same kind =
          keeps_same (λ (x : Pair). x.up) (λ (x : Pair). x.low) (λ (x : Letter). x.up) (λ (x : Letter). x.low) (spelled text) pairs (Rattle.two_level.specs.Rules.Holds rule.contexts.items) (Rattle.project_meaning.specs.Grammars.Holds g r.contexts)
          (λ a b in_a in_b. (ap (λ s. option_map text s), upper_apart a b in_a in_b)) (λ a b in_a in_b. (ap (λ s. option_map text s), lower_apart a b in_a in_b)) (λ a. side_none text a.up) pairs_apart for.contexts rule.pair known p over kind

  -- strings over the feasible pairs are strings over the pairs, spelled
  over_texts : (p : List Pair) → IsOver pairs p → IsOver (feasible g) (map (spelled text) p)
  over_texts [] over = All-nil (Contains (feasible g))
  over_texts (x ∷ p) over =
      All-cons (Contains (feasible g)) (spelled text x) (map (spelled text) p) ((stands.pairs_are (spelled text x)).1 (Contains-map (spelled text) pairs x (All-head (Contains pairs) x p over))) (over_texts p (All-tail (Contains pairs) x p over))

  over_back : (q : List Letter) → IsOver (feasible g) q → (p : List Pair) × (q ≡ map (spelled text) p) × IsOver pairs p
  over_back [] over = ([], refl, All-nil (Contains pairs))
  over_back (y ∷ q) over =
      let r = Contains-map_cases (spelled text) pairs y ((stands.pairs_are y).0 (All-head (Contains (feasible g)) y q over)) in
      let rest = over_back q (All-tail (Contains (feasible g)) y q over) in
      (r.0 ∷ rest.0, ap (λ z. z ∷ q) (sym r.2) ∙ ap (λ z. spelled text r.0 ∷ z) rest.1, All-cons (Contains pairs) r.0 rest.0 r.1 rest.2)

  pub spelled_there : (u w : List (List ℕ)) → RelatesTexts g u w → (x : List Sym) × (y : List Sym) × (u ≡ map text x) × (w ≡ map text y) × GrammarRelates pairs rules x y
  spelled_there u w (q, over, keeps, up, low) =
      let r = over_back q over in
      let p = r.0 in (
        uppers p,
        lowers p,
        up ∙ ap (λ z. flat_map (λ (x : Letter). option_to_list x.up) z) r.1 ∙ sym (uppers_texts text p),
        low ∙ ap (λ z. flat_map (λ (x : Letter). option_to_list x.low) z) r.1 ∙ sym (lowers_texts text p),
        (p, (r.2, λ rule among. let s = stands.rules_only rule among in (keeps_rule s.0 rule (stands.over rule among).0 s.2 p r.2).1 (subst (λ (z : List Letter). KeepsInTexts g z s.0) r.1 (keeps s.0 s.1))), refl, refl),
      )

  pub spelled_back : (u w : List (List ℕ)) → (x : List Sym) × (y : List Sym) × (u ≡ map text x) × (w ≡ map text y) × GrammarRelates pairs rules x y → RelatesTexts g u w
  spelled_back u w (x, y, e, h, (p, kept, up, low)) = (
    map (spelled text) p,
    over_texts p kept.0,
    λ r among. let s = stands.rules_are r among in (keeps_rule r s.0 (stands.over s.0 s.1).0 s.2 p kept.0).0 (kept.1 s.0 s.1),
    e ∙ ap (λ z. map text z) (sym up) ∙ uppers_texts text p,
    h ∙ ap (λ z. map text z) (sym low) ∙ lowers_texts text p,
  )
