-- The strings that keep a rule.
use Rattle.std.proofs.Common.{◌≡◌, ◌≢◌, ◌↔◌, ◌<◌, ◌≤◌, ◌+◌, ℕ, Bool, true, false, not, List, [], ◌∷◌, ◌++◌, Option, Some, None, take, length, get_or, refl, sym, ap, subst, ◌∙◌, inl, inr}
use Rattle.std.specs.List.{Contains}
use Rattle.std.specs.Option.{is_some, option_to_list}
use Rattle.std.proofs.lemmas.List.Elements.{All-head, Contains-push_cases, Contains-push, Contains-append_left}
use Rattle.std.proofs.lemmas.Option.{same_Some, slice_get_read, slice_get-get_or}
use Rattle.std.proofs.lemmas.List.{take_all}
use Rattle.word_relations.proofs.Places.{take_more-slice_get}
use Rattle.fsm_base.specs.declared.letters.Pair.{Pair}
use Rattle.fsm_base.specs.declared.letters.Sym.{Sym}
use Rattle.word_relations.specs.Words.{IsOver, Translates}
use Rattle.word_relations.specs.Relations.{AreSame}
use Rattle.word_relations.proofs.Members.{Contains-head, Contains-cons_cases, Contains-nil_cases}
use Rattle.fsa.specs.Automaton.{Automaton, UsesLetter}
use Rattle.fsa.specs.Language as language
use Rattle.fsa.specs.Complete.{Complete, Accepts}
use Rattle.fsa_product.proofs.Turned.{accepts_or_not, accepted_over}
use Rattle.fst_algebra.specs.Relation.{IsRelated}
use Rattle.lang_algebra.specs.Languages.{IsLang}
use Rattle.regex_ast.specs.declared.twolc.RuleKind.{RuleKind}
use Rattle.regex_ast.specs.declared.twolc.RuleKind.TheVariants.{Only, Must, Both, Never}
use Rattle.network_algebra.specs.Networks.{UsesOnly}
use Rattle.network_sets.proofs.Inside.{over_left, over_right}
use Rattle.two_level.specs.Marks.{place_between, IsPlaceWhere, marked_letters, filled_table}
use Rattle.two_level.specs.Rules.{Holds, IsRuleOver, Keeps, KeepsPair, KeepsAll, GrammarRelates, IsOther, StandsNowhere}
use Rattle.two_level.specs.declared.rule.PairContext.{PairContext}
use Rattle.two_level.specs.declared.rule.LangRule.{LangRule}
use Rattle.two_level.specs.declared.marks.MarkedLetter.{MarkedLetter}
use Rattle.two_level.proofs.MarkedStrings.{between_same, filled, filled_back}

-- the parts of a string round what stands between them
pub parts_over : (pairs x z : List Pair) (o : Option Pair) (p : List Pair) → IsOver pairs p → p ≡ x ++ (option_to_list o ++ z) → IsOver pairs x × IsOver pairs z
parts_over pairs x z o p over is =
    let whole : IsOver pairs (x ++ (option_to_list o ++ z)) = subst (IsOver pairs) is over in
    (over_left (Contains pairs) x (option_to_list o ++ z) whole, over_right (Contains pairs) (option_to_list o) z (over_right (Contains pairs) x (option_to_list o ++ z) whole))

pub pair_over : (pairs x z : List Pair) (c : Pair) (p : List Pair) → IsOver pairs p → p ≡ x ++ c ∷ z → Contains pairs c
pair_over pairs x z c p over is = All-head (Contains pairs) c z (over_right (Contains pairs) x (c ∷ z) (subst (IsOver pairs) is over))

-- the strings without a filling at a place
module _ (pairs : List Pair) (fillings : List (Option Pair)) (places : Complete MarkedLetter) (only : (v : List MarkedLetter) → Accepts places v → IsPlaceWhere pairs (λ x z. Unit {0}) v) (fsa : Automaton MarkedLetter) (wrong : Automaton Pair) (lang made : Complete Pair)
    (fsa_is : (v : List MarkedLetter) → language.Accepts fsa v ↔ Accepts places v)
    (wrong_is : (p : List Pair) → language.Accepts wrong p ↔ ((v : List MarkedLetter) × language.Accepts fsa v × Translates (filled_table pairs fillings) v p))
    (of : IsLang pairs (language.Accepts wrong) lang) (is : IsLang lang.letters (λ p. IsOver lang.letters p × ¬ Accepts lang p) made) where
  abbrev pub Nowhere : List Pair → Type 0
  Nowhere p = StandsNowhere (Contains fillings) (λ x z. Accepts places (place_between x z)) p

  pub nowhere_kept : IsLang pairs (λ p. IsOver pairs p × Nowhere p) made
  nowhere_kept =
      record {
        complete = is.complete;
        over = is.over ∙ of.over;
        words = λ p. (there p, upwards p);
      }
    where
      there : (p : List Pair) → Accepts made p → IsOver pairs p × Nowhere p
      there p h =
          let r = (is.words p).0 h in
          let over : IsOver pairs p = subst (λ (z : List Pair). IsOver z p) of.over r.0 in (
            over,
            λ x z o filling e place.
                let parts = parts_over pairs x z o p over e in
                r.1 ((of.words p).1 ((wrong_is p).1 (place_between x z, (fsa_is (place_between x z)).1 place, subst (λ w. Translates (filled_table pairs fillings) (place_between x z) w) (sym e) (filled pairs fillings x z o parts.0 parts.1 filling)))),
          )

      refused : (p : List Pair) → Nowhere p → language.Accepts wrong p → ⊥
      refused p none bad =
          let r = (wrong_is p).0 bad in
          let v = r.0 in
          let place = (fsa_is v).0 r.1 in
          let at = only v place in
          let x = at.0 in
          let z = at.1 in
          let back = filled_back pairs fillings x z p (subst (λ u. Translates (filled_table pairs fillings) u p) at.2 r.2) in
          none x z back.0 back.1 back.2 (subst (Accepts places) at.2 place)

      upwards : (p : List Pair) → IsOver pairs p × Nowhere p → Accepts made p
      upwards p (over, none) = (is.words p).1 (subst (λ (z : List Pair). IsOver z p) (sym of.over) over, λ h. refused p none ((of.words p).0 h))

-- a place at which contexts hold
pub place_holding : (pairs : List Pair) (P : List Pair → List Pair → Type 0) (holding : Complete MarkedLetter) → IsLang (marked_letters pairs) (IsPlaceWhere pairs P) holding → (x z : List Pair) → Accepts holding (place_between x z) → P x z
place_holding pairs P holding is x z h =
    let r = (is.words (place_between x z)).0 h in
    let same = between_same x z r.0 r.1 r.2 in
    subst (λ a. P a z) (sym same.0) (subst (λ b. P r.0 b) (sym same.1) r.5)

pub holding_place : (pairs : List Pair) (P : List Pair → List Pair → Type 0) (holding : Complete MarkedLetter) → IsLang (marked_letters pairs) (IsPlaceWhere pairs P) holding → (x z : List Pair) → IsOver pairs x → IsOver pairs z → P x z → Accepts holding (place_between x z)
holding_place pairs P holding is x z over_x over_z p = (is.words (place_between x z)).1 (x, z, refl, over_x, over_z, p)

-- a place of these is a place
pub holding_only : (pairs : List Pair) (P : List Pair → List Pair → Type 0) (holding : Complete MarkedLetter) → IsLang (marked_letters pairs) (IsPlaceWhere pairs P) holding → (v : List MarkedLetter) → Accepts holding v → IsPlaceWhere pairs (λ x z. Unit {0}) v
holding_only pairs P holding is v h = let r = (is.words v).0 h in (r.0, r.1, r.2, r.3, r.4, tt)

pub lacking_only : (pairs : List Pair) (every holding lacking : Complete MarkedLetter) → IsLang (marked_letters pairs) (IsPlaceWhere pairs (λ x z. Unit {0})) every → IsLang every.letters (λ v. Accepts every v × ¬ Accepts holding v) lacking → (v : List MarkedLetter) → Accepts lacking v → IsPlaceWhere pairs (λ x z. Unit {0}) v
lacking_only pairs every holding lacking all is v h = (all.words v).0 ((is.words v).0 h).0

-- one filling, the pair itself
pub alone_known : (pairs : List Pair) (pair x : Pair) → Contains pairs pair → Contains (Some pair ∷ []) (Some x) → Contains pairs x
alone_known pairs pair x known h =
    elim (Contains-cons_cases (Some pair) [] (Some x) h) as (λ _. Contains pairs x) [
      | inl e ↦ let same : pair ≡ x = cc in subst (Contains pairs) same known
      | inr none ↦ absurd (Contains-nil_cases (Some x) none)
    ]

alone_is : (pair : Pair) (o : Option Pair) → Contains (Some pair ∷ []) o → Some pair ≡ o
alone_is pair o h = elim (Contains-cons_cases (Some pair) [] o h) as (λ _. Some pair ≡ o) [ inl e ↦ e | inr none ↦ absurd (Contains-nil_cases o none) ]

module _ (pairs : List Pair) (pair : Pair) (contexts : List PairContext) (holding : Complete MarkedLetter) (holds : IsLang (marked_letters pairs) (IsPlaceWhere pairs (Holds contexts)) holding) where
  -- `/<=`
  pub never_kept : (made : Complete Pair) → IsLang pairs (λ p. IsOver pairs p × StandsNowhere (Contains (Some pair ∷ [])) (λ x z. Accepts holding (place_between x z)) p) made → IsLang pairs (λ p. IsOver pairs p × KeepsPair Never pair contexts p) made
  never_kept made is =
      record {
        complete = is.complete;
        over = is.over;
        words = λ p. (
          λ h. let r = (is.words p).0 h in (r.0, λ x z e place. let parts = parts_over pairs x z (Some pair) p r.0 e in r.1 x z (Some pair) (Contains-head (Some pair) []) e (holding_place pairs (Holds contexts) holding holds x z parts.0 parts.1 place)),
          λ h. (is.words p).1 (h.0, λ x z o filling e place. h.1 x z (subst (λ (f : Option Pair). p ≡ x ++ (option_to_list f ++ z)) (sym (alone_is pair o filling)) e) (place_holding pairs (Holds contexts) holding holds x z place)),
        );
      }

  -- `<=`
  pub must_kept : (others : List (Option Pair)) (made : Complete Pair) → ((o : Option Pair) → Contains others o ↔ IsOther pairs pair o) → IsLang pairs (λ p. IsOver pairs p × StandsNowhere (Contains others) (λ x z. Accepts holding (place_between x z)) p) made
      → IsLang pairs (λ p. IsOver pairs p × KeepsPair Must pair contexts p) made
  must_kept others made others_are is =
      record {
        complete = is.complete;
        over = is.over;
        words = λ p. (there p, upwards p);
      }
    where
      there : (p : List Pair) → Accepts made p → IsOver pairs p × KeepsPair Must pair contexts p
      there p h =
          let r = (is.words p).0 h in (
            r.0,
            (
              λ x z other e up low place.
                  let parts = parts_over pairs x z (Some other) p r.0 e in
                  r.1 x z (Some other) ((others_are (Some other)).1 (pair_over pairs x z other p r.0 e, up, low)) e (holding_place pairs (Holds contexts) holding holds x z parts.0 parts.1 place),
              λ inserts x z e place.
                  let parts = parts_over pairs x z None p r.0 e in
                  r.1 x z None ((others_are None).1 inserts) e (holding_place pairs (Holds contexts) holding holds x z parts.0 parts.1 place),
            ),
          )

      by : (p : List Pair) → KeepsPair Must pair contexts p → (x z : List Pair) (o : Option Pair) → IsOther pairs pair o → p ≡ x ++ (option_to_list o ++ z) → Holds contexts x z → ⊥
      by p keeps x z None other e place = keeps.1 other x z e place
      by p keeps x z (Some c) other e place = keeps.0 x z c e other.1 other.2 place

      upwards : (p : List Pair) → IsOver pairs p × KeepsPair Must pair contexts p → Accepts made p
      upwards p h = (is.words p).1 (h.0, λ x z o filling e place. by p h.1 x z o ((others_are o).0 filling) e (place_holding pairs (Holds contexts) holding holds x z place))

  -- `=>`
  pub only_kept : (every lacking : Complete MarkedLetter) (made : Complete Pair) → IsLang (marked_letters pairs) (IsPlaceWhere pairs (λ x z. Unit {0})) every → IsLang every.letters (λ v. Accepts every v × ¬ Accepts holding v) lacking
      → IsLang pairs (λ p. IsOver pairs p × StandsNowhere (Contains (Some pair ∷ [])) (λ x z. Accepts lacking (place_between x z)) p) made → IsLang pairs (λ p. IsOver pairs p × KeepsPair Only pair contexts p) made
  only_kept every lacking made all lacks is =
      record {
        complete = is.complete;
        over = is.over;
        words = λ p. (there p, upwards p);
      }
    where
      there : (p : List Pair) → Accepts made p → IsOver pairs p × KeepsPair Only pair contexts p
      there p h = let r = (is.words p).0 h in (r.0, λ x z e. allowed x z e r.0 r.1)
        where
          allowed : (x z : List Pair) → p ≡ x ++ pair ∷ z → IsOver pairs p → StandsNowhere (Contains (Some pair ∷ [])) (λ x z. Accepts lacking (place_between x z)) p → Holds contexts x z
          allowed x z e over none =
              let v : List MarkedLetter = place_between x z in
              let parts = parts_over pairs x z (Some pair) p over e in
              let place = holding_place pairs (λ x z. Unit {0}) every all x z parts.0 parts.1 tt in
              let over_v : IsOver holding.letters v = subst (λ (l : List MarkedLetter). IsOver l v) (all.over ∙ sym holds.over) (accepted_over every all.complete place) in
              elim (accepts_or_not holding holds.complete v 0 holds.complete.start over_v) as (λ _. Holds contexts x z) [
                | inl there_is ↦ place_holding pairs (Holds contexts) holding holds x z there_is
                | inr none_is ↦ absurd (none x z (Some pair) (Contains-head (Some pair) []) e ((lacks.words v).1 (place, none_is)))
              ]

      upwards : (p : List Pair) → IsOver pairs p × KeepsPair Only pair contexts p → Accepts made p
      upwards p h = (is.words p).1 (
        h.0,
        λ x z o filling e place.
            let bad = (lacks.words (place_between x z)).0 place in
            let parts = parts_over pairs x z o p h.0 e in
            let holds_there = h.1 x z (subst (λ (f : Option Pair). p ≡ x ++ (option_to_list f ++ z)) (sym (alone_is pair o filling)) e) in
            bad.1 (holding_place pairs (Holds contexts) holding holds x z parts.0 parts.1 holds_there),
      )

-- `<=>`
pub both_kept : (pairs : List Pair) (pair : Pair) (contexts : List PairContext) (only must made : Complete Pair) → IsLang pairs (λ p. IsOver pairs p × KeepsPair Only pair contexts p) only → IsLang pairs (λ p. IsOver pairs p × KeepsPair Must pair contexts p) must
    → IsLang only.letters (λ p. Accepts only p × Accepts must p) made → IsLang pairs (λ p. IsOver pairs p × KeepsPair Both pair contexts p) made
both_kept pairs pair contexts only must made first second is =
    record {
      complete = is.complete;
      over = is.over ∙ first.over;
      words = λ p. (
        λ h. let r = (is.words p).0 h in let a = (first.words p).0 r.0 in let b = (second.words p).0 r.1 in (a.0, (a.1, b.1)),
        λ h. (is.words p).1 ((first.words p).1 (h.0, h.1.0), (second.words p).1 (h.0, h.1.1)),
      );
    }

-- the rule's own kind
pub kept_by_kind : (pairs : List Pair) (rule : LangRule) (kind : RuleKind) (made : Complete Pair) → rule.kind ≡ kind → IsLang pairs (λ p. IsOver pairs p × KeepsPair kind rule.pair rule.contexts.items p) made → IsLang pairs (λ p. IsOver pairs p × Keeps p rule) made
kept_by_kind pairs rule kind made is h = subst (λ k. IsLang pairs (λ p. IsOver pairs p × KeepsPair k rule.pair rule.contexts.items p) made) (sym is) h

-- the rules so far
pub all_strings : (pairs : List Pair) (lang : Complete Pair) → IsLang pairs (IsOver pairs) lang → IsLang pairs (KeepsAll pairs []) lang
all_strings pairs lang is =
    record {
      complete = is.complete;
      over = is.over;
      words = λ p. (λ h. ((is.words p).0 h, λ r among. absurd (Contains-nil_cases r among)), λ h. (is.words p).1 h.0);
    }

pub one_more : (pairs : List Pair) (before : List LangRule) (rule : LangRule) (lang kept made : Complete Pair) → IsLang pairs (KeepsAll pairs before) lang → IsLang pairs (λ p. IsOver pairs p × Keeps p rule) kept
    → IsLang lang.letters (λ p. Accepts lang p × Accepts kept p) made → IsLang pairs (KeepsAll pairs (before ++ rule ∷ [])) made
one_more pairs before rule lang kept made so_far next is =
    record {
      complete = is.complete;
      over = is.over ∙ so_far.over;
      words = λ p. (there p, upwards p);
    }
  where
    there : (p : List Pair) → Accepts made p → KeepsAll pairs (before ++ rule ∷ []) p
    there p h =
        let r = (is.words p).0 h in
        let a = (so_far.words p).0 r.0 in
        let b = (next.words p).0 r.1 in
        (a.0, λ s among. elim (Contains-push_cases before rule s among) as (λ _. Keeps p s) [ inl old ↦ a.1 s old | inr e ↦ subst (λ (t : LangRule). Keeps p t) e b.1 ])

    upwards : (p : List Pair) → KeepsAll pairs (before ++ rule ∷ []) p → Accepts made p
    upwards p h =
        (is.words p).1 ((so_far.words p).1 (h.0, λ s among. h.1 s (Contains-append_left before (rule ∷ []) s among)), (next.words p).1 (h.0, h.1 rule (Contains-push before rule)))

-- the automaton of the strings, as a transducer
pub grammar_relates : (pairs : List Pair) (rules : List LangRule) (m : Automaton Pair) → ((p : List Pair) → language.Accepts m p ↔ KeepsAll pairs rules p) → AreSame (IsRelated m) (GrammarRelates pairs rules)
grammar_relates pairs rules m is u w = (
  λ h. (h.0, (is h.0).0 h.1, h.2, h.3),
  λ h. (h.0, (is h.0).1 h.1, h.2, h.3),
)

-- the rule's contexts and its pair
pub rule_among : (pairs : List Pair) (rules : List LangRule) (rule : LangRule) → ((r : LangRule) → Contains rules r → IsRuleOver pairs r) → Contains rules rule → IsRuleOver pairs rule
rule_among pairs rules rule all among = all rule among

-- the pairs so far that are others than this one
abbrev pub AmongOthers : List Pair → Pair → Option Pair → Type 0
AmongOthers pairs pair None = ⊥
AmongOthers pairs pair (Some other) = Contains pairs other × (other.up ≡ pair.up) × (other.low ≢ pair.low)

pub others_none : (pair : Pair) (o : Option Pair) → Contains [] o ↔ AmongOthers [] pair o
others_none pair None = (λ h. absurd (Contains-nil_cases None h), λ h. absurd h)
others_none pair (Some x) = (λ h. absurd (Contains-nil_cases (Some x) h), λ h. absurd (Contains-nil_cases x h.0))

-- one pair more, which is another, or isn't
pub others_more : (pair x : Pair) (before : List Pair) (found : List (Option Pair)) → ((o : Option Pair) → Contains found o ↔ AmongOthers before pair o) → (x.up ≡ pair.up) × (x.low ≢ pair.low) → (o : Option Pair) → Contains (found ++ Some x ∷ []) o ↔ AmongOthers (before ++ x ∷ []) pair o
others_more pair x before found so_far is None = (
  λ h. elim (Contains-push_cases found (Some x) None h) as (λ _. ⊥) [ inl a ↦ (so_far None).0 a | inr e ↦ absurd (cc) ],
  λ h. absurd h,
)
others_more pair x before found so_far is (Some y) = (
  λ h. elim (Contains-push_cases found (Some x) (Some y) h) as (λ _. AmongOthers (before ++ x ∷ []) pair (Some y)) [
    | inl a ↦ let r = (so_far (Some y)).0 a in (Contains-append_left before (x ∷ []) y r.0, r.1, r.2)
    | inr e ↦ let same : x ≡ y = same_Some x y e in subst (λ (z : Pair). Contains (before ++ x ∷ []) z × (z.up ≡ pair.up) × (z.low ≢ pair.low)) same (Contains-push before x, is.0, is.1)
  ],
  λ h. elim (Contains-push_cases before x y h.0) as (λ _. Contains (found ++ Some x ∷ []) (Some y)) [
    | inl a ↦ Contains-append_left found (Some x ∷ []) (Some y) ((so_far (Some y)).1 (a, h.1, h.2))
    | inr e ↦ subst (λ (z : Pair). Contains (found ++ Some x ∷ []) (Some z)) e (Contains-push found (Some x))
  ],
)

pub others_same : (pair x : Pair) (before : List Pair) (found : List (Option Pair)) → ((o : Option Pair) → Contains found o ↔ AmongOthers before pair o) → ((x.up ≡ pair.up) × (x.low ≢ pair.low) → ⊥) → (o : Option Pair) → Contains found o ↔ AmongOthers (before ++ x ∷ []) pair o
others_same pair x before found so_far not None = so_far None
others_same pair x before found so_far not (Some y) = (
  λ h. let r = (so_far (Some y)).0 h in (Contains-append_left before (x ∷ []) y r.0, r.1, r.2),
  λ h. elim (Contains-push_cases before x y h.0) as (λ _. Contains found (Some y)) [
    | inl a ↦ (so_far (Some y)).1 (a, h.1, h.2)
    | inr e ↦ absurd (not (subst (λ (z : Pair). (z.up ≡ pair.up) × (z.low ≢ pair.low)) (sym e) (h.1, h.2)))
  ],
)

-- all of them, and nothing where the pair inserts
pub others_inserting : (pairs : List Pair) (pair : Pair) (found : List (Option Pair)) → ((o : Option Pair) → Contains found o ↔ AmongOthers pairs pair o) → pair.up ≡ None → (o : Option Pair) → Contains (found ++ None ∷ []) o ↔ IsOther pairs pair o
others_inserting pairs pair found all inserts None = (λ h. inserts, λ h. Contains-push found None)
others_inserting pairs pair found all inserts (Some y) = (
  λ h. elim (Contains-push_cases found None (Some y) h) as (λ _. IsOther pairs pair (Some y)) [ inl a ↦ (all (Some y)).0 a | inr e ↦ absurd (cc) ],
  λ h. Contains-append_left found (None ∷ []) (Some y) ((all (Some y)).1 h),
)

pub others_replacing : (pairs : List Pair) (pair : Pair) (found : List (Option Pair)) → ((o : Option Pair) → Contains found o ↔ AmongOthers pairs pair o) → (pair.up ≡ None → ⊥) → (o : Option Pair) → Contains found o ↔ IsOther pairs pair o
others_replacing pairs pair found all not None = (λ h. absurd ((all None).0 h), λ h. absurd (not h))
others_replacing pairs pair found all not (Some y) = all (Some y)

-- what an automaton has that was made of a language
pub through : (pairs : List Pair) (P : List Pair → Type 0) (lang : Complete Pair) (m : Automaton Pair) → IsLang pairs P lang → ((p : List Pair) → language.Accepts m p ↔ Accepts lang p) → (p : List Pair) → language.Accepts m p ↔ P p
through pairs P lang m is accepts p = (λ h. (is.words p).0 ((accepts p).0 h), λ h. (accepts p).1 ((is.words p).1 h))

pub lang_letters : (pairs : List Pair) (lang : Complete Pair) (m : Automaton Pair) → lang.letters ≡ pairs → ((x : Pair) → UsesLetter m x → Contains lang.letters x) → UsesOnly pairs m
lang_letters pairs lang m over used x h = subst (λ (z : List Pair). Contains z x) over (used x h)

-- the rules taken so far, and all of them
pub next_rule : (pairs : List Pair) (rules : List LangRule) (k : ℕ) (rule : LangRule) (lang kept made : Complete Pair) → k < length rules → rule ≡ get_or rules k rule → IsLang pairs (KeepsAll pairs (take k rules)) lang → IsLang pairs (λ p. IsOver pairs p × Keeps p rule) kept
    → IsLang lang.letters (λ p. Accepts lang p × Accepts kept p) made → IsLang pairs (KeepsAll pairs (take (k + 1) rules)) made
next_rule pairs rules k rule lang kept made within at so_far next is =
    subst (λ (rs : List LangRule). IsLang pairs (KeepsAll pairs rs) made) (sym (take_more-slice_get rules k rule (slice_get_read rules (length rules) k rule refl within at))) (one_more pairs (take k rules) rule lang kept made so_far next is)

pub all_rules : (pairs : List Pair) (rules : List LangRule) (k : ℕ) (lang : Complete Pair) → length rules ≤ k → IsLang pairs (KeepsAll pairs (take k rules)) lang → IsLang pairs (KeepsAll pairs rules) lang
all_rules pairs rules k lang past so_far = subst (λ (rs : List LangRule). IsLang pairs (KeepsAll pairs rs) lang) (take_all k rules past) so_far

-- the search for the others, step by step
next_pair : (pairs : List Pair) (k : ℕ) (d : Pair) → k < length pairs → take (k + 1) pairs ≡ take k pairs ++ get_or pairs k d ∷ []
next_pair pairs k d within = take_more-slice_get pairs k (get_or pairs k d) (slice_get-get_or pairs k d within)

pub others_step : (pairs : List Pair) (pair d : Pair) (k : ℕ) (found new : List (Option Pair)) → k < length pairs → ((o : Option Pair) → Contains found o ↔ AmongOthers (take k pairs) pair o) → new ≡ found ++ Some (get_or pairs k d) ∷ []
    → ((get_or pairs k d).up ≡ pair.up) × ((get_or pairs k d).low ≢ pair.low) → (o : Option Pair) → Contains new o ↔ AmongOthers (take (k + 1) pairs) pair o
others_step pairs pair d k found new within so_far made is =
    subst (λ (l : List (Option Pair)). (o : Option Pair) → Contains l o ↔ AmongOthers (take (k + 1) pairs) pair o) (sym made)
    (subst (λ (t : List Pair). (o : Option Pair) → Contains (found ++ Some (get_or pairs k d) ∷ []) o ↔ AmongOthers t pair o) (sym (next_pair pairs k d within)) (others_more pair (get_or pairs k d) (take k pairs) found so_far is))

pub others_pass : (pairs : List Pair) (pair d : Pair) (k : ℕ) (found new : List (Option Pair)) (b : Bool) → k < length pairs → ((o : Option Pair) → Contains found o ↔ AmongOthers (take k pairs) pair o) → new ≡ found
    → (((get_or pairs k d).up ≡ pair.up) × ((get_or pairs k d).low ≢ pair.low) → b ≡ true) → b ≡ false → (o : Option Pair) → Contains new o ↔ AmongOthers (take (k + 1) pairs) pair o
others_pass pairs pair d k found new b within so_far made is none =
    subst (λ (l : List (Option Pair)). (o : Option Pair) → Contains l o ↔ AmongOthers (take (k + 1) pairs) pair o) (sym made)
    (subst (λ (t : List Pair). (o : Option Pair) → Contains found o ↔ AmongOthers t pair o) (sym (next_pair pairs k d within)) (others_same pair (get_or pairs k d) (take k pairs) found so_far (λ h. clash b (is h) none)))
  where
    clash : (b : Bool) → b ≡ true → b ≡ false → ⊥
    clash b e h = cc

pub others_end_inserting : (pairs : List Pair) (pair : Pair) (k : ℕ) (found new : List (Option Pair)) (b : Bool) → length pairs ≤ k → ((o : Option Pair) → Contains found o ↔ AmongOthers (take k pairs) pair o) → new ≡ found ++ None ∷ []
    → is_some pair.up ≡ not b → b ≡ true → (o : Option Pair) → Contains new o ↔ IsOther pairs pair o
others_end_inserting pairs pair k found new b past so_far made is inserts =
    subst (λ (l : List (Option Pair)). (o : Option Pair) → Contains l o ↔ IsOther pairs pair o) (sym made)
    (others_inserting pairs pair found (subst (λ (t : List Pair). (o : Option Pair) → Contains found o ↔ AmongOthers t pair o) (take_all k pairs past) so_far) (none_is pair.up (is ∙ ap not inserts)))
  where
    none_is : (side : Option Sym) → is_some side ≡ not true → side ≡ None
    none_is None e = refl
    none_is (Some s) e = let h : true ≡ false = e in absurd (cc)

pub others_end : (pairs : List Pair) (pair : Pair) (k : ℕ) (found new : List (Option Pair)) (b : Bool) → length pairs ≤ k → ((o : Option Pair) → Contains found o ↔ AmongOthers (take k pairs) pair o) → new ≡ found
    → is_some pair.up ≡ not b → b ≡ false → (o : Option Pair) → Contains new o ↔ IsOther pairs pair o
others_end pairs pair k found new b past so_far made is replaces =
    subst (λ (l : List (Option Pair)). (o : Option Pair) → Contains l o ↔ IsOther pairs pair o) (sym made)
    (others_replacing pairs pair found (subst (λ (t : List Pair). (o : Option Pair) → Contains found o ↔ AmongOthers t pair o) (take_all k pairs past) so_far) (some_is pair.up (is ∙ ap not replaces)))
  where
    some_is : (side : Option Sym) → is_some side ≡ not false → side ≡ None → ⊥
    some_is None e h = let clash : false ≡ true = e in cc
    some_is (Some s) e h = cc
