-- The automaton of places accepts the pairs of the tapes whose flags pass.
use Rattle.std.proofs.Common.{◌≡◌, ℕ, ◌<◌, ◌↔◌, List, [], ◌++◌, Bool, Option, None, Some, length, refl, subst, sym, ap, arith, ◌∙◌}
use Rattle.std.specs.List.{Contains}
use Rattle.std.specs.Option.{option_map, option_to_list}
use Rattle.std.proofs.lemmas.Option.{slice_get_within, same_Some}
use Rattle.fsm_base.specs.declared.letters.Pair.{Pair}
use Rattle.word_relations.specs.Relations.{AreSame}
use Rattle.fsa.specs.Automaton.{Automaton, UsesLetter}
use Rattle.fsa.specs.Language.{Accepts, AcceptsFrom, stop}
use Rattle.fsa.specs.declared.automaton.Edge.{Edge}
use Rattle.fsa_rational.proofs.Walks.{AcceptsFrom-least, AcceptsFrom-step}
use Rattle.fst_algebra.specs.Relation.{IsRelated, uppers, lowers}
use Rattle.regex_ast.specs.declared.lexc.FlagOp.{FlagOp}
use Rattle.flag_diacritics.specs.declared.tape.Tape.{Tape}
use Rattle.flag_diacritics.specs.declared.tape.Tape.TheVariants.{Pair as OfPair, UpFlag, LowFlag}
use Rattle.flag_diacritics.specs.declared.actions.Action.{Action}
use Rattle.flag_diacritics.specs.Tapes.{pairs_of, HasPairs, TapesRelate, UsesPair}
use Rattle.flag_diacritics.specs.Numbers.{Features, AreActions, behind}
use Rattle.flag_diacritics.specs.declared.idle.Idle.{Idle}
use Rattle.flag_diacritics.specs.Idle.{AreIdle, live_behind, masked_at}
use Rattle.flag_diacritics.specs.Search.{Names, IsAt, Leads, IsResolved, letter_for}
use Rattle.flag_diacritics.proofs.Passing.{Runs, all_neutral, runs_from_start}
use Rattle.flag_diacritics.proofs.Idling.{runs_step, runs_cases, mapped_some, masked_runs}
use Rattle.flag_diacritics.proofs.Searching.{one_state, one_list}

pairs_step : (letter : Option Tape) (tape : List Tape) → pairs_of (option_to_list letter ++ tape) ≡ option_to_list (letter_for letter) ++ pairs_of tape
pairs_step None tape = refl
pairs_step (Some (OfPair pair)) tape = refl
pairs_step (Some (UpFlag n)) tape = refl
pairs_step (Some (LowFlag n)) tape = refl

pair_letter : (letter : Option Tape) (x : Pair) → letter_for letter ≡ Some x → letter ≡ Some (OfPair x)
pair_letter None x is = let clash : None ≡ Some x = is in cc
pair_letter (Some (OfPair pair)) x is = ap (λ p. Some (OfPair p)) (same_Some pair x is)
pair_letter (Some (UpFlag n)) x is = let clash : None ≡ Some x = is in cc
pair_letter (Some (LowFlag n)) x is = let clash : None ≡ Some x = is in cc

-- edges lie between states, and there is a start
pub resolved_start : (step : Edge Tape → Features → Option Features) (net : Automaton Tape) (first : Features) (names : Names) (edges : List (Edge Pair)) (finals : List Bool) → IsResolved step net first names edges finals → 0 < length finals
resolved_start step net first names edges finals is =
    let l = slice_get_within names.places 0 is.start.place is.start.stands in
    let count = is.count in
    omega arith

pub resolved_within : (step : Edge Tape → Features → Option Features) (net : Automaton Tape) (first : Features) (names : Names) (edges : List (Edge Pair)) (finals : List Bool) → IsResolved step net first names edges finals → (e : Edge Pair) → Contains edges e → (e.from < length finals) × (e.to < length finals)
resolved_within step net first names edges finals is e h =
    let r = is.only e h in
    let from = slice_get_within names.places e.from (r.2).place (r.2).stands in
    let to = slice_get_within names.places e.to (r.4).at.place (r.4).at.stands in
    let count = is.count in
    (omega arith, omega arith)

module _ (actions : List Action) (idle : Idle) (net : Automaton Tape) (are_idle : AreIdle actions idle net.edges) (first : Features) (names : Names) (m : Automaton Pair) (is : IsResolved (live_behind actions idle) net first names m.edges m.finals) where
  abbrev HasTape : ℕ → Features → List Pair → Type 0
  HasTape state now pairs = (tape : List Tape) × AcceptsFrom net state tape × Runs actions now tape × (pairs ≡ pairs_of tape)

  down : {k : ℕ} {w : List Pair} → AcceptsFrom m k w → (state : ℕ) (now : Features) → IsAt names k state now → HasTape state now w
  down = AcceptsFrom-least m (λ k w. (state : ℕ) (now : Features) → IsAt names k state now → HasTape state now w)
      (λ k h state now at. ([], stop ((is.final k state now at).0 h), tt, refl))
      (λ e w held rest state now at.
      let r = is.only e held in
      let old : Edge Tape = r.1 in
      let leads : Leads (live_behind actions idle) names r.0 old e = r.4 in
      let state_is : old.from ≡ state = one_state names e.from old.from state r.0 now r.2 at in
      let list_is : r.0 ≡ now = one_list names e.from old.from state r.0 now r.2 at in
      let s = mapped_some (masked_at idle old.to) (behind actions old.letter r.0) leads.next leads.passes in
      let t = rest old.to leads.next leads.at in
      let runs : Runs actions s.0 t.0 = (masked_runs actions idle net are_idle old.to t.0 t.1 s.0).1 (subst (λ (z : Features). Runs actions z t.0) (sym s.2) t.2) in
      let word : option_to_list e.letter ++ w ≡ pairs_of (option_to_list old.letter ++ t.0) =
      ap (λ (l : Option Pair). option_to_list l ++ w) leads.letter ∙ ap (λ (v : List Pair). option_to_list (letter_for old.letter) ++ v) t.3 ∙ sym (pairs_step old.letter t.0) in
      let here : HasTape old.from r.0 (option_to_list e.letter ++ w) =
      (option_to_list old.letter ++ t.0, AcceptsFrom-step net old t.0 r.3 t.1, runs_step actions old.letter r.0 s.0 t.0 s.1 runs, word) in
      subst (λ p. HasTape p now (option_to_list e.letter ++ w)) state_is (subst (λ (z : Features). HasTape old.from z (option_to_list e.letter ++ w)) list_is here))

  abbrev Climbs : ℕ → List Tape → Type 0
  Climbs state tape = AcceptsFrom net state tape × ((now : Features) → Runs actions now tape → (k : ℕ) → IsAt names k state now → AcceptsFrom m k (pairs_of tape))

  up : {state : ℕ} {tape : List Tape} → AcceptsFrom net state tape → Climbs state tape
  up = AcceptsFrom-least net Climbs
      (λ q h. (stop h, λ now r k at. stop ((is.final k q now at).1 h)))
      (λ old tape held rest. (
        AcceptsFrom-step net old tape held rest.0,
        λ now r k at.
            let c = runs_cases actions old.letter now tape r in
            let mask : Features = masked_at idle old.to c.0 in
            let new = is.all k now mask old at held (ap (option_map (masked_at idle old.to)) c.1) in
            let e : Edge Pair = new.0 in
            let leads : Leads (live_behind actions idle) names now old e = new.3 in
            let next_is : mask ≡ leads.next = same_Some mask leads.next (sym (ap (option_map (masked_at idle old.to)) c.1) ∙ leads.passes) in
            let path = rest.1 leads.next (subst (λ (z : Features). Runs actions z tape) next_is ((masked_runs actions idle net are_idle old.to tape rest.0 c.0).0 c.2)) e.to leads.at in
            let step : AcceptsFrom m e.from (option_to_list e.letter ++ pairs_of tape) = AcceptsFrom-step m e (pairs_of tape) new.1 path in
            let word : option_to_list e.letter ++ pairs_of tape ≡ pairs_of (option_to_list old.letter ++ tape) = ap (λ (l : Option Pair). option_to_list l ++ pairs_of tape) leads.letter ∙ sym (pairs_step old.letter tape) in
            subst (λ j. AcceptsFrom m j (pairs_of (option_to_list old.letter ++ tape))) new.2 (subst (λ (v : List Pair). AcceptsFrom m e.from v) word step),
      ))

  resolved_tapes : (pairs : List Pair) → Accepts m pairs ↔ HasTape 0 first pairs
  resolved_tapes pairs = (
    λ h. down h 0 first is.start,
    λ (tape, path, runs, word). subst (λ (v : List Pair). AcceptsFrom m 0 v) (sym word) ((up path).1 first runs 0 is.start),
  )

  pub resolved_letters : (x : Pair) → UsesLetter m x → UsesPair net x
  resolved_letters x (e, held, reads) =
      let r = is.only e held in
      let leads : Leads (live_behind actions idle) names r.0 r.1 e = r.4 in
      (r.1, r.3, pair_letter (r.1).letter x (sym leads.letter ∙ reads))

  module _ (features values : List (List ℕ)) (flags : List FlagOp) (are : AreActions features values flags actions) (first_is : first ≡ all_neutral (length features)) where
    pub resolved_language : (pairs : List Pair) → Accepts m pairs ↔ HasPairs net flags pairs
    resolved_language pairs =
        let same = resolved_tapes pairs in (
          λ h.
              let t = same.0 h in
              (t.0, t.1, (runs_from_start features values flags actions are t.0).0 (subst (λ (z : Features). Runs actions z t.0) first_is t.2), t.3),
          λ (tape, path, pass, word). same.1 (tape, path, subst (λ (z : Features). Runs actions z tape) (sym first_is) ((runs_from_start features values flags actions are tape).1 pass), word),
        )

-- the same language, and so the relation
pub resolved_relation : (net : Automaton Tape) (flags : List FlagOp) (m : Automaton Pair) → ((pairs : List Pair) → Accepts m pairs ↔ HasPairs net flags pairs) → AreSame (IsRelated m) (TapesRelate net flags)
resolved_relation net flags m same u w = (
  λ (pairs, path, up, low). let t = (same pairs).0 path in (t.0, t.1, t.2, ap uppers (sym t.3) ∙ up, ap lowers (sym t.3) ∙ low),
  λ (tape, path, pass, up, low). (pairs_of tape, (same (pairs_of tape)).1 (tape, path, pass, refl), up, low),
)
