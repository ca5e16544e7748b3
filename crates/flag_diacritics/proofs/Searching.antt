-- The walk over places: what each place that is looked at adds.
use Rattle.std.proofs.Common.{◌≡◌, ℕ, ◌+◌, ◌<◌, ◌≤◌, ◌⊎◌, ◌↔◌, List, [], ◌∷◌, ◌++◌, Bool, true, Option, None, Some, IsTrue, length, get_or, take, refl, subst, sym, ap, inl, inr, arith, ◌∙◌}
use Rattle.std.specs.List.{Contains, slice_get}
use Rattle.std.proofs.lemmas.Bool.{cases_lt}
use Rattle.std.proofs.lemmas.List.{take_more, take_all, length_push}
use Rattle.std.proofs.lemmas.List.Elements.{Contains-push_cases, Contains-push, Contains-append_left}
use Rattle.std.proofs.lemmas.Option.{slice_get_within, same_Some, slice_get-get_or}
use Rattle.fsm_base.specs.declared.letters.Pair.{Pair}
use Rattle.word_relations.proofs.Members.{Contains-nil_cases}
use Rattle.word_relations.proofs.Places.{slice_get-append_left, slice_get-push, same_at}
use Rattle.fsa.specs.Automaton.{Automaton, IsFinal}
use Rattle.fsa.specs.declared.automaton.Edge.{Edge}
use Rattle.flag_diacritics.specs.declared.setting.Setting.{Setting}
use Rattle.flag_diacritics.specs.declared.tape.Tape.{Tape}
use Rattle.flag_diacritics.specs.declared.tape.Tape.TheVariants.{UpFlag, LowFlag}
use Rattle.flag_diacritics.specs.declared.actions.Action.{Action}
use Rattle.flag_diacritics.specs.declared.tables.Place.{Place}
use Rattle.flag_diacritics.specs.Numbers.{Features, Keeps, IsNumbered, with_upper, with_lower, behind_if, behind}
use Rattle.flag_diacritics.specs.Idle.{behind_edge}
use Rattle.flag_diacritics.specs.Search.{Shows, IsPlaceBehind, Names, IsAt, AreShown, Leads, AddsEdges, IsResolved, letter_for}
use Rattle.flag_diacritics.proofs.Finding.{keeps_more, keeps_then}

-- what was numbered stays
pub shows_kept : (old new : List (List Setting)) → Keeps old new → (place : Place) (now : Features) → Shows old place now → Shows new place now
shows_kept old new kept place now h = record { upper = kept place.upper now.upper h.upper; lower = kept place.lower now.lower h.lower }

module _ (old new : Names) (places : Keeps old.places new.places) (features : Keeps old.features new.features) where
  pub at_kept : (k state : ℕ) (now : Features) → IsAt old k state now → IsAt new k state now
  at_kept k state now h = record { place = h.place; stands = places k h.place h.stands; state_is = h.state_is; shows = shows_kept old.features new.features features h.place now h.shows }

  leads_kept : (step : Edge Tape → Features → Option Features) (now : Features) (e : Edge Tape) (f : Edge Pair) → Leads step old now e f → Leads step new now e f
  leads_kept step now e f h = record { next = h.next; passes = h.passes; at = at_kept f.to e.to h.next h.at; letter = h.letter }

-- a number is that of one state and one list of features
same_features : (now then : Features) → now.upper ≡ then.upper → now.lower ≡ then.lower → now ≡ then
same_features now then up low = ap (λ (u : List Setting). record { upper = u; lower = now.lower }) up ∙ ap (λ (l : List Setting). record { upper = then.upper; lower = l }) low

module _ (names : Names) (k state other : ℕ) (now then : Features) (here : IsAt names k state now) (there : IsAt names k other then) where
  one_place : here.place ≡ there.place
  one_place = same_at names.places k here.place there.place here.stands there.stands

  pub one_state : state ≡ other
  one_state = sym here.state_is ∙ ap (λ (p : Place). p.state) one_place ∙ there.state_is

  pub one_list : now ≡ then
  one_list =
      same_features now then
      (same_at names.features there.place.upper now.upper then.upper (ap (λ (p : Place). slice_get names.features p.upper) (sym one_place) ∙ here.shows.upper) there.shows.upper)
      (same_at names.features there.place.lower now.lower then.lower (ap (λ (p : Place). slice_get names.features p.lower) (sym one_place) ∙ here.shows.lower) there.shows.lower)

-- one edge of the network: its flag doesn't pass, or an edge is added
module _ (step : Edge Tape → Features → Option Features) (number : ℕ) (now : Features) (edge : Edge Tape) (places : List Place) (features new_features : List (List Setting)) (kept : Keeps features new_features) (edges : List (Edge Pair)) where
  pub AddsEdges-blocked : step edge now ≡ None → AddsEdges step number now (λ e. e ≡ edge) (record { places = places; features = features }) edges (record { places = places; features = new_features }) edges
  AddsEdges-blocked blocked = record {
    places = λ k x at. at;
    features = kept;
    shown = λ shown k place at. let s = shown k place at in (s.0, shows_kept features new_features kept place s.0 s.1);
    kept = λ e h. h;
    only = λ e h. inl h;
    all = λ old next same passes. let clash : None ≡ Some next = sym blocked ∙ ap (λ (e : Edge Tape). step e now) (sym same) ∙ passes in absurd (cc);
  }

  module _ (next : Features) (passes : step edge now ≡ Some next) (place : Place) (state_is : place.state ≡ edge.to) (shows : Shows new_features place next)
      (new_places : List Place) (to : ℕ) (at : slice_get new_places to ≡ Some place) (grown : (new_places ≡ places) ⊎ (new_places ≡ places ++ place ∷ [])) (new_edges : List (Edge Pair))
      (is : new_edges ≡ edges ++ record { from = number; letter = letter_for edge.letter; to = to } ∷ []) where
    made : Edge Pair
    made = record { from = number; letter = letter_for edge.letter; to = to }

    abbrev new_names : Names
    new_names = record { places = new_places; features = new_features }

    leads : (e : Edge Pair) → e.to ≡ to → e.letter ≡ letter_for edge.letter → Leads step new_names now edge e
    leads e to_is letter_is = record {
      next = next;
      passes = passes;
      at = record { place = place; stands = ap (λ k. slice_get new_places k) to_is ∙ at; state_is = state_is; shows = shows };
      letter = letter_is;
    }

    shown_more : AreShown (record { places = places; features = features }) → (new_places ≡ places) ⊎ (new_places ≡ places ++ place ∷ []) → AreShown new_names
    shown_more shown (inl same) k other there =
        let s = shown k other (ap (λ ps. slice_get ps k) (sym same) ∙ there) in (s.0, shows_kept features new_features kept other s.0 s.1)
    shown_more shown (inr more) k other there =
        let within = slice_get_within new_places k other there in
        let long : length new_places ≡ length places + 1 = ap length more ∙ length_push places place in
        elim (cases_lt k (length places)) [
          | inl below ↦
              let s = shown k other (sym (slice_get-append_left places (place ∷ []) k below) ∙ ap (λ ps. slice_get ps k) (sym more) ∙ there) in (s.0, shows_kept features new_features kept other s.0 s.1)
          | inr above ↦
              let this : length places ≡ k = omega arith in
              let last : slice_get new_places k ≡ Some place = ap (λ ps. slice_get ps k) more ∙ ap (λ j. slice_get (places ++ place ∷ []) j) (sym this) ∙ slice_get-push places place in
              let same : place ≡ other = same_at new_places k place other last there in
              (next, subst (λ p. Shows new_features p next) same shows)
        ]

    pub AddsEdges-one : AddsEdges step number now (λ e. e ≡ edge) (record { places = places; features = features }) edges (record { places = new_places; features = new_features }) new_edges
    unfolding made
    AddsEdges-one = record {
      places = keeps_more places new_places place grown;
      features = kept;
      shown = λ shown. shown_more shown grown;
      kept = λ e h. subst (λ es. Contains es e) (sym is) (Contains-append_left edges (made ∷ []) e h);
      only = λ e h. elim (Contains-push_cases edges made e (subst (λ es. Contains es e) is h)) [
        | inl held ↦ inl held
        | inr same ↦ inr (ap (λ (f : Edge Pair). f.from) (sym same), (edge, refl, leads e (ap (λ (f : Edge Pair). f.to) (sym same)) (ap (λ (f : Edge Pair). f.letter) (sym same))))
      ];
      all = λ old then same is_behind. (made, subst (λ es. Contains es made) (sym is) (Contains-push edges made), refl, subst (λ f. Leads step new_names now f made) (sym same) (leads made refl refl));
    }

module _ (step : Edge Tape → Features → Option Features) (number : ℕ) (now : Features) where
  pub AddsEdges-none : (P : Edge Tape → Type 0) (names : Names) (edges : List (Edge Pair)) → ((e : Edge Tape) → P e → ⊥) → AddsEdges step number now P names edges names edges
  AddsEdges-none P names edges never = record { places = λ k x at. at; features = λ k x at. at; shown = λ s. s; kept = λ e h. h; only = λ e h. inl h; all = λ old next p is. absurd (never old p) }

  pub AddsEdges-then : (P Q R : Edge Tape → Type 0) (a_names b_names c_names : Names) (a b c : List (Edge Pair)) → ((e : Edge Tape) → R e → P e ⊎ Q e) → ((e : Edge Tape) → P e → R e) → ((e : Edge Tape) → Q e → R e) → AddsEdges step number now P a_names a b_names b → AddsEdges step number now Q b_names b c_names c → AddsEdges step number now R a_names a c_names c
  AddsEdges-then P Q R a_names b_names c_names a b c split f g first second = record {
    places = keeps_then a_names.places b_names.places c_names.places first.places second.places;
    features = keeps_then a_names.features b_names.features c_names.features first.features second.features;
    shown = λ s. second.shown (first.shown s);
    kept = λ e h. second.kept e (first.kept e h);
    only = λ e h. elim (second.only e h) [
      | inl held ↦ elim (first.only e held) [
        | inl older ↦ inl older
        | inr r ↦ inr (r.0, (r.1.0, f r.1.0 r.1.1, leads_kept b_names c_names second.places second.features step now r.1.0 e r.1.2))
      ]
      | inr r ↦ inr (r.0, (r.1.0, g r.1.0 r.1.1, r.1.2))
    ];
    all = λ old next r is. elim (split old r) [
      | inl p ↦ let s = first.all old next p is in (s.0, second.kept s.0 s.1, s.2, leads_kept b_names c_names second.places second.features step now old s.0 s.3)
      | inr q ↦ second.all old next q is
    ];
  }

  pub AddsEdges-same : (P Q : Edge Tape → Type 0) (a_names b_names : Names) (a b : List (Edge Pair)) → ((e : Edge Tape) → P e ↔ Q e) → AddsEdges step number now P a_names a b_names b → AddsEdges step number now Q a_names a b_names b
  AddsEdges-same P Q a_names b_names a b same h = record {
    places = h.places;
    features = h.features;
    shown = h.shown;
    kept = h.kept;
    only = λ e c. elim (h.only e c) [ inl held ↦ inl held | inr r ↦ inr (r.0, (r.1.0, (same r.1.0).0 r.1.1, r.1.2)) ];
    all = λ old next q is. h.all old next ((same old).1 q) is;
  }

  -- edges that are looked at one by one
  module _ (olds : List (Edge Tape)) where
    pub edges_none : (names : Names) (edges : List (Edge Pair)) → AddsEdges step number now (Contains (take 0 olds)) names edges names edges
    edges_none names edges = AddsEdges-none (Contains (take 0 olds)) names edges (λ e h. Contains-nil_cases e h)

    pub edges_more : (i : ℕ) (d : Edge Tape) → i < length olds → (a_names b_names c_names : Names) (a b c : List (Edge Pair)) → AddsEdges step number now (Contains (take i olds)) a_names a b_names b → AddsEdges step number now (λ e. e ≡ get_or olds i d) b_names b c_names c → AddsEdges step number now (Contains (take (i + 1) olds)) a_names a c_names c
    edges_more i d within a_names b_names c_names a b c before next =
        let y : Edge Tape = get_or olds i d in
        let front : take (i + 1) olds ≡ take i olds ++ y ∷ [] = take_more olds i d within in
        AddsEdges-then (Contains (take i olds)) (λ e. e ≡ y) (Contains (take (i + 1) olds)) a_names b_names c_names a b c
        (λ e h. elim (Contains-push_cases (take i olds) y e (subst (λ ys. Contains ys e) front h)) [ inl held ↦ inl held | inr same ↦ inr (sym same) ])
        (λ e h. subst (λ ys. Contains ys e) (sym front) (Contains-append_left (take i olds) (y ∷ []) e h))
        (λ e same. subst (λ z. Contains (take (i + 1) olds) z) (sym same) (subst (λ ys. Contains ys y) (sym front) (Contains-push (take i olds) y)))
        before next

    pub edges_all : (i : ℕ) (a_names b_names : Names) (a b : List (Edge Pair)) → length olds ≤ i → AddsEdges step number now (Contains (take i olds)) a_names a b_names b → AddsEdges step number now (Contains olds) a_names a b_names b
    edges_all i a_names b_names a b past h = subst (λ ys. AddsEdges step number now (Contains ys) a_names a b_names b) (take_all i olds past) h

-- what holds when so many places were looked at as there are final marks
pub record IsExploring (step : Edge Tape → Features → Option Features) (net : Automaton Tape) (first : Features) (names : Names) (edges : List (Edge Pair)) (finals : List Bool) : Type 0 where
  pub start : IsAt names 0 0 first
  pub looked : length finals ≤ length names.places
  pub shown : AreShown names
  pub final : (k state : ℕ) (now : Features) → k < length finals → IsAt names k state now → (slice_get finals k ≡ Some true) ↔ IsFinal net state
  pub only : (e : Edge Pair) → Contains edges e → (now : Features) × (old : Edge Tape) × (e.from < length finals) × IsAt names e.from old.from now × Contains net.edges old × Leads step names now old e
  pub all : (k : ℕ) (now next : Features) (old : Edge Tape) → k < length finals → IsAt names k old.from now → Contains net.edges old → step old now ≡ Some next → (e : Edge Pair) × Contains edges e × (e.from ≡ k) × Leads step names now old e

module _ (step : Edge Tape → Features → Option Features) (net : Automaton Tape) (first : Features) where
  pub exploring_none : (names : Names) (edges : List (Edge Pair)) (finals : List Bool) → names.places ≡ record { state = 0; upper = 0; lower = 0 } ∷ [] → Shows names.features (record { state = 0; upper = 0; lower = 0 }) first → edges ≡ [] → finals ≡ [] → IsExploring step net first names edges finals
  exploring_none names edges finals one shows none no_finals =
      let zero_long : length finals ≡ 0 = ap length no_finals in
      let zero : Place = record { state = 0; upper = 0; lower = 0 } in
      let at : slice_get names.places 0 ≡ Some zero = ap (λ ps. slice_get ps 0) one in
      record {
        start = record { place = zero; stands = at; state_is = refl; shows = shows };
        looked = omega arith;
        shown = λ k place there.
            let within = slice_get_within names.places k place there in
            let long : length names.places ≡ 1 = ap length one in
            let zero_is : k ≡ 0 = omega arith in
            let same : zero ≡ place = same_at names.places k zero place (ap (λ j. slice_get names.places j) zero_is ∙ at) there in
            (first, subst (λ p. Shows names.features p first) same shows);
        final = λ k state now l at. absurd (omega arith);
        only = λ e h. absurd (Contains-nil_cases e (subst (λ es. Contains es e) none h));
        all = λ k now next old l at held is. absurd (omega arith);
      }

  module _ (old_names names : Names) (old_edges edges : List (Edge Pair)) (old_finals finals : List Bool) (state : ℕ) (now : Features) (mark : Bool)
      (before : IsExploring step net first old_names old_edges old_finals) (at : IsAt old_names (length old_finals) state now)
      (mark_is : IsTrue mark ↔ IsFinal net state) (pushed : finals ≡ old_finals ++ mark ∷ [])
      (added : AddsEdges step (length old_finals) now (λ e. Contains net.edges e × (e.from ≡ state)) old_names old_edges names edges) where
    -- what a number that was looked at before, or is looked at now, stands for
    at_before : (k other : ℕ) (then : Features) → k < length old_names.places → IsAt names k other then → IsAt old_names k other then
    at_before k other then within here =
        let place : Place = get_or old_names.places k here.place in
        let there : slice_get old_names.places k ≡ Some place = slice_get-get_or old_names.places k here.place within in
        let s = before.shown k place there in
        let old : IsAt old_names k place.state s.0 = record { place = place; stands = there; state_is = refl; shows = s.1 } in
        let new : IsAt names k place.state s.0 = at_kept old_names names added.places added.features k place.state s.0 old in
        subst (λ p. IsAt old_names k p then) (one_state names k place.state other s.0 then new here) (subst (λ z. IsAt old_names k place.state z) (one_list names k place.state other s.0 then new here) old)

    pub exploring_more : IsExploring step net first names edges finals
    exploring_more =
        let long : length finals ≡ length old_finals + 1 = ap length pushed ∙ length_push old_finals mark in
        let inside : length old_finals < length old_names.places = slice_get_within old_names.places (length old_finals) at.place at.stands in
        let there : IsAt names (length old_finals) state now = at_kept old_names names added.places added.features (length old_finals) state now at in
        let inside' : length old_finals < length names.places = slice_get_within names.places (length old_finals) there.place there.stands in
        record {
          start = at_kept old_names names added.places added.features 0 0 first before.start;
          looked = omega arith;
          shown = added.shown before.shown;
          final = λ k other then l here. elim (cases_lt k (length old_finals)) [
            | inl b ↦
                let held : IsAt old_names k other then = at_before k other then (omega arith) here in
                let same : slice_get finals k ≡ slice_get old_finals k = ap (λ fs. slice_get fs k) pushed ∙ slice_get-append_left old_finals (mark ∷ []) k b in
                let old = before.final k other then b held in
                (λ t. old.0 (sym same ∙ t), λ is. same ∙ old.1 is)
            | inr g ↦
                let this : length old_finals ≡ k = omega arith in
                let here' : IsAt names (length old_finals) other then = subst (λ j. IsAt names j other then) (sym this) here in
                let state_is : state ≡ other = one_state names (length old_finals) state other now then there here' in
                let last : slice_get finals k ≡ Some mark = ap (λ fs. slice_get fs k) pushed ∙ ap (λ i. slice_get (old_finals ++ mark ∷ []) i) (sym this) ∙ slice_get-push old_finals mark in
                subst (λ p. (slice_get finals k ≡ Some true) ↔ IsFinal net p) state_is
                (λ t. mark_is.0 (same_Some mark true (sym last ∙ t)), λ is. last ∙ ap Some (mark_is.1 is))
          ];
          only = λ e h. elim (added.only e h) [
            | inl held ↦
                let r = before.only e held in
                let l : e.from < length old_finals = r.2 in
                (r.0, r.1, omega arith, at_kept old_names names added.places added.features e.from (r.1).from r.0 r.3, r.4, leads_kept old_names names added.places added.features step r.0 r.1 e r.5)
            | inr r ↦
                let from : e.from ≡ length old_finals = r.0 in
                let old : Edge Tape = r.1.0 in
                let at_from : IsAt names e.from old.from now = subst (λ j. IsAt names j old.from now) (sym from) (subst (λ p. IsAt names (length old_finals) p now) (sym r.1.1.1) there) in
                (now, old, omega arith, at_from, r.1.1.0, r.1.2)
          ];
          all = λ k then next old l here held is. elim (cases_lt k (length old_finals)) [
            | inl b ↦
                let r = before.all k then next old b (at_before k old.from then (omega arith) here) held is in
                (r.0, added.kept r.0 r.1, r.2, leads_kept old_names names added.places added.features step then old r.0 r.3)
            | inr g ↦
                let this : length old_finals ≡ k = omega arith in
                let here' : IsAt names (length old_finals) old.from then = subst (λ j. IsAt names j old.from then) (sym this) here in
                let state_is : state ≡ old.from = one_state names (length old_finals) state old.from now then there here' in
                let list_is : now ≡ then = one_list names (length old_finals) state old.from now then there here' in
                let new = added.all old next (held, sym state_is) (ap (λ (z : Features). step old z) list_is ∙ is) in
                (new.0, new.1, new.2 ∙ this, subst (λ (z : Features). Leads step names z old new.0) list_is new.3)
          ];
        }

  pub exploring_all : (names : Names) (edges : List (Edge Pair)) (finals : List Bool) → length names.places ≤ length finals → IsExploring step net first names edges finals → IsResolved step net first names edges finals
  exploring_all names edges finals past is =
      let looked = is.looked in
      record {
        start = is.start;
        count = omega arith;
        final = λ k state now at. let l = slice_get_within names.places k at.place at.stands in is.final k state now (omega arith) at;
        only = λ e h. let r = is.only e h in (r.0, r.1, r.3, r.4, r.5);
        all = λ k now next old at held passes. let l = slice_get_within names.places k at.place at.stands in is.all k now next old (omega arith) at held passes;
      }

-- the place behind a flag
module _ (actions : List Action) (old new : List (List Setting)) (kept : Keeps old new) (place : Place) (edge : Edge Tape) (now : Features) (shows : Shows old place now) (n : ℕ) where
  module _ (letter : edge.letter ≡ Some (UpFlag n)) where
    pub upper_behind : (k : ℕ) → IsNumbered new (Some k) (behind_if now.upper (slice_get actions n)) → IsPlaceBehind (behind_edge actions) new edge now (Some (record { state = edge.to; upper = k; lower = place.lower }))
    upper_behind k = by (behind_if now.upper (slice_get actions n)) refl
      where
        by : (o : Option (List Setting)) → behind_if now.upper (slice_get actions n) ≡ o → IsNumbered new (Some k) o → IsPlaceBehind (behind_edge actions) new edge now (Some (record { state = edge.to; upper = k; lower = place.lower }))
        by None is h = absurd h
        by (Some upper) is h =
            (record { upper = upper; lower = now.lower }, ap (λ (l : Option Tape). behind actions l now) letter ∙ ap (with_upper now) is, refl, record { upper = h; lower = kept place.lower now.lower shows.lower })

    pub upper_blocked : IsNumbered new None (behind_if now.upper (slice_get actions n)) → behind actions edge.letter now ≡ None
    upper_blocked = by (behind_if now.upper (slice_get actions n)) refl
      where
        by : (o : Option (List Setting)) → behind_if now.upper (slice_get actions n) ≡ o → IsNumbered new None o → behind actions edge.letter now ≡ None
        by None is h = ap (λ (l : Option Tape). behind actions l now) letter ∙ ap (with_upper now) is
        by (Some upper) is h = absurd h

  module _ (letter : edge.letter ≡ Some (LowFlag n)) where
    pub lower_behind : (k : ℕ) → IsNumbered new (Some k) (behind_if now.lower (slice_get actions n)) → IsPlaceBehind (behind_edge actions) new edge now (Some (record { state = edge.to; upper = place.upper; lower = k }))
    lower_behind k = by (behind_if now.lower (slice_get actions n)) refl
      where
        by : (o : Option (List Setting)) → behind_if now.lower (slice_get actions n) ≡ o → IsNumbered new (Some k) o → IsPlaceBehind (behind_edge actions) new edge now (Some (record { state = edge.to; upper = place.upper; lower = k }))
        by None is h = absurd h
        by (Some lower) is h =
            (record { upper = now.upper; lower = lower }, ap (λ (l : Option Tape). behind actions l now) letter ∙ ap (with_lower now) is, refl, record { upper = kept place.upper now.upper shows.upper; lower = h })

    pub lower_blocked : IsNumbered new None (behind_if now.lower (slice_get actions n)) → behind actions edge.letter now ≡ None
    lower_blocked = by (behind_if now.lower (slice_get actions n)) refl
      where
        by : (o : Option (List Setting)) → behind_if now.lower (slice_get actions n) ≡ o → IsNumbered new None o → behind actions edge.letter now ≡ None
        by None is h = ap (λ (l : Option Tape). behind actions l now) letter ∙ ap (with_lower now) is
        by (Some lower) is h = absurd h

-- a place stays one of some features
still_within : {X : Type 0} (d : X) (old new : List X) → Keeps old new → (k : ℕ) → k < length old → k < length new
still_within d old new kept k within = slice_get_within new k (get_or old k d) (kept k (get_or old k d) (slice_get-get_or old k d within))

pub shown_within : (old new : List (List Setting)) (place : Place) → place.upper < length old → place.lower < length old → ((now : Features) → Shows old place now → Keeps old new) → (place.upper < length new) × (place.lower < length new)
shown_within old new place upper lower keeps =
    let now : Features = record { upper = get_or old place.upper []; lower = get_or old place.lower [] } in
    let kept = keeps now (record { upper = slice_get-get_or old place.upper [] upper; lower = slice_get-get_or old place.lower [] lower }) in
    (still_within [] old new kept place.upper upper, still_within [] old new kept place.lower lower)
