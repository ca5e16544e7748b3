-- Rules turned round match and replace all words turned round.
use Rattle.std.proofs.Common.{◌≡◌, ℕ, ◌+◌, List, [], ◌∷◌, ◌++◌, Option, Some, None, take, refl, sym, ap, subst, ◌∙◌, inl, inr, append_assoc}
use Rattle.std.specs.Prelude.{reverse}
use Rattle.std.specs.List.{Contains}
use Rattle.std.proofs.Math.Path.{subst₂}
use Rattle.std.proofs.lemmas.List.{map-append, reverse-append, reverse-reverse}
use Rattle.std.proofs.lemmas.List.Elements.{Contains-append_left, Contains-append_right, Contains-push_cases}
use Rattle.fsm_base.specs.declared.letters.Sym.{Sym}
use Rattle.fsm_base.specs.declared.letters.Pair.{Pair}
use Rattle.fsm_base.specs.declared.letters.Bound.{Bound}
use Rattle.fsm_base.specs.declared.letters.Bound.TheVariants.{Edge, Inner}
use Rattle.word_relations.specs.Words.{IsOver}
use Rattle.word_relations.proofs.Members.{Contains-nil_cases, Contains-head}
use Rattle.fsa.specs.Automaton.{Automaton, UsesLetter}
use Rattle.fsa.specs.Complete.{Complete, Accepts}
use Rattle.network_algebra.specs.Networks.{UsesSymbols}
use Rattle.lang_algebra.specs.Languages.{IsLang}
use Rattle.expr_meaning.specs.Operators.{inner, HoldsLeft, HoldsRight}
use Rattle.expr_meaning.specs.Replacement.{uppers}
use Rattle.replace_rules.specs.declared.rules.LangMap.{LangMap}
use Rattle.replace_rules.specs.declared.rules.LangContext.{LangContext}
use Rattle.replace_rules.specs.Rules.{HasCentre, HasMapping, IsPut}
use Rattle.directed_words.specs.Laws.{AreTurned, ReplaceTurned}
use Rattle.replace_directed.specs.Directed.{HoldsIn, IsMatch, ReplacesIn, AreOver}
use Rattle.replace_directed.specs.Turned.{IsTurned, ArePutsTurned, IsTurnedMap, IsTurnedContext, AreMatched}

-- a language read backwards
pub turned_lang : {L : Type 0} (a b : Complete L) → IsLang a.letters (λ w. Accepts a (reverse w)) b → IsTurned a b
turned_lang a b is = record { letters = is.over; words = is.words }

turned_back : {L : Type 0} (a b : Complete L) → IsTurned a b → IsTurned b a
turned_back a b t = record {
  letters = sym t.letters;
  words = λ w. (
    λ h. (t.words (reverse w)).1 (subst (Accepts a) (sym (reverse-reverse w)) h),
    λ h. subst (Accepts a) (reverse-reverse w) ((t.words (reverse w)).0 h),
  );
}

turned_word : {L : Type 0} (a b : Complete L) → IsTurned a b → (w : List L) → Accepts a w → Accepts b (reverse w)
turned_word a b t w h = (t.words (reverse w)).1 (subst (Accepts a) (sym (reverse-reverse w)) h)

puts_back : {L : Type 0} (r : Complete L) (o : Option (Complete L)) (r' : Complete L) (o' : Option (Complete L)) → ArePutsTurned r o r' o' → ArePutsTurned r' o' r o
puts_back r None r' None t = turned_back r r' t
puts_back r None r' (Some a') t = absurd t
puts_back r (Some a) r' None t = absurd t
puts_back r (Some a) r' (Some a') t = (turned_back a r' t.1, turned_back r a' t.0)

map_back : (m n : LangMap) → IsTurnedMap m n → IsTurnedMap n m
map_back m n t = record { centre = turned_back m.centre n.centre t.centre; puts = puts_back m.result m.after n.result n.after t.puts }

context_back : (c d : LangContext) → IsTurnedContext c d → IsTurnedContext d c
context_back c d t = record { left = turned_back c.left d.right t.right; right = turned_back c.right d.left t.left }

matched_back : {X : Type 0} (R : X → X → Type 0) (xs ys : List X) → ((x y : X) → R x y → R y x) → AreMatched R xs ys → AreMatched R ys xs
matched_back R xs ys turn is = record {
  there = λ y among. let r = is.back y among in (r.0, r.1, turn r.0 y r.2);
  back = λ x among. let r = is.there x among in (r.0, r.1, turn x r.0 r.2);
}

-- lists matched one by one
module _ {X : Type 0} (R : X → X → Type 0) where
  pub matched_none : AreMatched R [] []
  matched_none = record { there = λ x among. absurd (Contains-nil_cases x among); back = λ x among. absurd (Contains-nil_cases x among) }

  last_in : (xs : List X) (x : X) → Contains (xs ++ x ∷ []) x
  last_in xs x = Contains-append_right xs (x ∷ []) x (Contains-head x [])

  matched_push : (xs ys : List X) (x y : X) → AreMatched R xs ys → R x y → AreMatched R (xs ++ x ∷ []) (ys ++ y ∷ [])
  matched_push xs ys x y is here = record {
    there = λ a among. elim (Contains-push_cases xs x a among) as (λ _. (b : X) × Contains (ys ++ y ∷ []) b × R a b) [
      | inl was ↦ let r = is.there a was in (r.0, Contains-append_left ys (y ∷ []) r.0 r.1, r.2)
      | inr same ↦ (y, last_in ys y, subst (λ z. R z y) same here)
    ];
    back = λ b among. elim (Contains-push_cases ys y b among) as (λ _. (a : X) × Contains (xs ++ x ∷ []) a × R a b) [
      | inl was ↦ let r = is.back b was in (r.0, Contains-append_left xs (x ∷ []) r.0 r.1, r.2)
      | inr same ↦ (x, last_in xs x, subst (R x) same here)
    ];
  }

  pub matched_more : (xs ys next : List X) (i : ℕ) (x y : X) → take (i + 1) xs ≡ take i xs ++ x ∷ [] → next ≡ ys ++ y ∷ [] → AreMatched R (take i xs) ys → R x y → AreMatched R (take (i + 1) xs) next
  matched_more xs ys next i x y front e before here = subst (λ z. AreMatched R z next) (sym front) (subst (AreMatched R (take i xs ++ x ∷ [])) (sym e) (matched_push (take i xs) ys x y before here))

-- words of symbols turned round
inner_reverse : (w : List Sym) → inner (reverse w) ≡ reverse (inner w)
inner_reverse [] = refl
inner_reverse (s ∷ w) = ap inner (reverse-append (s ∷ []) w) ∙ map-append Inner (reverse w) (s ∷ []) ∙ ap (λ v. v ++ Inner s ∷ []) (inner_reverse w) ∙ sym (reverse-append (Inner s ∷ []) (inner w))

right_to_left : (a b : Complete (Bound Sym)) → IsTurned a b → (z : List Sym) → HoldsRight (Accepts a) (inner z) → HoldsLeft (Accepts b) (inner (reverse z))
right_to_left a b t z (front, back, whole, is) = (
  reverse back,
  reverse front,
  ap (λ v. Edge ∷ v) (inner_reverse z) ∙ sym (reverse-append (inner z) (Edge ∷ [])) ∙ ap reverse whole ∙ reverse-append front back,
  turned_word a b t front is,
)

left_to_right : (a b : Complete (Bound Sym)) → IsTurned a b → (x : List Sym) → HoldsLeft (Accepts a) (inner x) → HoldsRight (Accepts b) (inner (reverse x))
left_to_right a b t x (front, back, whole, is) = (
  reverse back,
  reverse front,
  ap (λ v. v ++ Edge ∷ []) (inner_reverse x) ∙ sym (reverse-append (Edge ∷ []) (inner x)) ∙ ap reverse whole ∙ reverse-append front back,
  turned_word a b t back is,
)

put_turned : (r : Complete Sym) (o : Option (Complete Sym)) (r' : Complete Sym) (o' : Option (Complete Sym)) → ArePutsTurned r o r' o' → (c put : List Sym) → IsPut r o c put → IsPut r' o' (reverse c) (reverse put)
put_turned r None r' None t c put h = turned_word r r' t put h
put_turned r None r' (Some a') t c put h = absurd t
put_turned r (Some a) r' None t c put h = absurd t
put_turned r (Some a) r' (Some a') t c put (b, f, whole, before, behind) = (
  reverse f,
  reverse b,
  ap reverse whole ∙ reverse-append b (c ++ f) ∙ ap (λ z. z ++ reverse b) (reverse-append c f) ∙ append_assoc (reverse f) (reverse c) (reverse b),
  turned_word a r' t.1 f behind,
  turned_word r a' t.0 b before,
)

none_matched : (cs ds : List LangContext) → AreMatched IsTurnedContext cs ds → cs ≡ [] → ds ≡ []
none_matched cs [] is none = refl
none_matched cs (d ∷ ds) is none = let r = is.back d (Contains-head d ds) in absurd (Contains-nil_cases r.0 (subst (λ xs. Contains xs r.0) none r.1))

module _ (ms ns : List LangMap) (cs ds : List LangContext) (maps : AreMatched IsTurnedMap ms ns) (contexts : AreMatched IsTurnedContext cs ds) where
  centre_turned : (c : List Sym) → HasCentre ms c → HasCentre ns (reverse c)
  centre_turned c (m, among, has) = let r = maps.there m among in let t = r.2 in (r.0, r.1, turned_word m.centre (r.0).centre t.centre c has)

  mapping_turned : (c put : List Sym) → HasMapping ms c put → HasMapping ns (reverse c) (reverse put)
  mapping_turned c put (m, among, has, puts) =
      let r = maps.there m among in
      let n = r.0 in
      let t = r.2 in
      (n, r.1, turned_word m.centre n.centre t.centre c has, put_turned m.result m.after n.result n.after t.puts c put puts)

  holds_turned : (x z : List Sym) → HoldsIn cs x z → HoldsIn ds (reverse z) (reverse x)
  holds_turned x z (inl none) = inl (none_matched cs ds contexts none)
  holds_turned x z (inr (c, among, left, right)) =
      let r = contexts.there c among in
      let d = r.0 in
      let t = r.2 in
      inr (d, r.1, right_to_left c.right d.left t.left z right, left_to_right c.left d.right t.right x left)

module _ (ms ns : List LangMap) (cs ds : List LangContext) (maps : AreMatched IsTurnedMap ms ns) (contexts : AreMatched IsTurnedContext cs ds) where
  maps_back : AreMatched IsTurnedMap ns ms
  maps_back = matched_back IsTurnedMap ms ns map_back maps

  contexts_back : AreMatched IsTurnedContext ds cs
  contexts_back = matched_back IsTurnedContext cs ds context_back contexts

  holds_again : (x z : List Sym) → HoldsIn ds (reverse z) (reverse x) → HoldsIn cs x z
  holds_again x z h = subst₂ (λ a b. HoldsIn cs a b) (reverse-reverse x) (reverse-reverse z) (holds_turned ns ms ds cs maps_back contexts_back (reverse z) (reverse x) h)

  pub matches_turned : AreTurned (IsMatch ms cs) (IsMatch ns ds)
  matches_turned x c z = (
    λ h. (centre_turned ms ns cs ds maps contexts c h.0, holds_turned ms ns cs ds maps contexts x z h.1),
    λ h. (subst (HasCentre ms) (reverse-reverse c) (centre_turned ns ms ds cs maps_back contexts_back (reverse c) h.0), holds_again x z h.1),
  )

  pub replaces_turned : ReplaceTurned (ReplacesIn ms cs) (ReplacesIn ns ds)
  replaces_turned before behind left right c r l e = (
    λ h. (mapping_turned ms ns cs ds maps contexts c r h.0, subst₂ (λ a b. HoldsIn ds a b) (sym l) (sym e) (holds_turned ms ns cs ds maps contexts (uppers before) (uppers behind) h.1)),
    λ h. (
      subst₂ (λ a b. HasMapping ms a b) (reverse-reverse c) (reverse-reverse r) (mapping_turned ns ms ds cs maps_back contexts_back (reverse c) (reverse r) h.0),
      holds_again (uppers before) (uppers behind) (subst₂ (λ a b. HoldsIn ds a b) l e h.1),
    ),
  )

-- what they speak of is over the same symbols
pub turned_over : (symbols : List Sym) (ms ns : List LangMap) → AreMatched IsTurnedMap ms ns → AreOver symbols ms → AreOver symbols ns
turned_over symbols ms ns maps over n among =
    let r = maps.back n among in
    let m = r.0 in
    let t = r.2 in
    let o = over m r.1 in
    let p = parts m.result m.after n.result n.after t.puts o.result o.after in
    record {
      centre = subst (IsOver symbols) (sym (t.centre.letters)) o.centre;
      result = p.0;
      after = p.1;
      no_empty = λ h. o.no_empty ((t.centre.words []).0 h);
    }
  where
    parts : (r : Complete Sym) (o : Option (Complete Sym)) (r' : Complete Sym) (o' : Option (Complete Sym)) → ArePutsTurned r o r' o' → IsOver symbols r.letters → ((lang : Complete Sym) → o ≡ Some lang → IsOver symbols lang.letters)
        → IsOver symbols r'.letters × ((lang : Complete Sym) → o' ≡ Some lang → IsOver symbols lang.letters)
    parts r None r' None t result after = (subst (IsOver symbols) (sym t.letters) result, λ lang e. absurd (let clash : None ≡ Some lang = e in cc))
    parts r None r' (Some a') t result after = absurd t
    parts r (Some a) r' None t result after = absurd t
    parts r (Some a) r' (Some a') (one, two) result after = (
      subst (IsOver symbols) (sym two.letters) (after a refl),
      λ lang e. let whole : Some a' ≡ Some lang = e in let same : a' ≡ lang = cc in subst (λ (l : Complete Sym). IsOver symbols l.letters) same (subst (IsOver symbols) (sym one.letters) result),
    )

-- a network of no more pairs uses no more symbols
pub symbols_turned : (symbols : List Sym) (x m : Automaton Pair) → UsesSymbols symbols x → ((p : Pair) → UsesLetter m p → UsesLetter x p) → UsesSymbols symbols m
symbols_turned symbols x m used fewer = record { upper = λ s h. used.upper s (h.0, fewer h.0 h.1, h.2); lower = λ s h. used.lower s (h.0, fewer h.0 h.1, h.2) }
