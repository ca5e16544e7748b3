-- What is told of languages over symbols is so of them over the texts of these.
use Rattle.std.proofs.Common.{◌≡◌, ◌⊎◌, ℕ, List, [], ◌∷◌, length, Some, slice_get, refl, sym, ap, subst, ◌∙◌, inl, inr, arith}
use Rattle.std.specs.List.{AllZip, Contains}
use Rattle.std.specs.Option.{option_map}
use Rattle.std.proofs.lemmas.List.{length-map}
use Rattle.std.proofs.lemmas.List.Elements.{All-head, All-tail}
use Rattle.std.proofs.lemmas.Option.{slice_get-map, same_Some}
use Rattle.word_relations.specs.Words.{IsOver}
use Rattle.word_relations.proofs.Members.{Contains-map_cases}
use Rattle.word_relations.proofs.Places.{slice_get_from_Contains}
use Rattle.fsm_base.specs.Alphabet.{IsAlphabet, spelled, symbols_of, text_of, texts_of}
use Rattle.fsm_base.specs.declared.letters.Sym.{Sym}
use Rattle.fsm_base.proofs.AlphabetLemmas.{text_of-pair}
use Rattle.att_text.specs.Writing.{HasTextOf}
use Rattle.lang_equal.specs.Difference.{Differs, IsOutside, IsShortest}
use Rattle.named_networks.specs.Languages.{AreSpelled}

-- a word of texts, zipped with the symbols that have them
pub zipped : (alphabet : List (Sym × List ℕ)) (word : List Sym) (texts : List (List ℕ)) → AllZip (HasTextOf alphabet) word texts → texts ≡ spelled alphabet word
zipped alphabet [] [] all = refl
zipped alphabet [] (t ∷ texts) all = absurd all
zipped alphabet (x ∷ word) [] all = absurd all
zipped alphabet (x ∷ word) (t ∷ texts) all =
    ap (λ (z : List ℕ). z ∷ texts) (sym all.0) ∙ ap (λ (z : List (List ℕ)). text_of alphabet x ∷ z) (zipped alphabet word texts all.1)

pub zip_spelled : (alphabet : List (Sym × List ℕ)) (word : List Sym) → AllZip (HasTextOf alphabet) word (spelled alphabet word)
zip_spelled alphabet [] = tt
zip_spelled alphabet (x ∷ word) = (refl, zip_spelled alphabet word)

-- symbols of an alphabet with the same text are the same
symbol_from_text : (alphabet : List (Sym × List ℕ)) → IsAlphabet alphabet → (s t : Sym) → Contains (symbols_of alphabet) s → Contains (symbols_of alphabet) t → text_of alphabet s ≡ text_of alphabet t → s ≡ t
symbol_from_text alphabet formed s t s_among t_among same =
    let (e, e_in, e_is) = Contains-map_cases (λ (x : Sym × List ℕ). x.0) alphabet s s_among in
    let (d, d_in, d_is) = Contains-map_cases (λ (x : Sym × List ℕ). x.0) alphabet t t_among in
    let (i, at_i) = slice_get_from_Contains alphabet e e_in in
    let (j, at_j) = slice_get_from_Contains alphabet d d_in in
    let e_text : text_of alphabet s ≡ e.1 = ap (text_of alphabet) (sym e_is) ∙ text_of-pair alphabet formed.distinct e.0 e.1 e_in in
    let d_text : text_of alphabet t ≡ d.1 = ap (text_of alphabet) (sym d_is) ∙ text_of-pair alphabet formed.distinct d.0 d.1 d_in in
    let texts : e.1 ≡ d.1 = sym e_text ∙ same ∙ d_text in
    let place : i ≡ j = formed.apart i j d.1 (named i e at_i ∙ ap (λ (z : List ℕ). Some z) texts) (named j d at_j) in
    let entry : e ≡ d = same_Some e d (sym at_i ∙ ap (slice_get alphabet) place ∙ at_j) in
    sym e_is ∙ ap (λ (x : Sym × List ℕ). x.0) entry ∙ d_is
  where
    named : (k : ℕ) (x : Sym × List ℕ) → slice_get alphabet k ≡ Some x → slice_get (texts_of alphabet) k ≡ Some x.1
    named k x at = slice_get-map (λ (y : Sym × List ℕ). y.1) alphabet k ∙ ap (option_map (λ (y : Sym × List ℕ). y.1)) at

-- a word of symbols is known by its texts
word_from_texts : (alphabet : List (Sym × List ℕ)) → IsAlphabet alphabet → (u w : List Sym) → IsOver (symbols_of alphabet) u → IsOver (symbols_of alphabet) w → spelled alphabet u ≡ spelled alphabet w → u ≡ w
word_from_texts alphabet formed [] [] a b same = refl
word_from_texts alphabet formed [] (y ∷ w) a b same = cc
word_from_texts alphabet formed (x ∷ u) [] a b same = cc
word_from_texts alphabet formed (x ∷ u) (y ∷ w) a b same =
    let head : text_of alphabet x ≡ text_of alphabet y = cc in
    let tail : spelled alphabet u ≡ spelled alphabet w = cc in
    let first = symbol_from_text alphabet formed x y (All-head (Contains (symbols_of alphabet)) x u a) (All-head (Contains (symbols_of alphabet)) y w b) head in
    let others = word_from_texts alphabet formed u w (All-tail (Contains (symbols_of alphabet)) x u a) (All-tail (Contains (symbols_of alphabet)) y w b) tail in
    ap (λ (z : Sym). z ∷ u) first ∙ ap (λ (z : List Sym). y ∷ z) others

abbrev Texts : Type 0
Texts = List (List ℕ)

module _ (alphabet : List (Sym × List ℕ)) (formed : IsAlphabet alphabet) where
  -- a word over symbols is in the one set where its texts are in the other
  pub to_texts : (P : List Sym → Type 0) (S : Texts → Type 0) → AreSpelled alphabet P S → (w : List Sym) → P w → S (spelled alphabet w)
  to_texts P S p w h = (p.same (spelled alphabet w)).1 (w, h, refl)

  to_symbols : (P : List Sym → Type 0) (S : Texts → Type 0) → AreSpelled alphabet P S → (w : List Sym) → IsOver (symbols_of alphabet) w → S (spelled alphabet w) → P w
  to_symbols P S p w over s =
      let (v, h, is) = (p.same (spelled alphabet w)).0 s in
      subst P (word_from_texts alphabet formed v w (p.over v h) over (sym is)) h

  module _ (P Q : List Sym → Type 0) (S T : Texts → Type 0) (p : AreSpelled alphabet P S) (q : AreSpelled alphabet Q T) where
    outside_to : (w : List Sym) → IsOutside P Q w → IsOutside S T (spelled alphabet w)
    outside_to w h = (to_texts P S p w h.0, λ t. h.1 (to_symbols Q T q w (p.over w h.0) t))

    pub outside_spelled : AreSpelled alphabet (IsOutside P Q) (IsOutside S T)
    outside_spelled = record {
      over = λ w h. p.over w h.0;
      same = λ texts. (
        λ o. let (w, h, is) = (p.same texts).0 o.0 in (w, (h, λ k. o.1 ((q.same texts).1 (w, k, is))), is),
        λ (w, h, is). subst (IsOutside S T) (sym is) (outside_to w h),
      );
    }

  either_spelled : (P Q : List Sym → Type 0) (S T : Texts → Type 0) → AreSpelled alphabet P S → AreSpelled alphabet Q T → AreSpelled alphabet (λ w. P w ⊎ Q w) (λ texts. S texts ⊎ T texts)
  either_spelled P Q S T p q = record {
    over = λ w h. elim h [ inl one ↦ p.over w one | inr one ↦ q.over w one ];
    same = λ texts. (
      λ h. elim h as (λ _. (w : List Sym) × (P w ⊎ Q w) × (texts ≡ spelled alphabet w)) [
        | inl one ↦ (let (w, k, is) = (p.same texts).0 one in (w, inl k, is))
        | inr one ↦ (let (w, k, is) = (q.same texts).0 one in (w, inr k, is))
      ],
      λ (w, h, is). elim h as (λ _. S texts ⊎ T texts) [ inl k ↦ inl ((p.same texts).1 (w, k, is)) | inr k ↦ inr ((q.same texts).1 (w, k, is)) ],
    );
  }

  pub differs_spelled : (P Q : List Sym → Type 0) (S T : Texts → Type 0) → AreSpelled alphabet P S → AreSpelled alphabet Q T → AreSpelled alphabet (Differs P Q) (Differs S T)
  differs_spelled P Q S T p q =
      either_spelled (IsOutside P Q) (IsOutside Q P) (IsOutside S T) (IsOutside T S) (outside_spelled P Q S T p q) (outside_spelled Q P T S q p)

  -- a shortest word of symbols is one of texts, and there is none where there is none
  pub shortest_spelled : (D : List Sym → Type 0) (E : Texts → Type 0) → AreSpelled alphabet D E → (w : List Sym) → IsShortest D w → IsShortest E (spelled alphabet w)
  shortest_spelled D E d w shortest = record {
    inside = to_texts D E d w shortest.inside;
    least = λ texts e.
        let (v, h, is) = (d.same texts).0 e in
        let less = shortest.least v h in
        let one = length-map w (text_of alphabet) in
        let other : length texts ≡ length v = ap length is ∙ length-map v (text_of alphabet) in
        omega (arith, less, one, other);
  }

  pub none_spelled : (D : List Sym → Type 0) (E : Texts → Type 0) → AreSpelled alphabet D E → ((w : List Sym) → ¬ D w) → (texts : Texts) → ¬ E texts
  none_spelled D E d none texts e = let (v, h, is) = (d.same texts).0 e in none v h
