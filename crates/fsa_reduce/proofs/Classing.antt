-- Classes that are found state by state: two states with the same signature go on alike.
use Rattle.std.proofs.Common.{◌≡◌, ℕ, zero, suc, ◌-◌, ◌<◌, ◌≤◌, ◌↔◌, List, [], ◌∷◌, ◌++◌, Bool, true, Some, map, length, get_or, refl, sym, ap, subst, inl, inr, arith, ◌∙◌}
use Rattle.std.specs.List.{Contains, slice_get}
use Rattle.std.proofs.lemmas.List.{length_push}
use Rattle.std.proofs.lemmas.Option.{slice_get_within, slice_get-get_or}
use Rattle.word_relations.proofs.Members.{Contains-map, Contains-map_cases}
use Rattle.word_relations.proofs.Places.{same_at, slice_get-append_cases}
use Rattle.fsa.specs.declared.automaton.Edge.{Edge}
use Rattle.fsa_explore.specs.Targets.{AreWithin}
use Rattle.fsa_reduce.specs.Numbering.{Keeps}
use Rattle.fsa_explore.specs.Signatures.{IsSignature, edge_mark, known_class}
use Rattle.fsa_reduce.specs.Classes.{IsIn, AreClasses}
use Rattle.fsa_reduce.proofs.Kept.{Keeps-get, Keeps-push, Keeps-same, Keeps-then}
use Rattle.fsa_explore.proofs.Signed.{signatures_agree, letter_same, target_same}

-- these are the edges that leave the state
abbrev pub AreOut : List (Edge ℕ) → ℕ → List (Edge ℕ) → Type 0
AreOut rows s out = (e : Edge ℕ) → Contains out e ↔ (Contains rows e × (e.from ≡ s))

-- the list is the signature of the state
abbrev pub GoesOn : List Bool → List (Edge ℕ) → List ℕ → ℕ → List ℕ → Type 0
GoesOn finals rows known s row =
    (b : Bool) × (out : List (Edge ℕ)) × (slice_get finals s ≡ Some b) × AreOut rows s out × IsSignature b (map (edge_mark known (length finals)) out) row

-- the signature of the state is the one of its class
abbrev pub HasSignatureOf : List Bool → List (Edge ℕ) → List (List ℕ) → List ℕ → ℕ → ℕ → Type 0
HasSignatureOf finals rows lists classes s c =
    (row : List ℕ) × (known : List ℕ) × (slice_get lists c ≡ Some row) × Keeps known classes × GoesOn finals rows known s row

pub record IsClassing (finals : List Bool) (rows : List (Edge ℕ)) (lists : List (List ℕ)) (classes : List ℕ) : Type 0 where
  pub few : length classes ≤ length finals
  pub classed : (s c : ℕ) → IsIn classes (length finals) s c → HasSignatureOf finals rows lists classes s c

-- the same with the signature by the same classes for all
pub record IsClassingBeside (finals : List Bool) (rows : List (Edge ℕ)) (lists : List (List ℕ)) (known classes : List ℕ) : Type 0 where
  pub few : length classes ≤ length finals
  pub classed : (s c : ℕ) → IsIn classes (length finals) s c → (row : List ℕ) × (slice_get lists c ≡ Some row) × GoesOn finals rows known s row

one_place : (j c d : ℕ) → slice_get (c ∷ []) j ≡ Some d → (j ≡ 0) × (c ≡ d)
one_place zero c d e = (refl, same_at (c ∷ []) 0 c d refl e)
one_place (suc j) c d e = absurd (cc)

module _ (finals : List Bool) (rows : List (Edge ℕ)) where
  pub classing_none : (lists : List (List ℕ)) (classes : List ℕ) → classes ≡ [] → IsClassing finals rows lists classes
  classing_none lists classes none = record {
    few = let e = ap length none in omega arith;
    classed = λ s c i.
        let l = slice_get_within classes (length finals - 1 - s) c i.1 in
        let e = ap length none in
        absurd (omega arith);
  }

  pub classing_more : (lists lists2 : List (List ℕ)) (classes classes2 known row : List ℕ) (state c : ℕ) (b : Bool) (out : List (Edge ℕ))
      → length classes < length finals → state ≡ length finals - 1 - length classes → slice_get finals state ≡ Some b
      → AreOut rows state out
      → Keeps known classes → Keeps lists lists2 → slice_get lists2 c ≡ Some row → classes2 ≡ classes ++ c ∷ []
      → IsSignature b (map (edge_mark known (length finals)) out) row → IsClassing finals rows lists classes → IsClassing finals rows lists2 classes2
  classing_more lists lists2 classes classes2 known row state c b out there is_state at are_out prefix more_lists number is has before = record {
    few = let e = ap length is in let l = length_push classes c in omega arith;
    classed = λ s d i. elim (slice_get-append_cases classes (c ∷ []) (length finals - 1 - s) d (subst (λ xs. slice_get xs (length finals - 1 - s) ≡ Some d) is i.1)) [
      | inl held ↦
          let r = before.classed s d (i.0, held) in
          (r.0, r.1, Keeps-get lists lists2 d r.0 more_lists r.2, Keeps-then r.1 classes classes2 r.3 (Keeps-push classes classes2 c is), r.4)
      | inr r ↦
          let one = one_place r.0 c d r.2 in
          let first = one.0 in
          let place = r.1 in
          let inside = i.0 in
          let same : state ≡ s = omega arith in
          let here : HasSignatureOf finals rows lists2 classes2 state c =
          (row, known, number, Keeps-then known classes classes2 prefix (Keeps-push classes classes2 c is), (b, out, at, are_out, has)) in
          subst (λ k. HasSignatureOf finals rows lists2 classes2 k d) same (subst (λ k. HasSignatureOf finals rows lists2 classes2 state k) one.1 here)
    ];
  }

  pub beside_none : (lists : List (List ℕ)) (known classes : List ℕ) → classes ≡ [] → IsClassingBeside finals rows lists known classes
  beside_none lists known classes none = record {
    few = let e = ap length none in omega arith;
    classed = λ s c i.
        let l = slice_get_within classes (length finals - 1 - s) c i.1 in
        let e = ap length none in
        absurd (omega arith);
  }

  pub beside_more : (lists lists2 : List (List ℕ)) (known classes classes2 row : List ℕ) (state c : ℕ) (b : Bool) (out : List (Edge ℕ))
      → length classes < length finals → state ≡ length finals - 1 - length classes → slice_get finals state ≡ Some b
      → AreOut rows state out → Keeps lists lists2 → slice_get lists2 c ≡ Some row → classes2 ≡ classes ++ c ∷ []
      → IsSignature b (map (edge_mark known (length finals)) out) row → IsClassingBeside finals rows lists known classes → IsClassingBeside finals rows lists2 known classes2
  beside_more lists lists2 known classes classes2 row state c b out there is_state at are_out more_lists number is has before = record {
    few = let e = ap length is in let l = length_push classes c in omega arith;
    classed = λ s d i. elim (slice_get-append_cases classes (c ∷ []) (length finals - 1 - s) d (subst (λ xs. slice_get xs (length finals - 1 - s) ≡ Some d) is i.1)) [
      | inl held ↦
          let r = before.classed s d (i.0, held) in
          (r.0, Keeps-get lists lists2 d r.0 more_lists r.1, r.2)
      | inr r ↦
          let one = one_place r.0 c d r.2 in
          let first = one.0 in
          let place = r.1 in
          let inside = i.0 in
          let same : state ≡ s = omega arith in
          let here : (x : List ℕ) × (slice_get lists2 c ≡ Some x) × GoesOn finals rows known state x = (row, number, (b, out, at, are_out, has)) in
          subst (λ k. (x : List ℕ) × (slice_get lists2 d ≡ Some x) × GoesOn finals rows known k x) same (subst (λ k. (x : List ℕ) × (slice_get lists2 k ≡ Some x) × GoesOn finals rows known state x) one.1 here)
    ];
  }

  -- where the classes came out again, their signatures are by themselves
  pub beside_same : (lists : List (List ℕ)) (known classes : List ℕ) → classes ≡ known → IsClassingBeside finals rows lists known classes → IsClassing finals rows lists classes
  beside_same lists known classes same before = record {
    few = before.few;
    classed = λ s c i.
        let r = before.classed s c i in
        (r.0, known, r.1, Keeps-same known classes same, r.2);
  }

  module _ (lists : List (List ℕ)) (classes : List ℕ) (whole : length finals ≤ length classes) (within : AreWithin rows (length finals)) (found : IsClassing finals rows lists classes) where
    abbrev Is : ℕ → ℕ → Type 0
    Is s c = IsIn classes (length finals) s c

    has_class : (s : ℕ) → s < length finals → (c : ℕ) × Is s c
    has_class s l =
        let k = length finals - 1 - s in
        let inside : k < length classes = omega arith in
        (get_or classes k 0, (l, slice_get-get_or classes k 0 inside))

    -- two states of a class are final together, and each edge of the one has one of the other with the same mark
    alike : (s t c : ℕ) → Is s c → Is t c → (known_s : List ℕ) × (known_t : List ℕ) × Keeps known_s classes × Keeps known_t classes
        × (slice_get finals s ≡ slice_get finals t)
        × ((e : Edge ℕ) → Contains rows e → e.from ≡ s → (f : Edge ℕ) × Contains rows f × (f.from ≡ t) × (edge_mark known_s (length finals) e ≡ edge_mark known_t (length finals) f))
    alike s t c i j =
        let n = length finals in
        let (row_s, known_s, at_s, keeps_s, (b, out_s, final_s, are_s, has_s)) = found.classed s c i in
        let (row_t, known_t, at_t, keeps_t, (d, out_t, final_t, are_t, has_t)) = found.classed t c j in
        let same : row_t ≡ row_s = same_at lists c row_t row_s at_t at_s in
        let agree = signatures_agree b d (map (edge_mark known_s n) out_s) (map (edge_mark known_t n) out_t) row_s has_s (subst (IsSignature d (map (edge_mark known_t n) out_t)) same has_t) in (
          known_s,
          known_t,
          keeps_s,
          keeps_t,
          final_s ∙ ap Some agree.0 ∙ sym final_t,
          λ e h is.
              let m = agree.1 (edge_mark known_s n e) (Contains-map (edge_mark known_s n) out_s e ((are_s e).1 (h, is))) in
              let r = Contains-map_cases (edge_mark known_t n) out_t (edge_mark known_s n e) m in
              let there = (are_t r.0).0 r.1 in
              (r.0, there.0, there.1, sym r.2),
        )

    is_known : (known : List ℕ) (s c : ℕ) → Keeps known classes → s < length finals → known_class known (length finals) s ≡ Some c → Is s c
    is_known known s c keeps l e = (l, Keeps-get known classes (length finals - 1 - s) c keeps e)

    classes_final : (s t c : ℕ) → Is s c → Is t c → slice_get finals s ≡ Some true → slice_get finals t ≡ Some true
    classes_final s t c i j f = let a = alike s t c i j in sym a.4 ∙ f

    classes_step : (e : Edge ℕ) (t c : ℕ) → Contains rows e → Is e.from c → Is t c → (f : Edge ℕ) × (to : ℕ) × Contains rows f × (f.from ≡ t) × (f.letter ≡ e.letter) × Is e.to to × Is f.to to
    classes_step e t c h i j =
        let a = alike e.from t c i j in
        let n = length finals in
        let r = a.5 e h refl in
        let f : Edge ℕ = r.0 in
        let letter : f.letter ≡ e.letter = sym (letter_same e.letter f.letter (known_class a.0 n e.to) (known_class a.1 n f.to) e.to f.to r.3) in
        elim (target_same e.letter f.letter (known_class a.0 n e.to) (known_class a.1 n f.to) e.to f.to r.3) [
          | inl k ↦ (f, k.0, r.1, r.2, letter, is_known a.0 e.to k.0 a.2 (within e h) k.1, is_known a.1 f.to k.0 a.3 (within f r.1) k.2)
          | inr s ↦
              let to = has_class e.to (within e h) in
              (f, to.0, r.1, r.2, letter, to.1, subst (λ k. Is k to.0) s.2 to.1)
        ]

    pub classing_all : AreClasses finals rows classes (length lists)
    classing_all = record {
      number = let l = found.few in omega arith;
      within = λ k d l.
          let few = found.few in
          let s = length finals - 1 - k in
          let back : length finals - 1 - s ≡ k = omega arith in
          let inside : s < length finals = omega arith in
          let at : slice_get classes (length finals - 1 - s) ≡ Some (get_or classes k d) = ap (slice_get classes) back ∙ slice_get-get_or classes k d l in
          let r = found.classed s (get_or classes k d) (inside, at) in
          slice_get_within lists (get_or classes k d) r.0 r.2;
      final = classes_final;
      step = classes_step;
    }
