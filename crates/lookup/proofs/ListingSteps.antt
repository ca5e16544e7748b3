-- How a listing grows with the moves of a walk, and what it has in the end.
use Rattle.std.proofs.Common.{◌≡◌, ℕ, suc, ◌+◌, ◌<◌, ◌≤◌, ◌⊎◌, ◌↔◌, List, [], ◌∷◌, ◌++◌, AllPairs, All, Bool, true, false, MatchBool, Some, length, get_or, refl, sym, subst, ap, inl, inr, arith, ◌∙◌, append_assoc, length-append}
use Rattle.std.specs.List.{Contains, slice_get}
use Rattle.std.proofs.lemmas.Bool.{cases_lt}
use Rattle.std.proofs.lemmas.List.Elements.{Contains-push_cases, Contains-push, Contains-append_left, Contains-get_or}
use Rattle.std.proofs.lemmas.List.Quantifiers.{all_pairs_push}
use Rattle.std.proofs.lemmas.List.{map-append}
use Rattle.std.proofs.lemmas.Option.{get_or_from_slice_get, slice_get_within}
use Rattle.word_relations.proofs.Members.{Contains-nil_cases}
use Rattle.word_relations.specs.Words.{IsDistinct}
use Rattle.fsa.specs.declared.automaton.Edge.{Edge}
use Rattle.word_relations.specs.Answers.{AreAll, AreMore, IsInOrder, most_answers}
use Rattle.lookup.specs.Graph.{Connects, Leads, letters_of, start, end}
use Rattle.lookup.proofs.GraphPaths.{connects-append}
use Rattle.lookup.specs.Listings.{AddsText, IsListing}
use Rattle.lookup.specs.Walks.{Follows, IsBefore, WritesText, word_of}
use Rattle.lookup.specs.declared.walk.Byte.{Byte}
use Rattle.lookup.proofs.Fronts.{behind, split}
use Rattle.lookup.proofs.OrderOfBytes.{before_append, before_enter, before_last, before_leave, before_less, before_never, before_trans, enter_rises, leave_rises}

-- a list in order names each text once, and each text stands before the next
pub distinct_from_order : (found : List (List ℕ)) → AllPairs IsBefore found → IsDistinct found
distinct_from_order found order i j x at_i at_j = elim (cases_lt i j) [
  | inl l ↦ absurd (twice i j at_i at_j l)
  | inr le ↦ elim (cases_lt j i) [ inl l ↦ absurd (twice j i at_j at_i l) | inr ge ↦ omega arith ]
] where
  twice : (i j : ℕ) → slice_get found i ≡ Some x → slice_get found j ≡ Some x → i < j → ⊥
  twice i j at_i at_j l =
      let h = order i j x l (slice_get_within found j x at_j) in
      before_never x (subst (λ u. IsBefore u x) (get_or_from_slice_get found i x x at_i) (subst (λ v. IsBefore (get_or found i x) v) (get_or_from_slice_get found j x x at_j) h))

pub in_order_from : (found : List (List ℕ)) → AllPairs IsBefore found → IsInOrder found
in_order_from [] order = tt
in_order_from (t ∷ []) order = tt
in_order_from (t ∷ u ∷ found) order = (
  before_less t u (order 0 1 [] (omega arith) (omega arith)),
  in_order_from (u ∷ found) (λ i j d l within. order (suc i) (suc j) d (omega arith) (omega arith)),
)

only_empty : (other : List ℕ) → IsBefore other (0 ∷ []) → other ≡ []
only_empty [] h = refl
only_empty (x ∷ xs) (inl l) = absurd (omega arith)
only_empty (x ∷ xs) (inr l) = absurd l.1

longer : (text : List ℕ) → IsBefore text (text ++ 0 ∷ [])
longer [] = tt
longer (x ∷ xs) = inr (refl, longer xs)

-- a word of bytes as a text
abbrev pub unword : List Byte → List ℕ
unword [] = []
unword (x ∷ w) = x.0 ∷ unword w

pub word-unword : (w : List Byte) → word_of (unword w) ≡ w
word-unword [] = refl
word-unword (x ∷ w) = ap (λ v. x ∷ v) (word-unword w)

all_from : {X : Type 0} {P : X → Type 0} (xs : List X) → ((x : X) → Contains xs x → P x) → All P xs
all_from xs f k d within = f (get_or xs k d) (Contains-get_or xs k d within)

-- the first of two facts, where the second can't hold
pub first_holds : (b : Bool) (P Q : Type 0) → MatchBool b P Q → ¬ Q → P
first_holds true P Q h never = h
first_holds false P Q h never = absurd (never h)

module _ (edges : List (Edge Byte)) where
  -- what goes on behind a text may follow it
  pub follows : (text rest : List ℕ) (byte : ℕ) → WritesText edges (text ++ byte ∷ rest) → Follows edges text byte
  follows text rest byte (p, h, letters) =
      let s = split edges start end p (word_of text) (word_of rest) (record { 0 = byte }) h (letters ∙ map-append (λ n. record { 0 = n }) text (byte ∷ rest)) in
      (s.edge, s.held, s.letter, s.to_it)

  -- an edge that leads on makes the text longer than none that is written
  pub follows_short : (bound : ℕ) (text : List ℕ) (byte : ℕ) → ((e : Edge Byte) → Contains edges e → Leads edges e.to end) → ((other : List ℕ) → WritesText edges other → length other ≤ bound)
      → Follows edges text byte → length (text ++ byte ∷ []) ≤ bound
  follows_short bound text byte useful short (e, held, letter, way) =
      let on = useful e held in
      let here = behind edges e (record { 0 = byte }) start (word_of text) held letter way in
      let words : word_of (text ++ byte ∷ []) ≡ word_of text ++ record { 0 = byte } ∷ [] = map-append (λ n. record { 0 = n }) text (byte ∷ []) in
      let tail = unword (letters_of on.0) in
      let whole : word_of ((text ++ byte ∷ []) ++ tail) ≡ (word_of text ++ record { 0 = byte } ∷ []) ++ letters_of on.0 =
      map-append (λ n. record { 0 = n }) (text ++ byte ∷ []) tail ∙ ap (λ w. w ++ word_of tail) words ∙ ap (λ w. (word_of text ++ record { 0 = byte } ∷ []) ++ w) (word-unword (letters_of on.0)) in
      let l = short ((text ++ byte ∷ []) ++ tail)
      (subst (λ w. Connects edges start w end) (sym whole) (connects-append edges start e.to end (word_of text ++ record { 0 = byte } ∷ []) (letters_of on.0) here (on.0, on.1, refl))) in
      let n = length-append (text ++ byte ∷ []) tail in omega arith

  -- the empty text
  pub listing_first : (new : List (List ℕ)) → AddsText edges [] [] new → IsListing edges [] 0 new
  listing_first new (inl (written, is)) = subst (λ f. IsListing edges [] 0 f) (sym is) (record {
    passed = λ other. (
      λ h. elim (Contains-push_cases [] [] other h) [
        | inl none ↦ absurd (Contains-nil_cases other none)
        | inr same ↦ subst (λ t. WritesText edges t × IsBefore t (0 ∷ [])) same (written, tt)
      ],
      λ h. subst (λ t. Contains ([] ∷ []) t) (sym (only_empty other h.1)) (Contains-push [] []),
    );
    in_order = λ i j d l within. absurd (omega arith);
  })
  listing_first new (inr (unwritten, is)) = subst (λ f. IsListing edges [] 0 f) (sym is) (record {
    passed = λ other. (
      λ h. absurd (Contains-nil_cases other h),
      λ h. absurd (unwritten (subst (λ t. WritesText edges t) (only_empty other h.1) h.0)),
    );
    in_order = λ i j d l within. absurd (omega arith);
  })

  module _ (text : List ℕ) (floor : ℕ) (found : List (List ℕ)) (l : IsListing edges text floor found) where
    -- on with the least byte
    module _ (byte : ℕ) (low : floor ≤ byte) (least : (other : ℕ) → floor ≤ other → Follows edges text other → byte ≤ other) where
      -- a text that is written and passed now
      enter_cases : (other : List ℕ) → WritesText edges other → IsBefore other ((text ++ byte ∷ []) ++ 0 ∷ []) → Contains found other ⊎ (other ≡ text ++ byte ∷ [])
      enter_cases other written h = elim (before_enter text other floor byte (rw append_assoc at h)) [
        | inl before ↦ inl ((l.passed other).1 (written, before))
        | inr (inl same) ↦ inr same
        | inr (inr (c, rest, is, from, below)) ↦ absurd (let m = least c from (follows text rest c (subst (λ t. WritesText edges t) is written)) in omega arith)
      ]

      -- a text that was passed before
      enter_keeps : (other : List ℕ) → Contains found other → WritesText edges other × IsBefore other ((text ++ byte ∷ []) ++ 0 ∷ [])
      enter_keeps other h =
          let p = (l.passed other).0 h in
          (p.0, before_trans other (text ++ floor ∷ []) ((text ++ byte ∷ []) ++ 0 ∷ []) p.1 (enter_rises text floor byte low))

      -- stands before the new one
      enter_above : (other : List ℕ) → Contains found other → IsBefore other (text ++ byte ∷ [])
      enter_above other h =
          let p = (l.passed other).0 h in
          elim (cases_lt floor byte) [
            | inl below ↦ before_trans other (text ++ floor ∷ []) (text ++ byte ∷ []) p.1 (before_append text (floor ∷ []) (byte ∷ []) (inl below))
            | inr not ↦ let e : floor ≡ byte = omega arith in subst (λ n. IsBefore other (text ++ n ∷ [])) e p.1
          ]

      pub listing_enter : (new : List (List ℕ)) → AddsText edges (text ++ byte ∷ []) found new → IsListing edges (text ++ byte ∷ []) 0 new
      listing_enter new (inl (written, is)) = subst (λ f. IsListing edges (text ++ byte ∷ []) 0 f) (sym is) (record {
        passed = λ other. (
          λ h. elim (Contains-push_cases found (text ++ byte ∷ []) other h) [
            | inl old ↦ enter_keeps other old
            | inr same ↦ subst (λ t. WritesText edges t × IsBefore t ((text ++ byte ∷ []) ++ 0 ∷ [])) same
                (written, longer (text ++ byte ∷ []))
          ],
          λ h. elim (enter_cases other h.0 h.1) [
            | inl old ↦ Contains-append_left found ((text ++ byte ∷ []) ∷ []) other old
            | inr same ↦ subst (λ t. Contains (found ++ (text ++ byte ∷ []) ∷ []) t) (sym same) (Contains-push found (text ++ byte ∷ []))
          ],
        );
        in_order = all_pairs_push IsBefore found (text ++ byte ∷ []) l.in_order (λ k d within. enter_above (get_or found k d) (Contains-get_or found k d within));
      })
      listing_enter new (inr (unwritten, is)) = subst (λ f. IsListing edges (text ++ byte ∷ []) 0 f) (sym is) (record {
        passed = λ other. (
          enter_keeps other,
          λ h. elim (enter_cases other h.0 h.1) [
            | inl old ↦ old
            | inr same ↦ absurd (unwritten (subst (λ t. WritesText edges t) same h.0))
          ],
        );
        in_order = l.in_order;
      })

    -- back from a text behind which nothing is left
    module _ (none : (other : ℕ) → floor ≤ other → ¬ Follows edges text other) where
      pub listing_leave : (front : List ℕ) (byte : ℕ) → text ≡ front ++ byte ∷ [] → IsListing edges front (byte + 1) found
      listing_leave front byte is = record {
        passed = λ other. (
          λ h.
              let p = (l.passed other).0 h in
              (p.0, before_trans other (text ++ floor ∷ []) (front ++ (byte + 1) ∷ []) p.1 (subst (λ t. IsBefore (t ++ floor ∷ []) (front ++ (byte + 1) ∷ [])) (sym is) (leave_rises front floor byte))),
          λ h. elim (before_leave front other byte floor h.1) [
            | inl before ↦
                let same : front ++ byte ∷ floor ∷ [] ≡ text ++ floor ∷ [] = sym (append_assoc front (byte ∷ []) (floor ∷ [])) ∙ ap (λ t. t ++ floor ∷ []) (sym is) in
                (l.passed other).1 (h.0, subst (λ t. IsBefore other t) same before)
            | inr (c, rest, goes, low) ↦
                let same : other ≡ text ++ c ∷ rest = goes ∙ sym (append_assoc front (byte ∷ []) (c ∷ rest)) ∙ ap (λ t. t ++ c ∷ rest) (sym is) in
                absurd (none c low (follows text rest c (subst (λ t. WritesText edges t) same h.0)))
          ],
        );
        in_order = l.in_order;
      }

      -- all texts are listed
      pub listing_last : text ≡ [] → (other : List ℕ) → WritesText edges other ↔ Contains found other
      listing_last is other = (
        λ written. elim (before_last other floor) [
          | inl before ↦ (l.passed other).1 (written, subst (λ t. IsBefore other (t ++ floor ∷ [])) (sym is) before)
          | inr (c, rest, goes, low) ↦
              let same : other ≡ text ++ c ∷ rest = goes ∙ ap (λ t. t ++ c ∷ rest) (sym is) in
              absurd (none c low (follows text rest c (subst (λ t. WritesText edges t) same written)))
        ],
        λ h. ((l.passed other).0 h).0,
      )

      pub all_listed : text ≡ [] → length found ≤ most_answers → AreAll (WritesText edges) found
      all_listed is few = record { few = few; all = listing_last is; in_order = in_order_from found l.in_order }

    -- one text more than are listed
    pub more_listed : (bound byte : ℕ) → floor ≤ byte → ((other : ℕ) → floor ≤ other → Follows edges text other → byte ≤ other)
        → ((other : List ℕ) → WritesText edges other → length other ≤ bound) → WritesText edges (text ++ byte ∷ []) → length found ≡ most_answers → AreMore (WritesText edges)
    more_listed bound byte low least short written full =
        let new = found ++ (text ++ byte ∷ []) ∷ [] in
        let next = listing_enter byte low least new (inl (written, refl)) in
        record {
          bound = bound;
          finite = short;
          texts = new;
          beyond = let n = length-append found ((text ++ byte ∷ []) ∷ []) in omega arith;
          distinct = distinct_from_order new next.in_order;
          related = all_from new (λ t h. ((next.passed t).0 h).0);
        }
