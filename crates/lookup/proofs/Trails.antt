-- A trail as a walk goes on and back.
use Rattle.std.proofs.Common.{◌≡◌, ℕ, zero, suc, ◌+◌, ◌-◌, ◌<◌, ◌≤◌, List, [], ◌∷◌, ◌++◌, Option, Some, length, get_or, map, take, refl, sym, subst, ap, inl, inr, arith, ◌∙◌, length-append}
use Rattle.std.specs.List.{Contains, slice_get}
use Rattle.std.proofs.lemmas.List.{length-map, map-append}
use Rattle.std.proofs.lemmas.List.Elements.{Contains-push_cases}
use Rattle.std.proofs.lemmas.Option.{slice_get-map, slice_get_read, slice_get_within}
use Rattle.std.specs.Option.{option_map}
use Rattle.word_relations.proofs.Members.{Contains-nil_cases}
use Rattle.word_relations.proofs.Places.{Contains-from_slice_get, same_at}
use Rattle.fsa.specs.declared.automaton.Edge.{Edge}
use Rattle.lookup.specs.Walks.{AreFronts, AreLearnt, AreMore, AreMoves, Carries, Follows, HasMove, IsFront, IsKnown, IsLeast, IsTrail, front_at}
use Rattle.lookup.specs.declared.walk.Byte.{Byte}
use Rattle.lookup.specs.declared.walk.Leaving.{Leaving}
use Rattle.lookup.specs.declared.walk.Move.{Move}
use Rattle.lookup.proofs.Fronts.{fronts_first, fronts_left, fronts_push, fronts_top}
use Rattle.lookup.proofs.Least.{least_same}
use Rattle.lookup.proofs.Moves.{more_at, more_within}

-- an element of a front of a list
contains_front : (n : ℕ) (xs : List ℕ) (x : ℕ) → Contains (take n xs) x → Contains xs x
contains_front n xs x h = by n xs h.0 h.1 h.2
  where
    by : (n : ℕ) (xs : List ℕ) (k : ℕ) → k < length (take n xs) → get_or (take n xs) k x ≡ x → Contains xs x
    by zero xs k l e = absurd (omega arith)
    by (suc n) [] k l e = absurd (omega arith)
    by (suc n) (y ∷ ys) zero l e = (0, omega arith, e)
    by (suc n) (y ∷ ys) (suc k) l e = let r = by n ys k (omega arith) e in (suc r.0, omega (arith, r.1), r.2)

-- the fronts of a trail stay where more sets are numbered
fronts_more : (a b : List (List ℕ)) (trail : List ℕ) → AreMore a b → ((n : ℕ) → Contains trail n → n < length a) → map (λ n. front_at b n) trail ≡ map (λ n. front_at a n) trail
fronts_more a b [] more held = refl
fronts_more a b (n ∷ trail) more held =
    let first = more_at a b n more (held n (0, omega arith, refl)) in
    let rest = fronts_more a b trail more (λ k h. held k (suc h.0, omega (arith, h.1), h.2)) in
    cc

-- the number at the end of a trail
pub trail_at : (trail text : List ℕ) (i number : ℕ) → length trail ≡ length text + 1 → i ≡ length text → number ≡ get_or trail i number → slice_get trail (length text) ≡ Some number
trail_at trail text i number count is at =
    subst (λ k. slice_get trail k ≡ Some number) is (slice_get_read trail (length trail) i number refl (omega arith) at)

module _ (edges : List (Edge Byte)) where
  pub trail_first : (sets : List (List ℕ)) (leaving : List Leaving) (start : ℕ) → start < length sets → IsKnown leaving start → IsFront edges [] (front_at sets start) → IsTrail edges sets leaving [] (start ∷ [])
  trail_first sets leaving start within known is = record {
    fronts = fronts_first edges (front_at sets start) is;
    held = λ n h. elim (Contains-push_cases [] start n h) [ inl none ↦ absurd (Contains-nil_cases n none) | inr same ↦ subst (λ k. k < length sets) same within ];
    known = λ n h. elim (Contains-push_cases [] start n h) [ inl none ↦ absurd (Contains-nil_cases n none) | inr same ↦ subst (λ k. IsKnown leaving k) same known ];
  }

  module _ (sets : List (List ℕ)) (leaving : List Leaving) (text trail : List ℕ) (is : IsTrail edges sets leaving text trail) where
    pub trail_count : length trail ≡ length text + 1
    trail_count = sym (length-map trail (λ n. front_at sets n)) ∙ is.fronts.count

    -- the nodes that the text leads to
    pub trail_top : (number : ℕ) → slice_get trail (length text) ≡ Some number → IsFront edges text (front_at sets number)
    trail_top number at = fronts_top edges text (map (λ n. front_at sets n) trail) (front_at sets number) is.fronts
        (slice_get-map (λ n. front_at sets n) trail (length text) ∙ ap (option_map (λ n. front_at sets n)) at)

    pub trail_held : (number : ℕ) → slice_get trail (length text) ≡ Some number → number < length sets
    trail_held number at = is.held number (Contains-from_slice_get trail (length text) number at)

    pub trail_within : (number : ℕ) → slice_get trail (length text) ≡ Some number → number < length leaving
    trail_within number at = let k = is.known number (Contains-from_slice_get trail (length text) number at) in slice_get_within leaving number k.0 k.1

    -- the moves that are kept for them
    pub trail_moves : (number : ℕ) (own : Leaving) → AreLearnt edges sets leaving → slice_get trail (length text) ≡ Some number → slice_get leaving number ≡ Some own → AreMoves edges sets (front_at sets number) own.moves.items
    trail_moves number own learnt at here =
        let k = is.known number (Contains-from_slice_get trail (length text) number at) in
        let same : k.0 ≡ own = same_at leaving number k.0 own k.1 here in
        subst (λ l. AreMoves edges sets (front_at sets number) l.moves.items) same (learnt number k.0 k.1 k.2).1

    pub trail_numbers : (i number : ℕ) → i ≡ length text → number ≡ get_or trail i number → (number < length sets) × (number < length leaving)
    trail_numbers i number same at =
        let there = trail_at trail text i number trail_count same at in
        (trail_held number there, trail_within number there)

    pub trail_row : (i number : ℕ) (own : Leaving) → AreLearnt edges sets leaving → i ≡ length text → number ≡ get_or trail i number → own ≡ get_or leaving number own
        → IsFront edges text (front_at sets number) × AreMoves edges sets (front_at sets number) own.moves.items
    trail_row i number own learnt same at here =
        let there = trail_at trail text i number trail_count same at in
        (trail_top number there, trail_moves number own learnt there (slice_get_read leaving (length leaving) number own refl (trail_within number there) here))

    -- go on with a byte
    pub trail_push : (sets' : List (List ℕ)) (leaving' : List Leaving) (byte to : ℕ) → AreMore sets sets' → ((n : ℕ) → IsKnown leaving n → IsKnown leaving' n) → to < length sets → IsKnown leaving' to
        → IsFront edges (text ++ byte ∷ []) (front_at sets to) → IsTrail edges sets' leaving' (text ++ byte ∷ []) (trail ++ to ∷ [])
    trail_push sets' leaving' byte to more kept within known front =
        let whole : map (λ n. front_at sets' n) (trail ++ to ∷ []) ≡ map (λ n. front_at sets n) trail ++ front_at sets to ∷ [] =
        map-append (λ n. front_at sets' n) trail (to ∷ []) ∙ ap (λ fs. fs ++ front_at sets' to ∷ []) (fronts_more sets sets' trail more is.held)
        ∙ ap (λ f. map (λ n. front_at sets n) trail ++ f ∷ []) (more_at sets sets' to more within) in
        record {
          fronts = subst (λ fs. AreFronts edges (text ++ byte ∷ []) fs) (sym whole) (fronts_push edges text byte (map (λ n. front_at sets n) trail) (front_at sets to) is.fronts front);
          held = λ n h. elim (Contains-push_cases trail to n h) [
            | inl old ↦ more_within sets sets' n more (is.held n old)
            | inr same ↦ subst (λ k. k < length sets') same (more_within sets sets' to more within)
          ];
          known = λ n h. elim (Contains-push_cases trail to n h) [ inl old ↦ kept n (is.known n old) | inr same ↦ subst (λ k. IsKnown leaving' k) same known ];
        }

  -- the byte that follows a text leaves the nodes that it leads to, and the other way round
  pub carries_follows : (front text : List ℕ) (byte : ℕ) → IsFront edges text front → Follows edges text byte → Carries edges front byte
  carries_follows front text byte is (e, held, letter, way) = (e, held, (is e.from).1 way, letter)

  pub follows_carries : (front text : List ℕ) (byte : ℕ) → IsFront edges text front → Carries edges front byte → Follows edges text byte
  follows_carries front text byte is (e, held, has, letter) = (e, held, letter, (is e.from).0 has)

  -- the move with a byte that follows leads to what the text with the byte leads to
  pub move_on : (sets : List (List ℕ)) (front text : List ℕ) (moves : List Move) (byte to : ℕ) → IsFront edges text front → AreMoves edges sets front moves
      → (m : Move) × Contains moves m × (m.byte ≡ byte) × (m.to ≡ to) → (to < length sets) × IsFront edges (text ++ byte ∷ []) (front_at sets to)
  move_on sets front text moves byte to is are (m, held, same, leads) = (
    subst (λ n. n < length sets) leads (are.within m held),
    subst (λ n. IsFront edges (text ++ byte ∷ []) (front_at sets n)) leads (subst (λ b. IsFront edges (text ++ b ∷ []) (front_at sets m.to)) same (are.leads m held text is)),
  )

  pub least_follows : (sets : List (List ℕ)) (front text : List ℕ) (moves : List Move) (floor : ℕ) (found : Option ℕ) → IsFront edges text front → AreMoves edges sets front moves
      → IsLeast (λ byte. (floor ≤ byte) × HasMove moves byte) found → IsLeast (λ byte. (floor ≤ byte) × Follows edges text byte) found
  least_follows sets front text moves floor found is are least =
      least_same (λ byte. (floor ≤ byte) × HasMove moves byte) (λ byte. (floor ≤ byte) × Follows edges text byte) found
      (λ byte (low, (m, held, same)). (low, follows_carries front text byte is (subst (λ b. Carries edges front b) same (are.carried m held))))
      (λ byte (low, goes). (low, are.all byte (carries_follows front text byte is goes))) least

  -- go back
  pub trail_pop : (sets : List (List ℕ)) (leaving : List Leaving) (text : List ℕ) (byte : ℕ) (trail left : List ℕ) → IsTrail edges sets leaving (text ++ byte ∷ []) trail → left ≡ take (length trail - 1) trail → IsTrail edges sets leaving text left
  trail_pop sets leaving text byte trail left is popped =
      let count = trail_count sets leaving (text ++ byte ∷ []) trail is in
      let n = length-append text (byte ∷ []) in
      let size : length trail - 1 ≡ length text + 1 = omega arith in
      record {
        fronts = fronts_left (λ n. front_at sets n) edges text byte (length trail - 1) trail left size popped is.fronts;
        held = λ n h. is.held n (contains_front (length trail - 1) trail n (subst (λ t. Contains t n) popped h));
        known = λ n h. is.known n (contains_front (length trail - 1) trail n (subst (λ t. Contains t n) popped h));
      }
