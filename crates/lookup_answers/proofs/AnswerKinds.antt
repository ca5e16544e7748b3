-- Kinds of answers: a list that has all texts is shorter than no list of different ones, and a loop has texts that
-- are longer than any bound. Sets that are the same have the same lawful answers.
use Rattle.std.proofs.Common.{◌≡◌, ℕ, zero, suc, ◌+◌, ◌<◌, ◌≤◌, ◌↔◌, List, ◌++◌, Bool, true, false, Some, length, get_or, refl, subst, ap, arith, ◌∙◌, length-append, nat_eq, sum_by}
use Rattle.std.specs.List.{Contains}
use Rattle.std.specs.Cmp.Lexicographic.{pointwise, bytes_decides, nat_list_eq_equiv}
use Rattle.std.proofs.lemmas.List.Elements.{All-get_or, All-weaker}
use Rattle.std.proofs.lemmas.List.Sums.{get_or-le-sum_by}
use Rattle.std.proofs.lemmas.Map.Keys.{IsDistinct-from_apart}
use Rattle.std.proofs.lemmas.Map.Made.{is_member-Decides, length-le_from_is_member}
use Rattle.std.proofs.lemmas.Option.{slice_get-get_or}
use Rattle.word_relations.specs.Words.{IsDistinct}
use Rattle.word_relations.specs.Answers.{Answers, AreAll, AreMore, IsLoop, Found, strings, more, loop, times}
use Rattle.lookup_answers.specs.OneKind.{IsSameKind}

-- different texts of a list are no more than its texts
pigeonhole : (xs ys : List (List ℕ)) → IsDistinct xs → ((x : List ℕ) → Contains xs x → Contains ys x) → length xs ≤ length ys
pigeonhole xs ys distinct inside =
    length-le_from_is_member nat_list_eq_equiv xs ys
    (IsDistinct-from_apart (pointwise nat_eq) xs (λ i j d less within. apart i j d less within (pointwise nat_eq (get_or xs i d) (get_or xs j d)) refl))
    (λ q member. (is_member-Decides bytes_decides ys q).1 (inside q ((is_member-Decides bytes_decides xs q).0 member)))
  where
    apart : (i j : ℕ) (d : List ℕ) → i < j → j < length xs → (b : Bool) → pointwise nat_eq (get_or xs i d) (get_or xs j d) ≡ b → pointwise nat_eq (get_or xs i d) (get_or xs j d) ≡ false
    apart i j d less within false e = e
    apart i j d less within true e =
        let same : get_or xs i d ≡ get_or xs j d = (bytes_decides (get_or xs i d) (get_or xs j d)).0 e in
        let again : i ≡ j = distinct i j (get_or xs j d) (slice_get-get_or xs i d (omega arith) ∙ ap Some same) (slice_get-get_or xs j d within) in
        absurd (omega arith)

length-times : (m : ℕ) (text : List ℕ) → 0 < length text → m ≤ length (times m text)
length-times zero text some = omega arith
length-times (suc m) text some = let l = length-times m text some in let e = length-append text (times m text) in omega arith

module _ (T : List ℕ → Type 0) where
  -- a loop has a text that is longer than the bound
  long : (before round after : List ℕ) → IsLoop T before round after → (bound : ℕ) → (text : List ℕ) × T text × (bound < length text)
  long before round after is bound =
      let m : ℕ = bound + 1 in
      let l = length-times m round is.goes_round in
      let e = length-append before (times m round) in
      let f = length-append (before ++ times m round) after in
      (before ++ times m round ++ after, is.related m, omega arith)

  all_more : (texts : List (List ℕ)) → AreAll T texts → AreMore T → ⊥
  all_more texts all many =
      let fits = pigeonhole many.texts texts many.distinct (λ x (k, l, e). (all.all x).0 (subst T e (All-get_or T many.texts k x l many.related))) in
      let few : length texts ≤ 4096 = all.few in
      let beyond : 4096 < length many.texts = many.beyond in
      omega arith

  all_loop : (texts : List (List ℕ)) (before round after : List ℕ) → AreAll T texts → IsLoop T before round after → ⊥
  all_loop texts before round after all is =
      let r = long before round after is (sum_by length texts) in
      let place = (all.all r.0).0 r.1 in
      let short = get_or-le-sum_by length texts place.0 r.0 place.1 in
      let same : length (get_or texts place.0 r.0) ≡ length r.0 = ap length place.2 in
      let above = r.2 in
      omega arith

  more_loop : (before round after : List ℕ) → AreMore T → IsLoop T before round after → ⊥
  more_loop before round after many is =
      let r = long before round after is many.bound in
      let short = many.finite r.0 r.1 in
      let above = r.2 in
      omega arith

  pub same_kind : (a b : Found) → Answers T a → Answers T b → IsSameKind a b
  same_kind (strings texts) (strings others) p q = tt
  same_kind (strings texts) more p q = absurd (all_more texts p q)
  same_kind (strings texts) (loop before round after) p q = absurd (all_loop texts before round after p q)
  same_kind more (strings texts) p q = absurd (all_more texts q p)
  same_kind more more p q = tt
  same_kind more (loop before round after) p q = absurd (more_loop before round after p q)
  same_kind (loop before round after) (strings texts) p q = absurd (all_loop texts before round after q p)
  same_kind (loop before round after) more p q = absurd (more_loop before round after q p)
  same_kind (loop before round after) (loop before2 round2 after2) p q = tt

  -- the same set of texts
  pub Answers-same : (U : List ℕ → Type 0) → ((text : List ℕ) → T text ↔ U text) → (found : Found) → Answers T found → Answers U found
  Answers-same U same (strings texts) all = record {
    few = all.few;
    all = λ text. (λ u. (all.all text).0 ((same text).1 u), λ h. (same text).0 ((all.all text).1 h));
    in_order = all.in_order;
  }
  Answers-same U same more is = record {
    bound = is.bound;
    finite = λ text u. is.finite text ((same text).1 u);
    texts = is.texts;
    beyond = is.beyond;
    distinct = is.distinct;
    related = All-weaker T U (λ text t. (same text).0 t) is.texts is.related;
  }
  Answers-same U same (loop before round after) is = record { goes_round = is.goes_round; related = λ m. (same _).0 (is.related m) }
