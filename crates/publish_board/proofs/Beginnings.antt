-- Beginnings of one history.
use Rattle.std.proofs.Common.{◌≡◌, ℕ, ◌+◌, ◌≤◌, List, [], ◌∷◌, ◌++◌, length, MatchBool, ◌==◌, Bool, true, false, refl, ap, sym, subst, ◌∙◌, arith}
use mathlib.Core.List.{IsPrefix}
use Rattle.publish_board.specs.declared.law.Entry.{Entry}
use Rattle.publish_board.specs.declared.law.Entry.TheVariants.{Value, Closed}
use Rattle.logbook.specs.Pages.{Book}
use Rattle.publish_board.specs.Published.{published}
use Rattle.publish_board.specs.Histories.{IsLegal, IsLegalFrom, IsNumberedFrom, entries, values_of}
use Rattle.std.proofs.lemmas.Bool.Decides.{nat_tests}
use Rattle.std.proofs.lemmas.Bool.{leb-true}
use Rattle.std.proofs.Math.Dec.{leb}
use Rattle.std.specs.Bool.{OnTrue}

pub prefix_whole : {A : Type 0} (xs ys : List A) → IsPrefix xs ys → length ys ≤ length xs → xs ≡ ys
prefix_whole [] [] p le = refl
prefix_whole [] (y ∷ ys) p le = absurd (omega arith)
prefix_whole (x ∷ xs) [] p le = absurd (cc (p.1))
prefix_whole (x ∷ xs) (y ∷ ys) p le =
    let rest = prefix_whole xs ys (p.0, cc (p.1)) (omega arith) in cc (p.1, rest)

on_true : (b : Bool) (P : Type 0) → (b ≡ true → P) → OnTrue b P
on_true true P h = h refl
on_true false P h = tt

module _ {X : Type 0} where
  pub values_entries : (xs : List X) → values_of (entries xs) ≡ xs
  values_entries [] = refl
  values_entries (x ∷ xs) = ap (λ (l : List X). x ∷ l) (values_entries xs)

  pub values_add : (xs : List X) (x : X) → values_of (entries xs ++ Value x ∷ []) ≡ xs ++ x ∷ []
  values_add [] x = refl
  values_add (y ∷ ys) x = ap (λ (l : List X). y ∷ l) (values_add ys x)

  pub values_close : (xs : List X) → values_of (entries xs ++ Closed ∷ []) ≡ xs
  values_close [] = refl
  values_close (y ∷ ys) = ap (λ (l : List X). y ∷ l) (values_close ys)

  pub entries_add : (xs : List X) (x : X) → entries (xs ++ x ∷ []) ≡ entries xs ++ Value x ∷ []
  entries_add [] x = refl
  entries_add (y ∷ ys) x = ap (λ (l : List (Entry X)). Value y ∷ l) (entries_add ys x)

  pub length_entries : (xs : List X) → length (entries xs) ≡ length xs
  length_entries [] = refl
  length_entries (x ∷ xs) = omega (arith, length_entries xs)

  pub numbered_of : (number : X → ℕ) (n : ℕ) (xs : List X) → IsLegalFrom number n (entries xs) → IsNumberedFrom number n xs
  numbered_of number n [] h = tt
  numbered_of number n (x ∷ xs) h = (h.0, numbered_of number (n + 1) xs h.1)

  pub legal_add : (number : X → ℕ) (n : ℕ) (xs : List X) (x : X) → IsLegalFrom number n (entries xs) → number x ≡ length xs + n → IsLegalFrom number n (entries xs ++ Value x ∷ [])
  legal_add number n [] x h e = (omega arith, tt)
  legal_add number n (y ∷ ys) x h e = (h.0, legal_add number (n + 1) ys x h.1 (omega arith))

  pub legal_close : (number : X → ℕ) (n : ℕ) (xs : List X) → IsLegalFrom number n (entries xs) → IsLegalFrom number n (entries xs ++ Closed ∷ [])
  legal_close number n [] h = refl
  legal_close number n (y ∷ ys) h = (h.0, legal_close number (n + 1) ys h.1)

  -- of two open beginnings the shorter begins the longer
  pub shorter_begins : (xs ys : List X) (log : List (Entry X)) → IsPrefix (entries xs) log → IsPrefix (entries ys) log → length xs ≤ length ys → IsPrefix xs ys
  shorter_begins [] ys log p q le = (ys, refl)
  shorter_begins (x ∷ xs) [] log p q le = absurd (omega arith)
  shorter_begins (x ∷ xs) (y ∷ ys) [] p q le = absurd (cc (p.1))
  shorter_begins (x ∷ xs) (y ∷ ys) (e ∷ log) p q le =
      let heads : x ≡ y = cc (p.1, q.1) in
      let rest = shorter_begins xs ys log (p.0, cc (p.1)) (q.0, cc (q.1)) (omega arith) in
      (rest.0, cc (heads, rest.1))

  -- an open beginning begins what was closed
  pub begins_closed : (xs ys : List X) (log : List (Entry X)) → IsPrefix (entries xs) log → IsPrefix (entries ys ++ Closed ∷ []) log → IsPrefix xs ys
  begins_closed [] ys log p q = (ys, refl)
  begins_closed (x ∷ xs) [] [] p q = absurd (cc (p.1))
  begins_closed (x ∷ xs) [] (e ∷ log) p q = absurd (cc (p.1, q.1))
  begins_closed (x ∷ xs) (y ∷ ys) [] p q = absurd (cc (p.1))
  begins_closed (x ∷ xs) (y ∷ ys) (e ∷ log) p q =
      let heads : x ≡ y = cc (p.1, q.1) in
      let rest = begins_closed xs ys log (p.0, cc (p.1)) (q.0, cc (q.1)) in
      (rest.0, cc (heads, rest.1))

  pub may_add : (number : X → ℕ) (log : List (Entry X)) (x : X) → log ≡ entries (values_of log) → IsLegal number log → number x ≡ length (values_of log) + 1 → IsLegal number (log ++ Value x ∷ [])
  may_add number log x e h n = subst (λ (l : List (Entry X)). IsLegal number (l ++ Value x ∷ [])) (sym e) (legal_add number 1 (values_of log) x (subst (IsLegal number) e h) n)

  pub may_close : (number : X → ℕ) (log : List (Entry X)) → log ≡ entries (values_of log) → IsLegal number log → IsLegal number (log ++ Closed ∷ [])
  may_close number log e h = subst (λ (l : List (Entry X)). IsLegal number (l ++ Closed ∷ [])) (sym e) (legal_close number 1 (values_of log) (subst (IsLegal number) e h))

  pub added : (v w : List (Entry X)) (e : Entry X) (n m : ℕ) → n ≡ m → MatchBool (n == m) (w ≡ v ++ e ∷ []) (Unit {0}) → w ≡ v ++ e ∷ []
  added v w e n m is h = let t : (n == m) ≡ true = grind (arith, nat_tests) in rw t at h

  pub grown_values : (log w : List (Entry X)) (x : X) → log ≡ entries (values_of log) → w ≡ log ++ Value x ∷ [] → values_of w ≡ values_of log ++ x ∷ []
  grown_values log w x e is = ap values_of (is ∙ ap (λ (l : List (Entry X)). l ++ Value x ∷ []) e) ∙ values_add (values_of log) x

  pub grown_entries : (log w : List (Entry X)) (x : X) → log ≡ entries (values_of log) → w ≡ log ++ Value x ∷ [] → w ≡ entries (values_of w)
  grown_entries log w x e is = is ∙ (ap (λ (l : List (Entry X)). l ++ Value x ∷ []) e ∙ (sym (entries_add (values_of log) x) ∙ ap entries (sym (grown_values log w x e is))))

  pub closed_values : (log w : List (Entry X)) → log ≡ entries (values_of log) → w ≡ log ++ Closed ∷ [] → values_of w ≡ values_of log
  closed_values log w e is = ap values_of (is ∙ ap (λ (l : List (Entry X)). l ++ Closed ∷ []) e) ∙ values_close (values_of log)

  pub closed_entries : (log w : List (Entry X)) → log ≡ entries (values_of log) → w ≡ log ++ Closed ∷ [] → w ≡ entries (values_of w) ++ Closed ∷ []
  closed_entries log w e is = is ∙ (ap (λ (l : List (Entry X)). l ++ Closed ∷ []) e ∙ ap (λ (l : List X). entries l ++ Closed ∷ []) (sym (closed_values log w e is)))

  pub published_same : (b c : Book) (xs ys : List X) → b ≡ c → xs ≡ ys → published b xs ≡ published c ys
  published_same b c xs ys p q = λ i. published (p i) (q i)

  pub precedes_by : (a b both : List (Entry X)) (m n : ℕ) → m ≡ length a → n ≡ length b → a ≡ entries (values_of a) → b ≡ entries (values_of b) → IsPrefix a both → IsPrefix b both → OnTrue (leb m n) (IsPrefix (values_of a) (values_of b))
  precedes_by a b both m n la lb ea eb p q = on_true (leb m n) (IsPrefix (values_of a) (values_of b)) (λ t.
      let le : m ≤ n = leb-true m n t in
      let ka : length a ≡ length (values_of a) = ap length ea ∙ length_entries (values_of a) in
      let kb : length b ≡ length (values_of b) = ap length eb ∙ length_entries (values_of b) in
      shorter_begins (values_of a) (values_of b) both (subst (λ (l : List (Entry X)). IsPrefix l both) ea p) (subst (λ (l : List (Entry X)). IsPrefix l both) eb q) (omega arith))
