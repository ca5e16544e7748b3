-- The nodes that a text leads to: those of the empty text, those of a text with a byte more, and those of all
-- beginnings of a text.
use Rattle.std.proofs.Common.{◌≡◌, ℕ, zero, suc, ◌+◌, ◌<◌, ◌≤◌, ◌⊎◌, ◌↔◌, List, [], ◌∷◌, ◌++◌, Option, None, Some, length, get_or, take, drop, map, option_map, refl, sym, subst, ap, inl, inr, arith, ◌∙◌, option_to_list, length-append}
use Rattle.std.specs.List.{Contains, slice_get}
use Rattle.std.proofs.lemmas.List.{append-nil, map-append, length-map, length-take-le, take_all, take_more, take-append-le, take-append-drop}
use Rattle.std.proofs.lemmas.List.Elements.{Contains-append_cases, Contains-append_left, Contains-append_right, Contains-push_cases, Contains-push}
use Rattle.std.proofs.lemmas.Option.{slice_get_within, slice_get-map, slice_get_read, same_Some}
use Rattle.word_relations.proofs.Members.{Contains-nil_cases, Contains-head}
use Rattle.word_relations.proofs.Places.{slice_get-append_left, slice_get-append_cases}
use Rattle.fsa.specs.declared.automaton.Edge.{Edge}
use Rattle.fsa_explore.specs.Marks.{Marks, Adds}
use Rattle.fsa_explore.specs.Reaches.{Reaches, IsReached, here, along}
use Rattle.fsa_explore.specs.Targets.{IsTarget}
use Rattle.fsa_explore.proofs.Added.{Adds-same}
use Rattle.lookup.specs.Graph.{Connects, IsPath, letters_of, start}
use Rattle.lookup.proofs.GraphPaths.{connects-append, connects_edge}
use Rattle.lookup.specs.Walks.{AreFrom, AreFronts, Enters, IsFront, word_of}
use Rattle.lookup.specs.declared.walk.Byte.{Byte}

module _ {L : Type 0} (edges : List (Edge L)) where
  -- an edge before a path
  pub prepend : (e : Edge L) (o : Option L) (a b : ℕ) (w : List L) → Contains edges e → e.from ≡ a → e.letter ≡ o → Connects edges e.to w b → Connects edges a (option_to_list o ++ w) b
  prepend e o a b w held from is (p, h, letters) = (e ∷ p, (held, from, h), ap (λ v. v ++ letters_of p) (ap option_to_list is) ∙ ap (λ v. option_to_list o ++ v) letters)

  -- an edge behind a path
  pub behind : (e : Edge L) (x : L) (a : ℕ) (w : List L) → Contains edges e → e.letter ≡ Some x → Connects edges a w e.from → Connects edges a (w ++ x ∷ []) e.to
  behind e x a w held is h =
      connects-append edges a e.from e.to w (x ∷ []) h (subst (λ v. Connects edges e.from v e.to) (ap option_to_list is) (connects_edge edges e held))

  -- a path that has a letter between others takes an edge with it
  pub record Split (a b : ℕ) (u v : List L) (x : L) : Type 0 where
    pub edge : Edge L
    pub held : Contains edges edge
    pub letter : edge.letter ≡ Some x
    pub to_it : Connects edges a u edge.from
    pub from_it : Connects edges edge.to v b

  pub split : (a b : ℕ) (p : List (Edge L)) (u v : List L) (x : L) → IsPath edges a p b → letters_of p ≡ u ++ x ∷ v → Split a b u v x
  split a b [] [] v x h is = absurd (cc)
  split a b [] (y ∷ u) v x h is = absurd (cc)
  split a b (e ∷ p) [] v x (held, from, rest) is =
      elim e.letter as (λ o. e.letter ≡ o → option_to_list o ++ letters_of p ≡ x ∷ v → Split a b [] v x) [
        | None ↦ λ epsilon is.
            let r = split e.to b p [] v x rest is in
            record { edge = r.edge; held = r.held; letter = r.letter; to_it = prepend e None a r.edge.from [] held from epsilon r.to_it; from_it = r.from_it }
        | Some y ↦ λ letter is.
            let same : y ≡ x = cc in
            let after : letters_of p ≡ v = cc in
            record { edge = e; held = held; letter = letter ∙ ap Some same; to_it = ([], sym from, refl); from_it = (p, rest, after) }
      ] refl is
  split a b (e ∷ p) (z ∷ u) v x (held, from, rest) is =
      elim e.letter as (λ o. e.letter ≡ o → option_to_list o ++ letters_of p ≡ z ∷ (u ++ x ∷ v) → Split a b (z ∷ u) v x) [
        | None ↦ λ epsilon is.
            let r = split e.to b p (z ∷ u) v x rest is in
            record { edge = r.edge; held = r.held; letter = r.letter; to_it = prepend e None a r.edge.from (z ∷ u) held from epsilon r.to_it; from_it = r.from_it }
        | Some y ↦ λ letter is.
            let same : y ≡ z = cc in
            let after : letters_of p ≡ u ++ x ∷ v = cc in
            let r = split e.to b p u v x rest after in
            record {
              edge = r.edge;
              held = r.held;
              letter = r.letter;
              to_it = subst (λ y. Connects edges a (y ∷ u) r.edge.from) same (prepend e (Some y) a r.edge.from u held from letter r.to_it);
              from_it = r.from_it;
            }
      ] refl is

  -- epsilon paths
  pub connects_epsilon : {p q : ℕ} → Reaches edges p q → Connects edges p [] q
  connects_epsilon here = ([], refl, refl)
  connects_epsilon (along {p = p} {q = q} {r = r} held rest) = prepend (record { from = p; letter = None; to = q }) None p r [] held refl refl (connects_epsilon rest)

  pub epsilon_connects : (a b : ℕ) (p : List (Edge L)) → IsPath edges a p b → letters_of p ≡ [] → Reaches edges a b
  epsilon_connects a b [] h is = subst (λ x. Reaches edges a x) h here
  epsilon_connects a b (e ∷ p) (held, from, rest) is =
      elim e.letter as (λ o. e.letter ≡ o → option_to_list o ++ letters_of p ≡ [] → Reaches edges a b) [
        | None ↦ λ epsilon is.
            let P : ℕ → Option L → Type 0 = λ x o. Contains edges (record { from = x; letter = o; to = e.to }) in
            along (subst (λ x. P x None) from (subst (λ o. P e.from o) epsilon held)) (epsilon_connects e.to b p rest is)
        | Some y ↦ λ letter is. absurd (cc)
      ] refl is

module _ (edges : List (Edge Byte)) where
  -- what the start leads to by epsilon edges
  pub front_first : (old new : Marks) → old.found ≡ start ∷ [] → Adds old new (IsReached edges old.found) → IsFront edges [] new.found
  front_first old new is adds q = (
    λ h. elim (adds.grows.only q h) [
      | inl old' ↦ elim (Contains-push_cases [] start q (subst (λ ks. Contains ks q) is old')) [
        | inl none ↦ absurd (Contains-nil_cases q none)
        | inr same ↦ ([], same, refl)
      ]
      | inr r ↦ elim (Contains-push_cases [] start r.0 (subst (λ ks. Contains ks r.0) is r.1)) [
        | inl none ↦ absurd (Contains-nil_cases r.0 none)
        | inr same ↦ subst (λ x. Connects edges x [] q) (sym same) (connects_epsilon edges r.2)
      ]
    ],
    λ (p, h, letters). adds.all q (start, subst (λ ks. Contains ks start) (sym is) (Contains-head start []), epsilon_connects edges start q p h letters),
  )

  -- the edges that leave some nodes, from one node after another
  module _ (front : List ℕ) where
    pub from_none : AreFrom edges (take 0 front) []
    from_none e = (λ h. absurd (Contains-nil_cases e h), λ (held, has). absurd (Contains-nil_cases e.from has))

    pub from_more : (i node : ℕ) (out some : List (Edge Byte)) → i < length front → node ≡ get_or front i node
        → ((e : Edge Byte) → Contains out e ↔ (Contains edges e × (e.from ≡ node))) → AreFrom edges (take i front) some → AreFrom edges (take (i + 1) front) (some ++ out)
    from_more i node out some inside at is are e =
        let more : take (i + 1) front ≡ take i front ++ node ∷ [] = take_more front i node inside ∙ ap (λ y. take i front ++ y ∷ []) (sym at) in (
          λ h. elim (Contains-append_cases some out e h) [
            | inl old ↦ let r = (are e).0 old in (r.0, subst (λ ks. Contains ks e.from) (sym more) (Contains-append_left (take i front) (node ∷ []) e.from r.1))
            | inr new ↦
                let r = (is e).0 new in
                (r.0, subst (λ x. Contains (take (i + 1) front) x) (sym r.1) (subst (λ ks. Contains ks node) (sym more) (Contains-push (take i front) node)))
          ],
          λ (held, has). elim (Contains-push_cases (take i front) node e.from (subst (λ ks. Contains ks e.from) more has)) [
            | inl old ↦ Contains-append_left some out e ((are e).1 (held, old))
            | inr same ↦ Contains-append_right some out e ((is e).1 (held, sym same))
          ],
        )

    pub from_all : (i : ℕ) (some : List (Edge Byte)) → length front ≤ i → AreFrom edges (take i front) some → AreFrom edges front some
    from_all i some past are = subst (λ ks. AreFrom edges ks some) (take_all i front past) are

  -- the nodes that edges with a byte enter
  module _ (front : List ℕ) (byte : ℕ) where
    pub enters_from : (leaving : List (Edge Byte)) (a b : Marks) → AreFrom edges front leaving → Adds a b (IsTarget leaving (Some (record { 0 = byte }))) → Adds a b (Enters edges front byte)
    enters_from leaving a b are h =
        Adds-same a b (IsTarget leaving (Some (record { 0 = byte }))) (Enters edges front byte)
        (λ k (e, held, letter, to). let r = (are e).0 held in (e, r.0, r.1, letter, to))
        (λ k (e, held, has, letter, to). (e, (are e).1 (held, has), letter, to)) h

    -- a byte more, and what epsilon edges lead to from there
    pub front_next : (a b c : Marks) → a.found ≡ [] → Adds a b (Enters edges front byte) → Adds b c (IsReached edges b.found)
        → (text : List ℕ) → IsFront edges text front → IsFront edges (text ++ byte ∷ []) c.found
    front_next a b c empty entered reached text is q =
        let x : Byte = record { 0 = byte } in
        let words : word_of (text ++ byte ∷ []) ≡ word_of text ++ x ∷ [] = map-append (λ n. record { 0 = n }) text (byte ∷ []) in
        let come = λ (k : ℕ) (h : Contains b.found k). enter_word k (entered.grows.only k h) text is in (
          λ h. subst (λ w. Connects edges start w q) (sym words) (elim (reached.grows.only q h) [
            | inl old ↦ come q old
            | inr r ↦ subst (λ w. Connects edges start w q) (append-nil (word_of text ++ x ∷ []))
                (connects-append edges start r.0 q (word_of text ++ x ∷ []) [] (come r.0 r.1) (connects_epsilon edges r.2))
          ]),
          λ (p, h, letters).
              let s = split edges start q p (word_of text) [] x h (letters ∙ words) in
              let has = entered.all s.edge.to (s.edge, s.held, (is s.edge.from).1 s.to_it, s.letter, refl) in
              reached.all q (s.edge.to, has, epsilon_connects edges s.edge.to q s.from_it.0 s.from_it.1 s.from_it.2),
        ) where
          enter_word : (k : ℕ) → Contains a.found k ⊎ Enters edges front byte k → (text : List ℕ) → IsFront edges text front → Connects edges start (word_of text ++ record { 0 = byte } ∷ []) k
          enter_word k (inl old) text is = absurd (Contains-nil_cases k (subst (λ ks. Contains ks k) empty old))
          enter_word k (inr (e, held, has, letter, to)) text is =
              subst (λ y. Connects edges start (word_of text ++ record { 0 = byte } ∷ []) y) to
              (behind edges e (record { 0 = byte }) start (word_of text) held letter ((is e.from).0 has))

  -- the fronts of all beginnings of a text
  pub fronts_first : (front : List ℕ) → IsFront edges [] front → AreFronts edges [] (front ∷ [])
  fronts_first front is = record { count = refl; each = at } where
    at : (k : ℕ) (other : List ℕ) → slice_get (front ∷ []) k ≡ Some other → IsFront edges (take k []) other
    at zero other h = subst (λ f. IsFront edges [] f) (same_Some front other h) is
    at (suc k) other h = absurd (let l = slice_get_within (front ∷ []) (suc k) other h in omega arith)

  module _ (text : List ℕ) (byte : ℕ) (fronts : List (List ℕ)) where
    pub fronts_push : (front : List ℕ) → AreFronts edges text fronts → IsFront edges (text ++ byte ∷ []) front → AreFronts edges (text ++ byte ∷ []) (fronts ++ front ∷ [])
    fronts_push front are is = record {
      count = length-append fronts (front ∷ []) ∙ ap (λ n. n + 1) (are.count ∙ sym (length-append text (byte ∷ [])));
      each = λ k other h. elim (slice_get-append_cases fronts (front ∷ []) k other h) [
        | inl old ↦
            let l = slice_get_within fronts k other old in
            let n = are.count in
            let short : k ≤ length text = omega arith in
            subst (λ t. IsFront edges t other) (sym (take-append-le k text (byte ∷ []) short)) (are.each k other old)
        | inr (j, at, there) ↦
            let l = slice_get_within (front ∷ []) j other there in
            let n = are.count in
            let zero_is : j ≡ 0 = omega arith in
            let m = length-append text (byte ∷ []) in
            let long : length (text ++ byte ∷ []) ≤ k = omega arith in
            let same : front ≡ other = same_Some front other (subst (λ i. slice_get (front ∷ []) i ≡ Some other) zero_is there) in
            subst (λ t. IsFront edges t other) (sym (take_all k (text ++ byte ∷ []) long)) (subst (λ f. IsFront edges (text ++ byte ∷ []) f) same is)
      ];
    }

    pub fronts_pop : (more : List (List ℕ)) → length fronts ≡ length text + 1 → AreFronts edges (text ++ byte ∷ []) (fronts ++ more) → AreFronts edges text fronts
    fronts_pop more count are = record {
      count = count;
      each = λ k other h.
          let inside = slice_get_within fronts k other h in
          let short : k ≤ length text = omega arith in
          subst (λ t. IsFront edges t other) (take-append-le k text (byte ∷ []) short) (are.each k other (slice_get-append_left fronts more k inside ∙ h));
    }

  pub fronts_top : (text : List ℕ) (fronts : List (List ℕ)) (front : List ℕ) → AreFronts edges text fronts → slice_get fronts (length text) ≡ Some front → IsFront edges text front
  fronts_top text fronts front are at = subst (λ t. IsFront edges t front) (take_all (length text) text (omega arith)) (are.each (length text) front at)

-- what is read at a place, and then taken through a function
pub at_map : {A B : Type 0} (v : A → B) (xs : List A) (i : ℕ) (x : A) → i < length xs → x ≡ get_or xs i x → slice_get (map v xs) i ≡ Some (v x)
at_map v xs i x inside e = slice_get-map v xs i ∙ ap (option_map v) (slice_get_read xs (length xs) i x refl inside e)

-- the fronts that are left of more
pub fronts_left : {A : Type 0} (v : A → List ℕ) (edges : List (Edge Byte)) (text : List ℕ) (byte n : ℕ) (fronts left : List A) → n ≡ length text + 1 → left ≡ take n fronts
    → AreFronts edges (text ++ byte ∷ []) (map v fronts) → AreFronts edges text (map v left)
fronts_left v edges text byte n fronts left n_is is are =
    let long = length-map fronts v in
    let count = are.count in
    let m = length-append text (byte ∷ []) in
    let within : n ≤ length fronts = omega arith in
    let taken : length left ≡ n = ap length is ∙ length-take-le n fronts within in
    let few : length (map v left) ≡ length text + 1 = length-map left v ∙ taken ∙ n_is in
    let whole : map v fronts ≡ map v left ++ map v (drop n fronts) =
    ap (map v) (sym (take-append-drop n fronts)) ∙ map-append v (take n fronts) (drop n fronts) ∙ ap (λ xs. map v xs ++ map v (drop n fronts)) (sym is) in
    fronts_pop edges text byte (map v left) (map v (drop n fronts)) few (subst (λ fs. AreFronts edges (text ++ byte ∷ []) fs) whole are)

pub bytes_push : (text : List ℕ) (byte : ℕ) → ((k b : ℕ) → slice_get text k ≡ Some b → b < 256) → byte < 256 → (k b : ℕ) → slice_get (text ++ byte ∷ []) k ≡ Some b → b < 256
bytes_push text byte small new k b h = elim (slice_get-append_cases text (byte ∷ []) k b h) [
  | inl old ↦ small k b old
  | inr (j, at, there) ↦
      let l = slice_get_within (byte ∷ []) j b there in
      let zero_is : j ≡ 0 = omega arith in
      subst (λ x. x < 256) (same_Some byte b (subst (λ i. slice_get (byte ∷ []) i ≡ Some b) zero_is there)) new
]
