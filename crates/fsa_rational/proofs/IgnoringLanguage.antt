-- Words that are put in: each state of the operand has a copy of the other automaton, entered from the state by a
-- epsilon edge and left to it by one from each of the copy's final states.
use Rattle.std.proofs.Common.{◌≡◌, ℕ, ◌+◌, ◌*◌, ◌<◌, ◌≤◌, ◌⊎◌, ◌↔◌, List, [], ◌∷◌, ◌++◌, Bool, Option, Some, None, true, false, All, length, replicate, refl, subst, sym, ap, inl, inr, arith, ◌∙◌, append_assoc}
use Rattle.std.specs.Option.{option_to_list}
use Rattle.std.specs.List.{Contains, slice_get}
use Rattle.std.proofs.Math.Nat.{mul-le-mul_right}
use Rattle.std.proofs.lemmas.Bool.{cases_lt}
use Rattle.std.proofs.lemmas.List.{append-nil, replicate-append-replicate}
use Rattle.std.proofs.lemmas.List.Elements.{All-head, All-tail}
use Rattle.std.proofs.lemmas.Option.{slice_get_within}
use Rattle.word_relations.specs.Words.{joined}
use Rattle.word_relations.specs.Operations.{HasPutIn, IsIgnoring}
use Rattle.word_relations.proofs.Members.{Contains-nil_cases}
use Rattle.word_relations.proofs.Places.{slice_get-append_cases, slice_get-append_left}
use Rattle.word_relations.proofs.Laws.{IsRepetition-none, IsRepetition-one, IsRepetition-append}
use Rattle.fsa.specs.Automaton.{Automaton, IsFinal, IsWellFormed, UsesLetter}
use Rattle.fsa.specs.Language.{AcceptsFrom, Accepts, stop, read, skip}
use Rattle.fsa.specs.declared.automaton.Edge.{Edge}
use Rattle.fsa_rational.specs.Shapes.{Extends, ComesFrom, LeavesFinal, PutInAt, PutInBelow, epsilon, shifted}
use Rattle.fsa_rational.proofs.Extended.{Extends-then, Extends-none}
use Rattle.fsa_rational.proofs.Walks.{AcceptsFrom-least, AcceptsFrom-step, AcceptsFrom-moved, unmarked_states}

-- where a copy begins
abbrev pub begin : {L : Type 0} → Automaton L → Automaton L → ℕ → ℕ
begin a put state = length a.finals + state * length put.finals

-- a place in one row is no place in another
pub one_row : (n i j p q : ℕ) → p < n → q < n → i * n + p ≡ j * n + q → i ≡ j
one_row n i j p q l k e = elim (cases_lt i j) [
  | inl less ↦ let over : i + 1 ≤ j = omega arith in let h = mul-le-mul_right n over in absurd (omega (arith, h))
  | inr low ↦ elim (cases_lt j i) [
    | inl more ↦ let over : j + 1 ≤ i = omega arith in let h = mul-le-mul_right n over in absurd (omega (arith, h))
    | inr high ↦ omega arith
  ]
]

-- one more copy
pub copies_grow : (finals : List Bool) (k n : ℕ) → (finals ++ replicate (k * n) false) ++ replicate n false ≡ finals ++ replicate ((k + 1) * n) false
copies_grow finals k n =
    let more : k * n + n ≡ (k + 1) * n = omega arith in
    append_assoc finals (replicate (k * n) false) (replicate n false) ∙ ap (λ (states : List Bool). finals ++ states) (replicate-append-replicate (k * n) n false ∙ ap (λ (count : ℕ). replicate count false) more)

module _ {L : Type 0} (put : Automaton L) where
  pub copy_added : (state by : ℕ) (old one two new : Automaton L) → Extends old one (ComesFrom (shifted by) put.edges) → Extends one two (LeavesFinal put.finals by state) → Extends two new (λ e. e ≡ epsilon state by) → Extends old new (PutInAt put state by)
  copy_added state by old one two new first second third =
      Extends-then old two new (λ e. ComesFrom (shifted by) put.edges e ⊎ LeavesFinal put.finals by state e) (λ e. e ≡ epsilon state by) (PutInAt put state by)
      (λ e r. elim r [ inl s ↦ inr s | inr rest ↦ inl rest ])
      (λ e rest. inr rest)
      (λ e s. inl s)
      (Extends-then old one two (ComesFrom (shifted by) put.edges) (LeavesFinal put.finals by state) (λ e. ComesFrom (shifted by) put.edges e ⊎ LeavesFinal put.finals by state e)
      (λ e r. r) (λ e c. inl c) (λ e f. inr f) first second)
      third

  pub copies_none : (first : ℕ) (m : Automaton L) → Extends m m (PutInBelow put first 0)
  copies_none first m = Extends-none m (PutInBelow put first 0) (λ e r. let l = r.1 in omega arith)

  pub copies_more : (first state by : ℕ) (old now new : Automaton L) → by ≡ first + state * length put.finals → Extends old now (PutInBelow put first state) → Extends now new (PutInAt put state by) → Extends old new (PutInBelow put first (state + 1))
  copies_more first state by old now new at before step =
      Extends-then old now new (PutInBelow put first state) (PutInAt put state by) (PutInBelow put first (state + 1))
      (λ e r. elim (cases_lt r.0 state) [
        | inl b ↦ inl (r.0, b, r.2)
        | inr g ↦
            let l = r.1 in
            let same : r.0 ≡ state = omega arith in
            inr (subst (λ k. PutInAt put state k e) (sym at) (subst (λ k. PutInAt put k (first + k * length put.finals) e) same r.2))
      ])
      (λ e r. let l = r.1 in (r.0, omega arith, r.2))
      (λ e p. (state, omega arith, subst (λ k. PutInAt put state k e) at p))
      before step

pub data IgnoringEdge {L : Type 0} (a put : Automaton L) : Edge L → Type 0 where
  own : (e : Edge L) → Contains a.edges e → IgnoringEdge a put (shifted 0 e)
  enter : (k : ℕ) → k < length a.finals → IgnoringEdge a put (epsilon k (begin a put k))
  inside : (k : ℕ) → k < length a.finals → (e : Edge L) → Contains put.edges e → IgnoringEdge a put (shifted (begin a put k) e)
  leave : (k : ℕ) → k < length a.finals → (q : ℕ) → IsFinal put q → IgnoringEdge a put (epsilon (q + begin a put k) k)

pub record IsInserted {L : Type 0} (a put m : Automaton L) : Type 0 where
  pub finals : m.finals ≡ a.finals ++ replicate (length a.finals * length put.finals) false
  pub only : (e : Edge L) → Contains m.edges e → IgnoringEdge a put e
  pub all : (e : Edge L) → IgnoringEdge a put e → Contains m.edges e

module _ {L : Type 0} (a put : Automaton L) (start one m : Automaton L)
    (none : start.edges ≡ []) (finals : start.finals ≡ a.finals ++ replicate (length a.finals * length put.finals) false)
    (first : Extends start one (ComesFrom (shifted 0) a.edges)) (second : Extends one m (PutInBelow put (length a.finals) (length a.finals))) where
  pub ignoring_shape : IsInserted a put m
  ignoring_shape = record {
    finals = second.finals ∙ first.finals ∙ finals;
    only = λ e h. elim (second.only e h) [
      | inr r ↦ elim r.2 [
        | inl s ↦ subst (IgnoringEdge a put) (sym s) (enter r.0 r.1)
        | inr t ↦ elim t [
          | inl c ↦ subst (IgnoringEdge a put) (sym c.2) (inside r.0 r.1 c.0 c.1)
          | inr f ↦ subst (IgnoringEdge a put) (sym f.2) (leave r.0 r.1 f.0 f.1)
        ]
      ]
      | inl h1 ↦ elim (first.only e h1) [
        | inr r ↦ subst (IgnoringEdge a put) (sym r.2) (own r.0 r.1)
        | inl h0 ↦ absurd (Contains-nil_cases e (subst (λ es. Contains es e) none h0))
      ]
    ];
    all = made;
  }
    where
      made : (e : Edge L) → IgnoringEdge a put e → Contains m.edges e
      made e (own x h) = second.kept e (first.all e (x, h, refl))
      made e (enter k l) = second.all e (k, l, inl refl)
      made e (inside k l x h) = second.all e (k, l, inr (inl (x, h, refl)))
      made e (leave k l q h) = second.all e (k, l, inr (inr (q, h, refl)))

-- words put in before a word with words put in
module _ {L : Type 0} (Q : List L → Type 0) where
  put_more : (v u w : List L) → Q u → HasPutIn Q v w → HasPutIn Q v (u ++ w)
  put_more [] u w c h = IsRepetition-append Q u w (IsRepetition-one Q u c) h
  put_more (x ∷ v) u w c (front, rest, is, words, more) =
      (u ++ front, rest, ap (λ k. u ++ k) is ∙ sym (append_assoc u front (x ∷ rest)), IsRepetition-append Q u front (IsRepetition-one Q u c) words, more)

module _ {L : Type 0} (a put : Automaton L) (a_ok : IsWellFormed a) (put_ok : IsWellFormed put) (m : Automaton L) (is : IsInserted a put m) where
  -- a word from this state with words put in
  abbrev FromState : ℕ → List L → Type 0
  FromState s w = (v : List L) × AcceptsFrom a s v × HasPutIn (Accepts put) v w

  -- what each state accepts
  record Part (s : ℕ) (w : List L) : Type 0 where
    at_own : s < length a.finals → FromState s w
    in_copy : (k p : ℕ) → p < length put.finals → s ≡ p + begin a put k → (u : List L) × (v : List L) × (w ≡ u ++ v) × AcceptsFrom put p u × FromState k v

  final : (s : ℕ) → IsFinal m s → Part s []
  final s h =
      let at : slice_get (a.finals ++ replicate (length a.finals * length put.finals) false) s ≡ Some true = subst (λ fs. slice_get fs s ≡ Some true) is.finals h in
      elim (slice_get-append_cases a.finals (replicate (length a.finals * length put.finals) false) s true at) [
        | inl front ↦ record {
          at_own = λ l. ([], stop front, IsRepetition-none (Accepts put));
          in_copy = λ k p l f. let inside = slice_get_within a.finals s true front in absurd (omega arith);
        }
        | inr r ↦ absurd (unmarked_states (length a.finals * length put.finals) r.0 r.2)
      ]

  -- a step of the operand's own
  own_step : (x : Edge L) (w : List L) → Contains a.edges x → FromState x.to w → FromState x.from (option_to_list x.letter ++ w)
  own_step x w h (v, accepted, more) = (option_to_list x.letter ++ v, AcceptsFrom-step a x v h accepted, put_letter x.letter)
    where
      put_letter : (letter : Option L) → HasPutIn (Accepts put) (option_to_list letter ++ v) (option_to_list letter ++ w)
      put_letter None = more
      put_letter (Some y) = ([], w, refl, IsRepetition-none (Accepts put), more)

  same_copy : (i j p q : ℕ) → p < length put.finals → q < length put.finals → p + begin a put i ≡ q + begin a put j → i ≡ j
  same_copy i j p q l k e = one_row (length put.finals) i j p q l k (omega arith)

  same_place : (i j p q : ℕ) → i ≡ j → p + begin a put i ≡ q + begin a put j → p ≡ q
  same_place i j p q same e = let h = ap (λ n. n * length put.finals) same in omega (arith, h)

  step : (e : Edge L) (w : List L) → Part e.to w → IgnoringEdge a put e → Part e.from (option_to_list e.letter ++ w)
  step e w rest (own x h) =
      let ends = a_ok.within x h in
      let to : x.to ≡ x.to + 0 = omega arith in
      let from : x.from ≡ x.from + 0 = omega arith in
      record {
        at_own = λ l. subst (λ k. FromState k (option_to_list x.letter ++ w)) from (own_step x w h (subst (λ k. FromState k w) (sym to) (rest.at_own (omega arith))));
        in_copy = λ k p l f. absurd (omega arith);
      }
  step e w rest (enter k l) = record {
    at_own = λ _.
        let start = put_ok.start in
        let r = rest.in_copy k 0 start (omega arith) in
        let f = r.4 in
        (f.0, f.1, subst (HasPutIn (Accepts put) f.0) (sym r.2) (put_more (Accepts put) f.0 r.0 r.1 r.3 f.2));
    in_copy = λ j p _ f. absurd (omega arith);
  }
  step e w rest (inside k l x h) =
      let ends = put_ok.within x h in
      record {
        at_own = λ low. absurd (omega arith);
        in_copy = λ j p within f.
            let copy : k ≡ j = same_copy k j x.from p ends.0 within f in
            let place : x.from ≡ p = same_place k j x.from p copy f in
            let r = rest.in_copy k x.to ends.1 refl in (
              option_to_list x.letter ++ r.0,
              r.1,
              ap (λ v. option_to_list x.letter ++ v) r.2 ∙ sym (append_assoc (option_to_list x.letter) r.0 r.1),
              subst (λ q. AcceptsFrom put q (option_to_list x.letter ++ r.0)) place (AcceptsFrom-step put x r.0 h r.3),
              subst (λ i. FromState i r.1) copy r.4,
            );
      }
  step e w rest (leave k l q h) =
      let there = slice_get_within put.finals q true h in
      record {
        at_own = λ low. absurd (omega arith);
        in_copy = λ j p within f.
            let copy : k ≡ j = same_copy k j q p there within f in
            let place : q ≡ p = same_place k j q p copy f in
            ([], w, refl, subst (λ i. AcceptsFrom put i []) place (stop h), subst (λ i. FromState i w) copy (rest.at_own l));
      }

  back : {s : ℕ} {w : List L} → AcceptsFrom m s w → Part s w
  back = AcceptsFrom-least m Part final (λ e w h rest. step e w rest (is.only e h))

  final_there : (s : ℕ) → IsFinal a s → IsFinal m s
  final_there s h =
      let l = slice_get_within a.finals s true h in
      subst (λ fs. slice_get fs s ≡ Some true) (sym is.finals) (slice_get-append_left a.finals (replicate (length a.finals * length put.finals) false) s l ∙ h)

  -- words of the other automaton, each through the state's copy
  around : (s : ℕ) → s < length a.finals → (words : List (List L)) → All (Accepts put) words → (w : List L) → AcceptsFrom m s w → AcceptsFrom m s (joined words ++ w)
  around s l [] all w rest = rest
  around s l (u ∷ words) all w rest =
      let more : AcceptsFrom m s (joined words ++ w) = around s l words (All-tail (Accepts put) u words all) w rest in
      let from : 0 + begin a put s ≡ begin a put s = omega arith in
      subst (AcceptsFrom m s) (sym (append_assoc u (joined words) w))
      (skip (is.all (epsilon s (begin a put s)) (enter s l))
      (subst (λ k. AcceptsFrom m k (u ++ (joined words ++ w))) from
      (AcceptsFrom-moved put m (begin a put s) (joined words ++ w) (λ x c. is.all (shifted (begin a put s) x) (inside s l x c))
      (λ q h. skip (is.all (epsilon (q + begin a put s) s) (leave s l q h)) more) (All-head (Accepts put) u words all))))

  own_edge : (p q : ℕ) (letter : Option L) → Contains a.edges (record { from = p; letter = letter; to = q }) → Contains m.edges (record { from = p; letter = letter; to = q })
  own_edge p q letter h =
      let from : p + 0 ≡ p = omega arith in
      let to : q + 0 ≡ q = omega arith in
      subst (λ k. Contains m.edges (record { from = k; letter = letter; to = q })) from
      (subst (λ k. Contains m.edges (record { from = p + 0; letter = letter; to = k })) to
      (is.all (shifted 0 (record { from = p; letter = letter; to = q })) (own (record { from = p; letter = letter; to = q }) h)))

  along : {s : ℕ} {v : List L} → AcceptsFrom a s v → (w : List L) → HasPutIn (Accepts put) v w → AcceptsFrom m s w
  along {s} (stop h) w (words, e, all) =
      subst (AcceptsFrom m s) (append-nil (joined words) ∙ sym e) (around s (slice_get_within a.finals s true h) words all [] (stop (final_there s h)))
  along {s} (read {q = q} {x = x} c rest) w (front, tail, e, (words, f, all), more) =
      subst (AcceptsFrom m s) (ap (λ u. u ++ (x ∷ tail)) (sym f) ∙ sym e)
      (around s (a_ok.within (record { from = s; letter = Some x; to = q }) c).0 words all (x ∷ tail) (read (own_edge s q (Some x) c) (along rest tail more)))
  along {s} (skip {q = q} c rest) w more = skip (own_edge s q None c) (along rest w more)

  pub ignoring_language : (w : List L) → Accepts m w ↔ IsIgnoring (Accepts a) (Accepts put) w
  ignoring_language w = (λ h. (back h).at_own a_ok.start, λ (v, accepted, more). along accepted w more)

  letter_from : (e : Edge L) (x : L) → e.letter ≡ Some x → IgnoringEdge a put e → UsesLetter a x ⊎ UsesLetter put x
  letter_from e x reads (own y h) = inl (y, h, reads)
  letter_from e x reads (enter k l) = cc
  letter_from e x reads (inside k l y h) = inr (y, h, reads)
  letter_from e x reads (leave k l q h) = cc

  pub ignoring_letters : (x : L) → UsesLetter m x → UsesLetter a x ⊎ UsesLetter put x
  ignoring_letters x (e, h, reads) = letter_from e x reads (is.only e h)
