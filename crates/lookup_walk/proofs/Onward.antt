-- Going on by moves each of which alone leads on.
use Rattle.std.proofs.Common.{◌≡◌, ℕ, List, [], ◌∷◌, ◌++◌, Bool, Option, None, Some, refl, subst, sym, ap, inl, inr, ◌∙◌, append_assoc}
use Rattle.std.specs.List.{Contains}
use Rattle.std.specs.Option.{option_to_list}
use Rattle.std.proofs.lemmas.List.{append-nil}
use Rattle.std.proofs.lemmas.List.Elements.{All-push, Contains-push_cases}
use Rattle.word_relations.specs.Words.{IsOver}
use Rattle.word_relations.proofs.Members.{Contains-nil_cases, Contains-head}
use Rattle.fsm_base.specs.Alphabet.{symbols_of}
use Rattle.fsm_base.specs.declared.letters.Sym.{Sym}
use Rattle.lookup_walk.specs.declared.moves.Move.{Move}
use Rattle.lookup_walk.specs.declared.walk.Trail.{Trail}
use Rattle.lookup_walk.specs.Sorted.{IsOnly}
use Rattle.flag_diacritics.specs.Numbers.{Features}
use Rattle.flag_runs.specs.Runs.{RulesView}
use Rattle.lookup_walk.specs.Walks.{Goes, GoesOn, Through, WritesOver, behind_write}
use Rattle.lookup_walk.specs.Ways.{IsSymbol}
use Rattle.lookup_walk.proofs.Coming.{symbol_behind, symbol_stays}
use Rattle.lookup_walk.proofs.Runs.{AreAt, goes_along, goes_inside}

one_of : (x m : Move) → Contains (x ∷ []) m → x ≡ m
one_of x m h = elim (Contains-push_cases [] x m h) [ inl none ↦ absurd (Contains-nil_cases m none) | inr same ↦ same ]

module _ (rules : Option RulesView) (alphabet : List (Sym × List ℕ)) (moves : List Move) (finals : List Bool) where
  pub on_none : (q : ℕ) (rest : List Sym) (t : Trail) → IsOver (symbols_of alphabet) t.written.items → GoesOn rules alphabet moves finals q rest q rest t t
  on_none q rest t over = record {
    between = [];
    written = sym (append-nil t.written.items);
    over = over;
    found = refl;
    back = λ values w g. (w, g, refl);
    on = λ values v g. g;
  }

  pub on_then : (q p o : ℕ) (rest some behind : List Sym) (a b c : Trail) → GoesOn rules alphabet moves finals q rest p some a b → GoesOn rules alphabet moves finals p some o behind b c → GoesOn rules alphabet moves finals q rest o behind a c
  on_then q p o rest some behind a b c first second = record {
    between = first.between ++ second.between;
    written = second.written ∙ ap (λ v. v ++ second.between) first.written ∙ append_assoc a.written.items first.between second.between;
    over = second.over;
    found = second.found ∙ first.found;
    back = λ values w g.
        let r = first.back values w g in
        let s = second.back values r.0 r.1 in
        (s.0, s.1, r.2 ∙ ap (λ v. first.between ++ v) s.2 ∙ sym (append_assoc first.between second.between s.0));
    on = λ values v g. subst (λ w. Goes rules moves finals values q rest w) (sym (append_assoc first.between second.between v)) (first.on values (second.between ++ v) (second.on values v g));
  }

  over_more : (o : Option Sym) (xs : List Sym) → IsOver (symbols_of alphabet) xs → ((s : Sym) → o ≡ Some s → Contains (symbols_of alphabet) s) → IsOver (symbols_of alphabet) (xs ++ option_to_list o)
  over_more None xs over has = subst (λ v. IsOver (symbols_of alphabet) v) (sym (append-nil xs)) over
  over_more (Some s) xs over has = All-push (Contains (symbols_of alphabet)) xs s over (has s refl)

  came : (m : Move) (behind w : List Sym) → ((x : Sym) → m.write ≡ Some x → IsSymbol rules x) → (values : Features) → Through rules moves finals values m behind w
      → (more : List Sym) × Goes rules moves finals values m.to behind more × (w ≡ option_to_list m.write ++ more)
  came m behind w are values (next, more, leads, goes, is) =
      let stays : behind_write rules values m.write ≡ Some values = symbol_behind rules values m.write are in
      let same : next ≡ values = cc in
      (more, subst (λ n. Goes rules moves finals n m.to behind more) same goes, is ∙ ap (λ u. u ++ more) (symbol_stays rules m.write are))

  one_step : (q : ℕ) (s : Sym) (behind : List Sym) (m : Move) (old new : Trail) → IsOnly moves q s m → WritesOver rules alphabet moves → ((x : Sym) → m.write ≡ Some x → IsSymbol rules x) → IsOver (symbols_of alphabet) old.written.items
      → new.written.items ≡ old.written.items ++ option_to_list m.write → new.found.items ≡ old.found.items → GoesOn rules alphabet moves finals q (s ∷ behind) m.to behind old new
  one_step q s behind m old new only writes are over written found =
      let at1 : AreAt moves (record { state = q; read = None }) [] = λ x. (λ h. absurd (Contains-nil_cases x h), λ (held, at). absurd (only.epsilon x held at)) in
      let at2 : AreAt moves (record { state = q; read = Some s }) (m ∷ []) =
      λ x. (λ h. (only.reading x).1 (sym (one_of m x h)), λ r. subst (λ y. Contains (m ∷ []) y) (sym ((only.reading x).0 r)) (Contains-head m [])) in
      record {
        between = option_to_list m.write;
        written = written;
        over = subst (λ v. IsOver (symbols_of alphabet) v) (sym written) (over_more m.write old.written.items over (λ x is. writes m x ((only.reading m).1 refl).0 is (are x is)));
        found = found;
        back = λ values w g. elim (goes_inside rules moves finals values q s behind w [] (m ∷ []) at1 at2 g) [
          | inl (x, has, through) ↦ absurd (Contains-nil_cases x has)
          | inr (x, has, through) ↦
              let here : Through rules moves finals values m behind w = subst (λ y. Through rules moves finals values y behind w) (sym (one_of m x has)) through in
              came m behind w are values here
        ];
        on = λ values v g. goes_along rules moves finals values q (Some s) (m ∷ []) behind (option_to_list m.write ++ v) at2
            (m, Contains-head m [], (values, v, symbol_behind rules values m.write are, g, ap (λ u. u ++ v) (sym (symbol_stays rules m.write are))));
      }

  pub on_step : (q : ℕ) (s : Sym) (rest behind : List Sym) (m : Move) (old new : Trail) → IsOnly moves q s m → WritesOver rules alphabet moves → ((x : Sym) → m.write ≡ Some x → IsSymbol rules x) → IsOver (symbols_of alphabet) old.written.items → rest ≡ s ∷ behind
      → new.written.items ≡ old.written.items ++ option_to_list m.write → new.found.items ≡ old.found.items → GoesOn rules alphabet moves finals q rest m.to behind old new
  on_step q s rest behind m old new only writes are over is written found =
      subst (λ r. GoesOn rules alphabet moves finals q r m.to behind old new) (sym is) (one_step q s behind m old new only writes are over written found)
