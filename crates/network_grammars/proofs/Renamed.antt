-- Languages over pairs in place of their numbers.
use Rattle.std.proofs.Common.{◌≡◌, ◌↔◌, List, Option, None, Some, refl, sym, ap, subst, ◌∙◌}
use Rattle.std.specs.List.{Contains, slice_get}
use Rattle.std.specs.Option.{option_map}
use Rattle.std.proofs.lemmas.Option.{same_Some}
use Rattle.fsm_base.specs.declared.letters.Bound.{Bound}
use Rattle.fsm_base.specs.declared.letters.Bound.TheVariants.{Edge, Inner}
use Rattle.fsm_base.specs.declared.letters.Pair.{Pair as Letter}
use Rattle.fsm_base.specs.declared.letters.Sym.{Sym}
use Rattle.word_relations.specs.Words.{IsDistinct}
use Rattle.word_relations.proofs.Members.{Contains-head, Contains-map, Contains-map_cases, Contains-tail}
use Rattle.word_relations.proofs.Places.{Contains-from_slice_get}
use Rattle.fsa.specs.Automaton.{Automaton}
use Rattle.fsa.specs.Complete.{Complete}
use Rattle.fsa.specs.Language.{Accepts}
use Rattle.expr_meaning.specs.Operators.{inner}
use Rattle.lang_algebra.specs.Languages.{IsLang}
use Rattle.network_algebra.specs.Networks.{all_letters}
use Rattle.network_algebra.specs.Renamed.{IsRenamed}
use Rattle.network_sets.proofs.Inside.{distinct_map, distinct_more}
use Rattle.network_grammars.specs.PairMeaning.{pair_at}

inner_apart : (x y : Letter) → Inner x ≡ Inner y → x ≡ y
inner_apart x y e = cc

edge_apart : (x : Letter) → Inner x ≡ Edge → ⊥
edge_apart x e = cc

-- distinct pairs are distinct letters
pub letters_distinct : (pairs : List Letter) → IsDistinct pairs → IsDistinct (all_letters pairs)
letters_distinct pairs distinct = distinct_more Edge (inner pairs) (λ h. let r = Contains-map_cases Inner pairs Edge h in edge_apart r.0 r.2) (distinct_map Inner inner_apart pairs distinct)

-- what has a number is one of the pairs
pub pair_known : (pairs : List Letter) (x : Bound Sym) (y : Bound Letter) → pair_at pairs x ≡ Some y → Contains (all_letters pairs) y
pair_known pairs Edge y is = subst (Contains (all_letters pairs)) (same_Some Edge y is) (Contains-head Edge (inner pairs))
pair_known pairs (Inner n) y is = by (slice_get pairs n.0) refl
  where
    by : (o : Option Letter) → slice_get pairs n.0 ≡ o → Contains (all_letters pairs) y
    by (Some x) at =
        let same : Some (Inner x) ≡ Some y = sym (ap (λ (o : Option Letter). option_map Inner o) at) ∙ is in
        subst (Contains (all_letters pairs)) (same_Some (Inner x) y same) (Contains-tail Edge (inner pairs) (Inner x) (Contains-map Inner pairs x (Contains-from_slice_get pairs n.0 x at)))
    by None at = let none : None ≡ Some y = sym (ap (λ (o : Option Letter). option_map Inner o) at) ∙ is in absurd (cc)

-- the language of the renamed words
pub renamed_language : (pairs : List Letter) (letters : List (Bound Letter)) (P : List (Bound Sym) → Type 0) (words : Automaton (Bound Sym)) (over : Automaton (Bound Letter)) (lang : Complete (Bound Letter))
    → ((w : List (Bound Sym)) → Accepts words w ↔ P w) → ((w : List (Bound Letter)) → Accepts over w ↔ IsRenamed (pair_at pairs) (Accepts words) w) → IsLang letters (Accepts over) lang → IsLang letters (IsRenamed (pair_at pairs) P) lang
renamed_language pairs letters P words over lang first second is = record {
  complete = is.complete;
  over = is.over;
  words = λ w. (
    λ a. let (v, has, named) = (second w).0 ((is.words w).0 a) in (v, (first v).0 has, named),
    λ (v, has, named). (is.words w).1 ((second w).1 (v, (first v).1 has, named)),
  );
}
