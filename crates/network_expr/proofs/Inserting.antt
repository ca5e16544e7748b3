-- Rules of one mapping: what stands first in them is all that there is.
use Rattle.std.proofs.Common.{◌≡◌, Bool, List, [], ◌∷◌, get_or, sym, ap, subst, ◌∙◌}
use Rattle.fsm_base.specs.declared.letters.Sym.{Sym}
use Rattle.fsm_base.specs.declared.letters.Pair.{Pair}
use Rattle.word_relations.specs.Relations.{AreSame}
use Rattle.word_relations.specs.Words.{IsOver}
use Rattle.std.proofs.lemmas.List.Elements.{All-contains_itself}
use Rattle.fsa.specs.Automaton.{Automaton}
use Rattle.fst_algebra.specs.Relation.{IsRelated}
use Rattle.expr_meaning.specs.Replacement.{IsRewritten}
use Rattle.replace_rules.specs.declared.rules.LangMap.{LangMap}
use Rattle.replace_rules.specs.declared.rules.LangContext.{LangContext}
use Rattle.replace_rules.specs.declared.rules.LangGroup.{LangGroup}
use Rattle.replace_insertions.specs.Insertions.{InsertsBy, AsksBy}
use Rattle.network_expr.specs.Rules.{IsOneMapping}

-- the first of one item
first_is : {X : Type 0} (xs : List X) (x y : X) → xs ≡ y ∷ [] → x ≡ get_or xs 0 x → x ≡ y
first_is {X} xs x y one first = first ∙ ap (λ (z : List X). get_or z 0 x) one

module _ (alphabet : List Sym) (groups : List LangGroup) (group : LangGroup) (mapping : LangMap) (first : group ≡ get_or groups 0 group) (of : mapping ≡ get_or group.maps.items 0 mapping) where
  first_mapping : (g : LangGroup) (m : LangMap) → groups ≡ g ∷ [] → g.maps.items ≡ m ∷ [] → mapping ≡ m
  first_mapping g m one maps = first_is g.maps.items mapping m maps (subst (λ (z : LangGroup). mapping ≡ get_or z.maps.items 0 mapping) (first_is groups group g one first) of)

  -- its result is over the alphabet
  pub first_over : IsOneMapping alphabet groups → IsOver alphabet mapping.result.letters
  first_over (g, m, one, maps, letters) =
      subst (IsOver alphabet) (sym (ap (λ (z : LangMap). z.result.letters) (first_mapping g m one maps) ∙ letters)) (All-contains_itself alphabet)

  -- what is inserted by the first is inserted by the one
  pub first_inserts : (optional : Bool) (contexts : List LangContext) (n : Automaton Pair) → contexts ≡ group.contexts.items
      → AreSame (IsRelated n) (IsRewritten alphabet (InsertsBy mapping.result group.side contexts) (AsksBy group.side contexts) optional)
      → (g : LangGroup) (m : LangMap) → groups ≡ g ∷ [] → g.maps.items ≡ m ∷ [] → AreSame (IsRelated n) (IsRewritten alphabet (InsertsBy m.result g.side g.contexts.items) (AsksBy g.side g.contexts.items) optional)
  first_inserts optional contexts n are same g m one maps =
      let own = subst (λ (z : List LangContext). AreSame (IsRelated n) (IsRewritten alphabet (InsertsBy mapping.result group.side z) (AsksBy group.side z) optional)) are same in
      let put = subst (λ (z : LangMap). AreSame (IsRelated n) (IsRewritten alphabet (InsertsBy z.result group.side group.contexts.items) (AsksBy group.side group.contexts.items) optional)) (first_mapping g m one maps) own in
      subst (λ (z : LangGroup). AreSame (IsRelated n) (IsRewritten alphabet (InsertsBy m.result z.side z.contexts.items) (AsksBy z.side z.contexts.items) optional)) (first_is groups group g one first) put
