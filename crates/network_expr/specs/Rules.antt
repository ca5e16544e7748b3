-- When rules whose parts are languages are the rules of an expression: each language is that of its part.
use Rattle.std.specs.Prelude.{◌≡◌, List, [], ◌∷◌, None, Some}
use Rattle.fsm_base.specs.declared.letters.Bound.{Bound}
use Rattle.fsm_base.specs.declared.letters.Sym.{Sym}
use Rattle.fsa.specs.Complete.{Complete}
use Rattle.lang_algebra.specs.Languages.{IsLang}
use Rattle.regex_ast.specs.Terms.{Term, Contexts, Mappings, Groups, no_context, between, no_mapping, plain, markup, insert, no_group, then_group}
use Rattle.expr_meaning.specs.Meaning.{In}
use Rattle.expr_meaning.specs.Operators.{inner}
use Rattle.network_algebra.specs.Networks.{all_letters}
use Rattle.replace_rules.specs.declared.rules.LangMap.{LangMap}
use Rattle.replace_rules.specs.declared.rules.LangContext.{LangContext}
use Rattle.replace_rules.specs.declared.rules.LangGroup.{LangGroup}

module _ {A : Type 0} (leaf : A → List Sym → List Sym → Type 0) (alphabet : List Sym) where
  -- the language of an expression, of a mapping without the edge, and of a context with it
  abbrev pub IsPart : Term A → Complete Sym → Type 0
  IsPart e lang = IsLang alphabet (λ u. In leaf alphabet e (inner u)) lang

  abbrev pub IsSide : Term A → Complete (Bound Sym) → Type 0
  IsSide e lang = IsLang (all_letters alphabet) (In leaf alphabet e) lang

  -- no centre has the empty word
  abbrev pub IsFilled : Term A → Type 0
  IsFilled e = ¬ In leaf alphabet e []

  abbrev pub IsPlain : Term A → Term A → LangMap → Type 0
  IsPlain c r m = IsFilled c × IsPart c m.centre × IsPart r m.result × (m.after ≡ None)

  abbrev pub IsMarkup : Term A → Term A → Term A → LangMap → Type 0
  IsMarkup c b a m = IsFilled c × IsPart c m.centre × IsPart b m.result × (after : Complete Sym) × (m.after ≡ Some after) × IsPart a after

  -- a mapping of the empty word to each word of a part
  abbrev pub IsInsert : Term A → LangMap → Type 0
  IsInsert r m = IsLang alphabet (λ c. c ≡ []) m.centre × IsPart r m.result × (m.after ≡ None)

  abbrev pub AreMaps : Mappings A → List LangMap → Type 0
  AreMaps no_mapping [] = Unit {0}
  AreMaps (plain c r maps) (m ∷ langs) = IsPlain c r m × AreMaps maps langs
  AreMaps (markup c b a maps) (m ∷ langs) = IsMarkup c b a m × AreMaps maps langs
  AreMaps (insert r maps) (m ∷ langs) = IsInsert r m × AreMaps maps langs
  AreMaps _ _ = ⊥

  abbrev pub AreContexts : Contexts A → List LangContext → Type 0
  AreContexts no_context [] = Unit {0}
  AreContexts (between l r contexts) (c ∷ langs) = IsSide l c.left × IsSide r c.right × AreContexts contexts langs
  AreContexts _ _ = ⊥

  abbrev pub AreGroups : Groups A → List LangGroup → Type 0
  AreGroups no_group [] = Unit {0}
  AreGroups (then_group maps side contexts groups) (g ∷ langs) =
      AreMaps maps g.maps.items × (g.side ≡ side) × AreContexts contexts g.contexts.items × AreGroups groups langs
  AreGroups _ _ = ⊥

-- one group with one mapping, whose result is over the alphabet
abbrev pub IsOneMapping : List Sym → List LangGroup → Type 0
IsOneMapping alphabet groups = (g : LangGroup) × (m : LangMap) × (groups ≡ g ∷ []) × (g.maps.items ≡ m ∷ []) × (m.result.letters ≡ alphabet)
