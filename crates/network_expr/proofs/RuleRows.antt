-- Rules one by one: what is so of those so far and of one more is so of them together.
use Rattle.std.proofs.Common.{◌<◌, ◌+◌, ℕ, List, [], ◌∷◌, ◌++◌, length, take, get_or, sym, subst}
use Rattle.std.proofs.lemmas.List.{take_more}
use Rattle.fsm_base.specs.declared.letters.Sym.{Sym}
use Rattle.regex_ast.specs.declared.expr.Context.{Context}
use Rattle.regex_ast.specs.declared.expr.Group.{Group}
use Rattle.regex_ast.specs.declared.expr.Mapping.{Mapping, Plain, Markup, Insert}
use Rattle.regex_ast.specs.Terms.{mappings_of, contexts_of, groups_of}
use Rattle.replace_rules.specs.declared.rules.LangMap.{LangMap}
use Rattle.replace_rules.specs.declared.rules.LangContext.{LangContext}
use Rattle.replace_rules.specs.declared.rules.LangGroup.{LangGroup}
use Rattle.network_expr.specs.Rules.{AreMaps, AreContexts, AreGroups}

module _ {A : Type 0} (leaf : A → List Sym → List Sym → Type 0) (alphabet : List Sym) where
  maps_joined : (maps : List (Mapping A)) (m : Mapping A) (langs : List LangMap) (l : LangMap) → AreMaps leaf alphabet (mappings_of maps) langs → AreMaps leaf alphabet (mappings_of (m ∷ [])) (l ∷ []) → AreMaps leaf alphabet (mappings_of (maps ++ m ∷ [])) (langs ++ l ∷ [])
  maps_joined [] m [] l are one = one
  maps_joined [] m (k ∷ langs) l are one = absurd are
  maps_joined (Plain c r ∷ maps) m [] l are one = absurd are
  maps_joined (Plain c r ∷ maps) m (k ∷ langs) l are one = (are.0, maps_joined maps m langs l are.1 one)
  maps_joined (Markup c b a ∷ maps) m [] l are one = absurd are
  maps_joined (Markup c b a ∷ maps) m (k ∷ langs) l are one = (are.0, maps_joined maps m langs l are.1 one)
  maps_joined (Insert r ∷ maps) m [] l are one = absurd are
  maps_joined (Insert r ∷ maps) m (k ∷ langs) l are one = (are.0, maps_joined maps m langs l are.1 one)

  pub maps_more : (maps : List (Mapping A)) (i : ℕ) (m : Mapping A) (langs : List LangMap) (l : LangMap) → i < length maps → AreMaps leaf alphabet (mappings_of (take i maps)) langs → AreMaps leaf alphabet (mappings_of (get_or maps i m ∷ [])) (l ∷ [])
      → AreMaps leaf alphabet (mappings_of (take (i + 1) maps)) (langs ++ l ∷ [])
  maps_more maps i m langs l within are one =
      subst (λ (z : List (Mapping A)). AreMaps leaf alphabet (mappings_of z) (langs ++ l ∷ [])) (sym (take_more maps i m within)) (maps_joined (take i maps) (get_or maps i m) langs l are one)

  contexts_joined : (contexts : List (Context A)) (c : Context A) (langs : List LangContext) (l : LangContext) → AreContexts leaf alphabet (contexts_of contexts) langs → AreContexts leaf alphabet (contexts_of (c ∷ [])) (l ∷ []) → AreContexts leaf alphabet (contexts_of (contexts ++ c ∷ [])) (langs ++ l ∷ [])
  contexts_joined [] c [] l are one = one
  contexts_joined [] c (k ∷ langs) l are one = absurd are
  contexts_joined (b ∷ contexts) c [] l are one = absurd are
  contexts_joined (b ∷ contexts) c (k ∷ langs) l are one = (are.0, are.1, contexts_joined contexts c langs l are.2 one)

  pub contexts_more : (contexts : List (Context A)) (i : ℕ) (c : Context A) (langs : List LangContext) (l : LangContext) → i < length contexts → AreContexts leaf alphabet (contexts_of (take i contexts)) langs → AreContexts leaf alphabet (contexts_of (get_or contexts i c ∷ [])) (l ∷ [])
      → AreContexts leaf alphabet (contexts_of (take (i + 1) contexts)) (langs ++ l ∷ [])
  contexts_more contexts i c langs l within are one =
      subst (λ (z : List (Context A)). AreContexts leaf alphabet (contexts_of z) (langs ++ l ∷ [])) (sym (take_more contexts i c within)) (contexts_joined (take i contexts) (get_or contexts i c) langs l are one)

  groups_joined : (groups : List (Group A)) (g : Group A) (langs : List LangGroup) (l : LangGroup) → AreGroups leaf alphabet (groups_of groups) langs → AreGroups leaf alphabet (groups_of (g ∷ [])) (l ∷ []) → AreGroups leaf alphabet (groups_of (groups ++ g ∷ [])) (langs ++ l ∷ [])
  groups_joined [] g [] l are one = one
  groups_joined [] g (k ∷ langs) l are one = absurd are
  groups_joined (h ∷ groups) g [] l are one = absurd are
  groups_joined (h ∷ groups) g (k ∷ langs) l are one = (are.0, are.1, are.2, groups_joined groups g langs l are.3 one)

  pub groups_more : (groups : List (Group A)) (i : ℕ) (g : Group A) (langs : List LangGroup) (l : LangGroup) → i < length groups → AreGroups leaf alphabet (groups_of (take i groups)) langs → AreGroups leaf alphabet (groups_of (get_or groups i g ∷ [])) (l ∷ [])
      → AreGroups leaf alphabet (groups_of (take (i + 1) groups)) (langs ++ l ∷ [])
  groups_more groups i g langs l within are one =
      subst (λ (z : List (Group A)). AreGroups leaf alphabet (groups_of z) (langs ++ l ∷ [])) (sym (take_more groups i g within)) (groups_joined (take i groups) (get_or groups i g) langs l are one)
