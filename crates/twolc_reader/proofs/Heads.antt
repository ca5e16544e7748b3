-- Rules by their parts.
use Rattle.std.proofs.Common.{◌≡◌, ◌==◌, ℕ, true, false, List, [], ◌∷◌, ◌++◌, length, Vec, Global, Option, None, Some, refl, sym, ap, subst, ◌∙◌}
use Rattle.std.specs.Option.{option_map}
use Rattle.regex_ast.specs.Terms.{Contexts, no_context, between}
use Rattle.regex_ast.specs.declared.expr.Context.{Context}
use Rattle.regex_ast.specs.declared.expr.Raw.{Raw}
use Rattle.regex_ast.specs.declared.twolc.PairAtom.{PairAtom}
use Rattle.regex_ast.specs.declared.twolc.PairPart.{PairPart}
use Rattle.regex_ast.specs.declared.twolc.RuleKind.{RuleKind}
use Rattle.project_meaning.specs.Trees.{Part, Rule}
use Rattle.twolc_tokens.specs.declared.token.Operator.TheVariants.{Arrow, Semicolon, Underscore}
use Rattle.twolc_tokens.specs.declared.token.Placed.{Placed}
use Rattle.twolc_tokens.specs.declared.token.Token.{Token}
use Rattle.twolc_tokens.specs.declared.token.Token.TheVariants.{Operator as operator, Quoted as quoted, Atom as atom}
use Rattle.twolc_expressions.specs.Views.{pair_view}
use Rattle.twolc_grammar.specs.Atoms.{Names, centre_in}
use Rattle.twolc_grammar.specs.Sections.{tokens_of}
use Rattle.twolc_grammar.specs.Statements.{AreContexts, IsStatement, in_rules, rule}
use Rattle.twolc_expressions.specs.Reading.{IsFound}
use Rattle.twolc_reader.specs.RuleReading.{IsArrowSplit, IsAtomSplit, IsQuotedSplit, context_views}
use Rattle.twolc_reader.proofs.RuleFronts.{no_items}

abbrev views_in : Vec (Context (PairPart Raw)) Global → Contexts (Part Raw)
views_in v = context_views v.items

abbrev pub IsRule : Names → List Token → Rule Raw → Type 0
IsRule names tokens r = IsStatement names in_rules tokens (rule r)

abbrev arrow : RuleKind → Token
arrow kind = operator (Arrow kind)

abbrev head : List ℕ → List ℕ → RuleKind → List Token → List Token
head name centre kind rest = quoted name ∷ atom centre ∷ arrow kind ∷ rest

behind_name : (n : List ℕ) (b : List Token) (m c : List ℕ) (k : RuleKind) (rest : List Token) → quoted n ∷ b ≡ head m c k rest → b ≡ atom c ∷ arrow k ∷ rest
behind_name n b m c k rest e = cc

behind_centre : (n : List ℕ) (b : List Token) (c : List ℕ) (k : RuleKind) (rest : List Token) → atom n ∷ b ≡ atom c ∷ arrow k ∷ rest → b ≡ arrow k ∷ rest
behind_centre n b c k rest e = cc

centre_same : (n : List ℕ) (b : List Token) (c : List ℕ) (k : RuleKind) (rest : List Token) → atom n ∷ b ≡ atom c ∷ arrow k ∷ rest → n ≡ c
centre_same n b c k rest e = let first : atom n ≡ atom c = cc in cc

rest_same : (k q : RuleKind) (a b : List Token) → arrow k ∷ a ≡ arrow q ∷ b → a ≡ b
rest_same k q a b e = cc

module _ (names : Names) (tokens : List Token) where
  pub no_name : IsQuotedSplit tokens None → IsFound (IsRule names tokens) None
  no_name none = λ r h. none r.name (atom h.0 ∷ arrow r.kind ∷ h.1) h.2

  module _ (name : List ℕ) (behind : List Token) (named : IsQuotedSplit tokens (Some (name, behind))) where
    pub no_centre : IsAtomSplit behind None → IsFound (IsRule names tokens) None
    no_centre none = λ r h. none h.0 (arrow r.kind ∷ h.1) (behind_name name behind r.name h.0 r.kind h.1 (sym named ∙ h.2))

    module _ (centre : List ℕ) (last : List Token) (centred : IsAtomSplit behind (Some (centre, last))) where
      pub no_arrow : IsArrowSplit last None → IsFound (IsRule names tokens) None
      no_arrow none = λ r h. none r.kind h.1 (behind_centre centre last h.0 r.kind h.1 (sym centred ∙ behind_name name behind r.name h.0 r.kind h.1 (sym named ∙ h.2)))

      module _ (kind : RuleKind) (rest : List Token) (led : IsArrowSplit last (Some (kind, rest))) where
        centre_is : (n c : List ℕ) (k : RuleKind) (other : List Token) → tokens ≡ head n c k other → centre ≡ c
        centre_is n c k other e = centre_same centre last c k other (sym centred ∙ behind_name name behind n c k other (sym named ∙ e))

        rest_is : (n c : List ℕ) (k : RuleKind) (other : List Token) → tokens ≡ head n c k other → rest ≡ other
        rest_is n c k other e = rest_same kind k rest other (sym led ∙ behind_centre centre last c k other (sym centred ∙ behind_name name behind n c k other (sym named ∙ e)))

        pub strange_centre : (p : Option (PairAtom Raw)) → p ≡ None → option_map pair_view p ≡ centre_in names centre → IsFound (IsRule names tokens) None
        strange_centre p none found = λ r h. let clash : None ≡ Some r.centre = ap (option_map pair_view) (sym none) ∙ found ∙ ap (centre_in names) (centre_is r.name h.0 r.kind h.1 h.2) ∙ h.3 in cc

        pub strange_contexts : (o : Option (Vec (Context (PairPart Raw)) Global)) → o ≡ None → IsFound (AreContexts names rest) (option_map views_in o) → IsFound (IsRule names tokens) None
        strange_contexts o is found = let none : IsFound (AreContexts names rest) None = subst (λ (x : Option (Vec (Context (PairPart Raw)) Global)). IsFound (AreContexts names rest) (option_map views_in x)) is found in λ r h. none r.contexts (subst (λ ts. AreContexts names ts r.contexts) (sym (rest_is r.name h.0 r.kind h.1 h.2)) h.4)

        no_others : (cs : Contexts (Part Raw)) → rest ≡ [] → AreContexts names rest cs → cs ≡ no_context
        no_others no_context none h = refl
        no_others (between l r cs) none h = absurd (not_empty h.0 (h.1 ++ (operator Semicolon ∷ h.2)) (operator Underscore) (sym none ∙ h.3))
          where
            not_empty : (xs ys : List Token) (y : Token) → [] ≡ xs ++ (y ∷ ys) → ⊥
            not_empty [] ys y e = cc
            not_empty (x ∷ xs) ys y e = cc

        pub no_contexts : rest ≡ [] → IsFound (IsRule names tokens) None
        no_contexts none = λ r h.
            h.5 (no_others r.contexts none (subst (λ ts. AreContexts names ts r.contexts) (sym (rest_is r.name h.0 r.kind h.1 h.2)) h.4))

        empties : (cs : Contexts (Part Raw)) → cs ≡ no_context → AreContexts names rest cs → rest ≡ []
        empties cs e h = subst (λ ds. AreContexts names rest ds) e h

        rule_is : (r : Rule Raw) → r.name ≡ name → r.kind ≡ kind → Some r.centre ≡ centre_in names centre → (rest ≡ [] → ⊥) → AreContexts names rest r.contexts → IsRule names tokens r
        rule_is r name_is kind_is centre_is some are =
            (centre, rest, named ∙ ap (λ n. quoted n ∷ behind) (sym name_is) ∙ ap (λ ts. quoted r.name ∷ ts) (centred ∙ ap (λ ts. atom centre ∷ ts) (led ∙ ap (λ k. arrow k ∷ rest) (sym kind_is))), sym centre_is, are, λ e. some (empties r.contexts e are))

        pub made : (copy : List ℕ) (p : Option (PairAtom Raw)) (pair : PairAtom Raw) (o : Option (Vec (Context (PairPart Raw)) Global)) (contexts : Vec (Context (PairPart Raw)) Global) → copy ≡ name → p ≡ Some pair → option_map pair_view p ≡ centre_in names centre → (rest ≡ [] → ⊥)
            → o ≡ Some contexts → IsFound (AreContexts names rest) (option_map views_in o) → IsRule names tokens (record { name = copy; centre = pair_view pair; kind = kind; contexts = views_in contexts })
        made copy p pair o contexts name_is pair_is found some is are =
            rule_is (record { name = copy; centre = pair_view pair; kind = kind; contexts = views_in contexts }) name_is refl (ap (option_map pair_view) (sym pair_is) ∙ found) some
            (subst (λ (x : Option (Vec (Context (PairPart Raw)) Global)). IsFound (AreContexts names rest) (option_map views_in x)) is are)

-- whether tokens are left
pub none_left : (rest : List Placed) → true ≡ (length rest == 0) → tokens_of rest ≡ []
none_left [] none = refl
none_left (p ∷ rest) none = absurd (no_items p rest none)

pub some_left : (rest : List Placed) → false ≡ (length rest == 0) → tokens_of rest ≡ [] → ⊥
some_left [] some e = cc
some_left (p ∷ rest) some e = cc
