-- Centres seen from the last one on: those that were seen are filled, so what is inside the next one is.
use Rattle.std.proofs.Common.{◌≡◌, List, [], ◌∷◌, ◌++◌, All, length, append_assoc, append-nil, arith, sym, ap, subst, ◌∙◌}
use Rattle.std.proofs.lemmas.List.{map-append}
use Rattle.std.specs.Borrow.{Bor}
use Rattle.std.specs.List.{Contains}
use Rattle.std.proofs.lemmas.List.Elements.{All-nil, All-contains, All-contains_itself, All-weaker, Contains-append_right}
use Rattle.word_relations.proofs.Members.{Contains-head}
use Rattle.fsm_base.specs.declared.letters.Sym.{Sym}
use Rattle.regex_ast.specs.declared.expr.Atom.{Atom}
use Rattle.regex_ast.specs.declared.expr.Expr.{Expr}
use Rattle.regex_ast.specs.Terms.{Term, term}
use Rattle.expr_kinds.specs.Atoms.{is_symbol_of}
use Rattle.expr_kinds.specs.Built.{IsBuiltWith, AnyCentre}
use Rattle.expr_kinds.specs.Kinds.{Fits, IsLanguage}
use Rattle.expr_meaning.specs.Meaning.{In}
use Rattle.project_meaning.specs.Centres.{centres_in}
use Rattle.network_expr.specs.Rules.{IsFilled}
use Rattle.network_expr.specs.Built.{IsBuiltOver}
use Rattle.network_expr.specs.Parts.{is_leaf_of, kinds, stands}
use Rattle.network_expr.specs.declared.parts.Part.{Part}
use Rattle.network_centres.specs.Centres.{HasEmptyCentre, terms_seen}
use Rattle.network_centres.proofs.Nested.{AreNested, nested_behind, nested_in}
use Rattle.network_centres.proofs.Ready.{IsReady, ready_in}
use Rattle.network_centres.proofs.Filled.{filled_built}

module _ (parts : List Part) (alphabet : List Sym) (e : Term Atom) where
  -- of the centres in the expression these are still to be seen, and those behind them are filled
  pub record AreSeen (unseen : List (Term Atom)) : Type 0 where
    pub seen : List (Term Atom)
    pub whole : unseen ++ seen ≡ centres_in e
    pub filled : All (IsFilled (stands parts) alphabet) seen

  pub none_seen : (unseen : List (Term Atom)) → unseen ≡ centres_in e → AreSeen unseen
  none_seen unseen is = record { seen = []; whole = append-nil unseen ∙ is; filled = All-nil (IsFilled (stands parts) alphabet) }

  -- the last one that is still to be seen
  pub seen_last : (all front : List (Bor (Expr Atom))) (last : Bor (Expr Atom)) → all ≡ front ++ last ∷ [] → AreSeen (terms_seen all) → AreSeen (terms_seen front ++ term last.now ∷ [])
  seen_last all front last is so_far = subst AreSeen (ap terms_seen is ∙ map-append (λ (expr : Bor (Expr Atom)). term expr.now) front (last ∷ [])) so_far

  pub none_left : (all : List (Bor (Expr Atom))) → length all ≡ 0 → AreSeen (terms_seen all) → AreSeen []
  none_left [] none so_far = so_far
  none_left (x ∷ all) none so_far = absurd (omega (arith, none))

  is_centre : (unseen : List (Term Atom)) (c : Term Atom) → AreSeen (unseen ++ c ∷ []) → Contains (centres_in e) c
  is_centre unseen c so_far =
      subst (λ (all : List (Term Atom)). Contains all c) (sym (append_assoc unseen (c ∷ []) so_far.seen) ∙ so_far.whole)
      (Contains-append_right unseen (c ∷ so_far.seen) c (Contains-head c so_far.seen))

  pub has_empty : (unseen : List (Term Atom)) (c : Term Atom) → AreSeen (unseen ++ c ∷ []) → In (stands parts) alphabet c [] → HasEmptyCentre parts alphabet e
  has_empty unseen c so_far empty = (c, is_centre unseen c so_far, empty)

  -- the language of the last unseen one can be built
  pub next_ready : (unseen : List (Term Atom)) (c : Term Atom) → AreSeen (unseen ++ c ∷ []) → IsBuiltWith (is_leaf_of parts alphabet) (is_symbol_of alphabet) AnyCentre e → Fits (kinds parts) e
      → IsBuiltOver parts alphabet c × Fits (kinds parts) c × IsLanguage (kinds parts) c
  next_ready unseen c so_far built fits =
      let Filled = IsFilled (stands parts) alphabet in
      let Ready = IsReady (is_leaf_of parts alphabet) (is_symbol_of alphabet) (kinds parts) in
      let ready = All-contains Ready (centres_in e) c (ready_in (is_leaf_of parts alphabet) (is_symbol_of alphabet) (kinds parts) e built fits) (is_centre unseen c so_far) in
      let nested = nested_behind unseen (c ∷ so_far.seen) (subst (λ (all : List (Term Atom)). AreNested all) (sym so_far.whole ∙ append_assoc unseen (c ∷ []) so_far.seen) (nested_in e)) in
      let inside = All-weaker (Contains so_far.seen) Filled (λ d within. All-contains Filled so_far.seen d so_far.filled within) (centres_in c) nested.0 in
      (filled_built (is_leaf_of parts alphabet) (is_symbol_of alphabet) Filled c ready.built inside, ready.fits, ready.language)

  -- where no centre has the empty word, the network can be built
  pub filled_over : IsBuiltWith (is_leaf_of parts alphabet) (is_symbol_of alphabet) AnyCentre e → (HasEmptyCentre parts alphabet e → ⊥) → IsBuiltOver parts alphabet e
  filled_over built none =
      let Filled = IsFilled (stands parts) alphabet in
      filled_built (is_leaf_of parts alphabet) (is_symbol_of alphabet) Filled e built
      (All-weaker (Contains (centres_in e)) Filled (λ c within empty. none (c, within, empty)) (centres_in e) (All-contains_itself (centres_in e)))

  all_filled : AreSeen [] → All (IsFilled (stands parts) alphabet) (centres_in e)
  all_filled all = subst (λ (cs : List (Term Atom)). All (IsFilled (stands parts) alphabet) cs) all.whole all.filled

  pub none_empty : AreSeen [] → HasEmptyCentre parts alphabet e → ⊥
  none_empty all has = All-contains (IsFilled (stands parts) alphabet) (centres_in e) has.0 (all_filled all) has.1 has.2

  pub whole_built : AreSeen [] → IsBuiltWith (is_leaf_of parts alphabet) (is_symbol_of alphabet) AnyCentre e → IsBuiltOver parts alphabet e
  whole_built all built = filled_over built (none_empty all)
