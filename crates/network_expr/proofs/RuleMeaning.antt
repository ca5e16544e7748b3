-- What rules of languages relate, the expression relates whose rules they are.
use Rattle.std.proofs.Common.{◌≡◌, ◌↔◌, ◌⊎◌, Bool, true, false, not, IsTrue, List, [], ◌∷◌, Option, None, Some, refl, sym, subst, ◌∙◌, inl, inr}
use Rattle.std.specs.List.{Contains}
use Rattle.std.proofs.lemmas.Bool.{and_parts}
use Rattle.std.proofs.lemmas.List.Elements.{All-contains_itself}
use Rattle.fsm_base.specs.declared.letters.Bound.{Bound}
use Rattle.fsm_base.specs.declared.letters.Bound.TheVariants.{Inner}
use Rattle.fsm_base.specs.declared.letters.Sym.{Sym}
use Rattle.word_relations.specs.Relations.{AreSame}
use Rattle.word_relations.specs.Words.{IsOver}
use Rattle.word_relations.proofs.Members.{Contains-nil_cases, Contains-cons_cases, Contains-head, Contains-tail, Contains-map_cases}
use Rattle.fsa.specs.Automaton.{Automaton, UsesLetter}
use Rattle.fsa.specs.Complete.{Complete, Accepts}
use Rattle.regex_ast.specs.declared.expr.Side.{Side}
use Rattle.regex_ast.specs.declared.expr.Side.TheVariants.{UpUp}
use Rattle.regex_ast.specs.declared.expr.Way.{Way}
use Rattle.regex_ast.specs.Terms.{Term, Contexts, Mappings, Groups, rules, directed, no_context, between, no_mapping, plain, markup, insert, no_group, then_group}
use Rattle.expr_kinds.specs.Built.{holds_insertion, has_no_insertion, is_insertion}
use Rattle.expr_meaning.specs.Directed.{IsDirectedBy}
use Rattle.expr_meaning.specs.Meaning.{In, InContext, IsCentre, IsMapped, Replaces, Applies, Directs, Relates, IsMatch as IsMatch_in}
use Rattle.expr_meaning.specs.Operators.{inner, HoldsLeft, HoldsRight}
use Rattle.expr_meaning.specs.Replacement.{Piece, copied, replaced, uppers, read_before, read_behind, IsAround, IsAllowed, IsPiece, IsRewritten}
use Rattle.expr_meaning.proofs.Directed.{same_directed}
use Rattle.network_algebra.specs.Networks.{UsesOnly, all_letters}
use Rattle.replace_rules.specs.declared.rules.LangMap.{LangMap}
use Rattle.replace_rules.specs.declared.rules.LangContext.{LangContext}
use Rattle.replace_rules.specs.declared.rules.LangGroup.{LangGroup}
use Rattle.lang_algebra.specs.Languages.{IsLang}
use Rattle.replace_insertions.specs.Insertions.{AllowsAt, InsertsBy, AsksBy}
use Rattle.replace_directed.specs.Directed.{HoldsIn, IsMatch, ReplacesIn}
use Rattle.replace_rules.specs.Rules.{IsPut, HasCentre, HasMapping, HasContext, Allows, ReplacesBy, AppliesBy, IsMapOver, AreMapsOver}
use Rattle.network_expr.specs.Rules.{IsPart, IsPlain, IsMarkup, AreMaps, AreContexts, AreGroups}

then_same : (P Q R : Type 0) → P ↔ Q → Q ↔ R → P ↔ R
then_same P Q R f g = (λ p. g.0 (f.0 p), λ r. f.1 (g.1 r))

either : (P Q R S : Type 0) → P ↔ Q → R ↔ S → (P ⊎ R) ↔ (Q ⊎ S)
either P Q R S f g = (
  λ h. elim h as (λ _. Q ⊎ S) [ inl p ↦ inl (f.0 p) | inr r ↦ inr (g.0 r) ],
  λ h. elim h as (λ _. P ⊎ R) [ inl q ↦ inl (f.1 q) | inr s ↦ inr (g.1 s) ],
)

both : (P Q R S : Type 0) → P ↔ Q → R ↔ S → (P × R) ↔ (Q × S)
both P Q R S f g = (λ h. (f.0 h.0, g.0 h.1), λ h. (f.1 h.0, g.1 h.1))

-- an item of a list with a property is the first or a later one
module _ {X : Type 0} (P : X → Type 0) where
  abbrev HasItem : List X → Type 0
  HasItem xs = (x : X) × Contains xs x × P x

  no_item : HasItem [] → ⊥
  no_item (x, among, p) = Contains-nil_cases x among

  first_or_later : (x : X) (xs : List X) → HasItem (x ∷ xs) ↔ (P x ⊎ HasItem xs)
  first_or_later x xs = (
    λ h. elim (Contains-cons_cases x xs h.0 h.1) as (λ _. P x ⊎ HasItem xs) [ inl same ↦ inl (subst P (sym same) h.2) | inr more ↦ inr (h.0, more, h.2) ],
    λ h. elim h as (λ _. HasItem (x ∷ xs)) [ inl p ↦ (x, Contains-head x xs, p) | inr later ↦ (later.0, Contains-tail x xs later.0 later.1, later.2) ],
  )

  -- where the property of the first says P, and that a later one has it Q
  items_same : (Q R : Type 0) (x : X) (xs : List X) → P x ↔ Q → HasItem xs ↔ R → HasItem (x ∷ xs) ↔ (Q ⊎ R)
  items_same Q R x xs first later = then_same (HasItem (x ∷ xs)) (P x ⊎ HasItem xs) (Q ⊎ R) (first_or_later x xs) (either (P x) Q (HasItem xs) R first later)

-- rules that do and ask the same relate the same
module _ {L : Type 0} (alphabet : List L) (R S : List (Piece L) → List L → List L → List (Piece L) → Type 0) (A B : List (Piece L) → List L → List (Piece L) → Type 0)
    (does : (before : List (Piece L)) (c r : List L) (behind : List (Piece L)) → R before c r behind → S before c r behind)
    (asks : (before : List (Piece L)) (c : List L) (behind : List (Piece L)) → B before c behind → A before c behind) where
  piece_same : (before : List (Piece L)) (p : Piece L) (behind : List (Piece L)) → IsPiece alphabet R A before p behind → IsPiece alphabet S B before p behind
  piece_same before (copied s) behind h = h
  piece_same before (replaced c r) behind h = does before c r behind h

  rewritten_same : (optional : Bool) (u w : List L) → IsRewritten alphabet R A optional u w → IsRewritten alphabet S B optional u w
  rewritten_same optional u w (ps, derives, obligatory, up, low) =
      (ps, (λ before p behind is. piece_same before p behind (derives.0 before p behind is), derives.1), λ is before c behind whole h. obligatory is before c behind whole (asks before c behind h), up, low)

module _ {A : Type 0} (leaf : A → List Sym → List Sym → Type 0) (alphabet : List Sym) where
  centre_same : (maps : Mappings A) (langs : List LangMap) → AreMaps leaf alphabet maps langs → (c : List Sym) → HasCentre langs c ↔ IsCentre leaf alphabet maps c
  centre_same no_mapping [] are c = (λ h. no_item (λ (m : LangMap). Accepts m.centre c) h, λ h. absurd h)
  centre_same (plain e f maps) (m ∷ langs) are c =
      items_same (λ (m : LangMap). Accepts m.centre c) (In leaf alphabet e (inner c)) (IsCentre leaf alphabet maps c) m langs (are.0.1.words c) (centre_same maps langs are.1 c)
  centre_same (markup e b a maps) (m ∷ langs) are c =
      items_same (λ (m : LangMap). Accepts m.centre c) (In leaf alphabet e (inner c)) (IsCentre leaf alphabet maps c) m langs (are.0.1.words c) (centre_same maps langs are.1 c)
  centre_same (insert f maps) (m ∷ langs) are c =
      items_same (λ (m : LangMap). Accepts m.centre c) (c ≡ []) (IsCentre leaf alphabet maps c) m langs (are.0.0.words c) (centre_same maps langs are.1 c)
  centre_same _ _ are c = absurd are

  put_plain : (m : LangMap) (f : Term A) → IsPart leaf alphabet f m.result → m.after ≡ None → (c r : List Sym) → IsPut m.result m.after c r ↔ In leaf alphabet f (inner r)
  put_plain m f part none c r = subst (λ (o : Option (Complete Sym)). IsPut m.result o c r ↔ In leaf alphabet f (inner r)) (sym none) (part.words r)

  put_markup : (m : LangMap) (b a : Term A) (after : Complete Sym) → IsPart leaf alphabet b m.result → m.after ≡ Some after → IsPart leaf alphabet a after → (c r : List Sym)
      → IsPut m.result m.after c r ↔ IsAround (In leaf alphabet b) (In leaf alphabet a) c r
  put_markup m b a after first some second c r =
      subst (λ (o : Option (Complete Sym)). IsPut m.result o c r ↔ IsAround (In leaf alphabet b) (In leaf alphabet a) c r) (sym some) (
        λ (front, back, is, p, q). (front, back, is, (first.words front).0 p, (second.words back).0 q),
        λ (front, back, is, p, q). (front, back, is, (first.words front).1 p, (second.words back).1 q),
      )

  abbrev Does : List Sym → List Sym → LangMap → Type 0
  Does c r m = Accepts m.centre c × IsPut m.result m.after c r

  as_items : (langs : List LangMap) (c r : List Sym) → HasMapping langs c r ↔ HasItem (Does c r) langs
  as_items langs c r = (λ (m, among, p, q). (m, among, (p, q)), λ (m, among, h). (m, among, h.0, h.1))

  items_mapped : (maps : Mappings A) (langs : List LangMap) → AreMaps leaf alphabet maps langs → (c r : List Sym) → HasItem (Does c r) langs ↔ IsMapped leaf alphabet maps c r
  items_mapped no_mapping [] are c r = (λ h. no_item (Does c r) h, λ h. absurd h)
  items_mapped (plain e f maps) (m ∷ langs) are c r =
      items_same (Does c r) (In leaf alphabet e (inner c) × In leaf alphabet f (inner r)) (IsMapped leaf alphabet maps c r) m langs
      (both (Accepts m.centre c) (In leaf alphabet e (inner c)) (IsPut m.result m.after c r) (In leaf alphabet f (inner r)) (are.0.1.words c) (put_plain m f are.0.2 are.0.3 c r))
      (items_mapped maps langs are.1 c r)
  items_mapped (markup e b a maps) (m ∷ langs) are c r =
      items_same (Does c r) (In leaf alphabet e (inner c) × IsAround (In leaf alphabet b) (In leaf alphabet a) c r) (IsMapped leaf alphabet maps c r) m langs
      (both (Accepts m.centre c) (In leaf alphabet e (inner c)) (IsPut m.result m.after c r) (IsAround (In leaf alphabet b) (In leaf alphabet a) c r) (are.0.1.words c) (put_markup m b a are.0.3 are.0.2 are.0.4 are.0.5 c r))
      (items_mapped maps langs are.1 c r)
  items_mapped (insert f maps) (m ∷ langs) are c r =
      items_same (Does c r) ((c ≡ []) × In leaf alphabet f (inner r)) (IsMapped leaf alphabet maps c r) m langs
      (both (Accepts m.centre c) (c ≡ []) (IsPut m.result m.after c r) (In leaf alphabet f (inner r)) (are.0.0.words c) (put_plain m f are.0.1 are.0.2 c r))
      (items_mapped maps langs are.1 c r)
  items_mapped _ _ are c r = absurd are

  mapping_same : (maps : Mappings A) (langs : List LangMap) → AreMaps leaf alphabet maps langs → (c r : List Sym) → HasMapping langs c r ↔ IsMapped leaf alphabet maps c r
  mapping_same maps langs are c r = then_same (HasMapping langs c r) (HasItem (Does c r) langs) (IsMapped leaf alphabet maps c r) (as_items langs c r) (items_mapped maps langs are c r)

  abbrev Holds : List (Bound Sym) → List (Bound Sym) → LangContext → Type 0
  Holds y z c = HoldsLeft (Accepts c.left) y × HoldsRight (Accepts c.right) z

  items_hold : (contexts : Contexts A) (langs : List LangContext) → AreContexts leaf alphabet contexts langs → (y z : List (Bound Sym)) → HasItem (Holds y z) langs ↔ InContext leaf alphabet contexts y z
  items_hold no_context [] are y z = (λ h. no_item (Holds y z) h, λ h. absurd h)
  items_hold (between l r contexts) (c ∷ langs) are y z =
      items_same (Holds y z) (HoldsLeft (In leaf alphabet l) y × HoldsRight (In leaf alphabet r) z) (InContext leaf alphabet contexts y z) c langs (
        λ ((front, back, is, p), (front', back', is', p')). ((front, back, is, (are.0.words back).0 p), (front', back', is', (are.1.words front').0 p')),
        λ ((front, back, is, p), (front', back', is', p')). ((front, back, is, (are.0.words back).1 p), (front', back', is', (are.1.words front').1 p')),
      )
      (items_hold contexts langs are.2 y z)
  items_hold _ _ are y z = absurd are

  context_same : (contexts : Contexts A) (langs : List LangContext) → AreContexts leaf alphabet contexts langs → (y z : List (Bound Sym)) → HasContext langs y z ↔ InContext leaf alphabet contexts y z
  context_same contexts langs are y z =
      then_same (HasContext langs y z) (HasItem (Holds y z) langs) (InContext leaf alphabet contexts y z)
      (λ (c, among, p, q). (c, among, (p, q)), λ (c, among, h). (c, among, h.0, h.1)) (items_hold contexts langs are y z)

  none_same : (contexts : Contexts A) (langs : List LangContext) → AreContexts leaf alphabet contexts langs → (langs ≡ []) ↔ (contexts ≡ no_context)
  none_same no_context [] are = (λ _. refl, λ _. refl)
  none_same (between l r contexts) (c ∷ langs) are =
      (λ is. let e : c ∷ langs ≡ [] = is in absurd (cc), λ is. let e : between l r contexts ≡ no_context = is in absurd (cc))
  none_same _ _ are = absurd are

  allows_same : (contexts : Contexts A) (side : Side) (g : LangGroup) → AreContexts leaf alphabet contexts g.contexts.items → g.side ≡ side → (before behind : List (Piece Sym))
      → Allows g before behind ↔ IsAllowed contexts (InContext leaf alphabet contexts) side before behind
  allows_same contexts side g are is before behind =
      subst (λ (s : Side). Allows g before behind ↔ IsAllowed contexts (InContext leaf alphabet contexts) s before behind) is
      (either (g.contexts.items ≡ []) (contexts ≡ no_context) (HasContext g.contexts.items (inner (read_before g.side before)) (inner (read_behind g.side behind))) (InContext leaf alphabet contexts (inner (read_before g.side before)) (inner (read_behind g.side behind)))
      (none_same contexts g.contexts.items are) (context_same contexts g.contexts.items are (inner (read_before g.side before)) (inner (read_behind g.side behind))))

  abbrev DoesBetween : List (Piece Sym) → List Sym → List Sym → List (Piece Sym) → LangGroup → Type 0
  DoesBetween before c r behind g = HasMapping g.maps.items c r × Allows g before behind

  items_replace : (groups : Groups A) (langs : List LangGroup) → AreGroups leaf alphabet groups langs → (before : List (Piece Sym)) (c r : List Sym) (behind : List (Piece Sym)) → HasItem (DoesBetween before c r behind) langs ↔ Replaces leaf alphabet groups before c r behind
  items_replace no_group [] are before c r behind = (λ h. no_item (DoesBetween before c r behind) h, λ h. absurd h)
  items_replace (then_group maps side contexts groups) (g ∷ langs) are before c r behind =
      items_same (DoesBetween before c r behind) (IsMapped leaf alphabet maps c r × IsAllowed contexts (InContext leaf alphabet contexts) side before behind) (Replaces leaf alphabet groups before c r behind) g langs
      (both (HasMapping g.maps.items c r) (IsMapped leaf alphabet maps c r) (Allows g before behind) (IsAllowed contexts (InContext leaf alphabet contexts) side before behind)
      (mapping_same maps g.maps.items are.0 c r) (allows_same contexts side g are.2 are.1 before behind))
      (items_replace groups langs are.3 before c r behind)
  items_replace _ _ are before c r behind = absurd are

  replaces_same : (groups : Groups A) (langs : List LangGroup) → AreGroups leaf alphabet groups langs → (before : List (Piece Sym)) (c r : List Sym) (behind : List (Piece Sym)) → ReplacesBy langs before c r behind ↔ Replaces leaf alphabet groups before c r behind
  replaces_same groups langs are before c r behind =
      then_same (ReplacesBy langs before c r behind) (HasItem (DoesBetween before c r behind) langs) (Replaces leaf alphabet groups before c r behind)
      (λ (g, among, p, q). (g, among, (p, q)), λ (g, among, h). (g, among, h.0, h.1)) (items_replace groups langs are before c r behind)

  abbrev AsksBetween : List (Piece Sym) → List Sym → List (Piece Sym) → LangGroup → Type 0
  AsksBetween before c behind g = HasCentre g.maps.items c × Allows g before behind

  items_apply : (groups : Groups A) (langs : List LangGroup) → AreGroups leaf alphabet groups langs → (before : List (Piece Sym)) (c : List Sym) (behind : List (Piece Sym)) → HasItem (AsksBetween before c behind) langs ↔ Applies leaf alphabet groups before c behind
  items_apply no_group [] are before c behind = (λ h. no_item (AsksBetween before c behind) h, λ h. absurd h)
  items_apply (then_group maps side contexts groups) (g ∷ langs) are before c behind =
      items_same (AsksBetween before c behind) (IsCentre leaf alphabet maps c × IsAllowed contexts (InContext leaf alphabet contexts) side before behind) (Applies leaf alphabet groups before c behind) g langs
      (both (HasCentre g.maps.items c) (IsCentre leaf alphabet maps c) (Allows g before behind) (IsAllowed contexts (InContext leaf alphabet contexts) side before behind)
      (centre_same maps g.maps.items are.0 c) (allows_same contexts side g are.2 are.1 before behind))
      (items_apply groups langs are.3 before c behind)
  items_apply _ _ are before c behind = absurd are

  applies_same : (groups : Groups A) (langs : List LangGroup) → AreGroups leaf alphabet groups langs → (before : List (Piece Sym)) (c : List Sym) (behind : List (Piece Sym)) → AppliesBy langs before c behind ↔ Applies leaf alphabet groups before c behind
  applies_same groups langs are before c behind =
      then_same (AppliesBy langs before c behind) (HasItem (AsksBetween before c behind) langs) (Applies leaf alphabet groups before c behind)
      (λ (g, among, p, q). (g, among, (p, q)), λ (g, among, h). (g, among, h.0, h.1)) (items_apply groups langs are before c behind)

  -- what rules of languages rewrite, the rules of the expression relate
  pub rules_mean : (optional : Bool) (groups : Groups A) (langs : List LangGroup) → AreGroups leaf alphabet groups langs → AreSame (IsRewritten alphabet (ReplacesBy langs) (AppliesBy langs) optional) (Relates leaf alphabet (rules optional groups))
  rules_mean optional groups langs are u w = (
    rewritten_same alphabet (ReplacesBy langs) (Replaces leaf alphabet groups) (AppliesBy langs) (Applies leaf alphabet groups)
        (λ before c r behind. (replaces_same groups langs are before c r behind).0) (λ before c behind. (applies_same groups langs are before c behind).1) optional u w,
    rewritten_same alphabet (Replaces leaf alphabet groups) (ReplacesBy langs) (Applies leaf alphabet groups) (AppliesBy langs)
        (λ before c r behind. (replaces_same groups langs are before c r behind).1) (λ before c behind. (applies_same groups langs are before c behind).0) optional u w,
  )

  -- what a directed rule of languages rewrites, the directed rule of the expression relates
  holds_same : (contexts : Contexts A) (langs : List LangContext) → AreContexts leaf alphabet contexts langs → (x z : List Sym) → HoldsIn langs x z ↔ ((contexts ≡ no_context) ⊎ InContext leaf alphabet contexts (inner x) (inner z))
  holds_same contexts langs are x z =
      either (langs ≡ []) (contexts ≡ no_context) (HasContext langs (inner x) (inner z)) (InContext leaf alphabet contexts (inner x) (inner z)) (none_same contexts langs are) (context_same contexts langs are (inner x) (inner z))

  pub directed_means : (way : Way) (maps : Mappings A) (contexts : Contexts A) (langs : List LangMap) (around : List LangContext) → AreMaps leaf alphabet maps langs → AreContexts leaf alphabet contexts around
      → AreSame (IsDirectedBy (IsMatch langs around) alphabet (ReplacesIn langs around) way) (Relates leaf alphabet (directed way maps contexts))
  directed_means way maps contexts langs around are beside =
      same_directed alphabet (IsMatch langs around) (IsMatch_in leaf alphabet maps contexts) (ReplacesIn langs around) (Directs leaf alphabet maps contexts)
      (λ before c r behind.
      both (HasMapping langs c r) (IsMapped leaf alphabet maps c r) (HoldsIn around (uppers before) (uppers behind)) (IsAllowed contexts (InContext leaf alphabet contexts) UpUp before behind)
      (mapping_same maps langs are c r) (holds_same contexts around beside (uppers before) (uppers behind)))
      (λ x c z. both (HasCentre langs c) (IsCentre leaf alphabet maps c) (HoldsIn around x z) ((contexts ≡ no_context) ⊎ InContext leaf alphabet contexts (inner x) (inner z)) (centre_same maps langs are c) (holds_same contexts around beside x z))
      way

  -- rules that are one insertion insert what their languages say
  again : (maps : List LangMap) (f : Term A) (m : LangMap) → AreMaps leaf alphabet (insert f no_mapping) maps → maps ≡ m ∷ [] → IsPart leaf alphabet f m.result × IsLang alphabet (λ c. c ≡ []) m.centre
  again maps f m are is = let here = subst (λ (z : List LangMap). AreMaps leaf alphabet (insert f no_mapping) z) is are in (here.0.1, here.0.0)

  pub insertion_means : (optional : Bool) (groups : Groups A) (g : LangGroup) (m : LangMap) → IsTrue (is_insertion groups) → AreGroups leaf alphabet groups (g ∷ []) → g.maps.items ≡ m ∷ []
      → AreSame (IsRewritten alphabet (InsertsBy m.result g.side g.contexts.items) (AsksBy g.side g.contexts.items) optional) (Relates leaf alphabet (rules optional groups))
  insertion_means optional (then_group (insert f no_mapping) side contexts no_group) g m alone are one u w = (
    rewritten_same alphabet (InsertsBy m.result g.side g.contexts.items) (Replaces leaf alphabet groups) (AsksBy g.side g.contexts.items) (Applies leaf alphabet groups) does_there asks_back optional u w,
    rewritten_same alphabet (Replaces leaf alphabet groups) (InsertsBy m.result g.side g.contexts.items) (Applies leaf alphabet groups) (AsksBy g.side g.contexts.items) does_back asks_there optional u w,
  )
    where
      groups : Groups A
      groups = then_group (insert f no_mapping) side contexts no_group

      part : IsPart leaf alphabet f m.result
      part = (again g.maps.items f m are.0 one).0

      holds : (before behind : List (Piece Sym)) → AllowsAt g.side g.contexts.items before behind ↔ IsAllowed contexts (InContext leaf alphabet contexts) side before behind
      holds before behind = allows_same contexts side g are.2 are.1 before behind

      does_there : (before : List (Piece Sym)) (c r : List Sym) (behind : List (Piece Sym)) → InsertsBy m.result g.side g.contexts.items before c r behind → Replaces leaf alphabet groups before c r behind
      does_there before c r behind (none, words, allows) = inl (inl (none, (part.words r).0 words), (holds before behind).0 allows)

      does_back : (before : List (Piece Sym)) (c r : List Sym) (behind : List (Piece Sym)) → Replaces leaf alphabet groups before c r behind → InsertsBy m.result g.side g.contexts.items before c r behind
      does_back before c r behind (inl (inl (none, words), allows)) = (none, (part.words r).1 words, (holds before behind).1 allows)
      does_back before c r behind (inl (inr never, allows)) = absurd never
      does_back before c r behind (inr never) = absurd never

      asks_there : (before : List (Piece Sym)) (c : List Sym) (behind : List (Piece Sym)) → AsksBy g.side g.contexts.items before c behind → Applies leaf alphabet groups before c behind
      asks_there before c behind (none, allows) = inl (inl none, (holds before behind).0 allows)

      asks_back : (before : List (Piece Sym)) (c : List Sym) (behind : List (Piece Sym)) → Applies leaf alphabet groups before c behind → AsksBy g.side g.contexts.items before c behind
      asks_back before c behind (inl (inl none, allows)) = (none, (holds before behind).1 allows)
      asks_back before c behind (inl (inr never, allows)) = absurd never
      asks_back before c behind (inr never) = absurd never
  insertion_means optional no_group g m alone are one u w = let clash : false ≡ true = alone in absurd (cc)
  insertion_means optional (then_group no_mapping side contexts no_group) g m alone are one u w = let clash : false ≡ true = alone in absurd (cc)
  insertion_means optional (then_group (plain c r maps) side contexts no_group) g m alone are one u w = let clash : false ≡ true = alone in absurd (cc)
  insertion_means optional (then_group (markup c b a maps) side contexts no_group) g m alone are one u w = let clash : false ≡ true = alone in absurd (cc)
  insertion_means optional (then_group (insert f (plain c r maps)) side contexts no_group) g m alone are one u w = let clash : false ≡ true = alone in absurd (cc)
  insertion_means optional (then_group (insert f (markup c b a maps)) side contexts no_group) g m alone are one u w = let clash : false ≡ true = alone in absurd (cc)
  insertion_means optional (then_group (insert f (insert r maps)) side contexts no_group) g m alone are one u w = let clash : false ≡ true = alone in absurd (cc)
  insertion_means optional (then_group maps side contexts (then_group more other_side other_contexts groups)) g m alone are one u w = let clash : false ≡ true = alone in absurd (cc)

  -- the languages of one insertion are one group of one mapping, whose result is over the alphabet
  pub insertion_rows : (groups : Groups A) (langs : List LangGroup) → IsTrue (is_insertion groups) → AreGroups leaf alphabet groups langs → (g : LangGroup) × (m : LangMap) × (langs ≡ g ∷ []) × (g.maps.items ≡ m ∷ []) × (m.result.letters ≡ alphabet)
  insertion_rows (then_group (insert f no_mapping) side contexts no_group) (g ∷ []) alone are = let r = rows g.maps.items are.0 in (g, r.0, refl, r.1, r.2)
    where
      rows : (maps : List LangMap) → AreMaps leaf alphabet (insert f no_mapping) maps → (m : LangMap) × (maps ≡ m ∷ []) × (m.result.letters ≡ alphabet)
      rows [] are = absurd are
      rows (m ∷ []) are = (m, refl, are.0.1.over)
      rows (m ∷ n ∷ maps) are = absurd are.1
  insertion_rows (then_group (insert f no_mapping) side contexts no_group) (g ∷ h ∷ langs) alone are = absurd are.3
  insertion_rows (then_group (insert f no_mapping) side contexts no_group) [] alone are = absurd are
  insertion_rows no_group langs alone are = let clash : false ≡ true = alone in absurd (cc)
  insertion_rows (then_group no_mapping side contexts no_group) langs alone are = let clash : false ≡ true = alone in absurd (cc)
  insertion_rows (then_group (plain c r maps) side contexts no_group) langs alone are = let clash : false ≡ true = alone in absurd (cc)
  insertion_rows (then_group (markup c b a maps) side contexts no_group) langs alone are = let clash : false ≡ true = alone in absurd (cc)
  insertion_rows (then_group (insert f (plain c r maps)) side contexts no_group) langs alone are = let clash : false ≡ true = alone in absurd (cc)
  insertion_rows (then_group (insert f (markup c b a maps)) side contexts no_group) langs alone are = let clash : false ≡ true = alone in absurd (cc)
  insertion_rows (then_group (insert f (insert r maps)) side contexts no_group) langs alone are = let clash : false ≡ true = alone in absurd (cc)
  insertion_rows (then_group maps side contexts (then_group more other_side other_contexts groups)) langs alone are = let clash : false ≡ true = alone in absurd (cc)

  -- their mappings are over the alphabet, and no centre has the empty word
  itself_over : (letters : List Sym) → letters ≡ alphabet → IsOver alphabet letters
  itself_over letters is = subst (IsOver alphabet) (sym is) (All-contains_itself alphabet)

  plain_over : (c r : Term A) (m : LangMap) → IsPlain leaf alphabet c r m → IsMapOver alphabet m
  plain_over c r m (filled, centre, result, none) = record {
    centre = itself_over m.centre.letters centre.over;
    result = itself_over m.result.letters result.over;
    after = λ lang some. let e : None ≡ Some lang = sym none ∙ some in absurd (cc);
    no_empty = λ h. filled ((centre.words []).0 h);
  }

  markup_over : (c b a : Term A) (m : LangMap) → IsMarkup leaf alphabet c b a m → IsMapOver alphabet m
  markup_over c b a m (filled, centre, before, after, some, behind) = record {
    centre = itself_over m.centre.letters centre.over;
    result = itself_over m.result.letters before.over;
    after = λ lang is.
        let e : Some after ≡ Some lang = sym some ∙ is in
        let same : after ≡ lang = cc in
        itself_over lang.letters (subst (λ (l : Complete Sym). l.letters ≡ alphabet) same behind.over);
    no_empty = λ h. filled ((centre.words []).0 h);
  }

  pub maps_over : (maps : Mappings A) (langs : List LangMap) → IsTrue (not (holds_insertion maps)) → AreMaps leaf alphabet maps langs → (m : LangMap) → Contains langs m → IsMapOver alphabet m
  maps_over no_mapping [] none are m among = absurd (Contains-nil_cases m among)
  maps_over (plain c r maps) (l ∷ langs) none are m among = elim (Contains-cons_cases l langs m among) as (λ _. IsMapOver alphabet m) [
    | inl same ↦ subst (IsMapOver alphabet) same (plain_over c r l are.0)
    | inr later ↦ maps_over maps langs none are.1 m later
  ]
  maps_over (markup c b a maps) (l ∷ langs) none are m among = elim (Contains-cons_cases l langs m among) as (λ _. IsMapOver alphabet m) [
    | inl same ↦ subst (IsMapOver alphabet) same (markup_over c b a l are.0)
    | inr later ↦ maps_over maps langs none are.1 m later
  ]
  maps_over (insert r maps) (l ∷ langs) none are m among = let clash : false ≡ true = none in absurd (cc)
  maps_over _ _ none are m among = absurd are

  pub groups_over : (groups : Groups A) (langs : List LangGroup) → IsTrue (has_no_insertion groups) → AreGroups leaf alphabet groups langs → AreMapsOver alphabet langs
  groups_over no_group [] none are g among = absurd (Contains-nil_cases g among)
  groups_over (then_group maps side contexts groups) (l ∷ langs) none are g among = elim (Contains-cons_cases l langs g among) as (λ _. (m : LangMap) → Contains g.maps.items m → IsMapOver alphabet m) [
    | inl same ↦ subst (λ (z : LangGroup). (m : LangMap) → Contains z.maps.items m → IsMapOver alphabet m) same (maps_over maps l.maps.items (and_parts (not (holds_insertion maps)) (has_no_insertion groups) none).0 are.0)
    | inr later ↦ groups_over groups langs (and_parts (not (holds_insertion maps)) (has_no_insertion groups) none).1 are.3 g later
  ]
  groups_over _ _ none are g among = absurd are

-- the letters without the edge of an automaton over an alphabet
pub inside_over : (alphabet : List Sym) (words : Automaton (Bound Sym)) (m : Automaton Sym) → UsesOnly (all_letters alphabet) words → ((x : Sym) → UsesLetter m x → UsesLetter words (Inner x)) → (x : Sym) → UsesLetter m x → Contains alphabet x
inside_over alphabet words m only letters x used = elim (Contains-cons_cases _ (inner alphabet) (Inner x) (only (Inner x) (letters x used))) as (λ _. Contains alphabet x) [
  | inl edge ↦ absurd (cc)
  | inr among ↦
      let r = Contains-map_cases Inner alphabet (Inner x) among in
      let e : Inner r.0 ≡ Inner x = r.2 in
      let same : r.0 ≡ x = cc in
      subst (Contains alphabet) same r.1
]
