-- What is told of an expression by the numbers of its leaves is what is told of it by their texts, where the names in it have forms
-- with their kinds and weights.
use Rattle.std.proofs.Common.{◌≡◌, ◌↔◌, ℕ, List, [], ◌∷◌, length, map, All, Contains, refl, sym, ap, subst, ◌∙◌, arith}
use Rattle.std.specs.Prelude.{sum_by}
use Rattle.std.proofs.lemmas.List.Elements.{All-nil, All-cons, All-head, All-contains}
use Rattle.std.proofs.lemmas.Option.{slice_get_past}
use Rattle.std.specs.List.{flat_map}
use Rattle.fsm_base.specs.Symbols.{number_of}
use Rattle.word_relations.proofs.Members.{Contains-head, Contains-map, Contains-tail}
use Rattle.regex_ast.specs.declared.expr.Atom.{Atom}
use Rattle.regex_ast.specs.Terms.{Term}
use Rattle.expr_kinds.specs.Atoms.{kind_at, kind_told, kinds_at, leaves_at, weight_at, weight_told, weights_at}
use Rattle.expr_kinds.specs.Forms.{capped}
use Rattle.expr_kinds.specs.Kinds.{Fits, kind_of}
use Rattle.expr_kinds.specs.Weights.{weight_of}
use Rattle.expr_kinds.specs.declared.form.Form.{Form}
use Rattle.expr_kinds.proofs.WeightLaws.{capped_alike, capped_twice}
use Rattle.expr_leaves.specs.Leaves.{leaves_in, listed}
use Rattle.expr_leaves.specs.Mapped.{mapped}
use Rattle.grammar_weights.specs.Weights.{is_same_symbol}
use Rattle.regex_ast.specs.declared.expr.Raw.{Raw}
use Rattle.project_meaning.specs.Forms.{BodyFits, are_same, body_kind, body_weight, kind_in, leaf_kind, leaf_weight, leaves_by, weight_in}
use Rattle.project_meaning.specs.Leaves.{Leaf, symbol, named, expressions_of, leaf_of, name_in, names_in, resolved, resolved_lexicon, symbol_in, symbols_in}
use Rattle.project_meaning.specs.Projects.{Project}
use Rattle.project_meaning.specs.Trees.{Body, xfst, lexc, twolc}
use Rattle.project_meaning.proofs.Forms.{same_body_weight}
use Rattle.project_meaning.proofs.Places.{in_flat}
use Rattle.name_resolution.specs.Numbered.{numbered}
use Rattle.project_definitions.specs.Bodies.{BodyFitsBy, kind_of_body, lexicon_weight, mapped_body, weight_of_body}
use Rattle.project_definitions.specs.Plain.{body_of}
use Rattle.project_definitions.specs.declared.definition.Body.{Body as BodyOf}
use Rattle.project_definitions.proofs.Bodies.{expressions_mapped, held_expressions}
use Rattle.project_definitions.proofs.Built.{All-front, All-back}
use Rattle.name_resolution.proofs.Listed.{listed_is}
use Rattle.project_definitions.proofs.Numbers.{texts_same}
use Rattle.grammar_weights.proofs.Replaced.{mapped_weight}
use Rattle.project_definitions.proofs.Mapped.{mapped_fits, mapped_kind}
use Rattle.project_definitions.proofs.Weighed.{weight_by_texts}
use Rattle.project_definitions.proofs.Weighing.{lexicons_capped, lexicons_mapped, lexicons_meant}

-- the form at the place of this name has its kind and its weight
pub record IsTold (names : List (List ℕ)) (project : Project) (forms : List Form) (name : List ℕ) : Type 0 where
  pub among : Contains names name
  pub kind : kind_at forms (number_of name names) ≡ kind_in project name
  pub weight : weight_at forms (number_of name names) ≡ capped (weight_in project name)

all_made : {X Y : Type 0} (f : X → Y) (Q : Y → Type 0) (xs : List X) → ((x : X) → Contains xs x → Q (f x)) → All Q (map f xs)
all_made f Q [] each = All-nil Q
all_made f Q (x ∷ xs) each = All-cons Q (f x) (map f xs) (each x (Contains-head x xs)) (all_made f Q xs (λ y h. each y (Contains-tail x xs y h)))

module _ (names table : List (List ℕ)) (project : Project) (forms : List Form) (few : length forms ≡ length names) where
  -- a leaf whose symbol the table has, or whose form is told
  abbrev Known : Leaf → Type 0
  Known (symbol text) = All (Contains table) (symbol_in (symbol text))
  Known (named name) = IsTold names project forms name

  known_each : (leaves : List Leaf) → All (Contains table) (flat_map symbol_in leaves)
      → ((name : List ℕ) → Contains (flat_map name_in leaves) name → IsTold names project forms name) → All Known leaves
  known_each [] held told = All-nil Known
  known_each (symbol text ∷ leaves) held told =
      All-cons Known (symbol text) leaves (All-front (Contains table) (symbol_in (symbol text)) (flat_map symbol_in leaves) held)
      (known_each leaves (All-back (Contains table) (symbol_in (symbol text)) (flat_map symbol_in leaves) held) told)
  known_each (named name ∷ leaves) held told =
      All-cons Known (named name) leaves (told name (Contains-head name (flat_map name_in leaves)))
      (known_each leaves held (λ other h. told other (Contains-tail name (flat_map name_in leaves) other h)))

  known_all : (e : Term Leaf) → All (Contains table) (listed symbol_in e) → ((name : List ℕ) → Contains (listed name_in e) name → IsTold names project forms name)
      → All Known (leaves_in e)
  known_all e held told =
      known_each (leaves_in e) (subst (λ (texts : List (List ℕ)). All (Contains table) texts) (listed_is symbol_in e) held)
      (λ name h. told name (subst (λ (texts : List (List ℕ)). Contains texts name) (sym (listed_is name_in e)) h))

  kind_each : (leaf : Leaf) → All Known (leaf ∷ []) → (leaves_at forms).kind (numbered names table leaf) ≡ leaf_kind (kind_in project) leaf
  unfolding kinds_at
  kind_each (symbol []) known = ap kind_told (slice_get_past forms (length names) (omega (arith, few)))
  kind_each (symbol (b ∷ bs)) known = refl
  kind_each (named name) known = let told : IsTold names project forms name = All-head Known (named name) [] known in told.kind

  same_each : (a b : Leaf) → All Known (a ∷ []) → All Known (b ∷ []) → (leaves_at forms).same (numbered names table a) (numbered names table b) ≡ are_same a b
  unfolding kinds_at
  same_each (symbol []) (symbol []) p q = refl
  same_each (symbol []) (symbol (c ∷ cs)) p q = refl
  same_each (symbol []) (named m) p q = refl
  same_each (symbol (b ∷ bs)) (symbol []) p q = refl
  same_each (symbol (b ∷ bs)) (symbol (c ∷ cs)) p q =
      texts_same table (b ∷ bs) (c ∷ cs)
      (All-head (Contains table) (b ∷ bs) [] (All-head Known (symbol (b ∷ bs)) [] p)) (All-head (Contains table) (c ∷ cs) [] (All-head Known (symbol (c ∷ cs)) [] q))
  same_each (symbol (b ∷ bs)) (named m) p q = refl
  same_each (named n) (symbol []) p q = refl
  same_each (named n) (symbol (c ∷ cs)) p q = refl
  same_each (named n) (named m) p q = refl

  abbrev by_number : Term Leaf → Term Atom
  by_number e = mapped (numbered names table) e

  kind_is : (e : Term Leaf) → All Known (leaves_in e) → kind_of (leaves_at forms) (by_number e) ≡ kind_of (leaves_by (kind_in project)) e
  kind_is e known = mapped_kind (numbered names table) (leaves_by (kind_in project)) (leaves_at forms) (λ leaf. leaf ∷ []) Known kind_each same_each e known

  fits_is : (e : Term Leaf) → All Known (leaves_in e) → Fits (leaves_at forms) (by_number e) ≡ Fits (leaves_by (kind_in project)) e
  fits_is e known = mapped_fits (numbered names table) (leaves_by (kind_in project)) (leaves_at forms) (λ leaf. leaf ∷ []) Known kind_each same_each e known

  -- the weights that are kept of names, and those that they have, as far as they are told apart
  abbrev kept : List ℕ → ℕ
  kept name = weight_at forms (number_of name names)

  abbrev cut : List ℕ → ℕ
  cut name = capped (weight_in project name)

  weight_each : (leaf : Leaf) → weights_at forms (numbered names table leaf) ≡ leaf_weight kept leaf
  unfolding weights_at
  weight_each (symbol []) = ap weight_told (slice_get_past forms (length names) (omega (arith, few)))
  weight_each (symbol (b ∷ bs)) = refl
  weight_each (named name) = refl

  cut_each : (leaf : Leaf) → capped (leaf_weight cut leaf) ≡ capped (leaf_weight (weight_in project) leaf)
  cut_each (symbol text) = refl
  cut_each (named name) = capped_twice (weight_in project name)

  weight_is : (e : Term Leaf) → ((name : List ℕ) → Contains (names_in (xfst e)) name → IsTold names project forms name)
      → capped (weight_of (weights_at forms) (by_number e)) ≡ capped (body_weight (weight_in project) (xfst e))
  weight_is e told =
      ap capped (mapped_weight (weights_at forms) (numbered names table) e ∙ ap (λ (w : Leaf → ℕ). weight_of w e) (λ i leaf. weight_each leaf i) ∙ same_body_weight kept cut (xfst e) (λ name h. (told name h).weight))
      ∙ capped_alike (leaf_weight cut) (leaf_weight (weight_in project)) cut_each e

  given : {P Q : Type 0} → P ≡ Q → P → Q
  given same p = subst (λ (T : Type 0). T) same p

  back : {P Q : Type 0} → P ≡ Q → Q → P
  back same q = subst (λ (T : Type 0). T) (sym same) q

  -- a body by numbers, where its symbols and names are known
  module _ (b : BodyOf Atom) where
    abbrev IsNumbered : Body Leaf → Type 0
    IsNumbered body = body_of b ≡ mapped_body (numbered names table) body

    abbrev AllTold : Body Leaf → Type 0
    AllTold body = (name : List ℕ) → Contains (names_in body) name → IsTold names project forms name

    known_in : (body : Body Leaf) → All (Contains table) (symbols_in body) → AllTold body → (e : Term Leaf) → Contains (expressions_of body) e → All Known (leaves_in e)
    known_in body held told e among =
        known_all e (All-contains (λ (e : Term Leaf). All (Contains table) (listed symbol_in e)) (expressions_of body) e (held_expressions (Contains table) body held) among)
        (λ name h. told name (in_flat (λ (e : Term Leaf). listed name_in e) (expressions_of body) e name among h))

    kind_by_number : (body : Body Leaf) → All (Contains table) (symbols_in body) → AllTold body
        → kind_of_body (leaves_at forms) (mapped_body (numbered names table) body) ≡ body_kind (kind_in project) body
    kind_by_number (xfst e) held told = kind_is e (known_in (xfst e) held told e (Contains-head e []))
    kind_by_number (lexc lexicons) held told = refl
    kind_by_number (twolc grammar) held told = refl

    pub told_kind : (body : Body Leaf) → IsNumbered body → All (Contains table) (symbols_in body) → AllTold body
        → kind_of_body (leaves_at forms) (body_of b) ≡ body_kind (kind_in project) body
    told_kind body is held told = ap (kind_of_body (leaves_at forms)) is ∙ kind_by_number body held told

    pub told_weight : (body : Body Raw) → IsNumbered (resolved names body) → All (Contains table) (symbols_in (resolved names body)) → AllTold (resolved names body)
        → capped (weight_of_body (weights_at forms) is_same_symbol (body_of b)) ≡ capped (body_weight (weight_in project) (resolved names body))
    told_weight (xfst e) is held told = ap (λ (x : Body Atom). capped (weight_of_body (weights_at forms) is_same_symbol x)) is ∙ weight_is (mapped (leaf_of names) e) told
    told_weight (lexc raws) is held told =
        let lexicons = map (resolved_lexicon names) raws in
        ap (λ (x : Body Atom). capped (weight_of_body (weights_at forms) is_same_symbol x)) is
        ∙ ap capped
        (lexicons_mapped (weights_at forms) (numbered names table) lexicons ∙ ap (λ (w : Leaf → ℕ). sum_by (lexicon_weight w) lexicons) (λ i leaf. weight_each leaf i)
        ∙ lexicons_meant kept lexicons ∙ same_body_weight kept cut (lexc lexicons) (λ name h. (told name h).weight))
        ∙ lexicons_capped cut (weight_in project) cut_each lexicons
    told_weight (twolc grammar) is held told =
        ap (λ (x : Body Atom). capped (weight_of_body (weights_at forms) is_same_symbol x)) is ∙ ap capped (weight_by_texts names table grammar held)

    pub told_fits : (body : Body Leaf) → IsNumbered body → All (Contains table) (symbols_in body) → AllTold body
        → BodyFitsBy (leaves_at forms) (body_of b) ↔ BodyFits (leaves_by (kind_in project)) body
    told_fits body is held told =
        let es = expressions_of body in
        let same : expressions_of (body_of b) ≡ map by_number es = ap expressions_of is ∙ expressions_mapped (numbered names table) body in (
          λ h e among. given (fits_is e (known_in body held told e among)) (All-contains (Fits (leaves_at forms)) (map by_number es) (by_number e) (subst (All (Fits (leaves_at forms))) same h) (Contains-map by_number es e among)),
          λ h. subst (All (Fits (leaves_at forms))) (sym same) (all_made by_number (Fits (leaves_at forms)) es (λ e among. back (fits_is e (known_in body held told e among)) (h e among))),
        )
