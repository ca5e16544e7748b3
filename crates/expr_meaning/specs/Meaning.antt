-- The language and the relation of an expression, by its form (Beesley and Karttunen, Finite State Morphology, 2003,
-- chapter 2).
--
-- `leaf` says what a leaf relates: a symbol relates the word of that symbol alone to itself, and a name what its
-- definition relates. The language of a leaf is the set of the words that it relates to themselves. So a name joins by
-- giving one relation, whether it is a language or not, and no case here changes.
--
-- Each form has a case in both definitions. Which of the two counts is told by the form (`Kind` of `expr_kinds`): what a
-- language relates is each of its words to itself, and the language of a relation means nothing.
use Rattle.std.specs.Prelude.{◌≡◌, ◌⊎◌, List, [], ◌∷◌}
use Rattle.fsm_base.specs.declared.letters.Bound.{Bound}
use Rattle.word_relations.specs.Words.{IsConcatenation}
use Rattle.word_relations.specs.Relations.{IsConcatenationOfPairs, IsComposition}
use Rattle.word_relations.specs.Operations.{IsOneLetter, IsIgnoring}
use Rattle.regex_ast.specs.Terms.{Term, Terms, Links, Contexts, Steps, Mappings, Groups, empty, any, edge, atom, letters, group, maybe, not_one, cross, suffixed, prefixed, ignore, concat, chain, only, rules, directed, steps, no_term, then_term, no_link, or, and, less, no_context, between, no_step, cross_with, then, no_mapping, plain, markup, insert, no_group, then_group}
use Rattle.expr_meaning.specs.Operators.{inner, IsEmpty, IsEdge, WithEdge, IsItself, HoldsLeft, HoldsRight, AreSuffixed, RelateSuffixed, ArePrefixed, IsNotOne, IsRestricted}
use Rattle.expr_meaning.specs.Replacement.{Piece, IsAround, IsAllowed, IsRewritten}
use Rattle.expr_meaning.specs.Directed.{IsMatchBy, DirectsBy, IsDirectedBy}

module _ {A L : Type 0} (leaf : A → List L → List L → Type 0) (alphabet : List L) where
  -- a word of a leaf's language
  abbrev pub InLeaf : A → List (Bound L) → Type 0
  InLeaf a w = WithEdge (λ u. leaf a u u) w

  -- a word of each leaf, one after another
  abbrev pub InLeaves : List A → List (Bound L) → Type 0
  InLeaves [] w = IsEmpty w
  InLeaves (a ∷ leaves) w = IsConcatenation (InLeaf a) (InLeaves leaves) w

  abbrev mutual
    -- the word is in the language of the expression
    pub In : Term A → List (Bound L) → Type 0
    In empty w = IsEmpty w
    In any w = IsOneLetter (inner alphabet) w
    In edge w = IsEdge w
    In (atom a) w = InLeaf a w
    In (letters leaves) w = InLeaves leaves w
    In (group e) w = In e w
    In (maybe e) w = IsEmpty w ⊎ In e w
    In (not_one n e) w = IsNotOne alphabet n (In e) w
    In (cross e f) w = In e w × In f w
    In (suffixed e suffixes) w = AreSuffixed suffixes (In e) (Relates e) w
    In (prefixed prefixes e) w = ArePrefixed alphabet prefixes (In e) w
    In (ignore no_term) w = IsEmpty w
    In (ignore (then_term e es)) w = InIgnoring (In e) es w
    In (concat es) w = InEach es w
    In (chain e links) w = InChain (In e) links w
    In (only e contexts) w = IsRestricted alphabet (In e) (InContext contexts) w
    In (steps e more) w = InSteps (In e) more w
    -- replacement is a relation
    In (rules optional groups) w = ⊥
    In (directed way maps contexts) w = ⊥

    -- a word of each language, one after another
    pub InEach : Terms A → List (Bound L) → Type 0
    InEach no_term w = IsEmpty w
    InEach (then_term e es) w = IsConcatenation (In e) (InEach es) w

    -- a word of the set with words of each language put in, one language after another
    pub InIgnoring : (List (Bound L) → Type 0) → Terms A → List (Bound L) → Type 0
    InIgnoring P no_term w = P w
    InIgnoring P (then_term e es) w = InIgnoring (IsIgnoring P (In e)) es w

    -- a row of `|`, `&` and `-`, from left to right
    pub InChain : (List (Bound L) → Type 0) → Links A → List (Bound L) → Type 0
    InChain P no_link w = P w
    InChain P (or e links) w = InChain (λ v. P v ⊎ In e v) links w
    InChain P (and e links) w = InChain (λ v. P v × In e v) links w
    InChain P (less e links) w = InChain (λ v. P v × ¬ In e v) links w

    -- one of the contexts holds between the word before and the word behind
    pub InContext : Contexts A → List (Bound L) → List (Bound L) → Type 0
    InContext no_context before behind = ⊥
    InContext (between l r contexts) before behind = (HoldsLeft (In l) before × HoldsRight (In r) behind) ⊎ InContext contexts before behind

    -- one of the mappings has the centre
    pub IsCentre : Mappings A → List L → Type 0
    IsCentre no_mapping centre = ⊥
    IsCentre (plain c r maps) centre = In c (inner centre) ⊎ IsCentre maps centre
    IsCentre (markup c b a maps) centre = In c (inner centre) ⊎ IsCentre maps centre
    IsCentre (insert r maps) centre = (centre ≡ []) ⊎ IsCentre maps centre

    -- one of the mappings replaces the centre by the result
    pub IsMapped : Mappings A → List L → List L → Type 0
    IsMapped no_mapping centre result = ⊥
    IsMapped (plain c r maps) centre result = (In c (inner centre) × In r (inner result)) ⊎ IsMapped maps centre result
    IsMapped (markup c b a maps) centre result = (In c (inner centre) × IsAround (In b) (In a) centre result) ⊎ IsMapped maps centre result
    IsMapped (insert r maps) centre result = ((centre ≡ []) × In r (inner result)) ⊎ IsMapped maps centre result

    -- one of the groups replaces the centre by the result between the pieces, by a mapping and where one of its contexts holds
    pub Replaces : Groups A → List (Piece L) → List L → List L → List (Piece L) → Type 0
    Replaces no_group before centre result behind = ⊥
    Replaces (then_group maps side contexts groups) before centre result behind =
        (IsMapped maps centre result × IsAllowed contexts (InContext contexts) side before behind) ⊎ Replaces groups before centre result behind

    -- one of the groups has the centre, and one of its contexts holds between the pieces
    pub Applies : Groups A → List (Piece L) → List L → List (Piece L) → Type 0
    Applies no_group before centre behind = ⊥
    Applies (then_group maps side contexts groups) before centre behind = (IsCentre maps centre × IsAllowed contexts (InContext contexts) side before behind) ⊎ Applies groups before centre behind

    -- a row of `.x.` and `.o.`, from left to right; a composition of languages has the words of both
    pub InSteps : (List (Bound L) → Type 0) → Steps A → List (Bound L) → Type 0
    InSteps P no_step w = P w
    InSteps P (cross_with e more) w = InSteps (λ v. P v × In e v) more w
    InSteps P (then e more) w = InSteps (λ v. P v × In e v) more w

    -- the expression relates the upper word u to the lower word w
    pub Relates : Term A → List L → List L → Type 0
    Relates empty u w = IsItself IsEmpty u w
    Relates any u w = IsItself (IsOneLetter (inner alphabet)) u w
    Relates edge u w = IsItself IsEdge u w
    Relates (atom a) u w = leaf a u w
    Relates (letters leaves) u w = IsItself (InLeaves leaves) u w
    Relates (group e) u w = Relates e u w
    Relates (maybe e) u w = ((u ≡ []) × (w ≡ [])) ⊎ Relates e u w
    Relates (not_one n e) u w = IsItself (IsNotOne alphabet n (In e)) u w
    Relates (cross e f) u w = In e (inner u) × In f (inner w)
    Relates (suffixed e suffixes) u w = RelateSuffixed suffixes (Relates e) u w
    Relates (prefixed prefixes e) u w = IsItself (ArePrefixed alphabet prefixes (In e)) u w
    Relates (ignore no_term) u w = IsItself IsEmpty u w
    Relates (ignore (then_term e es)) u w = IsItself (InIgnoring (In e) es) u w
    Relates (concat es) u w = RelatesEach es u w
    Relates (chain e links) u w = RelatesChain (In e) (Relates e) links u w
    Relates (only e contexts) u w = IsItself (IsRestricted alphabet (In e) (InContext contexts)) u w
    Relates (steps e more) u w = RelatesSteps (In e) (Relates e) more u w
    Relates (rules optional groups) u w = IsRewritten alphabet (Replaces groups) (Applies groups) optional u w
    Relates (directed way maps contexts) u w =
        IsDirectedBy (IsMatchBy contexts (IsCentre maps) (InContext contexts)) alphabet (DirectsBy contexts (IsMapped maps) (InContext contexts)) way u w

    -- a pair of each relation, one after another
    pub RelatesEach : Terms A → List L → List L → Type 0
    RelatesEach no_term u w = (u ≡ []) × (w ≡ [])
    RelatesEach (then_term e es) u w = IsConcatenationOfPairs (Relates e) (RelatesEach es) u w

    -- a row of `|`, `&` and `-`, of which the last two are of languages
    pub RelatesChain : (List (Bound L) → Type 0) → (List L → List L → Type 0) → Links A → List L → List L → Type 0
    RelatesChain P R no_link u w = R u w
    RelatesChain P R (or e links) u w = RelatesChain (λ v. P v ⊎ In e v) (λ u w. R u w ⊎ Relates e u w) links u w
    RelatesChain P R (and e links) u w = RelatesChain (λ v. P v × In e v) (IsItself (λ v. P v × In e v)) links u w
    RelatesChain P R (less e links) u w = RelatesChain (λ v. P v × ¬ In e v) (IsItself (λ v. P v × ¬ In e v)) links u w

    -- a row of `.x.`, which is of languages, and `.o.`
    pub RelatesSteps : (List (Bound L) → Type 0) → (List L → List L → Type 0) → Steps A → List L → List L → Type 0
    RelatesSteps P R no_step u w = R u w
    RelatesSteps P R (cross_with e more) u w = RelatesSteps (λ v. P v × In e v) (λ u w. P (inner u) × In e (inner w)) more u w
    RelatesSteps P R (then e more) u w = RelatesSteps (λ v. P v × In e v) (IsComposition R (Relates e)) more u w

  -- the matches of a directed rule with these mappings and contexts, and its replacements
  abbrev pub IsMatch : Mappings A → Contexts A → List L → List L → List L → Type 0
  IsMatch maps contexts = IsMatchBy contexts (IsCentre maps) (InContext contexts)

  abbrev pub Directs : Mappings A → Contexts A → List (Piece L) → List L → List L → List (Piece L) → Type 0
  Directs maps contexts = DirectsBy contexts (IsMapped maps) (InContext contexts)
