-- An expression is compiled where each of its tokens, if it is a leaf, says what is compiled: the levels of the grammar put no
-- insertion beside another mapping.
use Rattle.std.proofs.Common.{◌≡◌, ℕ, zero, suc, Bool, true, false, not, ◌&&◌, IsTrue, List, [], ◌∷◌, map, Option, None, Some, refl, ap, subst}
use Rattle.std.proofs.lemmas.Bool.{or_right}
use Rattle.std.specs.Bool.{⊤}
use Rattle.std.specs.Option.{option_map}
use Rattle.regex_ast.specs.Terms.{Term, terms_of}
use Rattle.regex_ast.specs.declared.expr.Raw.{Raw}
use Rattle.regex_ast.specs.declared.expr.Suffix.{Suffix}
use Rattle.regex_ast.specs.declared.expr.Prefix.{Prefix}
use Rattle.expr_kinds.specs.Built.{holds_insertion, has_no_insertion, is_insertion, inserts_alone, IsBuiltBy, AreBuiltBy, LinksAreBuiltBy, ContextsAreBuiltBy, StepsAreBuiltBy, MappingsAreBuiltBy, GroupsAreBuiltBy}
use Rattle.expr_leaves.specs.Mapped.{mapped, mapped_each, mapped_links, mapped_contexts, mapped_steps, mapped_mappings, mapped_groups}
use Rattle.regex_tokens.specs.declared.token.Operator.{Operator}
use Rattle.regex_tokens.specs.declared.token.Operator.TheVariants.{CloseSquare, CloseRound, UpUp, Colon, Slash, Comma, GroupComma, Underscore, Dots}
use Rattle.regex_tokens.specs.declared.token.Token.{Token}
use Rattle.regex_tokens.specs.declared.token.Token.TheVariants.{Operator as operator, Quoted as quoted_token, Braced as braced_token, Run as run_token}
use Rattle.regex_grammar.specs.Rows.{put_more, put_option, put_row, put_tailed, put_led, row_value, tailed_value, led_value}
use Rattle.regex_grammar.specs.Grammar.{run, quoted, braced, leaf, question, boundary, blank, grouped, optional, star, plus, power, upper, lower, inverted, reversed, Linked, or_else, and_also, but_not, result, marks, restricted, replaced, directed, ruled, inserted, StepForm, crossing, composing, put_primary, put_backslash, put_behind, put_negated, put_crossed, put_suffix, put_suffixed, put_prefix, put_prefixed, put_ignored, put_concat, put_linked, put_chain, put_context, put_contexts, put_sided, put_right, arrow_operator, way_operator, put_mapping, put_mapping_row, put_group_tail, put_group, put_ruling, put_nine, put_step, put_steps, put_expression, run_term, quoted_term, braced_term, primary_term, with_backslashes, negated_term, with_lower, crossed_term, suffix_of, with_suffixes, suffixed_term, with_prefixes, prefixed_term, ignoring, ignored_term, side_by_side, concat_term, linked_value, links_by, with_links, chain_term, part, ContextTerm, context_value, contexts_by, in_a_row, contexts_value, SidedTerm, sided_value, sided_by, RightTerm, result_term, marks_term, right_value, MappingTerm, plain_mapping, marking, inserting, mapping_by, mappings_by, mapping_value, GroupTailTerm, GroupTerm, right_and_more, mapping_row_value, with_centre, group_tail_by, group_tail_value, group_by, group_value, groups_by, RulingTerm, restriction, replacement, direction, replacement_by, or_no_context, direction_by, ruling_value, with_ruling, insertion_by, nine_term, step_value, steps_by, with_steps, steps_term, expression_term}
use Rattle.regex_grammar.specs.Whole.{most_open, IsReading}

-- what each of them is, and what one is where it is there
abbrev pub Each : {T : Type 0} → (T → Type 0) → List T → Type 0
Each P [] = Unit {0}
Each P (t ∷ ts) = P t × Each P ts

abbrev IfAny : {T : Type 0} → (T → Type 0) → Option T → Type 0
IfAny P None = Unit {0}
IfAny P (Some t) = P t

abbrev Anything : {T : Type 0} → T → Type 0
Anything t = Unit {0}

-- the leaves replaced by others, of which these are compiled
module _ {L : Type 0} (f : Raw → L) (is_leaf is_letter : L → Bool) where
  abbrev pub IsBuilt : Term Raw → Type 0
  IsBuilt t = IsBuiltBy is_leaf is_letter (mapped f t)

  -- a token that is a leaf says what is compiled
  abbrev pub TokenIsBuilt : Token → Type 0
  TokenIsBuilt (operator o) = Unit {0}
  TokenIsBuilt (quoted_token cs) = IsBuilt (quoted_term cs)
  TokenIsBuilt (braced_token cs) = IsBuilt (braced_term cs)
  TokenIsBuilt (run_token r) = IsBuilt (run_term r.text r.escaped)

  abbrev pub TokensAreBuilt : List Token → Type 0
  TokensAreBuilt tokens = Each TokenIsBuilt tokens

  -- what stands in front of such tokens has this property, and the tokens behind it are such ones
  abbrev Says : {A T : Type 0} → (A → List Token → List Token) → (A → T) → (T → Type 0) → Type 0
  Says {A} put value Good = (a : A) (rest : List Token) → TokensAreBuilt (put a rest) → Good (value a) × TokensAreBuilt rest

  -- How levels are put together.

  module _ {A T : Type 0} (put : A → List Token → List Token) (value : A → T) (Good : T → Type 0) (says : Says put value Good) where
    more_says : (items : List A) (rest : List Token) → TokensAreBuilt (put_more put items rest) → Each Good (map value items) × TokensAreBuilt rest
    more_says [] rest built = (tt, built)
    more_says (a ∷ items) rest built =
        let here = says a (put_more put items rest) built in
        let later = more_says items rest here.1 in
        ((here.0, later.0), later.1)

    option_says : (o : Option A) (rest : List Token) → TokensAreBuilt (put_option put o rest) → IfAny Good (option_map value o) × TokensAreBuilt rest
    option_says None rest built = (tt, built)
    option_says (Some a) rest built = says a rest built

    behind_says : (o : Operator) → Says (put_behind o put) value Good
    behind_says o a rest built = says a rest built.1

  module _ {A B T U V : Type 0} (put_first : A → List Token → List Token) (put_next : B → List Token → List Token) (first_value : A → T) (next_value : B → U)
      (First : T → Type 0) (Next : U → Type 0) (Whole : V → Type 0) (first : Says put_first first_value First) (next : Says put_next next_value Next) where
    row_says : (join : T → List U → V) → ((t : T) (us : List U) → First t → Each Next us → Whole (join t us)) → Says (put_row put_first put_next) (row_value join first_value next_value) Whole
    row_says join joined row rest built =
        let here = first row.first (put_more put_next row.more rest) built in
        let later = more_says put_next next_value Next next row.more rest here.1 in
        (joined (first_value row.first) (map next_value row.more) here.0 later.0, later.1)

    tailed_says : (join : T → Option U → V) → ((t : T) (o : Option U) → First t → IfAny Next o → Whole (join t o)) → Says (put_tailed put_first put_next) (tailed_value join first_value next_value) Whole
    tailed_says join joined x rest built =
        let here = first x.first (put_option put_next x.tail rest) built in
        let later = option_says put_next next_value Next next x.tail rest here.1 in
        (joined (first_value x.first) (option_map next_value x.tail) here.0 later.0, later.1)

    led_says : (join : List U → T → V) → ((us : List U) (t : T) → First t → Whole (join us t)) → Says (put_led put_next put_first) (led_value join next_value first_value) Whole
    led_says join joined x rest built =
        let front = more_says put_next next_value Next next x.marks (put_first x.operand rest) built in
        let here = first x.operand rest front.1 in
        (joined (map next_value x.marks) (first_value x.operand) here.0, here.1)

  -- Lists of terms.

  terms_built : (ts : List (Term Raw)) → Each IsBuilt ts → AreBuiltBy is_leaf is_letter (mapped_each f (terms_of ts))
  terms_built [] each = tt
  terms_built (t ∷ ts) each = (each.0, terms_built ts each.1)

  abbrev LinkIsBuilt : Linked (Term Raw) → Type 0
  LinkIsBuilt (or_else t) = IsBuilt t
  LinkIsBuilt (and_also t) = IsBuilt t
  LinkIsBuilt (but_not t) = IsBuilt t

  links_built : (ls : List (Linked (Term Raw))) → Each LinkIsBuilt ls → LinksAreBuiltBy is_leaf is_letter (mapped_links f (links_by ls))
  links_built [] each = tt
  links_built (or_else t ∷ ls) each = (each.0, links_built ls each.1)
  links_built (and_also t ∷ ls) each = (each.0, links_built ls each.1)
  links_built (but_not t ∷ ls) each = (each.0, links_built ls each.1)

  abbrev ContextIsBuilt : ContextTerm Raw → Type 0
  ContextIsBuilt c = IsBuilt c.left × IsBuilt c.right

  contexts_built : (cs : List (ContextTerm Raw)) → Each ContextIsBuilt cs → ContextsAreBuiltBy is_leaf is_letter (mapped_contexts f (contexts_by cs))
  contexts_built [] each = tt
  contexts_built (c ∷ cs) each = (each.0.0, each.0.1, contexts_built cs each.1)

  abbrev StepIsBuilt : StepForm (Term Raw) → Type 0
  StepIsBuilt (crossing t) = IsBuilt t
  StepIsBuilt (composing t) = IsBuilt t

  steps_built : (ss : List (StepForm (Term Raw))) → Each StepIsBuilt ss → StepsAreBuiltBy is_leaf is_letter (mapped_steps f (steps_by ss))
  steps_built [] each = tt
  steps_built (crossing t ∷ ss) each = (each.0, steps_built ss each.1)
  steps_built (composing t ∷ ss) each = (each.0, steps_built ss each.1)

  -- Rules of replacement, in which no insertion stands.

  abbrev SidedIsBuilt : SidedTerm Raw → Type 0
  SidedIsBuilt s = Each ContextIsBuilt s.contexts

  sided_built : (o : Option (SidedTerm Raw)) → IfAny SidedIsBuilt o → SidedIsBuilt (sided_by o)
  sided_built None any = tt
  sided_built (Some s) any = any

  abbrev RightIsBuilt : RightTerm Raw → Type 0
  RightIsBuilt (result_term t) = IsBuilt t
  RightIsBuilt (marks_term before behind) = IsBuilt before × IsBuilt behind

  abbrev MappingIsBuilt : MappingTerm Raw → Type 0
  MappingIsBuilt (plain_mapping c r) = IsBuilt c × IsBuilt r
  MappingIsBuilt (marking c b a) = IsBuilt c × IsBuilt b × IsBuilt a
  MappingIsBuilt (inserting r) = ⊥

  -- mappings without their first centre
  abbrev MapsAreBuilt : RightTerm Raw × List (MappingTerm Raw) → Type 0
  MapsAreBuilt maps = RightIsBuilt maps.0 × Each MappingIsBuilt maps.1

  abbrev TailIsBuilt : GroupTailTerm Raw → Type 0
  TailIsBuilt g = RightIsBuilt g.right × Each MappingIsBuilt g.more × SidedIsBuilt g.sided

  abbrev GroupIsBuilt : GroupTerm Raw → Type 0
  GroupIsBuilt g = Each MappingIsBuilt g.maps × SidedIsBuilt g.sided

  mapping_built : (centre : Term Raw) (r : RightTerm Raw) → IsBuilt centre → RightIsBuilt r → MappingIsBuilt (mapping_by centre r)
  mapping_built centre (result_term t) here right = (here, right)
  mapping_built centre (marks_term before behind) here right = (here, right.0, right.1)

  group_built : (centre : Term Raw) (g : GroupTailTerm Raw) → IsBuilt centre → TailIsBuilt g → GroupIsBuilt (group_by centre g)
  group_built centre g here tail = ((mapping_built centre g.right here tail.0, tail.1), tail.2)

  mappings_built : (maps : List (MappingTerm Raw)) → Each MappingIsBuilt maps → MappingsAreBuiltBy is_leaf is_letter (mapped_mappings f (mappings_by maps))
  mappings_built [] each = tt
  mappings_built (plain_mapping c r ∷ maps) each = (tt, each.0.0, each.0.1, mappings_built maps each.1)
  mappings_built (marking c b a ∷ maps) each = (tt, each.0.0, each.0.1, each.0.2, mappings_built maps each.1)
  mappings_built (inserting r ∷ maps) each = absurd each.0

  centre_built : (centre : Term Raw) (maps : RightTerm Raw × List (MappingTerm Raw)) → IsBuilt centre → MapsAreBuilt maps → Each MappingIsBuilt (with_centre centre maps)
  centre_built centre maps here each = (mapping_built centre maps.0 here each.0, each.1)

  groups_built : (groups : List (GroupTerm Raw)) → Each GroupIsBuilt groups → GroupsAreBuiltBy is_leaf is_letter (mapped_groups f (groups_by groups))
  groups_built [] each = tt
  groups_built (g ∷ groups) each = (mappings_built g.maps each.0.0, contexts_built g.sided.contexts each.0.1, groups_built groups each.1)

  none_inserted : (maps : List (MappingTerm Raw)) → Each MappingIsBuilt maps → holds_insertion (mapped_mappings f (mappings_by maps)) ≡ false
  none_inserted [] each = refl
  none_inserted (plain_mapping c r ∷ maps) each = none_inserted maps each.1
  none_inserted (marking c b a ∷ maps) each = none_inserted maps each.1
  none_inserted (inserting r ∷ maps) each = absurd each.0

  no_insertion : (groups : List (GroupTerm Raw)) → Each GroupIsBuilt groups → has_no_insertion (mapped_groups f (groups_by groups)) ≡ true
  no_insertion [] each = refl
  no_insertion (g ∷ groups) each = let a = none_inserted g.maps each.0.0 in let b = no_insertion groups each.1 in λ i. not (a i) && b i

  rules_built : (arrow : Bool) (groups : List (GroupTerm Raw)) → Each GroupIsBuilt groups
      → IsTrue (inserts_alone (mapped_groups f (groups_by groups))) × GroupsAreBuiltBy is_leaf is_letter (mapped_groups f (groups_by groups))
  rules_built arrow groups each =
      let all = mapped_groups f (groups_by groups) in
      (or_right (is_insertion all) (has_no_insertion all) (no_insertion groups each), groups_built groups each)

  directed_built : (maps : List (MappingTerm Raw)) (contexts : List (ContextTerm Raw)) → Each MappingIsBuilt maps → Each ContextIsBuilt contexts
      → IsTrue (not (holds_insertion (mapped_mappings f (mappings_by maps)))) × MappingsAreBuiltBy is_leaf is_letter (mapped_mappings f (mappings_by maps)) × ContextsAreBuiltBy is_leaf is_letter (mapped_contexts f (contexts_by contexts))
  directed_built maps contexts each every = (ap not (none_inserted maps each), mappings_built maps each, contexts_built contexts every)

  abbrev RulingIsBuilt : RulingTerm Raw → Type 0
  RulingIsBuilt (restriction contexts) = Each ContextIsBuilt contexts
  RulingIsBuilt (replacement arrow tail groups) = TailIsBuilt tail × Each GroupIsBuilt groups
  RulingIsBuilt (direction way maps contexts) = MapsAreBuilt maps × Each ContextIsBuilt contexts

  contexts_or_none : (o : Option (List (ContextTerm Raw))) → IfAny (Each ContextIsBuilt) o → Each ContextIsBuilt (or_no_context o)
  contexts_or_none None any = tt
  contexts_or_none (Some contexts) any = any

  ruling_built : (t : Term Raw) (o : Option (RulingTerm Raw)) → IsBuilt t → IfAny RulingIsBuilt o → IsBuilt (with_ruling t o)
  ruling_built t None here any = here
  ruling_built t (Some (restriction contexts)) here any = (here, contexts_built contexts any)
  ruling_built t (Some (replacement arrow tail groups)) here any = rules_built arrow (group_by t tail ∷ groups) (group_built t tail here any.0, any.1)
  ruling_built t (Some (direction way maps contexts)) here any = directed_built (with_centre t maps) contexts (centre_built t maps here any.0) any.1

  insertion_built : (arrow : Bool) (t : Term Raw) (o : Option (SidedTerm Raw)) → IsBuilt t → IfAny SidedIsBuilt o → IsBuilt (insertion_by arrow t o)
  insertion_built arrow t o here any = (refl, ((here, tt), contexts_built (sided_by o).contexts (sided_built o any), tt))

  -- Levels 1 to 8.

  backslashes_built : (ms : List ⊤) (t : Term Raw) → IsBuilt t → IsBuilt (with_backslashes ms t)
  backslashes_built [] t here = here
  backslashes_built (m ∷ ms) t here = here

  lower_built : (t : Term Raw) (o : Option (Term Raw)) → IsBuilt t → IfAny IsBuilt o → IsBuilt (with_lower t o)
  lower_built t None here any = here
  lower_built t (Some u) here any = (here, any)

  suffixes_built : (t : Term Raw) (ss : List Suffix) → IsBuilt t → Each Anything ss → IsBuilt (with_suffixes t ss)
  suffixes_built t [] here each = here
  suffixes_built t (s ∷ ss) here each = here

  prefixes_built : (ps : List Prefix) (t : Term Raw) → IsBuilt t → IsBuilt (with_prefixes ps t)
  prefixes_built [] t here = here
  prefixes_built (p ∷ ps) t here = here

  ignoring_built : (t : Term Raw) (us : List (Term Raw)) → IsBuilt t → Each IsBuilt us → IsBuilt (ignoring t us)
  ignoring_built t [] here each = here
  ignoring_built t (u ∷ us) here each = terms_built (t ∷ u ∷ us) (here, each)

  row_built : (t : Term Raw) (us : List (Term Raw)) → IsBuilt t → Each IsBuilt us → IsBuilt (side_by_side t us)
  row_built t [] here each = here
  row_built t (u ∷ us) here each = terms_built (t ∷ u ∷ us) (here, each)

  chain_built : (t : Term Raw) (ls : List (Linked (Term Raw))) → IsBuilt t → Each LinkIsBuilt ls → IsBuilt (with_links t ls)
  chain_built t [] here each = here
  chain_built t (l ∷ ls) here each = (here, links_built (l ∷ ls) each)

  backslash_says : Says put_backslash (λ m. m) Anything
  backslash_says m rest built = (tt, built.1)

  suffix_says : Says put_suffix suffix_of Anything
  suffix_says star rest built = (tt, built.1)
  suffix_says plus rest built = (tt, built.1)
  suffix_says (power n) rest built = (tt, built.1.1)
  suffix_says upper rest built = (tt, built.1)
  suffix_says lower rest built = (tt, built.1)
  suffix_says inverted rest built = (tt, built.1)
  suffix_says reversed rest built = (tt, built.1)

  prefix_says : Says put_prefix (λ p. p) Anything
  prefix_says Prefix.Not rest built = (tt, built.1)
  prefix_says Prefix.Contains rest built = (tt, built.1)

  module _ {E : Type 0} (put : E → List Token → List Token) (says : E → Term Raw) (inner : Says put says IsBuilt) where
    primary_says : Says (put_primary put) (primary_term says) IsBuilt
    primary_says (leaf (run r)) rest built = built
    primary_says (leaf (quoted cs)) rest built = built
    primary_says (leaf (braced cs)) rest built = built
    primary_says question rest built = (tt, built.1)
    primary_says boundary rest built = (tt, built.1)
    primary_says blank rest built = (tt, built.1.1)
    primary_says (grouped e) rest built = let here = inner e (operator CloseSquare ∷ rest) built.1 in (here.0, here.1.1)
    primary_says (optional e) rest built = let here = inner e (operator CloseRound ∷ rest) built.1 in (here.0, here.1.1)

    negated_says : Says (put_negated put) (negated_term says) IsBuilt
    negated_says = led_says (put_primary put) put_backslash (primary_term says) (λ m. m) IsBuilt Anything IsBuilt primary_says backslash_says with_backslashes backslashes_built

    crossed_says : Says (put_crossed put) (crossed_term says) IsBuilt
    crossed_says =
        tailed_says (put_negated put) (put_behind Colon (put_negated put)) (negated_term says) (negated_term says) IsBuilt IsBuilt IsBuilt negated_says
        (behind_says (put_negated put) (negated_term says) IsBuilt negated_says Colon) with_lower lower_built

    suffixed_says : Says (put_suffixed put) (suffixed_term says) IsBuilt
    suffixed_says = row_says (put_crossed put) put_suffix (crossed_term says) suffix_of IsBuilt Anything IsBuilt crossed_says suffix_says with_suffixes suffixes_built

    prefixed_says : Says (put_prefixed put) (prefixed_term says) IsBuilt
    prefixed_says = led_says (put_suffixed put) put_prefix (suffixed_term says) (λ p. p) IsBuilt Anything IsBuilt suffixed_says prefix_says with_prefixes prefixes_built

    ignored_says : Says (put_ignored put) (ignored_term says) IsBuilt
    ignored_says =
        row_says (put_prefixed put) (put_behind Slash (put_prefixed put)) (prefixed_term says) (prefixed_term says) IsBuilt IsBuilt IsBuilt prefixed_says
        (behind_says (put_prefixed put) (prefixed_term says) IsBuilt prefixed_says Slash) ignoring ignoring_built

    concat_says : Says (put_concat put) (concat_term says) IsBuilt
    concat_says = row_says (put_ignored put) (put_ignored put) (ignored_term says) (ignored_term says) IsBuilt IsBuilt IsBuilt ignored_says ignored_says side_by_side row_built

    linked_says : Says (put_linked (put_concat put)) (linked_value (concat_term says)) LinkIsBuilt
    linked_says (or_else c) rest built = concat_says c rest built.1
    linked_says (and_also c) rest built = concat_says c rest built.1
    linked_says (but_not c) rest built = concat_says c rest built.1

    chain_says : Says (put_chain put) (chain_term says) IsBuilt
    chain_says =
        row_says (put_concat put) (put_linked (put_concat put)) (concat_term says) (linked_value (concat_term says)) IsBuilt LinkIsBuilt IsBuilt concat_says linked_says with_links chain_built

  -- Level 9, over level 8.

  part_built : (o : Option (Term Raw)) → IfAny IsBuilt o → IsBuilt (part o)
  part_built None any = tt
  part_built (Some t) any = any

  module _ {C : Type 0} (put : C → List Token → List Token) (says : C → Term Raw) (inner : Says put says IsBuilt) where
    context_says : Says (put_context put) (context_value says) ContextIsBuilt
    context_says c rest built =
        let l = option_says put says IsBuilt inner c.left (operator Underscore ∷ put_option put c.right rest) built in
        let r = option_says put says IsBuilt inner c.right rest l.1.1 in
        ((part_built (option_map says c.left) l.0, part_built (option_map says c.right) r.0), r.1)

    contexts_says : Says (put_contexts put) (contexts_value says) (Each ContextIsBuilt)
    contexts_says =
        row_says (put_context put) (put_behind Comma (put_context put)) (context_value says) (context_value says) ContextIsBuilt ContextIsBuilt (Each ContextIsBuilt) context_says
        (behind_says (put_context put) (context_value says) ContextIsBuilt context_says Comma) in_a_row (λ c cs here each. (here, each))

    sided_says : Says (put_sided put) (sided_value says) SidedIsBuilt
    sided_says s rest built = contexts_says s.contexts rest built.1

    right_says : Says (put_right put) (right_value says) RightIsBuilt
    right_says (result c) rest built = inner c rest built
    right_says (marks before behind) rest built =
        let b = option_says put says IsBuilt inner before (operator Dots ∷ put_option put behind rest) built in
        let a = option_says put says IsBuilt inner behind rest b.1.1 in
        ((part_built (option_map says before) b.0, part_built (option_map says behind) a.0), a.1)

    module _ (arrow : Operator) where
      mapping_says : Says (put_mapping arrow put) (mapping_value says) MappingIsBuilt
      mapping_says m rest built =
          let c = inner m.centre _ built in
          let r = right_says m.right rest c.1.1 in
          (mapping_built (says m.centre) (right_value says m.right) c.0 r.0, r.1)

      mapping_row_says : Says (put_mapping_row arrow put) (mapping_row_value says) MapsAreBuilt
      mapping_row_says =
          row_says (put_right put) (put_behind Comma (put_mapping arrow put)) (right_value says) (mapping_value says) RightIsBuilt MappingIsBuilt MapsAreBuilt right_says
          (behind_says (put_mapping arrow put) (mapping_value says) MappingIsBuilt mapping_says Comma) right_and_more (λ r more here each. (here, each))

    module _ (arrow : Bool) where
      tail_says : Says (put_group_tail arrow put) (group_tail_value says) TailIsBuilt
      tail_says =
          tailed_says (put_mapping_row (arrow_operator arrow) put) (put_sided put) (mapping_row_value says) (sided_value says) MapsAreBuilt SidedIsBuilt TailIsBuilt
          (mapping_row_says (arrow_operator arrow)) sided_says group_tail_by (λ x o here any. (here.0, here.1, sided_built o any))

      group_says : Says (put_group arrow put) (group_value says) GroupIsBuilt
      group_says g rest built =
          let c = inner g.centre _ built in
          let tail = tail_says g.tail rest c.1.1 in
          (group_built (says g.centre) (group_tail_value says g.tail) c.0 tail.0, tail.1)

    ruling_says : Says (put_ruling put) (ruling_value says) RulingIsBuilt
    ruling_says (restricted contexts) rest built = contexts_says contexts rest built.1
    ruling_says (replaced arrow groups) rest built =
        row_says (put_group_tail arrow put) (put_behind GroupComma (put_group arrow put)) (group_tail_value says) (group_value says) TailIsBuilt GroupIsBuilt RulingIsBuilt (tail_says arrow)
        (behind_says (put_group arrow put) (group_value says) GroupIsBuilt (group_says arrow) GroupComma) (replacement_by arrow) (λ tail more here each. (here, each)) groups rest built.1
    ruling_says (directed way x) rest built =
        tailed_says (put_mapping_row (way_operator way) put) (put_behind UpUp (put_contexts put)) (mapping_row_value says) (contexts_value says) MapsAreBuilt (Each ContextIsBuilt) RulingIsBuilt
        (mapping_row_says (way_operator way)) (behind_says (put_contexts put) (contexts_value says) (Each ContextIsBuilt) contexts_says UpUp) (direction_by way)
        (λ maps o here any. (here, contexts_or_none o any)) x rest built.1

    nine_says : Says (put_nine put) (nine_term says) IsBuilt
    nine_says (ruled x) rest built = tailed_says put (put_ruling put) says (ruling_value says) IsBuilt RulingIsBuilt IsBuilt inner ruling_says with_ruling ruling_built x rest built
    nine_says (inserted arrow x) rest built =
        tailed_says put (put_sided put) says (sided_value says) IsBuilt SidedIsBuilt IsBuilt inner sided_says (insertion_by arrow) (insertion_built arrow) x rest built.1.1

  -- Level 10, and all of them to a depth.

  row_of_steps : (t : Term Raw) (ss : List (StepForm (Term Raw))) → IsBuilt t → Each StepIsBuilt ss → IsBuilt (with_steps t ss)
  row_of_steps t [] here each = here
  row_of_steps t (s ∷ ss) here each = (here, steps_built (s ∷ ss) each)

  module _ {E : Type 0} (put : E → List Token → List Token) (says : E → Term Raw) (inner : Says put says IsBuilt) where
    step_says : Says (put_step (put_nine (put_chain put))) (step_value (nine_term (chain_term says))) StepIsBuilt
    step_says (crossing n) rest built = nine_says (put_chain put) (chain_term says) (chain_says put says inner) n rest built.1
    step_says (composing n) rest built = nine_says (put_chain put) (chain_term says) (chain_says put says inner) n rest built.1

    steps_says : Says (put_steps put) (steps_term says) IsBuilt
    steps_says =
        row_says (put_nine (put_chain put)) (put_step (put_nine (put_chain put))) (nine_term (chain_term says)) (step_value (nine_term (chain_term says))) IsBuilt StepIsBuilt IsBuilt
        (nine_says (put_chain put) (chain_term says) (chain_says put says inner)) step_says with_steps row_of_steps

  expression_says : (n : ℕ) → Says (put_expression n) (expression_term n) IsBuilt
  expression_says zero e rest built = absurd e
  expression_says (suc n) e rest built = steps_says (put_expression n) (expression_term n) (expression_says n) e rest built

  -- tokens that are an expression say one that is compiled
  pub reading_built : (tokens : List Token) (t : Term Raw) → TokensAreBuilt tokens → IsReading tokens (Some t) → IsBuilt t
  reading_built tokens t built (tree, is, says) = subst IsBuilt says (expression_says (suc most_open) tree [] (subst TokensAreBuilt is built)).0
