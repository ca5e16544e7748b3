-- The places of groups, by which the construction goes: each is the mappings of a group with one of its contexts, or with none
-- where the group has none.
use Rattle.std.specs.Prelude.{◌≡◌, List, [], ◌∷◌, ◌++◌, map, Option, Some, None, Contains}
use Rattle.std.specs.List.{flat_map}
use Rattle.fsm_base.specs.declared.letters.Bound.{Bound}
use Rattle.fsm_base.specs.declared.letters.Sym.{Sym}
use Rattle.regex_ast.specs.declared.expr.Side.{Side}
use Rattle.fsa.specs.Complete.{Complete, Accepts}
use Rattle.expr_meaning.specs.Operators.{HasPrefix, HasSuffix}
use Rattle.replace_words.specs.declared.marks.Mark.{Mark}
use Rattle.replace_words.specs.Marked.{ups, lows, sames}
use Rattle.replace_words.specs.Places.{Rules}
use Rattle.replace_rules.specs.declared.rules.LangMap.{LangMap}
use Rattle.replace_rules.specs.declared.rules.LangContext.{LangContext}
use Rattle.replace_rules.specs.declared.rules.LangGroup.{LangGroup}

pub record Place : Type 0 where
  pub maps : List LangMap
  pub side : Side
  pub context : Option LangContext

-- the contexts of a group, each as one that is there
abbrev pub choices : List LangContext → List (Option LangContext)
choices [] = None ∷ []
choices (c ∷ contexts) = map Some (c ∷ contexts)

abbrev pub place_with : List LangMap → Side → Option LangContext → Place
place_with maps side context = record { maps = maps; side = side; context = context }

abbrev pub places_in : LangGroup → List Place
places_in g = map (place_with g.maps.items g.side) (choices g.contexts.items)

abbrev pub places_of : List LangGroup → List Place
places_of groups = flat_map places_in groups

-- what places do
abbrev pub HasPlain : List LangMap → List Sym → List Sym → Type 0
HasPlain maps centre put = (m : LangMap) × Contains maps m × (m.after ≡ None) × Accepts m.centre centre × Accepts m.result put

abbrev pub HasMarkup : List LangMap → List Sym → List Sym → List Sym → Type 0
HasMarkup maps before centre behind = (m : LangMap) × Contains maps m × (after : Complete Sym) × (m.after ≡ Some after) × Accepts m.centre centre × Accepts m.result before × Accepts after behind

abbrev pub HasCentreIn : List LangMap → List Sym → Type 0
HasCentreIn maps centre = (m : LangMap) × Contains maps m × Accepts m.centre centre

abbrev pub LeftPart : Option LangContext → List (Bound Sym) → Type 0
LeftPart None x = Unit {0}
LeftPart (Some c) x = HasSuffix (Accepts c.left) x

abbrev pub RightPart : Option LangContext → List (Bound Sym) → Type 0
RightPart None z = Unit {0}
RightPart (Some c) z = HasPrefix (Accepts c.right) z

abbrev pub rules_by : Rules Place
rules_by = record {
  centre = λ p c. HasCentreIn p.maps c;
  replaces = λ p c r. HasPlain p.maps c r;
  surrounds = λ p b c a. HasMarkup p.maps b c a;
  side = λ p. p.side;
  left = λ p x. LeftPart p.context x;
  right = λ p z. RightPart p.context z;
}

-- the marks between the brackets of a replacement by a mapping, and by one of these
abbrev pub IsBodyOf : Complete Sym → Complete Sym → Option (Complete Sym) → List (Bound Mark) → Type 0
IsBodyOf centre result None b = (c : List Sym) × (r : List Sym) × (b ≡ ups c ++ lows r) × Accepts centre c × Accepts result r
IsBodyOf centre result (Some after) b = (f : List Sym) × (c : List Sym) × (a : List Sym) × (b ≡ lows f ++ sames c ++ lows a) × Accepts centre c × Accepts result f × Accepts after a

abbrev pub IsBody : List LangMap → List (Bound Mark) → Type 0
IsBody maps b = (m : LangMap) × Contains maps m × IsBodyOf m.centre m.result m.after b
