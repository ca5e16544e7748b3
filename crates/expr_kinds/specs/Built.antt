-- The expressions whose networks are built: those with such leaves and centres as can be built, where each insertion stands alone in
-- its rules, and none in a directed rule.
use Rattle.std.specs.Prelude.{Bool, true, false, not, ◌&&◌, ◌||◌, IsTrue}
use Rattle.std.specs.List.{list_all}
use Rattle.regex_ast.specs.Terms.{Term, Terms, Links, Contexts, Steps, Mappings, Groups, empty, any, edge, atom, letters, group, maybe, not_one, cross, suffixed, prefixed, ignore, concat, chain, only, rules, directed, steps, no_term, then_term, no_link, or, and, less, no_context, between, no_step, cross_with, then, no_mapping, plain, markup, insert, no_group, then_group}

-- whether an insertion is among mappings
abbrev pub holds_insertion : {A : Type 0} → Mappings A → Bool
holds_insertion no_mapping = false
holds_insertion (plain c r maps) = holds_insertion maps
holds_insertion (markup c b a maps) = holds_insertion maps
holds_insertion (insert r maps) = true

abbrev pub has_no_insertion : {A : Type 0} → Groups A → Bool
has_no_insertion no_group = true
has_no_insertion (then_group maps side contexts groups) = not (holds_insertion maps) && has_no_insertion groups

-- one mapping, an insertion; and one group with it
abbrev pub is_insertion_alone : {A : Type 0} → Mappings A → Bool
is_insertion_alone (insert r no_mapping) = true
is_insertion_alone _ = false

abbrev pub is_insertion : {A : Type 0} → Groups A → Bool
is_insertion (then_group maps side contexts no_group) = is_insertion_alone maps
is_insertion _ = false

-- an insertion stands alone in its rules
abbrev pub inserts_alone : {A : Type 0} → Groups A → Bool
inserts_alone groups = is_insertion groups || has_no_insertion groups

-- each leaf passes the first test, each symbol in braces the second (no name may stand there), and each centre of a replacement the
-- third
module _ {A : Type 0} (leaf letter : A → Bool) (Centre : Term A → Type 0) where
  abbrev mutual
    pub IsBuiltWith : Term A → Type 0
    IsBuiltWith empty = Unit {0}
    IsBuiltWith any = Unit {0}
    IsBuiltWith edge = Unit {0}
    IsBuiltWith (atom a) = IsTrue (leaf a)
    IsBuiltWith (letters all) = IsTrue (list_all letter all)
    IsBuiltWith (group e) = IsBuiltWith e
    IsBuiltWith (maybe e) = IsBuiltWith e
    IsBuiltWith (not_one n e) = IsBuiltWith e
    IsBuiltWith (cross e f) = IsBuiltWith e × IsBuiltWith f
    IsBuiltWith (suffixed e suffixes) = IsBuiltWith e
    IsBuiltWith (prefixed prefixes e) = IsBuiltWith e
    IsBuiltWith (ignore es) = AreBuiltWith es
    IsBuiltWith (concat es) = AreBuiltWith es
    IsBuiltWith (chain e links) = IsBuiltWith e × LinksAreBuiltWith links
    IsBuiltWith (only e contexts) = IsBuiltWith e × ContextsAreBuiltWith contexts
    IsBuiltWith (rules optional groups) = IsTrue (inserts_alone groups) × GroupsAreBuiltWith groups
    IsBuiltWith (directed way maps contexts) = IsTrue (not (holds_insertion maps)) × MappingsAreBuiltWith maps × ContextsAreBuiltWith contexts
    IsBuiltWith (steps e more) = IsBuiltWith e × StepsAreBuiltWith more

    pub AreBuiltWith : Terms A → Type 0
    AreBuiltWith no_term = Unit {0}
    AreBuiltWith (then_term e es) = IsBuiltWith e × AreBuiltWith es

    pub LinksAreBuiltWith : Links A → Type 0
    LinksAreBuiltWith no_link = Unit {0}
    LinksAreBuiltWith (or e links) = IsBuiltWith e × LinksAreBuiltWith links
    LinksAreBuiltWith (and e links) = IsBuiltWith e × LinksAreBuiltWith links
    LinksAreBuiltWith (less e links) = IsBuiltWith e × LinksAreBuiltWith links

    pub ContextsAreBuiltWith : Contexts A → Type 0
    ContextsAreBuiltWith no_context = Unit {0}
    ContextsAreBuiltWith (between l r contexts) = IsBuiltWith l × IsBuiltWith r × ContextsAreBuiltWith contexts

    pub StepsAreBuiltWith : Steps A → Type 0
    StepsAreBuiltWith no_step = Unit {0}
    StepsAreBuiltWith (cross_with e more) = IsBuiltWith e × StepsAreBuiltWith more
    StepsAreBuiltWith (then e more) = IsBuiltWith e × StepsAreBuiltWith more

    pub MappingsAreBuiltWith : Mappings A → Type 0
    MappingsAreBuiltWith no_mapping = Unit {0}
    MappingsAreBuiltWith (plain c r maps) = Centre c × IsBuiltWith c × IsBuiltWith r × MappingsAreBuiltWith maps
    MappingsAreBuiltWith (markup c b a maps) = Centre c × IsBuiltWith c × IsBuiltWith b × IsBuiltWith a × MappingsAreBuiltWith maps
    MappingsAreBuiltWith (insert r maps) = IsBuiltWith r × MappingsAreBuiltWith maps

    pub GroupsAreBuiltWith : Groups A → Type 0
    GroupsAreBuiltWith no_group = Unit {0}
    GroupsAreBuiltWith (then_group maps side contexts groups) = MappingsAreBuiltWith maps × ContextsAreBuiltWith contexts × GroupsAreBuiltWith groups

-- any centre
abbrev pub AnyCentre : {A : Type 0} → Term A → Type 0
AnyCentre e = Unit {0}

-- the same where nothing is asked of centres
abbrev pub IsBuiltBy : {A : Type 0} → (A → Bool) → (A → Bool) → Term A → Type 0
IsBuiltBy leaf letter = IsBuiltWith leaf letter AnyCentre

abbrev pub AreBuiltBy : {A : Type 0} → (A → Bool) → (A → Bool) → Terms A → Type 0
AreBuiltBy leaf letter = AreBuiltWith leaf letter AnyCentre

abbrev pub LinksAreBuiltBy : {A : Type 0} → (A → Bool) → (A → Bool) → Links A → Type 0
LinksAreBuiltBy leaf letter = LinksAreBuiltWith leaf letter AnyCentre

abbrev pub ContextsAreBuiltBy : {A : Type 0} → (A → Bool) → (A → Bool) → Contexts A → Type 0
ContextsAreBuiltBy leaf letter = ContextsAreBuiltWith leaf letter AnyCentre

abbrev pub StepsAreBuiltBy : {A : Type 0} → (A → Bool) → (A → Bool) → Steps A → Type 0
StepsAreBuiltBy leaf letter = StepsAreBuiltWith leaf letter AnyCentre

abbrev pub MappingsAreBuiltBy : {A : Type 0} → (A → Bool) → (A → Bool) → Mappings A → Type 0
MappingsAreBuiltBy leaf letter = MappingsAreBuiltWith leaf letter AnyCentre

abbrev pub GroupsAreBuiltBy : {A : Type 0} → (A → Bool) → (A → Bool) → Groups A → Type 0
GroupsAreBuiltBy leaf letter = GroupsAreBuiltWith leaf letter AnyCentre

-- and where one test is for all leaves
abbrev pub IsBuilt : {A : Type 0} → (A → Bool) → Term A → Type 0
IsBuilt leaf = IsBuiltBy leaf leaf

abbrev pub AreBuilt : {A : Type 0} → (A → Bool) → Terms A → Type 0
AreBuilt leaf = AreBuiltBy leaf leaf

abbrev pub LinksAreBuilt : {A : Type 0} → (A → Bool) → Links A → Type 0
LinksAreBuilt leaf = LinksAreBuiltBy leaf leaf

abbrev pub ContextsAreBuilt : {A : Type 0} → (A → Bool) → Contexts A → Type 0
ContextsAreBuilt leaf = ContextsAreBuiltBy leaf leaf

abbrev pub StepsAreBuilt : {A : Type 0} → (A → Bool) → Steps A → Type 0
StepsAreBuilt leaf = StepsAreBuiltBy leaf leaf

abbrev pub MappingsAreBuilt : {A : Type 0} → (A → Bool) → Mappings A → Type 0
MappingsAreBuilt leaf = MappingsAreBuiltBy leaf leaf

abbrev pub GroupsAreBuilt : {A : Type 0} → (A → Bool) → Groups A → Type 0
GroupsAreBuilt leaf = GroupsAreBuiltBy leaf leaf
