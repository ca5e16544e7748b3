-- Expressions that are built, by their leaves.
use Rattle.std.proofs.Common.{◌++◌, Bool, List, [], IsTrue, All, Contains, sym, subst}
use Rattle.std.proofs.lemmas.List.Elements.{All-nil, All-cons, All-append, All-contains, All-weaker, All-contains_itself, Contains-append_left, Contains-append_right, Contains-push}
use Rattle.std.proofs.lemmas.List.Sums.{AllPass-from_list_all, list_all-from_AllPass}
use Rattle.std.specs.List.{list_all}
use Rattle.regex_ast.specs.Terms.{Term, Terms, Links, Contexts, Steps, Mappings, Groups}
use Rattle.regex_ast.specs.Terms.{empty, any, edge, atom, letters, group, maybe, not_one, cross, suffixed, prefixed, ignore, concat, chain, only, rules, directed, steps, no_term, then_term, no_link, or, and, less, no_context, between, no_step, cross_with, then, no_mapping, plain, markup, insert, no_group, then_group}
use Rattle.expr_kinds.specs.Built.{AreBuilt, LinksAreBuilt, ContextsAreBuilt, StepsAreBuilt, MappingsAreBuilt, GroupsAreBuilt, AnyCentre, IsBuiltBy, AreBuiltWith, LinksAreBuiltWith, ContextsAreBuiltWith, StepsAreBuiltWith, MappingsAreBuiltWith, GroupsAreBuiltWith}
use Rattle.expr_leaves.specs.Leaves.{leaves_in, leaves_in_each, leaves_in_links, leaves_in_contexts, leaves_in_steps, leaves_in_mappings, leaves_in_groups}
use Rattle.expr_leaves.proofs.Behind.{flat_map-alone}

module _ {A : Type 0} (spells : A → Bool) where
  -- the leaves that pass
  abbrev Passes : A → Type 0
  Passes a = IsTrue (spells a)

  all_pass : (xs : List A) → IsTrue (list_all spells xs) → All Passes xs
  all_pass xs h = AllPass-from_list_all spells xs h

  mutual
    -- each leaf of an expression that is built passes
    pub leaves_pass : (e : Term A) → IsBuiltBy spells spells e → All Passes (leaves_in e)
    leaves_pass empty h = All-nil Passes
    leaves_pass any h = All-nil Passes
    leaves_pass edge h = All-nil Passes
    leaves_pass (atom a) h = All-cons Passes a [] h (All-nil Passes)
    leaves_pass (letters all) h = subst (All Passes) (sym (flat_map-alone all)) (all_pass all h)
    leaves_pass (group e) h = leaves_pass e h
    leaves_pass (maybe e) h = leaves_pass e h
    leaves_pass (not_one n e) h = leaves_pass e h
    leaves_pass (cross e f) h = All-append Passes (leaves_in e) (leaves_in f) (leaves_pass e h.0) (leaves_pass f h.1)
    leaves_pass (suffixed e suffixes) h = leaves_pass e h
    leaves_pass (prefixed prefixes e) h = leaves_pass e h
    leaves_pass (ignore es) h = each_passes es h
    leaves_pass (concat es) h = each_passes es h
    leaves_pass (chain e links) h = All-append Passes (leaves_in e) (leaves_in_links links) (leaves_pass e h.0) (links_pass links h.1)
    leaves_pass (only e contexts) h = All-append Passes (leaves_in e) (leaves_in_contexts contexts) (leaves_pass e h.0) (contexts_pass contexts h.1)
    leaves_pass (rules optional groups) h = groups_pass groups h.1
    leaves_pass (directed way maps contexts) h = All-append Passes (leaves_in_mappings maps) (leaves_in_contexts contexts) (mappings_pass maps h.1) (contexts_pass contexts h.2)
    leaves_pass (steps e more) h = All-append Passes (leaves_in e) (leaves_in_steps more) (leaves_pass e h.0) (steps_pass more h.1)

    each_passes : (es : Terms A) → AreBuilt spells es → All Passes (leaves_in_each es)
    each_passes no_term h = All-nil Passes
    each_passes (then_term e es) h = All-append Passes (leaves_in e) (leaves_in_each es) (leaves_pass e h.0) (each_passes es h.1)

    links_pass : (links : Links A) → LinksAreBuilt spells links → All Passes (leaves_in_links links)
    links_pass no_link h = All-nil Passes
    links_pass (or e links) h = All-append Passes (leaves_in e) (leaves_in_links links) (leaves_pass e h.0) (links_pass links h.1)
    links_pass (and e links) h = All-append Passes (leaves_in e) (leaves_in_links links) (leaves_pass e h.0) (links_pass links h.1)
    links_pass (less e links) h = All-append Passes (leaves_in e) (leaves_in_links links) (leaves_pass e h.0) (links_pass links h.1)

    pub contexts_pass : (contexts : Contexts A) → ContextsAreBuilt spells contexts → All Passes (leaves_in_contexts contexts)
    contexts_pass no_context h = All-nil Passes
    contexts_pass (between l r contexts) h =
        let both = All-append Passes (leaves_in l) (leaves_in r) (leaves_pass l h.0) (leaves_pass r h.1) in
        All-append Passes (leaves_in l ++ leaves_in r) (leaves_in_contexts contexts) both (contexts_pass contexts h.2)

    steps_pass : (more : Steps A) → StepsAreBuilt spells more → All Passes (leaves_in_steps more)
    steps_pass no_step h = All-nil Passes
    steps_pass (cross_with e more) h = All-append Passes (leaves_in e) (leaves_in_steps more) (leaves_pass e h.0) (steps_pass more h.1)
    steps_pass (then e more) h = All-append Passes (leaves_in e) (leaves_in_steps more) (leaves_pass e h.0) (steps_pass more h.1)

    mappings_pass : (maps : Mappings A) → MappingsAreBuilt spells maps → All Passes (leaves_in_mappings maps)
    mappings_pass no_mapping h = All-nil Passes
    mappings_pass (plain c r maps) h =
        All-append Passes (leaves_in c ++ leaves_in r) (leaves_in_mappings maps) (All-append Passes (leaves_in c) (leaves_in r) (leaves_pass c h.1) (leaves_pass r h.2)) (mappings_pass maps h.3)
    mappings_pass (markup c b a maps) h =
        let first = All-append Passes (leaves_in c) (leaves_in b) (leaves_pass c h.1) (leaves_pass b h.2) in
        All-append Passes (leaves_in c ++ leaves_in b ++ leaves_in a) (leaves_in_mappings maps) (All-append Passes (leaves_in c ++ leaves_in b) (leaves_in a) first (leaves_pass a h.3)) (mappings_pass maps h.4)
    mappings_pass (insert r maps) h = All-append Passes (leaves_in r) (leaves_in_mappings maps) (leaves_pass r h.0) (mappings_pass maps h.1)

    groups_pass : (groups : Groups A) → GroupsAreBuilt spells groups → All Passes (leaves_in_groups groups)
    groups_pass no_group h = All-nil Passes
    groups_pass (then_group maps side contexts groups) h =
        All-append Passes (leaves_in_mappings maps ++ leaves_in_contexts contexts) (leaves_in_groups groups)
        (All-append Passes (leaves_in_mappings maps) (leaves_in_contexts contexts) (mappings_pass maps h.0) (contexts_pass contexts h.1)) (groups_pass groups h.2)

-- an expression that is built is so by any tests that its leaves pass, where those in braces pass the second
module _ {A : Type 0} (spells letter passes held : A → Bool) where
  -- leaves that pass the first of two tests pass the other one
  abbrev Follows : (A → Bool) → (A → Bool) → List A → Type 0
  Follows p q xs = (a : A) → Contains xs a → IsTrue (p a) → IsTrue (q a)

  -- what follows from the leaves of two parts
  abbrev Both : List A → Type 0
  Both xs = Follows spells passes xs × Follows letter held xs

  both : {P Q : Type 0} (xs ys : List A) → (Both xs → P) → (Both ys → Q) → Both (xs ++ ys) → P × Q
  both xs ys p q (s, t) = (
    p (λ a at. s a (Contains-append_left xs ys a at), λ a at. t a (Contains-append_left xs ys a at)),
    q (λ a at. s a (Contains-append_right xs ys a at), λ a at. t a (Contains-append_right xs ys a at)),
  )

  each : (xs : List A) → IsTrue (list_all letter xs) → Follows letter held xs → IsTrue (list_all held xs)
  each xs h t =
      list_all-from_AllPass held xs
      (All-weaker (Contains xs) (λ a. IsTrue (held a)) (λ a at. t a at (All-contains (λ b. IsTrue (letter b)) xs a (AllPass-from_list_all letter xs h) at)) xs (All-contains_itself xs))

  mutual
    pub built_by : (e : Term A) → IsBuiltBy spells letter e → Both (leaves_in e) → IsBuiltBy passes held e
    built_by empty h s = tt
    built_by any h s = tt
    built_by edge h s = tt
    built_by (atom a) h (s, t) = s a (Contains-push [] a) h
    built_by (letters all) h (s, t) = each all h (subst (Follows letter held) (flat_map-alone all) t)
    built_by (group e) h s = built_by e h s
    built_by (maybe e) h s = built_by e h s
    built_by (not_one n e) h s = built_by e h s
    built_by (cross e f) h s = both (leaves_in e) (leaves_in f) (built_by e h.0) (built_by f h.1) s
    built_by (suffixed e suffixes) h s = built_by e h s
    built_by (prefixed prefixes e) h s = built_by e h s
    built_by (ignore es) h s = each_by es h s
    built_by (concat es) h s = each_by es h s
    built_by (chain e links) h s = both (leaves_in e) (leaves_in_links links) (built_by e h.0) (links_by links h.1) s
    built_by (only e contexts) h s = both (leaves_in e) (leaves_in_contexts contexts) (built_by e h.0) (contexts_by contexts h.1) s
    built_by (rules optional groups) h s = (h.0, groups_by groups h.1 s)
    built_by (directed way maps contexts) h s = let parts = both (leaves_in_mappings maps) (leaves_in_contexts contexts) (mappings_by maps h.1) (contexts_by contexts h.2) s in (h.0, parts.0, parts.1)
    built_by (steps e more) h s = both (leaves_in e) (leaves_in_steps more) (built_by e h.0) (steps_by more h.1) s

    each_by : (es : Terms A) → AreBuiltWith spells letter AnyCentre es → Both (leaves_in_each es) → AreBuiltWith passes held AnyCentre es
    each_by no_term h s = tt
    each_by (then_term e es) h s = both (leaves_in e) (leaves_in_each es) (built_by e h.0) (each_by es h.1) s

    links_by : (links : Links A) → LinksAreBuiltWith spells letter AnyCentre links → Both (leaves_in_links links) → LinksAreBuiltWith passes held AnyCentre links
    links_by no_link h s = tt
    links_by (or e links) h s = both (leaves_in e) (leaves_in_links links) (built_by e h.0) (links_by links h.1) s
    links_by (and e links) h s = both (leaves_in e) (leaves_in_links links) (built_by e h.0) (links_by links h.1) s
    links_by (less e links) h s = both (leaves_in e) (leaves_in_links links) (built_by e h.0) (links_by links h.1) s

    pub contexts_by : (contexts : Contexts A) → ContextsAreBuiltWith spells letter AnyCentre contexts → Both (leaves_in_contexts contexts) → ContextsAreBuiltWith passes held AnyCentre contexts
    contexts_by no_context h s = tt
    contexts_by (between l r contexts) h s =
        let sides = both (leaves_in l) (leaves_in r) (built_by l h.0) (built_by r h.1) in
        let all = both (leaves_in l ++ leaves_in r) (leaves_in_contexts contexts) sides (contexts_by contexts h.2) s in
        (all.0.0, all.0.1, all.1)

    steps_by : (more : Steps A) → StepsAreBuiltWith spells letter AnyCentre more → Both (leaves_in_steps more) → StepsAreBuiltWith passes held AnyCentre more
    steps_by no_step h s = tt
    steps_by (cross_with e more) h s = both (leaves_in e) (leaves_in_steps more) (built_by e h.0) (steps_by more h.1) s
    steps_by (then e more) h s = both (leaves_in e) (leaves_in_steps more) (built_by e h.0) (steps_by more h.1) s

    mappings_by : (maps : Mappings A) → MappingsAreBuiltWith spells letter AnyCentre maps → Both (leaves_in_mappings maps) → MappingsAreBuiltWith passes held AnyCentre maps
    mappings_by no_mapping h s = tt
    mappings_by (plain c r maps) h s =
        let parts = both (leaves_in c) (leaves_in r) (built_by c h.1) (built_by r h.2) in
        let all = both (leaves_in c ++ leaves_in r) (leaves_in_mappings maps) parts (mappings_by maps h.3) s in
        (tt, all.0.0, all.0.1, all.1)
    mappings_by (markup c b a maps) h s =
        let first = both (leaves_in c) (leaves_in b) (built_by c h.1) (built_by b h.2) in
        let parts = both (leaves_in c ++ leaves_in b) (leaves_in a) first (built_by a h.3) in
        let all = both (leaves_in c ++ leaves_in b ++ leaves_in a) (leaves_in_mappings maps) parts (mappings_by maps h.4) s in
        (tt, all.0.0.0, all.0.0.1, all.0.1, all.1)
    mappings_by (insert r maps) h s = both (leaves_in r) (leaves_in_mappings maps) (built_by r h.0) (mappings_by maps h.1) s

    groups_by : (groups : Groups A) → GroupsAreBuiltWith spells letter AnyCentre groups → Both (leaves_in_groups groups) → GroupsAreBuiltWith passes held AnyCentre groups
    groups_by no_group h s = tt
    groups_by (then_group maps side contexts groups) h s =
        let parts = both (leaves_in_mappings maps) (leaves_in_contexts contexts) (mappings_by maps h.0) (contexts_by contexts h.1) in
        let all = both (leaves_in_mappings maps ++ leaves_in_contexts contexts) (leaves_in_groups groups) parts (groups_by groups h.2) s in
        (all.0.0, all.0.1, all.1)

-- one test in place of two, of which the second passes no more than the first
pub built_alone : {A : Type 0} (spells letter : A → Bool) → ((a : A) → IsTrue (letter a) → IsTrue (spells a)) → (e : Term A) → IsBuiltBy spells letter e → IsBuiltBy spells spells e
built_alone spells letter fewer e h = built_by spells letter spells spells e h (λ a at p. p, λ a at p. fewer a p)

-- where leaves that pass a test each time pass another one, what is built each time is built by that
module _ {A : Type 0} (one one_letter two two_letter passes : A → Bool) (leaf : (a : A) → IsTrue (one a) → IsTrue (two a) → IsTrue (passes a))
    (letter : (a : A) → IsTrue (one_letter a) → IsTrue (passes a)) where
  letters_both : (all : List A) → IsTrue (list_all one_letter all) → IsTrue (list_all passes all)
  letters_both all h = list_all-from_AllPass passes all (All-weaker (λ a. IsTrue (one_letter a)) (λ a. IsTrue (passes a)) letter all (AllPass-from_list_all one_letter all h))

  mutual
    pub built_both : (e : Term A) → IsBuiltBy one one_letter e → IsBuiltBy two two_letter e → IsBuiltBy passes passes e
    built_both empty h g = tt
    built_both any h g = tt
    built_both edge h g = tt
    built_both (atom a) h g = leaf a h g
    built_both (letters all) h g = letters_both all h
    built_both (group e) h g = built_both e h g
    built_both (maybe e) h g = built_both e h g
    built_both (not_one n e) h g = built_both e h g
    built_both (cross e f) h g = (built_both e h.0 g.0, built_both f h.1 g.1)
    built_both (suffixed e suffixes) h g = built_both e h g
    built_both (prefixed prefixes e) h g = built_both e h g
    built_both (ignore es) h g = each_both es h g
    built_both (concat es) h g = each_both es h g
    built_both (chain e links) h g = (built_both e h.0 g.0, links_both links h.1 g.1)
    built_both (only e contexts) h g = (built_both e h.0 g.0, contexts_both contexts h.1 g.1)
    built_both (rules optional groups) h g = (h.0, groups_both groups h.1 g.1)
    built_both (directed way maps contexts) h g = (h.0, mappings_both maps h.1 g.1, contexts_both contexts h.2 g.2)
    built_both (steps e more) h g = (built_both e h.0 g.0, steps_both more h.1 g.1)

    each_both : (es : Terms A) → AreBuiltWith one one_letter AnyCentre es → AreBuiltWith two two_letter AnyCentre es → AreBuilt passes es
    each_both no_term h g = tt
    each_both (then_term e es) h g = (built_both e h.0 g.0, each_both es h.1 g.1)

    links_both : (links : Links A) → LinksAreBuiltWith one one_letter AnyCentre links → LinksAreBuiltWith two two_letter AnyCentre links → LinksAreBuilt passes links
    links_both no_link h g = tt
    links_both (or e links) h g = (built_both e h.0 g.0, links_both links h.1 g.1)
    links_both (and e links) h g = (built_both e h.0 g.0, links_both links h.1 g.1)
    links_both (less e links) h g = (built_both e h.0 g.0, links_both links h.1 g.1)

    contexts_both : (contexts : Contexts A) → ContextsAreBuiltWith one one_letter AnyCentre contexts → ContextsAreBuiltWith two two_letter AnyCentre contexts → ContextsAreBuilt passes contexts
    contexts_both no_context h g = tt
    contexts_both (between l r contexts) h g = (built_both l h.0 g.0, built_both r h.1 g.1, contexts_both contexts h.2 g.2)

    steps_both : (more : Steps A) → StepsAreBuiltWith one one_letter AnyCentre more → StepsAreBuiltWith two two_letter AnyCentre more → StepsAreBuilt passes more
    steps_both no_step h g = tt
    steps_both (cross_with e more) h g = (built_both e h.0 g.0, steps_both more h.1 g.1)
    steps_both (then e more) h g = (built_both e h.0 g.0, steps_both more h.1 g.1)

    mappings_both : (maps : Mappings A) → MappingsAreBuiltWith one one_letter AnyCentre maps → MappingsAreBuiltWith two two_letter AnyCentre maps → MappingsAreBuilt passes maps
    mappings_both no_mapping h g = tt
    mappings_both (plain c r maps) h g = (tt, built_both c h.1 g.1, built_both r h.2 g.2, mappings_both maps h.3 g.3)
    mappings_both (markup c b a maps) h g = (tt, built_both c h.1 g.1, built_both b h.2 g.2, built_both a h.3 g.3, mappings_both maps h.4 g.4)
    mappings_both (insert r maps) h g = (built_both r h.0 g.0, mappings_both maps h.1 g.1)

    groups_both : (groups : Groups A) → GroupsAreBuiltWith one one_letter AnyCentre groups → GroupsAreBuiltWith two two_letter AnyCentre groups → GroupsAreBuilt passes groups
    groups_both no_group h g = tt
    groups_both (then_group maps side contexts groups) h g = (mappings_both maps h.0 g.0, contexts_both contexts h.1 g.1, groups_both groups h.2 g.2)
