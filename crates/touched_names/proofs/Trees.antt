-- A test of whether two expressions are the same, by their forms.
use Rattle.std.proofs.Common.{◌≡◌, ℕ, zero, suc, Bool, true, false, ◌&&◌, List, refl, ap, ◌∙◌}
use Rattle.std.proofs.lemmas.Bool.{false≢true, and_parts}
use Rattle.regex_ast.specs.declared.expr.Side.{Side}
use Rattle.regex_ast.specs.declared.expr.Side.TheVariants.{UpUp, LowUp, UpLow, LowLow}
use Rattle.regex_ast.specs.declared.expr.Way.{Way}
use Rattle.regex_ast.specs.declared.expr.Way.TheVariants.{LeftLongest, LeftShortest, RightLongest, RightShortest}
use Rattle.regex_ast.specs.declared.expr.Suffix.{Suffix}
use Rattle.regex_ast.specs.declared.expr.Suffix.TheVariants.{Star, Plus, Power, Upper, Lower, Inverse, Reverse}
use Rattle.regex_ast.specs.declared.expr.Prefix.{Prefix}
use Rattle.regex_ast.specs.declared.expr.Prefix.TheVariants.{Not, Contains}
use Rattle.regex_ast.specs.Terms.{Term, Terms, Links, Contexts, Steps, Mappings, Groups, empty, any, edge, atom, letters, group, maybe, not_one, cross, suffixed, prefixed, ignore, concat, chain, only, rules, directed, steps, no_term, then_term, no_link, or, and, less, no_context, between, no_step, cross_with, then, no_mapping, plain, markup, insert, no_group, then_group}
use Rattle.touched_names.proofs.Tests.{Test, and_true, two_are, number_test, known_by, list_test}

-- suffixes, prefixes, sides, ways and truth values, by numbers
abbrev suffix_number : Suffix → ℕ
suffix_number Star = 0
suffix_number Plus = 1
suffix_number Upper = 2
suffix_number Lower = 3
suffix_number Inverse = 4
suffix_number Reverse = 5
suffix_number (Power n) = suc (suc (suc (suc (suc (suc n)))))

abbrev suffix_of : ℕ → Suffix
suffix_of zero = Star
suffix_of (suc zero) = Plus
suffix_of (suc (suc zero)) = Upper
suffix_of (suc (suc (suc zero))) = Lower
suffix_of (suc (suc (suc (suc zero)))) = Inverse
suffix_of (suc (suc (suc (suc (suc zero))))) = Reverse
suffix_of (suc (suc (suc (suc (suc (suc n)))))) = Power n

suffix_back : (s : Suffix) → suffix_of (suffix_number s) ≡ s
suffix_back Star = refl
suffix_back Plus = refl
suffix_back Upper = refl
suffix_back Lower = refl
suffix_back Inverse = refl
suffix_back Reverse = refl
suffix_back (Power n) = refl

abbrev prefix_number : Prefix → ℕ
prefix_number Not = 0
prefix_number Contains = 1

abbrev prefix_of : ℕ → Prefix
prefix_of zero = Not
prefix_of (suc n) = Contains

prefix_back : (p : Prefix) → prefix_of (prefix_number p) ≡ p
prefix_back Not = refl
prefix_back Contains = refl

abbrev side_number : Side → ℕ
side_number UpUp = 0
side_number LowUp = 1
side_number UpLow = 2
side_number LowLow = 3

abbrev side_of : ℕ → Side
side_of zero = UpUp
side_of (suc zero) = LowUp
side_of (suc (suc zero)) = UpLow
side_of (suc (suc (suc n))) = LowLow

side_back : (s : Side) → side_of (side_number s) ≡ s
side_back UpUp = refl
side_back LowUp = refl
side_back UpLow = refl
side_back LowLow = refl

abbrev way_number : Way → ℕ
way_number LeftLongest = 0
way_number LeftShortest = 1
way_number RightLongest = 2
way_number RightShortest = 3

abbrev way_of : ℕ → Way
way_of zero = LeftLongest
way_of (suc zero) = LeftShortest
way_of (suc (suc zero)) = RightLongest
way_of (suc (suc (suc n))) = RightShortest

way_back : (w : Way) → way_of (way_number w) ≡ w
way_back LeftLongest = refl
way_back LeftShortest = refl
way_back RightLongest = refl
way_back RightShortest = refl

abbrev truth_number : Bool → ℕ
truth_number false = 0
truth_number true = 1

abbrev truth_of : ℕ → Bool
truth_of zero = false
truth_of (suc n) = true

truth_back : (b : Bool) → truth_of (truth_number b) ≡ b
truth_back false = refl
truth_back true = refl

suffix_test : Test Suffix
suffix_test = known_by suffix_number suffix_of suffix_back number_test

prefix_test : Test Prefix
prefix_test = known_by prefix_number prefix_of prefix_back number_test

side_test : Test Side
side_test = known_by side_number side_of side_back number_test

way_test : Test Way
way_test = known_by way_number way_of way_back number_test

truth_test : Test Bool
truth_test = known_by truth_number truth_of truth_back number_test

suffixes_test : Test (List Suffix)
suffixes_test = list_test suffix_test

prefixes_test : Test (List Prefix)
prefixes_test = list_test prefix_test

module _ {A : Type 0} (leaf : Test A) where
  abbrev leaves : Test (List A)
  leaves = list_test leaf

  abbrev mutual
    same_term : Term A → Term A → Bool
    same_term empty empty = true
    same_term any any = true
    same_term edge edge = true
    same_term (atom a) (atom b) = leaf.same a b
    same_term (letters a) (letters b) = leaves.same a b
    same_term (group e) (group f) = same_term e f
    same_term (maybe e) (maybe f) = same_term e f
    same_term (not_one n e) (not_one m f) = number_test.same n m && same_term e f
    same_term (cross e g) (cross f h) = same_term e f && same_term g h
    same_term (suffixed e a) (suffixed f b) = same_term e f && suffixes_test.same a b
    same_term (prefixed a e) (prefixed b f) = prefixes_test.same a b && same_term e f
    same_term (ignore a) (ignore b) = same_terms a b
    same_term (concat a) (concat b) = same_terms a b
    same_term (chain e a) (chain f b) = same_term e f && same_links a b
    same_term (only e a) (only f b) = same_term e f && same_contexts a b
    same_term (rules o a) (rules p b) = truth_test.same o p && same_groups a b
    same_term (directed u m a) (directed v n b) = way_test.same u v && (same_mappings m n && same_contexts a b)
    same_term (steps e a) (steps f b) = same_term e f && same_steps a b
    same_term _ _ = false

    same_terms : Terms A → Terms A → Bool
    same_terms no_term no_term = true
    same_terms (then_term e a) (then_term f b) = same_term e f && same_terms a b
    same_terms _ _ = false

    same_links : Links A → Links A → Bool
    same_links no_link no_link = true
    same_links (or e a) (or f b) = same_term e f && same_links a b
    same_links (and e a) (and f b) = same_term e f && same_links a b
    same_links (less e a) (less f b) = same_term e f && same_links a b
    same_links _ _ = false

    same_contexts : Contexts A → Contexts A → Bool
    same_contexts no_context no_context = true
    same_contexts (between l r a) (between k s b) = same_term l k && (same_term r s && same_contexts a b)
    same_contexts _ _ = false

    same_steps : Steps A → Steps A → Bool
    same_steps no_step no_step = true
    same_steps (cross_with e a) (cross_with f b) = same_term e f && same_steps a b
    same_steps (then e a) (then f b) = same_term e f && same_steps a b
    same_steps _ _ = false

    same_mappings : Mappings A → Mappings A → Bool
    same_mappings no_mapping no_mapping = true
    same_mappings (plain c r a) (plain d s b) = same_term c d && (same_term r s && same_mappings a b)
    same_mappings (markup c l r a) (markup d k s b) = same_term c d && (same_term l k && (same_term r s && same_mappings a b))
    same_mappings (insert r a) (insert s b) = same_term r s && same_mappings a b
    same_mappings _ _ = false

    same_groups : Groups A → Groups A → Bool
    same_groups no_group no_group = true
    same_groups (then_group m s c a) (then_group n t d b) = same_mappings m n && (side_test.same s t && (same_contexts c d && same_groups a b))
    same_groups _ _ = false

  mutual
    term_is : (e f : Term A) → same_term e f ≡ true → e ≡ f
    term_is empty empty is = refl
    term_is any any is = refl
    term_is edge edge is = refl
    term_is (atom a) (atom b) is = ap atom (leaf.sound a b is)
    term_is (letters a) (letters b) is = ap letters (leaves.sound a b is)
    term_is (group e) (group f) is = ap group (term_is e f is)
    term_is (maybe e) (maybe f) is = ap maybe (term_is e f is)
    term_is (not_one n e) (not_one m f) is = two_are not_one n m e f (number_test.same n m) (same_term e f) (number_test.sound n m) (term_is e f) is
    term_is (cross e g) (cross f h) is = two_are cross e f g h (same_term e f) (same_term g h) (term_is e f) (term_is g h) is
    term_is (suffixed e a) (suffixed f b) is = two_are suffixed e f a b (same_term e f) (suffixes_test.same a b) (term_is e f) (suffixes_test.sound a b) is
    term_is (prefixed a e) (prefixed b f) is = two_are prefixed a b e f (prefixes_test.same a b) (same_term e f) (prefixes_test.sound a b) (term_is e f) is
    term_is (ignore a) (ignore b) is = ap ignore (terms_are a b is)
    term_is (concat a) (concat b) is = ap concat (terms_are a b is)
    term_is (chain e a) (chain f b) is = two_are chain e f a b (same_term e f) (same_links a b) (term_is e f) (links_are a b) is
    term_is (only e a) (only f b) is = two_are only e f a b (same_term e f) (same_contexts a b) (term_is e f) (contexts_are a b) is
    term_is (rules o a) (rules p b) is = two_are rules o p a b (truth_test.same o p) (same_groups a b) (truth_test.sound o p) (groups_are a b) is
    term_is (directed u m a) (directed v n b) is =
        let first = and_parts (way_test.same u v) (same_mappings m n && same_contexts a b) is in
        let way = way_test.sound u v first.0 in
        let rest = two_are (directed u) m n a b (same_mappings m n) (same_contexts a b) (mappings_are m n) (contexts_are a b) first.1 in
        rest ∙ ap (λ (w : Way). directed w n b) way
    term_is (steps e a) (steps f b) is = two_are steps e f a b (same_term e f) (same_steps a b) (term_is e f) (steps_are a b) is
    term_is _ _ is = absurd (false≢true is)

    terms_are : (a b : Terms A) → same_terms a b ≡ true → a ≡ b
    terms_are no_term no_term is = refl
    terms_are (then_term e a) (then_term f b) is = two_are then_term e f a b (same_term e f) (same_terms a b) (term_is e f) (terms_are a b) is
    terms_are _ _ is = absurd (false≢true is)

    links_are : (a b : Links A) → same_links a b ≡ true → a ≡ b
    links_are no_link no_link is = refl
    links_are (or e a) (or f b) is = two_are or e f a b (same_term e f) (same_links a b) (term_is e f) (links_are a b) is
    links_are (and e a) (and f b) is = two_are and e f a b (same_term e f) (same_links a b) (term_is e f) (links_are a b) is
    links_are (less e a) (less f b) is = two_are less e f a b (same_term e f) (same_links a b) (term_is e f) (links_are a b) is
    links_are _ _ is = absurd (false≢true is)

    contexts_are : (a b : Contexts A) → same_contexts a b ≡ true → a ≡ b
    contexts_are no_context no_context is = refl
    contexts_are (between l r a) (between k s b) is =
        let first = and_parts (same_term l k) (same_term r s && same_contexts a b) is in
        let left = term_is l k first.0 in
        let rest = two_are (between l) r s a b (same_term r s) (same_contexts a b) (term_is r s) (contexts_are a b) first.1 in
        rest ∙ ap (λ (x : Term A). between x s b) left
    contexts_are _ _ is = absurd (false≢true is)

    steps_are : (a b : Steps A) → same_steps a b ≡ true → a ≡ b
    steps_are no_step no_step is = refl
    steps_are (cross_with e a) (cross_with f b) is = two_are cross_with e f a b (same_term e f) (same_steps a b) (term_is e f) (steps_are a b) is
    steps_are (then e a) (then f b) is = two_are then e f a b (same_term e f) (same_steps a b) (term_is e f) (steps_are a b) is
    steps_are _ _ is = absurd (false≢true is)

    mappings_are : (a b : Mappings A) → same_mappings a b ≡ true → a ≡ b
    mappings_are no_mapping no_mapping is = refl
    mappings_are (plain c r a) (plain d s b) is =
        let first = and_parts (same_term c d) (same_term r s && same_mappings a b) is in
        let centre = term_is c d first.0 in
        let rest = two_are (plain c) r s a b (same_term r s) (same_mappings a b) (term_is r s) (mappings_are a b) first.1 in
        rest ∙ ap (λ (x : Term A). plain x s b) centre
    mappings_are (markup c l r a) (markup d k s b) is =
        let first = and_parts (same_term c d) (same_term l k && (same_term r s && same_mappings a b)) is in
        let second = and_parts (same_term l k) (same_term r s && same_mappings a b) first.1 in
        let centre = term_is c d first.0 in
        let left = term_is l k second.0 in
        let rest = two_are (markup c l) r s a b (same_term r s) (same_mappings a b) (term_is r s) (mappings_are a b) second.1 in
        rest ∙ (λ i. markup (centre i) (left i) s b)
    mappings_are (insert r a) (insert s b) is = two_are insert r s a b (same_term r s) (same_mappings a b) (term_is r s) (mappings_are a b) is
    mappings_are _ _ is = absurd (false≢true is)

    groups_are : (a b : Groups A) → same_groups a b ≡ true → a ≡ b
    groups_are no_group no_group is = refl
    groups_are (then_group m s c a) (then_group n t d b) is =
        let first = and_parts (same_mappings m n) (side_test.same s t && (same_contexts c d && same_groups a b)) is in
        let second = and_parts (side_test.same s t) (same_contexts c d && same_groups a b) first.1 in
        let mapping = mappings_are m n first.0 in
        let side = side_test.sound s t second.0 in
        let rest = two_are (then_group m s) c d a b (same_contexts c d) (same_groups a b) (contexts_are c d) (groups_are a b) second.1 in
        rest ∙ (λ i. then_group (mapping i) (side i) d b)
    groups_are _ _ is = absurd (false≢true is)

  mutual
    term_itself : (e : Term A) → same_term e e ≡ true
    term_itself empty = refl
    term_itself any = refl
    term_itself edge = refl
    term_itself (atom a) = leaf.itself a
    term_itself (letters a) = leaves.itself a
    term_itself (group e) = term_itself e
    term_itself (maybe e) = term_itself e
    term_itself (not_one n e) = and_true (number_test.itself n) (term_itself e)
    term_itself (cross e f) = and_true (term_itself e) (term_itself f)
    term_itself (suffixed e a) = and_true (term_itself e) (suffixes_test.itself a)
    term_itself (prefixed a e) = and_true (prefixes_test.itself a) (term_itself e)
    term_itself (ignore a) = terms_itself a
    term_itself (concat a) = terms_itself a
    term_itself (chain e a) = and_true (term_itself e) (links_itself a)
    term_itself (only e a) = and_true (term_itself e) (contexts_itself a)
    term_itself (rules o a) = and_true (truth_test.itself o) (groups_itself a)
    term_itself (directed w m a) = and_true (way_test.itself w) (and_true (mappings_itself m) (contexts_itself a))
    term_itself (steps e a) = and_true (term_itself e) (steps_itself a)

    terms_itself : (a : Terms A) → same_terms a a ≡ true
    terms_itself no_term = refl
    terms_itself (then_term e a) = and_true (term_itself e) (terms_itself a)

    links_itself : (a : Links A) → same_links a a ≡ true
    links_itself no_link = refl
    links_itself (or e a) = and_true (term_itself e) (links_itself a)
    links_itself (and e a) = and_true (term_itself e) (links_itself a)
    links_itself (less e a) = and_true (term_itself e) (links_itself a)

    contexts_itself : (a : Contexts A) → same_contexts a a ≡ true
    contexts_itself no_context = refl
    contexts_itself (between l r a) = and_true (term_itself l) (and_true (term_itself r) (contexts_itself a))

    steps_itself : (a : Steps A) → same_steps a a ≡ true
    steps_itself no_step = refl
    steps_itself (cross_with e a) = and_true (term_itself e) (steps_itself a)
    steps_itself (then e a) = and_true (term_itself e) (steps_itself a)

    mappings_itself : (a : Mappings A) → same_mappings a a ≡ true
    mappings_itself no_mapping = refl
    mappings_itself (plain c r a) = and_true (term_itself c) (and_true (term_itself r) (mappings_itself a))
    mappings_itself (markup c l r a) = and_true (term_itself c) (and_true (term_itself l) (and_true (term_itself r) (mappings_itself a)))
    mappings_itself (insert r a) = and_true (term_itself r) (mappings_itself a)

    groups_itself : (a : Groups A) → same_groups a a ≡ true
    groups_itself no_group = refl
    groups_itself (then_group m s c a) = and_true (mappings_itself m) (and_true (side_test.itself s) (and_true (contexts_itself c) (groups_itself a)))

  pub term_test : Test (Term A)
  term_test = record { same = same_term; sound = term_is; itself = term_itself }

  pub contexts_test : Test (Contexts A)
  contexts_test = record { same = same_contexts; sound = contexts_are; itself = contexts_itself }
