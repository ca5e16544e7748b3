use Rattle.std.proofs.Common.{◌≡◌, ℕ, List, [], Some, codes, map, sym, subst, arith}
use Rattle.std.specs.List.{Contains, slice_get}
use Rattle.std.proofs.lemmas.Option.{slice_get_within}
use Rattle.std.proofs.lemmas.Result.{IfOk-weaker}
use Rattle.network_lexicons.specs.Plain.{lexicon_of, names_of}
use Rattle.network_lexicons.specs.Entries.{AreLexiconsFor}
use Rattle.network_lexicons.proofs.Placed.{names_counted}
use Rattle.network_lexicons.proofs.Related.{pairs_alphabet, related_network}
use Rattle.network_lexicons.proofs.Resolutions.{is_relation, letters_at}
use Rattle.network_lexicons.proofs.build.network_of_lexicons.Goals as goal

pub unreachable-requires : goal.unreachable-requires
unreachable-requires c = c.in_default.ensures (subst (λ (names : List (List ℕ)). Contains names (codes "Root")) (sym c.in_ok-names.ensures) c.requires.root)

pub new-requires-clause-root : goal.new-requires-clause-root
new-requires-clause-root c =
    let names = names_of (map lexicon_of c.args.lexicons.now) in
    let at : slice_get names c.in-Some.root ≡ Some (codes "Root") = subst (λ (ns : List (List ℕ)). slice_get ns c.in-Some.root ≡ Some (codes "Root")) c.in_ok-names.ensures c.in-Some.ensures in
    let within = slice_get_within names c.in-Some.root (codes "Root") at in
    let counted = names_counted c.args.lexicons.now in
    omega arith

pub returns-clause-letters : goal.returns-clause-letters
returns-clause-letters c =
    let alphabet = c.args.alphabet.now in
    let lexicons = map lexicon_of c.args.lexicons.now in
    let flags = c.add_lexicons.new.flags in
    let root = subst (λ (ns : List (List ℕ)). slice_get ns c.in-Some.root ≡ Some (codes "Root")) c.in_ok-names.ensures c.in-Some.ensures in
    let given = c.in_ok-add_lexicons.ensures.given.1 c.in-Some.root [] c.in_ok-builder.ensures.given in
    let are = subst (λ (ns : List (List ℕ)). AreLexiconsFor c.args.parts.now alphabet ns flags lexicons given.0) c.in_ok-names.ensures given.1 in
    let letters = c.finish.ensures.letters c.in-Some.root given.0 given.2 in
    let over = pairs_alphabet c.args.parts.now alphabet lexicons c.requires.distinct flags given.0 are c.in-Some.root root c.in_ok-tapes.tapes (λ x uses. letters x (c.in_ok-tapes.ensures.letters x uses)) in
    IfOk-weaker _ _ _ (letters_at c.in_ok-tapes.tapes alphabet over) c.network_of_tapes.ensures.letters

pub returns-clause-kind : goal.returns-clause-kind
returns-clause-kind c = IfOk-weaker _ _ _ (λ n. is_relation _ n) c.network_of_tapes.ensures.meaning

pub returns-clause-meaning : goal.returns-clause-meaning
returns-clause-meaning c =
    let alphabet = c.args.alphabet.now in
    let lexicons = map lexicon_of c.args.lexicons.now in
    let flags = c.add_lexicons.new.flags in
    let root = subst (λ (ns : List (List ℕ)). slice_get ns c.in-Some.root ≡ Some (codes "Root")) c.in_ok-names.ensures c.in-Some.ensures in
    let given = c.in_ok-add_lexicons.ensures.given.1 c.in-Some.root [] c.in_ok-builder.ensures.given in
    let are = subst (λ (ns : List (List ℕ)). AreLexiconsFor c.args.parts.now alphabet ns flags lexicons given.0) c.in_ok-names.ensures given.1 in
    let paths = c.finish.ensures.language c.in-Some.root given.0 given.2 in
    let same = c.in_ok-tapes.ensures.language in
    IfOk-weaker _ _ _
    (λ n. related_network c.args.parts.now alphabet lexicons c.requires.distinct flags given.0 are c.in-Some.root root c.in_ok-tapes.tapes (λ tape. (λ h. (paths tape).0 ((same tape).0 h), λ h. (same tape).1 ((paths tape).1 h))) n)
    (rw c.as_slice.ensures at c.network_of_tapes.ensures.meaning)
