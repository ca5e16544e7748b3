use Rattle.std.proofs.Common.{◌≡◌, Some, None, [], ◌++◌, ◌∷◌, List, length, refl, sym, ap, ◌∙◌, arith, rules}
use Rattle.std.specs.Bool.{⊤}
use Rattle.std.specs.Option.{option_map}
use Rattle.std.proofs.lemmas.List.{length-append}
use Rattle.regex_grammar.specs.Reading.{is_backslash, one_of, backslash_of}
use Rattle.regex_grammar.proofs.Loops.{many_begin, many_ends}
use Rattle.regex_tokens.specs.declared.token.Token.{Token}
use Rattle.regex_parser.specs.Levels.{backslashes_at}
use Rattle.regex_parser.proofs.Fronts.{one_shorter, backslash_begins, no_backslash}
use Rattle.regex_parser.proofs.Loops.{item_next}
use Rattle.regex_parser.proofs.front.backslashes.Goals as goal

pub marks-init : goal.marks-init
marks-init c = record { marks = []; counted = refl; within = omega arith; so_far = many_begin is_backslash (one_of backslash_of) c.args.tokens.now }

pub marks-preserved : goal.marks-preserved
marks-preserved c =
    let item : one_of backslash_of c.marks.rest.now ≡ Some (tt, c.in-Some.behind.now) = search rules in
    let less = one_shorter backslash_of c.marks.rest.now (tt, c.in-Some.behind.now) item in
    let here = backslash_begins c.marks.rest.now (tt, c.in-Some.behind.now) item in
    let found = c.marks.invariant.marks in
    record {
      marks = found ++ tt ∷ [];
      counted = omega (arith, c.marks.invariant.counted, length-append found (tt ∷ []));
      within = omega (arith, c.marks.invariant.within, less);
      so_far = item_next is_backslash (one_of backslash_of) c.args.tokens.now found (found ++ tt ∷ []) c.marks.rest.now tt c.in-Some.behind.now c.marks.invariant.so_far here item less refl;
    }

pub marks-smaller : goal.marks-smaller
marks-smaller c =
    let item : one_of backslash_of c.marks.rest.now ≡ Some (tt, c.in-Some.behind.now) = search rules in
    one_shorter backslash_of c.marks.rest.now (tt, c.in-Some.behind.now) item

pub returns : goal.returns
unfolding backslashes_at
returns c =
    let none : None ≡ one_of backslash_of c.marks.rest.now = search rules in
    let found = many_ends is_backslash (one_of backslash_of) c.args.tokens.now c.marks.invariant.marks c.marks.rest.now c.marks.invariant.so_far (no_backslash c.marks.rest.now none) in
    ap (option_map (λ (y : List ⊤ × List Token). (length y.0, y.1))) (sym found) ∙ ap (λ n. Some (n, c.marks.rest.now)) c.marks.invariant.counted
