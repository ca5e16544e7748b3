use Rattle.std.proofs.Common.{◌≡◌, None, Some}
use Rattle.fsa.specs.Language.{Accepts}
use Rattle.expr_meaning.specs.Operators.{IsPrefixed}
use Rattle.regex_ast.specs.declared.expr.Prefix.TheVariants.{Not, Contains as Part}
use Rattle.network_sets.proofs.Alike.{words_back}
use Rattle.network_sets.proofs.PrefixRows.{contains_settled, not_settled, none_behind, one_more_behind, two_more_behind, all_behind, some_same}
use Rattle.network_sets.proofs.prefixes.apply_prefixes.Goals as goal

pub prefixes-init : goal.prefixes-init
prefixes-init c = record {
  only = c.requires.only;
  done = none_behind c.args.alphabet.now c.args.prefixes.now (Accepts c.args.words);
  settled = λ is. let never : None ≡ Some Part = is in absurd (cc);
  turned = λ is. let never : None ≡ Some Not = is in absurd (cc);
}

pub prefixes-preserved-then-makes_nothing_new : goal.prefixes-preserved-then-makes_nothing_new
prefixes-preserved-then-makes_nothing_new c =
    let A = c.args.alphabet.now in
    let words = Accepts c.prefixes.words in
    let both = c.makes_nothing_new.ensures c.if-makes_nothing_new.true in
    let again = c.prefixes.invariant.settled both.1 in
    record {
      only = c.prefixes.invariant.only;
      done = one_more_behind A c.args.prefixes.now c.prefixes.rest.now c.in-Some.front.now c.in-Some.prefix.now (Accepts c.args.words) words words c.in-Some.ensures.cases.0 c.prefixes.invariant.done
          (some_same A c.in-Some.prefix.now words both.0 (words_back (IsPrefixed A Part words) words again));
      settled = c.prefixes.invariant.settled;
      turned = c.prefixes.invariant.turned;
    }

pub prefixes-preserved-in-Some-before_two_nots : goal.prefixes-preserved-in-Some-before_two_nots
prefixes-preserved-in-Some-before_two_nots c =
    let A = c.args.alphabet.now in
    let two = c.in-Some-before_two_nots.ensures in
    record {
      only = c.prefixes.invariant.only;
      done = two_more_behind A c.args.prefixes.now c.prefixes.rest.now c.in-Some.front.now c.in-Some-before_two_nots.before.now c.in-Some.prefix.now (Accepts c.args.words) (Accepts c.prefixes.words) c.in-Some.ensures.cases.0 two.2 two.1 c.prefixes.invariant.done (c.prefixes.invariant.turned two.0);
      settled = c.prefixes.invariant.settled;
      turned = c.prefixes.invariant.turned;
    }

pub prefixes-preserved : goal.prefixes-preserved
prefixes-preserved c =
    let A = c.args.alphabet.now in
    let before = Accepts c.prefixes.words in
    let words = Accepts c.in_ok-words.words in
    record {
      only = c.in_ok-words.ensures.letters;
      done = one_more_behind A c.args.prefixes.now c.prefixes.rest.now c.in-Some.front.now c.in-Some.prefix.now (Accepts c.args.words) before words c.in-Some.ensures.cases.0 c.prefixes.invariant.done c.in_ok-words.ensures.words;
      settled = λ is. contains_settled A c.in-Some.prefix.now before words c.in_ok-words.ensures.words (let whole : Some c.in-Some.prefix.now ≡ Some Part = is in cc);
      turned = λ is. not_settled A c.in-Some.prefix.now before words c.in_ok-words.ensures.words (let whole : Some c.in-Some.prefix.now ≡ Some Not = is in cc);
    }

pub returns-clause-words : goal.returns-clause-words
returns-clause-words c = all_behind c.args.alphabet.now c.args.prefixes.now c.prefixes.rest.now (Accepts c.args.words) (Accepts c.prefixes.words) c.in_default.ensures.cases c.prefixes.invariant.done
