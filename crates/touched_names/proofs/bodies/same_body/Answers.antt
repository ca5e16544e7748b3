use Rattle.std.proofs.Common.{◌≡◌, ◌↔◌, IsTrue, map, ap}
use Rattle.body_equality.specs.Renumbered.{renumbered}
use Rattle.grammar_pairs.specs.Mapped.{mapped_grammar}
use Rattle.grammar_pairs.specs.Plain.{grammar_of}
use Rattle.body_equality.specs.RenumberedLexicons.{renumbered_lexicon}
use Rattle.name_resolution.specs.Plain.{lexicon_of}
use Rattle.project_definitions.specs.Bodies.{mapped_body}
use Rattle.project_definitions.specs.Plain.{body_of}
use Rattle.touched_names.proofs.Leafwise.{lexc_same, ok_follows, twolc_same}
use Rattle.touched_names.proofs.bodies.same_body.Goals as goal

pub returns-in-Lexc-Lexc : goal.returns-in-Lexc-Lexc
returns-in-Lexc-Lexc c =
    let told = rw (c.deref.ensures.value, c.deref-in-Lexc-Lexc.ensures.value) at c.same_lexicons.ensures in
    ok_follows c.same_lexicons.result (λ same. IsTrue same ↔ (map lexicon_of c.in-Lexc-Lexc.others.items ≡ map (renumbered_lexicon c.args.numbers.now) c.in-Lexc-Lexc.lexicons.items))
    (λ same. IsTrue same ↔ (body_of c.args.other.now ≡ mapped_body (renumbered c.args.numbers.now) (body_of c.args.body.now)))
    (λ same is. lexc_same c.args.numbers.now (body_of c.args.other.now) (body_of c.args.body.now) c.in-Lexc-Lexc.others.items c.in-Lexc-Lexc.lexicons.items (ap body_of c.in-Lexc-Lexc.is-0) (ap body_of c.in-Lexc-Lexc.is-1) same is)
    told

pub returns-in-Twolc-Twolc : goal.returns-in-Twolc-Twolc
returns-in-Twolc-Twolc c =
    ok_follows c.same_grammar.result (λ same. IsTrue same ↔ (grammar_of c.in-Twolc-Twolc.other ≡ mapped_grammar (renumbered c.args.numbers.now) (grammar_of c.in-Twolc-Twolc.grammar)))
    (λ same. IsTrue same ↔ (body_of c.args.other.now ≡ mapped_body (renumbered c.args.numbers.now) (body_of c.args.body.now)))
    (λ same told. twolc_same c.args.numbers.now (body_of c.args.other.now) (body_of c.args.body.now) (grammar_of c.in-Twolc-Twolc.other) (grammar_of c.in-Twolc-Twolc.grammar)
    (ap body_of c.in-Twolc-Twolc.is-0) (ap body_of c.in-Twolc-Twolc.is-1) same told) c.same_grammar.ensures
