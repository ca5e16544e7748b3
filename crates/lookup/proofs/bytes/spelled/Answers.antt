use Rattle.std.proofs.Common.{◌≡◌, ◌+◌, ◌++◌, [], ◌∷◌, None, IsUtf8, get_or, length, take, subst, sym, ap, inl, inr, arith, ◌∙◌, length-append}
use Rattle.std.specs.List.{Contains}
use Rattle.std.proofs.lemmas.List.{take_all, take_more}
use Rattle.std.proofs.lemmas.List.Elements.{Contains-get_or, Contains-push_cases}
use Rattle.word_relations.proofs.Members.{Contains-nil_cases}
use Rattle.fsa.specs.declared.automaton.Edge.{Edge}
use Rattle.fsm_base.specs.declared.letters.Sym.{Sym}
use Rattle.lookup.specs.Spelling.{chain, text_on}
use Rattle.lookup.proofs.Spelled.{IsSpelled, letter_of, same_texts, spelled_first, spelled_more, spelled_within, texts_utf8}
use Rattle.lookup.proofs.bytes.spelled.Goals as goal

pub text_of-requires : goal.text_of-requires
text_of-requires c =
    let edges = c.args.edges.now in
    let none : Edge Sym = record { from = 0; letter = None; to = 0 } in
    letter_of c.args.alphabet.now edges c.requires.symbols (get_or edges c.loop-edge.edge-index none) (Contains-get_or edges c.loop-edge.edge-index none c.loop-edge-test.true)

pub loop-edge-init : goal.loop-edge-init
loop-edge-init c = record {
  rests = [];
  count = omega (arith, c.len.ensures, c.in_ok-marks.marks.ok.0, c.in_ok-marks.ensures.len);
  room = omega (arith, c.len.ensures, c.in_ok-marks.marks.ok.1, c.in_ok-marks.marks.small);
  spelled = rw c.new.ensures.items (spelled_first c.args.alphabet.now c.args.count);
  utf8 = λ e h. absurd (Contains-nil_cases e h);
}

pub loop-edge-preserved : goal.loop-edge-preserved
loop-edge-preserved c =
    let alphabet = c.args.alphabet.now in
    let edges = c.args.edges.now in
    let count = c.args.count in
    let i = c.loop-edge.edge-index in
    let none : Edge Sym = record { from = 0; letter = None; to = 0 } in
    let e = get_or edges i none in
    let inv = c.loop-edge.invariant in
    let bytes = c.loop-edge.graph.edges.items in
    let within = c.requires.within e (Contains-get_or edges i none c.loop-edge-test.true) in
    let front : take (i + 1) edges ≡ take i edges ++ e ∷ [] = take_more edges i none c.loop-edge-test.true in
    let text : c.as_bytes.result.now ≡ text_on alphabet e.letter = c.as_bytes.ensures.value ∙ c.as_str.ensures ∙ c.in_ok-text.ensures in
    let made : c.spell.new.graph.edges.items ≡ bytes ++ chain e.from (count + length inv.rests) (text_on alphabet e.letter) e.to =
    c.in_ok-spell.ensures.edges ∙ ap (λ n. bytes ++ chain e.from n c.as_bytes.result.now e.to) inv.count ∙ ap (λ t. bytes ++ chain e.from (count + length inv.rests) t e.to) text in
    let r = spelled_more alphabet count (take i edges) inv.rests bytes e inv.spelled within.0 within.1 in
    record {
      rests = inv.rests ++ r.0;
      count =
          let n = c.in_ok-spell.ensures.count in
          let m = inv.count in
          let l = length-append inv.rests r.0 in
          let k = r.1 in
          let t = ap length text in omega arith;
      room = c.in_ok-spell.ensures.room;
      spelled = rw (front, made) r.2;
      utf8 = λ f h. elim (Contains-push_cases (take i edges) e f (subst (λ es. Contains es f) front h)) [
        | inl old ↦ inv.utf8 f old
        | inr same ↦ subst (λ x. IsUtf8 (text_on alphabet x.letter)) same (subst (λ t. IsUtf8 t) text c.as_bytes.ensures.utf8)
      ];
    }

pub returns-clause-within : goal.returns-clause-within
returns-clause-within c =
    let inv = c.loop-edge.invariant in
    spelled_within c.args.alphabet.now c.args.count (take c.loop-edge.edge-index c.args.edges.now) inv.rests c.loop-edge.graph.edges.items inv.spelled c.loop-edge.graph.count inv.count

pub returns-clause-same : goal.returns-clause-same
returns-clause-same c =
    let inv = c.loop-edge.invariant in
    let all = take_all c.loop-edge.edge-index c.args.edges.now c.loop-edge-test.false in
    same_texts c.args.alphabet.now c.args.count c.args.edges.now inv.rests c.loop-edge.graph.edges.items
    (subst (λ es. IsSpelled c.args.alphabet.now c.args.count es inv.rests c.loop-edge.graph.edges.items) all inv.spelled) c.requires.start

pub returns-clause-utf8 : goal.returns-clause-utf8
returns-clause-utf8 c =
    let all = take_all c.loop-edge.edge-index c.args.edges.now c.loop-edge-test.false in
    texts_utf8 c.args.alphabet.now c.args.edges.now (λ e h. c.loop-edge.invariant.utf8 e (subst (λ es. Contains es e) (sym all) h))
