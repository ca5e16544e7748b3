-- A body is built over its alphabet and over its own symbols, and which symbols its network has.
use Rattle.std.proofs.Common.{◌≡◌, ◌↔◌, ◌⊎◌, ℕ, false, List, [], All, Contains, IsTrue, Result, Ok, Err, IfOk, refl, sym, subst, inl, inr}
use Rattle.std.proofs.lemmas.List.Elements.{All-nil, All-head, All-contains, All-contains_itself, All-weaker}
use Rattle.fsm_base.specs.Alphabet.{symbols_of}
use Rattle.fsm_base.specs.declared.letters.Bound.{Bound}
use Rattle.fsm_base.specs.declared.letters.Bound.TheVariants.{Inner, Edge}
use Rattle.fsm_base.specs.declared.letters.Sym.{Sym as Symbol}
use Rattle.fsm_base.specs.declared.letters.Pair.{Pair}
use Rattle.word_relations.specs.Relations.{AreSame}
use Rattle.word_relations.specs.Words.{IsDistinct}
use Rattle.word_relations.proofs.Members.{Contains-cons_cases, Contains-head, Contains-tail, Contains-map, Contains-map_cases}
use Rattle.fsa.specs.Automaton.{Automaton, UsesLetter}
use Rattle.lookup.specs.Answering.{HasSymbolsOf}
use Rattle.regex_ast.specs.declared.expr.Atom.{Atom}
use Rattle.regex_ast.specs.declared.expr.Atom.TheVariants.{Sym, Name}
use Rattle.regex_ast.specs.declared.twolc.Grammar.{Grammar as GrammarOf}
use Rattle.regex_ast.specs.Terms.{Term}
use Rattle.expr_kinds.specs.Atoms.{is_symbol_of}
use Rattle.expr_kinds.specs.Built.{IsBuiltBy}
use Rattle.expr_kinds.specs.declared.form.Kind.TheVariants.{Relation}
use Rattle.expr_meaning.specs.Operators.{inner}
use Rattle.expr_leaves.specs.Alphabet.{uses_alphabet}
use Rattle.expr_spelling.proofs.Alphabets.{alphabet_free}
use Rattle.expr_spelling.proofs.LexiconAlphabets.{lexicons_free}
use Rattle.grammar_pairs.specs.Laws.{HasLeaves}
use Rattle.grammar_pairs.specs.Plain.{grammar_of}
use Rattle.project_meaning.specs.Trees.{Lexicon, Body, xfst, lexc, twolc}
use Rattle.project_meaning.specs.Leaves.{expressions_of}
use Rattle.project_meaning.specs.Lexicons.{LexiconsRelate}
use Rattle.project_sources.specs.Built.{BodyIsBuiltBy}
use Rattle.project_definitions.specs.Bodies.{BodyFitsBy, IsFormed}
use Rattle.network_algebra.specs.Networks.{IsNetwork, PairsOf, UsesSymbols, all_letters, kind_of_network}
use Rattle.network_algebra.specs.declared.network.Network.{Network}
use Rattle.network_algebra.specs.declared.network.Network.TheVariants.{Words, Pairs, Flagged}
use Rattle.network_expr.specs.Rules.{IsFilled}
use Rattle.network_expr.specs.Built.{IsBuiltOver, IsMeant}
use Rattle.network_expr.specs.Parts.{IsGround, is_leaf_of, kinds, stands}
use Rattle.network_expr.specs.declared.parts.Part.{Part}
use Rattle.network_grammars.specs.Meaning.{IsNetworkOf as GrammarHasNetwork, IsOverSymbols}
use Rattle.network_lexicons.specs.Plain.{symbol_in}
use Rattle.network_centres.proofs.Filled.{filled_built}
use Rattle.network_centres.proofs.Seen.{filled_over}
use Rattle.network_build.specs.Made.{IsMade, IsReady}
use Rattle.network_build.specs.Networks.{BodyHasEmptyCentre, IsNetworkOf, IsRelationOf, MayUse, PartsUse, UsesSymbol, body_leaves, body_uses_alphabet}
use Rattle.network_build.proofs.Bodies.{body_has, body_passes, body_ready, none_uses_it}
use Rattle.network_build.proofs.Built.{built_by}
use Rattle.network_build.proofs.Free.{no_centres}
use Rattle.network_build.proofs.Grammars.{grammar_over}
use Rattle.network_build.proofs.Held.{never, symbol_held, symbol_passes}

-- what may stand in braces may stand by itself
letter_is_leaf : (parts : List Part) (alphabet : List Symbol) (a : Atom) → IsTrue (is_symbol_of alphabet a) → IsTrue (is_leaf_of parts alphabet a)
letter_is_leaf parts alphabet (Sym s) h = h
letter_is_leaf parts alphabet (Name name) h = absurd (never h)

-- a symbol that stands in a body that is built is of the alphabet
stands_within : (parts : List Part) (alphabet : List Symbol) (body : Body Atom) → BodyIsBuiltBy (is_leaf_of parts alphabet) (is_symbol_of alphabet) body → (s : Symbol) → Contains (body_leaves body) (Sym s) → Contains alphabet s
stands_within parts alphabet body built s at =
    let pass = body_passes (is_leaf_of parts alphabet) (is_symbol_of alphabet) (letter_is_leaf parts alphabet) body built in
    symbol_held alphabet s (All-contains (λ (x : Atom). IsTrue (is_leaf_of parts alphabet x)) (body_leaves body) (Sym s) pass at)

-- a network is over symbols just where those that stand in it are among them
letter_within : (symbols : List Symbol) (x : Bound Symbol) → ((s : Symbol) → x ≡ Inner s → Contains symbols s) → Contains (all_letters symbols) x
letter_within symbols Edge h = Contains-head Edge (inner symbols)
letter_within symbols (Inner s) h = Contains-tail Edge (inner symbols) (Inner s) (Contains-map (λ (t : Symbol). Inner t) symbols s (h s refl))

network_within : (symbols : List Symbol) (n : Network) → ((s : Symbol) → UsesSymbol n s → Contains symbols s) → IsNetwork symbols n
network_within symbols (Words m) h = λ x used. letter_within symbols x (λ s is. h s (subst (λ (y : Bound Symbol). UsesLetter m y) is used))
network_within symbols (Pairs m) h = record { upper = λ s (pair, used, up). h s (pair, used, inl up); lower = λ s (pair, used, low). h s (pair, used, inr low) }
network_within symbols (Flagged f) h = record { upper = λ s (pair, used, up) small. h s (pair, used, inl (up, small)); lower = λ s (pair, used, low). h s (pair, used, inr low) }

inner_within : (symbols : List Symbol) (s : Symbol) → Contains (all_letters symbols) (Inner s) → Contains symbols s
inner_within symbols s at = elim (Contains-cons_cases Edge (inner symbols) (Inner s) at) as (λ _. Contains symbols s) [
  | inl is ↦ cc
  | inr there ↦
      let (t, among, same) = Contains-map_cases (λ (t : Symbol). Inner t) symbols (Inner s) there in
      let is : t ≡ s = cc in
      subst (Contains symbols) is among
]

pub network_has : (symbols : List Symbol) (n : Network) → IsNetwork symbols n → (s : Symbol) → UsesSymbol n s → Contains symbols s
network_has symbols (Words m) over s used = inner_within symbols s (over (Inner s) used)
network_has symbols (Pairs m) over s (pair, used, side) =
    elim side as (λ _. Contains symbols s) [ inl up ↦ over.upper s (pair, used, up) | inr low ↦ over.lower s (pair, used, low) ]
network_has symbols (Flagged f) over s (pair, used, side) =
    elim side as (λ _. Contains symbols s) [ inl (up, small) ↦ over.upper s (pair, used, up) small | inr low ↦ over.lower s (pair, used, low) ]

-- the symbols are those that stand in the body and in its parts
abbrev pub AreOwn : List Symbol → Body Atom → List Part → Type 0
AreOwn own body parts = (s : Symbol) → Contains own s ↔ (Contains (body_leaves body) (Sym s) ⊎ PartsUse parts s)

module _ (parts : List Part) (alphabet own : List Symbol) (body : Body Atom) (mine : AreOwn own body parts) where
  -- the parts are over the own symbols
  pub ground_over_own : IsDistinct own → IsGround alphabet parts → IsGround own parts
  ground_over_own distinct ground = record {
    distinct = distinct;
    rising = ground.rising;
    over =
        All-weaker (Contains parts) (λ (part : Part). IsNetwork own part.network.now)
        (λ part among. network_within own part.network.now (λ s used. (mine s).1 (inr (part, among, used)))) parts (All-contains_itself parts);
  }

  -- a symbol of the body is one of its own
  letter_own : (a : Atom) → Contains (body_leaves body) a → IsTrue (is_symbol_of alphabet a) → IsTrue (is_symbol_of own a)
  letter_own (Sym s) at h = symbol_passes own s ((mine s).1 (inl at))
  letter_own (Name name) at h = absurd (never h)

  leaf_own : (a : Atom) → Contains (body_leaves body) a → IsTrue (is_leaf_of parts alphabet a) → IsTrue (is_leaf_of parts own a)
  leaf_own (Sym s) at h = symbol_passes own s ((mine s).1 (inl at))
  leaf_own (Name name) at h = h

  -- an expression that doesn't use the alphabet has no centre
  expression_own : (e : Term Atom) → Contains (expressions_of body) e → uses_alphabet e ≡ false → IsBuiltBy (is_leaf_of parts alphabet) (is_symbol_of alphabet) e → IsBuiltOver parts own e
  expression_own e among free built =
      let Filled = IsFilled (stands parts) own in
      filled_built (is_leaf_of parts own) (is_symbol_of own) Filled e
      (built_by (is_leaf_of parts alphabet) (is_symbol_of alphabet) (is_leaf_of parts own) (is_symbol_of own) e built (
        λ a at. leaf_own a (body_has body e among a at),
        λ a at. letter_own a (body_has body e among a at),
      ))
      (subst (All Filled) (sym (no_centres e free)) (All-nil Filled))

  pub ready_over_own : body_uses_alphabet body ≡ false → IsFormed body → BodyFitsBy (kinds parts) body → BodyIsBuiltBy (is_leaf_of parts alphabet) (is_symbol_of alphabet) body → IsReady parts own body
  ready_over_own free formed fits built =
      body_ready parts alphabet own body letter_own
      (λ e among. expression_own e among (All-contains (λ (f : Term Atom). uses_alphabet f ≡ false) (expressions_of body) e (none_uses_it body free) among)) formed fits built

  -- the own symbols are of the alphabet
  pub own_within : IsGround alphabet parts → BodyIsBuiltBy (is_leaf_of parts alphabet) (is_symbol_of alphabet) body → (s : Symbol) → Contains own s → Contains alphabet s
  own_within ground built s at = elim ((mine s).0 at) as (λ _. Contains alphabet s) [
    | inl stood ↦ stands_within parts alphabet body built s stood
    | inr (part, among, used) ↦ network_has alphabet part.network.now (All-contains (λ (p : Part). IsNetwork alphabet p.network.now) parts part ground.over among) s used
  ]

-- a body without an empty centre can be built over the alphabet
pub ready_over_alphabet : (parts : List Part) (alphabet : List Symbol) (body : Body Atom) → (BodyHasEmptyCentre parts alphabet body → ⊥) → IsFormed body → BodyFitsBy (kinds parts) body
    → BodyIsBuiltBy (is_leaf_of parts alphabet) (is_symbol_of alphabet) body → IsReady parts alphabet body
ready_over_alphabet parts alphabet body filled formed fits built =
    body_ready parts alphabet alphabet body (λ a at h. h) (λ e among h. filled_over parts alphabet e h (λ empty. filled (e, among, empty))) formed fits built

-- one relation more that is the same
same_too : {R S T : List Symbol → List Symbol → Type 0} → AreSame R S → AreSame S T → AreSame R T
same_too first second u w = (λ r. (second u w).0 ((first u w).0 r), λ r. (first u w).1 ((second u w).1 r))

-- a body that doesn't use the alphabet relates the same over every one
pub body_free : (parts : List Part) (alphabet other : List Symbol) (body : Body Atom) → body_uses_alphabet body ≡ false → (R : List Symbol → List Symbol → Type 0) → IsRelationOf parts alphabet body R → IsRelationOf parts other body R
body_free parts alphabet other (xfst e) free R is =
    same_too is (alphabet_free (stands parts) alphabet other e (All-head (λ (f : Term Atom). uses_alphabet f ≡ false) e [] (none_uses_it (xfst e) free))).1
body_free parts alphabet other (lexc lexicons) free R is = same_too is (lexicons_free symbol_in (stands parts) alphabet other lexicons (none_uses_it (lexc lexicons) free))
body_free parts alphabet other (twolc grammar) free R is = is

-- the network over given symbols of the alphabet, where the body relates the same over both
pub network_made : {E : Type 0} (parts : List Part) (alphabet given : List Symbol) (body : Body Atom) (r : Result Network E) → ((s : Symbol) → Contains given s → Contains alphabet s)
    → ((s : Symbol) → Contains given s → MayUse parts alphabet body s) → ((R : List Symbol → List Symbol → Type 0) → IsRelationOf parts given body R → IsRelationOf parts alphabet body R)
    → IfOk r (IsMade parts given body) → IfOk r (IsNetworkOf parts alphabet body)
network_made parts alphabet given body (Err error) within may same made = made
network_made parts alphabet given body (Ok n) within may same made = record {
  kind = made.kind;
  relation = same (PairsOf n) made.relation;
  symbols = λ s used. may s (network_has given n made.over s used);
  over = network_within alphabet n (λ s used. within s (network_has given n made.over s used));
}

-- what is made of an expression, of lexicons and of a grammar
pub expression_made : {E : Type 0} (parts : List Part) (symbols : List Symbol) (e : Term Atom) (r : Result Network E) → IfOk r (IsNetwork symbols) → IfOk r (IsMeant parts symbols e) → IfOk r (IsMade parts symbols (xfst e))
expression_made parts symbols e (Err error) over meant = over
expression_made parts symbols e (Ok n) over meant = record { over = over; kind = meant.kind_is; relation = meant.pairs }

pub lexicons_made : {E : Type 0} (parts : List Part) (symbols : List Symbol) (lexicons : List (Lexicon Atom)) (r : Result Network E) → IfOk r (IsNetwork symbols) → IfOk r (λ n. kind_of_network n ≡ Relation)
    → IfOk r (λ n. AreSame (PairsOf n) (LexiconsRelate symbol_in (stands parts) symbols lexicons)) → IfOk r (IsMade parts symbols (lexc lexicons))
lexicons_made parts symbols lexicons (Err error) over kind relation = over
lexicons_made parts symbols lexicons (Ok n) over kind relation = record { over = over; kind = kind; relation = relation }

pub grammar_made : {E : Type 0} (parts : List Part) (symbols : List Symbol) (g : GrammarOf Atom) (r : Result Network E) → HasLeaves (is_symbol_of symbols) (grammar_of g)
    → IfOk r (λ n. (given : List Symbol) → IsOverSymbols given g → IsNetwork given n) → IfOk r (λ n. kind_of_network n ≡ Relation) → IfOk r (GrammarHasNetwork g) → IfOk r (IsMade parts symbols (twolc (grammar_of g)))
grammar_made parts symbols g (Err error) has over kind meaning = over
grammar_made parts symbols g (Ok n) has over kind meaning = record {
  over = over symbols (grammar_over symbols g has);
  kind = kind;
  relation = λ named lettered held. meaning named lettered (grammar_over (symbols_of named) g held);
}

pub over_alphabet : (alphabet : List (Symbol × List ℕ)) (m n : Automaton Pair) → ((x : Pair) → UsesLetter n x → UsesLetter m x) → UsesSymbols (symbols_of alphabet) m → HasSymbolsOf alphabet n
over_alphabet alphabet m n letters uses pair s used side =
    elim side as (λ _. Contains (symbols_of alphabet) s) [ inl up ↦ uses.upper s (pair, letters pair used, up) | inr low ↦ uses.lower s (pair, letters pair used, low) ]
