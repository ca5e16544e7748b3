use Rattle.std.specs.List.{Contains}
use Rattle.std.proofs.lemmas.Result.{IfOk-weaker}
use Rattle.fsa.specs.Automaton.{UsesLetter, HasNoEpsilonEdge}
use Rattle.lang_algebra.specs.Live.{IsTrimmed}
use Rattle.lang_algebra.proofs.lang.Lang.to_fsa.Goals as goal

pub returns-clause-letters : goal.returns-clause-letters
returns-clause-letters g c =
    IfOk-weaker c.trim-2.result (λ m. (x : g.row.L.Denot) → UsesLetter m x → UsesLetter c.in_ok-to_fsa.field-0 x) (λ m. (x : g.row.L.Denot) → UsesLetter m x → Contains c.args.self.now.letters x)
    (λ m kept x used. rw c.self.view_is at (c.in_ok-to_fsa.ensures.letters x (kept x used))) c.trim-2.ensures.letters

pub returns-clause-epsilon : goal.returns-clause-epsilon
returns-clause-epsilon g c =
    IfOk-weaker c.trim-2.result (IsTrimmed c.in_ok-to_fsa.field-0) HasNoEpsilonEdge (λ m part e held. c.in_ok-to_fsa.ensures.epsilon e ((part.edges e).0 held).0) c.trim-2.ensures.part
