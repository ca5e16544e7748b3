-- Statement by statement: what was read, and what the rest says.
use Rattle.std.proofs.Common.{◌≡◌, ℕ, List, [], ◌∷◌, ◌++◌, Result, Ok, Err, sym, subst, append_assoc, append-nil}
use Rattle.regex_ast.specs.declared.fault.Why.{Why}
use Rattle.regex_tokens.specs.declared.token.Ending.{Ending}
use Rattle.regex_reader.specs.Files.{Placed, Statement, FaultAt, Says, read, later, refused, IsOne, Verdict, first_line}

-- the answer where these statements come first
abbrev pub behind : List Statement → Result (List Statement) FaultAt → Result (List Statement) FaultAt
behind found (Ok more) = Ok (found ++ more)
behind found (Err fault) = Err fault

pub record SoFar (all rest : List Placed) (ending : Ending) (found : List Statement) : Type 0 where
  pub so_far : (r : Result (List Statement) FaultAt) → Says rest ending r → Says all ending (behind found r)

begun : (all : List Placed) (ending : Ending) (r : Result (List Statement) FaultAt) → Says all ending r → Says all ending (behind [] r)
begun all ending (Ok more) says = says
begun all ending (Err fault) says = says

pub begin : (all : List Placed) (ending : Ending) → SoFar all all ending []
begin all ending = record { so_far = begun all ending }

gone_on : (all one rest : List Placed) (ending : Ending) (found : List Statement) (s : Statement) → IsOne one → Verdict one (Ok s) → SoFar all (one ++ rest) ending found → (r : Result (List Statement) FaultAt) → Says rest ending r → Says all ending (behind (found ++ s ∷ []) r)
gone_on all one rest ending found s is verdict h (Ok more) says =
    subst (λ (xs : List Statement). Says all ending (Ok xs)) (sym (append_assoc found (s ∷ []) more)) (h.so_far (Ok (s ∷ more)) (read one rest ending s more is verdict says))
gone_on all one rest ending found s is verdict h (Err fault) says = h.so_far (Err fault) (later one rest ending s fault is verdict says)

pub go_on : (all one rest : List Placed) (ending : Ending) (found : List Statement) (s : Statement) → IsOne one → Verdict one (Ok s) → SoFar all (one ++ rest) ending found → SoFar all rest ending (found ++ s ∷ [])
go_on all one rest ending found s is verdict h = record { so_far = gone_on all one rest ending found s is verdict h }

pub refuse : (all one rest : List Placed) (ending : Ending) (found : List Statement) (line : ℕ) (why : Why) → IsOne one → (line ≡ first_line one) × Verdict one (Err why) → SoFar all (one ++ rest) ending found → Says all ending (Err (record { line = line; why = why }))
refuse all one rest ending found line why is (at, verdict) h = subst (λ (n : ℕ). Says all ending (Err (record { line = n; why = why }))) (sym at) (h.so_far (Err (record { line = first_line one; why = why })) (refused one rest ending why is verdict))

pub finish : (all rest : List Placed) (ending : Ending) (found : List Statement) → Says rest ending (Ok []) → SoFar all rest ending found → Says all ending (Ok found)
finish all rest ending found says h = subst (λ (xs : List Statement). Says all ending (Ok xs)) (append-nil found) (h.so_far (Ok []) says)

pub fail : (all rest : List Placed) (ending : Ending) (found : List Statement) (fault : FaultAt) → Says rest ending (Err fault) → SoFar all rest ending found → Says all ending (Err fault)
fail all rest ending found fault says h = h.so_far (Err fault) says
