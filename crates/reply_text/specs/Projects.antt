-- The replies to a project that is loaded, and to an edit of it.
use Rattle.std.specs.Prelude.{ℕ, List, ◌∷◌, ◌++◌, codes, decimal}
use Rattle.std.specs.List.{flat_map}
use Rattle.regex_ast.specs.declared.fault.Fault.{Fault}
use Rattle.regex_ast.specs.declared.fault.Why.{Why}
use Rattle.regex_ast.specs.declared.fault.Why.TheVariants as why
use Rattle.reply_meaning.specs.Replies.{line_of}

-- `ok V rebuilt NAME NAME ..`
abbrev pub accepted_line : ℕ → List (List ℕ) → List ℕ
accepted_line number names = line_of (codes "ok " ++ decimal number ++ codes " rebuilt" ++ flat_map (λ name. 32 ∷ name) names)

-- the name of a reason
abbrev pub reason : Why → List ℕ
reason why.NoProject = codes "no-project"
reason why.LimitFile = codes "limit-file"
reason why.NotUtf8 = codes "not-utf8"
reason why.Control = codes "control"
reason why.Token = codes "token"
reason why.LimitNesting = codes "limit-nesting"
reason why.Statement = codes "statement"
reason why.LimitPower = codes "limit-power"
reason why.LimitRule = codes "limit-rule"
reason why.LimitFiles = codes "limit-files"
reason why.LimitEntries = codes "limit-entries"
reason why.LimitFeatures = codes "limit-features"
reason why.UnknownLexicon = codes "unknown-lexicon"
reason why.NoFile = codes "no-file"
reason why.Duplicate = codes "duplicate"
reason why.LimitNames = codes "limit-names"
reason why.LimitSymbols = codes "limit-symbols"
reason why.UnknownName = codes "unknown-name"
reason why.Cycle = codes "cycle"
reason why.NotALanguage = codes "not-a-language"
reason why.LimitWeight = codes "limit-weight"
reason why.EmptyCentre = codes "empty-centre"
reason why.BadSplice = codes "bad-splice"

-- `refused FILE LINE WHY`
abbrev pub refused_line : Fault → List ℕ
refused_line fault = line_of (codes "refused " ++ fault.file ++ 32 ∷ decimal fault.line ++ 32 ∷ reason fault.why)
