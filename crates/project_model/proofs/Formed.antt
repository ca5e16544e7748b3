-- What files have is formed: lexicons have names of their own, and one is `Root`; grammars have the forms of a text. These are the readers' laws.
use Rattle.std.proofs.Common.{◌≡◌, ℕ, List, [], ◌∷◌, map, codes, All, Contains, Ok, sym, ap, subst, ◌∙◌}
use Rattle.std.proofs.lemmas.List.Elements.{All-nil, All-cons, All-append}
use Rattle.std.proofs.lemmas.Simd.{map-map}
use Rattle.word_relations.specs.Words.{IsDistinct}
use Rattle.word_relations.proofs.Members.{Contains-tail}
use Rattle.fsm_io.specs.Folders.{Files}
use Rattle.regex_ast.specs.declared.expr.Raw.{Raw}
use Rattle.regex_reader.specs.Files.{Statement}
use Rattle.lexc_grammar.specs.Files.{SaysLexicons}
use Rattle.lexc_grammar.specs.Lexicons.{without_lines}
use Rattle.lexc_reader.proofs.Sound.{sound}
use Rattle.project_manifest.specs.Lines.{Line, Placed, alphabet_line, file_in, gloss_line, lexc_line, require_line, twolc_line, xfst_line}
use Rattle.project_meaning.specs.Projects.{Written}
use Rattle.project_meaning.specs.Trees.{Lexicon, lexc, twolc}
use Rattle.project_manifest.specs.Manifests.{project_name}
use Rattle.project_sources.specs.Laws.{all_readers}
use Rattle.project_sources.specs.Sources.{FileDefines, FilesDefine, TextSays, stated}
use Rattle.twolc_grammar.proofs.Formed.{formed}
use Rattle.project_definitions.specs.Bodies.{AreRooted, IsFormed}

pub rooted : (text : List ℕ) (lexicons : List (Lexicon Raw)) → SaysLexicons text (Ok lexicons) → AreRooted lexicons
rooted text lexicons (read, reads, is) =
    let are = sound text read reads in
    let names : map (λ (l : Lexicon Raw). l.name) lexicons ≡ [] ∷ are.declared =
    ap (map (λ (l : Lexicon Raw). l.name)) is ∙ map-map (λ (l : Lexicon Raw). l.name) without_lines read ∙ are.names in
    record {
      distinct = subst (λ (z : List (List ℕ)). IsDistinct z) (sym names) are.distinct;
      root = subst (λ (z : List (List ℕ)). Contains z (codes "Root")) (sym names) (Contains-tail [] are.declared (codes "Root") are.root);
    }

abbrev Is : Written → Type 0
Is w = IsFormed w.body

formed_statements : (file : List ℕ) (statements : List Statement) → All Is (map (stated file) statements)
formed_statements file [] = All-nil Is
formed_statements file (s ∷ statements) = All-cons Is (stated file s) (map (stated file) statements) tt (formed_statements file statements)

formed_text : (line : ℕ) (said : Line) (text : List ℕ) (written : List Written) → TextSays all_readers line said text (Ok written) → All Is written
formed_text line (lexc_line name file) text written (lexicons, says, is) =
    subst (All Is) (sym is) (All-cons Is (record { name = name; line = line; file = project_name; body = lexc lexicons }) [] (rooted text lexicons says) (All-nil Is))
formed_text line (twolc_line name file) text written (grammar, says, is) =
    subst (All Is) (sym is) (All-cons Is (record { name = name; line = line; file = project_name; body = twolc grammar }) [] (formed text grammar says) (All-nil Is))
formed_text line (xfst_line file) text written (statements, says, is) = subst (All Is) (sym is) (formed_statements file statements)
formed_text line (gloss_line file) text written (table, says, is) = subst (All Is) (sym is) (All-nil Is)
formed_text line (alphabet_line symbols) text written says = absurd says
formed_text line (require_line names) text written says = absurd says

formed_file : (files : Files) (l : Placed) (named : List (List ℕ)) (written : List Written) → FileDefines all_readers files l named written → All Is written
formed_file files l [] written is = subst (All Is) (sym is) (All-nil Is)
formed_file files l (file ∷ others) written (text, have, says) = formed_text l.line l.said text written says

pub formed_files : (files : Files) (lines : List Placed) (written : List Written) → FilesDefine all_readers files lines written → All (λ (w : Written). IsFormed w.body) written
formed_files files [] written is = subst (All Is) (sym is) (All-nil Is)
formed_files files (l ∷ lines) written (front, rest, here, others, is) =
    subst (All Is) (sym is) (All-append Is front rest (formed_file files l (file_in l.said) front here) (formed_files files lines rest others))
