use Rattle.std.proofs.Common.{List, [], ◌+◌, All, map, drop, sym, ap, subst, ◌∙◌, arith}
use Rattle.std.proofs.lemmas.List.{drop_all}
use Rattle.fsm_base.specs.Symbols.{IsSymbol}
use Rattle.project_manifest.specs.Lines.{symbols_of, symbols_said}
use Rattle.project_manifest.specs.Sayings.{line_of, placed_of}
use Rattle.project_manifest.specs.declared.manifest.ManifestLine.{ManifestLine}
use Rattle.project_model.specs.Answers.{written_of}
use Rattle.project_model.specs.Gathered.{gathered, symbols_of_all}
use Rattle.project_definitions.proofs.Built.{All-front}
use Rattle.project_model.proofs.Gathering.{gather_more, gathered-append, gathered_all, still_short}
use Rattle.project_model.proofs.Requiring.{All-behind, line_symbols}
use Rattle.project_model.proofs.plan.alphabet_of.Goals as goal

pub lines-init : goal.lines-init
lines-init c =
    let symbols = symbols_of_all c.args.names.now (map written_of c.args.written.now) in
    record {
      same = ap (λ table. gathered table (symbols_of (map placed_of c.args.lines.now))) c.in_ok-alphabet.ensures ∙ sym (gathered-append [] symbols (symbols_of (map placed_of c.args.lines.now)));
      short = still_short c.in_ok-alphabet.alphabet [] symbols c.in_ok-alphabet.ensures;
      symbols = c.requires;
    }

pub lines-preserved : goal.lines-preserved
lines-preserved c =
    let line = c.line-item.result in
    let rest = symbols_of (map placed_of (drop (c.lines.line-index + 1) c.args.lines.now)) in
    let left = line_symbols c.args.lines.now c.lines.line-index line (omega arith) c.line-item.is in
    let now = rw c.symbols.ensures at c.in_ok-add_texts.ensures in
    record {
      same = gather_more c.lines.alphabet c.add_texts.new.table (symbols_said (line_of line.declares)) rest _ _ now left c.lines.invariant.same;
      short = still_short c.add_texts.new.table c.lines.alphabet (symbols_said (line_of line.declares)) now;
      symbols = All-behind IsSymbol _ rest (subst (All IsSymbol) left c.lines.invariant.symbols);
    }

pub add_texts-requires-clause-symbols : goal.add_texts-requires-clause-symbols
add_texts-requires-clause-symbols c =
    let left = line_symbols c.args.lines.now c.lines.line-index c.line-item.result (omega arith) c.line-item.is in
    subst (All IsSymbol) (sym c.symbols.ensures) (All-front IsSymbol _ (symbols_of (map placed_of (drop (c.lines.line-index + 1) c.args.lines.now))) (subst (All IsSymbol) left c.lines.invariant.symbols))

pub returns : goal.returns
returns c =
    gathered_all c.lines.alphabet _ _ (ap (λ (z : List ManifestLine). symbols_of (map placed_of z)) (drop_all c.lines.line-index c.args.lines.now (omega arith))) c.lines.invariant.short c.lines.invariant.same
