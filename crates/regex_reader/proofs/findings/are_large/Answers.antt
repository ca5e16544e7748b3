use Rattle.std.proofs.Common.{length, ap, arith}
use Rattle.regex_ast.specs.declared.expr.Raw.{Raw}
use Rattle.regex_ast.specs.declared.expr.Expr.TheViews.{out-Group}
use Rattle.regex_ast.proofs.Sets.{maps_of_is, contexts_in_is}
use Rattle.regex_reader.proofs.Found.{mappings_counted, contexts_counted}
use Rattle.regex_reader.proofs.findings.are_large.Goals as goal

pub groups-preserved : goal.groups-preserved
groups-preserved c =
    let group = c.group-item.result in
    let mappings = mappings_counted c.args.groups.now c.groups.group-index group (omega arith) c.group-item.is in
    let contexts = contexts_counted c.args.groups.now c.groups.group-index group (omega arith) c.group-item.is in
    let maps_is = ap length (maps_of_is group) in
    let maps_long = (out-Group Raw group).maps.ok.0 in
    let contexts_is = ap length (contexts_in_is group) in
    let contexts_long = (out-Group Raw group).contexts.ok.0 in
    (omega (arith, c.saturating_add-mappings.ensures, c.len.ensures), omega (arith, c.saturating_add-contexts.ensures, c.len-in-groups.ensures))
