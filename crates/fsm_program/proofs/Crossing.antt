-- What lines are looked up in may be shared by threads. A search for the whole of it gives up, so its parts come first.
use denote.Param.Send.{IsSync, sendable}
use Rattle.std.proofs.Crossing.{crosses}
use Rattle.fsm_base.proofs.alphabet.Alphabet.TheSendSync as alphabet
use Rattle.fsm_base.proofs.text.Text.TheSendSync as text
use Rattle.interlinear.proofs.table.GlossTable.TheSendSync as table
use Rattle.network_build.proofs.compiled.Compiled.TheSendSync as compiled
use Rattle.pair_lines.proofs.pair_rules.PairRules.TheSendSync as rules
use Rattle.project_definitions.specs.contracts.definition.Body as body
use Rattle.project_model.specs.contracts.plan.Plan as plan
use Rattle.project_store.specs.contracts.network.Network as network
use Rattle.project_store.specs.contracts.project.Project as project
use Rattle.regex_ast.proofs.expr.Expr.TheLaws.TheKnot as knot
use Rattle.regex_ast.specs.contracts.expr.Atom as atom
use Rattle.regex_ast.specs.contracts.expr.Expr as expr
use Rattle.regex_ast.specs.contracts.lexc.Lexicon as lexicon
use Rattle.regex_ast.specs.contracts.twolc.Grammar as grammar
use Rattle.regex_ast.specs.contracts.twolc.PairAtom as pair
use Rattle.regex_ast.specs.contracts.twolc.PairPart as part
use Rattle.saved_networks.proofs.network.SavedNetwork.TheSendSync as saved
use Rattle.fsm_program.specs.contracts.look_up.LookUp as look_up
use Rattle.fsm_program.specs.contracts.look_up.Subject as subject

expr_sync : IsSync (expr.the_field atom.the_row).row
expr_sync = search (sendable, crosses, knot.sync-Expr) depth 40

lexicon_sync : IsSync (lexicon.the_field atom.the_row).row
lexicon_sync = search (sendable, crosses, knot.sync-Expr, text.the_sync) depth 40

pair_sync : IsSync (pair.the_field atom.the_row).row
pair_sync = search (sendable, crosses, text.the_sync) depth 20

pairs_sync : IsSync (expr.the_field (part.the_row atom.the_row)).row
pairs_sync = let p = pair_sync in search (sendable, crosses, knot.sync-Expr, text.the_sync) depth 20

grammar_sync : IsSync (grammar.the_field atom.the_row).row
grammar_sync = let p = pair_sync in let e = pairs_sync in search (sendable, crosses, text.the_sync) depth 20

body_sync : IsSync (body.the_field atom.the_row).row
body_sync = let e = expr_sync in let l = lexicon_sync in let g = grammar_sync in search (sendable, crosses) depth 20

plan_sync : IsSync plan.the_field.row
plan_sync = let b = body_sync in search (sendable, crosses, text.the_sync, table.the_sync) depth 20

project_sync : IsSync project.the_row
project_sync = let p = plan_sync in search (sendable, crosses, alphabet.the_sync) depth 20

network_sync : IsSync network.the_row
network_sync = let p = project_sync in search (sendable, crosses, text.the_sync, compiled.the_sync) depth 20

subject_sync : IsSync subject.the_field.row
subject_sync = let n = network_sync in search (sendable, crosses, rules.the_sync, saved.the_sync) depth 20

pub look_up_sync : IsSync look_up.the_field.row
look_up_sync = let s = subject_sync in search (sendable, crosses) depth 20
