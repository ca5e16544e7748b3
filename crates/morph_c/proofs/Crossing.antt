-- What C holds may go to other threads, which may share it where it is open. A search for the whole of it gives up, so its parts come first.
use denote.Param.Send.{IsSend, IsSync, sendable}
use Rattle.std.proofs.Crossing.{crosses}
use Rattle.fsm_base.proofs.alphabet.Alphabet.TheSendSync as alphabet
use Rattle.fsm_base.proofs.text.Text.TheSendSync as text
use Rattle.interlinear.proofs.table.GlossTable.TheSendSync as table
use Rattle.network_build.proofs.compiled.Compiled.TheSendSync as compiled
use Rattle.project_definitions.specs.contracts.definition.Body as body
use Rattle.project_sources.proofs.sources.Sources.TheSendSync as sources
use Rattle.project_model.specs.contracts.plan.Plan as plan
use Rattle.project_store.specs.contracts.project.Project as project
use Rattle.project_store.proofs.shared.Shared.TheSendSync as shared
use Rattle.project_versions.specs.contracts.version.Version as version
use Rattle.regex_ast.proofs.expr.Expr.TheLaws.TheKnot as knot
use Rattle.regex_ast.specs.contracts.expr.Atom as atom
use Rattle.regex_ast.specs.contracts.expr.Expr as expr
use Rattle.regex_ast.specs.contracts.fault.Fault as fault
use Rattle.regex_ast.specs.contracts.fault.Why as why
use Rattle.regex_ast.specs.contracts.lexc.Lexicon as lexicon
use Rattle.regex_ast.specs.contracts.twolc.Grammar as grammar
use Rattle.regex_ast.specs.contracts.twolc.PairAtom as pair
use Rattle.regex_ast.specs.contracts.twolc.PairPart as part
use Rattle.saved_networks.proofs.network.SavedNetwork.TheSendSync as network
use Rattle.saved_networks.specs.contracts.faults.SavedWhy as saved_why
use Rattle.morph_c.specs.contracts.held.Held as held
use Rattle.morph_c.specs.contracts.held.Opened as opened
use Rattle.morph_c.specs.contracts.held.SavedOwner as owner
use Rattle.morph_c.specs.contracts.held.SavedRefusal as refusal

expr_send : IsSend (expr.the_field atom.the_row).row
expr_send = search (sendable, crosses, knot.send-Expr) depth 40

lexicon_send : IsSend (lexicon.the_field atom.the_row).row
lexicon_send = search (sendable, crosses, knot.send-Expr, text.the_send) depth 40

pair_send : IsSend (pair.the_field atom.the_row).row
pair_send = search (sendable, crosses, text.the_send) depth 20

pairs_send : IsSend (expr.the_field (part.the_row atom.the_row)).row
pairs_send = let p = pair_send in search (sendable, crosses, knot.send-Expr, text.the_send) depth 20

grammar_send : IsSend (grammar.the_field atom.the_row).row
grammar_send = let p = pair_send in let e = pairs_send in search (sendable, crosses, text.the_send) depth 20

body_send : IsSend (body.the_field atom.the_row).row
body_send = let e = expr_send in let l = lexicon_send in let g = grammar_send in search (sendable, crosses) depth 20

plan_send : IsSend plan.the_field.row
plan_send = let b = body_send in search (sendable, crosses, text.the_send, table.the_send) depth 20

project_send : IsSend project.the_row
project_send = let p = plan_send in search (sendable, crosses, alphabet.the_send) depth 20

version_send : IsSend version.the_row
version_send = let p = plan_send in search (sendable, crosses, alphabet.the_send, sources.the_send, compiled.the_send, compiled.the_sync, shared.the_send) depth 20

expr_sync : IsSync (expr.the_field atom.the_row).row
expr_sync = search (sendable, crosses, knot.sync-Expr) depth 40

lexicon_sync : IsSync (lexicon.the_field atom.the_row).row
lexicon_sync = search (sendable, crosses, knot.sync-Expr, text.the_sync) depth 40

pair_sync : IsSync (pair.the_field atom.the_row).row
pair_sync = search (sendable, crosses, text.the_sync) depth 20

pairs_sync : IsSync (expr.the_field (part.the_row atom.the_row)).row
pairs_sync = let p = pair_sync in search (sendable, crosses, knot.sync-Expr, text.the_sync) depth 20

grammar_sync : IsSync (grammar.the_field atom.the_row).row
grammar_sync = let p = pair_sync in let e = pairs_sync in search (sendable, crosses, text.the_sync) depth 20

body_sync : IsSync (body.the_field atom.the_row).row
body_sync = let e = expr_sync in let l = lexicon_sync in let g = grammar_sync in search (sendable, crosses) depth 20

plan_sync : IsSync plan.the_field.row
plan_sync = let b = body_sync in search (sendable, crosses, text.the_sync, table.the_sync) depth 20

project_sync : IsSync project.the_row
project_sync = let p = plan_sync in search (sendable, crosses, alphabet.the_sync) depth 20

version_sync : IsSync version.the_row
version_sync = let p = plan_sync in search (sendable, crosses, alphabet.the_sync, sources.the_sync, compiled.the_send, compiled.the_sync, shared.the_sync) depth 20

opened_send : IsSend opened.the_row
opened_send = let v = version_send in let w = version_sync in let p = project_send in let q = project_sync in search (sendable, crosses) depth 20

why_send : IsSend why.the_field.row
why_send = search sendable depth 200

fault_send : IsSend fault.the_field.row
fault_send = let w = why_send in search (sendable, crosses, text.the_send) depth 20

owner_send : IsSend owner.the_row
owner_send = search (sendable, crosses, network.the_send, network.the_sync) depth 20

saved_why_send : IsSend saved_why.the_field.row
saved_why_send = search sendable depth 200

refusal_send : IsSend refusal.the_field.row
refusal_send = let w = saved_why_send in search (sendable, crosses, text.the_send) depth 20

pub held_send : IsSend held.the_field.row
held_send = let o = opened_send in let f = fault_send in let n = owner_send in let r = refusal_send in search (sendable, crosses, sources.the_send) depth 40
