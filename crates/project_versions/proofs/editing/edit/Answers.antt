use Rattle.std.proofs.Common.{◌∙◌, ◌≤◌, ◌+◌, ℕ, List, Option, Ok, Err, arith, ap, sym, subst}
use Rattle.editor_meaning.specs.Editing.{AreNames, most_edits}
use Rattle.fsm_io.specs.Folders.{Files}
use Rattle.network_algebra.specs.declared.network.Network.{Network}
use Rattle.project_edits.specs.Applied.{edits_of}
use Rattle.project_sources.specs.Refusals.{IsRefusedBy}
use Rattle.project_meaning.specs.Projects.{Project}
use Rattle.project_meaning.specs.Touched.{Touched}
use Rattle.project_sources.specs.Edits.{Apply, held_in}
use Rattle.project_sources.specs.Sources.{project_in}
use Rattle.project_store.specs.Centres.{AreFree}
use Rattle.project_store.proofs.Trying.{read_whole, why_not_loaded}
use Rattle.project_versions.proofs.Accepting.{changes, fails_by, refused_change, refused_files}
use Rattle.project_versions.proofs.HandedOn.{parts_free, parts_kept}
use Rattle.project_versions.proofs.Naming.{all_within, names_touched}
use Rattle.project_versions.proofs.Readying.{kept_on}
use Rattle.project_versions.specs.Errors.{IsWhyNotEdited}
use Rattle.project_versions.specs.Keeping.{parts_in}
use Rattle.project_versions.specs.Networks.{AreKeptIn}
use Rattle.project_versions.specs.declared.networks.Built.{Built}
use Rattle.project_versions.proofs.editing.edit.Goals as goal

pub with_centres-requires : goal.with_centres-requires
with_centres-requires c =
    let (was, from) = c.networks.ensures.said in
    let read = c.in_ok-next.ensures.project in
    let are = rw c.project-before.ensures at c.in_ok-places.ensures in
    let each = rw (c.project-before.ensures, c.deref.ensures.value) at c.in_ok-kept.ensures.kept in
    let free =
    parts_free was read.said c.args.old.now.loaded c.in_ok-next.next from read.from c.networks.result.now c.networks.ensures.ready c.in_ok-places.places.items are c.in_ok-kept.kept.items c.in_ok-kept.ensures.count each in
    subst (AreFree c.in_ok-next.next) (sym (c.in_ok-parts.ensures ∙ ap (λ (kept : List (Option Built)). parts_in kept) c.deref-2.ensures.value)) free

pub of-requires-clause-files : goal.of-requires-clause-files
of-requires-clause-files c = read_whole c.in_ok-sources.sources c.in_ok-next.next c.in_ok-next.ensures.project c.in_ok-built.ensures.filled

pub of-requires-clause-kept : goal.of-requires-clause-kept
of-requires-clause-kept c =
    let (was, from) = c.networks.ensures.said in
    let read = c.in_ok-next.ensures.project in
    let are = rw c.project-before.ensures at c.in_ok-places.ensures in
    let each = rw (c.project-before.ensures, c.deref.ensures.value) at c.in_ok-kept.ensures.kept in
    let kept = c.in_ok-kept.kept.items in
    let parts = c.in_ok-parts.ensures ∙ ap (λ (bs : List (Option Built)). parts_in bs) c.deref-2.ensures.value in
    let held =
    parts_kept was read.said c.args.old.now.loaded c.in_ok-next.next from read.from c.networks.result.now c.networks.ensures.ready c.in_ok-places.places.items are kept c.in_ok-kept.ensures.count each in
    subst (λ (bs : List (Option Built)). AreKeptIn bs c.in_ok-built.built.items) (sym c.deref-4.ensures.value)
    (kept_on kept c.in_ok-parts.parts.items c.in_ok-built.built.items c.in_ok-built.ensures.stay (subst (λ (nets : List (Option Network)). AreKeptIn kept nets) (sym parts) held))

pub returns-clause-edited : goal.returns-clause-edited
returns-clause-edited c meant stands =
    let old = c.args.old.now in
    let new = c.in_ok-sources.sources in
    let next = c.in_ok-next.next in
    let (said, from, says, table) = read_whole new next c.in_ok-next.ensures.project c.in_ok-built.ensures.filled in
    let few : old.number ≤ most_edits = (let is = c.number-number.ensures.number in omega (arith, is)) in
    let applied : Apply (edits_of c.args.change.now) (held_in old.files) (Ok (held_in new)) = subst (λ (files : Files). Apply (edits_of c.args.change.now) (held_in files) (Ok (held_in new))) c.sources.ensures c.in_ok-sources.ensures in
    let are = (rw c.project-before.ensures at c.in_ok-places.ensures) stands.said said stands.loaded from in
    let places = c.in_ok-places.places.items in
    let same = c.definitions.ensures.definitions ∙ c.plan.ensures.definitions in
    let moved = rw (same, c.deref-3.ensures.value) at c.in_ok-rebuilt.ensures.moved in
    let permuted = moved (all_within (project_in stands.said) (project_in said) next.definitions from.plan.names places are) in
    let names = names_touched (project_in stands.said) (project_in said) next.definitions from.plan.names places are c.in_ok-rebuilt.rebuilt.items permuted c.in_ok-rebuilt.ensures.sorted in (
      record { number = c.number-number.result + 1; files = new; project = project_in said },
      c.in_ok-version.ensures said from says,
      changes old meant stands few c.args.change.now new applied said says (c.number-number.result + 1) (ap (λ (n : ℕ). n + 1) c.number-number.ensures.number),
      subst (λ (p : Project). AreNames (Touched p (project_in said)) c.in_ok-rebuilt.rebuilt.items) (sym stands.project) names,
    )

pub returns-clause-number : goal.returns-clause-number
returns-clause-number c =
    let (said, from, says, table) = read_whole c.in_ok-sources.sources c.in_ok-next.next c.in_ok-next.ensures.project c.in_ok-built.ensures.filled in
    (c.in_ok-version.ensures said from says).number ∙ ap (λ (n : ℕ). n + 1) c.number-number.ensures.number

pub returns-in_err-sources-clause-error : goal.returns-in_err-sources-clause-error
returns-in_err-sources-clause-error c meant stands =
    let old = c.args.old.now in
    let few : old.number ≤ most_edits = (let is = c.number-number.ensures.number in omega (arith, is)) in
    let why = subst (λ (files : Files). IsRefusedBy (λ found. Apply (edits_of c.args.change.now) (held_in files) (Err found)) c.in_err-sources.field-0.0) c.sources.ensures c.in_err-sources.ensures in
    fails_by _ (IsWhyNotEdited meant c.args.change.now) _ c.from_residual.ensures.1 (refused_change old meant stands few c.args.change.now c.in_err-sources.field-0.0 why)

pub returns-in_err-next-clause-error : goal.returns-in_err-next-clause-error
returns-in_err-next-clause-error c meant stands =
    let old = c.args.old.now in
    let new = c.in_ok-sources.sources in
    let few : old.number ≤ most_edits = (let is = c.number-number.ensures.number in omega (arith, is)) in
    let applied : Apply (edits_of c.args.change.now) (held_in old.files) (Ok (held_in new)) = subst (λ (files : Files). Apply (edits_of c.args.change.now) (held_in files) (Ok (held_in new))) c.sources.ensures c.in_ok-sources.ensures in
    fails_by _ (IsWhyNotEdited meant c.args.change.now) _ c.from_residual-in_err-next.ensures.1 (refused_files old meant stands few c.args.change.now new applied c.in_err-next.field-0.0 c.in_err-next.ensures.error)

pub returns-in_err-built-clause-error : goal.returns-in_err-built-clause-error
returns-in_err-built-clause-error c meant stands =
    let old = c.args.old.now in
    let new = c.in_ok-sources.sources in
    let few : old.number ≤ most_edits = (let is = c.number-number.ensures.number in omega (arith, is)) in
    let applied : Apply (edits_of c.args.change.now) (held_in old.files) (Ok (held_in new)) = subst (λ (files : Files). Apply (edits_of c.args.change.now) (held_in files) (Ok (held_in new))) c.sources.ensures c.in_ok-sources.ensures in
    let why = why_not_loaded new c.in_ok-next.next c.in_ok-next.ensures.project c.in_err-built.field-0.0 c.in_err-built.ensures.error in
    fails_by _ (IsWhyNotEdited meant c.args.change.now) _ c.from_residual-in_err-built.ensures.1 (refused_files old meant stands few c.args.change.now new applied c.in_err-built.field-0.0 why)

pub returns-in_err-places-clause-error : goal.returns-in_err-places-clause-error
returns-in_err-places-clause-error c meant stands = fails_by _ (IsWhyNotEdited meant c.args.change.now) _ c.from_residual-in_err-places.ensures.1 tt

pub returns-in_err-kept-clause-error : goal.returns-in_err-kept-clause-error
returns-in_err-kept-clause-error c meant stands = fails_by _ (IsWhyNotEdited meant c.args.change.now) _ c.from_residual-in_err-kept.ensures.1 tt

pub returns-in_err-parts-clause-error : goal.returns-in_err-parts-clause-error
returns-in_err-parts-clause-error c meant stands = fails_by _ (IsWhyNotEdited meant c.args.change.now) _ c.from_residual-in_err-parts.ensures.1 tt

pub returns-in_err-rebuilt-clause-error : goal.returns-in_err-rebuilt-clause-error
returns-in_err-rebuilt-clause-error c meant stands = fails_by _ (IsWhyNotEdited meant c.args.change.now) _ c.from_residual-in_err-rebuilt.ensures.1 tt
