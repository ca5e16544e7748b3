use Rattle.std.proofs.Common.{List, ℕ, map, subst}
use Rattle.project_meaning.specs.Projects.{names_of}
use Rattle.project_sources.specs.Sources.{Said, project_in}
use Rattle.project_model.specs.Answers.{written_of}
use Rattle.project_definitions.specs.Forms.{AreDefined, AreForms}
use Rattle.project_definitions.specs.declared.definition.Definition.{Definition}
use Rattle.project_model.proofs.Projecting.{is_plan, is_planned, why_no_order, why_no_plan}
use Rattle.project_model.proofs.plan.plan_over.Goals as goal

pub returns-in-Err-clause-plan : goal.returns-in-Err-clause-plan
returns-in-Err-clause-plan c manifest is =
    why_no_order (map written_of c.args.written.items) c.args.names.now c.args.alphabet.now c.args.table.now c.intern_all.new.table c.in_ok-definitions.definitions.items c.requires.names c.in_ok-intern_all.ensures.table c.in_ok-definitions.ensures
    c.requires.symbols c.requires.apart manifest c.in-Err.error (rw c.deref.ensures.value at c.in-Err.ensures.error)

pub returns-in-Err-check-clause-plan : goal.returns-in-Err-check-clause-plan
returns-in-Err-check-clause-plan c manifest is =
    why_no_plan (map written_of c.args.written.items) c.args.names.now c.args.alphabet.now c.args.table.now c.intern_all.new.table c.in_ok-definitions.definitions.items c.requires.names c.in_ok-intern_all.ensures.table c.in_ok-definitions.ensures
    c.requires.symbols c.requires.apart (rw c.deref.ensures.value at c.in-Ok.ensures.acyclic) c.in_ok-forms.forms.items (rw c.deref-2.ensures.value at c.in_ok-forms.ensures.count)
    (subst (λ (ds : List Definition). (said : Said) (table : List (List ℕ)) → AreDefined said table ds → AreForms (names_of said.written) (project_in said) c.in_ok-forms.forms.items) c.deref-2.ensures.value c.in_ok-forms.ensures.forms)
    manifest c.in-Err-check.error (rw (c.deref-4.ensures.value, c.deref-5.ensures.value) at c.in-Err-check.ensures.error)

pub invariant_of-result : goal.invariant_of-result
invariant_of-result c = record {
  formed =
      is_plan (map written_of c.args.written.items) c.args.names.now c.args.alphabet.now c.args.table.now c.intern_all.new.table c.in_ok-definitions.definitions.items c.requires.names c.in_ok-intern_all.ensures.table c.in_ok-definitions.ensures
      c.requires.symbols c.requires.apart (rw c.deref.ensures.value at c.in-Ok.ensures.acyclic) c.in_ok-forms.forms.items (rw c.deref-2.ensures.value at c.in_ok-forms.ensures.count)
      (subst (λ (ds : List Definition). (said : Said) (table : List (List ℕ)) → AreDefined said table ds → AreForms (names_of said.written) (project_in said) c.in_ok-forms.forms.items) c.deref-2.ensures.value c.in_ok-forms.ensures.forms)
      c.args.glosses c.requires.formed c.in_ok-symbols.symbols.items c.in_ok-symbols.ensures c.requires.distinct (rw (c.deref-4.ensures.value, c.deref-5.ensures.value) at c.in-Ok-check.ensures.fits) (rw (c.deref-4.ensures.value, c.deref-5.ensures.value) at c.in-Ok-check.ensures.light) c.requires.built;
  ordered = rw c.deref.ensures.value at c.in-Ok.ensures.order;
}

pub returns-clause-plan : goal.returns-clause-plan
returns-clause-plan c manifest is =
    is_planned (map written_of c.args.written.items) c.args.names.now c.args.alphabet.now c.args.table.now c.intern_all.new.table c.in_ok-definitions.definitions.items c.requires.names c.in_ok-intern_all.ensures.table c.in_ok-definitions.ensures
    c.requires.symbols c.requires.apart (rw c.deref.ensures.value at c.in-Ok.ensures.acyclic) c.in_ok-forms.forms.items (rw c.deref-2.ensures.value at c.in_ok-forms.ensures.count)
    (subst (λ (ds : List Definition). (said : Said) (table : List (List ℕ)) → AreDefined said table ds → AreForms (names_of said.written) (project_in said) c.in_ok-forms.forms.items) c.deref-2.ensures.value c.in_ok-forms.ensures.forms)
    c.args.glosses c.requires.formed c.in_ok-symbols.symbols.items c.in_ok-symbols.ensures c.requires.distinct (rw (c.deref-4.ensures.value, c.deref-5.ensures.value) at c.in-Ok-check.ensures.fits) (rw (c.deref-4.ensures.value, c.deref-5.ensures.value) at c.in-Ok-check.ensures.light) c.requires.built manifest is
