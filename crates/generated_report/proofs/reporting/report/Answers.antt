use denote.Param.Send.{sendable}
use Rattle.std.proofs.Common.{◌<◌, ◌-◌, ◌^◌, ℕ, List, length, codes, sym, subst, ◌∙◌}
use Rattle.std.specs.Str.{IsUtf8}
use Rattle.project_sources.specs.Sources.{project_in}
use Rattle.generated_report.specs.Counts.{AreCounts}
use Rattle.generated_report.specs.Errors.{IsWhyNone}
use Rattle.generated_report.specs.Words.{words_in}
use Rattle.generated_report.proofs.Made.{text_short, text_utf8}
use Rattle.generated_report.proofs.Reported.{fails_by, reported, why_none}
use Rattle.generated_report.proofs.reporting.report.Goals as goal

pub text_of-requires : goal.text_of-requires
text_of-requires g c = subst IsUtf8 (sym (c.deref.ensures.value ∙ c.in_ok-text.ensures)) (text_utf8 c.args.stems)

pub counts_of-requires : goal.counts_of-requires
counts_of-requires g c =
    let shared = c.type_bounds.sync-R in (
      search sendable depth 20,
      subst (λ (text : List ℕ). length text < 2 ^ 32 - 1) (sym (c.text_of.ensures ∙ c.deref.ensures.value ∙ c.in_ok-text.ensures)) (text_short c.args.stems c.requires.few),
    )

pub returns-in_err-ready-clause-error : goal.returns-in_err-ready-clause-error
returns-in_err-ready-clause-error g c =
    fails_by _ (IsWhyNone c.args.stems) _ c.from_residual-in_err-ready.ensures.1 (why_none c.args.stems c.in_ok-sources.sources c.in_ok-sources.ensures c.in_err-ready.field-0.0 c.in_err-ready.ensures.error)

pub returns-in_err-text-clause-error : goal.returns-in_err-text-clause-error
returns-in_err-text-clause-error g c = fails_by _ (IsWhyNone c.args.stems) _ c.from_residual-in_err-text.ensures.1 tt

pub returns-clause-report : goal.returns-clause-report
returns-clause-report g c =
    let text = c.text_of.ensures ∙ c.deref.ensures.value ∙ c.in_ok-text.ensures in
    reported c.args.stems c.in_ok-sources.sources c.in_ok-sources.ensures c.in_ok-ready.ready c.in_ok-ready.ensures.project c.in_ok-counts.counts
    (λ said from. subst (λ (bytes : List ℕ). AreCounts (project_in said) c.in_ok-ready.ready.glosses (codes "Net") (words_in bytes) c.in_ok-counts.counts) text (c.in_ok-counts.ensures said from))
    c.in_ok-lines.field-0.items c.in_ok-lines.ensures
