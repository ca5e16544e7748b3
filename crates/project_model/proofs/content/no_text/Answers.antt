use Rattle.std.proofs.Common.{subst}
use Rattle.fsm_base.specs.Normal.{IsWhyNoText, source_text}
use Rattle.project_sources.specs.Faults.{HasNoText}
use Rattle.project_definitions.proofs.Steps.{refused_by}
use Rattle.project_model.proofs.Reading.{text_controlled, text_no_utf8}
use Rattle.project_model.proofs.content.no_text.Goals as goal

pub returns-in-NotUtf8 : goal.returns-in-NotUtf8
returns-in-NotUtf8 c bytes small is =
    refused_by (HasNoText c.args.name.now bytes) _ c.refused.result (text_no_utf8 c.args.name.now bytes _ small (subst (IsWhyNoText (source_text bytes)) c.in-NotUtf8.is is)) c.refused.ensures

pub returns-in-Control : goal.returns-in-Control
returns-in-Control c bytes small is =
    refused_by (HasNoText c.args.name.now bytes) _ c.refused-in-Control.result (text_controlled c.args.name.now bytes _ small (subst (IsWhyNoText (source_text bytes)) c.in-Control.is is)) c.refused-in-Control.ensures
