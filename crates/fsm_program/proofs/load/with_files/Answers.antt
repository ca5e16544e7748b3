use Rattle.std.proofs.Common.{refl, ◌∙◌, arith}
use Rattle.fsm_program.proofs.Gathering.{asked_front, asked_more, asked_nothing, asked_sure, none_seen, none_yet, others_more, seen_more}
use Rattle.fsm_program.proofs.load.with_files.Goals as goal

pub names-init : goal.names-init
names-init g c = record {
  seen = none_seen c.args.sources _;
  others = λ other none. refl;
  asked = asked_nothing _ _ refl;
  files = refl;
  later = omega arith;
}

pub with_file-requires : goal.with_file-requires
with_file-requires g c =
    let none = none_yet c.args.names.now c.names.name-index c.name-item.result (omega arith) c.name-item.is c.args.sources c.names.sources c.requires.apart c.requires.new c.names.invariant.others in
    rw c.as_str.ensures none

pub names-preserved : goal.names-preserved
names-preserved g c =
    let added = rw c.as_str.ensures at c.in_ok-sources.ensures.added in
    let step = rw c.as_str.ensures at c.in_ok-sources.ensures.others in
    let asked = rw c.as_str.ensures at c.in_ok-sources.ensures.asked in
    let names = c.args.names.now in
    let i = c.names.name-index in
    let name = c.name-item.result in
    record {
      seen = seen_more names i name (omega arith) c.name-item.is c.args.most c.names.sources c.in_ok-sources.sources _ c.requires.most c.requires.apart step c.names.invariant.seen (rw c.names.invariant.files at added);
      others = others_more names i name (omega arith) c.name-item.is c.args.sources c.names.sources c.in_ok-sources.sources c.names.invariant.others step;
      asked = asked_more names i name (omega arith) c.name-item.is _ _ _ c.args.most c.requires.most c.names.invariant.asked (asked_sure _ _ _ asked);
      files = c.in_ok-sources.ensures.files ∙ c.names.invariant.files;
      later = omega (arith, c.names.invariant.later, c.in_ok-sources.ensures.later);
    }

pub returns-in_err-sources-clause-asked : goal.returns-in_err-sources-clause-asked
returns-in_err-sources-clause-asked g c =
    let asked = rw c.as_str.ensures at c.with_file.ensures.asked in
    asked_front c.args.names.now c.names.name-index c.name-item.result (omega arith) c.name-item.is _ _ _ c.args.most c.with_file.result c.requires.most c.names.invariant.asked asked
