use Rattle.fsm_program.proofs.Gathering.{asked_sure, asks_all, asks_manifest, gathered_alone, gathers_all}
use Rattle.fsm_program.proofs.load.gather.Goals as goal

pub returns-in_err-sources-clause-asked : goal.returns-in_err-sources-clause-asked
returns-in_err-sources-clause-asked g c = asks_manifest _ _ _ c.args.most _ c.requires c.with_file.ensures.asked

pub returns-in_err-manifest-clause-asked : goal.returns-in_err-manifest-clause-asked
returns-in_err-manifest-clause-asked g c = asks_manifest _ _ _ c.args.most _ c.requires c.with_file.ensures.asked

pub returns-in-Some-clause-gathered : goal.returns-in-Some-clause-gathered
returns-in-Some-clause-gathered g c =
    let first = rw c.new.ensures at c.in_ok-sources.ensures.added in
    let declared = rw c.in-Some.is at c.in_ok-manifest.ensures in
    let others = rw c.files.ensures.files at c.with_files.ensures.others in
    let seen = rw (c.files.ensures.files, c.with_file.ensures.files) at c.with_files.ensures.seen in
    gathers_all c.args.most c.requires _ c.in_ok-sources.sources first c.in-Some.manifest declared c.files.ensures.formed c.with_files.result others seen

pub returns-in-Some-clause-asked : goal.returns-in-Some-clause-asked
returns-in-Some-clause-asked g c =
    let first = rw c.new.ensures at c.in_ok-sources.ensures.added in
    let declared = rw c.in-Some.is at c.in_ok-manifest.ensures in
    let front = rw c.files.ensures.files at c.with_files.ensures.asked in
    let one = asked_sure _ _ _ c.in_ok-sources.ensures.asked in
    asks_all c.args.most c.requires _ c.in_ok-sources.sources first c.in-Some.manifest declared c.files.ensures.formed _ _ _ one front

pub returns-in-None-clause-gathered : goal.returns-in-None-clause-gathered
returns-in-None-clause-gathered g c =
    let first = rw c.new.ensures at c.in_ok-sources.ensures.added in
    let none = rw c.in-None.is at c.in_ok-manifest.ensures in
    gathered_alone c.args.most c.requires _ c.in_ok-sources.sources first none

pub returns-in-None-clause-asked : goal.returns-in-None-clause-asked
returns-in-None-clause-asked g c = asks_manifest _ _ _ c.args.most _ c.requires c.with_file.ensures.asked
