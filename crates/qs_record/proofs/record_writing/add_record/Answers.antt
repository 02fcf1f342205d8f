use Rattle.std.proofs.Common.{rules}
use Rattle.qs_record.specs.Writing.{Grows}
use Rattle.qs_record.proofs.Writers.{adds_grows, behind_grows, grows_more, prepare_added, commit_added}
use Rattle.qs_record.proofs.record_writing.add_record.Goals as goal

pub returns-in_err-add_share-in-Prepare-clause-err : goal.returns-in_err-add_share-in-Prepare-clause-err
returns-in_err-add_share-in-Prepare-clause-err c =
    let g : Grows c.args.out.now c.add_share.new.out =
    grows_more c.args.out.now c.add_tagged.new.out c.add_share.new.out (adds_grows c.in_ok-add_tagged-in-Prepare.ensures.ok) c.in_err-add_share-in-Prepare.ensures.err in
    search rules

pub returns-in_ok-add_share-in-Prepare-clause-err : goal.returns-in_ok-add_share-in-Prepare-clause-err
returns-in_ok-add_share-in-Prepare-clause-err c =
    behind_grows c.add_changes.result c.args.out.now c.add_tagged.new.out c.add_changes.new.out c.in_ok-add_tagged-in-Prepare.ensures.ok
    (behind_grows c.add_changes.result c.add_tagged.new.out c.add_share.new.out c.add_changes.new.out c.in_ok-add_share-in-Prepare.ensures.ok c.add_changes.ensures.err)

pub returns-in_ok-add_share-in-Prepare-clause-ok : goal.returns-in_ok-add_share-in-Prepare-clause-ok
returns-in_ok-add_share-in-Prepare-clause-ok c =
    let r = c.in-Prepare in
    rw r.is
    (prepare_added c.add_changes.result r.tid r.server r.covers r.changes c.args.out.now c.add_tagged.new.out c.add_share.new.out c.add_changes.new.out
    (rw r.is at c.requires).1 c.in_ok-add_tagged-in-Prepare.ensures.ok c.in_ok-add_share-in-Prepare.ensures.ok c.add_changes.ensures.ok)

pub returns-in_ok-add_tagged-in-Commit-clause-err : goal.returns-in_ok-add_tagged-in-Commit-clause-err
returns-in_ok-add_tagged-in-Commit-clause-err c =
    behind_grows c.add_nodes.result c.args.out.now c.add_tagged-in-Commit.new.out c.add_nodes.new.out c.in_ok-add_tagged-in-Commit.ensures.ok c.add_nodes.ensures.err

pub returns-in_ok-add_tagged-in-Commit-clause-ok : goal.returns-in_ok-add_tagged-in-Commit-clause-ok
returns-in_ok-add_tagged-in-Commit-clause-ok c =
    let r = c.in-Commit in
    rw r.is
    (commit_added c.add_nodes.result r.tid r.told c.args.out.now c.add_tagged-in-Commit.new.out c.add_nodes.new.out c.in_ok-add_tagged-in-Commit.ensures.ok c.add_nodes.ensures.ok)
