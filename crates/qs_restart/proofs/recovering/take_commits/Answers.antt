use Rattle.std.proofs.Common.{◌∙◌, sym}
use Rattle.qs_restart.proofs.Committing.{files_on, audit_on, extra_on, committed_on, follows_on}
use Rattle.qs_restart.proofs.recovering.take_commits.Goals as goal

pub loop-at-preserved : goal.loop-at-preserved
loop-at-preserved c =
    let p = c.loop-at.places.prepares.entries in
    let l = c.loop-at.places.listed.entries in
    let e = c.loop-at.places.ends.entries in
    let log = c.args.records.now in
    let i = c.loop-at.at in
    let rec = c.index-records-at.result in
    let f = c.loop-at.invariant.follows in
    record {
      files = files_on p l e log i f c.loop-at-test.true rec (sym c.index-records-at.is) c.loop-at.found.files c.take_if_commit.new.found.files c.in_ok-take_if_commit.ensures.files c.loop-at.invariant.files;
      audit = audit_on p l e log i f c.loop-at-test.true rec (sym c.index-records-at.is) c.loop-at.found.audit c.take_if_commit.new.found.audit c.in_ok-take_if_commit.ensures.audit c.loop-at.invariant.audit;
      extra = extra_on p l e log i f c.loop-at-test.true rec (sym c.index-records-at.is) c.loop-at.found.extra c.take_if_commit.new.found.extra c.in_ok-take_if_commit.ensures.extra c.loop-at.invariant.extra;
      committed = committed_on p l e log i f c.loop-at-test.true rec (sym c.index-records-at.is) c.loop-at.found.committed c.take_if_commit.new.found.committed c.in_ok-take_if_commit.ensures.committed c.loop-at.invariant.committed;
      votes = c.take_if_commit.ensures.votes ∙ c.loop-at.invariant.votes;
      in_doubt = c.take_if_commit.ensures.in_doubt ∙ c.loop-at.invariant.in_doubt;
      untold = c.take_if_commit.ensures.untold ∙ c.loop-at.invariant.untold;
      follows = follows_on p l e log i f c.loop-at-test.true rec (sym c.index-records-at.is) c.note.new.self.prepares.entries c.note.new.self.listed.entries c.note.new.self.ends.entries c.in_ok-note.ensures.prepares c.in_ok-note.ensures.listed c.in_ok-note.ensures.ends;
    }
