use Rattle.std.proofs.Common.{◌∙◌, ◌+◌, length, ap, arith}
use Rattle.qs_ops.specs.declared.share.Share.{Share}
use Rattle.qs_files.proofs.Ended.{steps_are, follows-ended, files-ended, own_counted}
use Rattle.qs_files.proofs.held.end.Goals as goal

pub returns-then-commits-clause-files : goal.returns-then-commits-clause-files
returns-then-commits-clause-files c =
    let old = c.args.slots.now in
    files-ended old c.unread_all.new.self c.args.shares.now c.args.tid c.args.commits c.args.counts.now.committed c.requires.follows
    (steps_are old c.end_all.new.self c.unread_all.new.self c.args.tid c.args.commits _ _ _ _ c.end_all.ensures c.unread_all.ensures
    (c.as_slice-changes.ensures ∙ ap (λ (s : Share). s.changes) c.release-share.ensures.value) (c.as_slice.ensures ∙ ap (λ (s : Share). s.reads) c.release-share.ensures.value))
    (own_counted c.args.shares.now c.release-share.new.self c.args.tid c.args.counts.now.pending c.args.counts.now.committed c.requires.counted c.release-share.ensures.sums)

pub returns-else-commits-clause-files : goal.returns-else-commits-clause-files
returns-else-commits-clause-files c =
    let old = c.args.slots.now in
    files-ended old c.unread_all.new.self c.args.shares.now c.args.tid c.args.commits c.args.counts.now.committed c.requires.follows
    (steps_are old c.end_all.new.self c.unread_all.new.self c.args.tid c.args.commits _ _ _ _ c.end_all.ensures c.unread_all.ensures
    (c.as_slice-changes.ensures ∙ ap (λ (s : Share). s.changes) c.release-share.ensures.value) (c.as_slice.ensures ∙ ap (λ (s : Share). s.reads) c.release-share.ensures.value))
    (own_counted c.args.shares.now c.release-share.new.self c.args.tid c.args.counts.now.pending c.args.counts.now.committed c.requires.counted c.release-share.ensures.sums)

pub returns-then-commits-clause-follows : goal.returns-then-commits-clause-follows
returns-then-commits-clause-follows c =
    let old = c.args.slots.now in
    let same = c.as_slice-changes.ensures ∙ ap (λ (s : Share). s.changes) c.release-share.ensures.value in
    let count = ap length same in
    follows-ended old c.unread_all.new.self c.args.shares.now c.args.tid c.args.commits c.args.counts.now.committed c.requires.follows
    (steps_are old c.end_all.new.self c.unread_all.new.self c.args.tid c.args.commits _ _ _ _ c.end_all.ensures c.unread_all.ensures
    same (c.as_slice.ensures ∙ ap (λ (s : Share). s.reads) c.release-share.ensures.value))
    c.release-share.new.self (c.args.counts.now.committed + length c.as_slice-changes.result.now) c.release-share.ensures.held (omega (arith)) (λ commits. omega (arith, count))

pub returns-else-commits-clause-follows : goal.returns-else-commits-clause-follows
returns-else-commits-clause-follows c =
    let old = c.args.slots.now in
    follows-ended old c.unread_all.new.self c.args.shares.now c.args.tid c.args.commits c.args.counts.now.committed c.requires.follows
    (steps_are old c.end_all.new.self c.unread_all.new.self c.args.tid c.args.commits _ _ _ _ c.end_all.ensures c.unread_all.ensures
    (c.as_slice-changes.ensures ∙ ap (λ (s : Share). s.changes) c.release-share.ensures.value) (c.as_slice.ensures ∙ ap (λ (s : Share). s.reads) c.release-share.ensures.value))
    c.release-share.new.self c.args.counts.now.committed c.release-share.ensures.held (omega (arith)) (λ commits. let no = c.if-commits.false in absurd (cc))
