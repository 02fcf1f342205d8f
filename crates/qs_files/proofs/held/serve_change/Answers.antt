use Rattle.std.proofs.Common.{sym, subst, ap, ◌∙◌, ◌∷◌, [], take}
use Rattle.qs_ops.specs.Table.{after_serve}
use Rattle.qs_files_contents.specs.Slots.{Entries, tidy_change}
use Rattle.qs_ops_shares.specs.Shares.{share_in}
use Rattle.qs_files.specs.Held.{Follows}
use Rattle.qs_files.proofs.Following.{follows-now}
use Rattle.qs_files.proofs.Replies.{changing-changes, changing-reads}
use Rattle.qs_files.proofs.Seen.{files-same}
use Rattle.qs_files.proofs.Serving.{follows-tidied, files-placed, changes_are, now-changed, text-kept, room_left, few}
use Rattle.qs_files.proofs.held.serve_change.Goals as goal
use Rattle.std.specs.List.{fold}

pub returns-in-Err-clause-follows : goal.returns-in-Err-clause-follows
returns-in-Err-clause-follows c =
    follows-tidied c.args.slots.now c.tidy_all.new.self c.args.shares.now c.args.tid c.args.counts.now.committed (take c.in-Err.ensures.err.0 c.deref.result.now) c.from_ref-change.result.now c.requires.follows
    (c.tidy_all.ensures ∙ ap (λ (x : Entries). fold (tidy_change c.args.tid) x c.from_ref-change.result.now) c.in-Err.ensures.err.1)

pub returns-in-Err-clause-files : goal.returns-in-Err-clause-files
returns-in-Err-clause-files c =
    let is = c.tidy_all.ensures ∙ ap (λ (x : Entries). fold (tidy_change c.args.tid) x c.from_ref-change.result.now) c.in-Err.ensures.err.1 in
    files-same c.args.slots.now c.tidy_all.new.self c.requires.follows.names (follows-tidied c.args.slots.now c.tidy_all.new.self c.args.shares.now c.args.tid c.args.counts.now.committed (take c.in-Err.ensures.err.0 c.deref.result.now) c.from_ref-change.result.now c.requires.follows is).names
    (files-placed c.args.slots.now c.tidy_all.new.self c.args.tid (take c.in-Err.ensures.err.0 c.deref.result.now) c.from_ref-change.result.now c.args.counts.now.committed c.args.shares.now c.requires.follows is)

pub returns-in-Err-serve-clause-follows : goal.returns-in-Err-serve-clause-follows
returns-in-Err-serve-clause-follows c =
    subst (λ shares. Follows c.tidy_all-in-Err-serve.new.self shares c.args.counts.now.committed) (sym c.in-Err-serve.ensures.err)
    (follows-tidied c.args.slots.now c.tidy_all-in-Err-serve.new.self c.args.shares.now c.args.tid c.args.counts.now.committed c.deref.result.now c.from_ref-change.result.now c.requires.follows
    (c.tidy_all-in-Err-serve.ensures ∙ ap (λ (x : Entries). fold (tidy_change c.args.tid) x c.from_ref-change.result.now) c.in_default.ensures.ok))

pub returns-in-Err-serve-clause-files : goal.returns-in-Err-serve-clause-files
returns-in-Err-serve-clause-files c =
    let is = c.tidy_all-in-Err-serve.ensures ∙ ap (λ (x : Entries). fold (tidy_change c.args.tid) x c.from_ref-change.result.now) c.in_default.ensures.ok in
    files-same c.args.slots.now c.tidy_all-in-Err-serve.new.self c.requires.follows.names (follows-tidied c.args.slots.now c.tidy_all-in-Err-serve.new.self c.args.shares.now c.args.tid c.args.counts.now.committed c.deref.result.now c.from_ref-change.result.now c.requires.follows is).names
    (files-placed c.args.slots.now c.tidy_all-in-Err-serve.new.self c.args.tid c.deref.result.now c.from_ref-change.result.now c.args.counts.now.committed c.args.shares.now c.requires.follows is)

pub returns-in-Ok-clause-files : goal.returns-in-Ok-clause-files
returns-in-Ok-clause-files c =
    let old = c.args.slots.now in
    let new = c.change_all.new.self in
    let share = share_in c.args.shares.now c.args.tid in
    let is = changes_are old c.place_all.new.self new c.args.tid c.deref.result.now _ c.from_ref-change.result.now (c.args.op.now ∷ []) c.in_default.ensures.ok c.deref.ensures.value c.in_ok-prepared.ensures c.from_ref-change.ensures.value c.change_all.ensures in
    let now = now-changed old new c.args.shares.now c.args.tid c.args.counts.now.committed (c.args.op.now ∷ []) c.requires.follows is (after_serve share c.args.op.now c.args.reply.now)
    (changing-changes share c.args.op.now c.args.reply.now c.requires.changes) (changing-reads share c.args.op.now c.args.reply.now c.requires.changes)
    (room_left c.args.shares.now c.args.tid c.args.counts.now.pending c.args.counts.now.committed 1 c.requires.counted (few c.in_ok-after.after.committed c.in_ok-after.after.pending c.args.counts.now.committed c.args.counts.now.pending c.in_ok-after.ensures.0 c.in_ok-after.ensures.1.0 c.in_ok-after.ensures.1.1)) in
    files-same old new c.requires.follows.names now.names (text-kept old new c.args.shares.now c.args.tid c.args.counts.now.committed (c.args.op.now ∷ []) c.requires.follows is)

pub returns-in-Ok-clause-follows : goal.returns-in-Ok-clause-follows
returns-in-Ok-clause-follows c =
    let old = c.args.slots.now in
    let new = c.change_all.new.self in
    let share = share_in c.args.shares.now c.args.tid in
    let is = changes_are old c.place_all.new.self new c.args.tid c.deref.result.now _ c.from_ref-change.result.now (c.args.op.now ∷ []) c.in_default.ensures.ok c.deref.ensures.value c.in_ok-prepared.ensures c.from_ref-change.ensures.value c.change_all.ensures in
    let now = now-changed old new c.args.shares.now c.args.tid c.args.counts.now.committed (c.args.op.now ∷ []) c.requires.follows is (after_serve share c.args.op.now c.args.reply.now)
    (changing-changes share c.args.op.now c.args.reply.now c.requires.changes) (changing-reads share c.args.op.now c.args.reply.now c.requires.changes)
    (room_left c.args.shares.now c.args.tid c.args.counts.now.pending c.args.counts.now.committed 1 c.requires.counted (few c.in_ok-after.after.committed c.in_ok-after.after.pending c.args.counts.now.committed c.args.counts.now.pending c.in_ok-after.ensures.0 c.in_ok-after.ensures.1.0 c.in_ok-after.ensures.1.1)) in
    subst (λ n. Follows new c.serve.new.self n) (sym c.in_ok-after.ensures.0)
    (follows-now old new c.args.shares.now c.serve.new.self c.args.tid (after_serve share c.args.op.now c.args.reply.now) c.args.counts.now.committed c.args.counts.now.committed c.requires.follows c.in-Ok.ensures.held now)
