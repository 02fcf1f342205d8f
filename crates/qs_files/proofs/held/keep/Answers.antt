use Rattle.std.proofs.Common.{sym, subst, ap, ◌∙◌, take, length, ◌<◌, ◌^◌, arith}
use Rattle.std.specs.List.{fold}
use Rattle.qs_files_contents.specs.Slots.{Entries, tidy_change}
use Rattle.qs_ops_shares.specs.Shares.{kept_share}
use Rattle.qs_files.specs.Held.{Follows}
use Rattle.qs_files.proofs.Following.{follows-now}
use Rattle.qs_files.proofs.Keeping.{keeps_are, now-kept, text-kept_again}
use Rattle.qs_files.proofs.Seen.{files-same}
use Rattle.qs_files.proofs.Serving.{follows-tidied, files-placed}
use Rattle.qs_files.proofs.held.keep.Goals as goal

pub returns-in-Err-clause-follows : goal.returns-in-Err-clause-follows
returns-in-Err-clause-follows c =
    follows-tidied c.args.slots.now c.tidy_all.new.self c.args.shares.now c.args.tid c.args.counts.now.committed (take c.in-Err.ensures.err.0 c.deref.result.now) c.as_slice-in-Err.result.now c.requires.follows
    (c.tidy_all.ensures ∙ ap (λ (x : Entries). fold (tidy_change c.args.tid) x c.as_slice-in-Err.result.now) c.in-Err.ensures.err.1)

pub returns-in-Err-clause-files : goal.returns-in-Err-clause-files
returns-in-Err-clause-files c =
    let is = c.tidy_all.ensures ∙ ap (λ (x : Entries). fold (tidy_change c.args.tid) x c.as_slice-in-Err.result.now) c.in-Err.ensures.err.1 in
    files-same c.args.slots.now c.tidy_all.new.self c.requires.follows.names
    (follows-tidied c.args.slots.now c.tidy_all.new.self c.args.shares.now c.args.tid c.args.counts.now.committed (take c.in-Err.ensures.err.0 c.deref.result.now) c.as_slice-in-Err.result.now c.requires.follows is).names
    (files-placed c.args.slots.now c.tidy_all.new.self c.args.tid (take c.in-Err.ensures.err.0 c.deref.result.now) c.as_slice-in-Err.result.now c.args.counts.now.committed c.args.shares.now c.requires.follows is)

pub returns-in-Err-keep-clause-follows : goal.returns-in-Err-keep-clause-follows
returns-in-Err-keep-clause-follows c =
    subst (λ shares. Follows c.tidy_all-in-Err-keep.new.self shares c.args.counts.now.committed) (sym c.in-Err-keep.ensures.err)
    (follows-tidied c.args.slots.now c.tidy_all-in-Err-keep.new.self c.args.shares.now c.args.tid c.args.counts.now.committed c.deref.result.now c.as_slice-in-Err-keep.result.now c.requires.follows
    (c.tidy_all-in-Err-keep.ensures ∙ ap (λ (x : Entries). fold (tidy_change c.args.tid) x c.as_slice-in-Err-keep.result.now) c.in_default.ensures.ok))

pub returns-in-Err-keep-clause-files : goal.returns-in-Err-keep-clause-files
returns-in-Err-keep-clause-files c =
    let is = c.tidy_all-in-Err-keep.ensures ∙ ap (λ (x : Entries). fold (tidy_change c.args.tid) x c.as_slice-in-Err-keep.result.now) c.in_default.ensures.ok in
    files-same c.args.slots.now c.tidy_all-in-Err-keep.new.self c.requires.follows.names
    (follows-tidied c.args.slots.now c.tidy_all-in-Err-keep.new.self c.args.shares.now c.args.tid c.args.counts.now.committed c.deref.result.now c.as_slice-in-Err-keep.result.now c.requires.follows is).names
    (files-placed c.args.slots.now c.tidy_all-in-Err-keep.new.self c.args.tid c.deref.result.now c.as_slice-in-Err-keep.result.now c.args.counts.now.committed c.args.shares.now c.requires.follows is)

pub returns-in-Ok-clause-files : goal.returns-in-Ok-clause-files
returns-in-Ok-clause-files c =
    let old = c.args.slots.now in
    let is = keeps_are old c.place_all.new.self c.finish_all.new.self c.change_all.new.self c.tidy_all-in-Ok.new.self c.unread_all.new.self c.args.tid _ _ _ _ _ _ _ _ c.in_default.ensures.ok c.deref.ensures.value c.in_ok-prepared.ensures c.as_slice.ensures
    c.finish_all.ensures c.change_all.ensures c.tidy_all-in-Ok.ensures c.unread_all.ensures (c.as_slice-dropped.ensures ∙ c.requires.changes) (c.as_slice-in-Ok.ensures ∙ c.requires.reads) in
    let lt : length c.args.changes.now < 2 ^ 63 = omega (arith, c.len.ensures, c.in_ok-after.ensures.1.0, c.in_ok-after.ensures.1.1) in
    let now = now-kept old c.unread_all.new.self c.args.shares.now c.args.tid c.args.counts.now.committed c.args.changes.now c.requires.follows lt is in
    files-same old c.unread_all.new.self c.requires.follows.names now.names (text-kept_again old c.unread_all.new.self c.args.shares.now c.args.tid c.args.counts.now.committed c.args.changes.now c.requires.follows lt is)

pub returns-in-Ok-clause-follows : goal.returns-in-Ok-clause-follows
returns-in-Ok-clause-follows c =
    let old = c.args.slots.now in
    let is = keeps_are old c.place_all.new.self c.finish_all.new.self c.change_all.new.self c.tidy_all-in-Ok.new.self c.unread_all.new.self c.args.tid _ _ _ _ _ _ _ _ c.in_default.ensures.ok c.deref.ensures.value c.in_ok-prepared.ensures c.as_slice.ensures
    c.finish_all.ensures c.change_all.ensures c.tidy_all-in-Ok.ensures c.unread_all.ensures (c.as_slice-dropped.ensures ∙ c.requires.changes) (c.as_slice-in-Ok.ensures ∙ c.requires.reads) in
    let lt : length c.args.changes.now < 2 ^ 63 = omega (arith, c.len.ensures, c.in_ok-after.ensures.1.0, c.in_ok-after.ensures.1.1) in
    let now = now-kept old c.unread_all.new.self c.args.shares.now c.args.tid c.args.counts.now.committed c.args.changes.now c.requires.follows lt is in
    subst (λ n. Follows c.unread_all.new.self c.keep.new.self n) (sym c.in_ok-after.ensures.0)
    (follows-now old c.unread_all.new.self c.args.shares.now c.keep.new.self c.args.tid (kept_share c.args.changes.now) c.args.counts.now.committed c.args.counts.now.committed c.requires.follows c.in-Ok.ensures.held now)
