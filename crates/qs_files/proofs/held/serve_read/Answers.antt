use Rattle.std.proofs.Common.{sym, subst, ◌∙◌}
use Rattle.qs_ops.specs.Table.{after_serve}
use Rattle.qs_ops_shares.specs.Shares.{share_in}
use Rattle.qs_files.specs.Held.{Follows}
use Rattle.qs_files.proofs.Replies.{reading-changes, reading-reads}
use Rattle.qs_files.proofs.Seen.{files-same}
use Rattle.qs_files.proofs.Reading.{follows-read, follows-again, follows-back, sorted-read, sorted-back, text-read, text-back}
use Rattle.qs_files.proofs.held.serve_read.Goals as goal

pub returns-in-Ok-clause-files : goal.returns-in-Ok-clause-files
returns-in-Ok-clause-files c =
    let old = c.args.slots.now in
    let new = c.read.new.self in
    let f = c.requires.follows in
    files-same old new f.names (sorted-read old new c.args.shares.now c.args.tid _ c.args.name.now f c.in_ok-before.ensures.ok)
    (text-read old new c.args.shares.now c.args.tid _ c.args.name.now f c.in_ok-before.ensures.ok)

pub returns-in-Ok-clause-follows : goal.returns-in-Ok-clause-follows
returns-in-Ok-clause-follows c =
    let old = c.args.slots.now in
    let new = c.read.new.self in
    let f = c.requires.follows in
    let share = share_in c.args.shares.now c.args.tid in
    follows-read old new c.args.shares.now c.args.tid _ c.args.name.now f c.in_ok-before.ensures.ok c.serve.new.self (after_serve share c.args.op.now c.args.reply.now) c.in-Ok.ensures.held
    (reading-changes share c.args.op.now c.args.reply.now c.args.name.now c.requires.reads) (reading-reads share c.args.op.now c.args.reply.now c.args.name.now c.requires.reads)

pub returns-then-not-before-clause-files : goal.returns-then-not-before-clause-files
returns-then-not-before-clause-files c =
    let old = c.args.slots.now in
    let f = c.requires.follows in
    files-same old c.unread.new.self f.names (sorted-back old c.read.new.self c.args.shares.now c.args.tid _ c.args.name.now f c.in_ok-before.ensures.ok c.unread.new.self c.unread.ensures)
    (text-back old c.read.new.self c.args.shares.now c.args.tid _ c.args.name.now f c.in_ok-before.ensures.ok c.unread.new.self c.unread.ensures)

pub returns-then-not-before-clause-follows : goal.returns-then-not-before-clause-follows
returns-then-not-before-clause-follows c =
    let old = c.args.slots.now in
    let f = c.requires.follows in
    subst (λ shares. Follows c.unread.new.self shares c.args.counts.now.committed) (sym c.in-Err.ensures.err)
    (follows-back old c.read.new.self c.args.shares.now c.args.tid _ c.args.name.now f c.in_ok-before.ensures.ok c.unread.new.self c.unread.ensures (sym c.in_ok-before.ensures.before ∙ c.if-not-before.true))

pub returns-else-not-before-clause-files : goal.returns-else-not-before-clause-files
returns-else-not-before-clause-files c =
    let old = c.args.slots.now in
    let f = c.requires.follows in
    files-same old c.read.new.self f.names (sorted-read old c.read.new.self c.args.shares.now c.args.tid _ c.args.name.now f c.in_ok-before.ensures.ok)
    (text-read old c.read.new.self c.args.shares.now c.args.tid _ c.args.name.now f c.in_ok-before.ensures.ok)

pub returns-else-not-before-clause-follows : goal.returns-else-not-before-clause-follows
returns-else-not-before-clause-follows c =
    let old = c.args.slots.now in
    let f = c.requires.follows in
    subst (λ shares. Follows c.read.new.self shares c.args.counts.now.committed) (sym c.in-Err.ensures.err)
    (follows-again old c.read.new.self c.args.shares.now c.args.tid _ c.args.name.now f c.in_ok-before.ensures.ok (sym c.in_ok-before.ensures.before ∙ c.if-not-before.false))
