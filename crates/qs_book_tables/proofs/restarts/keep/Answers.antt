use Rattle.std.proofs.Common.{List, sym, ap, subst, ◌∙◌}
use Rattle.std.specs.List.{list_any}
use Rattle.std.specs.BTreeMap.{insert_entry}
use Rattle.qs_base.specs.Order.{tid_cmp}
use Rattle.qs_base.specs.declared.identifiers.Tid.{Tid}
use Rattle.qs_ops.specs.declared.share.Share.{Share}
use Rattle.qs_book_tables.specs.Held.{FollowShares, changers}
use Rattle.qs_book_tables.specs.Index.{ChangesHolders, with_tid}
use Rattle.qs_ops.specs.Table.{is_change_of}
use Rattle.qs_book_tables.specs.Restarts.{kept_share}
use Rattle.qs_book_tables.proofs.Following.{insert_entry-removed}
use Rattle.qs_book_tables.proofs.ShareSteps.{follow_kept}
use Rattle.qs_book_tables.proofs.restarts.keep.Goals as goal

pub returns-clause-value : goal.returns-clause-value
returns-clause-value c =
    let tid = c.args.kept.now.tid in
    c.in_ok-insert.ensures.entries
    ∙ ap (λ (s : Share). insert_entry tid_cmp c.release_share.new.shares.entries tid s) c.in_ok-share.ensures
    ∙ ap (λ (es : List (Tid × Share)). insert_entry tid_cmp es tid (kept_share c.args.kept.now)) c.release_share.ensures.shares
    ∙ insert_entry-removed c.args.shares.now.entries tid (kept_share c.args.kept.now) c.requires.ordered

pub returns-clause-follows : goal.returns-clause-follows
returns-clause-follows c =
    let changers_are = subst (λ ops. ChangesHolders (λ name. list_any (is_change_of name) ops) (with_tid c.args.kept.now.tid) (changers c.release_share.new.locks) (changers c.keep.new.self)) c.as_slice.ensures c.in_ok-keep.ensures.changers in
    subst (λ es. FollowShares c.keep.new.self es)
    (sym (c.in_ok-insert.ensures.entries ∙ ap (λ (s : Share). insert_entry tid_cmp c.release_share.new.shares.entries c.args.kept.now.tid s) c.in_ok-share.ensures))
    (follow_kept c.release_share.new.locks c.keep.new.self c.release_share.new.shares.entries c.args.kept.now c.in_ok-insert.ensures.was_ordered c.release_share.ensures.gone
    c.release_share.ensures.follows changers_are c.in_ok-keep.ensures.readers)
