-- Servers whose votes a log keeps have only changes of their own pending, through all that a server does: each serves its own operations alone.
use Rattle.qs_world_runs.proofs.Words.{◌≡◌, ℕ, ◌==◌, ◌++◌, Bool, true, false, List, [], ◌∷◌, Option, Some, None, refl, sym, ap, subst, ◌∙◌, if◌then◌else◌, eqb-true, list_all-append, is_at, list_all, lookup, unwrap_or, tid_cmp, ServerNo, Tid, ServerValue, after_keeping, after_notice, after_serving, after_vote, changes_in, is_logged, noted_by, noted_in, served_by, voted_by, voted_in, TableValue, after_serve, kept, released, share_of, Op, Reply, ServerKind, Share, Notice, Vote}
use Rattle.qs_ipc.specs.Queue.{is_for}
use Rattle.qs_ops.specs.Operations.{server_of}
use Rattle.qs_ops.specs.Spelled.{is_change}
use Rattle.qs_ops.specs.Table.{change_by, nothing_held, served, with_share}
use Rattle.qs_ops.specs.declared.reply.Reply.TheVariants as replies
use Rattle.qs_ops.specs.declared.server.ServerKind.TheVariants.{Files, Audit, Names, Timers, Windows, Scratch, Nothing}
use Rattle.qs_ops.specs.declared.vote.Notice.TheVariants as notices
use Rattle.qs_ops.specs.declared.vote.Vote.TheVariants as votes
use Rattle.qs_world_refine.proofs.Entries.{all_but_removed, all_inserted, found_passes}
use Rattle.qs_world_runs.specs.OwnChanges.{HasNone, HasOwn, is_own_share}

-- ---- a share

module _ (me : ServerNo) where
  abbrev AreOwn : List Op → Type 0
  AreOwn changes = list_all (is_for me) changes ≡ true

  more_own : (changes more : List Op) → AreOwn changes → AreOwn more → AreOwn (changes ++ more)
  more_own changes more is own = list_all-append (is_for me) changes more ∙ rw (is, own) refl

  done_own : (op : Op) → is_for me op ≡ true → AreOwn (change_by op replies.Done)
  done_own op own = by (is_change op)
    where
      by : (b : Bool) → AreOwn (if b then op ∷ [] else [])
      by true = rw own refl
      by false = refl

  after_own : (share : Share) (op : Op) (reply : Reply) → is_for me op ≡ true → AreOwn share.changes → AreOwn (after_serve share op reply).changes
  after_own share op replies.TooMany own is = is
  after_own share op replies.Done own is = more_own share.changes (change_by op replies.Done) is (done_own op own)
  after_own share op (replies.Value text) own is = more_own share.changes [] is refl
  after_own share op (replies.Left ticks) own is = more_own share.changes [] is refl
  after_own share op (replies.Names list) own is = more_own share.changes [] is refl
  after_own share op (replies.Notes list) own is = more_own share.changes [] is refl
  after_own share op (replies.Busy by) own is = more_own share.changes [] is refl
  after_own share op replies.Absent own is = more_own share.changes [] is refl
  after_own share op replies.TooLong own is = more_own share.changes [] is refl

  -- ---- a table

  pub share_own : (table : TableValue) (tid : Tid) → HasOwn me table → AreOwn (share_of table tid).changes
  share_own table tid own = by (lookup (is_at (tid_cmp tid)) table.shares) refl
    where
      by : (o : Option Share) → lookup (is_at (tid_cmp tid)) table.shares ≡ o → AreOwn (unwrap_or o nothing_held).changes
      by None none = refl
      by (Some share) there = (found_passes (is_at (tid_cmp tid)) (is_own_share me) table.shares share there own).1

  put_own : (table : TableValue) (tid : Tid) (share : Share) → HasOwn me table → AreOwn share.changes → HasOwn me (with_share table tid share)
  put_own table tid share own new = all_inserted tid_cmp (is_own_share me) tid share (λ k. new) table.shares own

  released_own : (table : TableValue) (tid : Tid) → HasOwn me table → HasOwn me (released table tid)
  released_own table tid own = all_but_removed (is_at (tid_cmp tid)) (is_own_share me) table.shares own

  served_own : (table : TableValue) (tid : Tid) (op : Op) (reply : Reply) → is_for me op ≡ true → HasOwn me table → HasOwn me (served table tid op reply)
  served_own table tid op reply its own = put_own table tid (after_serve (share_of table tid) op reply) own (after_own (share_of table tid) op reply its (share_own table tid own))

  voted_own : (table : TableValue) (tid : Tid) (ballot : Vote) → HasOwn me table → HasOwn me (voted_in table tid ballot)
  voted_own table tid votes.ReadOnly own = released_own table tid own
  voted_own table tid votes.Volatile own = put_own table tid (record (share_of table tid) { voted = true }) own (share_own table tid own)
  voted_own table tid votes.Recoverable own = own
  voted_own table tid (votes.Abort reason) own = put_own table tid (record (share_of table tid) { voted = false }) own (share_own table tid own)

  noted_own : (notice : Notice) (table : TableValue) (tid : Tid) → HasOwn me table → HasOwn me (noted_in notice tid table)
  noted_own notices.Commit table tid own = all_but_removed (is_at (tid_cmp tid)) (is_own_share me) table.shares own
  noted_own notices.Abort table tid own = released_own table tid own
  noted_own notices.Ending table tid own = own

  -- ---- a server

  abbrev pub OwnAt : ServerValue → Type 0
  OwnAt value = HasOwn me value.table

  pub serving_own : (value : ServerValue) (tid : Tid) (op : Op) (reply : Reply) → is_for me op ≡ true → OwnAt value → OwnAt (after_serving value tid op reply)
  serving_own value tid op reply its own = by value.kind
    where
      by : (kind : ServerKind) → OwnAt (served_by kind tid op reply value)
      by (Files quota) = served_own value.table tid op reply its own
      by Audit = served_own value.table tid op reply its own
      by Names = served_own value.table tid op reply its own
      by Timers = own
      by Windows = served_own value.table tid op reply its own
      by Scratch = served_own value.table tid op reply its own
      by Nothing = own

  pub voting_own : (value : ServerValue) (tid : Tid) (ballot : Vote) → OwnAt value → OwnAt (after_vote value tid ballot)
  voting_own value tid ballot own = by value.kind
    where
      by : (kind : ServerKind) → OwnAt (voted_by kind tid ballot value)
      by (Files quota) = voted_own value.table tid ballot own
      by Audit = voted_own value.table tid ballot own
      by Names = voted_own value.table tid ballot own
      by Timers = voted_own value.table tid ballot own
      by Windows = voted_own value.table tid ballot own
      by Scratch = voted_own value.table tid ballot own
      by Nothing = own

  pub notice_own : (value : ServerValue) (tid : Tid) (notice : Notice) → OwnAt value → OwnAt (after_notice value tid notice)
  notice_own value tid notice own = by value.kind
    where
      by : (kind : ServerKind) → OwnAt (noted_by kind notice tid value)
      by (Files quota) = noted_own notice value.table tid own
      by Audit = noted_own notice value.table tid own
      by Names = noted_own notice value.table tid own
      by Timers = own
      by Windows = noted_own notice value.table tid own
      by Scratch = noted_own notice value.table tid own
      by Nothing = own

  -- changes that a log kept are pending again
  pub keeping_own : (value : ServerValue) (tid : Tid) (changes : List Op) → AreOwn changes → OwnAt value → OwnAt (after_keeping value tid changes)
  keeping_own value tid changes its own = by (is_logged value.kind)
    where
      by : (b : Bool) → OwnAt (if b then record value { table = kept value.table (record { tid = tid; changes = changes }) } else value)
      by true = put_own value.table tid (record { changes = changes; reads = []; operations = _; voted = false }) own its
      by false = own

-- ---- the further server stays as it is

module _ (value : ServerValue) (none : HasNone value) where
  same_none : (new : ServerValue) → new ≡ value → HasNone new
  same_none new is = subst HasNone (sym is) none

  pub serving_none : (tid : Tid) (op : Op) (reply : Reply) → HasNone (after_serving value tid op reply)
  serving_none tid op reply = same_none (after_serving value tid op reply) (ap (λ (kind : ServerKind). served_by kind tid op reply value) none.kind)

  pub voting_none : (tid : Tid) (ballot : Vote) → HasNone (after_vote value tid ballot)
  voting_none tid ballot = same_none (after_vote value tid ballot) (ap (λ (kind : ServerKind). voted_by kind tid ballot value) none.kind)

  pub notice_none : (tid : Tid) (notice : Notice) → HasNone (after_notice value tid notice)
  notice_none tid notice = same_none (after_notice value tid notice) (ap (λ (kind : ServerKind). noted_by kind notice tid value) none.kind)

  pub keeping_none : (tid : Tid) (changes : List Op) → HasNone (after_keeping value tid changes)
  keeping_none tid changes = same_none (after_keeping value tid changes) (ap (λ (kind : ServerKind). if is_logged kind then record value { table = kept value.table (record { tid = tid; changes = changes }) } else value) none.kind)

  pub changes_none : (tid : Tid) → changes_in value tid ≡ []
  changes_none tid = ap (λ (shares : List (Tid × Share)). (unwrap_or (lookup (is_at (tid_cmp tid)) shares) nothing_held).changes) none.none

-- ---- an operation is for a server by that server's number alone

pub for_same : (server me : ServerNo) → (server.0 == me.0) ≡ true → (op : Op) → is_for server op ≡ is_for me op
for_same server me same op = ap (λ (k : ℕ). elim (server_of op) [ None ↦ false | Some its ↦ its.0 == k ]) (eqb-true server.0 me.0 same)

pub all_for : (server me : ServerNo) → (server.0 == me.0) ≡ true → (ops : List Op) → list_all (is_for server) ops ≡ list_all (is_for me) ops
all_for server me same [] = refl
all_for server me same (op ∷ ops) = rw (for_same server me same op, all_for server me same ops) refl
