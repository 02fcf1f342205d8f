-- What a vote or a notice makes of what a server whose changes a log keeps has pending: of each transaction it is as it was, or nothing.
use Rattle.qs_world_runs.proofs.Words.{◌≡◌, ◌⊎◌, inl, inr, ◌==◌, Bool, true, false, [], refl, sym, ap, subst, if◌then◌else◌, is_at, tid_total, tid_cmp, ServerNo, Tid, tid_itself, IsRising, put_rises, remove_rises, is_empty, ServerValue, after_notice, after_serving, after_vote, changes_in, is_logged, noted_by, noted_in, served_by, voted_by, voted_in, TableValue, after_serve, applied, released, share_of, Op, Reply, ServerKind, Share, Notice, Vote, ServersValue, server_at, with_server, same_or_apart}
use Rattle.qs_book_laws.proofs.Maps.{lookup_put}
use Rattle.qs_ops.specs.Servers as numbers
use Rattle.qs_ops.specs.Table.{served, with_share}
use Rattle.qs_ops.specs.declared.server.ServerKind.TheVariants as kinds
use Rattle.qs_ops.specs.declared.vote.Notice.TheVariants as notices
use Rattle.qs_ops.specs.declared.vote.Vote.TheVariants as votes
use Rattle.qs_world_lawful.proofs.Apart.{Apart}
use Rattle.qs_world_lawful.proofs.OtherShares.{share_noted, share_put, share_voted}
use Rattle.qs_world_lawful.proofs.Pending.{gone}

-- ---- a table whose shares rise, so that each transaction has one

abbrev Rises : TableValue → Type 0
Rises table = IsRising tid_cmp table.shares

-- what is pending of each transaction is what was, or nothing
abbrev Stays : TableValue → TableValue → Type 0
Stays old new = (t : Tid) → is_empty (share_of new t).changes ≡ false → (share_of new t).changes ≡ (share_of old t).changes

module _ (table : TableValue) (tid : Tid) (rises : Rises table) where
  -- of another transaction it is as it was; of this one there is nothing, or what was
  by_either : (new : TableValue) → ((t : Tid) → Apart tid t → share_of new t ≡ share_of table t) → ((share_of new tid).changes ≡ []) ⊎ ((share_of new tid).changes ≡ (share_of table tid).changes) → Stays table new
  by_either new others own t some = by (same_or_apart tid t)
    where
      of : ((share_of new tid).changes ≡ []) ⊎ ((share_of new tid).changes ≡ (share_of table tid).changes) → is_empty (share_of new tid).changes ≡ false → (share_of new tid).changes ≡ (share_of table tid).changes
      of (inl none) has = absurd (let empty : is_empty (share_of new tid).changes ≡ true = ap is_empty none in cc (empty, has))
      of (inr same) has = same

      by : (tid ≡ t) ⊎ Apart tid t → (share_of new t).changes ≡ (share_of table t).changes
      by (inl same) = subst (λ (u : Tid). is_empty (share_of new u).changes ≡ false → (share_of new u).changes ≡ (share_of table u).changes) same (of own) some
      by (inr far) = ap (λ (share : Share). share.changes) (others t far)

  put_own : (share : Share) → share.changes ≡ (share_of table tid).changes → (share_of (with_share table tid share) tid).changes ≡ (share_of table tid).changes
  put_own share same = rw (lookup_put tid_cmp tid share (tid_itself tid) table.shares) same

  none_own : (old : TableValue) → old.shares ≡ table.shares → (share_of (released old tid) tid).changes ≡ []
  none_own old same = ap (λ (share : Share). share.changes) (gone old tid (subst (IsRising tid_cmp) (sym same) rises))

  vote_stays : (ballot : Vote) → Stays table (voted_in table tid ballot)
  vote_stays ballot = by_either (voted_in table tid ballot) (λ t. share_voted tid t ballot table) (own ballot)
    where
      own : (b : Vote) → ((share_of (voted_in table tid b) tid).changes ≡ []) ⊎ ((share_of (voted_in table tid b) tid).changes ≡ (share_of table tid).changes)
      own votes.ReadOnly = inl (none_own table refl)
      own votes.Volatile = inr (put_own (record (share_of table tid) { voted = true }) refl)
      own votes.Recoverable = inr refl
      own (votes.Abort reason) = inr (put_own (record (share_of table tid) { voted = false }) refl)

  vote_rises : (ballot : Vote) → Rises (voted_in table tid ballot)
  vote_rises votes.ReadOnly = remove_rises tid_cmp (is_at (tid_cmp tid)) table.shares rises
  vote_rises votes.Volatile = put_rises tid_cmp tid_total tid (record (share_of table tid) { voted = true }) table.shares rises
  vote_rises votes.Recoverable = rises
  vote_rises (votes.Abort reason) = put_rises tid_cmp tid_total tid (record (share_of table tid) { voted = false }) table.shares rises

  notice_stays : (notice : Notice) → Stays table (noted_in notice tid table)
  notice_stays notice = by_either (noted_in notice tid table) (λ t. share_noted tid t notice table) (own notice)
    where
      own : (n : Notice) → ((share_of (noted_in n tid table) tid).changes ≡ []) ⊎ ((share_of (noted_in n tid table) tid).changes ≡ (share_of table tid).changes)
      own notices.Commit = inl (none_own (applied table (share_of table tid).changes) refl)
      own notices.Abort = inl (none_own table refl)
      own notices.Ending = inr refl

  notice_rises : (notice : Notice) → Rises (noted_in notice tid table)
  notice_rises notices.Commit = remove_rises tid_cmp (is_at (tid_cmp tid)) table.shares rises
  notice_rises notices.Abort = remove_rises tid_cmp (is_at (tid_cmp tid)) table.shares rises
  notice_rises notices.Ending = rises

-- ---- a server whose changes a log keeps

-- its shares rise, and of each transaction that passes it has pending what it had, or nothing
pub record StaysAt (may : Tid → Type 0) (old new : ServerValue) : Type 0 where
  pub rises : Rises new.table
  pub stays : (t : Tid) → may t → is_empty (changes_in new t) ≡ false → changes_in new t ≡ changes_in old t

module _ (value : ServerValue) (tid : Tid) (rises : Rises value.table) (logged : is_logged value.kind ≡ true) where
  pub vote_at : (may : Tid → Type 0) (ballot : Vote) → StaysAt may value (after_vote value tid ballot)
  vote_at may ballot = by value.kind logged
    where
      new : ServerValue
      new = record value { table = voted_in value.table tid ballot }

      changed : StaysAt may value new
      changed = record { rises = vote_rises value.table tid rises ballot; stays = λ t ok. vote_stays value.table tid rises ballot t }

      by : (kind : ServerKind) → is_logged kind ≡ true → StaysAt may value (voted_by kind tid ballot value)
      by (kinds.Files quota) is = changed
      by kinds.Audit is = changed
      by kinds.Names is = absurd (cc is)
      by kinds.Timers is = absurd (cc is)
      by kinds.Windows is = absurd (cc is)
      by kinds.Scratch is = absurd (cc is)
      by kinds.Nothing is = absurd (cc is)

  pub notice_at : (may : Tid → Type 0) (notice : Notice) → StaysAt may value (after_notice value tid notice)
  notice_at may notice = by value.kind logged
    where
      new : ServerValue
      new = record value { table = noted_in notice tid value.table }

      changed : StaysAt may value new
      changed = record { rises = notice_rises value.table tid rises notice; stays = λ t ok. notice_stays value.table tid rises notice t }

      by : (kind : ServerKind) → is_logged kind ≡ true → StaysAt may value (noted_by kind notice tid value)
      by (kinds.Files quota) is = changed
      by kinds.Audit is = changed
      by kinds.Names is = absurd (cc is)
      by kinds.Timers is = absurd (cc is)
      by kinds.Windows is = absurd (cc is)
      by kinds.Scratch is = absurd (cc is)
      by kinds.Nothing is = absurd (cc is)

  -- a request changes what is pending of its own transaction alone
  pub serving_at : (may : Tid → Type 0) (op : Op) (reply : Reply) → (may tid → ⊥) → StaysAt may value (after_serving value tid op reply)
  serving_at may op reply off = by value.kind logged
    where
      share : Share
      share = after_serve (share_of value.table tid) op reply

      of : (t : Tid) → may t → (share_of (with_share value.table tid share) t).changes ≡ (share_of value.table t).changes
      of t ok = either (same_or_apart tid t)
        where
          either : (tid ≡ t) ⊎ Apart tid t → (share_of (with_share value.table tid share) t).changes ≡ (share_of value.table t).changes
          either (inl same) = absurd (off (subst may (sym same) ok))
          either (inr far) = ap (λ (s : Share). s.changes) (share_put tid t share value.table far)

      changed : StaysAt may value (record value { table = served value.table tid op reply })
      changed = record { rises = put_rises tid_cmp tid_total tid share value.table.shares rises; stays = λ t ok some. of t ok }

      by : (kind : ServerKind) → is_logged kind ≡ true → StaysAt may value (served_by kind tid op reply value)
      by (kinds.Files quota) is = changed
      by kinds.Audit is = changed
      by kinds.Names is = absurd (cc is)
      by kinds.Timers is = absurd (cc is)
      by kinds.Windows is = absurd (cc is)
      by kinds.Scratch is = absurd (cc is)
      by kinds.Nothing is = absurd (cc is)

-- ---- the servers of a node: where one is changed, each is as it was or changed

module _ (f : ServerValue → ServerValue) (v : ServersValue) where
  abbrev Either : ServerValue → ServerValue → Type 0
  Either old new = (new ≡ old) ⊎ (new ≡ f old)

  abbrev chosen : (a b c d e g : Bool) → ServersValue → ServerValue
  chosen a b c d e g w = if a then w.files else if b then w.audit else if c then w.names else if d then w.timers else if e then w.windows else if g then w.scratch else w.extra

  each : (w : ServersValue) → Either v.files w.files → Either v.audit w.audit → Either v.names w.names → Either v.timers w.timers → Either v.windows w.windows → Either v.scratch w.scratch → Either v.extra w.extra
      → (a b c d e g : Bool) → Either (chosen a b c d e g v) (chosen a b c d e g w)
  each w files audit names timers windows scratch extra true b c d e g = files
  each w files audit names timers windows scratch extra false true c d e g = audit
  each w files audit names timers windows scratch extra false false true d e g = names
  each w files audit names timers windows scratch extra false false false true e g = timers
  each w files audit names timers windows scratch extra false false false false true g = windows
  each w files audit names timers windows scratch extra false false false false false true = scratch
  each w files audit names timers windows scratch extra false false false false false false = extra

  pub either_at : (server other : ServerNo) → Either (server_at v other) (server_at (with_server server f v) other)
  either_at server other = by (server.0 == numbers.files_no) (server.0 == numbers.audit_no) (server.0 == numbers.names_no) (server.0 == numbers.timers_no) (server.0 == numbers.windows_no) (server.0 == numbers.scratch_no)
    where
      of : (w : ServersValue) → Either v.files w.files → Either v.audit w.audit → Either v.names w.names → Either v.timers w.timers → Either v.windows w.windows → Either v.scratch w.scratch → Either v.extra w.extra → Either (server_at v other) (server_at w other)
      of w files audit names timers windows scratch extra =
          each w files audit names timers windows scratch extra (other.0 == numbers.files_no) (other.0 == numbers.audit_no) (other.0 == numbers.names_no) (other.0 == numbers.timers_no) (other.0 == numbers.windows_no) (other.0 == numbers.scratch_no)

      by : (a b c d e g : Bool) → Either (server_at v other) (server_at (
          if a then record v { files = f v.files }
          else if b then record v { audit = f v.audit }
          else if c then record v { names = f v.names }
          else if d then record v { timers = f v.timers }
          else if e then record v { windows = f v.windows }
          else if g then record v { scratch = f v.scratch }
          else record v { extra = f v.extra }) other)
      by true b c d e g = of (record v { files = f v.files }) (inr refl) (inl refl) (inl refl) (inl refl) (inl refl) (inl refl) (inl refl)
      by false true c d e g = of (record v { audit = f v.audit }) (inl refl) (inr refl) (inl refl) (inl refl) (inl refl) (inl refl) (inl refl)
      by false false true d e g = of (record v { names = f v.names }) (inl refl) (inl refl) (inr refl) (inl refl) (inl refl) (inl refl) (inl refl)
      by false false false true e g = of (record v { timers = f v.timers }) (inl refl) (inl refl) (inl refl) (inr refl) (inl refl) (inl refl) (inl refl)
      by false false false false true g = of (record v { windows = f v.windows }) (inl refl) (inl refl) (inl refl) (inl refl) (inr refl) (inl refl) (inl refl)
      by false false false false false true = of (record v { scratch = f v.scratch }) (inl refl) (inl refl) (inl refl) (inl refl) (inl refl) (inr refl) (inl refl)
      by false false false false false false = of (record v { extra = f v.extra }) (inl refl) (inl refl) (inl refl) (inl refl) (inl refl) (inl refl) (inr refl)
