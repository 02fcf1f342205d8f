-- Files keep few changes of each transaction through all that a server does: a change counts as an operation, and past 1,024 of them none is served.
use Rattle.qs_world_runs.proofs.Words.{◌≡◌, ℕ, ◌+◌, ◌≤◌, ◌<◌, ◌^◌, ◌==◌, arith, Bool, true, false, List, [], ◌∷◌, ◌++◌, Option, Some, None, Less, Equal, Greater, refl, sym, subst, cond, nat_le, length, if◌then◌else◌, le_refl, nat_tests, length-append, insert_entry, is_at, lookup, remove_entry, set_value, option_map, unwrap_or, Ordering, tid_exact, tid_cmp, ServerNo, Tid, at_exact, ServerValue, after_notice, after_serving, after_vote, noted_by, noted_in, reply_of, served_by, voted_by, voted_in}
use Rattle.qs_world_runs.proofs.Words.{TableValue, after_serve, kept, released, share_of, Op, Reply, ServerKind, Share, Notice, Vote, ServersValue, with_server, Every, AreFew, some_same}
use Rattle.qs_ops.specs.Server.{reply_in}
use Rattle.qs_ops.specs.Servers as servers
use Rattle.qs_ops.specs.Spelled.{is_change}
use Rattle.qs_ops.specs.Table.{change_by, free_reply, holder, nothing_held, reply_to, served}
use Rattle.qs_ops.specs.declared.reply.Reply.TheVariants as replies
use Rattle.qs_ops.specs.declared.server.ServerKind.TheVariants.{Files, Audit, Names, Timers, Windows, Scratch, Nothing}
use Rattle.qs_ops.specs.declared.share.KeptChanges.{KeptChanges}
use Rattle.qs_ops.specs.declared.vote.Notice.TheVariants as notices
use Rattle.qs_ops.specs.declared.vote.Vote.TheVariants as votes
use Rattle.qs_world_runs.specs.Rooms.{IsFew, IsFewOf}

-- ---- all entries of a map

module _ {K X : Type 0} (Q : K × X → Type 0) where
  pub each_put : (cmp : K → K → Ordering) → ((k x : K) → cmp k x ≡ Equal → k ≡ x) → (k : K) (v : X) (es : List (K × X)) → Q (k, v) → Every Q es → Every Q (insert_entry cmp es k v)
  each_put cmp exact k v [] new each = (new, tt)
  each_put cmp exact k v (e ∷ es) new each = by (cmp k e.0) refl (each_put cmp exact k v es new each.1)
    where
      by : (r : Ordering) → cmp k e.0 ≡ r → Every Q (insert_entry cmp es k v) → Every Q (insert_entry cmp (e ∷ es) k v)
      by Less is rest = rw is (new, each)
      by Equal is rest = rw is (subst (λ (x : K). Q (x, v)) (exact k e.0 is) new, each.1)
      by Greater is rest = rw is (each.0, rest)

  pub each_left : (test : K → Bool) (es : List (K × X)) → Every Q es → Every Q (remove_entry test es)
  each_left test [] each = tt
  each_left test (e ∷ es) each = by (test e.0) refl (each_left test es each.1)
    where
      by : (b : Bool) → test e.0 ≡ b → Every Q (remove_entry test es) → Every Q (remove_entry test (e ∷ es))
      by true is rest = rw is each.1
      by false is rest = rw is (each.0, rest)

  -- one entry is given another value, and what holds of it holds then
  pub each_set : (test : K → Bool) (f : X → X) → ((k : K) (v : X) → test k ≡ true → Q (k, v) → Q (k, f v)) → (es : List (K × X)) → Every Q es → (v : X) → lookup test es ≡ Some v → Every Q (set_value test es (f v))
  each_set test f goes [] each v there = absurd (cc there)
  each_set test f goes (e ∷ es) each v there = by (test e.0) refl there (λ found. each_set test f goes es each.1 v found)
    where
      by : (b : Bool) → test e.0 ≡ b → cond b (Some e.1) (lookup test es) ≡ Some v → (lookup test es ≡ Some v → Every Q (set_value test es (f v))) → Every Q (set_value test (e ∷ es) (f v))
      by true is at rest = rw is (subst (λ (x : X). Q (e.0, f x)) (some_same at) (goes e.0 e.1 is each.0), each.1)
      by false is at rest = rw is (each.0, rest at)

  -- what is found is one of them
  pub each_found : (test : K → Bool) (es : List (K × X)) (v : X) → Every Q es → lookup test es ≡ Some v → (k : K) × (test k ≡ true) × Q (k, v)
  each_found test [] v each there = absurd (cc there)
  each_found test (e ∷ es) v each there = by (test e.0) refl there (λ found. each_found test es v each.1 found)
    where
      by : (b : Bool) → test e.0 ≡ b → cond b (Some e.1) (lookup test es) ≡ Some v → (lookup test es ≡ Some v → (k : K) × (test k ≡ true) × Q (k, v)) → (k : K) × (test k ≡ true) × Q (k, v)
      by true is at rest = (e.0, is, subst (λ (x : X). Q (e.0, x)) (some_same at) each.0)
      by false is at rest = rest at

-- ---- a share

few_nothing : IsFew nothing_held
few_nothing = record { counted = omega arith; few = omega arith }

-- one more operation is served, with one change at most
few_more : (share : Share) (more : List Op) → IsFew share → length more ≤ 1 → nat_le 1024 share.operations ≡ false → (length (share.changes ++ more) ≤ share.operations + 1) × (share.operations + 1 < 2 ^ 64)
few_more share more is one left = (rw (length-append share.changes more) (sum (length share.changes) (length more) share.operations is.counted one), room share.operations left)
  where
    sum : (a b c : ℕ) → a ≤ c → b ≤ 1 → a + b ≤ c + 1
    sum a b c p q = omega arith

    room : (c : ℕ) → nat_le 1024 c ≡ false → c + 1 < 2 ^ 64
    room c h = grind (arith, nat_tests, h)

few_done : (op : Op) → length (change_by op replies.Done) ≤ 1
few_done op = by (is_change op)
  where
    by : (b : Bool) → length (if b then op ∷ [] else []) ≤ 1
    by true = omega arith
    by false = omega arith

none_is : length {A = Op} [] ≤ 1
none_is = omega arith

after_few : (share : Share) (op : Op) (reply : Reply) → IsFew share → ((reply ≡ replies.TooMany → ⊥) → nat_le 1024 share.operations ≡ false) → IsFew (after_serve share op reply)
after_few share op replies.TooMany is left = is
after_few share op replies.Done is left = let p = few_more share (change_by op replies.Done) is (few_done op) (left (λ e. cc e)) in record { counted = p.0; few = p.1 }
after_few share op (replies.Value text) is left = let p = few_more share [] is none_is (left (λ e. cc e)) in record { counted = p.0; few = p.1 }
after_few share op (replies.Left ticks) is left = let p = few_more share [] is none_is (left (λ e. cc e)) in record { counted = p.0; few = p.1 }
after_few share op (replies.Names list) is left = let p = few_more share [] is none_is (left (λ e. cc e)) in record { counted = p.0; few = p.1 }
after_few share op (replies.Notes list) is left = let p = few_more share [] is none_is (left (λ e. cc e)) in record { counted = p.0; few = p.1 }
after_few share op (replies.Busy by) is left = let p = few_more share [] is none_is (left (λ e. cc e)) in record { counted = p.0; few = p.1 }
after_few share op replies.Absent is left = let p = few_more share [] is none_is (left (λ e. cc e)) in record { counted = p.0; few = p.1 }
after_few share op replies.TooLong is left = let p = few_more share [] is none_is (left (λ e. cc e)) in record { counted = p.0; few = p.1 }

-- ---- a table

module _ (T : Tid → Type 0) where
  pub few_share : (table : TableValue) (tid : Tid) → AreFew T table → T tid → IsFew (share_of table tid)
  few_share table tid each at = by (lookup (is_at (tid_cmp tid)) table.shares) refl
    where
      by : (o : Option Share) → lookup (is_at (tid_cmp tid)) table.shares ≡ o → IsFew (unwrap_or o nothing_held)
      by None none = few_nothing
      by (Some share) there = let found : (k : Tid) × (is_at (tid_cmp tid) k ≡ true) × IsFewOf T (k, share) = each_found (IsFewOf T) (is_at (tid_cmp tid)) table.shares share each there in
          found.2 (subst T (at_exact tid found.0 found.1) at)

  put_few : (table : TableValue) (tid : Tid) (share : Share) → AreFew T table → (T tid → IsFew share) → Every (IsFewOf T) (insert_entry tid_cmp table.shares tid share)
  put_few table tid share each new = each_put (IsFewOf T) tid_cmp tid_exact tid share table.shares new each

  released_few : (table : TableValue) (tid : Tid) → AreFew T table → AreFew T (released table tid)
  released_few table tid each = each_left (IsFewOf T) (is_at (tid_cmp tid)) table.shares each

  served_few : (table : TableValue) (tid : Tid) (op : Op) (reply : Reply) → reply_to table tid op ≡ Some reply → AreFew T table → AreFew T (served table tid op reply)
  served_few table tid op reply says each = put_few table tid (after_serve (share_of table tid) op reply) each (λ at. after_few (share_of table tid) op reply (few_share table tid each at) (λ other. left (free_reply table tid op) (nat_le 1024 (share_of table tid).operations) refl says other))
    where
      left : (free : Option Reply) (b : Bool) → nat_le 1024 (share_of table tid).operations ≡ b
          → option_map (λ (r : Reply). if b then replies.TooMany else (elim (holder table tid op) [ Some other ↦ replies.Busy other | None ↦ r ])) free ≡ Some reply
          → (reply ≡ replies.TooMany → ⊥) → nat_le 1024 (share_of table tid).operations ≡ false
      left free false few is other = few
      left None true many is other = absurd (cc is)
      left (Some free) true many is other = absurd (other (sym (some_same is)))

  voted_few : (table : TableValue) (tid : Tid) (ballot : Vote) → AreFew T table → AreFew T (voted_in table tid ballot)
  voted_few table tid votes.ReadOnly each = released_few table tid each
  voted_few table tid votes.Volatile each = put_few table tid (record (share_of table tid) { voted = true }) each (λ at. let is = few_share table tid each at in record { counted = is.counted; few = is.few })
  voted_few table tid votes.Recoverable each = each
  voted_few table tid (votes.Abort reason) each = put_few table tid (record (share_of table tid) { voted = false }) each (λ at. let is = few_share table tid each at in record { counted = is.counted; few = is.few })

  noted_few : (notice : Notice) (table : TableValue) (tid : Tid) → AreFew T table → AreFew T (noted_in notice tid table)
  noted_few notices.Commit table tid each = each_left (IsFewOf T) (is_at (tid_cmp tid)) table.shares each
  noted_few notices.Abort table tid each = released_few table tid each
  noted_few notices.Ending table tid each = each

  -- changes that a log kept
  pub kept_few : (table : TableValue) (k : KeptChanges) → (T k.tid → length k.changes < 2 ^ 64) → AreFew T table → AreFew T (kept table k)
  kept_few table k few each = put_few table k.tid (record { changes = k.changes; reads = []; operations = length k.changes; voted = false }) each (λ at. record { counted = le_refl (length k.changes); few = few at })

  -- ---- a server

  abbrev pub FewAt : ServerValue → Type 0
  FewAt value = AreFew T value.table

  pub serving_few : (value : ServerValue) (tid : Tid) (op : Op) (reply : Reply) → reply_of value tid op ≡ Some reply → FewAt value → FewAt (after_serving value tid op reply)
  serving_few value tid op reply says each = by value.kind says
    where
      by : (kind : ServerKind) → reply_in value kind tid op ≡ Some reply → FewAt (served_by kind tid op reply value)
      by (Files quota) is = served_few value.table tid op reply is each
      by Audit is = served_few value.table tid op reply is each
      by Names is = served_few value.table tid op reply is each
      by Timers is = each
      by Windows is = served_few value.table tid op reply is each
      by Scratch is = served_few value.table tid op reply is each
      by Nothing is = each

  pub voting_few : (value : ServerValue) (tid : Tid) (ballot : Vote) → FewAt value → FewAt (after_vote value tid ballot)
  voting_few value tid ballot each = by value.kind
    where
      by : (kind : ServerKind) → FewAt (voted_by kind tid ballot value)
      by (Files quota) = voted_few value.table tid ballot each
      by Audit = voted_few value.table tid ballot each
      by Names = voted_few value.table tid ballot each
      by Timers = voted_few value.table tid ballot each
      by Windows = voted_few value.table tid ballot each
      by Scratch = voted_few value.table tid ballot each
      by Nothing = each

  pub notice_few : (value : ServerValue) (tid : Tid) (notice : Notice) → FewAt value → FewAt (after_notice value tid notice)
  notice_few value tid notice each = by value.kind
    where
      by : (kind : ServerKind) → FewAt (noted_by kind notice tid value)
      by (Files quota) = noted_few notice value.table tid each
      by Audit = noted_few notice value.table tid each
      by Names = noted_few notice value.table tid each
      by Timers = each
      by Windows = noted_few notice value.table tid each
      by Scratch = noted_few notice value.table tid each
      by Nothing = each

-- ---- the servers of a node: what a change of one makes of files

pub files_changed : (Q : ServerValue → Type 0) (server : ServerNo) (f : ServerValue → ServerValue) (values : ServersValue) → ((server.0 == servers.files_no) ≡ true → Q (f values.files)) → Q values.files → Q (with_server server f values).files
files_changed Q server f values own other = by (server.0 == servers.files_no) refl (server.0 == servers.audit_no) (server.0 == servers.names_no) (server.0 == servers.timers_no) (server.0 == servers.windows_no) (server.0 == servers.scratch_no)
  where
    by : (a : Bool) → (server.0 == servers.files_no) ≡ a → (b c d e g : Bool) → Q (if a then record values { files = f values.files } else if b then record values { audit = f values.audit } else if c then record values { names = f values.names }
        else if d then record values { timers = f values.timers } else if e then record values { windows = f values.windows } else if g then record values { scratch = f values.scratch } else record values { extra = f values.extra }).files
    by true is b c d e g = own is
    by false is true c d e g = other
    by false is false true d e g = other
    by false is false false true e g = other
    by false is false false false true g = other
    by false is false false false false true = other
    by false is false false false false false = other
