-- The locks follow the shares, whatever is served or ends.
use Rattle.std.proofs.Common.{◌≡◌, ℕ, List, [], ◌∷◌, ◌++◌, Option, None, refl, sym, ap, ◌∙◌}
use Rattle.std.specs.Prelude.{Bool, false, ◌||◌, if◌then◌else◌, unwrap_or}
use Rattle.std.specs.List.{list_any}
use Rattle.std.specs.List.Sorted.{IsStrictlySortedBy}
use Rattle.std.specs.Map.{lookup, remove_entry, keys_of}
use Rattle.std.specs.BTreeMap.{insert_entry, is_at}
use Rattle.std.specs.Cmp.Lexicographic.{nat_list_eq_equiv}
use Rattle.std.proofs.lemmas.List.Folds.{list_any-append}
use Rattle.qs_base.specs.Order.{tid_cmp, same_bytes}
use Rattle.qs_base.specs.declared.identifiers.Tid.{Tid}
use Rattle.qs_ops.specs.declared.operation.Op.{Op}
use Rattle.qs_ops.specs.declared.operation.Op.TheVariants.{Put, Append, Del, Get, Listing, Note, Notes, Bind, Find, Timer, Left, Window, Title, Keep, Fetch, Lend, Extra}
use Rattle.qs_ops.specs.declared.reply.Reply.{Reply}
use Rattle.qs_ops.specs.declared.reply.Reply.TheVariants.{Done, Value, Names, Busy, Absent, TooMany, TooLong}
use Rattle.qs_ops.specs.declared.reply.Reply.TheVariants.{Left as LeftOf, Notes as NotesOf}
use Rattle.qs_ops.specs.declared.share.Share.{Share}
use Rattle.qs_ops.specs.declared.share.KeptChanges.{KeptChanges}
use Rattle.qs_book_tables.specs.Restarts.{kept_share, keep_share}
use Rattle.qs_book_tables.specs.declared.locks.Locks.{Locks}
use Rattle.qs_ops.specs.Files.{or_else}
use Rattle.qs_ops.specs.Table.{TableValue, nothing_held, holder, holder_of_name, least_other, is_change_of, changes_name, reads_name, change_by, after_serve}
use Rattle.qs_book_tables.specs.Index.{Index, holders_of, first_other, with_tid, without_tid, ChangesHolders}
use Rattle.qs_book_tables.specs.Held.{share_in, name_holder, changers, readers, makes_change, makes_read, lock_holder, ChangesLocks, SameLocks, IsFresh, FollowShares}
use Rattle.qs_base.proofs.TidOrder.{or-false}
use Rattle.qs_book_tables.proofs.IndexSteps.{same_from_taken_back}
use Rattle.qs_book_tables.proofs.Following.{least_other-keys_where, keys_where-insert_entry, keys_where-remove_entry}

-- ---- who holds a name

changer-follows : (name : List ℕ) (table : TableValue) (locks : Locks) (tid : Tid) → FollowShares locks table.shares
    → first_other tid (holders_of (changers locks) name) ≡ least_other (changes_name name) tid table.shares
changer-follows name table locks tid f =
    ap (λ (l : List Tid). first_other tid l) (f.at_changers name) ∙ sym (least_other-keys_where (changes_name name) tid table.shares)

name_holder-follows : (name : List ℕ) (table : TableValue) (locks : Locks) (tid : Tid) → FollowShares locks table.shares
    → name_holder locks tid name ≡ holder_of_name table tid name
name_holder-follows name table locks tid f =
    ap (λ (o : Option Tid). or_else o (first_other tid (holders_of (readers locks) name))) (changer-follows name table locks tid f)
    ∙ ap (λ (l : List Tid). or_else (least_other (changes_name name) tid table.shares) (first_other tid l)) (f.at_readers name)
    ∙ ap (λ (o : Option Tid). or_else (least_other (changes_name name) tid table.shares) o) (sym (least_other-keys_where (reads_name name) tid table.shares))

pub holder-follows : (table : TableValue) (locks : Locks) (tid : Tid) (op : Op) → FollowShares locks table.shares → lock_holder locks tid op ≡ holder table tid op
holder-follows table locks tid (Put name text) f = name_holder-follows name table locks tid f
holder-follows table locks tid (Append name text) f = name_holder-follows name table locks tid f
holder-follows table locks tid (Del name) f = name_holder-follows name table locks tid f
holder-follows table locks tid (Get name) f = changer-follows name table locks tid f
holder-follows table locks tid op f = refl

-- ---- what is served

change_by-changes : (name : List ℕ) (op : Op) → list_any (is_change_of name) (change_by op Done) ≡ is_change_of name op
change_by-changes name (Put n text) = or-false (same_bytes n name)
change_by-changes name (Append n text) = or-false (same_bytes n name)
change_by-changes name (Del n) = or-false (same_bytes n name)
change_by-changes name (Bind n text) = or-false (same_bytes n name)
change_by-changes name (Window n text) = or-false (same_bytes n name)
change_by-changes name (Keep n text) = or-false (same_bytes n name)
change_by-changes name (Get n) = refl
change_by-changes name Listing = refl
change_by-changes name (Note text) = refl
change_by-changes name Notes = refl
change_by-changes name (Find n) = refl
change_by-changes name (Timer n ticks) = refl
change_by-changes name (Left n) = refl
change_by-changes name (Title n) = refl
change_by-changes name (Fetch n) = refl
change_by-changes name (Lend client) = refl
change_by-changes name (Extra code text) = refl

more_changes : (name : List ℕ) (share : Share) (ops : List Op) (b : Bool) → list_any (is_change_of name) ops ≡ b
    → list_any (is_change_of name) (share.changes ++ ops) ≡ (changes_name name share || b)
more_changes name share ops b is = list_any-append (is_change_of name) share.changes ops ∙ ap (λ (c : Bool). changes_name name share || c) is

changes_name-after_serve : (name : List ℕ) (share : Share) (op : Op) (reply : Reply) → changes_name name (after_serve share op reply) ≡ (changes_name name share || makes_change op reply name)
changes_name-after_serve name share op TooMany = sym (or-false (changes_name name share))
changes_name-after_serve name share op Done = more_changes name share (change_by op Done) (is_change_of name op) (change_by-changes name op)
changes_name-after_serve name share op (Value text) = more_changes name share [] false refl
changes_name-after_serve name share op (LeftOf ticks) = more_changes name share [] false refl
changes_name-after_serve name share op (Names list) = more_changes name share [] false refl
changes_name-after_serve name share op (NotesOf list) = more_changes name share [] false refl
changes_name-after_serve name share op (Busy other) = more_changes name share [] false refl
changes_name-after_serve name share op Absent = more_changes name share [] false refl
changes_name-after_serve name share op TooLong = more_changes name share [] false refl

-- what a read and nothing adds
more_reads : (name : List ℕ) (share : Share) (names : List (List ℕ)) (b : Bool) → list_any (same_bytes name) names ≡ b
    → list_any (same_bytes name) (share.reads ++ names) ≡ (reads_name name share || b)
more_reads name share names b is = list_any-append (same_bytes name) share.reads names ∙ ap (λ (c : Bool). reads_name name share || c) is

one_read : (name n : List ℕ) → list_any (same_bytes name) (n ∷ []) ≡ same_bytes n name
one_read name n = or-false (same_bytes name n) ∙ nat_list_eq_equiv.symm name n

reads_name-after_serve : (name : List ℕ) (share : Share) (op : Op) (reply : Reply) → reads_name name (after_serve share op reply) ≡ (reads_name name share || makes_read op reply name)
reads_name-after_serve name share op TooMany = sym (or-false (reads_name name share))
reads_name-after_serve name share (Get n) Absent = more_reads name share (n ∷ []) (same_bytes n name) (one_read name n)
reads_name-after_serve name share (Get n) (Value text) = more_reads name share (n ∷ []) (same_bytes n name) (one_read name n)
reads_name-after_serve name share (Put n text) reply = more_reads name share [] false refl
reads_name-after_serve name share (Append n text) reply = more_reads name share [] false refl
reads_name-after_serve name share (Del n) reply = more_reads name share [] false refl
reads_name-after_serve name share (Get n) reply = more_reads name share [] false refl
reads_name-after_serve name share Listing reply = more_reads name share [] false refl
reads_name-after_serve name share (Note text) reply = more_reads name share [] false refl
reads_name-after_serve name share Notes reply = more_reads name share [] false refl
reads_name-after_serve name share (Bind n text) reply = more_reads name share [] false refl
reads_name-after_serve name share (Find n) reply = more_reads name share [] false refl
reads_name-after_serve name share (Timer n ticks) reply = more_reads name share [] false refl
reads_name-after_serve name share (Left n) reply = more_reads name share [] false refl
reads_name-after_serve name share (Window n text) reply = more_reads name share [] false refl
reads_name-after_serve name share (Title n) reply = more_reads name share [] false refl
reads_name-after_serve name share (Keep n text) reply = more_reads name share [] false refl
reads_name-after_serve name share (Fetch n) reply = more_reads name share [] false refl
reads_name-after_serve name share (Lend client) reply = more_reads name share [] false refl
reads_name-after_serve name share (Extra code text) reply = more_reads name share [] false refl

pub follow_served : (old new : Locks) (shares : List (Tid × Share)) (tid : Tid) (op : Op) (reply : Reply) → IsStrictlySortedBy tid_cmp (keys_of shares)
    → FollowShares old shares → ChangesLocks (with_tid tid) op reply old new
    → FollowShares new (insert_entry tid_cmp shares tid (after_serve (share_in shares tid) op reply))
follow_served old new shares tid op reply sorted f c = record {
  at_changers = λ name. c.at_changers name
      ∙ ap (λ (l : List Tid). if makes_change op reply name then with_tid tid l else l) (f.at_changers name)
      ∙ sym (keys_where-insert_entry (changes_name name) shares tid (after_serve (share_in shares tid) op reply) (makes_change op reply name) sorted refl (changes_name-after_serve name (share_in shares tid) op reply));
  at_readers = λ name. c.at_readers name
      ∙ ap (λ (l : List Tid). if makes_read op reply name then with_tid tid l else l) (f.at_readers name)
      ∙ sym (keys_where-insert_entry (reads_name name) shares tid (after_serve (share_in shares tid) op reply) (makes_read op reply name) sorted refl (reads_name-after_serve name (share_in shares tid) op reply));
}

pub follow_same : (old new : Locks) (shares : List (Tid × Share)) → FollowShares old shares → SameLocks old new → FollowShares new shares
follow_same old new shares f s = record {
  at_changers = λ name. s.at_changers name ∙ f.at_changers name;
  at_readers = λ name. s.at_readers name ∙ f.at_readers name;
}

-- a lock that was fresh and is given back
pub same_locks-taken_back : (tid : Tid) (op : Op) (reply : Reply) (old mid new : Locks) → ChangesLocks (with_tid tid) op reply old mid → ChangesLocks (without_tid tid) op reply mid new
    → IsFresh tid op reply old → SameLocks old new
same_locks-taken_back tid op reply old mid new f s fresh = record {
  at_changers = same_from_taken_back tid (makes_change op reply) (changers old) (changers mid) (changers new) f.at_changers s.at_changers fresh.at_changers;
  at_readers = same_from_taken_back tid (makes_read op reply) (readers old) (readers mid) (readers new) f.at_readers s.at_readers fresh.at_readers;
}

-- ---- what votes

pub follow_voted : (locks : Locks) (shares : List (Tid × Share)) (tid : Tid) (voted : Bool) → IsStrictlySortedBy tid_cmp (keys_of shares)
    → FollowShares locks shares → FollowShares locks (insert_entry tid_cmp shares tid (record (share_in shares tid) { voted = voted }))
follow_voted locks shares tid voted sorted f = record {
  at_changers = λ name. f.at_changers name
      ∙ sym (keys_where-insert_entry (changes_name name) shares tid (record (share_in shares tid) { voted = voted }) false sorted refl (sym (or-false (changes_name name (share_in shares tid)))));
  at_readers = λ name. f.at_readers name
      ∙ sym (keys_where-insert_entry (reads_name name) shares tid (record (share_in shares tid) { voted = voted }) false sorted refl (sym (or-false (reads_name name (share_in shares tid)))));
}

-- ---- what a log kept

pub follow_kept : (old new : Locks) (shares : List (Tid × Share)) (k : KeptChanges) → IsStrictlySortedBy tid_cmp (keys_of shares)
    → lookup (is_at (tid_cmp k.tid)) shares ≡ None
    → FollowShares old shares
    → ChangesHolders (λ name. list_any (is_change_of name) k.changes) (with_tid k.tid) (changers old) (changers new)
    → readers new ≡ readers old
    → FollowShares new (keep_share shares k)
follow_kept old new shares k sorted gone f c same = record {
  at_changers = λ name. c name
      ∙ ap (λ (l : List Tid). if list_any (is_change_of name) k.changes then with_tid k.tid l else l) (f.at_changers name)
      ∙ sym (keys_where-insert_entry (changes_name name) shares k.tid (kept_share k) (list_any (is_change_of name) k.changes) sorted refl
      (sym (ap (λ (o : Option Share). changes_name name (unwrap_or o nothing_held) || list_any (is_change_of name) k.changes) gone)));
  at_readers = λ name. ap (λ (index : Index). holders_of index name) same
      ∙ f.at_readers name
      ∙ sym (keys_where-insert_entry (reads_name name) shares k.tid (kept_share k) false sorted refl
      (sym (ap (λ (o : Option Share). reads_name name (unwrap_or o nothing_held) || false) gone)));
}

-- ---- what ends

pub follow_released : (old new : Locks) (shares : List (Tid × Share)) (tid : Tid) (share : Share)
    → FollowShares old shares
    → ChangesHolders (λ name. changes_name name share) (without_tid tid) (changers old) (changers new)
    → ChangesHolders (λ name. reads_name name share) (without_tid tid) (readers old) (readers new)
    → share_in shares tid ≡ share
    → lookup (is_at (tid_cmp tid)) (remove_entry (is_at (tid_cmp tid)) shares) ≡ None
    → FollowShares new (remove_entry (is_at (tid_cmp tid)) shares)
follow_released old new shares tid share f c r is gone = record {
  at_changers = λ name. c name
      ∙ ap (λ (l : List Tid). if changes_name name share then without_tid tid l else l) (f.at_changers name)
      ∙ sym (keys_where-remove_entry (changes_name name) shares tid (changes_name name share) gone (ap (changes_name name) is));
  at_readers = λ name. r name
      ∙ ap (λ (l : List Tid). if reads_name name share then without_tid tid l else l) (f.at_readers name)
      ∙ sym (keys_where-remove_entry (reads_name name) shares tid (reads_name name share) gone (ap (reads_name name) is));
}
