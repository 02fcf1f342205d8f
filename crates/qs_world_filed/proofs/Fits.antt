-- What a vote of files is cast on is within the quota, and so is what the machine has of it, where the transaction is not crossed there.
use Rattle.std.proofs.Common.{◌≡◌, ◌∙◌, ℕ, ◌==◌, Bool, true, false, List, Option, Some, None, refl, sym, ap, subst, arith}
use Rattle.std.proofs.lemmas.Bool.Decides.{nat_tests}
use Rattle.std.specs.Prelude.{◌||◌, fold, if◌then◌else◌, length, nat_le, nat_lt, not, slice_get, sum_by}
use Rattle.qs_base.specs.declared.identifiers.NodeNo.{NodeNo}
use Rattle.qs_base.specs.declared.identifiers.ServerNo.{ServerNo}
use Rattle.qs_base.specs.declared.identifiers.Tid.{Tid}
use Rattle.qs_book_machine.specs.Book.{find_transaction}
use Rattle.qs_book_machine.specs.Nodes as machine
use Rattle.qs_book_machine.specs.Restart.{member_at}
use Rattle.qs_book_machine.specs.Transaction.{TransactionValue, is_crossed}
use Rattle.qs_ops.specs.Server.{ServerValue, changes_vote, vote_in_room, vote_of}
use Rattle.qs_ops.specs.Servers.{files_no}
use Rattle.qs_ops.specs.Table.{TableValue, apply_change, has_changes, share_of, view_bytes}
use Rattle.qs_ops.specs.declared.file.File.{File}
use Rattle.qs_ops.specs.declared.server.ServerKind.{ServerKind}
use Rattle.qs_ops.specs.declared.server.ServerKind.TheVariants as kinds
use Rattle.qs_ops.specs.declared.share.Share.{Share}
use Rattle.qs_ops.specs.declared.vote.Reason.TheVariants as reasons
use Rattle.qs_ops.specs.declared.vote.Vote.{Vote}
use Rattle.qs_ops.specs.declared.vote.Vote.TheVariants as votes
use Rattle.qs_book_conformance.specs.Course.{CourseValue}
use Rattle.qs_book_conformance.specs.Files.{broken_refusal, is_within, quota_at}
use Rattle.qs_book_conformance.specs.declared.fault.Rule.TheVariants as rules
use Rattle.qs_node_servers.specs.Servers.{ServersValue, server_at}
use Rattle.qs_world_lawful.specs.Tables.{HoldsTable, is_seen, seen_in}
use Rattle.qs_world_lawful.proofs.Tables.{own_share}
use Rattle.qs_world_filed.specs.Parts.{broken_size}
use Rattle.qs_world_filed.proofs.SeenActs.{HoldsSeen}
use Rattle.qs_world_filed.proofs.SetTable.{files_at}

-- a vote that is judged by the quota
abbrev is_held_to : Vote → Bool
is_held_to votes.Recoverable = true
is_held_to (votes.Abort (reasons.LogRoom need room)) = true
is_held_to vote = false

-- ---- the node's own test

files_fit : (quota : ℕ) (value : ServerValue) (tid : Tid) (free frame : ℕ) (vote : Vote) → value.kind ≡ kinds.Files quota → vote_of value tid free frame ≡ vote → is_held_to vote ≡ true → nat_lt quota (view_bytes value.table tid) ≡ false
files_fit quota value tid free frame vote kind is held = by (has_changes value.table tid) (nat_lt quota (view_bytes value.table tid))
    (subst (λ (k : ServerKind). (if has_changes value.table tid then changes_vote k value.table tid free frame else votes.ReadOnly) ≡ vote) kind is)
  where
    judged : (other : Vote) → other ≡ vote → is_held_to other ≡ false → ⊥
    judged other same off = let on : is_held_to other ≡ true = ap is_held_to same ∙ held in cc (on, off)

    by : (h b : Bool) → (if h then (if b then votes.Abort (reasons.Quota (view_bytes value.table tid) quota) else vote_in_room value.table tid free frame) else votes.ReadOnly) ≡ vote → b ≡ false
    by h false e = refl
    by true true e = absurd (judged (votes.Abort (reasons.Quota (view_bytes value.table tid) quota)) e refl)
    by false true e = absurd (judged votes.ReadOnly e refl)

-- ---- the machine has the same bytes

same_view : (seen : Tid → Bool) (kept held : TableValue) → HoldsTable seen kept held → (tid : Tid) → seen tid ≡ true → view_bytes kept tid ≡ view_bytes held tid
same_view seen kept held t tid mine =
    ap (λ (c : List File). sum_by (λ (file : File). length file.content) (fold apply_change c (share_of kept tid).changes)) t.contents
    ∙ ap (λ (s : Share). sum_by (λ (file : File). length file.content) (fold apply_change held.contents s.changes)) (own_share seen kept held t tid mine)

at_most : (quota bytes : ℕ) → nat_lt quota bytes ≡ false → nat_le bytes quota ≡ true
at_most quota bytes off = grind (arith, nat_tests, off)

-- ---- so the rule is kept

module _ (here : NodeNo) (course : CourseValue) (servers : ServersValue) (s : HoldsSeen here course.book servers) (quota : ℕ) (limit : quota_at course here.0 ≡ quota) (tid : Tid) where
  within : (tx : TransactionValue) → find_transaction course.book tid ≡ Some tx → nat_lt quota (view_bytes servers.files.table tid) ≡ false → is_within (quota_at course here.0) s.state here.0 tid tx ≡ true
  within tx found fits = by (is_crossed tx (member_at here.0 files_no)) refl
    where
      seen : is_crossed tx (member_at here.0 files_no) ≡ false → is_seen course.book here files_no tid ≡ true
      seen off = ap (seen_in here files_no) found ∙ ap not off

      by : (b : Bool) → is_crossed tx (member_at here.0 files_no) ≡ b → (b || nat_le (view_bytes s.state.files tid) (quota_at course here.0)) ≡ true
      by true is = refl
      by false is = ap (λ (q : ℕ). nat_le (view_bytes s.state.files tid) q) limit
          ∙ (ap (λ (bytes : ℕ). nat_le bytes quota) (same_view (is_seen course.book here files_no) s.state.files servers.files.table s.holds.files tid (seen is)) ∙ at_most quota (view_bytes servers.files.table tid) fits)

  refusal_kept : (tx : TransactionValue) → find_transaction course.book tid ≡ Some tx → nat_lt quota (view_bytes servers.files.table tid) ≡ false → broken_refusal course s.state here.0 tid tx ≡ None
  refusal_kept tx found fits = ap (λ (b : Bool). if not b then Some rules.WithinQuota else None) (within tx found fits)

  size_kept : (o : Option TransactionValue) → find_transaction course.book tid ≡ o → (vote : Vote) → (is_held_to vote ≡ true → nat_lt quota (view_bytes servers.files.table tid) ≡ false) → broken_size course (Some s.state) here.0 tid o vote ≡ None
  size_kept None none vote fits = refl
  size_kept (Some tx) found votes.Recoverable fits = refusal_kept tx found (fits refl)
  size_kept (Some tx) found (votes.Abort (reasons.LogRoom need room)) fits = refusal_kept tx found (fits refl)
  size_kept (Some tx) found (votes.Abort (reasons.Quota bytes limit)) fits = refl
  size_kept (Some tx) found (votes.Abort (reasons.Taken name)) fits = refl
  size_kept (Some tx) found (votes.Abort (reasons.Code code)) fits = refl
  size_kept (Some tx) found votes.ReadOnly fits = refl
  size_kept (Some tx) found votes.Volatile fits = refl

  -- of whichever server
  pub vote_fits : (server : ServerNo) (free frame : ℕ) (vote : Vote) → servers.files.kind ≡ kinds.Files quota → vote_of (server_at servers server) tid free frame ≡ vote
      → (if server.0 == files_no then broken_size course (slice_get course.book.nodes here.0) here.0 tid (find_transaction course.book tid) vote else None) ≡ None
  vote_fits server free frame vote kind is = by (server.0 == files_no) refl
    where
      by : (b : Bool) → (server.0 == files_no) ≡ b → (if b then broken_size course (slice_get course.book.nodes here.0) here.0 tid (find_transaction course.book tid) vote else None) ≡ None
      by false far = refl
      by true at = ap (λ (node : Option machine.NodeValue). broken_size course node here.0 tid (find_transaction course.book tid) vote) s.there
          ∙ size_kept (find_transaction course.book tid) refl vote (files_fit quota servers.files tid free frame vote kind (ap (λ (v : ServerValue). vote_of v tid free frame) (sym (files_at servers server at)) ∙ is))
