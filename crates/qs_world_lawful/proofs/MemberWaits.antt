-- What waits of a transaction stands as its servers vote, learn and are told that it ends, and files that hold something are due.
use Rattle.qs_world_lawful.proofs.Words.{◌≡◌, ℕ, ◌==◌, Bool, true, false, List, [], ◌∷◌, Option, Some, None, refl, sym, ap, subst, ◌∙◌, true≢false, not, unwrap_or, lookup, is_at, tid_cmp, Member, NodeNo, Outcome, ServerNo, Tid, Delivery, tid_itself, lookup_put, BookValue, find_transaction, crossed_in, TransactionValue, is_crossed, is_empty, life, life_cmp, changed_value, no_part, voted, voted_part, learnt, learnt_part, ended_part, Part, ServerValue, after_vote, voted_by, voted_in, after_notice}
use Rattle.qs_world_lawful.proofs.Words.{noted_by, noted_in, TableValue, share_of, nothing_held, applied, ServerKind, Share, Vote, ServersValue, with_server, notice_of, at_server, HoldsServers, is_seen, seen_in, HoldsWaits, is_idle, eqb-false}
use Rattle.qs_base.specs.declared.identifiers.Outcome.TheVariants as outcomes
use Rattle.qs_book_machine.specs.Nodes as machine
use Rattle.qs_book_machine.specs.Transaction.{ended}
use Rattle.qs_ops.specs.Servers as numbers
use Rattle.qs_ops.specs.declared.vote.Notice.TheVariants as notices
use Rattle.qs_ops.specs.declared.vote.Vote.TheVariants as votes
use Rattle.qs_tm.specs.Members as rules
use Rattle.qs_world_lawful.proofs.MemberRule.{parts_alike}
use Rattle.qs_world_lawful.proofs.MemberTid.{lives_apart}
use Rattle.qs_world_lawful.proofs.Parts.{changed_part_apart}
use Rattle.qs_world_lawful.proofs.Pending.{files_here, files_elsewhere, gone}
use Rattle.qs_world_lawful.proofs.SameWaits.{waits_on}

-- what the machine sees of a transaction at a server is what is not crossed there
pub seen_here : (book : BookValue) (here : NodeNo) (server : ServerNo) (tid : Tid) → is_seen book here server.0 tid ≡ not (crossed_in (find_transaction book tid) (at_server here server))
seen_here book here server tid = by (find_transaction book tid)
  where
    by : (o : Option TransactionValue) → seen_in here server.0 o ≡ not (crossed_in o (at_server here server))
    by None = refl
    by (Some tx) = refl

-- what is committed is seen
pub seen_committed : (book : BookValue) (here : NodeNo) (server : ServerNo) (tid : Tid) (tx : TransactionValue) → find_transaction book tid ≡ Some tx → is_empty tx.crossed ≡ true → is_seen book here server.0 tid ≡ true
seen_committed book here server tid tx found whole =
    seen_here book here server tid ∙ (ap (λ (o : Option TransactionValue). not (crossed_in o (at_server here server))) found ∙ none tx.crossed refl whole)
  where
    none : (xs : List (Member × ℕ)) → tx.crossed ≡ xs → is_empty xs ≡ true → not (is_crossed tx (at_server here server)) ≡ true
    none [] is e = rw is refl
    none (x ∷ xs) is e = absurd (cc e)

module _ (here : NodeNo) (inc : ℕ) (tid : Tid) (tx : TransactionValue) (waiting : ServerNo → List Delivery) (servers : ServersValue) (seen : ℕ → Tid → Bool) (state : machine.NodeValue) (s : HoldsServers seen state servers)
    (k : HoldsWaits here inc tid tx waiting servers) (server : ServerNo) where
  none_idle : (table : TableValue) → share_of table tid ≡ nothing_held → is_idle (share_of table tid) ≡ false → ⊥
  none_idle table is busy = true≢false (sym (ap is_idle is) ∙ busy)

  -- another server than files leaves what they hold
  idle_elsewhere : (u : ServerValue → ServerValue) → (server.0 == numbers.files_no) ≡ false → is_idle (share_of (with_server server u servers).files.table tid) ≡ false → is_idle (share_of servers.files.table tid) ≡ false
  idle_elsewhere u far busy = subst (λ (v : ServerValue). is_idle (share_of v.table tid) ≡ false) (files_elsewhere server u servers far) busy

  -- ---- a vote

  voted_due : (ballot : Vote) (p : Part) → (voted_part ballot p).due ≡ p.due
  voted_due (votes.Abort reason) p = refl
  voted_due votes.ReadOnly p = refl
  voted_due votes.Volatile p = refl
  voted_due votes.Recoverable p = refl

  idle_voted_in : (ballot : Vote) → is_idle (share_of (voted_in servers.files.table tid ballot) tid) ≡ false → is_idle (share_of servers.files.table tid) ≡ false
  idle_voted_in votes.ReadOnly busy = absurd (none_idle (voted_in servers.files.table tid votes.ReadOnly) (gone servers.files.table tid s.files.rising) busy)
  idle_voted_in votes.Recoverable busy = busy
  idle_voted_in votes.Volatile busy = sym (ap (λ (o : Option Share). is_idle (unwrap_or o nothing_held)) (lookup_put tid_cmp tid (record (share_of servers.files.table tid) { voted = true }) (tid_itself tid) servers.files.table.shares)) ∙ busy
  idle_voted_in (votes.Abort reason) busy = sym (ap (λ (o : Option Share). is_idle (unwrap_or o nothing_held)) (lookup_put tid_cmp tid (record (share_of servers.files.table tid) { voted = false }) (tid_itself tid) servers.files.table.shares)) ∙ busy

  idle_voted : (ballot : Vote) → is_idle (share_of (with_server server (λ value. after_vote value tid ballot) servers).files.table tid) ≡ false → is_idle (share_of servers.files.table tid) ≡ false
  idle_voted ballot busy = by (server.0 == numbers.files_no) refl
    where
      by : (b : Bool) → (server.0 == numbers.files_no) ≡ b → is_idle (share_of servers.files.table tid) ≡ false
      by true is = idle_voted_in ballot (subst (λ (v : ServerValue). is_idle (share_of v.table tid) ≡ false)
          (files_here server (λ value. after_vote value tid ballot) servers is ∙ ap (λ (kind : ServerKind). voted_by kind tid ballot servers.files) s.kinds.files) busy)
      by false is = idle_elsewhere (λ value. after_vote value tid ballot) is busy

  pub voted_waits : (ballot : Vote) → HoldsWaits here inc tid (voted (at_server here server) inc ballot tx) waiting (with_server server (λ value. after_vote value tid ballot) servers)
  voted_waits ballot = waits_on here inc tid tx (voted (at_server here server) inc ballot tx) waiting servers (with_server server (λ value. after_vote value tid ballot) servers) refl refl refl
      (λ busy. parts_alike (λ (p : Part). p.due) (life (at_server here server) inc) (voted_part ballot) (voted_due ballot) tx.parts (at_server here rules.files_no) inc ∙ k.due (idle_voted ballot busy)) k

  -- ---- a notice

  -- nothing is held at files once they learnt
  gone_noted : (outcome : Outcome) → (server.0 == numbers.files_no) ≡ true → share_of (with_server server (λ value. after_notice value tid (notice_of outcome)) servers).files.table tid ≡ nothing_held
  gone_noted outcome is =
      ap (λ (v : ServerValue). share_of v.table tid) (files_here server (λ value. after_notice value tid (notice_of outcome)) servers is ∙ ap (λ (kind : ServerKind). noted_by kind (notice_of outcome) tid servers.files) s.kinds.files)
      ∙ none outcome
    where
      none : (o : Outcome) → share_of (noted_in (notice_of o) tid servers.files.table) tid ≡ nothing_held
      none outcomes.Commit = gone (applied servers.files.table (share_of servers.files.table tid).changes) tid s.files.rising
      none outcomes.Abort = gone servers.files.table tid s.files.rising

  -- another server's part is none of files
  due_elsewhere : (g : Part → Part) (u : ServerValue → ServerValue) → (server.0 == numbers.files_no) ≡ false → is_idle (share_of (with_server server u servers).files.table tid) ≡ false
      → (unwrap_or (lookup (is_at (life_cmp (life (at_server here rules.files_no) inc))) (changed_value (is_at (life_cmp (life (at_server here server) inc))) g tx.parts)) no_part).due ≡ true
  due_elsewhere g u far busy =
      ap (λ (p : Part). p.due) (changed_part_apart (life (at_server here server) inc) g tx.parts (at_server here rules.files_no) inc (lives_apart here inc server rules.files_no (eqb-false server.0 numbers.files_no far)))
      ∙ k.due (idle_elsewhere u far busy)

  learnt_due : (outcome : Outcome) → is_idle (share_of (with_server server (λ value. after_notice value tid (notice_of outcome)) servers).files.table tid) ≡ false
      → (unwrap_or (lookup (is_at (life_cmp (life (at_server here rules.files_no) inc))) (changed_value (is_at (life_cmp (life (at_server here server) inc))) (learnt_part outcome) tx.parts)) no_part).due ≡ true
  learnt_due outcome busy = by (server.0 == numbers.files_no) refl
    where
      by : (b : Bool) → (server.0 == numbers.files_no) ≡ b → (unwrap_or (lookup (is_at (life_cmp (life (at_server here rules.files_no) inc))) (changed_value (is_at (life_cmp (life (at_server here server) inc))) (learnt_part outcome) tx.parts)) no_part).due ≡ true
      by true is = absurd (none_idle (with_server server (λ value. after_notice value tid (notice_of outcome)) servers).files.table (gone_noted outcome is) busy)
      by false is = due_elsewhere (learnt_part outcome) (λ value. after_notice value tid (notice_of outcome)) is busy

  pub learnt_waits : (outcome : Outcome) → HoldsWaits here inc tid (learnt (at_server here server) inc outcome tx) waiting (with_server server (λ value. after_notice value tid (notice_of outcome)) servers)
  learnt_waits outcomes.Commit = waits_on here inc tid tx (learnt (at_server here server) inc outcomes.Commit tx) waiting servers (with_server server (λ value. after_notice value tid notices.Commit) servers) refl refl refl (λ busy. learnt_due outcomes.Commit busy) k
  learnt_waits outcomes.Abort = waits_on here inc tid tx (learnt (at_server here server) inc outcomes.Abort tx) waiting servers (with_server server (λ value. after_notice value tid notices.Abort) servers) refl refl refl (λ busy. learnt_due outcomes.Abort busy) k

  pub ended_waits : (server.0 == numbers.files_no) ≡ false → HoldsWaits here inc tid (ended (at_server here server) inc tx) waiting (with_server server (λ value. after_notice value tid notices.Ending) servers)
  ended_waits far = waits_on here inc tid tx (ended (at_server here server) inc tx) waiting servers (with_server server (λ value. after_notice value tid notices.Ending) servers) refl refl refl (due_elsewhere ended_part (λ value. after_notice value tid notices.Ending) far) k
