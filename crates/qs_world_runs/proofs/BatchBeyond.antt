-- A vote of a step covers more than what is on record, or other: what is on record is aborted, or found in the log, since what is voted on is not committed.
use Rattle.qs_world_runs.proofs.Words.{◌≡◌, inl, inr, ℕ, ◌==◌, ◌&&◌, not, Bool, true, false, List, Some, refl, sym, ap, ◌∙◌, list_any, nat_lt, ServerNo, Tid, Act, BookValue, cell_of_transaction, inc_at, is_among, is_found_as, is_commit, OnRecord, Cell, Recovery, effects_of, Event, entries_of, HasAborted, IsRecordSafe, HasCommitted, found_votes, EntersVote, IsVoteDue, Inv, some_same}
use Rattle.qs_book_machine.specs.Lawful.{IsLawful}
use Rattle.qs_book_machine.specs.Nodes as machine
use Rattle.qs_book_machine.specs.Restart.{member_at}
use Rattle.qs_book_machine.specs.declared.transaction.Cell.TheVariants as cells
use Rattle.qs_ops.specs.declared.vote.Vote.TheVariants as votes
use Rattle.qs_node_step.specs.State.{NodeValue}
use Rattle.qs_world_runs.specs.CutBatches.{IsBeyond}
use Rattle.qs_world_runs.proofs.DueVotes.{steps_vote_due}
use Rattle.qs_base_lemmas.proofs.Tests.{ltb_apart}

module _ (n stamp free : ℕ) (node : NodeValue) (event : Event) (book : BookValue) (inv : Inv book) (lawful : IsLawful book (entries_of n stamp (effects_of node event free).entries)) (state : machine.NodeValue) (log : Recovery)
    (kept : (tid : Tid) (server : ℕ) (rec : OnRecord) → machine.record_of state tid server ≡ Some rec → IsRecordSafe book log (machine.voter tid server) rec.covers) (committed : (tid : Tid) → is_among log.committed tid ≡ true → HasCommitted book tid) where
  abbrev done : List Act
  done = (effects_of node event free).entries

  -- what is on record is aborted, or found in the log: what is voted on is not committed
  pub beyond_now : (tid : Tid) (server : ServerNo) (covers : ℕ) → EntersVote tid (member_at n server.0) votes.Recoverable covers done
      → ((rec : OnRecord) → machine.record_of state tid server.0 ≡ Some rec → list_any (is_found_as (machine.voter tid server.0) rec.covers) (found_votes log) ≡ true → nat_lt rec.covers covers ≡ true)
      → ((rec : OnRecord) → machine.record_of state tid server.0 ≡ Some rec → HasAborted book tid → list_any (is_found_as (machine.voter tid server.0) rec.covers) (found_votes log) ≡ false → (rec.covers == covers) ≡ false)
      → IsBeyond book state tid server covers
  beyond_now tid server covers e beyond fresh = record { apart = λ rec is. apart rec is (safe rec is); more = λ stands rec is. more stands rec is (safe rec is) }
    where
      safe : (rec : OnRecord) → machine.record_of state tid server.0 ≡ Some rec → IsRecordSafe book log (machine.voter tid server.0) rec.covers
      safe rec is = kept tid server.0 rec is

      -- a vote of what is committed is not due
      undone : {X : Type 0} → is_among log.committed tid ≡ true → X
      undone among = absurd (uncommitted (steps_vote_due tid n stamp node event free book inv lawful (member_at n server.0) votes.Recoverable covers e))
        where
          off : (a b c : Bool) → ((a && not b) && c) ≡ true → b ≡ false
          off a false c e = refl
          off true true c e = absurd (cc e)
          off false true c e = absurd (cc e)

          uncommitted : IsVoteDue book tid (member_at n server.0) (inc_at book (record { 0 = n })) covers → ⊥
          uncommitted due = of due.tx.cell refl (some_same (sym (ap cell_of_transaction due.found) ∙ committed tid among))
            where
              of : (c : Cell) → due.tx.cell ≡ c → due.tx.cell ≡ cells.Commit → ⊥
              of c is done_is = let no : is_commit due.tx.cell ≡ false = off _ (is_commit due.tx.cell) _ due.due in let on : is_commit due.tx.cell ≡ true = ap is_commit done_is in cc (no, on)

      apart : (rec : OnRecord) → machine.record_of state tid server.0 ≡ Some rec → IsRecordSafe book log (machine.voter tid server.0) rec.covers → (rec.covers == covers) ≡ false
      apart rec is (inr (inl among)) = undone among
      apart rec is (inr (inr found)) = ltb_apart rec.covers covers (beyond rec is found)
      apart rec is (inl aborted) = by (list_any (is_found_as (machine.voter tid server.0) rec.covers) (found_votes log)) refl
        where
          by : (b : Bool) → list_any (is_found_as (machine.voter tid server.0) rec.covers) (found_votes log) ≡ b → (rec.covers == covers) ≡ false
          by true found = ltb_apart rec.covers covers (beyond rec is found)
          by false none = fresh rec is aborted none

      more : (HasAborted book tid → ⊥) → (rec : OnRecord) → machine.record_of state tid server.0 ≡ Some rec → IsRecordSafe book log (machine.voter tid server.0) rec.covers → nat_lt rec.covers covers ≡ true
      more stands rec is (inl aborted) = absurd (stands aborted)
      more stands rec is (inr (inl among)) = undone among
      more stands rec is (inr (inr found)) = beyond rec is found
