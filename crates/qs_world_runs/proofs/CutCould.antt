-- A vote that was due as its node stopped could be made then: what was asked for and where it was crossed stands before the crash.
use Rattle.qs_world_runs.proofs.Words.{◌≡◌, ◌&&◌, ◌||◌, not, Bool, true, false, refl, is_some, nat_lt, has_vote, pending_at, is_commit, is_covering, is_crossed, is_empty, and_parts}
use Rattle.qs_book_machine.specs.Restart.{member_at}
use Rattle.qs_book_machine.specs.Transaction.{is_before, part_of, was_crossed}
use Rattle.qs_ops.specs.declared.vote.Vote.TheVariants as votes
use Rattle.qs_world_runs.specs.CutVotes.{DueVotesCut}

all : (vote before committed late less covers crossed pending : Bool) → vote ≡ true → before ≡ true → not committed ≡ true → less ≡ true → covers ≡ true → (crossed || pending) ≡ true
    → (vote && ((before && not (committed && late)) && ((less && covers) && (crossed || pending)))) ≡ true
all true true false late true true crossed pending a b c d e f = f
all true true false late true false crossed pending a b c d e f = absurd (cc e)
all true true false late false covers crossed pending a b c d e f = absurd (cc d)
all true true true late less covers crossed pending a b c d e f = absurd (cc c)
all true false committed late less covers crossed pending a b c d e f = absurd (cc b)
all false before committed late less covers crossed pending a b c d e f = absurd (cc a)

pub due_votes_cut : DueVotesCut
due_votes_cut n stamp cause book state vote tx found marked due has held =
    let p = and_parts (is_some tx.asked && not (is_commit tx.cell)) (nat_lt (part_of tx (member_at n vote.server.0) state.inc).voted (part_of tx (member_at n vote.server.0) state.inc).served && is_covering tx (member_at n vote.server.0) state.inc vote.covers) due in
    let asked = and_parts (is_some tx.asked) (not (is_commit tx.cell)) p.0 in
    let counts = and_parts (nat_lt (part_of tx (member_at n vote.server.0) state.inc).voted (part_of tx (member_at n vote.server.0) state.inc).served) (is_covering tx (member_at n vote.server.0) state.inc vote.covers) p.1 in
    record {
      tx = tx;
      found = found;
      could = all (has_vote vote.server.0 votes.Recoverable) (is_before book.place tx.asked) (is_commit tx.cell) _ _ _ (was_crossed book.place tx (member_at n vote.server.0)) (not (is_empty (pending_at state vote.tid vote.server.0)))
          has (marked.asked asked.0) asked.1 counts.0 counts.1 (was (is_crossed tx (member_at n vote.server.0)) (marked.crossed (member_at n vote.server.0)) held);
    }
  where
    was : (c : Bool) → (c ≡ true → was_crossed book.place tx (member_at n vote.server.0) ≡ true) → (c || not (is_empty (pending_at state vote.tid vote.server.0))) ≡ true
        → (was_crossed book.place tx (member_at n vote.server.0) || not (is_empty (pending_at state vote.tid vote.server.0))) ≡ true
    was true then_was is = rw (then_was refl) refl
    was false then_was is = or_right (was_crossed book.place tx (member_at n vote.server.0)) is
      where
        or_right : (b : Bool) → not (is_empty (pending_at state vote.tid vote.server.0)) ≡ true → (b || not (is_empty (pending_at state vote.tid vote.server.0))) ≡ true
        or_right true is = refl
        or_right false is = is
