-- The rules of the protocol, one event each.
use Rattle.std.specs.Prelude.{◌≡◌, ◌≢◌, ◌⊎◌, ℕ, ◌+◌, ◌==◌, ◌<◌, ◌≤◌, max, true, false, if◌then◌else◌}
use Rattle.qs_world_agree.specs.World.{Open, Committed, Aborted, Recoverable, Volatile, OnePhase, Immediate, Activity, Flight, Dead, World, with_at, with_at2, with_at3}
use Rattle.qs_world_agree.specs.Guards.{MayIssue, NextAt, next, next_server, Drops, MayServe, Votes, VoteDue, IsReady, carried, drawn, names, IsTold, NextInquiry, TellsAbort, closed, held, held_at, passed, passed_to, landed}

pub data Event : Type 0 where
  -- requests
  Issue : ℕ → ℕ → ℕ → Event  -- p sends a request to server s of node m, and knows a place of m
  Issue_unmet : ℕ → ℕ → ℕ → Event  -- p knows no place of m: the request waits
  Issue_local : ℕ → ℕ → Event  -- p issues a request to its own server s
  Meet : ℕ → ℕ → Event  -- p gets to know a first place q of a node: what waited is put for it
  Notice : ℕ → ℕ → Event  -- p learns that a node restarted as q: an uncovered request is a cause Gone, later ones go to q
  Engage : ℕ → ℕ → Event  -- q, which has no superior, takes a request from p, and p's node for its superior
  Join : ℕ → ℕ → Event  -- q takes one more from its superior: nothing is answered
  Cover : ℕ → ℕ → Event  -- q takes one from another, or is the home: Covered at once
  Serve : ℕ → ℕ → Event  -- server s of q, which votes or is told nothing, serves a request
  Serve_told : ℕ → ℕ → Event  -- server s of q, which is told without a vote, serves a request
  Lend : ℕ → ℕ → Event  -- the transaction is lent to a client of q
  Yield : ℕ → Event  -- a loan at q is given back
  -- votes
  Ask : ℕ → Event  -- the owner's commit, or an AskVote
  Vote_read : ℕ → ℕ → Event  -- server s of q votes read-only
  Vote_volatile : ℕ → ℕ → Event  -- server s of q votes volatile
  Force : ℕ → ℕ → Event  -- the Prepare of server s of q is on the disk, and its vote does not count yet, as where the step is cut off
  Vote_recoverable : ℕ → ℕ → Event  -- the Prepare of server s of q is on the disk, and it votes recoverable
  Vote_abort : ℕ → ℕ → Event  -- server s of q votes abort
  Yes : ℕ → Event  -- q is ready and sends VotedYes to the place that engaged it
  Yes_lost : ℕ → Event  -- q is ready, and its superior has restarted since: VotedYes goes to the later place
  Count : ℕ → ℕ → Event  -- the next Covered or VotedYes from q is handed up at p
  Ignore : ℕ → ℕ → Event  -- the next Covered or VotedYes from q is dropped at p, which is not engaged
  Refuse : ℕ → Event  -- a VotedAbort came to q
  Miss : ℕ → Event  -- a reply that q waits for will never come: a cause Gone
  Forget : ℕ → Event  -- q forgets a transaction that it only read
  -- crash and restart
  Crash : ℕ → Event  -- p stops
  Restart : ℕ → Event  -- a node restarts as q, with no Prepare in doubt
  Restart_in_doubt : ℕ → ℕ → Event  -- a node restarts as q, and takes up server s's Prepare, which is in doubt
  Restart_home : ℕ → Event  -- the home's node restarts as q: it knows the Commits of its log
  -- decision
  Commit : Event  -- the home is ready: the Commit is forced
  Commit_cut : Event  -- the home is ready, and is cut off with the Commit kept
  Commit_unlogged : Event  -- nobody is to be told, and nothing is in the log: no record is written
  Abort : Event  -- the home aborts
  -- commit is told
  Tell : ℕ → ℕ → Event  -- h tells node n commit
  Learn : ℕ → Event  -- q learns commit: its Commit is forced, and Told goes
  Learn_cut : ℕ → Event  -- q learns commit, and is cut off with its Commit kept
  Learn_home : ℕ → Event  -- the servers of the home's node learn a Commit that a restart found
  Acknowledge : ℕ → Event  -- q knows commit, or nothing of the transaction: Told goes
  Take_told : ℕ → ℕ → Event  -- the Told of q is handed up at h
  End : ℕ → Event  -- all have acknowledged, and End is on the disk
  Checkpoint : ℕ → Event  -- the home's log drops a Commit that is ended
  -- abort is told
  Tell_abort : ℕ → ℕ → Event  -- h tells node n abort
  Learn_abort : ℕ → Event  -- q learns abort: its Told names whom it has drawn in
  Name_again : ℕ → Event  -- q, which knows abort, sends its Told again, as after a restart of the home
  Take_names : ℕ → ℕ → ℕ → Event  -- h takes a Told of q that names n, and is to tell n too
  Learn_abort_home : ℕ → ℕ → Event  -- a restart of the home's node found a Prepare and no Commit
  Abort_logged : ℕ → Event  -- Aborted is on the disk of q
  Drop_engage : ℕ → ℕ → Event  -- q knows abort and has no superior: it takes p's node for one, and drops the request
  Drop_join : ℕ → ℕ → Event  -- q knows abort and drops a request from its superior
  Drop_cover : ℕ → ℕ → Event  -- q drops any other, and Covered goes
  -- inquiries
  Inquire : ℕ → Event  -- q inquires, being in doubt
  Inquire_lost : ℕ → Event  -- q inquires, being engaged by a place whose node restarted
  Inquire_home : ℕ → Event  -- q inquires, being engaged while the home's node restarted
  Answer_commit : ℕ → ℕ → Event  -- h knows commit, and answers q so
  Answer_running : ℕ → Event  -- the home runs the transaction: q is to be told at the decision
  Answer_abort : ℕ → ℕ → Event  -- h knows abort, or began after the home and knows nothing: it answers q abort

abbrev pub Step : Event → World → World → Type 0
Step (Issue p m s) old new =
    MayIssue old p × (m ≢ old.node p) × (old.peer p m ≢ 0)
    × (new ≡ record old {
      sent = with_at2 old.sent p m (old.sent p m + 1);
      server_of = with_at3 old.server_of p m (old.sent p m + 1) s;
      posted = with_at2 old.posted p (old.peer p m) (old.sent p m + 1);
      involved = with_at old.involved p true;  -- who sends a request is to be told
      way = with_at old.way (old.node p) (held (old.way (old.node p)));
      holder = with_at old.holder (old.node p) (held_at (old.way (old.node p)) p (old.holder (old.node p)));
    })
Step (Issue_unmet p m s) old new =
    MayIssue old p × (m ≢ old.node p) × (old.peer p m ≡ 0)
    × (new ≡ record old {
      sent = with_at2 old.sent p m (old.sent p m + 1);
      server_of = with_at3 old.server_of p m (old.sent p m + 1) s;
      involved = with_at old.involved p true;
      way = with_at old.way (old.node p) (held (old.way (old.node p)));
      holder = with_at old.holder (old.node p) (held_at (old.way (old.node p)) p (old.holder (old.node p)));
    })
Step (Issue_local p s) old new = MayIssue old p × (new ≡ record old { arrived = with_at2 old.arrived p s (old.arrived p s + 1) })
Step (Meet p q) old new =
    (old.up p ≡ true) × (old.node q ≢ old.node p) × (1 ≤ q) × (q ≤ old.present (old.node q)) × (old.peer p (old.node q) ≡ 0)
    × (new ≡ record old {
      peer = with_at2 old.peer p (old.node q) q;
      posted = with_at2 old.posted p q (old.sent p (old.node q));
      inquiry_put = with_at2 old.inquiry_put p q (old.inquiries p);
    })
Step (Notice p q) old new =
    (old.up p ≡ true) × (old.node q ≢ old.node p) × (old.peer p (old.node q) ≢ 0) × (old.peer p (old.node q) < q) × (q ≤ old.present (old.node q))
    × (new ≡ record old {
      peer = with_at2 old.peer p (old.node q) q;
      posted = with_at2 old.posted p q (old.sent p (old.node q));
      received = with_at2 old.received q p (old.sent p (old.node q));
      inquiry_put = with_at2 old.inquiry_put p q (old.inquiries p);
      inquiry_taken = with_at2 old.inquiry_taken q p (old.inquiries p);
      gone = if old.covered p (old.node q) == old.sent p (old.node q) then old.gone else with_at old.gone p true;
    })
Step (Engage q p) old new =
    NextAt old q p × (old.outcome q ≢ Aborted) × (old.engaged q ≡ false) × (old.node q ≢ old.node old.home)
    × (new ≡ record old {
      received = with_at2 old.received q p (next old q p);
      last = with_at2 old.last q p (next old q p);
      arrived = with_at2 old.arrived q (next_server old q p) (old.arrived q (next_server old q p) + 1);
      engaged = with_at old.engaged q true;
      superior = with_at old.superior q (old.node p);
      engager = with_at old.engager q p;
      engaging = with_at old.engaging q (next old q p);
      depth = with_at old.depth q (old.depth p + 1);
      received_at = with_at3 old.received_at p (old.node q) (next old q p) q;
      arrival = with_at3 old.arrival p (old.node q) (next old q p) (old.arrived q (next_server old q p) + 1);
    })
Step (Join q p) old new =
    NextAt old q p × (old.outcome q ≢ Aborted) × (old.engaged q ≡ true) × (q ≢ old.home) × (old.superior q ≡ old.node p)
    × (new ≡ record old {
      received = with_at2 old.received q p (next old q p);
      last = with_at2 old.last q p (next old q p);
      arrived = with_at2 old.arrived q (next_server old q p) (old.arrived q (next_server old q p) + 1);
      received_at = with_at3 old.received_at p (old.node q) (next old q p) q;
      arrival = with_at3 old.arrival p (old.node q) (next old q p) (old.arrived q (next_server old q p) + 1);
    })
Step (Cover q p) old new =
    NextAt old q p × (old.outcome q ≢ Aborted) × (old.engaged q ≡ true) × ((q ≡ old.home) ⊎ (old.superior q ≢ old.node p))
    × (new ≡ record old {
      received = with_at2 old.received q p (next old q p);
      last = with_at2 old.last q p (next old q p);
      arrived = with_at2 old.arrived q (next_server old q p) (old.arrived q (next_server old q p) + 1);
      closers = with_at2 old.closers q p (old.closers q p + 1);
      closer = with_at3 old.closer q p (old.closers q p + 1) (next old q p);
      received_at = with_at3 old.received_at p (old.node q) (next old q p) q;
      arrival = with_at3 old.arrival p (old.node q) (next old q p) (old.arrived q (next_server old q p) + 1);
    })
Step (Serve q s) old new =
    MayServe old q s × (Votes old q s ⊎ (old.class (old.node q) s ≡ Immediate))
    × (new ≡ record old { served = with_at2 old.served q s (old.served q s + 1) })
Step (Serve_told q s) old new =
    MayServe old q s × (old.class (old.node q) s ≡ OnePhase)
    × (new ≡ record old {
      served = with_at2 old.served q s (old.served q s + 1);
      involved = with_at old.involved q true;
      way = with_at old.way (old.node q) (held (old.way (old.node q)));
      holder = with_at old.holder (old.node q) (held_at (old.way (old.node q)) q (old.holder (old.node q)));
    })
Step (Lend q s) old new =
    MayServe old q s × (old.class (old.node q) s ≡ Activity)
    × (new ≡ record old { served = with_at2 old.served q s (old.served q s + 1); loans = with_at old.loans q (old.loans q + 1) })
Step (Yield q) old new = (old.up q ≡ true) × (1 ≤ old.loans q) × ((n : ℕ) × (old.loans q ≡ n + 1) × (new ≡ record old { loans = with_at old.loans q n }))
Step (Ask q) old new = (old.up q ≡ true) × (new ≡ record old { asked = with_at old.asked q true })
Step (Vote_read q s) old new = VoteDue old q s × (new ≡ record old { voted = with_at2 old.voted q s (old.served q s) })
Step (Vote_volatile q s) old new =
    VoteDue old q s × (old.class (old.node q) s ≡ Volatile)
    × (new ≡ record old {
      voted = with_at2 old.voted q s (old.served q s);
      involved = with_at old.involved q true;
      way = with_at old.way (old.node q) (held (old.way (old.node q)));
      holder = with_at old.holder (old.node q) (held_at (old.way (old.node q)) q (old.holder (old.node q)));
    })
Step (Force q s) old new =
    VoteDue old q s × (old.class (old.node q) s ≡ Recoverable)
    × (new ≡ record old {
      involved = with_at old.involved q true;
      prepared = with_at2 old.prepared (old.node q) s true;
      way = with_at old.way (old.node q) (held (old.way (old.node q)));
      holder = with_at old.holder (old.node q) (held_at (old.way (old.node q)) q (old.holder (old.node q)));
    })
Step (Vote_recoverable q s) old new =
    VoteDue old q s × (old.class (old.node q) s ≡ Recoverable)
    × (new ≡ record old {
      voted = with_at2 old.voted q s (old.served q s);
      involved = with_at old.involved q true;
      prepared = with_at2 old.prepared (old.node q) s true;
      way = with_at old.way (old.node q) (held (old.way (old.node q)));
      holder = with_at old.holder (old.node q) (held_at (old.way (old.node q)) q (old.holder (old.node q)));
    })
Step (Vote_abort q s) old new = VoteDue old q s × (new ≡ record old { abort_vote = with_at old.abort_vote q true })
Step (Yes q) old new =
    (q ≢ old.home) × IsReady old q × (old.peer q (old.superior q) ≡ old.engager q)
    × (new ≡ record old {
      engaged = with_at old.engaged q false;
      closers = with_at2 old.closers q (old.engager q) (old.closers q (old.engager q) + 1);
      closer = with_at3 old.closer q (old.engager q) (old.closers q (old.engager q) + 1) (old.last q (old.engager q));
      closer_set = with_at3 old.closer_set q (old.engager q) (old.closers q (old.engager q) + 1) (carried old q);
      way = λ n. if old.holder n == q then passed (old.way n) Flight else old.way n;
      holder = λ n. if old.holder n == q then passed_to (old.way n) (old.engager q) q else old.holder n;
      sender = λ n. if old.holder n == q then passed_to (old.way n) q (old.sender n) else old.sender n;
      index = λ n. if old.holder n == q then passed_to (old.way n) (old.closers q (old.engager q) + 1) (old.index n) else old.index n;
    })
Step (Yes_lost q) old new =
    (q ≢ old.home) × IsReady old q × (old.peer q (old.superior q) ≢ old.engager q)
    × (new ≡ record old {
      engaged = with_at old.engaged q false;
      closers = with_at2 old.closers q (old.peer q (old.superior q)) (old.closers q (old.peer q (old.superior q)) + 1);
      closer = with_at3 old.closer q (old.peer q (old.superior q)) (old.closers q (old.peer q (old.superior q)) + 1) (old.last q (old.peer q (old.superior q)));
      closer_set = with_at3 old.closer_set q (old.peer q (old.superior q)) (old.closers q (old.peer q (old.superior q)) + 1) (carried old q);
      way = λ n. if old.holder n == q then passed (old.way n) Dead else old.way n;
      holder = λ n. if old.holder n == q then passed_to (old.way n) (old.engager q) q else old.holder n;
    })
Step (Count p q) old new =
    (old.up p ≡ true) × (old.peer p (old.node q) ≡ q) × (old.closers_taken p q < old.closers q p)
    × (new ≡ record old {
      closers_taken = with_at2 old.closers_taken p q (old.closers_taken p q + 1);
      covered = with_at2 old.covered p (old.node q) (max (old.covered p (old.node q)) (old.closer q p (old.closers_taken p q + 1)));
      told_set = with_at old.told_set p (λ n. if old.told_set p n then true else old.closer_set q p (old.closers_taken p q + 1) n);
      way = λ n. if old.holder n == p then (if old.sender n == q then (if old.index n == old.closers_taken p q + 1 then landed (old.way n) else old.way n) else old.way n) else old.way n;
    })
Step (Ignore p q) old new =
    (old.up p ≡ true) × (old.peer p (old.node q) ≡ q) × (old.closers_taken p q < old.closers q p) × (old.engaged p ≡ false)
    × (new ≡ record old { closers_taken = with_at2 old.closers_taken p q (old.closers_taken p q + 1) })
Step (Refuse q) old new = (old.up q ≡ true) × (new ≡ record old { refused = with_at old.refused q true })
Step (Miss q) old new = (old.up q ≡ true) × (old.engaged q ≡ true) × (new ≡ record old { gone = with_at old.gone q true })
Step (Forget q) old new =
    (old.up q ≡ true) × (q ≢ old.home) × (old.engaged q ≡ false) × (old.involved q ≡ false) × (old.outcome q ≡ Open)
    × (new ≡ record old { asked = with_at old.asked q false; refused = with_at old.refused q false })
Step (Crash p) old new = (old.up p ≡ true) × (new ≡ record old { up = with_at old.up p false })
Step (Restart q) old new =
    (old.up (old.present (old.node q)) ≡ false) × (old.present (old.node q) < q) × (old.node q ≢ old.node old.home) × ((s : ℕ) → old.prepared (old.node q) s ≡ false)
    × (new ≡ record old {
      present = with_at old.present (old.node q) q;
      up = with_at old.up q true;
      involved = with_at old.involved q false;
    })
Step (Restart_in_doubt q s) old new =
    (old.up (old.present (old.node q)) ≡ false) × (old.present (old.node q) < q) × (old.node q ≢ old.node old.home) × (old.prepared (old.node q) s ≡ true)
    × (new ≡ record old {
      present = with_at old.present (old.node q) q;
      up = with_at old.up q true;
      involved = with_at old.involved q true;
    })
Step (Restart_home q) old new =
    (old.up (old.present (old.node q)) ≡ false) × (old.present (old.node q) < q) × (old.node q ≡ old.node old.home)
    × (new ≡ record old {
      present = with_at old.present (old.node q) q;
      up = with_at old.up q true;
      involved = with_at old.involved q false;
      outcome = with_at old.outcome q (if old.commit_logged then Committed else Open);
      acknowledged = λ n. false;
      cell = closed old.cell;
    })
Step Commit old new =
    IsReady old old.home
    × (new ≡ record old {
      engaged = with_at old.engaged old.home false;
      outcome = with_at old.outcome old.home Committed;
      prepared = with_at old.prepared (old.node old.home) (λ s. false);
      commit_logged = true;
      unended = true;
      commit_list = old.told_set old.home;
      cell = Committed;
      learnt_commit = with_at old.learnt_commit (old.node old.home) true;
    })
Step Commit_cut old new =
    IsReady old old.home
    × (new ≡ record old {
      up = with_at old.up old.home false;
      engaged = with_at old.engaged old.home false;
      prepared = with_at old.prepared (old.node old.home) (λ s. false);
      commit_logged = true;  -- kept by the cut
      unended = true;
      commit_list = old.told_set old.home;
      cell = Committed;
    })
Step Commit_unlogged old new =
    IsReady old old.home × ((n : ℕ) → old.told_set old.home n ≡ false) × ((s : ℕ) → old.prepared (old.node old.home) s ≡ false)
    × (new ≡ record old {
      engaged = with_at old.engaged old.home false;
      outcome = with_at old.outcome old.home Committed;
      cell = Committed;
      learnt_commit = with_at old.learnt_commit (old.node old.home) true;
    })
Step Abort old new =
    (old.up old.home ≡ true) × (old.outcome old.home ≡ Open)
    × (new ≡ record old {
      engaged = with_at old.engaged old.home false;
      outcome = with_at old.outcome old.home Aborted;
      to_tell = with_at old.to_tell old.home (drawn old old.home);
      cell = Aborted;
      learnt_abort = with_at old.learnt_abort (old.node old.home) true;
    })
Step (Tell h n) old new =
    (old.up h ≡ true) × (old.node h ≡ old.node old.home) × (old.outcome h ≡ Committed)
    × (new ≡ record old { tell_commit = with_at old.tell_commit n true })
Step (Learn q) old new =
    IsTold old q (old.tell_commit (old.node q)) × (old.involved q ≡ true) × (old.outcome q ≡ Open)
    × (new ≡ record old {
      outcome = with_at old.outcome q Committed;
      prepared = with_at old.prepared (old.node q) (λ s. false);
      ack_put = with_at old.ack_put q true;
      learnt_commit = with_at old.learnt_commit (old.node q) true;
    })
Step (Learn_cut q) old new =
    IsTold old q (old.tell_commit (old.node q)) × (old.involved q ≡ true) × (old.outcome q ≡ Open)
    × (new ≡ record old {
      up = with_at old.up q false;
      prepared = with_at old.prepared (old.node q) (λ s. false);
      learnt_commit = with_at old.learnt_commit (old.node q) true;
    })
Step (Learn_home h) old new =
    (old.up h ≡ true) × (old.node h ≡ old.node old.home) × (old.outcome h ≡ Committed)
    × (new ≡ record old { learnt_commit = with_at old.learnt_commit (old.node h) true })
Step (Acknowledge q) old new =
    IsTold old q (old.tell_commit (old.node q)) × ((old.outcome q ≡ Committed) ⊎ ((old.involved q ≡ false) × (old.engaged q ≡ false)))
    × (new ≡ record old { ack_put = with_at old.ack_put q true })
Step (Take_told h q) old new =
    (old.up h ≡ true) × (old.node h ≡ old.node old.home) × (old.ack_put q ≡ true)
    × (new ≡ record old { acknowledged = with_at old.acknowledged (old.node q) true })
Step (End h) old new =
    (old.up h ≡ true) × (old.node h ≡ old.node old.home) × (old.outcome h ≡ Committed) × ((n : ℕ) → old.commit_list n ≡ true → old.acknowledged n ≡ true)
    × (new ≡ record old { unended = false })
Step (Checkpoint h) old new =
    (old.up h ≡ true) × (old.node h ≡ old.node old.home) × (old.unended ≡ false)
    × (new ≡ record old { commit_logged = false })
Step (Tell_abort h n) old new =
    (old.up h ≡ true) × (old.node h ≡ old.node old.home) × (old.outcome h ≡ Aborted) × (old.to_tell h n ≡ true)
    × (new ≡ record old { tell_abort = with_at old.tell_abort n true })
Step (Learn_abort q) old new =
    IsTold old q (old.tell_abort (old.node q)) × (old.outcome q ≡ Open)
    × (new ≡ record old {
      outcome = with_at old.outcome q Aborted;
      named = with_at old.named q (names old q);
      learnt_abort = with_at old.learnt_abort (old.node q) true;
    })
Step (Name_again q) old new =
    (old.up q ≡ true) × (old.node q ≢ old.node old.home) × (old.outcome q ≡ Aborted)
    × (new ≡ record old { named = with_at old.named q (λ n. if old.named q n then true else names old q n) })
Step (Take_names h q n) old new =
    TellsAbort old h × (old.named q n ≡ true)
    × (new ≡ record old {
      outcome = with_at old.outcome h Aborted;
      to_tell = with_at2 old.to_tell h n true;
    })
Step (Learn_abort_home h s) old new =
    TellsAbort old h × (h ≢ old.home) × (old.prepared (old.node h) s ≡ true)
    × (new ≡ record old {
      outcome = with_at old.outcome h Aborted;
      learnt_abort = with_at old.learnt_abort (old.node h) true;
    })
Step (Abort_logged q) old new =
    (old.up q ≡ true) × (old.outcome q ≡ Aborted)
    × (new ≡ record old { prepared = with_at old.prepared (old.node q) (λ s. false) })
Step (Drop_engage q p) old new =
    NextAt old q p × (old.outcome q ≡ Aborted) × (old.engaged q ≡ false) × (old.node q ≢ old.node old.home)
    × (new ≡ record old {
      received = with_at2 old.received q p (next old q p);
      last = with_at2 old.last q p (next old q p);
      engaged = with_at old.engaged q true;
      superior = with_at old.superior q (old.node p);
      engager = with_at old.engager q p;
    })
Step (Drop_join q p) old new =
    NextAt old q p × (old.outcome q ≡ Aborted) × (old.engaged q ≡ true) × (q ≢ old.home) × (old.superior q ≡ old.node p)
    × (new ≡ record old {
      received = with_at2 old.received q p (next old q p);
      last = with_at2 old.last q p (next old q p);
    })
Step (Drop_cover q p) old new =
    NextAt old q p × Drops old q × ((old.node q ≡ old.node old.home) ⊎ ((old.engaged q ≡ true) × (old.superior q ≢ old.node p)))
    × (new ≡ record old {
      received = with_at2 old.received q p (next old q p);
      last = with_at2 old.last q p (next old q p);
      closers = with_at2 old.closers q p (old.closers q p + 1);
      closer = with_at3 old.closer q p (old.closers q p + 1) (next old q p);
    })
Step (Inquire q) old new =
    (old.up q ≡ true) × (old.node q ≢ old.node old.home) × (old.outcome q ≡ Open) × (old.involved q ≡ true)
    × (new ≡ record old {
      inquiries = with_at old.inquiries q (old.inquiries q + 1);
      inquiry_put = if old.peer q (old.node old.home) == 0 then old.inquiry_put else with_at2 old.inquiry_put q (old.peer q (old.node old.home)) (old.inquiries q + 1);
    })
Step (Inquire_lost q) old new =
    (old.up q ≡ true) × (old.node q ≢ old.node old.home) × (old.outcome q ≡ Open) × (old.engaged q ≡ true) × (old.engager q < old.peer q (old.superior q))
    × (new ≡ record old {
      inquiries = with_at old.inquiries q (old.inquiries q + 1);
      inquiry_put = if old.peer q (old.node old.home) == 0 then old.inquiry_put else with_at2 old.inquiry_put q (old.peer q (old.node old.home)) (old.inquiries q + 1);
      orphaned = true;
      orphaned_by = old.engager q;
    })
Step (Inquire_home q) old new =
    (old.up q ≡ true) × (old.node q ≢ old.node old.home) × (old.outcome q ≡ Open) × (old.engaged q ≡ true) × (old.home < old.peer q (old.node old.home))
    × (new ≡ record old {
      inquiries = with_at old.inquiries q (old.inquiries q + 1);
      inquiry_put = if old.peer q (old.node old.home) == 0 then old.inquiry_put else with_at2 old.inquiry_put q (old.peer q (old.node old.home)) (old.inquiries q + 1);
    })
Step (Answer_commit h q) old new =
    NextInquiry old h q × (old.outcome h ≡ Committed)
    × (new ≡ record old { tell_commit = with_at old.tell_commit (old.node q) true; inquiry_taken = with_at2 old.inquiry_taken h q (old.inquiry_taken h q + 1) })
Step (Answer_running q) old new =
    NextInquiry old old.home q × (old.outcome old.home ≡ Open)
    × (new ≡ record old { told_set = with_at2 old.told_set old.home (old.node q) true; inquiry_taken = with_at2 old.inquiry_taken old.home q (old.inquiry_taken old.home q + 1) })
Step (Answer_abort h q) old new =
    NextInquiry old h q × TellsAbort old h
    × (new ≡ record old {
      outcome = with_at old.outcome h Aborted;
      tell_abort = with_at old.tell_abort (old.node q) true;
      to_tell = with_at2 old.to_tell h (old.node q) true;
      inquiry_taken = with_at2 old.inquiry_taken h q (old.inquiry_taken h q + 1);
    })
