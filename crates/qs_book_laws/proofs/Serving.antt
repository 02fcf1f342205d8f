-- A server that stands for its table in the machine answers by the machine's rules.
use Rattle.qs_book_laws.proofs.Words.{◌≡◌, ℕ, Bool, true, false, List, Option, Some, None, refl, sym, ap, subst, ◌∙◌, ◌+◌, ◌==◌, nat_lt, arith, not, if◌then◌else◌, nat_tests, Tid, same_tid-self, class_of, is_two_phase, Op, Reply, Vote, Outcome, server_serve, vote_node, learn_node, end_node, is_server_vote, NodeValue, timer_served, timers_ended, TableValue, served, released, committed, eqb-self}
use Rattle.std.specs.Prelude.{is_none}
use Rattle.qs_base.proofs.Same.{same_bytes-self, same_lists-self}
use Rattle.qs_ops.specs.Alike.{same_reply}
use Rattle.qs_ops.specs.declared.reply.Reply.TheVariants as replies
use Rattle.qs_ops.specs.declared.vote.Vote.TheVariants as votes
use Rattle.qs_base.specs.declared.identifiers.Outcome.TheVariants as outcomes
use Rattle.qs_ops.specs.declared.vote.Notice.TheVariants as notices
use Rattle.qs_book_machine.specs.Clauses.{is_server_reply, is_files_vote, is_audit_vote, is_names_vote, is_log_full, prepare_need}
use Rattle.qs_book_machine.specs.Nodes.{extra_of, keep_of}
use Rattle.qs_ops.specs.Server.{ServerValue, number_of, reply_in, reply_of, served_by, after_serving, vote_of, changes_vote, files_vote, vote_in_room, vote_need, names_vote, voted_by, after_vote, noted_by, after_notice}
use Rattle.qs_ops.specs.Timers.{TimersValue}
use Rattle.qs_ops.specs.Table.{is_due, reply_to, has_changes, view_bytes, least_taken, with_vote}
use Rattle.qs_ops.specs.declared.server.ServerKind.{ServerKind}
use Rattle.qs_ops.specs.declared.server.ServerKind.TheVariants.{Files, Audit, Names, Timers, Windows, Scratch, Nothing}
use Rattle.qs_book_laws.specs.Standing.{StandsAs, StandsFor, notice_of}
use Rattle.std.proofs.lemmas.Option.{same_Some}

-- ---- replies

same_reply-self : (r : Reply) → same_reply r r ≡ true
same_reply-self replies.Done = refl
same_reply-self (replies.Value text) = same_bytes-self text
same_reply-self (replies.Left ticks) = grind (arith, nat_tests)
same_reply-self (replies.Names list) = same_lists-self list
same_reply-self (replies.Notes list) = same_lists-self list
same_reply-self (replies.Busy holder) = same_tid-self holder
same_reply-self replies.Absent = refl
same_reply-self replies.TooMany = refl
same_reply-self replies.TooLong = refl

due : (o : Option Reply) (r : Reply) → o ≡ Some r → is_due o r ≡ true
due o r is = ap (λ (p : Option Reply). is_due p r) is ∙ same_reply-self r

table_due : (t u : TableValue) (tid : Tid) (op : Op) (r : Reply) → Some t ≡ Some u → reply_to u tid op ≡ Some r → is_due (reply_to t tid op) r ≡ true
table_due t u tid op r same is = let e : t ≡ u = cc same in ap (λ (v : TableValue). is_due (reply_to v tid op) r) e ∙ due (reply_to u tid op) r is

absent : (r : Reply) → Some replies.Absent ≡ Some r → same_reply replies.Absent r ≡ true
absent r is = let e : replies.Absent ≡ r = cc is in subst (λ (s : Reply). same_reply replies.Absent s ≡ true) e refl

replies_as : (kind : ServerKind) (node : NodeValue) (server : ServerValue) (tid : Tid) (op : Op) (reply : Reply) → StandsAs kind node server → reply_in server kind tid op ≡ Some reply → is_server_reply node (number_of kind) tid op reply ≡ true
replies_as (Files quota) node server tid op reply stands is = table_due node.files server.table tid op reply stands is
replies_as Audit node server tid op reply stands is = table_due node.audit server.table tid op reply stands is
replies_as Names node server tid op reply stands is = table_due node.names server.table tid op reply stands is
replies_as Timers node server tid op reply stands is = rw stands (due _ reply is)
replies_as Windows node server tid op reply stands is = table_due node.windows server.table tid op reply stands is
replies_as Scratch node server tid op reply stands is = table_due node.scratch server.table tid op reply stands is
replies_as Nothing node server tid op reply stands is = absent reply is

pub replies_by_rules : (node : NodeValue) (server : ServerValue) (tid : Tid) (op : Op) (reply : Reply) → StandsFor node server → reply_of server tid op ≡ Some reply → is_server_reply node (number_of server.kind) tid op reply ≡ true
replies_by_rules node server tid op reply stands is = replies_as server.kind node server tid op reply stands is

-- ---- votes

-- what a Prepare record takes beside its bytes
abbrev frame_of : NodeValue → ℕ
frame_of node = 41 + extra_of node.format + keep_of node.format

-- the bytes of a Prepare record with all that it takes besides
need_is : (node : NodeValue) (table : TableValue) (tid : Tid) → (vote_need table tid (frame_of node) == prepare_need node table tid) ≡ true
need_is node table tid = grind (arith, nat_tests)

full : (node : NodeValue) (table : TableValue) (tid : Tid) (free : ℕ) → nat_lt free (vote_need table tid (frame_of node)) ≡ true
    → is_log_full node table tid (vote_need table tid (frame_of node)) free ≡ true
full node table tid free less = rw (need_is node table tid) less

files_room : (node : NodeValue) (tid : Tid) (free : ℕ) → has_changes node.files tid ≡ true → is_files_vote node tid (vote_in_room node.files tid free (frame_of node)) ≡ true
files_room node tid free some = by (nat_lt free (vote_need node.files tid (frame_of node))) refl
  where
    by : (b : Bool) → nat_lt free (vote_need node.files tid (frame_of node)) ≡ b → is_files_vote node tid (vote_in_room node.files tid free (frame_of node)) ≡ true
    by true is = rw is (rw some (full node node.files tid free is))
    by false is = rw is some

audit_room : (node : NodeValue) (tid : Tid) (free : ℕ) → has_changes node.audit tid ≡ true → is_audit_vote node tid (vote_in_room node.audit tid free (frame_of node)) ≡ true
audit_room node tid free some = by (nat_lt free (vote_need node.audit tid (frame_of node))) refl
  where
    by : (b : Bool) → nat_lt free (vote_need node.audit tid (frame_of node)) ≡ b → is_audit_vote node tid (vote_in_room node.audit tid free (frame_of node)) ≡ true
    by true is = rw is (rw some (full node node.audit tid free is))
    by false is = rw is some

files_changed : (quota : ℕ) (node : NodeValue) (tid : Tid) (free : ℕ) → has_changes node.files tid ≡ true → is_files_vote node tid (files_vote quota node.files tid free (frame_of node)) ≡ true
files_changed quota node tid free some = by (nat_lt quota (view_bytes node.files tid)) refl
  where
    by : (b : Bool) → nat_lt quota (view_bytes node.files tid) ≡ b → is_files_vote node tid (files_vote quota node.files tid free (frame_of node)) ≡ true
    by true is = rw is (rw some (rw (eqb-self (view_bytes node.files tid)) is))
    by false is = rw is (files_room node tid free some)

names_changed : (node : NodeValue) (tid : Tid) → has_changes node.names tid ≡ true → is_names_vote node tid (names_vote (least_taken node.names tid)) ≡ true
names_changed node tid some = by (least_taken node.names tid) refl
  where
    by : (o : Option (List ℕ)) → least_taken node.names tid ≡ o → is_names_vote node tid (names_vote o) ≡ true
    by None is = rw some (ap is_none is)
    by (Some name) is = rw some (rw is (rw (same_bytes-self name) refl))

files_all : (quota : ℕ) (node : NodeValue) (tid : Tid) (free : ℕ) → is_files_vote node tid (if has_changes node.files tid then files_vote quota node.files tid free (frame_of node) else votes.ReadOnly) ≡ true
files_all quota node tid free = by (has_changes node.files tid) refl
  where
    by : (b : Bool) → has_changes node.files tid ≡ b → is_files_vote node tid (if b then files_vote quota node.files tid free (frame_of node) else votes.ReadOnly) ≡ true
    by true is = files_changed quota node tid free is
    by false is = ap not is

audit_all : (node : NodeValue) (tid : Tid) (free : ℕ) → is_audit_vote node tid (if has_changes node.audit tid then vote_in_room node.audit tid free (frame_of node) else votes.ReadOnly) ≡ true
audit_all node tid free = by (has_changes node.audit tid) refl
  where
    by : (b : Bool) → has_changes node.audit tid ≡ b → is_audit_vote node tid (if b then vote_in_room node.audit tid free (frame_of node) else votes.ReadOnly) ≡ true
    by true is = audit_room node tid free is
    by false is = ap not is

names_all : (node : NodeValue) (tid : Tid) → is_names_vote node tid (if has_changes node.names tid then names_vote (least_taken node.names tid) else votes.ReadOnly) ≡ true
names_all node tid = by (has_changes node.names tid) refl
  where
    by : (b : Bool) → has_changes node.names tid ≡ b → is_names_vote node tid (if b then names_vote (least_taken node.names tid) else votes.ReadOnly) ≡ true
    by true is = names_changed node tid is
    by false is = ap not is

nothing_all : (b : Bool) (node : NodeValue) (tid : Tid) → is_server_vote node 6 tid (if b then votes.ReadOnly else votes.ReadOnly) ≡ true
nothing_all true node tid = refl
nothing_all false node tid = refl

votes_as : (kind : ServerKind) (node : NodeValue) (server : ServerValue) (tid : Tid) (free : ℕ) → StandsAs kind node server → is_two_phase (class_of (number_of kind)) ≡ true
    → is_server_vote node (number_of kind) tid (if has_changes server.table tid then changes_vote kind server.table tid free (frame_of node) else votes.ReadOnly) ≡ true
votes_as (Files quota) node server tid free stands two = subst (λ (t : TableValue). is_files_vote node tid (if has_changes t tid then files_vote quota t tid free (frame_of node) else votes.ReadOnly) ≡ true) (same_Some node.files server.table stands) (files_all quota node tid free)
votes_as Audit node server tid free stands two = subst (λ (t : TableValue). is_audit_vote node tid (if has_changes t tid then vote_in_room t tid free (frame_of node) else votes.ReadOnly) ≡ true) (same_Some node.audit server.table stands) (audit_all node tid free)
votes_as Names node server tid free stands two = subst (λ (t : TableValue). is_names_vote node tid (if has_changes t tid then names_vote (least_taken t tid) else votes.ReadOnly) ≡ true) (same_Some node.names server.table stands) (names_all node tid)
votes_as Timers node server tid free stands two = absurd (cc two)
votes_as Windows node server tid free stands two = absurd (cc two)
votes_as Scratch node server tid free stands two = absurd (cc two)
votes_as Nothing node server tid free stands two = nothing_all (has_changes server.table tid) node tid

pub votes_by_rules : (node : NodeValue) (server : ServerValue) (tid : Tid) (free : ℕ) → StandsFor node server → is_two_phase (class_of (number_of server.kind)) ≡ true → is_server_vote node (number_of server.kind) tid (vote_of server tid free (41 + extra_of node.format + keep_of node.format)) ≡ true
votes_by_rules node server tid free stands two = votes_as server.kind node server tid free stands two

-- ---- what is held after a step

mapped : (f : TableValue → TableValue) (t u : TableValue) → Some t ≡ Some u → Some (f t) ≡ Some (f u)
mapped f t u is = ap (λ (v : TableValue). Some (f v)) (same_Some t u is)

served_as : (kind : ServerKind) (node : NodeValue) (server : ServerValue) (tid : Tid) (op : Op) (reply : Reply) → StandsAs kind node server → StandsAs kind (server_serve (number_of kind) tid op reply node) (served_by kind tid op reply server)
served_as (Files quota) node server tid op reply stands = mapped (λ t. served t tid op reply) node.files server.table stands
served_as Audit node server tid op reply stands = mapped (λ t. served t tid op reply) node.audit server.table stands
served_as Names node server tid op reply stands = mapped (λ t. served t tid op reply) node.names server.table stands
served_as Timers node server tid op reply stands = ap (λ (t : TimersValue). timer_served t tid op reply) stands
served_as Windows node server tid op reply stands = mapped (λ t. served t tid op reply) node.windows server.table stands
served_as Scratch node server tid op reply stands = mapped (λ t. served t tid op reply) node.scratch server.table stands
served_as Nothing node server tid op reply stands = tt

pub serving_stands : (node : NodeValue) (server : ServerValue) (tid : Tid) (op : Op) (reply : Reply) → StandsFor node server → StandsAs server.kind (server_serve (number_of server.kind) tid op reply node) (after_serving server tid op reply)
serving_stands node server tid op reply stands = served_as server.kind node server tid op reply stands

-- a vote that puts something on record leaves the tables
voted_as : (kind : ServerKind) (node : NodeValue) (server : ServerValue) (tid : Tid) (ballot : Vote) (covers count : ℕ) → is_two_phase (class_of (number_of kind)) ≡ true → StandsAs kind node server → StandsAs kind (vote_node count false tid (number_of kind) ballot covers node) (voted_by kind tid ballot server)
voted_as (Files quota) node server tid votes.ReadOnly covers count two stands = mapped (λ t. released t tid) node.files server.table stands
voted_as (Files quota) node server tid votes.Volatile covers count two stands = mapped (λ t. with_vote t tid true) node.files server.table stands
voted_as (Files quota) node server tid votes.Recoverable covers count two stands = stands
voted_as (Files quota) node server tid (votes.Abort reason) covers count two stands = mapped (λ t. with_vote t tid false) node.files server.table stands
voted_as Audit node server tid votes.ReadOnly covers count two stands = mapped (λ t. released t tid) node.audit server.table stands
voted_as Audit node server tid votes.Volatile covers count two stands = mapped (λ t. with_vote t tid true) node.audit server.table stands
voted_as Audit node server tid votes.Recoverable covers count two stands = stands
voted_as Audit node server tid (votes.Abort reason) covers count two stands = mapped (λ t. with_vote t tid false) node.audit server.table stands
voted_as Names node server tid votes.ReadOnly covers count two stands = mapped (λ t. released t tid) node.names server.table stands
voted_as Names node server tid votes.Volatile covers count two stands = mapped (λ t. with_vote t tid true) node.names server.table stands
voted_as Names node server tid votes.Recoverable covers count two stands = stands
voted_as Names node server tid (votes.Abort reason) covers count two stands = mapped (λ t. with_vote t tid false) node.names server.table stands
voted_as Timers node server tid ballot covers count two stands = absurd (cc two)
voted_as Windows node server tid ballot covers count two stands = absurd (cc two)
voted_as Scratch node server tid ballot covers count two stands = absurd (cc two)
voted_as Nothing node server tid ballot covers count two stands = tt

pub voting_stands : (node : NodeValue) (server : ServerValue) (tid : Tid) (ballot : Vote) (covers count : ℕ) → is_two_phase (class_of (number_of server.kind)) ≡ true → StandsFor node server → StandsAs server.kind (vote_node count false tid (number_of server.kind) ballot covers node) (after_vote server tid ballot)
voting_stands node server tid ballot covers count two stands = voted_as server.kind node server tid ballot covers count two stands

learnt_as : (kind : ServerKind) (node : NodeValue) (server : ServerValue) (tid : Tid) (outcome : Outcome) → StandsAs kind node server → StandsAs kind (learn_node outcome tid (number_of kind) node) (noted_by kind (notice_of outcome) tid server)
learnt_as (Files quota) node server tid outcomes.Commit stands = mapped (λ t. committed t tid) node.files server.table stands
learnt_as (Files quota) node server tid outcomes.Abort stands = mapped (λ t. released t tid) node.files server.table stands
learnt_as Audit node server tid outcomes.Commit stands = mapped (λ t. committed t tid) node.audit server.table stands
learnt_as Audit node server tid outcomes.Abort stands = mapped (λ t. released t tid) node.audit server.table stands
learnt_as Names node server tid outcomes.Commit stands = mapped (λ t. committed t tid) node.names server.table stands
learnt_as Names node server tid outcomes.Abort stands = mapped (λ t. released t tid) node.names server.table stands
learnt_as Timers node server tid outcomes.Commit stands = stands
learnt_as Timers node server tid outcomes.Abort stands = stands
learnt_as Windows node server tid outcomes.Commit stands = mapped (λ t. committed t tid) node.windows server.table stands
learnt_as Windows node server tid outcomes.Abort stands = mapped (λ t. released t tid) node.windows server.table stands
learnt_as Scratch node server tid outcomes.Commit stands = mapped (λ t. committed t tid) node.scratch server.table stands
learnt_as Scratch node server tid outcomes.Abort stands = mapped (λ t. released t tid) node.scratch server.table stands
learnt_as Nothing node server tid outcome stands = tt

pub learning_stands : (node : NodeValue) (server : ServerValue) (tid : Tid) (outcome : Outcome) → StandsFor node server → StandsAs server.kind (learn_node outcome tid (number_of server.kind) node) (after_notice server tid (notice_of outcome))
learning_stands node server tid outcome stands = learnt_as server.kind node server tid outcome stands

pub ending_stands : (node : NodeValue) (server : ServerValue) (tid : Tid) → server.kind ≡ Timers → StandsFor node server → StandsAs Timers (end_node tid node) (after_notice server tid notices.Ending)
ending_stands node server tid is stands =
    let e : node.timers ≡ server.timers = subst (λ (k : ServerKind). StandsAs k node server) is stands in
    subst (λ (k : ServerKind). StandsAs Timers (end_node tid node) (noted_by k notices.Ending tid server)) (sym is) (ap (λ (t : TimersValue). timers_ended t tid) e)
