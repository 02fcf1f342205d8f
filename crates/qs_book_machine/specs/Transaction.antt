-- What the reference machine keeps of one transaction, and what entries do to it.
use Rattle.std.specs.Prelude.{ℕ, ◌+◌, ◌-◌, ◌==◌, Bool, true, false, not, ◌&&◌, ◌||◌, List, [], ◌∷◌, ◌++◌, Option, Some, None, is_some, unwrap_or, nat_lt, if◌then◌else◌}
use Rattle.std.specs.List.{list_any, list_all, find}
use Rattle.std.specs.Ordering.{nat_cmp, ordering_then}
use Rattle.std.specs.declared.cmp.Ordering.{Ordering}
use Rattle.std.specs.Map.{lookup, set_value}
use Rattle.std.specs.BTreeMap.{insert_entry, is_at}
use Rattle.std.specs.BTreeSet.{insert_key}
use Rattle.qs_base.specs.Order.{member_cmp, same_member, bytes_cmp}
use Rattle.qs_base.specs.declared.identifiers.ClientNo.{ClientNo}
use Rattle.qs_base.specs.declared.identifiers.Class.{Class}
use Rattle.qs_base.specs.declared.identifiers.Class.TheVariants.{Recoverable, Volatile, Activity}
use Rattle.qs_base.specs.declared.identifiers.Member.{Member}
use Rattle.qs_base.specs.declared.identifiers.NodeNo.{NodeNo}
use Rattle.qs_base.specs.declared.identifiers.Outcome.{Outcome}
use Rattle.qs_base.specs.declared.identifiers.Outcome.TheVariants as outcomes
use Rattle.qs_ops.specs.Alike.{same_reason}
use Rattle.qs_ops.specs.Members.{class_of}
use Rattle.qs_ops.specs.declared.answer.Cause.{Cause}
use Rattle.qs_ops.specs.declared.operation.Op.{Op}
use Rattle.qs_ops.specs.declared.operation.Op.TheVariants.{Note}
use Rattle.qs_ops.specs.declared.vote.Reason.{Reason}
use Rattle.qs_ops.specs.declared.vote.Vote.{Vote}
use Rattle.qs_ops.specs.declared.vote.Vote.TheVariants as votes
use Rattle.qs_ops.specs.Servers.{files_no, audit_no, names_no, windows_no, scratch_no, extra_no, client_no, is_client_no}
use Rattle.qs_book_machine.specs.declared.transaction.Cell.{Cell}
use Rattle.qs_book_machine.specs.declared.transaction.Cell.TheVariants as cells
use Rattle.qs_book_machine.specs.declared.transaction.Life.{Life}
use Rattle.qs_book_machine.specs.declared.transaction.Link.{Link}
use Rattle.qs_book_machine.specs.declared.transaction.Noted.{Noted}
use Rattle.qs_book_machine.specs.declared.transaction.Part.{Part}
use Rattle.qs_book_machine.specs.declared.transaction.Peer.{Peer}
use Rattle.qs_book_machine.specs.declared.transaction.Refusal.{Refusal}
use Rattle.qs_book_machine.specs.declared.transaction.Request.{Request}
use Rattle.qs_book_machine.specs.declared.transaction.RequestNo.{RequestNo}
use Rattle.qs_book_machine.specs.declared.transaction.Sent.{Sent}
use Rattle.qs_book_machine.specs.declared.transaction.Start.{Start}

pub record TransactionValue : Type 0 where
  pub label : Option (List ℕ)  -- none where it stood at the opening
  pub owner : Option ClientNo  -- none where it stood at the opening
  pub begun_at : ℕ  -- how many ticks its home had made in its incarnation
  pub cell : Cell  -- its only outcome
  pub cause : Option Cause  -- why it was aborted
  pub asked : Option ℕ  -- the place in the history at which commit was asked for
  pub decided : Option ℕ  -- the place at which its cell was decided; none where that stood at the opening
  pub requests : List (RequestNo × List Request)  -- under each number of a link, in the order of their issues
  pub sent : List (Link × Sent)  -- what each node sent to each other, or to itself
  pub peers : List (NodeNo × Peer)  -- what is open towards each node
  pub noted : List Noted  -- the audit notes that files issued and that were served
  pub parts : List (Life × Part)  -- what each member did, in each incarnation of its node
  pub starts : List Start  -- where a count of served requests may begin anew
  pub refusals : List Refusal  -- the votes against commit, ever
  pub crossed : List (Member × ℕ)  -- members at which a request had the number of an earlier one that was not served, with the place in the history
  pub learnt : List Member  -- members that learnt commit, in whatever incarnation

-- ---- cells

abbrev pub is_open : Cell → Bool
is_open cells.Open = true
is_open _ = false

abbrev pub is_commit : Cell → Bool
is_commit cells.Commit = true
is_commit _ = false

abbrev pub is_abort : Cell → Bool
is_abort cells.Abort = true
is_abort _ = false

abbrev pub cell_of : Outcome → Cell
cell_of outcomes.Commit = cells.Commit
cell_of outcomes.Abort = cells.Abort

abbrev pub is_outcome : Outcome → Cell → Bool
is_outcome outcomes.Commit cells.Commit = true
is_outcome outcomes.Abort cells.Abort = true
is_outcome _ _ = false

-- ---- orders, of the keys

abbrev pub link_cmp : Link → Link → Ordering
link_cmp l m = ordering_then (nat_cmp l.from.0 m.from.0) (nat_cmp l.to.0 m.to.0)

abbrev pub request_cmp : RequestNo → RequestNo → Ordering
request_cmp r s = ordering_then (link_cmp r.link s.link) (nat_cmp r.number s.number)

abbrev pub node_cmp : NodeNo → NodeNo → Ordering
node_cmp m n = nat_cmp m.0 n.0

abbrev pub life_cmp : Life → Life → Ordering
life_cmp l m = ordering_then (member_cmp l.member m.member) (nat_cmp l.inc m.inc)

abbrev pub start_cmp : Start → Start → Ordering
start_cmp s t = ordering_then (life_cmp s.life t.life) (nat_cmp s.served t.served)

abbrev pub noted_cmp : Noted → Noted → Ordering
noted_cmp m n = ordering_then (nat_cmp m.node.0 n.node.0) (ordering_then (nat_cmp m.inc n.inc) (bytes_cmp m.text n.text))

-- ---- a value at a key is changed; nothing where there is none

abbrev pub changed_value : {K V : Type 0} → (K → Bool) → (V → V) → List (K × V) → List (K × V)
changed_value test f entries = elim (lookup test entries) [ None ↦ entries | Some v ↦ set_value test entries (f v) ]

-- ---- a transaction begins, or stands at the opening

abbrev pub at_first : TransactionValue
at_first = record {
  label = None;
  owner = None;
  begun_at = 0;
  cell = cells.Open;
  cause = None;
  asked = None;
  decided = None;
  requests = [];
  sent = [];
  peers = [];
  noted = [];
  parts = [];
  starts = [];
  refusals = [];
  crossed = [];
  learnt = [];
}

abbrev pub begun : List ℕ → ClientNo → ℕ → TransactionValue
begun label owner ticks = record at_first { label = Some label; owner = Some owner; begun_at = ticks }

abbrev pub opened_as : Cell → Option Cause → TransactionValue
opened_as cell cause = record at_first { cell = cell; cause = cause }

-- ---- what a member did

abbrev pub no_part : Part
no_part = record {
  served = 0;
  voted = 0;
  covered = 0;
  read_only = false;
  due = false;
  aborted = false;
  pending = 0;
  found = 0;
  step = 0;
  unmade = 0;
  made = 0;
  yielded = 0;
}

abbrev pub life : Member → ℕ → Life
life member inc = record { member = member; inc = inc }

abbrev pub part_of : TransactionValue → Member → ℕ → Part
part_of tx member inc = unwrap_or (lookup (is_at (life_cmp (life member inc))) tx.parts) no_part

abbrev pub with_part : TransactionValue → Member → ℕ → Part → TransactionValue
with_part tx member inc part = record tx { parts = insert_entry life_cmp tx.parts (life member inc) part }

abbrev pub is_crossed : TransactionValue → Member → Bool
is_crossed tx member = is_some (lookup (is_at (member_cmp member)) tx.crossed)

abbrev pub has_learnt : TransactionValue → Member → Bool
has_learnt tx member = list_any (same_member member) tx.learnt

-- ---- requests

abbrev pub no_sent : ℕ → Sent
no_sent inc = record { inc = inc; count = 0; counted = 0; lost = false; by_files = false }

-- what a node sent to a peer
abbrev pub sent_on : TransactionValue → Link → Option Sent
sent_on tx link = lookup (is_at (link_cmp link)) tx.sent

-- how many requests it sent in this incarnation of its
abbrev pub sent_in : ℕ → Option Sent → ℕ
sent_in inc None = 0
sent_in inc (Some sent) = if sent.inc == inc then sent.count else 0

abbrev pub next_number : TransactionValue → Link → ℕ → ℕ
next_number tx link inc = sent_in inc (sent_on tx link) + 1

-- the requests of that number on that link, in the order of their issues
abbrev pub requests_in : List (RequestNo × List Request) → RequestNo → List Request
requests_in requests at = unwrap_or (lookup (is_at (request_cmp at)) requests) []

abbrev pub requests_at : TransactionValue → RequestNo → List Request
requests_at tx at = requests_in tx.requests at

-- a request to that member that was not served
abbrev pub is_standing : Member → Request → Bool
is_standing member request = same_member request.member member && not request.served

-- the earliest request of that number to that member that was not served
abbrev pub standing_request : TransactionValue → RequestNo → Member → Option Request
standing_request tx at member = find (is_standing member) (requests_at tx at)

abbrev pub is_by_files : Request → Bool
is_by_files request = request.issuer.server.0 == files_no

abbrev pub is_by_client : Request → Bool
is_by_client request = is_client_no request.issuer.server.0

-- one more request was sent in this incarnation; after a restart what was not counted stays so
abbrev pub sent_more : Request → Option Sent → Sent
sent_more request None = record (no_sent request.inc) { count = 1; by_files = is_by_files request }
sent_more request (Some sent) =
    if sent.inc == request.inc
    then record sent { count = sent.count + 1; by_files = sent.by_files || is_by_files request }
    else record {
      inc = request.inc;
      count = 1;
      counted = 0;
      lost = sent.lost || nat_lt sent.counted sent.count;
      by_files = sent.by_files || is_by_files request;
    }

abbrev pub no_peer : Peer
no_peer = record { waiting = 0; reached = 0 }

abbrev pub peer_of : TransactionValue → NodeNo → Peer
peer_of tx node = unwrap_or (lookup (is_at (node_cmp node)) tx.peers) no_peer

-- a request went to the node, which is in this incarnation
abbrev pub reached_by : Request → ℕ → Peer → Peer
reached_by request inc peer = record {
  waiting = if is_by_client request then peer.waiting + 1 else peer.waiting;
  reached = inc;
}

-- from this place in the history on, or from an earlier one
abbrev pub crossed_from : ℕ → Member → List (Member × ℕ) → List (Member × ℕ)
crossed_from place member crossed = elim (lookup (is_at (member_cmp member)) crossed) [
  | Some earlier ↦ crossed
  | None ↦ insert_entry member_cmp crossed member place
]

-- a request to a member that has an earlier one of that number standing crosses the transaction there, for good
abbrev pub crossed_by : Option Request → ℕ → Member → List (Member × ℕ) → List (Member × ℕ)
crossed_by None place member crossed = crossed
crossed_by (Some earlier) place member crossed = crossed_from place member crossed

-- a request stands under its number, with that sent on its link and that open towards its member's node
abbrev pub with_request : RequestNo → Request → Sent → Peer → ℕ → TransactionValue → TransactionValue
with_request at request sent peer place tx = record tx {
  requests = insert_entry request_cmp tx.requests at (requests_at tx at ++ request ∷ []);
  sent = insert_entry link_cmp tx.sent at.link sent;
  peers = insert_entry node_cmp tx.peers at.link.to peer;
  crossed = crossed_by (standing_request tx at request.member) place request.member tx.crossed;
}

-- a request is issued on a link under a number, at this place in the history; the member's node is in incarnation
-- `peer_inc`
abbrev pub issued : RequestNo → Request → ℕ → ℕ → TransactionValue → TransactionValue
issued at request peer_inc place tx =
    with_request at request
    (sent_more request (sent_on tx at.link))
    (reached_by request peer_inc (peer_of tx at.link.to))
    place tx

-- the earliest standing request to that member is served
abbrev pub mark_served : Member → List Request → List Request
mark_served member [] = []
mark_served member (request ∷ requests) =
    if is_standing member request then record request { served = true } ∷ requests
    else request ∷ mark_served member requests

-- a request of files for a note, once it is served
abbrev pub note_of : Request → Option Noted
note_of request = if is_by_files request then noted_op request.op else None
  where
    noted_op : Op → Option Noted
    noted_op (Note text) = Some (record { node = request.issuer.node; inc = request.inc; text = text })
    noted_op _ = None

abbrev pub with_note : Option Noted → List Noted → List Noted
with_note None noted = noted
with_note (Some note) noted = insert_key noted_cmp noted note

abbrev pub with_note_of : Option Request → List Noted → List Noted
with_note_of None noted = noted
with_note_of (Some request) noted = with_note (note_of request) noted

-- files of that node issued that note in that incarnation, and it was served
abbrev pub has_note : TransactionValue → Noted → Bool
has_note tx note = list_any (is_at (noted_cmp note)) tx.noted

-- a server did one more request; with `done` one more change is pending
abbrev pub served_part : ℕ → Bool → Part → Part
served_part stamp done part = record part {
  served = part.served + 1;
  due = true;
  pending = if done then part.pending + 1 else part.pending;
  step = stamp;
}

-- a client was asked to take a loan, in the step of this stamp
abbrev pub lent_part : ℕ → Part → Part
lent_part stamp part = record part {
  served = part.served + 1;
  due = true;
  step = stamp;
  unmade = if part.step == stamp then part.unmade + 1 else 1;
}

abbrev pub serving_part : Class → ℕ → Bool → Part → Part
serving_part Activity stamp done part = lent_part stamp part
serving_part _ stamp done part = served_part stamp done part

-- the member serves, in this incarnation and step, the earliest standing request of that number
abbrev pub served_in : RequestNo → Member → ℕ → ℕ → Bool → TransactionValue → TransactionValue
served_in at member inc stamp done tx = record tx {
  requests = changed_value (is_at (request_cmp at)) (mark_served member) tx.requests;
  noted = with_note_of (standing_request tx at member) tx.noted;
  parts = insert_entry life_cmp tx.parts (life member inc)
      (serving_part (class_of member.server.0) stamp done (part_of tx member inc));
}

abbrev pub is_served : Request → Bool
is_served request = request.served

-- every request was served
abbrev pub all_served : TransactionValue → Bool
all_served tx = list_all (λ (entry : RequestNo × List Request). list_all is_served entry.1) tx.requests

-- ---- what is open towards a node

-- on a link: a request above the count, or one that files issued
abbrev pub is_open_link : NodeNo → Link × Sent → Bool
is_open_link node entry =
    (entry.0.to.0 == node.0) && (entry.1.lost || (entry.1.by_files || nat_lt entry.1.counted entry.1.count))

-- or a client's, that had no answer since
abbrev pub is_open_to : TransactionValue → NodeNo → Bool
is_open_to tx node = nat_lt 0 (peer_of tx node).waiting || list_any (is_open_link node) tx.sent

-- the last incarnation of the node in which a request to it was open; it is in incarnation `inc` now
abbrev pub reached : TransactionValue → NodeNo → ℕ → ℕ
reached tx node inc = if is_open_to tx node then inc else (peer_of tx node).reached

-- a request to the node was open when it restarted from that incarnation, or later
abbrev pub is_gone : TransactionValue → NodeNo → ℕ → ℕ → Bool
is_gone tx node inc gone = nat_lt gone (reached tx node inc)

abbrev pub with_counted : ℕ → ℕ → Sent → Sent
with_counted inc up_to sent =
    if (sent.inc == inc) && nat_lt sent.counted up_to then record sent { counted = up_to } else sent

abbrev pub with_reached : ℕ → Peer → Peer
with_reached inc peer = record peer { reached = inc }

-- a node counts the peer's answer up to that number, in its incarnation `inc`; the peer is in `peer_inc`
abbrev pub counted : Link → ℕ → ℕ → ℕ → TransactionValue → TransactionValue
counted link inc up_to peer_inc tx = record tx {
  sent = changed_value (is_at (link_cmp link)) (with_counted inc up_to) tx.sent;
  peers = changed_value (is_at (node_cmp link.to)) (with_reached (reached tx link.to peer_inc)) tx.peers;
}

abbrev pub heard_by : ℕ → Peer → Peer
heard_by inc peer = record { waiting = peer.waiting - 1; reached = inc }

-- a client that sent a request to the node, which is in incarnation `inc`, got an answer
abbrev pub heard : NodeNo → ℕ → TransactionValue → TransactionValue
heard node inc tx = record tx {
  peers = changed_value (is_at (node_cmp node)) (heard_by inc) tx.peers;
}

-- ---- votes

-- so many covers are what the member served since this read-only vote of its
abbrev pub is_start : Member → ℕ → ℕ → ℕ → Start → Bool
is_start member inc served covers start =
    same_member start.life.member member && ((start.life.inc == inc) && (start.served + covers == served))

-- the number from which the covers of a member's vote may count: what a restart found, or a read-only vote of its
abbrev pub is_covering : TransactionValue → Member → ℕ → ℕ → Bool
is_covering tx member inc covers =
    (covers == (part_of tx member inc).served + (part_of tx member inc).found)
    || list_any (is_start member inc (part_of tx member inc).served covers) tx.starts

-- a vote stands for every request that was served before it
abbrev pub voted_part : Vote → Part → Part
voted_part (votes.Abort reason) part = record part { voted = part.served; read_only = false }
voted_part votes.ReadOnly part =
    record part { voted = part.served; covered = part.served; read_only = true; pending = 0 }
voted_part votes.Volatile part = record part { voted = part.served; covered = part.served; read_only = false }
voted_part votes.Recoverable part = record part { voted = part.served; covered = part.served; read_only = false }

-- after a read-only vote a count may begin anew
abbrev pub starts_after : Vote → Life → ℕ → List Start → List Start
starts_after votes.ReadOnly at served starts = insert_key start_cmp starts (record { life = at; served = served })
starts_after _ at served starts = starts

-- a vote against commit is kept for good
abbrev pub refusals_after : Vote → Member → List Refusal → List Refusal
refusals_after (votes.Abort reason) member refusals = refusals ++ record { member = member; reason = reason } ∷ []
refusals_after _ member refusals = refusals

abbrev pub voted : Member → ℕ → Vote → TransactionValue → TransactionValue
voted member inc vote tx = record tx {
  parts = changed_value (is_at (life_cmp (life member inc))) (voted_part vote) tx.parts;
  starts = starts_after vote (life member inc) (part_of tx member inc).served tx.starts;
  refusals = refusals_after vote member tx.refusals;
}

-- that member made a vote against commit with that reason
abbrev pub is_refusal : Member → Reason → Refusal → Bool
is_refusal member reason refusal = same_member refusal.member member && same_reason refusal.reason reason

abbrev pub has_refusal : TransactionValue → Member → Reason → Bool
has_refusal tx member reason = list_any (is_refusal member reason) tx.refusals

-- ---- loans

abbrev pub borrower : ClientNo → NodeNo → Member
borrower client node = record { node = node; server = record { 0 = client_no client.0 } }

-- a loan to the client was made at the node in this incarnation, and is not yielded
abbrev pub has_loan : TransactionValue → Member → ℕ → Bool
has_loan tx client inc = nat_lt (part_of tx client inc).yielded (part_of tx client inc).made

-- the client was asked to take a loan in the step of this stamp, and that loan is not made
abbrev pub is_loan_due : TransactionValue → Member → ℕ → ℕ → Bool
is_loan_due tx client inc stamp =
    ((part_of tx client inc).step == stamp) && nat_lt 0 (part_of tx client inc).unmade

-- one of the loans that it was asked to take is made
abbrev pub made_part : Part → Part
made_part part = record part { made = part.made + 1; unmade = part.unmade - 1 }

abbrev pub lent : Member → ℕ → TransactionValue → TransactionValue
lent client inc tx = record tx {
  parts = changed_value (is_at (life_cmp (life client inc))) made_part tx.parts;
}

abbrev pub yielded_part : Part → Part
yielded_part part = record part { yielded = part.yielded + 1 }

-- the earliest of its loans that stand is given back
abbrev pub given_back : Member → ℕ → TransactionValue → TransactionValue
given_back client inc tx = record tx {
  parts = changed_value (is_at (life_cmp (life client inc))) yielded_part tx.parts;
}

-- ---- the decision

-- what a member did agrees to commit: a two-phase member voted for all it served; a client took and gave back each loan
abbrev pub agrees_in : Class → Part → Bool
agrees_in Recoverable part = part.covered == part.served
agrees_in Volatile part = part.covered == part.served
agrees_in Activity part = (part.made == part.served) && (part.yielded == part.made)
agrees_in _ part = true

abbrev pub agrees : Life × Part → Bool
agrees entry = agrees_in (class_of entry.0.member.server.0) entry.1

abbrev pub is_empty : {A : Type 0} → List A → Bool
is_empty [] = true
is_empty (x ∷ xs) = false

-- asked, every request served, every member agrees in every incarnation, no vote against it ever, at member crossed
abbrev pub is_unanimous : TransactionValue → Bool
is_unanimous tx =
    (is_some tx.asked && all_served tx) && (list_all agrees tx.parts && (is_empty tx.refusals && is_empty tx.crossed))

abbrev pub asked_at : ℕ → TransactionValue → TransactionValue
asked_at place tx = record tx { asked = Some place }

abbrev pub decided_at : ℕ → Outcome → Option Cause → TransactionValue → TransactionValue
decided_at place outcome cause tx = record tx { cell = cell_of outcome; cause = cause; decided = Some place }

-- it came to pass at an earlier place in the history
abbrev pub is_before : ℕ → Option ℕ → Bool
is_before place None = false
is_before place (Some at) = nat_lt at place

-- it was crossed at the member before that place
abbrev pub was_crossed : ℕ → TransactionValue → Member → Bool
was_crossed place tx member = is_before place (lookup (is_at (member_cmp member)) tx.crossed)

-- commit was decided before that place, or stood at the opening
abbrev pub was_committed : ℕ → TransactionValue → Bool
was_committed place tx = is_commit tx.cell && (not (is_some tx.decided) || is_before place tx.decided)

-- commit was asked for before that place in the history, and not decided before it
abbrev pub was_in_commit : ℕ → TransactionValue → Bool
was_in_commit place tx = is_before place tx.asked && not (was_committed place tx)

-- ---- the end

abbrev pub learnt_part : Outcome → Part → Part
learnt_part outcomes.Commit part = record part { due = false; pending = 0 }
learnt_part outcomes.Abort part = record part { due = false; pending = 0; aborted = true }

-- the member learnt commit, for good
abbrev pub with_learnt : Member → TransactionValue → TransactionValue
with_learnt member tx = record tx { learnt = insert_key member_cmp tx.learnt member }

abbrev pub learnt_by : Outcome → Member → TransactionValue → TransactionValue
learnt_by outcomes.Commit member tx = with_learnt member tx
learnt_by outcomes.Abort member tx = tx

abbrev pub learnt : Member → ℕ → Outcome → TransactionValue → TransactionValue
learnt member inc outcome tx =
    learnt_by outcome member
    (record tx { parts = changed_value (is_at (life_cmp (life member inc))) (learnt_part outcome) tx.parts })

abbrev pub ended_part : Part → Part
ended_part part = record part { due = false; pending = 0 }

-- an immediate member was told that the transaction ends
abbrev pub ended : Member → ℕ → TransactionValue → TransactionValue
ended member inc tx = record tx {
  parts = changed_value (is_at (life_cmp (life member inc))) ended_part tx.parts;
}

-- a restart into this incarnation found the member's vote with these covers, and so many changes
abbrev pub found_part : ℕ → ℕ → Part
found_part covers changes = record no_part { due = true; pending = changes; found = covers }

abbrev pub found_at : Member → ℕ → ℕ → ℕ → TransactionValue → TransactionValue
found_at member inc covers changes tx = with_part tx member inc (found_part covers changes)

-- its last vote is read-only, and nothing was served since: it is told nothing
abbrev pub is_let_go : Part → Bool
is_let_go part = part.read_only && (part.voted == part.served)

-- it has an outcome to learn
abbrev pub may_learn_still : Part → Bool
may_learn_still part = part.due && not (is_let_go part)

-- a member at that node learnt abort in this incarnation
abbrev pub learnt_abort : TransactionValue → NodeNo → ℕ → Bool
learnt_abort tx node inc =
    list_any (λ server. (part_of tx (record { node = node; server = record { 0 = server } }) inc).aborted)
    (files_no ∷ audit_no ∷ names_no ∷ windows_no ∷ scratch_no ∷ extra_no ∷ [])
