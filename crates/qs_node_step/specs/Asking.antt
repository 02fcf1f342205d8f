-- Asking for votes, and what is answered to it: requests that are covered, and refusals.
use Rattle.std.specs.Prelude.{ℕ, not, ◌&&◌, List, Some, None, if◌then◌else◌}
use Rattle.qs_base.specs.declared.identifiers.NodeNo.{NodeNo}
use Rattle.qs_base.specs.declared.identifiers.Tid.{Tid}
use Rattle.qs_engage.specs.Engage.{uncovered, is_node}
use Rattle.qs_engage.specs.Nodes.{listed, same_node}
use Rattle.qs_ops.specs.declared.answer.Cause.{Cause}
use Rattle.qs_book_journal.specs.declared.entry.Act.TheVariants as acts
use Rattle.qs_packet.specs.declared.message.Message.TheVariants as messages
use Rattle.qs_tm.specs.Manager as tm
use Rattle.qs_tm.specs.Participant.{is_undecided}
use Rattle.qs_tm.specs.declared.participant.Participant.{Participant}
use Rattle.qs_node_step.specs.State.{Work, here, part_of, with_manager}
use Rattle.qs_node_step.specs.Bringing.{enter, send, send_each}

-- a rule for a transaction that is known here and whose outcome is not
abbrev pub where_undecided : Tid → (Participant → Work → Work) → Work → Work
where_undecided tid rule work = elim (part_of tid work) [
  | None ↦ work
  | Some part ↦ if is_undecided part then rule part work else work
]

-- ---- asking

-- the node is asked, and asks each peer that has not answered for all that it was sent
-- Event: Ask.
abbrev pub become_asked : Tid → Participant → Work → Work
become_asked tid part work = send_each (listed (uncovered part.engage)) (messages.AskVote tid) (with_manager (tm.ask tid) work)

abbrev pub asked_by : NodeNo → Tid → Participant → Work → Work
asked_by peer tid part work =
    if is_node peer part.engage.superior && (not part.engage.home && not part.asked) then become_asked tid part work else work

-- an AskVote counts from the superior alone
-- Event: Ask, or none.
abbrev pub ask_came : NodeNo → Tid → Work → Work
ask_came peer tid work = where_undecided tid (asked_by peer tid) work

-- ---- counting

abbrev pub count : NodeNo → Tid → ℕ → List NodeNo → Work → Work
count peer tid up_to told work = enter (acts.Counted tid peer up_to) (with_manager (tm.counted tid peer up_to told) work)

-- the peer answers for the requests up to this number, and these are to be told: a Covered, or a VotedYes
-- Event: Count; Ignore where the transaction is unknown; either where its outcome is known.
abbrev pub closer_came : NodeNo → Tid → ℕ → List NodeNo → Work → Work
closer_came peer tid up_to told work = where_undecided tid (λ part. count peer tid up_to told) work

-- ---- refusals

-- it can't be committed any more, and the cause is to be sent on
abbrev pub block : Tid → Cause → Work → Work
block tid cause work = with_manager (λ manager. tm.add_cause tid cause (tm.refused tid manager)) work

-- of a transaction that it does not know another node than the home passes it on
abbrev pub pass_unknown : Tid → Cause → Work → Work
pass_unknown tid cause work = if same_node tid.home (here work) then work else send tid.home (messages.VotedAbort tid cause) work

-- a VotedAbort comes
-- Event: Refuse, or none.
abbrev pub refusal_came : Tid → Cause → Work → Work
refusal_came tid cause work = elim (part_of tid work) [
  | None ↦ pass_unknown tid cause work
  | Some part ↦ if is_undecided part then block tid cause work else work
]
