-- What goes along a run of votes and replies, as tests: what is on record is known, last votes cover what logs say in doubt, and each reply is of a request that stands no more.
use Rattle.std.specs.Prelude.{ℕ, suc, ◌==◌, Bool, true, false, not, ◌&&◌, ◌||◌, ◌++◌, None, Some, is_none, slice_get, nat_le}
use Rattle.std.specs.List.{list_all}
use Rattle.qs_base.specs.declared.identifiers.Member.{Member}
use Rattle.qs_base.specs.declared.identifiers.ServerNo.{ServerNo}
use Rattle.qs_base.specs.declared.identifiers.Tid.{Tid}
use Rattle.qs_ipc.specs.Queue.{QueueValue}
use Rattle.qs_ipc.specs.declared.delivery.Delivery.{Delivery}
use Rattle.qs_book_machine.specs.Book.{BookValue, find_transaction, inc_at}
use Rattle.qs_book_machine.specs.Restart.{is_among, is_found}
use Rattle.qs_book_machine.specs.Transaction.{TransactionValue, is_crossed, sent_in, sent_on, standing_request}
use Rattle.qs_book_machine.specs.declared.state.OnRecord.{OnRecord}
use Rattle.qs_book_machine.specs.declared.state.Voter.{Voter}
use Rattle.qs_packet.specs.declared.message.Message.{Message}
use Rattle.qs_packet.specs.declared.message.Message.TheVariants as messages
use Rattle.qs_restart.specs.Recovery.{Prepared, Recovery, is_in_doubt, recovery}
use Rattle.qs_tm.specs.Manager as tm
use Rattle.qs_tm.specs.Outcomes.{is_abort}
use Rattle.qs_tm.specs.Participant.{member_of}
use Rattle.qs_tm.specs.declared.manager.Manager.{Manager}
use Rattle.qs_tm.specs.declared.members.MemberPart.{MemberPart}
use Rattle.qs_world.specs.Driven.{up_to}
use Rattle.qs_world.specs.Moves.{node_no}
use Rattle.qs_world.specs.World.{Host, Opening, Parcel, World}
use Rattle.qs_world_lawful.specs.Logs.{found_votes}
use Rattle.qs_world_lawful.specs.Parcels.{way_between}

-- ---- what holds of each node that runs

abbrev pub each_running : (ℕ → Bool) → World → Bool
each_running test world = list_all (λ (n : ℕ). not (world.channels.up n) || test n) (up_to world.size)

abbrev pub said_by : Host → Recovery
said_by host = recovery (host.log ++ host.waiting)

-- ---- records

abbrev keeps_abort : Manager → Tid → Bool
keeps_abort manager tid = tm.told_of tid false (λ part. is_abort part.outcome) manager

abbrev is_in_log : Recovery → Voter → Bool
is_in_log log at = is_among log.committed at.tid || is_found (found_votes log) at

abbrev is_known_record : Manager → Recovery → Voter × OnRecord → Bool
is_known_record manager log entry = keeps_abort manager entry.0.tid || is_in_log log entry.0

abbrev is_known_at : BookValue → Host → ℕ → Bool
is_known_at book host n = elim (slice_get book.nodes n) [ None ↦ true | Some state ↦ list_all (is_known_record host.node.manager (said_by host)) state.records ]

abbrev pub is_recorded : Opening → BookValue → World → Bool
is_recorded o book world = each_running (λ (n : ℕ). is_known_at book (world.hosts n) n) world

-- ---- covers

abbrev has_cast : ℕ → MemberPart → Bool
has_cast covers m = elim m.vote [ None ↦ false | Some cast ↦ nat_le covers cast.covers && nat_le cast.covers m.served ]

abbrev is_covered_vote : Manager → Prepared → Bool
is_covered_vote manager vote = not (is_in_doubt vote) || tm.told_of vote.tid true (λ part. has_cast vote.covers (member_of part vote.server)) manager

abbrev pub is_covered : Opening → BookValue → World → Bool
is_covered o book world = each_running (λ (n : ℕ). list_all (is_covered_vote (world.hosts n).node.manager) (said_by (world.hosts n)).prepared) world

-- ---- replies

abbrev stands_so : BookValue → Tid → (TransactionValue → Bool) → Bool
stands_so book tid test = elim (find_transaction book tid) [ None ↦ false | Some tx ↦ test tx ]

abbrev is_of_last : BookValue → ℕ → ℕ → Tid → (TransactionValue → Bool) → Bool
is_of_last book n i tid test = nat_le i (inc_at book (node_no n)) && (not (inc_at book (node_no n) == i) || stands_so book tid test)

abbrev has_given : ℕ → ℕ → ℕ → ℕ → TransactionValue → Bool
has_given n i m number tx = nat_le number (sent_in i (sent_on tx (way_between n m number).link))

abbrev is_served : ℕ → ℕ → Member → ℕ → TransactionValue → Bool
is_served n i member number tx =
    (is_crossed tx member || is_none (standing_request tx (way_between n member.node.0 number) member)) && has_given n i member.node.0 number tx

abbrev is_told : BookValue → ℕ → ℕ → ℕ → ℕ → Message → Bool
is_told book n m i j (messages.Request tid label member number issuer op) = is_of_last book n i tid (has_given n i m number)
is_told book n m i j (messages.Answered tid member number reply) = is_of_last book m j tid (is_served m j member number)
is_told book n m i j message = true

abbrev is_kept_back : BookValue → ℕ → ℕ → ℕ → Message → Bool
is_kept_back book n m i (messages.Request tid label member number issuer op) = is_of_last book n i tid (has_given n i m number)
is_kept_back book n m i (messages.Answered tid member number reply) = false
is_kept_back book n m i message = true

abbrev is_posted_so : BookValue → World → ℕ → ℕ → ℕ → ℕ → Bool
is_posted_so book world n m i j = list_all (λ (parcel : Parcel). is_told book n m i j parcel.message) (world.channels.posted n m i j)

-- of all incarnations so far
abbrev is_way_so : BookValue → World → ℕ → ℕ → Bool
is_way_so book world n m =
    list_all (λ (i : ℕ). list_all (is_posted_so book world n m i) (up_to (suc (world.channels.inc m)))) (up_to (suc (world.channels.inc n)))
    && list_all (λ (parcel : Parcel). is_kept_back book n m (world.channels.inc n) parcel.message) (world.channels.waits n m)

abbrev is_of_known : BookValue → (ℕ → ℕ) → ℕ → Delivery → Bool
is_of_known book knows m delivery = nat_le 1 (knows delivery.from.0)
    && is_of_last book delivery.from.0 (knows delivery.from.0) delivery.tid (has_given delivery.from.0 (knows delivery.from.0) m delivery.number)

abbrev is_fresh : BookValue → (ℕ → ℕ) → ℕ → Delivery → Bool
is_fresh book knows m delivery = delivery.stale || ((delivery.from.0 == m) || is_of_known book knows m delivery)

abbrev is_queue_so : BookValue → (ℕ → ℕ) → ℕ → ServerNo × QueueValue → Bool
is_queue_so book knows m queue = list_all (is_fresh book knows m) queue.1.waiting

abbrev pub is_replied : Opening → BookValue → World → Bool
is_replied o book world =
    list_all (λ (n : ℕ). list_all (is_way_so book world n) (up_to world.size)) (up_to world.size)
    && list_all (λ (m : ℕ). list_all (is_queue_so book (world.channels.peer m) m) (world.hosts m).node.queues) (up_to world.size)
