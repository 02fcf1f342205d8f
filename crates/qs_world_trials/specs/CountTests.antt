-- What the only node of a run has served, and what waits there, as a test: it has numbers that were given, of what began in this incarnation, or nothing of it waits or is lent.
use Rattle.std.specs.Prelude.{ℕ, ◌+◌, ◌==◌, Bool, true, not, ◌&&◌, ◌||◌, List, [], ◌∷◌, ◌++◌, map, is_none, nat_le}
use Rattle.std.specs.List.{flat_map, list_all, list_any}
use Rattle.std.specs.Ordering.{is_lt}
use Rattle.qs_base.specs.Order.{tid_cmp}
use Rattle.qs_base.specs.declared.identifiers.ServerNo.{ServerNo}
use Rattle.qs_base.specs.declared.identifiers.Tid.{Tid}
use Rattle.qs_engage.specs.Engage.{last_number}
use Rattle.qs_ipc.specs.Queue.{QueueValue}
use Rattle.qs_ipc.specs.declared.delivery.Delivery.{Delivery}
use Rattle.qs_node_kept.specs.Loans.{is_standing_loan}
use Rattle.qs_node_kept.specs.declared.kept.Lent.{Lent}
use Rattle.qs_book_machine.specs.Book.{BookValue}
use Rattle.qs_book_machine.specs.Transaction.{TransactionValue}
use Rattle.qs_tm.specs.Manager as tm
use Rattle.qs_tm.specs.declared.participant.Participant.{Participant}
use Rattle.qs_world.specs.Driven.{up_to}
use Rattle.qs_world.specs.World.{Opening, World}
use Rattle.qs_world_runs.specs.Counted.{Tally, given_in, served_in, tally_of, waits_in}

-- each is known once
abbrev pub rises : {X : Type 0} → List (Tid × X) → Bool
rises [] = true
rises (e ∷ []) = true
rises (e ∷ f ∷ es) = is_lt (tid_cmp e.0 f.0) && rises (f ∷ es)

-- servers of the node, and clients
abbrev pub servers : List ℕ
servers = up_to 7 ++ (32 ∷ 33 ∷ 34 ∷ [])

abbrev is_tallied : Tally → Tid → Bool
is_tallied t tid = (tid.inc == t.inc) && list_all (λ (s : ℕ). nat_le (served_in (tm.part_of tid t.manager) s + waits_in tid t.queues s) (given_in tid t.locals)) servers

abbrev is_bare : Tally → Tid → Bool
is_bare t tid = list_all (λ (s : ℕ). waits_in tid t.queues s == 0) servers && (not (list_any (is_standing_loan tid t.inc) t.loans) && (given_in tid t.locals == 0))

abbrev is_given : Tally → Tid → Bool
is_given t tid = nat_le (given_in tid t.locals) last_number

abbrev part_ok : Tally → Tid × Participant → Bool
part_ok t entry =
    (not entry.1.asked || entry.1.engage.home) && (not (entry.1.engage.home && is_none entry.1.outcome) || is_tallied t entry.0)

abbrev waiting_tids : ServerNo × QueueValue → List Tid
waiting_tids queue = map (λ (d : Delivery). d.tid) queue.1.waiting

-- whatever the node or the machine has something of
abbrev tids_in : BookValue → Tally → List Tid
tids_in book t =
    map (λ (e : Tid × TransactionValue). e.0) book.transactions ++ (map (λ (e : Tid × Participant). e.0) t.manager.known
    ++ (map (λ (e : Tid × ℕ). e.0) t.locals ++ (map (λ (loan : Lent). loan.tid) t.loans ++ flat_map waiting_tids t.queues)))

abbrev are_tallied : List Tid → Tally → Bool
are_tallied tids t =
    ((t.manager.inc == t.inc) && (rises t.manager.known && list_all (part_ok t) t.manager.known)) && list_all (λ (tid : Tid). is_given t tid && (is_tallied t tid || is_bare t tid)) tids

abbrev is_counted_at : BookValue → Tally → Bool
is_counted_at book t = are_tallied (tids_in book t) t

abbrev pub is_counted : Opening → BookValue → World → Bool
is_counted o book world = not (world.size == 1) || (not (world.channels.up 0) || is_counted_at book (tally_of (world.hosts 0).node))
