-- What stands at each stage of a step, tried within the steps of whole runs: as the event came, after each rule of settling, and after each
-- command that stayed open.
use Rattle.std.specs.Prelude.{◌≡◌, ℕ, ◌==◌, Bool, true, false, not, ◌&&◌, ◌||◌, List, [], ◌∷◌, ◌++◌, Option, Some, None, drop, fold, suc, take}
use Rattle.std.specs.Global.{Global}
use Rattle.std.specs.List.{list_all}
use Rattle.qs_base.specs.declared.identifiers.ClientNo.{ClientNo}
use Rattle.qs_base.specs.declared.identifiers.NodeNo.{NodeNo}
use Rattle.qs_base.specs.declared.identifiers.Tid.{Tid}
use Rattle.qs_book_machine.specs.Book.{BookValue}
use Rattle.qs_book_machine.specs.Clauses.{note_text}
use Rattle.qs_book_machine.specs.Lawful.{book_after}
use Rattle.qs_book_machine.specs.Transaction.{TransactionValue, has_note, is_covering, may_learn_still, part_of, sent_in, sent_on}
use Rattle.qs_ops.specs.Members.{class_of, is_two_phase}
use Rattle.qs_node_step.specs.Settling.{due_tids, pass_rule, ready_rule, refuse_rule, settle, settle_tid, try}
use Rattle.qs_node_step.specs.State.{NodeValue, Work}
use Rattle.qs_node_step.specs.Step.{wait_on, waiting_clients}
use Rattle.qs_node_step.specs.declared.event.Event.{Event}
use Rattle.qs_tm.specs.Manager as tm
use Rattle.qs_tm.specs.Members as rules
use Rattle.qs_tm.specs.Participant.{is_forgotten}
use Rattle.qs_world.specs.Driven.{Stage, Know, Take, make, next_stamp, rounds_of, up_to}
use Rattle.qs_world.specs.Faults.{both, places_from}
use Rattle.qs_world.specs.Histories.{book_of}
use Rattle.qs_world.specs.Moves.{Source, event_of}
use Rattle.qs_world.specs.World.{Opening, World, start}
use Rattle.qs_world_walk.specs.Walked.{done_work}
use Rattle.qs_world_lawful.specs.Entering.{book_at}
use Rattle.qs_world_lawful.specs.Face.{at_server}
use Rattle.qs_world_lawful.specs.GivenStep.{first_work}
use Rattle.qs_world_lawful.specs.GivenTests.{holds_beside_test, node_test}
use Rattle.qs_world_lawful.specs.Tests.{holds_test}
use Rattle.qs_world_lawful.specs.Tried.{rich}
use Rattle.qs_world_lawful.specs.TriedGiven.{timed}

-- ---- what only read

abbrev server_read : NodeNo → ℕ → TransactionValue → ℕ → Bool
server_read here inc tx server =
    (not (is_two_phase (class_of server)) || is_covering tx (at_server here (record { 0 = server })) inc 0)
    && (not (may_learn_still (part_of tx (at_server here (record { 0 = server })) inc)) && (not (rules.is_immediate (class_of server)) || not (part_of tx (at_server here (record { 0 = server })) inc).due))

abbrev nothing_sent : NodeNo → ℕ → TransactionValue → ℕ → Bool
nothing_sent here inc tx peer = (peer == here.0) || (sent_in inc (sent_on tx (record { from = here; to = record { 0 = peer } })) == 0)

abbrev only_read_test : NodeNo → ℕ → Tid → TransactionValue → Bool
only_read_test here inc tid tx =
    list_all (server_read here inc tx) (up_to 7)
    && (list_all (nothing_sent here inc tx) (up_to 4) && list_all (λ (count : ℕ). not (has_note tx (record { node = here; inc = inc; text = note_text tid here.0 (suc count) }))) (up_to 4))

abbrev read_test : NodeValue → Tid × TransactionValue → Bool
read_test node entry = not (tm.told_of entry.0 false is_forgotten node.manager) || only_read_test node.setting.node node.setting.inc entry.0 entry.1

-- ---- the stages of a step

abbrev settle_states : Work → Tid → List Work
settle_states work tid =
    try tid pass_rule work ∷ try tid ready_rule (try tid pass_rule work) ∷ try tid refuse_rule (try tid ready_rule (try tid pass_rule work)) ∷ settle_tid work tid ∷ []

abbrev settling : List Tid → Work → List Work
settling [] work = []
settling (tid ∷ tids) work = settle_states work tid ++ settling tids (settle_tid work tid)

abbrev answering : List ClientNo → Work → List Work
answering [] work = []
answering (client ∷ clients) work = wait_on work client ∷ answering clients (wait_on work client)

abbrev stages_of : NodeValue → Event → ℕ → List Work
stages_of node event free =
    first_work node free ∷ done_work node event free
    ∷ (settling (due_tids (done_work node event free)) (done_work node event free) ++ answering (waiting_clients (settle (done_work node event free))) (settle (done_work node event free)))

abbrev stage_test : ℕ → BookValue → Work → Bool
stage_test stamp before work =
    (holds_test (book_at stamp before work) work.node && node_test work.node)
    && (holds_beside_test (book_at stamp before work) work.node && list_all (read_test work.node) (book_at stamp before work).transactions)

abbrev event_test : ℕ → BookValue → NodeValue → Option Event → Bool
event_test stamp before node None = true
event_test stamp before node (Some event) = list_all (stage_test stamp before) (stages_of node event 1048576)

abbrev source_test : Opening → World → ℕ → Source → Bool
source_test o world n source = not (world.channels.up n) || event_test (next_stamp world) (book_after (book_of o) world.journal) (world.hosts n).node (event_of world n (next_stamp world) source)

abbrev next_test : Opening → World → List Stage → Bool
next_test o world [] = true
next_test o world (Know n m ∷ more) = true
next_test o world (Take n source ∷ more) = source_test o world n source

abbrev pub within_ok : Opening → ℕ → ℕ → ℕ → Bool
within_ok o clients first count = list_all (λ (n : ℕ). next_test o (fold make (start o) (take n (rounds_of o.size clients 9))) (drop n (rounds_of o.size clients 9))) (places_from first count)

-- without its history a step fails
abbrev blind_test : Opening → World → ℕ → Source → Bool
blind_test o world n source = event_test (next_stamp world) (book_of o) (world.hosts n).node (event_of world n (next_stamp world) source)

abbrev blind_next : Opening → World → List Stage → Bool
blind_next o world [] = true
blind_next o world (Know n m ∷ more) = true
blind_next o world (Take n source ∷ more) = blind_test o world n source

abbrev pub blind_ok : Opening → ℕ → ℕ → ℕ → Bool
blind_ok o clients first count = list_all (λ (n : ℕ). blind_next o (fold make (start o) (take n (rounds_of o.size clients 9))) (drop n (rounds_of o.size clients 9))) (places_from first count)

pub record TriedStages (alloc : Global) : Type 0 where
  pub early : within_ok (rich alloc) 3 0 60 ≡ true
  pub later : within_ok (rich alloc) 3 60 80 ≡ true
  pub two : within_ok (both alloc) 1 0 40 ≡ true
  pub timers : within_ok (timed alloc) 1 0 40 ≡ true
  pub blind_fails : blind_ok (rich alloc) 3 100 6 ≡ false
