-- A commit that the agreement machine has decided is unanimous in the reference machine, where the transaction is so placed.
use Rattle.qs_world_runs.proofs.Words.{◌≡◌, ◌⊎◌, inl, inr, ℕ, ◌+◌, ◌-◌, ◌<◌, ◌==◌, ◌&&◌, ◌||◌, not, nat_lt, Bool, true, false, List, [], ◌∷◌, ◌++◌, length, map, Option, Some, None, zero, suc, refl, sym, ap, subst, ◌∙◌, arith, if◌then◌else◌, eqb-true, or_parts, and_parts, not-true, nat_tests, list_any, same_tid, ServerNo, Tid, BookValue, find_transaction, TransactionValue, agrees, is_outcome, Cell, Op, Message, is_passive, is_busy, is_lent, doings_of, all_agree, is_ready, needs_pass, member_of}
use Rattle.qs_world_runs.proofs.Words.{new_participant, Participant, Parcel, IsDoomed, has_request, all_said, scene_of, sight, commit_clear, commit_unmet, steady, face_of, part_or_new, HoldsAt, HoldsStill, HoldsTid, is_asking_for, pending, pending_from, message_of, field_of, asked, Placed, suc_not_zero}
use Rattle.std.specs.List.{flat_map}
use Rattle.qs_base.specs.declared.identifiers.Outcome.{Outcome}
use Rattle.qs_base.specs.declared.identifiers.Outcome.TheVariants as outcomes
use Rattle.qs_book_machine.specs.Transaction.{is_open}
use Rattle.qs_book_machine.specs.declared.transaction.Cell.TheVariants as cells
use Rattle.qs_packet.specs.declared.message.Message.TheVariants as messages
use Rattle.qs_ipc.specs.Ipc as ipc
use Rattle.qs_node_step.specs.State.{NodeValue}
use Rattle.qs_tm.specs.Manager as tm
use Rattle.qs_tm.specs.Members as rules
use Rattle.qs_tm.specs.Members.{all_servers}
use Rattle.qs_tm.specs.Participant.{is_due_at}
use Rattle.qs_tm.specs.declared.participant.Due.TheVariants as dues
use Rattle.qs_world_refine.specs.CommitLaws.{IsIdle}
use Rattle.qs_world_refine.specs.Links.{node_no}
use Rattle.qs_world_refine.proofs.CommitIdles.{commit_idle}
use Rattle.qs_world_lawful.proofs.Begins.{new_member}
use Rattle.qs_world_runs.specs.PlacedLaws.{IsFree, IsQuiet, ReadyFree, CommittedFree, CommittedWays, CommittedKeeps, CommittedUnanimous}
use Rattle.qs_world_runs.proofs.FreeLives.{free_agrees}
use Rattle.qs_world_runs.proofs.Quiets.{quiet_unanimous}

-- ---- a node that is idle is free

-- each server of a node is among them
server_in : (k : ℕ) → nat_lt k 7 ≡ true → list_any (λ (server : ServerNo). k == server.0) all_servers ≡ true
unfolding all_servers
server_in k low = grind (arith, nat_tests, low)

none_at : (p : ServerNo → Bool) (s : ServerNo) (xs : List ServerNo) → list_any p xs ≡ false → list_any (λ (server : ServerNo). s.0 == server.0) xs ≡ true → p s ≡ false
none_at p s [] none has = absurd (cc has)
none_at p s (x ∷ xs) none has = by (s.0 == x.0) refl has (none_at p s xs both.1)
  where
    both : (p x ≡ false) × (list_any p xs ≡ false)
    both = or_parts (p x) (list_any p xs) none

    server_as : ℕ → ServerNo
    server_as k = record { 0 = k }

    by : (b : Bool) → (s.0 == x.0) ≡ b → (b || list_any (λ (server : ServerNo). s.0 == server.0) xs) ≡ true → (list_any (λ (server : ServerNo). s.0 == server.0) xs ≡ true → p s ≡ false) → p s ≡ false
    by true same has more = subst (λ (k : ℕ). p (server_as k) ≡ false) (sym (eqb-true s.0 x.0 same)) both.0
    by false apart has more = more has

voted_for : (a c : Bool) → (a && not c) ≡ false → a ≡ true → c ≡ true
voted_for true true off is = refl
voted_for true false off is = absurd (cc off)
voted_for false c off is = absurd (cc is)

pub idle_free : (tid : Tid) (node : NodeValue) → IsIdle tid node → IsFree tid node
idle_free tid node idle = record { idle = idle.waits; unlent = idle.lent; covers = λ server low two. by (tm.part_of tid node.manager) refl server low two }
  where
    by : (o : Option Participant) → tm.part_of tid node.manager ≡ o → (server : ServerNo) → nat_lt server.0 7 ≡ true → rules.votes_here server ≡ true → rules.is_covering (member_of (part_or_new (tm.part_of tid node.manager)) server) ≡ true
    by None none server low two = ap (λ (o : Option Participant). rules.is_covering (member_of (part_or_new o) server)) none ∙ ap rules.is_covering (new_member false server)
    by (Some part) known server low two = ap (λ (o : Option Participant). rules.is_covering (member_of (part_or_new o) server)) known
        ∙ voted_for (rules.votes_here server) (rules.is_covering (member_of part server)) (none_at (is_due_at dues.Vote part) server all_servers (or_parts (Rattle.qs_tm.specs.Participant.has_due dues.Vote part) _ (idle.due part known)).0 (server_in server.0 low)) two

-- a node that is ready is idle
pub ready_free : ReadyFree
ready_free tid work part known may = idle_free tid work.node (record { waits = (or_parts (ipc.waits tid work.node.queues) _ busy).0; lent = (or_parts (is_lent tid work.node) _ (or_parts (ipc.waits tid work.node.queues) _ busy).1).0; due = λ other its. due other its })
  where
    parts : (is_ready (is_busy tid work.node part) part ≡ true) × ((not (needs_pass part) && not (doings_of tid work).prepared) ≡ true)
    parts = and_parts (is_ready (is_busy tid work.node part) part) _ may

    ready : (a b c d e : Bool) → ((a && b) && ((not c && d) && e)) ≡ true → c ≡ false
    ready true true false d e is = refl
    ready true true true d e is = absurd (cc is)
    ready true false c d e is = absurd (cc is)
    ready false b c d e is = absurd (cc is)

    busy : is_busy tid work.node part ≡ false
    busy = ready part.asked (not part.blocked) (is_busy tid work.node part) (is_passive part.engage) (all_agree part) parts.0

    due : (other : Participant) → tm.part_of tid work.node.manager ≡ Some other → needs_pass other ≡ false
    due other its = let one : part ≡ other = (let both : Some part ≡ Some other = sym known ∙ its in cc (both)) in subst (λ (p : Participant). needs_pass p ≡ false) one (not-true (needs_pass part) (and_parts (not (needs_pass part)) _ parts.1).0)

pub committed_free : CommittedFree
committed_free tid node q w lawful committed face sound undecided = idle_free tid node (commit_idle tid node q w lawful committed face sound undecided)

-- ---- nothing is on its way

module _ (tid : Tid) (server : ServerNo) (number : ℕ) where
  abbrev pub ask : Parcel → List Op
  ask parcel = is_asking_for tid server number parcel.message

  -- a message asks for nothing where it says no request
  one : (message : Message) (rest : List Message) → has_request (all_said tid (message ∷ rest)) ≡ false → (is_asking_for tid server number message ≡ []) × (has_request (all_said tid rest) ≡ false)
  one messages.Hello rest none = (refl, none)
  one (messages.Request t label member k issuer op) rest none = by (same_tid tid t) refl none
    where
      by : (b : Bool) → same_tid tid t ≡ b → has_request ((if b then Rattle.qs_world_refine.specs.Links.Requested k member.server.0 ∷ [] else []) ++ all_said tid rest) ≡ false
          → ((if b && ((member.server.0 == server.0) && (k == number)) then op ∷ [] else []) ≡ []) × (has_request (all_said tid rest) ≡ false)
      by true same none = absurd (cc none)
      by false apart none = (refl, none)
  one (messages.Answered t member k reply) rest none = (refl, none)
  one (messages.AskVote t) rest none = (refl, none)
  one (messages.Covered t up_to) rest none = by (same_tid tid t) none
    where
      by : (b : Bool) → has_request ((if b then Rattle.qs_world_refine.specs.Links.Closed up_to [] ∷ [] else []) ++ all_said tid rest) ≡ false → (is_asking_for tid server number (messages.Covered t up_to) ≡ []) × (has_request (all_said tid rest) ≡ false)
      by true none = (refl, none)
      by false none = (refl, none)
  one (messages.VotedYes t up_to told) rest none = by (same_tid tid t) none
    where
      by : (b : Bool) → has_request ((if b then Rattle.qs_world_refine.specs.Links.Closed up_to told ∷ [] else []) ++ all_said tid rest) ≡ false → (is_asking_for tid server number (messages.VotedYes t up_to told) ≡ []) × (has_request (all_said tid rest) ≡ false)
      by true none = (refl, none)
      by false none = (refl, none)
  one (messages.VotedAbort t cause) rest none = (refl, none)
  one (messages.Tell t outcome) rest none = by (same_tid tid t) none
    where
      by : (b : Bool) → has_request ((if b then Rattle.qs_world_refine.specs.Links.Outcome_told (Rattle.qs_world_refine.specs.Messages.is_commit outcome) ∷ [] else []) ++ all_said tid rest) ≡ false → (is_asking_for tid server number (messages.Tell t outcome) ≡ []) × (has_request (all_said tid rest) ≡ false)
      by true none = (refl, none)
      by false none = (refl, none)
  one (messages.Told t further) rest none = by (same_tid tid t) none
    where
      by : (b : Bool) → has_request ((if b then Rattle.qs_world_refine.specs.Links.Taken_in further ∷ [] else []) ++ all_said tid rest) ≡ false → (is_asking_for tid server number (messages.Told t further) ≡ []) × (has_request (all_said tid rest) ≡ false)
      by true none = (refl, none)
      by false none = (refl, none)
  one (messages.Inquire t) rest none = by (same_tid tid t) none
    where
      by : (b : Bool) → has_request ((if b then Rattle.qs_world_refine.specs.Links.Inquired ∷ [] else []) ++ all_said tid rest) ≡ false → (is_asking_for tid server number (messages.Inquire t) ≡ []) × (has_request (all_said tid rest) ≡ false)
      by true none = (refl, none)
      by false none = (refl, none)

  abbrev pub NoneIn : List Parcel → Type 0
  NoneIn ps = asked tid server number (map message_of ps) ≡ 0

  pub none_said : (ms : List Message) → has_request (all_said tid ms) ≡ false → asked tid server number ms ≡ 0
  none_said [] none = refl
  none_said (m ∷ ms) none = let both = one m ms none in
      rw both.0 (none_said ms both.1)

  pub none_in : (ps : List Parcel) → has_request (all_said tid (map message_of ps)) ≡ false → NoneIn ps
  none_in ps none = none_said (map message_of ps) none

  pub none_then : (ps qs : List Parcel) → NoneIn ps → NoneIn qs → NoneIn (ps ++ qs)
  none_then [] qs p q = q
  none_then (x ∷ xs) qs p q = by (ask x) refl p (λ less. none_then xs qs less q)
    where
      by : (ops : List Op) → ask x ≡ ops → length (ops ++ flat_map (is_asking_for tid server number) (map message_of xs)) ≡ 0 → (NoneIn xs → NoneIn (xs ++ qs)) → NoneIn (x ∷ xs ++ qs)
      by [] is zero_is more = rw is (more zero_is)
      by (op ∷ ops) is zero_is more = absurd (suc_not_zero (length (ops ++ flat_map (is_asking_for tid server number) (map message_of xs))) zero_is)

  pub none_from : (at : ℕ → List Parcel) → ((i : ℕ) → NoneIn (at i)) → (i more : ℕ) → NoneIn (pending_from at i more)
  none_from at each i zero = refl
  none_from at each i (suc more) = none_then (at i) (pending_from at (suc i) more) (each i) (none_from at each (suc i) more)

pub committed_ways : CommittedWays
committed_ways tid world w all committed n m n_in m_in up server number =
    none_from tid server number (λ i. pending world.channels n m i (world.channels.inc m)) (λ i. none_in tid server number (pending world.channels n m i (world.channels.inc m))
    (commit_clear tid (sight tid (scene_of world)) w all.seen.lawful committed all.seen.shown n i m n_in m_in up)) (world.channels.peer m n) ((world.channels.inc n + 1) - world.channels.peer m n)

pub committed_keeps : CommittedKeeps
committed_keeps tid world w all committed n m n_in m_in server number = kept (world.channels.up n) (world.channels.peer n m == 0) refl refl
  where
    kept : (a b : Bool) → world.channels.up n ≡ a → (world.channels.peer n m == 0) ≡ b → NoneIn tid server number (if a && b then world.channels.waits n m else [])
    kept true true on unknown = none_in tid server number (world.channels.waits n m) (commit_unmet tid (sight tid (scene_of world)) w all.seen.lawful committed all.seen.shown n m n_in m_in on (eqb-true (world.channels.peer n m) 0 unknown))
    kept true false on known = refl
    kept false b off unknown = refl

-- ---- what the reference machine has undecided no node has decided

pub none_decided : (book : BookValue) (tid : Tid) (tx : TransactionValue) (node : NodeValue) → HoldsStill book node → find_transaction book tid ≡ Some tx → is_open tx.cell ≡ true → (part : Participant) → tm.part_of tid node.manager ≡ Some part → part.outcome ≡ None
none_decided book tid tx node h found undecided part known = by part.outcome refl
  where
    its : HoldsTid node.setting.node node.setting.inc tid tx (face_of node tid)
    its = subst (λ (o : Option TransactionValue). HoldsAt node.setting.node node.setting.inc tid o (face_of node tid)) found (h.at tid)

    clash : (c : Cell) (o : Outcome) → is_open c ≡ true → is_outcome o c ≡ true → ⊥
    clash cells.Open outcomes.Commit so it = cc it
    clash cells.Open outcomes.Abort so it = cc it
    clash cells.Commit o so it = cc so
    clash cells.Abort o so it = cc so

    by : (o : Option Outcome) → part.outcome ≡ o → part.outcome ≡ None
    by None none = none
    by (Some outcome) some = absurd (clash tx.cell outcome undecided (its.outcome outcome (ap (λ (o : Option Participant). (part_or_new o).outcome) known ∙ some)))

-- ---- so it is unanimous

pub committed_unanimous : CommittedUnanimous
committed_unanimous tid book world w tx is all committed holds places found undecided asked_for = by (places tx found undecided)
  where
    none_known : (k : ℕ) → k < world.size → world.channels.up k ≡ true → (part : Participant) → tm.part_of tid (world.hosts k).node.manager ≡ Some part → part.outcome ≡ None
    none_known k k_in up = none_decided book tid tx (world.hosts k).node (holds k k_in up) found undecided

    free : (k : ℕ) → k < world.size → world.channels.up k ≡ true → IsFree tid (world.hosts k).node
    free k k_in up = committed_free tid (world.hosts k).node (Rattle.qs_world_refine.specs.Places.place k (world.channels.inc k)) w all.seen.lawful committed (all.seen.shown.faces k k_in up) ((steady world is).sound k k_in).node (none_known k k_in up)

    quiet : IsQuiet tid tx (field_of world)
    quiet = record {
      idle = λ k k_in up. (free k k_in up).idle;
      ways = λ n m n_in m_in up. committed_ways tid world w all committed n m n_in m_in up;
      keeps = λ n m n_in m_in. committed_keeps tid world w all committed n m n_in m_in;
      lives = λ l part life present. free_agrees book tid tx (field_of world) (world.hosts l.member.node.0).node l part found undecided (holds l.member.node.0 present.in_run present.up)
          (free l.member.node.0 present.in_run present.up) life (sym ((steady world is).seated.node l.member.node.0 present.in_run)) (present.now ∙ sym ((steady world is).seated.inc l.member.node.0 present.in_run));
    }

    by : IsDoomed w ⊎ Placed tid tx (field_of world) → Rattle.qs_book_machine.specs.Transaction.is_unanimous tx ≡ true
    by (inl doomed) = absurd (doomed w (record { events = []; run = refl }) committed)
    by (inr placed) = quiet_unanimous tid tx (field_of world) placed asked_for quiet
