-- Where a vote pass is due, commit was asked for; so the transaction began in the run, and files of its node have few changes of it.
use Rattle.qs_world_runs.proofs.Words.{◌≡◌, ℕ, ◌≤◌, ◌<◌, ◌^◌, ◌&&◌, arith, true, List, [], ◌∷◌, ◌++◌, Option, Some, None, refl, sym, subst, ◌∙◌, not, is_at, lookup, ⊤, Bool, false, length, unwrap_or, tid_cmp, ClientNo, Tid, Entry, KeptLabel, at_exact, tid_itself, IsBelow, IsRising, after_both, BookValue, find_transaction, book_after, TransactionValue, changes_in, share_of, Message, label_at, due_tids, is_busy, is_put_off, settle_tid, Work, doings_of, work_on, is_owner, Event, needs_pass}
use Rattle.qs_world_runs.proofs.Words.{new_participant, Participant, book_of, IsOpening, Opening, ComesTo, HoldsWork, book_at, entries_so_far, face_of, AtEach, done_work, first_work, HoldsAt, Every, HasNodeFacts, AreFew, HasRoom, IsOfRun, MayAsk, store_of, and_parts}
use Rattle.qs_book_machine.specs.Lawful.{IsLawful}
use Rattle.qs_packet.specs.declared.message.Message.TheVariants as messages
use Rattle.qs_node_step.specs.State.{NodeValue}
use Rattle.qs_node_step.specs.declared.event.Event.TheVariants as events
use Rattle.qs_tm.specs.Manager as tm
use Rattle.qs_world_lawful.specs.BesideStep.{HasCountRoom}
use Rattle.qs_world_runs.specs.Rooms.{AreAsked, IsAskedOf, IsFew}
use Rattle.qs_world_runs.proofs.FewShares.{each_found, few_share}
use Rattle.qs_world_runs.proofs.JoinedParts.{lawful_both}
use Rattle.qs_world_runs.proofs.LaterOwned.{asked_of_run, owned_of_run}
use Rattle.qs_world_runs.proofs.RoomsMoves.{done_room}
use Rattle.qs_world_runs.proofs.RoomsStep.{Asked, asked_kept, room_kept}
use Rattle.qs_world_runs.proofs.StoreStages.{happens_keep, turns_keep}

-- ---- each entry of a map is found under its key

below_none : (tid : Tid) (es : List (Tid × Participant)) → IsBelow tid_cmp tid es → lookup (is_at (tid_cmp tid)) es ≡ None
below_none tid [] below = refl
below_none tid (e ∷ es) below = rw below.0 (below_none tid es below.1)

every_known : (Q : Tid × Participant → Type 0) (es : List (Tid × Participant)) → IsRising tid_cmp es → ((tid : Tid) (part : Participant) → lookup (is_at (tid_cmp tid)) es ≡ Some part → Q (tid, part)) → Every Q es
every_known Q [] rising gives = tt
every_known Q (e ∷ es) rising gives = (gives e.0 e.1 (rw (tid_itself e.0) refl), every_known Q es rising.1 (λ tid part is. gives tid part (apart tid part is)))
  where
    clash : {X : Type 0} (part : Participant) → None ≡ Some part → X
    clash part c = absurd (cc c)

    apart : (tid : Tid) (part : Participant) → lookup (is_at (tid_cmp tid)) es ≡ Some part → lookup (is_at (tid_cmp tid)) (e ∷ es) ≡ Some part
    apart tid part is = by (is_at (tid_cmp tid) e.0) refl
      where
        by : (b : Bool) → is_at (tid_cmp tid) e.0 ≡ b → lookup (is_at (tid_cmp tid)) (e ∷ es) ≡ Some part
        by true same = clash part (sym (below_none tid es (subst (λ (t : Tid). IsBelow tid_cmp t es) (sym (at_exact tid e.0 same)) rising.0)) ∙ is)
        by false far = rw far is

-- ---- a step

module _ (o : Opening) (opens : IsOpening o) (history : List Entry) (lawful : IsLawful (book_of o) history) (stamp : ℕ) (node : NodeValue) (event : Event) (free : ℕ) where
  abbrev before : BookValue
  before = book_after (book_of o) history

  abbrev first : Work
  first = first_work node free

  abbrev done : Work
  done = done_work node event free

  abbrev T : Tid → Type 0
  T = IsOfRun o

  module _ (few : AreFew T node.servers.files.table) (held : HoldsWork stamp before first) (facts : HasNodeFacts first.node) (comes : ComesTo before event (work_on node free)) where
    abbrev book : BookValue
    book = book_at stamp before first

    so_far : List Entry
    so_far = history ++ entries_so_far stamp first

    lawful_then : IsLawful (book_of o) (history ++ entries_so_far stamp first)
    lawful_then = lawful_both history (entries_so_far stamp first) (book_of o) lawful held.lawful

    same_book : book_after (book_of o) (history ++ entries_so_far stamp first) ≡ book
    same_book = after_both history (entries_so_far stamp first) (book_of o)

    found_then : (tid : Tid) (tx : TransactionValue) → find_transaction book tid ≡ Some tx → find_transaction (book_after (book_of o) (history ++ entries_so_far stamp first)) tid ≡ Some tx
    found_then tid tx found = subst (λ (b : BookValue). find_transaction b tid ≡ Some tx) (sym same_book) found

    -- as the event comes
    part_asked : (tid : Tid) (part : Participant) → tm.part_of tid first.node.manager ≡ Some part → part.asked ≡ true → T tid
    part_asked tid part known asked = by (find_transaction book tid) refl (held.holds.at tid)
      where
        by : (t : Option TransactionValue) → find_transaction book tid ≡ t → HoldsAt first.node.setting.node first.node.setting.inc tid t (face_of first.node tid) → T tid
        by None none empty = absurd (cc (known, empty.known))
        by (Some tx) found holds = asked_of_run o opens (history ++ entries_so_far stamp first) lawful_then tid tx (found_then tid tx found) (holds.asked (subst (λ (p : Option Participant). (unwrap_or p (new_participant false)).asked ≡ true) (sym known) asked))

    first_asked : AreAsked T first.node.manager
    first_asked = every_known (IsAskedOf T) first.node.manager.known facts.rising (λ tid part known asked. part_asked tid part known asked)

    may_ask : (e : Event) → ComesTo before e (work_on node free) → MayAsk T e first
    may_ask (events.Command client line label command) is = λ begun tid found of own. by begun tid found of begun.owner refl own
      where
        by : (begun : KeptLabel) (tid : Tid) → label_at label first.node ≡ Some begun → begun.tid ≡ Some tid → (c : Option ClientNo) → begun.owner ≡ c → is_owner client c ≡ true → T tid
        by begun tid found of None none own = absurd (cc own)
        by begun tid found of (Some owner) owned own = let at = held.holds.clients.labels label begun tid owner found of owned in
            owned_of_run o opens (history ++ entries_so_far stamp first) lawful_then tid at.tx (found_then tid at.tx at.found) (rw at.owns refl)
    may_ask (events.Received peer message) is = by message is
      where
        by : (m : Message) → ComesTo before (events.Received peer m) (work_on node free) → MayAsk T (events.Received peer m) first
        by messages.Hello is = tt
        by (messages.Request tid label member number issuer op) is = tt
        by (messages.Answered tid member number reply) is = tt
        by (messages.AskVote tid) is = asked_of_run o opens history lawful tid is.says.0 is.says.1 is.says.2
        by (messages.Covered tid up_to) is = tt
        by (messages.VotedYes tid up_to told) is = tt
        by (messages.VotedAbort tid cause) is = tt
        by (messages.Tell tid outcome) is = tt
        by (messages.Told tid further) is = tt
        by (messages.Inquire tid) is = tt
    may_ask events.ServeAll is = tt
    may_ask (events.PeerRestarted peer old new) is = tt
    may_ask events.Tick is = tt

    -- at each turn
    has_room : (work : Work) (tid : Tid) → HasRoom T (store_of work) → AreAsked T work.node.manager → HasCountRoom work tid
    has_room work tid room asked part known due = less (length (changes_in work.node.servers.files tid)) _ few_now.counted few_now.few
      where
        less : (a b : ℕ) → a ≤ b → b < 2 ^ 64 → a < 2 ^ 64
        less a b p q = omega arith

        is_asked : part.asked ≡ true
        is_asked = (and_parts part.asked (not (is_busy tid work.node part)) (and_parts (part.asked && not (is_busy tid work.node part)) (needs_pass part && not (is_put_off (doings_of tid work))) due).0).0

        of_run : T tid
        of_run = let found : (k : Tid) × (is_at (tid_cmp tid) k ≡ true) × IsAskedOf T (k, part) = each_found (IsAskedOf T) (is_at (tid_cmp tid)) work.node.manager.known part asked known in
            subst T (sym (at_exact tid found.0 found.1)) (found.2 is_asked)

        few_now : IsFew (share_of work.node.servers.files.table tid)
        few_now = few_share T work.node.servers.files.table tid room.shares of_run

    at_turns : (tids : List Tid) (work : Work) → AtEach (λ (work : Work) (tid : Tid). HasRoom T (store_of work)) settle_tid work tids → AtEach (λ (work : Work) (tid : Tid). AreAsked T work.node.manager) settle_tid work tids → AtEach HasCountRoom settle_tid work tids
    at_turns [] work rooms asked = tt
    at_turns (tid ∷ tids) work rooms asked = (has_room work tid rooms.0 asked.0, at_turns tids (settle_tid work tid) rooms.1 asked.1)

    pub turns_have_room : AtEach HasCountRoom settle_tid done (due_tids done)
    turns_have_room = at_turns (due_tids done) done (turns_keep (λ (tid : Tid). ⊤) (HasRoom T) (room_kept T) (due_tids done) done (done_room T node event free few))
        (turns_keep T (Asked T) (asked_kept T) (due_tids done) done (happens_keep T (Asked T) (asked_kept T) event first (may_ask event comes) first_asked))
