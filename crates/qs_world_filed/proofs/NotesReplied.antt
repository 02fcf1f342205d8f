-- A reply that comes to a note of files from another node is true, so the note was served, and is told.
use Rattle.std.proofs.Common.{◌≡◌, ◌∙◌, ℕ, ◌==◌, Bool, true, false, List, [], ◌∷◌, Option, Some, None, refl, sym, ap, subst, inl, inr}
use Rattle.std.proofs.lemmas.Bool.{and_parts, eqb-true}
use Rattle.std.specs.BTreeMap.{is_at}
use Rattle.std.specs.List.{find, list_any}
use Rattle.std.specs.Prelude.{◌&&◌, ◌||◌, if◌then◌else◌, length, slice_get}
use Rattle.qs_base.proofs.Same.{same_bytes-true, same_member-self, same_member-true}
use Rattle.qs_base.specs.Order.{same_member, tid_cmp}
use Rattle.qs_base.specs.declared.identifiers.Member.{Member}
use Rattle.qs_base.specs.declared.identifiers.NodeNo.{NodeNo}
use Rattle.qs_base.specs.declared.identifiers.Tid.{Tid}
use Rattle.qs_base_lemmas.proofs.Tests.{some_same}
use Rattle.qs_book_laws.proofs.Turns.{Stands}
use Rattle.qs_book_machine.specs.Book.{BookValue, find_transaction, inc_at}
use Rattle.qs_book_machine.specs.Clauses.{is_note, link_to, note_text}
use Rattle.qs_book_machine.specs.Nodes as book_nodes
use Rattle.qs_book_machine.specs.Transaction.{TransactionValue, has_note, is_crossed, is_standing, note_of, requests_at, standing_request}
use Rattle.qs_book_machine.specs.Transaction as machine
use Rattle.qs_book_machine.specs.declared.transaction.Request.{Request}
use Rattle.qs_book_machine.specs.declared.transaction.RequestNo.{RequestNo}
use Rattle.qs_ops.specs.declared.operation.Op.{Op}
use Rattle.qs_ops.specs.declared.operation.Op.TheVariants.{Note}
use Rattle.qs_ops.specs.declared.reply.Reply.{Reply}
use Rattle.qs_packet.specs.declared.message.Message.{Message}
use Rattle.qs_packet.specs.declared.message.Message.TheVariants as messages
use Rattle.qs_tm.specs.Manager as tm
use Rattle.qs_tm.specs.Participant.{is_answered_by, is_by_files, waiting_for}
use Rattle.qs_tm.specs.declared.manager.Manager.{Manager}
use Rattle.qs_tm.specs.declared.participant.Outstanding.{Outstanding}
use Rattle.qs_tm.specs.declared.participant.Participant.{Participant}
use Rattle.qs_node_step.specs.declared.event.Event.{Event}
use Rattle.qs_node_step.specs.declared.event.Event.TheVariants as events
use Rattle.qs_world.specs.Moves.{Clock, Commanded, Handed, Move, Noticed, Queues, Source, event_of, node_no}
use Rattle.qs_world.specs.Openings.{IsOpening}
use Rattle.qs_world.specs.Runs.{Run}
use Rattle.qs_world.specs.World.{Opening, Parcel, World, start}
use Rattle.qs_node_step.specs.declared.setting.Setting.{Setting}
use Rattle.qs_world_lawful.specs.Beside.{is_note_by}
use Rattle.qs_world_lawful.specs.Logs.{Every}
use Rattle.qs_world_lawful.specs.Parcels.{way_between}
use Rattle.qs_world_lawful.specs.Worlds.{HoldsNodeAt}
use Rattle.qs_world_refine.proofs.EachMay.{from_client, from_node, from_notice}
use Rattle.qs_world_refine.proofs.ShownMoves.{steady}
use Rattle.qs_world_runs.specs.Agrees.{MakesStep}
use Rattle.qs_world_runs.specs.AlongRun.{AlongRun}
use Rattle.qs_world_runs.specs.Joined.{Joined, book_in}
use Rattle.qs_world_runs.specs.RepliesTrue.{IsOfLast, IsServed}
use Rattle.qs_world_runs.specs.RepliesTrue as replies
use Rattle.qs_world_runs.proofs.ComesUnknown.{every_get}
use Rattle.qs_world_runs.proofs.JoinedMoves.{each_move_joined}
use Rattle.qs_world_runs.proofs.JoinedOver.{each_opens_joined}
use Rattle.qs_world_runs.proofs.JoinedSteps.{step_at, step_low}
use Rattle.qs_world_runs.proofs.RunsGoOn.{runs_go}
use Rattle.qs_world_filed.specs.Noting.{HasIssued, IssuedNotes, KnowsNotes, is_note_to}
use Rattle.qs_world_filed.specs.Replied.{EachReplyTells, IsToldOf, StandsNoMore}
use Rattle.qs_world_filed.specs.Told.{IsTold, TellsNotes}
use Rattle.qs_world_filed.proofs.NotesParts.{found_so, part_found, tid_at}
use Rattle.qs_world_filed.proofs.NotesRuns.{each_run_issues}
use Rattle.qs_world_filed.proofs.NotesTold.{each_run_tells}
use Rattle.qs_world_filed.proofs.Over.{goes_along}

-- ---- the reply is of a request that stands no more

module _ (o : Opening) (world : World) (n stamp : ℕ) (peer : NodeNo) (tid : Tid) (member : Member) (number : ℕ) (reply : Reply) (j : Joined AlongRun o world) where
  abbrev reply_is : Message
  reply_is = messages.Answered tid member number reply

  abbrev event : Event
  event = events.Received peer reply_is

  abbrev Goal : Type 0
  Goal = IsOfLast (book_in o world) n (world.channels.inc n) tid (IsServed n (world.channels.inc n) member number)

  came : (m : ℕ) (parcel : Parcel) → event ≡ events.Received (node_no m) parcel.message
      → slice_get (world.channels.posted m n (world.channels.peer n m) (world.channels.inc n)) (length (world.channels.handed m n (world.channels.peer n m) (world.channels.inc n))) ≡ Some parcel → Goal
  came m parcel is there = subst (replies.IsTold (book_in o world) m n (world.channels.peer n m) (world.channels.inc n)) (message_is is)
      (every_get (λ (p : Parcel). replies.IsTold (book_in o world) m n (world.channels.peer n m) (world.channels.inc n) p.message) (length (world.channels.handed m n (world.channels.peer n m) (world.channels.inc n))) (world.channels.posted m n (world.channels.peer n m) (world.channels.inc n)) parcel
      (j.places.replies.posted m n (world.channels.peer n m) (world.channels.inc n)) there)
    where
      message_is : events.Received peer reply_is ≡ events.Received (node_no m) parcel.message → parcel.message ≡ reply_is
      message_is e = cc e

  by_source : (source : Source) → event_of world n stamp source ≡ Some event → Goal
  by_source (Commanded k) comes = let from = from_client world n k event (steady world j.shown) comes in absurd (cc from.is)
  by_source (Handed m) comes = let from = from_node world n stamp m event comes in came m from.parcel from.is from.found
  by_source Queues comes = absurd (cc comes)
  by_source Clock comes = absurd (cc comes)
  by_source (Noticed m new) comes = let from = from_notice world n stamp m new event comes in absurd (cc from.is)

  pub served : (source : Source) → MakesStep world n stamp source event → Goal
  served source makes = by_source source makes.comes

  pub inc_now : (source : Source) → MakesStep world n stamp source event → inc_at (book_in o world) (record { 0 = n }) ≡ world.channels.inc n
  inc_now source makes = ap (λ (x : Option book_nodes.NodeValue). elim x [ None ↦ 0 | Some state ↦ state.inc ]) at.there ∙ at.inc_is
    where
      at : HoldsNodeAt (book_in o world) world n
      at = j.held.nodes n (step_low AlongRun runs_go.steps o world j n stamp 0 source event makes)

pub no_more : (book : BookValue) (n i : ℕ) (tid : Tid) (member : Member) (number : ℕ) → Stands tid (IsServed n i member number) book → Stands tid (StandsNoMore n member number) book
no_more book n i tid member number s = record { tx = s.tx; found = s.found; holds = s.holds.none }

-- ---- a note that stands no more is told

note_is : (text : List ℕ) (op : Op) → is_note text op ≡ true → op ≡ Note text
note_is text (Note said) is = ap (λ (t : List ℕ). Note t) (same_bytes-true said text is)
note_is text op is = absurd (cc is)

-- as its note
noted_as : (r : Request) (here : NodeNo) (inc : ℕ) (text : List ℕ) → is_note_by here inc text r ≡ true → note_of r ≡ Some (record { node = here; inc = inc; text = text })
noted_as r here inc text its = subst (λ (op : Op). note_of (record { issuer = r.issuer; member = r.member; op = op; inc = r.inc; served = r.served }) ≡ Some (record { node = here; inc = inc; text = text })) (sym (note_is text r.op note))
    (rw files (ap (λ (k : NodeNo × ℕ). Some (record { node = k.0; inc = k.1; text = text })) there))
  where
    parts : (((r.issuer.node.0 == here.0) && (r.inc == inc)) ≡ true) × ((machine.is_by_files r && is_note text r.op) ≡ true)
    parts = and_parts ((r.issuer.node.0 == here.0) && (r.inc == inc)) (machine.is_by_files r && is_note text r.op) its

    files : machine.is_by_files r ≡ true
    files = (and_parts (machine.is_by_files r) (is_note text r.op) parts.1).0

    note : is_note text r.op ≡ true
    note = (and_parts (machine.is_by_files r) (is_note text r.op) parts.1).1

    at : ((r.issuer.node.0 == here.0) ≡ true) × ((r.inc == inc) ≡ true)
    at = and_parts (r.issuer.node.0 == here.0) (r.inc == inc) parts.0

    there : ◌≡◌ {A = NodeNo × ℕ} (r.issuer.node, r.inc) (here, inc)
    there = ap (λ (k : ℕ). (record { 0 = k }, r.inc)) (eqb-true r.issuer.node.0 here.0 at.0) ∙ ap (λ (k : ℕ). (here, k)) (eqb-true r.inc inc at.1)

head_off : {A : Type 0} (p : A → Bool) (x : A) (xs : List A) → find p (x ∷ xs) ≡ None → (p x ≡ false) × (find p xs ≡ None)
head_off p x xs none = by (p x) refl none
  where
    by : (b : Bool) → p x ≡ b → (if b then Some x else find p xs) ≡ None → (p x ≡ false) × (find p xs ≡ None)
    by true is none = absurd (cc none)
    by false is none = (is, none)

told_in : (tx : TransactionValue) (member : Member) (here : NodeNo) (inc : ℕ) (text : List ℕ) (rs : List Request) → Every (IsTold tx) rs → list_any (is_note_to member here inc text) rs ≡ true → find (is_standing member) rs ≡ None
    → has_note tx (record { node = here; inc = inc; text = text }) ≡ true
told_in tx member here inc text [] all has none = absurd (cc has)
told_in tx member here inc text (r ∷ rs) all has none = by (is_note_to member here inc text r) refl has (λ has. told_in tx member here inc text rs all.1 has (head_off (is_standing member) r rs none).1)
  where
    served : same_member r.member member ≡ true → (b : Bool) → r.served ≡ b → r.served ≡ true
    served near true is = is
    served near false is = absurd (let on : is_standing member r ≡ true = rw (near, is) refl in cc (on, (head_off (is_standing member) r rs none).0))

    own : is_note_to member here inc text r ≡ true → has_note tx (record { node = here; inc = inc; text = text }) ≡ true
    own its = let p = and_parts (same_member member r.member) (is_note_by here inc text r) its in
        all.0 (served (subst (λ (m : Member). same_member r.member m ≡ true) (sym (same_member-true member r.member p.0)) (same_member-self r.member)) r.served refl) (record { node = here; inc = inc; text = text }) (noted_as r here inc text p.1)

    by : (b : Bool) → is_note_to member here inc text r ≡ b → (b || list_any (is_note_to member here inc text) rs) ≡ true → (list_any (is_note_to member here inc text) rs ≡ true → has_note tx (record { node = here; inc = inc; text = text }) ≡ true)
        → has_note tx (record { node = here; inc = inc; text = text }) ≡ true
    by true is has rest = own is
    by false is has rest = rest has

-- what was issued and stands no more
pub told_of : (book : BookValue) (setting : Setting) (n : ℕ) (tid : Tid) (member : Member) (number count : ℕ) → setting.node.0 ≡ n → ((tx : TransactionValue) → find_transaction book tid ≡ Some tx → TellsNotes tx) → HasIssued book setting tid member number count
    → Stands tid (StandsNoMore n member number) book → Stands tid (IsToldOf setting tid count) book
told_of book setting n tid member number count at tells issued s = record { tx = s.tx; found = s.found; holds = by s.holds }
  where
    key : RequestNo
    key = record { link = link_to setting.node.0 member; number = number }

    has : list_any (is_note_to member setting.node setting.inc (note_text tid setting.node.0 count)) (requests_at s.tx key) ≡ true
    has = subst (λ (tx : TransactionValue). list_any (is_note_to member setting.node setting.inc (note_text tid setting.node.0 count)) (requests_at tx key) ≡ true) (some_same (sym issued.1.found ∙ s.found)) issued.1.holds

    by : StandsNoMore n member number s.tx → IsToldOf setting tid count s.tx
    by (inl crossed) = inr (member, (issued.0, crossed))
    by (inr none) = inl (told_in s.tx member setting.node setting.inc (note_text tid setting.node.0 count) (requests_at s.tx key) (tells s.tx s.found key) has
        (subst (λ (k : ℕ). standing_request s.tx (way_between k member.node.0 number) member ≡ None) (sym at) none))

-- ---- what waits for a reply was issued so

find_is : {A : Type 0} (p : A → Bool) (xs : List A) (x : A) → find p xs ≡ Some x → p x ≡ true
find_is p [] x found = absurd (cc found)
find_is p (y ∷ ys) x found = by (p y) refl found (find_is p ys x)
  where
    by : (b : Bool) → p y ≡ b → (if b then Some y else find p ys) ≡ Some x → (find p ys ≡ Some x → p x ≡ true) → p x ≡ true
    by true is found rest = subst (λ (z : _). p z ≡ true) (some_same found) is
    by false is found rest = rest found

pub waits_so : (book : BookValue) (setting : Setting) (m : Manager) (tid : Tid) (member : Member) (number : ℕ) (request : Outstanding) → IssuedNotes book setting m.known → tm.told_of tid None (waiting_for member number) m ≡ Some request → is_by_files request ≡ true
    → HasIssued book setting tid member number request.count
waits_so book setting m tid member number request all waits files = of (tm.part_of tid m) refl waits
  where
    of : (p : Option Participant) → tm.part_of tid m ≡ p → (elim p [ None ↦ None | Some part ↦ waiting_for member number part ]) ≡ Some request → HasIssued book setting tid member number request.count
    of None unknown waits = absurd (cc waits)
    of (Some part) known waits = subst (λ (r : Member). HasIssued book setting tid r number request.count) as_it.0 (subst (λ (k : ℕ). HasIssued book setting tid request.member k request.count) as_it.1 own)
      where
        its : (k : Tid) × ((is_at (tid_cmp tid) k ≡ true) × KnowsNotes book setting k part)
        its = part_found (λ (e : Tid × Participant). KnowsNotes book setting e.0 e.1) (is_at (tid_cmp tid)) m.known part all known

        as_it : (request.member ≡ member) × (request.number ≡ number)
        as_it = let p = and_parts (same_member request.member member) (request.number == number) (find_is (is_answered_by member number) part.waiting request waits) in (same_member-true request.member member p.0, eqb-true request.number number p.1)

        own : HasIssued book setting tid request.member request.number request.count
        own = subst (λ (t : Tid). HasIssued book setting t request.member request.number request.count) (sym (tid_at tid its.0 its.1.0))
            (found_so (λ (r : Outstanding). is_by_files r ≡ true → HasIssued book setting its.0 r.member r.number r.count) (is_answered_by member number) part.waiting request its.1.1.waited waits files)

-- ---- a run

pub joined : (o : Opening) (moves : List Move) (world : World) → IsOpening o → Run (start o) moves world → Joined AlongRun o world
joined o moves world opens run = goes_along (Joined AlongRun) (record { opens = λ o opens. each_opens_joined AlongRun runs_go o opens; moves = λ o world move j x may. each_move_joined AlongRun runs_go o world move j may }) o moves world opens run

pub each_reply_tells : EachReplyTells
each_reply_tells o moves world n stamp source peer tid member number reply request opens run makes waits files =
    told_of (book_in o world) (world.hosts n).node.setting n tid member number request.count (step_at AlongRun runs_go.steps o world j n stamp 0 source (events.Received peer (messages.Answered tid member number reply)) makes)
    (λ tx found. each_run_tells o world.journal opens j.lawful tid tx found) (waits_so (book_in o world) (world.hosts n).node.setting (world.hosts n).node.manager tid member number request (each_run_issues o moves world opens run n) waits files)
    (no_more (book_in o world) n (world.channels.inc n) tid member number ((served o world n stamp peer tid member number reply j source makes).holds (inc_now o world n stamp peer tid member number reply j source makes)))
  where
    j : Joined AlongRun o world
    j = joined o moves world opens run
