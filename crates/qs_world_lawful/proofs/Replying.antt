-- A reply comes to the node that issued the request: the rule as a whole.
use Rattle.qs_world_lawful.proofs.Words.{◌≡◌, ◌⊎◌, inl, inr, ℕ, Bool, true, false, List, [], ◌∷◌, Option, Some, None, refl, sym, ap, subst, ◌∙◌, length, not, ◌&&◌, if◌then◌else◌, filter, find, list_any, lookup, is_at, tid_cmp, ClientNo, Member, NodeNo, Tid, answer_of, Reply, changed_alike, TransactionValue, BookValue, find_transaction, is_known, Owner, member_of, has_noted, awaits_note, is_answered_by, waiting_for, Outstanding, Participant, client_of, reply_came, take_reply, answer_issuer}
use Rattle.qs_world_lawful.proofs.Words.{waits_as, Issued, Work, with_manager, client_cmp, peer_of, face_of, part_in, part_or_new, is_held, at_server, AreNoted, HoldsHome, HoldsMember, HoldsTid, HoldsAt, IsAsking, HoldsWork, book_at, some_same, or_last}
use Rattle.qs_ops.specs.declared.reply.Reply.TheVariants as replies
use Rattle.qs_tm.specs.Manager as tm
use Rattle.qs_tm.specs.Participant as participant
use Rattle.qs_tm.specs.Participant.{is_by_files}
use Rattle.qs_node_step.specs.Requests.{waiting_at, is_issued_as}
use Rattle.qs_node_step.specs.Bringing.{answer}
use Rattle.qs_node_step.specs.State.{NodeValue}
use Rattle.qs_world_lawful.specs.Face.{Face}
use Rattle.qs_world_lawful.proofs.Answers.{by_answer}
use Rattle.qs_world_lawful.proofs.Clauses.{of_tid}
use Rattle.qs_world_lawful.proofs.Faces.{part_apart, part_changed}
use Rattle.qs_world_lawful.proofs.Frames.{held_on, at_each, clients_on, told_of}
use Rattle.qs_world_lawful.proofs.Growing.{kept_on}
use Rattle.qs_base_lemmas.proofs.Tests.{or_first}

-- the participant but for its notes
abbrev unnoted : Participant → Participant
unnoted part = record part { waiting = []; noted = [] }

noted_tid : (here : NodeNo) (inc : ℕ) (tid : Tid) (tx : TransactionValue) (face : Face) (part after : Participant) → unnoted after ≡ unnoted part → AreNoted here inc tid tx after → HoldsTid here inc tid tx (record face { known = Some part })
    → HoldsTid here inc tid tx (record face { known = Some after })
noted_tid here inc tid tx face part after same notes h = record {
  sized = ap (λ (q : Participant). length q.members) same ∙ h.sized;
  members = λ held server kept. subst (λ (q : Participant). HoldsMember tx (at_server here server) inc (member_of q server)) (sym same) (h.members refl server kept);
  asked = λ is. h.asked (sym (ap (λ (q : Participant). q.asked) same) ∙ is);
  outcome = λ o is. h.outcome o (sym (ap (λ (q : Participant). q.outcome) same) ∙ is);
  silent = λ is. ap (λ (q : Participant). q.outcome) same ∙ h.silent is;
  local = h.local;
  sent = λ held peer far. h.sent refl peer far ∙ sym (ap (λ (q : Participant). (peer_of q.engage peer).sent) same);
  pending = h.pending;
  noted = λ held. notes;
  queued = h.queued;
  made = h.made;
  yielded = h.yielded;
  home = λ near in_inc. home_on (h.home near in_inc);
}
  where
    home_on : HoldsHome tx (Some part) → HoldsHome tx (Some after)
    home_on k = record {
      runs = λ is. refl;
      undecided = λ p is none. k.undecided part refl (sym (ap (λ (q : Participant). q.outcome) same) ∙ (ap (λ (q : Participant). q.outcome) (some_same is) ∙ none));
      asked = λ p is still. k.asked part refl still ∙ (sym (ap (λ (q : Participant). q.asked) same) ∙ ap (λ (q : Participant). q.asked) (some_same is));
    }

-- where what the node waits for of a transaction changes, or what it noted
pub by_notes : (stamp : ℕ) (before : BookValue) (work : Work) (tid : Tid) (g : Participant → Participant) (part : Participant) (tx : TransactionValue) → HoldsWork stamp before work → tm.part_of tid work.node.manager ≡ Some part
    → find_transaction (book_at stamp before work) tid ≡ Some tx → ((p : Participant) → told_of (g p) ≡ told_of p) → unnoted (g part) ≡ unnoted part → AreNoted work.node.setting.node work.node.setting.inc tid tx (g part)
    → HoldsWork stamp before (with_manager (tm.with_part tid g) work)
by_notes stamp before work tid g part tx h known found told same notes = kept_on stamp before work (with_manager (tm.with_part tid g) work) h refl refl
    (held_on stamp book book node new h.holds (record { setting = refl; at = refl; in_inc = refl }) refl h.holds.state (record { up = refl; inc = refl; begun = refl; format = refl })
    h.holds.order refl h.holds.there (λ t is. is)
    (at_each node.setting.node node.setting.inc book book node new tid h.holds.at (λ t far. refl) (λ t far. record { known = part_apart tid t g node.manager far; local = refl; changes = refl; loans = refl; waiting = λ s. refl }) own)
    (clients_on book book node new (λ t. refl) (λ k. refl) (record { setting = refl; at = refl; in_inc = refl }) (record { commands = refl; labels = refl; outcomes = refl }) h.holds.clients
    (λ t. changed_alike (is_at (tid_cmp tid)) told_of g told (is_at (tid_cmp t)) node.manager.known)) h.holds.servers h.holds.waits)
  where
    node : NodeValue
    node = work.node

    new : NodeValue
    new = record node { manager = tm.with_part tid g node.manager }

    book : BookValue
    book = book_at stamp before work

    own : HoldsAt node.setting.node node.setting.inc tid (find_transaction book tid) (face_of new tid)
    own = subst (λ (o : Option TransactionValue). HoldsAt node.setting.node node.setting.inc tid o (face_of new tid)) (sym found)
        (subst (λ (o : Option Participant). HoldsTid node.setting.node node.setting.inc tid tx (record (face_of node tid) { known = o })) (sym (part_changed tid g node.manager part known))
        (noted_tid node.setting.node node.setting.inc tid tx (face_of node tid) part (g part) same notes
        (subst (λ (o : Option Participant). HoldsTid node.setting.node node.setting.inc tid tx (record (face_of node tid) { known = o })) known (of_tid stamp book node h.holds tid tx found))))

-- ---- a request of a client

-- any owner may be told a reply
reply_known : (owner : Owner) (reply : Reply) → is_known owner (answer_of reply) ≡ true
reply_known owner replies.Done = refl
reply_known owner (replies.Value text) = refl
reply_known owner (replies.Left ticks) = refl
reply_known owner (replies.Names list) = refl
reply_known owner (replies.Notes list) = refl
reply_known owner (replies.Busy holder) = refl
reply_known owner replies.Absent = refl
reply_known owner replies.TooMany = refl
reply_known owner replies.TooLong = refl

-- who waits for a request does not wait for a commit
no_commit : (node : NodeValue) (tid t : Tid) (member : Member) (number : ℕ) (client : ClientNo) → waits_as tid member number (lookup (is_at (client_cmp client)) node.commands) ≡ true → IsAsking node t client → ⊥
no_commit node tid t member number client waits a = by a.command.issued a.unissued (ap (waits_as tid member number) (sym a.waits) ∙ waits)
  where
    by : (o : Option Issued) → o ≡ None → (elim o [ None ↦ false | Some issued ↦ is_issued_as tid member number issued ]) ≡ true → ⊥
    by None is e = cc e
    by (Some i) is e = cc is

pub by_issuer : (stamp : ℕ) (before : BookValue) (work : Work) (tid : Tid) (member : Member) (number : ℕ) (reply : Reply) (client : ClientNo) → HoldsWork stamp before work → HoldsWork stamp before (answer_issuer tid member number reply client work)
by_issuer stamp before work tid member number reply client h = by (waits_as tid member number (lookup (is_at (client_cmp client)) work.node.commands)) refl
  where
    by : (b : Bool) → waits_as tid member number (lookup (is_at (client_cmp client)) work.node.commands) ≡ b → HoldsWork stamp before (if b then answer client (answer_of reply) work else work)
    by true is = by_answer stamp before work client (answer_of reply) h (λ owner there. reply_known owner reply) (λ t a. no_commit work.node tid t member number client is a)
    by false is = h

-- the notes that are waited for are so without it
drop_awaits : (member : Member) (number : ℕ) (waiting : List Outstanding) → list_any (λ (r : Outstanding). is_answered_by member number r && is_by_files r) waiting ≡ false
    → list_any is_by_files (filter (λ r. not (is_answered_by member number r)) waiting) ≡ list_any is_by_files waiting
drop_awaits member number [] out = refl
drop_awaits member number (r ∷ waiting) out = by (is_answered_by member number r) refl (is_by_files r) refl (drop_awaits member number waiting)
  where
    by : (a : Bool) → is_answered_by member number r ≡ a → (b : Bool) → is_by_files r ≡ b
        → (list_any (λ (s : Outstanding). is_answered_by member number s && is_by_files s) waiting ≡ false → list_any is_by_files (filter (λ s. not (is_answered_by member number s)) waiting) ≡ list_any is_by_files waiting)
        → list_any is_by_files (filter (λ s. not (is_answered_by member number s)) (r ∷ waiting)) ≡ list_any is_by_files (r ∷ waiting)
    by true is true so more = absurd (cc (rw (is, so) at out))
    by true is false so more = rw (is, so) (more (rw (is, so) at out))
    by false is true so more = rw is (rw so refl)
    by false is false so more = rw is (rw so (more (rw is at out)))

-- a reply to a client's request, where no note of files waits for it
pub by_reply : (stamp : ℕ) (before : BookValue) (work : Work) (tid : Tid) (member : Member) (number : ℕ) (reply : Reply) (part : Participant) (tx : TransactionValue) → HoldsWork stamp before work → tm.part_of tid work.node.manager ≡ Some part
    → find_transaction (book_at stamp before work) tid ≡ Some tx → list_any (λ (r : Outstanding). is_answered_by member number r && is_by_files r) part.waiting ≡ false
    → HoldsWork stamp before (reply_came tid member number reply work)
by_reply stamp before work tid member number reply part tx h known found no_note = by (waiting_for member number part) refl
  where
    dropped : HoldsWork stamp before (with_manager (tm.drop_waiting tid member number) work)
    dropped = by_notes stamp before work tid (participant.drop_waiting member number) part tx h known found (λ p. refl) refl
        (λ count some is. notes_on count ((of_tid stamp (book_at stamp before work) work.node h.holds tid tx found).noted held count some is))
      where
        held : is_held tx (face_of work.node tid) ≡ true
        held = rw known refl

        in_face : part_in (face_of work.node tid) ≡ part
        in_face = ap part_or_new known

        notes_on : (count : ℕ) → (has_noted count (part_in (face_of work.node tid)) ≡ true) ⊎ (awaits_note (part_in (face_of work.node tid)) ≡ true) → (has_noted count (participant.drop_waiting member number part) ≡ true) ⊎ (awaits_note (participant.drop_waiting member number part) ≡ true)
        notes_on count (inl is) = inl (sym (ap (has_noted count) in_face) ∙ is)
        notes_on count (inr is) = inr (drop_awaits member number part.waiting no_note ∙ (sym (ap awaits_note in_face) ∙ is))

    taken : (request : Outstanding) → is_by_files request ≡ false → HoldsWork stamp before (take_reply tid reply request (with_manager (tm.drop_waiting tid member number) work))
    taken request out = of (is_by_files request) out
      where
        of : (b : Bool) → b ≡ false → HoldsWork stamp before (if b then with_manager (tm.note_served tid request.count) (with_manager (tm.drop_waiting tid member number) work)
            else answer_issuer tid request.member request.number reply (client_of request.issuer) (with_manager (tm.drop_waiting tid member number) work))
        of true e = absurd (cc e)
        of false e = by_issuer stamp before (with_manager (tm.drop_waiting tid member number) work) tid request.member request.number reply (client_of request.issuer) dropped

    not_files : (waiting : List Outstanding) (request : Outstanding) → find (is_answered_by member number) waiting ≡ Some request → list_any (λ (r : Outstanding). is_answered_by member number r && is_by_files r) waiting ≡ false → is_by_files request ≡ false
    not_files [] request is out = absurd (cc is)
    not_files (r ∷ waiting) request is out = at (is_answered_by member number r) refl (not_files waiting request)
      where
        at : (b : Bool) → is_answered_by member number r ≡ b → (find (is_answered_by member number) waiting ≡ Some request → list_any (λ (s : Outstanding). is_answered_by member number s && is_by_files s) waiting ≡ false → is_by_files request ≡ false) → is_by_files request ≡ false
        at true so more = subst (λ (x : Outstanding). is_by_files x ≡ false) (some_same (rw so at is)) (or_first _ _ (rw so at out))
        at false so more = more (rw so at is) (or_last _ _ out)

    by : (o : Option Outstanding) → waiting_for member number part ≡ o → HoldsWork stamp before (reply_came tid member number reply work)
    by None is = subst (λ (o : Option Outstanding). HoldsWork stamp before (elim o [ None ↦ work | Some request ↦ take_reply tid reply request (with_manager (tm.drop_waiting tid member number) work) ])) (sym (waits_is ∙ is)) h
      where
        waits_is : waiting_at tid member number work ≡ waiting_for member number part
        waits_is = ap (λ (o : Option Participant). elim o [ None ↦ None | Some p ↦ waiting_for member number p ]) known
    by (Some request) is = subst (λ (o : Option Outstanding). HoldsWork stamp before (elim o [ None ↦ work | Some r ↦ take_reply tid reply r (with_manager (tm.drop_waiting tid member number) work) ])) (sym (waits_is ∙ is)) (taken request (not_files part.waiting request is no_note))
      where
        waits_is : waiting_at tid member number work ≡ waiting_for member number part
        waits_is = ap (λ (o : Option Participant). elim o [ None ↦ None | Some p ↦ waiting_for member number p ]) known
