-- A request is issued: it waits at a server of its own node, or is put for the incarnation that is known and runs, or is kept back where none is known.
use Rattle.qs_world_runs.proofs.Words.{map, ◌≡◌, ◌⊎◌, inl, inr, ℕ, ◌+◌, ◌<◌, ◌≤◌, ◌==◌, ◌&&◌, not, Bool, true, false, [], ◌∷◌, ◌++◌, length, refl, sym, ap, subst, ◌∙◌, arith, if◌then◌else◌, le_refl, nat_tests, same_tid, same_member, same_tid-self, Member, NodeNo, ServerNo, Tid, Delivery, Inv, BookValue, inc_at, is_standing, Request, RequestNo, Op, Message, is_other, member_here, ask_on, enter_issue, is_asked, issue_away, issue_here, label_of, with_local, Work, here, with_manager, with_queues}
use Rattle.qs_world_runs.proofs.Words.{Sending, Outstanding, sent_to, at_server, is_asking_for, Field, asked, LeavesPlaces, PlacedAmid, book_amid, field_amid, eqb-self, eq-eqb}
use Rattle.qs_ipc.specs.Ipc as ipc
use Rattle.qs_ipc.specs.Queue.{is_for}
use Rattle.qs_book_journal.specs.declared.entry.Act.TheVariants as acts
use Rattle.qs_book_machine.specs.Lawful.{IsLawful}
use Rattle.qs_packet.specs.declared.message.Message.TheVariants as messages
use Rattle.qs_tm.specs.Manager as tm
use Rattle.qs_world_refine.proofs.Posting.{send_is, sent_work}
use Rattle.qs_world_lawful.specs.Face.{is_numbered}
use Rattle.qs_world_runs.specs.PlacesAmid.{counted}
use Rattle.qs_world_runs.proofs.CountedQueues.{count_enqueued}
use Rattle.qs_world_runs.proofs.PlacedActs.{issue_obliged}
use Rattle.qs_world_runs.proofs.PlacedAmid.{act_on, entries, lawful_then, left_on}
use Rattle.qs_world_runs.proofs.FieldRoom.{goes_more, here_more, more_back, more_grows, stays_more}
use Rattle.qs_world_runs.proofs.PlacedIssued.{numbered_next}
use Rattle.qs_world_runs.proofs.PlacedServes.{MoreRoom, one_if}
use Rattle.qs_world_runs.proofs.PlacedTx.{Grows}
use Rattle.qs_world_runs.proofs.PlacesLeft.{itself_leaves, send_leaves, sent_more}
use Rattle.qs_base_lemmas.proofs.Tests.{and_true}

-- ---- one request

module _ (t : Tid) (base : Field) (knows : ℕ → ℕ) (n stamp : ℕ) (before : BookValue) (i : Inv before) (request : Outstanding) (op : Op) (work : Work) (here_is : (here work).0 ≡ n) (n_in : n < base.size) where
  abbrev pub its_no : RequestNo
  its_no = record { link = record { from = record { 0 = n }; to = request.member.node }; number = request.number }

  -- in the incarnation that the machine has
  abbrev pub IsNow : Type 0
  IsNow = inc_at (book_amid n stamp before work) (record { 0 = n }) ≡ base.inc n

  abbrev amid : Work → Field
  amid w = field_amid base knows n w

  stands_is : (r : Request) → r.member ≡ request.member → r.served ≡ false → (server : ServerNo) → is_standing (at_server request.member.node server) r ≡ (server.0 == request.member.server.0)
  stands_is r m s server = ap (λ (b : Bool). same_member r.member (at_server request.member.node server) && not b) s ∙ (ap (λ (x : Member). same_member x (at_server request.member.node server) && true) m ∙ alike request.member.node.0 request.member.server.0 server.0)
    where
      alike : (a b c : ℕ) → (((a == a) && (b == c)) && true) ≡ (c == b)
      alike a b c = by (b == c) (c == b) refl refl
        where
          by : (x y : Bool) → (b == c) ≡ x → (c == b) ≡ y → (((a == a) && (b == c)) && true) ≡ (c == b)
          by x y p q = grind (arith, nat_tests)

  -- ---- at its own node

  module _ (fits : is_for request.member.server op ≡ true) (own : request.member.node ≡ here work) where
    abbrev delivery : Delivery
    delivery = record { tid = t; from = here work; number = request.number; op = op; stale = false }

    abbrev entered : Work
    entered = with_local t request.number (enter_issue t request op work)

    abbrev queued : Work
    queued = with_queues (ipc.enqueue request.member.server delivery) entered

    more : (at : RequestNo) (server : ServerNo) → counted t at server queued.node ≡ counted t at server work.node + one_if ((server.0 == request.member.server.0) && is_numbered at delivery)
    more at server = count_enqueued t at work.node.queues request.member.server delivery (same_tid-self t) server

    no_less : (at : RequestNo) (server : ServerNo) → counted t at server work.node ≤ counted t at server queued.node
    no_less at server = up (counted t at server work.node) (counted t at server queued.node) (one_if ((server.0 == request.member.server.0) && is_numbered at delivery)) (more at server)
      where
        up : (a b k : ℕ) → b ≡ a + k → a ≤ b
        up a b k e = omega (arith, e)

    to_n : (request.member.node.0 == n) ≡ true
    to_n = eq-eqb request.member.node.0 n (ap (λ (k : NodeNo). k.0) own ∙ here_is)

    numbered : is_numbered its_no delivery ≡ true
    numbered = both (here work).0 n request.number here_is
      where
        both : (a b c : ℕ) → a ≡ b → ((a == b) && (c == c)) ≡ true
        both a b c e = grind (arith, nat_tests, e)

    queued_grows : Grows t (amid work) (amid queued)
    queued_grows = more_grows t base knows n work queued no_less (λ q server number. le_refl (asked t server number (sent_to q work.out.messages)))

    queued_room : base.up n ≡ true → (r : Request) → r.member ≡ request.member → r.served ≡ false → MoreRoom t (amid work) (amid queued) its_no r
    queued_room on r m s = record {
      runs = λ up server. here_more t base knows n work queued its_no server (one_if (is_standing (at_server request.member.node server) r)) to_n
          (more its_no server ∙ ap (λ (b : Bool). counted t its_no server work.node + one_if b) (its server)) (le_refl (asked t server request.number (sent_to request.member.node.0 work.out.messages)));
      stopped = λ off. absurd (let up : base.up request.member.node.0 ≡ true = ap base.up (ap (λ (k : NodeNo). k.0) own ∙ here_is) ∙ on in cc (up, off));
    }
      where
        its : (server : ServerNo) → ((server.0 == request.member.server.0) && is_numbered its_no delivery) ≡ is_standing (at_server request.member.node server) r
        its server = ap (λ (b : Bool). (server.0 == request.member.server.0) && b) numbered ∙ (and_true (server.0 == request.member.server.0) ∙ sym (stands_is r m s server))

    pub issued_here : base.up n ≡ true → IsNow → IsLawful before (entries t base knows n stamp before i (issue_here t request op work)) → PlacedAmid t base knows n stamp before work → PlacedAmid t base knows n stamp before (issue_here t request op work)
    issued_here on now lawful placed = subst (λ (w : Work). IsLawful before (entries t base knows n stamp before i w) → PlacedAmid t base knows n stamp before w) (sym is) (λ allowed.
        act_on t base knows n stamp before i work queued (acts.Issue t (member_here work request.issuer) request.member request.number op) refl allowed
        (λ h. issue_obliged t (amid work) (amid queued) queued_grows (book_amid n stamp before work) stamp n t (member_here work request.issuer) request.member request.number op n_in on now in_run (queued_room on _ refl refl)
        (numbered_next (book_amid n stamp before work) n stamp t (member_here work request.issuer) request.member request.number op h)) placed) lawful
      where
        in_run : request.member.node.0 < base.size
        in_run = subst (λ (k : ℕ). k < base.size) (sym (ap (λ (k : NodeNo). k.0) own ∙ here_is)) n_in

        is : issue_here t request op work ≡ queued
        is = ap (λ (b : Bool). if b then queued else entered) fits

  -- ---- to another

  module _ (in_run : request.member.node.0 < base.size) (other : is_other work.node.setting request.member.node ≡ true) where
    abbrev message : Message
    message = messages.Request t (label_of t work.node) request.member request.number request.issuer op

    abbrev counting : Work
    counting = with_manager (tm.sent t request.member.node) (enter_issue t request op work)

    abbrev put : Work
    put = sent_work request.member.node message counting

    abbrev sending : Sending
    sending = record { to = request.member.node; message = message }

    more_asked : (q : ℕ) (server : ServerNo) (number : ℕ) → asked t server number (sent_to q put.out.messages) ≡ asked t server number (sent_to q work.out.messages) + asked t server number (sent_to q (sending ∷ []))
    more_asked q server number = sent_more t server number q work.out.messages sending

    never_less : (q : ℕ) (server : ServerNo) (number : ℕ) → asked t server number (sent_to q work.out.messages) ≤ asked t server number (sent_to q put.out.messages)
    never_less q server number = up (asked t server number (sent_to q work.out.messages)) (asked t server number (sent_to q put.out.messages)) (asked t server number (sent_to q (sending ∷ []))) (more_asked q server number)
      where
        up : (a b k : ℕ) → b ≡ a + k → a ≤ b
        up a b k e = omega (arith, e)

    its_own : (r : Request) → r.member ≡ request.member → r.served ≡ false → (server : ServerNo) → asked t server request.number (sent_to request.member.node.0 (sending ∷ [])) ≡ one_if (is_standing (at_server request.member.node server) r)
    its_own r m s server = picked (request.member.node.0 == request.member.node.0) (eqb-self request.member.node.0) ∙ (by (server.0 == request.member.server.0) refl ∙ ap one_if (sym (stands_is r m s server)))
      where
        picked : (b : Bool) → b ≡ true → asked t server request.number (map (λ (x : Sending). x.message) (if b then sending ∷ [] else [])) ≡ length (is_asking_for t server request.number message ++ [])
        picked b is = rw is refl

        by : (b : Bool) → (server.0 == request.member.server.0) ≡ b → length (is_asking_for t server request.number message ++ []) ≡ one_if (server.0 == request.member.server.0)
        by true is = let tests : (same_tid t t && ((request.member.server.0 == server.0) && (request.number == request.number))) ≡ true = yes (same_tid t t) request.member.server.0 server.0 request.number (same_tid-self t) is in rw (tests, is) refl
          where
            yes : (b : Bool) (x y k : ℕ) → b ≡ true → (y == x) ≡ true → (b && ((x == y) && (k == k))) ≡ true
            yes b x y k so e = grind (arith, nat_tests, so, e)
        by false is = let tests : (same_tid t t && ((request.member.server.0 == server.0) && (request.number == request.number))) ≡ false = no (same_tid t t) request.member.server.0 server.0 request.number is in rw (tests, is) refl
          where
            no : (b : Bool) (x y k : ℕ) → (y == x) ≡ false → (b && ((x == y) && (k == k))) ≡ false
            no true x y k e = grind (arith, nat_tests, e)
            no false x y k e = refl

    put_grows : Grows t (amid work) (amid put)
    put_grows = more_grows t base knows n work put (λ at server. le_refl (counted t at server work.node)) never_less

    -- the incarnation that is known runs, or none is known
    abbrev pub Reaches : Type 0
    Reaches = ((knows request.member.node.0 == 0) ≡ true) ⊎ ((base.up request.member.node.0 ≡ true) × (((knows request.member.node.0 == base.inc request.member.node.0) && not (knows request.member.node.0 == 0)) ≡ true))

    self_n : (n == n) ≡ true
    self_n = grind (arith, nat_tests)

    own_and : (b : Bool) → b ≡ true → ((n == n) && b) ≡ true
    own_and b is = rw (self_n, is) refl

    put_room : Reaches → (r : Request) → r.member ≡ request.member → r.served ≡ false → MoreRoom t (amid work) (amid put) its_no r
    put_room (inl unknown) r m s = record {
      runs = λ up server. stays_more t base knows n work put its_no server (one_if (is_standing (at_server request.member.node server) r)) (own_and (knows request.member.node.0 == 0) unknown) (le_refl (counted t its_no server work.node)) (its server);
      stopped = λ off server. more_back t base knows n work put its_no server (one_if (is_standing (at_server request.member.node server) r)) (own_and (knows request.member.node.0 == 0) unknown) (its server);
    }
      where
        its : (server : ServerNo) → asked t server request.number (sent_to request.member.node.0 put.out.messages) ≡ asked t server request.number (sent_to request.member.node.0 work.out.messages) + one_if (is_standing (at_server request.member.node server) r)
        its server = more_asked request.member.node.0 server request.number ∙ ap (λ (k : ℕ). asked t server request.number (sent_to request.member.node.0 work.out.messages) + k) (its_own r m s server)
    put_room (inr known) r m s = record {
      runs = λ up server. goes_more t base knows n work put its_no server (one_if (is_standing (at_server request.member.node server) r)) (own_and ((knows request.member.node.0 == base.inc request.member.node.0) && not (knows request.member.node.0 == 0)) known.1)
          (le_refl (counted t its_no server work.node)) (its server);
      stopped = λ off. absurd (let up : base.up request.member.node.0 ≡ true = known.0 in cc (up, off));
    }
      where
        its : (server : ServerNo) → asked t server request.number (sent_to request.member.node.0 put.out.messages) ≡ asked t server request.number (sent_to request.member.node.0 work.out.messages) + one_if (is_standing (at_server request.member.node server) r)
        its server = more_asked request.member.node.0 server request.number ∙ ap (λ (k : ℕ). asked t server request.number (sent_to request.member.node.0 work.out.messages) + k) (its_own r m s server)

    asks_on : (b : Bool) → LeavesPlaces t put (ask_on b t request.member.node put)
    asks_on false = itself_leaves t put
    asks_on true = send_leaves t request.member.node (messages.AskVote t) put (λ server number. refl)

    pub issued_away : base.up n ≡ true → IsNow → Reaches → IsLawful before (entries t base knows n stamp before i (issue_away t request op work)) → PlacedAmid t base knows n stamp before work → PlacedAmid t base knows n stamp before (issue_away t request op work)
    issued_away on now reach lawful placed = subst (λ (w : Work). IsLawful before (entries t base knows n stamp before i w) → PlacedAmid t base knows n stamp before w) (sym is) (λ allowed.
        left_on t base knows n stamp before i put asking (asks_on (is_asked t work)) allowed
        (act_on t base knows n stamp before i work put (acts.Issue t (member_here work request.issuer) request.member request.number op) refl (lawful_then t base knows n stamp before i put asking (asks_on (is_asked t work)).more (asks_on (is_asked t work)).entries allowed)
        (λ h. issue_obliged t (amid work) (amid put) put_grows (book_amid n stamp before work) stamp n t (member_here work request.issuer) request.member request.number op n_in on now in_run (put_room reach _ refl refl)
        (numbered_next (book_amid n stamp before work) n stamp t (member_here work request.issuer) request.member request.number op h)) placed)) lawful
      where
        asking : Work
        asking = ask_on (is_asked t work) t request.member.node put

        is : issue_away t request op work ≡ asking
        is = ap (λ (w : Work). ask_on (is_asked t work) t request.member.node w) (send_is request.member.node message counting other)
