-- A serve, with the loan that it makes; and a reply that its client is answered with.
use Rattle.std.proofs.Common.{◌≡◌, ◌∙◌, ℕ, ◌==◌, Bool, true, false, List, [], ◌∷◌, ◌++◌, Option, Some, None, append_assoc, inl, inr, refl, sym, ap, subst}
use Rattle.std.specs.Prelude.{slice_get, unwrap_or, if◌then◌else◌}
use Rattle.std.specs.BTreeMap.{is_at}
use Rattle.std.specs.List.{list_any}
use Rattle.std.specs.Map.{lookup, set_value}
use Rattle.std.specs.Option.{option_map}
use Rattle.qs_base.specs.declared.identifiers.ClientNo.{ClientNo}
use Rattle.qs_base.specs.declared.identifiers.ServerNo.{ServerNo}
use Rattle.qs_base.specs.declared.identifiers.Tid.{Tid}
use Rattle.qs_base_lemmas.proofs.Tests.{eqb-self, some_same}
use Rattle.qs_ipc.specs.declared.delivery.Delivery.{Delivery}
use Rattle.qs_ops.specs.Operations.{answer_of}
use Rattle.qs_ops.specs.declared.reply.Reply.{Reply}
use Rattle.qs_ops.specs.declared.reply.Reply.TheVariants as replies
use Rattle.qs_book_journal.specs.declared.entry.Act.{Act}
use Rattle.qs_book_journal.specs.declared.entry.Act.TheVariants as acts
use Rattle.qs_book_journal.specs.declared.script_line.ScriptLine.{ScriptLine}
use Rattle.qs_book_laws.proofs.Acts.{by_serve}
use Rattle.qs_book_laws.proofs.Faces.{Age, age}
use Rattle.qs_book_laws.proofs.Maps.{Either, changed_either}
use Rattle.qs_book_machine.specs.Book.{changed_at, inc_at}
use Rattle.qs_book_machine.specs.Nodes as machine
use Rattle.qs_book_machine.specs.Transaction.{changed_value}
use Rattle.qs_book_conformance.specs.Alike.{is_answer_of}
use Rattle.qs_book_conformance.specs.Borrowing.{node_no}
use Rattle.qs_book_conformance.specs.Commands.{is_take}
use Rattle.qs_book_conformance.specs.Course.{ClientValue, CourseValue, is_seat, replies_to, sought_cmp}
use Rattle.qs_book_conformance.specs.Effects.{course_after, lent_in, line_effect, refused_by, with_borrowing}
use Rattle.qs_book_conformance.specs.Rules.{broken_loan}
use Rattle.qs_book_conformance.specs.declared.fault.Rule.TheVariants as rules
use Rattle.qs_book_conformance.specs.declared.values.CommandMade.TheVariants as makes
use Rattle.qs_book_conformance.specs.declared.values.Sought.{Sought}
use Rattle.qs_node_servers.specs.Servers.{client_of}
use Rattle.qs_node_step.specs.Bringing.{member_here}
use Rattle.qs_node_step.specs.Borrowing.{is_void}
use Rattle.qs_node_step.specs.Serving.{lent_to}
use Rattle.qs_node_step.specs.State.{Work}
use Rattle.qs_node_step.specs.Step.{is_owner}
use Rattle.qs_node_step.specs.declared.state.Issued.{Issued}
use Rattle.qs_node_step.specs.declared.state.OpenCommand.{OpenCommand}
use Rattle.qs_world.specs.Posting.{entry_of}
use Rattle.qs_world_course.specs.Clients.{ForClients, sought_of}
use Rattle.qs_world_course.specs.Due.{IsDue, IsOf, IsOfLoan, IsReplied, IsVoidSo, Said}
use Rattle.qs_world_course.specs.Going.{LeavesClient, with_loan}
use Rattle.qs_world_course.specs.KindLaws.{LeavesClients}
use Rattle.qs_world_course.proofs.Borrows.{lends_go}
use Rattle.qs_world_course.proofs.DueLaws.{borrower_is_replied, owner_is_replied}
use Rattle.qs_world_course.proofs.KindsKept.{lines_leave_clients}
use Rattle.qs_world_walk.specs.Deed as d
use Rattle.qs_world_walk.specs.Deed.{closed, did, lent, loan_entered}
use Rattle.qs_world_walk.specs.May.{InHand}
use Rattle.qs_world_said.specs.Amid.{AreAmid, ClientAmid, IsAmid, IsFor, IsSaidSo, clients_of, course_amid, unhanded}
use Rattle.qs_world_said.specs.Deeds.{RepliesKeep, ServesAwayKeep, ServesKeep}
use Rattle.qs_world_said.specs.Knows.{HasUngiven, KnowsAtStage, KnowsIssued, KnowsReply, KnowsTid, SitsHere}
use Rattle.qs_world_said.proofs.Answers as answering
use Rattle.qs_world_said.proofs.Frames.{KeepsReplies, amid_stays, goes, leaves_itself, of_state}
use Rattle.qs_world_said.proofs.InHand.{Handed, made_as}
use Rattle.qs_world_said.proofs.Lookups.{last_stays, lent_far}
use Rattle.qs_world_said.proofs.Makes.{changed_amid, changed_there}

-- ---- the incarnation stays

abbrev pub inc_or : Option machine.NodeValue → ℕ
inc_or o = elim o [ None ↦ 0 | Some state ↦ state.inc ]

pub inc_alike : (o p : Option machine.NodeValue) → option_map age o ≡ option_map age p → inc_or o ≡ inc_or p
inc_alike o p same = sym (as_age o) ∙ (ap inc_in same ∙ as_age p)
  where
    inc_in : Option Age → ℕ
    inc_in None = 0
    inc_in (Some at) = at.inc

    as_age : (q : Option machine.NodeValue) → inc_in (option_map age q) ≡ inc_or q
    as_age None = refl
    as_age (Some state) = refl

-- ---- a serve, and a loan

module _ (stamp : ℕ) (before : CourseValue) (work : Work) (server : ServerNo) (delivery : Delivery) (reply : Reply) (knows : KnowsAtStage (course_amid stamp before work) work.node)
    (came : Option ClientNo) (h : IsSaidSo stamp before came work) where
  abbrev was : CourseValue
  was = course_amid stamp before work

  abbrev had : ForClients
  had = clients_of work

  abbrev here : ℕ
  here = had.here.0

  abbrev tid : Tid
  tid = delivery.tid

  abbrev act : Act
  act = acts.Serve tid (member_here work server) delivery.from delivery.number reply

  abbrev entered : CourseValue
  entered = course_after was (entry_of here stamp act)

  abbrev sought : Sought
  sought = record { tid = tid; member = member_here work server; from = delivery.from; number = delivery.number }

  abbrev more : List Reply → List Reply
  more given = given ++ reply ∷ []

  leaves : LeavesClients was (line_effect stamp here act was)
  leaves = lines_leave_clients stamp here act was

  clients_are : entered.clients ≡ was.clients
  clients_are = leaves.clients

  replies_are : entered.replies ≡ changed_value (is_at (sought_cmp sought)) more was.replies
  replies_are = ap (changed_value (is_at (sought_cmp sought)) more) leaves.replies

  keeps_replies : KeepsReplies was entered
  keeps_replies other given there = by (lookup (is_at (sought_cmp sought)) was.replies) refl
    where
      Kept : List (Sought × List Reply) → Type 0
      Kept rs = (later : List Reply) × (lookup (is_at (sought_cmp other)) rs ≡ Some later)

      at : (v : List Reply) → Either (lookup (is_at (sought_cmp other)) was.replies) (lookup (is_at (sought_cmp other)) (changed_value (is_at (sought_cmp sought)) more was.replies)) v (more v)
          → Kept (changed_value (is_at (sought_cmp sought)) more was.replies)
      at v (inl same) = (given, same ∙ there)
      at v (inr both) = (more v, both.1)

      by : (o : Option (List Reply)) → lookup (is_at (sought_cmp sought)) was.replies ≡ o → Kept entered.replies
      by None none = subst Kept (sym (replies_are ∙ unchanged none)) (given, there)
        where
          unchanged : lookup (is_at (sought_cmp sought)) was.replies ≡ None → changed_value (is_at (sought_cmp sought)) more was.replies ≡ was.replies
          unchanged e = ap (λ (o : Option (List Reply)). elim o [ None ↦ was.replies | Some v ↦ set_value (is_at (sought_cmp sought)) was.replies (more v) ]) e
      by (Some v) found = subst Kept (sym replies_are) (at v (changed_either (is_at (sought_cmp sought)) (is_at (sought_cmp other)) more was.replies v found))

  served_amid : AreAmid entered had came
  served_amid client = amid_stays client had had (leaves_itself client had) came was entered (ap (λ cs. slice_get cs client.0) clients_are) keeps_replies (h.on client)

  -- ---- the loan

  module _ (client : ClientNo) (sits : SitsHere was work.node (Some client)) where
    abbrev loaned : CourseValue
    loaned = course_after entered (entry_of here stamp (acts.Loan tid client))

    abbrev state : ClientValue
    state = sits.0

    inc_stays : inc_at entered.book (node_no here) ≡ had.inc
    inc_stays = inc_alike (slice_get entered.book.nodes here) (slice_get was.book.nodes here) ((by_serve here tid (member_here work server) delivery.from delivery.number stamp reply was.book).ages here) ∙ knows.machine.inc

    clients_lent : loaned.clients ≡ changed_at client.0 (with_borrowing tid (lent_in had.inc)) was.clients
    clients_lent = ap (λ (n : ℕ). changed_at client.0 (with_borrowing tid (lent_in n)) entered.clients) inc_stays ∙ ap (changed_at client.0 (with_borrowing tid (lent_in had.inc))) clients_are

    keeps_lent : KeepsReplies was loaned
    keeps_lent = keeps_replies

    seated : broken_loan entered here client ≡ None
    seated = subst (λ (o : Option ClientValue). (if (elim o [ None ↦ false | Some c ↦ is_seat c.seat here ]) then None else Some rules.LoanAtItsNode) ≡ None)
        (sym (ap (λ cs. slice_get cs client.0) clients_are ∙ sits.1.0)) (rw sits.1.1 refl)

    abbrev now : ForClients
    now = with_loan client tid had

    lends : IsAmid had came client state → IsAmid now came client (with_borrowing tid (lent_in had.inc) state)
    lends (inl held) = inl (lends_go had client state.left state tid held)
    lends (inr (its, just)) = inr (its, record { line = just.line; first = just.first; there = just.there; held = lends_go (unhanded had) client state.left state tid just.held })

    own : ClientAmid loaned now came client
    own = let a = h.on client in of_state loaned now came client (with_borrowing tid (lent_in had.inc) state) (record {
      there = changed_there was loaned client (with_borrowing tid (lent_in had.inc)) state clients_lent sits.1.0;
      sits = sits.1.1;
      amid = lends (a.each state sits.1.0 sits.1.1);
      ungiven = a.ungiven state sits.1.0 sits.1.1;
      idle = a.idle state sits.1.0 sits.1.1;
      waits = λ command issued is has. let kept = a.waits command issued is has in keeps_lent (sought_of had.here issued) kept.0 kept.1;
    })

    others_lent : (other : ClientNo) → (client.0 == other.0) ≡ false → LeavesClient other had now
    others_lent other far = record {
      here = refl;
      inc = refl;
      in_hand = refl;
      labels = λ label. refl;
      outcomes = λ another decided is. (decided, is);
      loans = λ another. lent_far client other tid another had.inc had.kept.loans far;
      last = λ another. last_stays other client another tid had.inc had.kept.loans;
    }

    lent_amid : AreAmid loaned now came
    lent_amid = changed_amid was loaned had now client (with_borrowing tid (lent_in had.inc)) clients_lent keeps_lent others_lent came (λ other far. h.on other) own

  -- ---- both

  abbrev lends_to : Option ClientNo → ForClients
  lends_to o = record had { kept = record had.kept { loans = lent tid had.inc o had.kept.loans } }

  pub serve_on : (new : Work) (o : Option ClientNo) → new.node.setting ≡ work.node.setting → clients_of new ≡ lends_to o → new.out.entries ≡ loan_entered tid o (work.out.entries ++ act ∷ []) → SitsHere was work.node o → IsSaidSo stamp before came new
  serve_on new None setting same entries sits = goes stamp before work new (act ∷ []) setting entries came came h (refl, tt) (subst (λ (n : ForClients). AreAmid entered n came) (sym same) served_amid)
  serve_on new (Some client) setting same entries sits = goes stamp before work new (act ∷ acts.Loan tid client ∷ []) setting
      (entries ∙ append_assoc work.out.entries (act ∷ []) (acts.Loan tid client ∷ [])) came came h (refl, (seated client sits, tt)) (subst (λ (n : ForClients). AreAmid (loaned client sits) n came) (sym same) (lent_amid client sits))

pub serves_keep : ServesKeep
serves_keep stamp before work server delivery reply knows sits came h = serve_on stamp before work server delivery reply knows came h (did (d.Serves server delivery reply) work) (lent_to delivery.op) refl refl refl sits

pub serves_away_keep : ServesAwayKeep
serves_away_keep stamp before work server delivery reply knows sits came h = serve_on stamp before work server delivery reply knows came h (did (d.ServesAway server delivery reply) work) (lent_to delivery.op) refl refl refl sits

-- ---- a reply

reply_refuses : (reply : Reply) (line : ScriptLine) (c : ClientValue) → refused_by line (answer_of reply) c ≡ c
reply_refuses replies.Done line c = refl
reply_refuses (replies.Value text) line c = refl
reply_refuses (replies.Left ticks) line c = refl
reply_refuses (replies.Names list) line c = refl
reply_refuses (replies.Notes list) line c = refl
reply_refuses (replies.Busy holder) line c = refl
reply_refuses replies.Absent line c = refl
reply_refuses replies.TooMany line c = refl
reply_refuses replies.TooLong line c = refl

module _ (stamp : ℕ) (before : CourseValue) (work : Work) (client : ClientNo) (command : OpenCommand) (issued : Issued) (reply : Reply) (knows : KnowsAtStage (course_amid stamp before work) work.node) (at : InHand client command work)
    (is : command.issued ≡ Some issued) (r : KnowsReply (course_amid stamp before work) work.node client command issued reply)
    (came : Option ClientNo) (mine : IsFor client came) (h : IsSaidSo stamp before came work) where
  abbrev course : CourseValue
  course = course_amid stamp before work

  abbrev node : ForClients
  node = clients_of work

  abbrev hand : Handed course node came client command
  hand = answering.hand stamp before work client command knows at came mine h

  abbrev its : Said
  its = answering.s stamp before work client command knows at came mine h

  abbrev i : KnowsIssued work.node client command issued
  i = knows.names.issued client command issued at is

  abbrev t : KnowsTid course client command.line.label i.begun issued.tid
  t = knows.names.tids client command i.begun issued.tid at i.met i.of

  of : (own : Bool) → is_owner client i.begun.owner ≡ own → IsOf its own issued.tid t.tx
  of own owns_it = answering.is_of stamp before work client command knows at came mine h own i.begun issued.tid i.met owns_it i.of t

  made : hand.state.made ≡ makes.Issued (sought_of node.here issued)
  made = by hand.amid
    where
      by : IsAmid node came client hand.state → hand.state.made ≡ makes.Issued (sought_of node.here issued)
      by (inl held) = made_as node.here command hand.state.made (Some issued) is (held.made command at)
      by (inr (mine_is, just)) = absurd (cc (ap (λ (c : OpenCommand). c.issued) (some_same (sym just.there ∙ at)) ∙ is))

  given : list_any (is_answer_of (answer_of reply)) (replies_to course (sought_of node.here issued)) ≡ true
  given = let kept = (h.on client).waits command issued at is in by (lookup (is_at (sought_cmp (sought_of node.here issued))) course.replies) kept.0 kept.1 r.given
    where
      by : (o : Option (List Reply)) (kept : List Reply) → o ≡ Some kept → (elim o [ None ↦ true | Some gave ↦ list_any (is_answer_of (answer_of reply)) gave ]) ≡ true → list_any (is_answer_of (answer_of reply)) (unwrap_or o []) ≡ true
      by None kept e f = absurd (cc e)
      by (Some gave) kept e f = f

  replied : IsReplied its reply
  replied = record { member = issued.member; op = i.op; asks = i.asks; sought = sought_of node.here issued; made = made; given = given }

  untaken : is_take command.line.command ≡ false
  untaken = ap is_take i.asks

  owned : is_owner client i.begun.owner ≡ true → IsDue its (answer_of reply)
  owned own = owner_is_replied its issued.tid t.tx reply (of true own) replied (r.stands t.tx t.found (t.owner ∙ own))

  lent_to_it : is_owner client i.begun.owner ≡ false → IsDue its (answer_of reply)
  lent_to_it other = borrower_is_replied its issued.tid t.tx work.node.kept.now.loans lent_loan.loan reply of_loan replied lent_loan.ungiven void
    where
      lent_loan : HasUngiven work.node client issued.tid
      lent_loan = i.lent other

      of_loan : IsOfLoan its issued.tid t.tx work.node.kept.now.loans lent_loan.loan
      of_loan = record { of = of false other; which = inr (issued.member, (i.op, i.asks)); ungiven = hand.ungiven; held = answering.has_loans stamp before work client command knows at came mine h issued.tid; last = lent_loan.last }

      good : is_void issued.tid lent_loan.loan work.node ≡ false
      good = rw (lent_loan.present, eqb-self work.node.setting.inc, r.unaborted) refl

      void : IsVoidSo its t.tx lent_loan.loan false
      void = subst (IsVoidSo its t.tx lent_loan.loan) good (answering.void_so stamp before work client command knows at came mine h issued.tid t.tx (knows.machine.aborts issued.tid t.tx t.found) lent_loan.loan)

  due : IsDue its (answer_of reply)
  due = by (is_owner client i.begun.owner) refl
    where
      by : (b : Bool) → is_owner client i.begun.owner ≡ b → IsDue its (answer_of reply)
      by true e = owned e
      by false e = lent_to_it e

  pub answered_on : IsSaidSo stamp before None (closed client command (answer_of reply) work)
  answered_on = answering.plain stamp before work client command knows at came mine h (answer_of reply) untaken (λ c. reply_refuses reply command.line c) due

pub replies_keep : RepliesKeep
replies_keep stamp before work _ member number request command issued reply knows at is r came mine h =
    let k : IsSaidSo stamp before None (closed (client_of request.issuer) command (answer_of reply) work) = answered_on stamp before work (client_of request.issuer) command issued reply knows at is r came mine h in
    record { keeps = k.keeps; on = k.on }
