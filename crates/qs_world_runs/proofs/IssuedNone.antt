-- A rule enters a request only where it issues one: whatever else is served, voted, answered or told, each request that stands among its entries stood there before.
use Rattle.qs_world_runs.proofs.Words.{◌≡◌, ◌⊎◌, inl, inr, ℕ, Bool, true, false, List, [], ◌∷◌, ◌++◌, fold, Option, Some, None, refl, subst, if◌then◌else◌, same_tid-self, ClientNo, Member, NodeNo, ServerNo, Tid, same_node, Delivery, Act, give_back, after_serving, Op, Reply, Vote, Message, is_client, yield, enter, member_here, send, reply_came, engage, enter_serve, is_dropped, learn_label, lent_to, make_loan, reply_here, request_came, serve, serve_all, serve_next, serve_or_drop, take_in, Work}
use Rattle.qs_world_runs.proofs.Words.{change_server, here, with_doings, with_kept, with_manager, with_queues, message_came, enter_vote, log_vote, vote_with, Among, is_loud, LeavesPlaces}
use Rattle.qs_ipc.specs.Ipc as ipc
use Rattle.qs_ipc.specs.Queue.{is_for}
use Rattle.qs_book_journal.specs.declared.entry.Act.TheVariants as acts
use Rattle.qs_ops.specs.declared.answer.Answer.TheVariants as answers
use Rattle.qs_ops.specs.declared.vote.Vote.TheVariants as votes
use Rattle.qs_packet.specs.declared.message.Message.TheVariants as messages
use Rattle.qs_node_step.specs.Serving.{may_serve}
use Rattle.qs_node_step.specs.State.{part_of}
use Rattle.qs_tm.specs.Manager as tm
use Rattle.qs_world_runs.proofs.AwaitedKept.{among_left}
use Rattle.qs_world_runs.proofs.LeftRequests.{engage_leaves, label_leaves, reply_leaves}
use Rattle.qs_world_runs.proofs.PlacesLeft.{answer_leaves, send_leaves}
use Rattle.qs_world_runs.proofs.StepsGo.{message_leaves}

pub among_either : {A : Type 0} (x : A) (xs ys : List A) → Among x (xs ++ ys) → Among x xs ⊎ Among x ys
among_either x [] ys a = inr a
among_either x (y ∷ xs) ys (inl is) = inl (inl is)
among_either x (y ∷ xs) ys (inr more) = by (among_either x xs ys more)
  where
    by : Among x xs ⊎ Among x ys → Among x (y ∷ xs) ⊎ Among x ys
    by (inl a) = inl (inr a)
    by (inr b) = inr b

module _ (tid : Tid) (issuer member : Member) (number : ℕ) (op : Op) where
  abbrev pub the_issue : Act
  the_issue = acts.Issue tid issuer member number op

  abbrev pub Has : Work → Type 0
  Has work = Among the_issue work.out.entries

  abbrev pub IssuesNone : Work → Work → Type 0
  IssuesNone work new = Has new → Has work

  pub none_left : (work new : Work) → LeavesPlaces tid work new → IssuesNone work new
  none_left work new left has = by (among_either the_issue work.out.entries left.more (subst (λ (es : List Act). Among the_issue es) left.entries has))
    where
      by : Has work ⊎ Among the_issue left.more → Has work
      by (inl before) = before
      by (inr more) = absurd (subst (λ (es : List Act). Among the_issue es) left.silent (among_left (is_loud tid) the_issue left.more (same_tid-self tid) more))

  pub none_entry : (act : Act) (work new : Work) → (the_issue ≡ act → ⊥) → new.out.entries ≡ work.out.entries ++ act ∷ [] → IssuesNone work new
  none_entry act work new other more has = by (among_either the_issue work.out.entries (act ∷ []) (subst (λ (es : List Act). Among the_issue es) more has))
    where
      by : Has work ⊎ Among the_issue (act ∷ []) → Has work
      by (inl before) = before
      by (inr (inl is)) = absurd (other is)
      by (inr (inr none)) = absurd none

  pub none_then : (a b c : Work) → IssuesNone a b → IssuesNone b c → IssuesNone a c
  none_then a b c p q has = p (q has)

  none_if : (b : Bool) (x y work : Work) → IssuesNone work x → IssuesNone work y → IssuesNone work (if b then x else y)
  none_if true x y work p q = p
  none_if false x y work p q = q

  none_elim : {A : Type 0} (o : Option A) (n : Work) (f : A → Work) (work : Work) → IssuesNone work n → ((x : A) → IssuesNone work (f x)) → IssuesNone work (elim o [ None ↦ n | Some x ↦ f x ])
  none_elim None n f work p q = p
  none_elim (Some x) n f work p q = q x

  none_fold : {A : Type 0} (f : Work → A → Work) → ((w : Work) (x : A) → IssuesNone w (f w x)) → (xs : List A) (work : Work) → IssuesNone work (fold f work xs)
  none_fold f each [] work has = has
  none_fold f each (x ∷ xs) work has = each work x (none_fold f each xs (f work x) has)

  -- ---- votes, and a loan given back

  pub none_voted : (t : Tid) (server : ServerNo) (ballot : Vote) (work : Work) → IssuesNone work (vote_with t server ballot work)
  none_voted t server ballot work = none_then work voted (vote_with t server ballot work) (none_entry (acts.Vote t _ ballot _) work voted (λ is. cc is) refl) (logged ballot)
    where
      voted : Work
      voted = enter_vote t server ballot work

      logged : (b : Vote) → IssuesNone voted (log_vote b t server voted)
      logged (votes.Abort reason) has = has
      logged votes.ReadOnly has = has
      logged votes.Volatile has = has
      logged votes.Recoverable has = has

  pub none_yielded : (client : ClientNo) (t : Tid) (work : Work) → IssuesNone work (yield client t work)
  none_yielded client t work = none_then work given (yield client t work) (none_entry (acts.Yield t client) work given (λ is. cc is) refl) (none_left given (yield client t work) (answer_leaves tid client answers.Done given))
    where
      given : Work
      given = with_doings t (λ doings. record doings { yielded = true }) (enter (acts.Yield t client) (with_kept (λ kept. record kept { loans = give_back client t kept.loans }) work))

  -- ---- what waits is served

  none_lent : (t : Tid) (o : Option ClientNo) (work : Work) → IssuesNone work (make_loan t o work)
  none_lent t None work = λ has. has
  none_lent t (Some client) work = none_entry (acts.Loan t client) work (make_loan t (Some client) work) (λ is. cc is) refl

  none_served : (server : ServerNo) (delivery : Delivery) (reply : Reply) (work : Work) → IssuesNone work (serve server delivery reply work)
  none_served server delivery reply work = none_then work served (serve server delivery reply work) (entered (is_client server)) (none_then served lent (serve server delivery reply work) (none_lent delivery.tid (lent_to delivery.op) served) given)
    where
      served : Work
      served = enter_serve server delivery reply work

      lent : Work
      lent = make_loan delivery.tid (lent_to delivery.op) served

      made : Work → Work
      made w = enter (acts.Serve delivery.tid (member_here work server) delivery.from delivery.number reply) (with_manager (tm.served delivery.tid server) (with_doings delivery.tid (λ doings. record doings { served = true }) w))

      changed : Work
      changed = change_server server (λ value. after_serving value delivery.tid delivery.op reply) work

      entered : (b : Bool) → IssuesNone work (made (if b then work else changed))
      entered true = none_entry (acts.Serve delivery.tid (member_here work server) delivery.from delivery.number reply) work (made work) (λ is. cc is) refl
      entered false = none_entry (acts.Serve delivery.tid (member_here work server) delivery.from delivery.number reply) work (made changed) (λ is. cc is) refl

      given : IssuesNone lent (serve server delivery reply work)
      given = none_if (same_node delivery.from (here lent)) (reply_came delivery.tid (member_here work server) delivery.number reply lent)
          (if delivery.stale then lent else send delivery.from (messages.Answered delivery.tid (member_here work server) delivery.number reply) lent) lent
          (none_left lent (reply_came delivery.tid (member_here work server) delivery.number reply lent) (reply_leaves tid delivery.tid (member_here work server) delivery.number reply lent))
          (none_if delivery.stale lent (send delivery.from (messages.Answered delivery.tid (member_here work server) delivery.number reply) lent) lent (λ has. has)
          (none_left lent (send delivery.from (messages.Answered delivery.tid (member_here work server) delivery.number reply) lent) (send_leaves tid delivery.from (messages.Answered delivery.tid (member_here work server) delivery.number reply) lent (λ s k. refl))))

  none_next : (work : Work) (server : ServerNo) → IssuesNone work (serve_next work server)
  none_next work server = none_elim (ipc.next server work.node.queues) work (λ delivery. serve_or_drop server delivery left) work (λ has. has)
      (λ delivery. none_if (may_serve delivery.tid left) (elim (reply_here server delivery.tid delivery.op left.node) [ None ↦ left | Some reply ↦ serve server delivery reply left ]) left work
      (none_elim (reply_here server delivery.tid delivery.op left.node) left (λ reply. serve server delivery reply left) work (λ has. has) (λ reply. none_served server delivery reply left)) (λ has. has))
    where
      left : Work
      left = with_queues (ipc.after_next server) work

  pub none_all : (work : Work) → IssuesNone work (serve_all work)
  none_all work = none_fold serve_next none_next (ipc.turns work.node.queues) work

  -- ---- a message comes

  none_came : (peer : NodeNo) (t : Tid) (label : List ℕ) (m : Member) (n : ℕ) (o : Op) (work : Work) → IssuesNone work (request_came peer t label m n o work)
  none_came peer t label m n o work = none_then work labelled (request_came peer t label m n o work) (none_left work labelled (label_leaves tid label t work))
      (none_then labelled engaged (request_came peer t label m n o work) (none_left labelled engaged (engage_leaves tid t peer n labelled)) (taken (is_dropped (same_node t.home (here work)) (part_of t work)) engaged))
    where
      labelled : Work
      labelled = learn_label label t work

      engaged : Work
      engaged = engage t peer n labelled

      delivery : Delivery
      delivery = record { tid = t; from = peer; number = n; op = o; stale = false }

      taken : (b : Bool) (w : Work) → IssuesNone w (take_in b m delivery w)
      taken true w = λ has. has
      taken false w = none_if (is_for m.server o) (with_queues (ipc.enqueue m.server delivery) w) w w (λ has. has) (λ has. has)

  pub none_message : (peer : NodeNo) (message : Message) (work : Work) → IssuesNone work (message_came peer message work)
  none_message peer (messages.Request t label m n from o) work = none_came peer t label m n o work
  none_message peer messages.Hello work = none_left work (message_came peer messages.Hello work) (message_leaves tid peer messages.Hello work (λ own. own))
  none_message peer (messages.Answered t m n reply) work = none_left work (message_came peer (messages.Answered t m n reply) work) (message_leaves tid peer (messages.Answered t m n reply) work (λ own. own))
  none_message peer (messages.AskVote t) work = none_left work (message_came peer (messages.AskVote t) work) (message_leaves tid peer (messages.AskVote t) work (λ own. own))
  none_message peer (messages.Covered t up_to) work = none_left work (message_came peer (messages.Covered t up_to) work) (message_leaves tid peer (messages.Covered t up_to) work (λ own. own))
  none_message peer (messages.VotedYes t up_to told) work = none_left work (message_came peer (messages.VotedYes t up_to told) work) (message_leaves tid peer (messages.VotedYes t up_to told) work (λ own. own))
  none_message peer (messages.VotedAbort t cause) work = none_left work (message_came peer (messages.VotedAbort t cause) work) (message_leaves tid peer (messages.VotedAbort t cause) work (λ own. own))
  none_message peer (messages.Tell t outcome) work = none_left work (message_came peer (messages.Tell t outcome) work) (message_leaves tid peer (messages.Tell t outcome) work (λ own. own))
  none_message peer (messages.Told t further) work = none_left work (message_came peer (messages.Told t further) work) (message_leaves tid peer (messages.Told t further) work (λ own. own))
  none_message peer (messages.Inquire t) work = none_left work (message_came peer (messages.Inquire t) work) (message_leaves tid peer (messages.Inquire t) work (λ own. own))
