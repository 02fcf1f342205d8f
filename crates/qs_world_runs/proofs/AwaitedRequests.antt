-- What waits for its reply waits on as requests are issued, come, are served and replied to, as servers vote, and as a transaction is settled: until its own reply comes, or its
-- transaction is decided.
use Rattle.qs_world_runs.proofs.Words.{◌≡◌, inr, ℕ, ◌+◌, ◌==◌, ◌&&◌, ◌||◌, not, Bool, true, false, List, [], ◌∷◌, Option, Some, None, refl, sym, ap, subst, ◌∙◌, arith, if◌then◌else◌, nat_tests, is_at, find, lookup, is_some, same_member-true, same_tid-true, same_member, same_tid, ClientNo, Member, NodeNo, ServerNo, Tid, last_number, peer_of, release_of, with_peer, Engage, answer_of, Reply, client_of, member_here, send, answer_issuer, ask_on, enqueue, enter_issue, is_asked, issue, issue_as}
use Rattle.qs_world_runs.proofs.Words.{issue_away, issue_here, label_of, reply_came, take_reply, waits_as, with_local, Work, client_cmp, with_manager, Issued, OpenCommand, awaits_note, is_answered_by, is_by_files, is_forgotten, new_participant, Outstanding, Participant, same_Some, and_first, and_last}
use Rattle.qs_engage.specs.Engage as engage
use Rattle.qs_engage.specs.Engage.{with_last, with_superior}
use Rattle.qs_node_step.specs.Requests as requests
use Rattle.qs_node_step.specs.Requests.{next_number}
use Rattle.qs_node_step.specs.State.{part_of}
use Rattle.qs_tm.specs.Manager as tm
use Rattle.qs_tm.specs.Members.{files_no}
use Rattle.qs_tm.specs.Participant as participant
use Rattle.qs_world_lawful.proofs.FactsQuiet.{sent_home}
use Rattle.qs_world_runs.proofs.AwaitedKept.{among_left, among_more}
use Rattle.qs_world_runs.proofs.AwaitedRules.{On, Kept, Free, answer_on, change_on, free_so, if_on, itself_on, plain, then_on}
use Rattle.std.proofs.lemmas.Bool.{false≢true}

find_true : {A : Type 0} (p : A → Bool) (xs : List A) (x : A) → find p xs ≡ Some x → p x ≡ true
find_true p [] x is = absurd (cc is)
find_true {A} p (y ∷ xs) x is = by (p y) refl is (find_true p xs x)
  where
    by : (b : Bool) → p y ≡ b → find p (y ∷ xs) ≡ Some x → (find p xs ≡ Some x → p x ≡ true) → p x ≡ true
    by true so found more = subst (λ z. p z ≡ true) (same_Some y x (rw so at found)) so
    by false so found more = more (rw so at found)

-- ---- changes of what is kept

module _ (D : Type 0) (tid : Tid) (member : Member) (number : ℕ) where
  sent_superior : (to : NodeNo) (e : Engage) → (engage.sent to e).superior ≡ e.superior
  sent_superior to e = by ((peer_of e to).sent == last_number)
    where
      by : (b : Bool) → (if b then e else with_peer to (record (peer_of e to) { sent = (peer_of e to).sent + 1 }) e).superior ≡ e.superior
      by true = refl
      by false = refl

  pub sent_kept : (to : NodeNo) → Kept D tid member number (participant.sent to)
  sent_kept to = record { home = λ p. sent_home to p.engage; superior = λ p is. ap is_some (sent_superior to p.engage) ∙ is; outcome = λ p. refl; waiting = λ p request m k a. a }

  pub issued_kept : (request : Outstanding) → Kept D tid member number (participant.issued request)
  issued_kept request = record { home = λ p. refl; superior = λ p is. is; outcome = λ p. refl; waiting = λ p other m k a. among_more other p.waiting (request ∷ []) a }

  pub requested_kept : (from : NodeNo) (n : ℕ) → Kept D tid member number (participant.requested from n)
  requested_kept from n = record { home = λ p. home_of (with_last from n p.engage) (with_last from n p.engage).home (with_last from n p.engage).superior refl; superior = λ p is. superior_of (with_last from n p.engage) (with_last from n p.engage).home (with_last from n p.engage).superior refl is; outcome = λ p. refl; waiting = λ p request m k a. a }
    where
      home_of : (e : Engage) (h : Bool) (o : Option NodeNo) → e.superior ≡ o → (if h then e else elim o [ None ↦ record e { superior = Some from; last_superior = Some from } | Some superior ↦ e ]).home ≡ e.home
      home_of e true o is = refl
      home_of e false None is = refl
      home_of e false (Some s) is = refl

      superior_of : (e : Engage) (h : Bool) (o : Option NodeNo) → e.superior ≡ o → is_some o ≡ true → is_some (if h then e else elim o [ None ↦ record e { superior = Some from; last_superior = Some from } | Some superior ↦ e ]).superior ≡ true
      superior_of e true o is so = ap is_some is ∙ so
      superior_of e false None is so = refl
      superior_of e false (Some s) is so = ap is_some is

  pub served_kept : (server : ServerNo) → Kept D tid member number (participant.served server)
  served_kept server = plain D tid member number (participant.served server) (λ p. by_engage p ((participant.member_of p server).served == last_number)) (λ p. by_outcome p ((participant.member_of p server).served == last_number)) (λ p. by_waiting p ((participant.member_of p server).served == last_number))
    where
      new : Participant → Participant
      new p = record (participant.with_member server (record (participant.member_of p server) { served = (participant.member_of p server).served + 1; fresh = true }) p) { involved = p.involved || Rattle.qs_tm.specs.Members.is_told_class (Rattle.qs_tm.specs.Members.class_here server) }

      by_engage : (p : Participant) (b : Bool) → (if b then p else new p).engage ≡ p.engage
      by_engage p true = refl
      by_engage p false = refl

      by_outcome : (p : Participant) (b : Bool) → (if b then p else new p).outcome ≡ p.outcome
      by_outcome p true = refl
      by_outcome p false = refl

      by_waiting : (p : Participant) (b : Bool) → (if b then p else new p).waiting ≡ p.waiting
      by_waiting p true = refl
      by_waiting p false = refl

  -- a reply drops what waits under another number or member
  dropped_kept : (m : Member) (n : ℕ) → (same_member member m && (number == n)) ≡ false → Kept D tid member number (participant.drop_waiting m n)
  dropped_kept m n far = record { home = λ p. refl; superior = λ p is. is; outcome = λ p. refl; waiting = λ p request to as_no a. among_left (λ (x : Outstanding). not (is_answered_by m n x)) request p.waiting (other request to as_no) a }
    where
      other : (request : Outstanding) → request.member ≡ member → request.number ≡ number → not (is_answered_by m n request) ≡ true
      other request to as_no = let not_it : is_answered_by m n request ≡ false = ap (λ (x : Member). same_member x m && (request.number == n)) to ∙ (ap (λ (k : ℕ). same_member member m && (k == n)) as_no ∙ far) in rw not_it refl

  -- ---- replies

  pub reply_on : (t : Tid) (m : Member) (n : ℕ) (reply : Reply) (work : Work) → (t ≡ tid → (same_member member m && (number == n)) ≡ true → D) → On D tid member number work (reply_came t m n reply work)
  reply_on t m n reply work its = by (requests.waiting_at t m n work) refl
    where
      dropped : Work
      dropped = with_manager (tm.drop_waiting t m n) work

      drops : On D tid member number work dropped
      drops = of (same_member member m && (number == n)) refl (same_tid t tid) refl
        where
          of : (b : Bool) → (same_member member m && (number == n)) ≡ b → (c : Bool) → same_tid t tid ≡ c → On D tid member number work dropped
          of false far c is = change_on D tid member number t (participant.drop_waiting m n) work (λ e. dropped_kept m n far)
          of true near true is = λ w. inr (its (same_tid-true t tid is) near)
          of true near false is = change_on D tid member number t (participant.drop_waiting m n) work (λ e. absurd (false≢true (sym is ∙ subst (λ (u : Tid). same_tid t u ≡ true) e (Rattle.qs_base.proofs.Same.same_tid-self t))))

      took : (request : Outstanding) → is_answered_by m n request ≡ true → On D tid member number dropped (take_reply t reply request dropped)
      took request answered = if_on D tid member number (is_by_files request) (with_manager (tm.note_served t request.count) dropped) (answer_issuer t request.member request.number reply (client_of request.issuer) dropped) dropped
          (λ so. change_on D tid member number t (participant.note_served request.count) dropped (λ e. plain D tid member number (participant.note_served request.count) (λ p. refl) (λ p. refl) (λ p. refl)))
          (λ so. answered_on (lookup (is_at (client_cmp (client_of request.issuer))) dropped.node.commands) refl)
        where
          client : ClientNo
          client = client_of request.issuer

          free : (o : Option OpenCommand) → lookup (is_at (client_cmp client)) dropped.node.commands ≡ o → waits_as t request.member request.number o ≡ true → Free D tid member number client dropped
          free o is waits command there issued = of o waits (sym is ∙ there)
            where
              of : (o : Option OpenCommand) → waits_as t request.member request.number o ≡ true → o ≡ Some command → D
              of None so e = absurd (cc so)
              of (Some c) so e = said (subst (λ (x : Option OpenCommand). waits_as t request.member request.number x ≡ true) e so)
                where
                  said : waits_as t request.member request.number (Some command) ≡ true → D
                  said so = its (sym (same_tid-true tid t (and_first (same_tid tid t) _ tests))) (rw (to_m, to_n) refl)
                    where
                      tests : (same_tid tid t && (same_member member request.member && (number == request.number))) ≡ true
                      tests = subst (λ (o : Option Issued). (elim o [ None ↦ false | Some i ↦ requests.is_issued_as t request.member request.number i ]) ≡ true) issued so

                      to_m : same_member member m ≡ true
                      to_m = subst (λ (x : Member). same_member member x ≡ true) (same_member-true request.member m (and_first (same_member request.member m) _ answered)) (and_first (same_member member request.member) _ (and_last (same_tid tid t) _ tests))

                      to_n : (number == n) ≡ true
                      to_n = chain number request.number n (and_last (same_member member request.member) _ (and_last (same_tid tid t) _ tests)) (and_last (same_member request.member m) _ answered)
                        where
                          chain : (a b c : ℕ) → (a == b) ≡ true → (b == c) ≡ true → (a == c) ≡ true
                          chain a b c p q = grind (arith, nat_tests, p, q)

          answered_on : (o : Option OpenCommand) → lookup (is_at (client_cmp client)) dropped.node.commands ≡ o → On D tid member number dropped (if waits_as t request.member request.number (lookup (is_at (client_cmp client)) dropped.node.commands) then Rattle.qs_node_step.specs.Bringing.answer client (answer_of reply) dropped else dropped)
          answered_on o is = if_on D tid member number (waits_as t request.member request.number (lookup (is_at (client_cmp client)) dropped.node.commands)) (Rattle.qs_node_step.specs.Bringing.answer client (answer_of reply) dropped) dropped dropped
              (λ so. answer_on D tid member number client (answer_of reply) dropped (free_so D tid member number client dropped (free o is (subst (λ (x : Option OpenCommand). waits_as t request.member request.number x ≡ true) is so))))
              (λ so. itself_on D tid member number dropped)

      found : (request : Outstanding) → requests.waiting_at t m n work ≡ Some request → is_answered_by m n request ≡ true
      found request is = of (part_of t work) is
        where
          of : (o : Option Participant) → (elim o [ None ↦ None | Some part ↦ participant.waiting_for m n part ]) ≡ Some request → is_answered_by m n request ≡ true
          of None so = absurd (cc so)
          of (Some part) so = find_true (is_answered_by m n) part.waiting request so

      by : (o : Option Outstanding) → requests.waiting_at t m n work ≡ o → On D tid member number work (elim o [ None ↦ work | Some request ↦ take_reply t reply request dropped ])
      by None is = itself_on D tid member number work
      by (Some request) is = then_on D tid member number work dropped (take_reply t reply request dropped) drops (took request (found request is))
