-- Through all that the rules of a step do, what it sent so far is of numbers that its node gave, and of requests that were served; and what waits is of
-- incarnations that its node knows, or stale.
use Rattle.qs_world_runs.proofs.Words.{◌≡◌, ℕ, ◌==◌, false, List, [], ◌∷◌, ◌++◌, Option, Some, None, refl, sym, ap, subst, ◌∙◌, arith, nat_tests, unwrap_or, filter, ClientNo, Member, NodeNo, ServerNo, Tid, same_node, IpcValue, queue_at, Delivery, Act, BookValue, find_transaction, inc_at, broken, effect, TransactionValue, Op, Reply, Message, drop_counts, Sending, entry_of, Every, LastsWell, every_on, every_more, Deeds, IsStill, IsKeptAt, IsKeptFirst, HasGiven, IsOfKnown, IsOfLast}
use Rattle.qs_world_runs.proofs.Words.{and_right}
use Rattle.qs_world_runs.specs.Deeds.{traced}
use Rattle.qs_ipc.specs.Ipc as ipc
use Rattle.qs_ipc.specs.Queue.{is_of}
use Rattle.qs_book_journal.specs.declared.entry.Act.TheVariants as acts
use Rattle.qs_book_laws.proofs.Gone.{inc_as}
use Rattle.qs_book_laws.proofs.Lives.{same_life}
use Rattle.qs_book_laws.specs.Lives.{is_restart}
use Rattle.qs_ops.specs.declared.answer.Answer.TheVariants as answers
use Rattle.qs_packet.specs.declared.message.Message.TheVariants as messages
use Rattle.qs_world_runs.specs.DeedsReplied.{IsPlain, lent, served}
use Rattle.qs_world_runs.specs.RepliesTrue.{IsFresh, IsFreshIn, IsSentSo, KeepFresh}
use Rattle.qs_world_runs.specs.Traces.{member_at, sent}
use Rattle.qs_world_runs.proofs.EntriesMore as more
use Rattle.qs_world_runs.proofs.FreshQueues.{fresh_queues}
use Rattle.qs_world_runs.proofs.RepliesEntries.{given_stays, served_stays}
use Rattle.qs_world_runs.proofs.RepliesIssued.{issues_give}
use Rattle.qs_world_runs.proofs.RepliesMoves.{fresh_on}
use Rattle.qs_world_runs.proofs.RepliesServed.{serves_once}

still_lives : (act : Act) → IsStill act → is_restart act ≡ false
still_lives (acts.Restart inc pend done) still = absurd still
still_lives act still = refl

-- node n is in incarnation i, and knows these of others; `queued` are those of which what waits is
module _ (n stamp i : ℕ) (knows : ℕ → ℕ) where
  pub record Says (queued : ℕ → ℕ) (sendings : List Sending) (queues : IpcValue) (book : BookValue) : Type 0 where
    pub now : inc_at book (record { 0 = n }) ≡ i
    pub told : Every (λ (s : Sending). IsSentSo book n i knows s.to.0 s.message) sendings
    pub fresh : IsFreshIn book queued n queues

  plain_so : (book : BookValue) (to : ℕ) (message : Message) → IsPlain message → IsSentSo book n i knows to message
  plain_so book to (messages.Request tid label member number issuer op) plain = absurd plain
  plain_so book to (messages.Answered tid member number reply) plain = absurd plain
  plain_so book to message plain = tt

  -- one more is sent
  one_sent : (book : BookValue) (sendings : List Sending) (to : NodeNo) (message : Message) → IsSentSo book n i knows to.0 message → Every (λ (s : Sending). IsSentSo book n i knows s.to.0 s.message) sendings
      → Every (λ (s : Sending). IsSentSo book n i knows s.to.0 s.message) (sendings ++ record { to = to; message = message } ∷ [])
  one_sent book sendings to message is all = every_more (λ (s : Sending). IsSentSo book n i knows s.to.0 s.message) sendings (record { to = to; message = message } ∷ []) all (is, tt)

  -- ---- a lawful entry

  module _ (book : BookValue) (act : Act) (w : LastsWell book) (fine : broken book (entry_of n stamp act) ≡ None) where
    abbrev next : BookValue
    next = effect book (entry_of n stamp act)

    sent_on : (s : Sending) → IsSentSo book n i knows s.to.0 s.message → IsSentSo next n i knows s.to.0 s.message
    sent_on s = of s.message
      where
        of : (message : Message) → IsSentSo book n i knows s.to.0 message → IsSentSo next n i knows s.to.0 message
        of (messages.Request tid label member number issuer op) h = given_stays book (entry_of n stamp act) n i s.to.0 tid number w.inv fine h
        of (messages.Answered tid member number reply) h = (h.0, served_stays book (entry_of n stamp act) s.to.0 (knows s.to.0) tid member number w.inv fine h.1)
        of message h = tt

    goes_on : (queued : ℕ → ℕ) (sendings : List Sending) (queues : IpcValue) → is_restart act ≡ false → Says queued sendings queues book → Says queued sendings queues next
    goes_on queued sendings queues lives s = record {
      now = inc_as next (record { 0 = n }) ∙ (ap (λ (o : Option ℕ). unwrap_or o 0) (same_life (record { 0 = n }) book (entry_of n stamp act) (and_right (n == n) (is_restart act) lives) fine) ∙ (sym (inc_as book (record { 0 = n })) ∙ s.now));
      told = every_on (λ (x : Sending). IsSentSo book n i knows x.to.0 x.message) (λ (x : Sending). IsSentSo next n i knows x.to.0 x.message) sent_on sendings s.told;
      fresh = λ tid server. every_on (IsFresh book queued n) (IsFresh next queued n) (fresh_on (entry_of n stamp act ∷ []) book w (fine, tt) queued n) (filter (is_of tid) (queue_at queues server).waiting) (s.fresh tid server);
    }

  -- ---- a step so far

  module _ (before : BookValue) (w : LastsWell before) where
    pub record Told (queued : ℕ → ℕ) (node : NodeNo) (entries : List Act) (sendings : List Sending) (queues : IpcValue) : Type 0 where
      pub here : node ≡ record { 0 = n }
      pub says : more.Lawful n stamp before w entries → Says queued sendings queues (more.book_at n stamp before w entries)

    abbrev pub So : (ℕ → ℕ) → Deeds → Type 0
    So queued d = Told queued d.trace.setting.node d.trace.entries d.trace.messages d.trace.queues

    -- other queues, where they are so in the machine then
    pub requeued : (was queued : ℕ → ℕ) (node : NodeNo) (entries : List Act) (sendings : List Sending) (queues later : IpcValue)
        → (more.Lawful n stamp before w entries → IsFreshIn (more.book_at n stamp before w entries) was n queues → IsFreshIn (more.book_at n stamp before w entries) queued n later) → Told was node entries sendings queues → Told queued node entries sendings later
    requeued was queued node entries sendings queues later goes h = record {
      here = h.here;
      says = λ lawful. let s : Says was sendings queues (more.book_at n stamp before w entries) = h.says lawful in record { now = s.now; told = s.told; fresh = goes lawful s.fresh };
    }

    module _ (queued : ℕ → ℕ) where
      pub one_entry : (node : NodeNo) (entries : List Act) (sendings : List Sending) (queues : IpcValue) (act : Act) → is_restart act ≡ false → Told queued node entries sendings queues → Told queued node (entries ++ act ∷ []) sendings queues
      one_entry node entries sendings queues act lives h = record {
        here = h.here;
        says = more.one_more n stamp before w (Says queued sendings queues) (Says queued sendings queues) entries act (λ book well fine. goes_on book act well fine queued sendings queues lives) h.says;
      }

      pub told_first : IsKeptFirst (So queued)
      told_first = record {
        enters = λ d act still. one_entry d.trace.setting.node d.trace.entries d.trace.messages d.trace.queues act (still_lives act still);
        sends = λ d to message plain h. record {
          here = h.here;
          says = λ lawful. let s : Says queued d.trace.messages d.trace.queues (more.book_at n stamp before w d.trace.entries) = h.says lawful in record {
            now = s.now;
            told = one_sent (more.book_at n stamp before w d.trace.entries) d.trace.messages to message (plain_so (more.book_at n stamp before w d.trace.entries) to.0 message plain) s.told;
            fresh = s.fresh;
          };
        };
      }

      -- a request has the number that its issue gives
      asked : (node : NodeNo) (entries : List Act) (sendings : List Sending) (queues : IpcValue) (tid : Tid) (label : List ℕ) (issuer : ServerNo) (member : Member) (number : ℕ) (op : Op) → Told queued node entries sendings queues
          → Told queued node (entries ++ acts.Issue tid (record { node = node; server = issuer }) member number op ∷ []) (sendings ++ record { to = member.node; message = messages.Request tid label member number issuer op } ∷ []) queues
      asked node entries sendings queues tid label issuer member number op h = record {
        here = h.here;
        says = more.one_more n stamp before w (Says queued sendings queues) (Says queued (sendings ++ record { to = member.node; message = messages.Request tid label member number issuer op } ∷ []) queues) entries act issues h.says;
      }
        where
          act : Act
          act = acts.Issue tid (record { node = node; server = issuer }) member number op

          issues : (book : BookValue) → LastsWell book → broken book (entry_of n stamp act) ≡ None → Says queued sendings queues book
              → Says queued (sendings ++ record { to = member.node; message = messages.Request tid label member number issuer op } ∷ []) queues (effect book (entry_of n stamp act))
          issues book well fine s = let on : Says queued sendings queues (effect book (entry_of n stamp act)) = goes_on book act well fine queued sendings queues refl s in record {
            now = on.now;
            told = one_sent (effect book (entry_of n stamp act)) sendings member.node (messages.Request tid label member number issuer op) given on.told;
            fresh = on.fresh;
          }
            where
              it : (tx : TransactionValue) × (find_transaction book tid ≡ Some tx)
              it = more.issue_known n stamp book tid (record { node = node; server = issuer }) member number op fine

              given : IsOfLast (effect book (entry_of n stamp act)) n i tid (HasGiven n i member.node.0 number)
              given = subst (λ (k : ℕ). IsOfLast (effect book (entry_of n stamp act)) n k tid (HasGiven n k member.node.0 number)) s.now
                  (issues_give book n stamp tid (record { node = node; server = issuer }) member number op it.0 well.inv it.1 fine)

      -- what comes from the node itself is none of another
      own_fresh : (book : BookValue) (delivery : Delivery) (node : NodeNo) → delivery.from ≡ node → node ≡ record { 0 = n } → IsFresh book queued n delivery
      own_fresh book delivery node own here live far = absurd (apart delivery.from.0 (ap (λ (m : NodeNo). m.0) (own ∙ here)) far)
        where
          apart : (a : ℕ) → a ≡ n → (a == n) ≡ false → ⊥
          apart a is off = grind (arith, nat_tests, is, off)

      -- the first leaves as it is served
      left_on : (node : NodeNo) (entries : List Act) (sendings : List Sending) (queues : IpcValue) (server : ServerNo) (delivery : Delivery) (reply : Reply) → Told queued node entries sendings queues
          → Told queued node (entries ++ acts.Serve delivery.tid (record { node = node; server = server }) delivery.from delivery.number reply ∷ []) sendings (ipc.after_next server queues)
      left_on node entries sendings queues server delivery reply h = one_entry node entries sendings (ipc.after_next server queues) (acts.Serve delivery.tid (record { node = node; server = server }) delivery.from delivery.number reply) refl
          (requeued queued queued node entries sendings queues (ipc.after_next server queues) (λ lawful fresh. (fresh_queues (more.book_at n stamp before w entries) queued n queues fresh).left server) h)

      pub lent_on : (d : Deeds) (tid : Tid) (borrower : Option ClientNo) → So queued d → So queued (lent tid borrower d)
      lent_on d tid None h = h
      lent_on d tid (Some client) h = one_entry d.trace.setting.node d.trace.entries d.trace.messages d.trace.queues (acts.Loan tid client) refl h

    -- ---- where what waits is of the incarnations that it knows

    replied : (entries : List Act) (sendings : List Sending) (queues : IpcValue) (server : ServerNo) (delivery : Delivery) (reply : Reply) → ipc.next server queues ≡ Some delivery → (delivery.from.0 == n) ≡ false → delivery.stale ≡ false
        → Told knows (record { 0 = n }) entries sendings queues
        → Told knows (record { 0 = n }) (entries ++ acts.Serve delivery.tid (record { node = record { 0 = n }; server = server }) delivery.from delivery.number reply ∷ [])
        (sendings ++ record { to = delivery.from; message = messages.Answered delivery.tid (record { node = record { 0 = n }; server = server }) delivery.number reply } ∷ []) (ipc.after_next server queues)
    replied entries sendings queues server delivery reply next far live h = record {
      here = refl;
      says = more.one_more n stamp before w (Says knows sendings queues) (Says knows (sendings ++ record { to = delivery.from; message = message } ∷ []) (ipc.after_next server queues)) entries act serves h.says;
    }
      where
        member : Member
        member = record { node = record { 0 = n }; server = server }

        message : Message
        message = messages.Answered delivery.tid member delivery.number reply

        act : Act
        act = acts.Serve delivery.tid member delivery.from delivery.number reply

        serves : (book : BookValue) → LastsWell book → broken book (entry_of n stamp act) ≡ None → Says knows sendings queues book → Says knows (sendings ++ record { to = delivery.from; message = message } ∷ []) (ipc.after_next server queues) (effect book (entry_of n stamp act))
        serves book well fine s = let on : Says knows sendings (ipc.after_next server queues) (effect book (entry_of n stamp act)) =
            goes_on book act well fine knows sendings (ipc.after_next server queues) refl (record { now = s.now; told = s.told; fresh = kept.left server }) in record {
              now = on.now;
              told = one_sent (effect book (entry_of n stamp act)) sendings delivery.from message (its.known, serves_once book n stamp (knows delivery.from.0) delivery.tid member delivery.from delivery.number reply well fine its.given) on.told;
              fresh = on.fresh;
            }
          where
            kept : KeepFresh book knows n queues
            kept = fresh_queues book knows n queues s.fresh

            its : IsOfKnown book knows n delivery
            its = kept.next_is server delivery next live far

    pub told_kept : IsKeptAt (So knows)
    told_kept = record {
      first = told_first knows;
      closes = λ d client command said there h. one d (acts.Answer client command.line.line said) refl h;
      begins = λ d line tid there is h. one_entry knows d.trace.setting.node (d.trace.entries ++ acts.Begin tid line.label line.client ∷ []) d.trace.messages d.trace.queues (acts.Answer line.client line.line answers.Done) refl
          (one d (acts.Begin tid line.label line.client) refl h);
      refuses = λ d line h. h;
      marks = λ d client issued h. h;
      issues = λ d tid issuer member number op h. one d (acts.Issue tid (member_at d.trace issuer) member number op) refl h;
      asks = λ d tid label issuer member number op away h. asked knows d.trace.setting.node d.trace.entries d.trace.messages d.trace.queues tid label issuer member number op h;
      queues = λ d server delivery own h. others d (ipc.enqueue server delivery d.trace.queues) (λ book kept. kept.queued server delivery (own_fresh knows book delivery d.trace.setting.node own h.here)) h;
      leaves = λ d server h. others d (ipc.after_next server d.trace.queues) (λ book kept. kept.left server) h;
      forgets = λ d tid h. others d (drop_counts tid d.trace.queues) (λ book kept. kept.forgotten tid) h;
      serves = λ d server delivery reply borrower next h. lent_on knows (served server delivery reply d) delivery.tid borrower (left_on knows d.trace.setting.node d.trace.entries d.trace.messages d.trace.queues server delivery reply h);
      replies = replies_kept;
      commit_asked = λ d tid h. one d (acts.Ask tid) refl h;
      votes = λ d tid member ballot covers off h. one d (acts.Vote tid member ballot covers) refl h;
      prepares = λ d tid h. h;
      yields = λ d tid client h. one d (acts.Yield tid client) refl h;
      decides = λ d tid outcome cause quiet h. one d (acts.Decide tid outcome cause) refl h;
    }
      where
        one : (d : Deeds) (act : Act) → is_restart act ≡ false → So knows d → Told knows d.trace.setting.node (d.trace.entries ++ act ∷ []) d.trace.messages d.trace.queues
        one d act = one_entry knows d.trace.setting.node d.trace.entries d.trace.messages d.trace.queues act

        others : (d : Deeds) (later : IpcValue) → ((book : BookValue) → KeepFresh book knows n d.trace.queues → IsFreshIn book knows n later) → So knows d → Told knows d.trace.setting.node d.trace.entries d.trace.messages later
        others d later goes = requeued knows knows d.trace.setting.node d.trace.entries d.trace.messages d.trace.queues later
            (λ lawful fresh. goes (more.book_at n stamp before w d.trace.entries) (fresh_queues (more.book_at n stamp before w d.trace.entries) knows n d.trace.queues fresh))

        replies_kept : (d : Deeds) (server : ServerNo) (delivery : Delivery) (reply : Reply) (borrower : Option ClientNo) → ipc.next server d.trace.queues ≡ Some delivery → same_node delivery.from d.trace.setting.node ≡ false → delivery.stale ≡ false → So knows d
            → So knows (traced (sent delivery.from (messages.Answered delivery.tid (member_at d.trace server) delivery.number reply)) (lent delivery.tid borrower (served server delivery reply d)))
        replies_kept d server delivery reply borrower next far live h = by borrower
          where
            Then : NodeNo → Type 0
            Then m = Told knows m (d.trace.entries ++ acts.Serve delivery.tid (record { node = m; server = server }) delivery.from delivery.number reply ∷ [])
                (d.trace.messages ++ record { to = delivery.from; message = messages.Answered delivery.tid (record { node = m; server = server }) delivery.number reply } ∷ []) (ipc.after_next server d.trace.queues)

            then : Then d.trace.setting.node
            then = subst Then (sym h.here) (replied d.trace.entries d.trace.messages d.trace.queues server delivery reply next (subst (λ (m : NodeNo). same_node delivery.from m ≡ false) h.here far) live
                (subst (λ (m : NodeNo). Told knows m d.trace.entries d.trace.messages d.trace.queues) h.here h))

            by : (o : Option ClientNo) → So knows (traced (sent delivery.from (messages.Answered delivery.tid (member_at d.trace server) delivery.number reply)) (lent delivery.tid o (served server delivery reply d)))
            by None = then
            by (Some client) = one_entry knows d.trace.setting.node (d.trace.entries ++ acts.Serve delivery.tid (member_at d.trace server) delivery.from delivery.number reply ∷ [])
                (d.trace.messages ++ record { to = delivery.from; message = messages.Answered delivery.tid (member_at d.trace server) delivery.number reply } ∷ []) (ipc.after_next server d.trace.queues) (acts.Loan delivery.tid client) refl then
