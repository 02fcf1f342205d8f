-- What is on the way to a node stands after each thing that a rule of its step does.
use Rattle.qs_world_runs.proofs.Words.{◌≡◌, ℕ, ◌==◌, ◌&&◌, Bool, true, false, List, [], ◌∷◌, ◌++◌, Some, None, refl, sym, ap, subst, ◌∙◌, arith, if◌then◌else◌, append_assoc, append-nil, nat_tests, same_tid, Member, NodeNo, ServerNo, Tid, IpcValue, Delivery, Act, BookValue, broken, effect, Op, Event, entry_of, at_server, IsWithin, LastsWell, HoldsOps, IsKept, IsOrdinary, Trace}
use Rattle.qs_ipc.specs.Ipc as ipc
use Rattle.qs_book_journal.specs.declared.entry.Act.TheVariants as acts
use Rattle.qs_ops.specs.declared.answer.Answer.TheVariants as answers
use Rattle.qs_packet.specs.declared.message.Message.TheVariants as messages
use Rattle.qs_node_step.specs.declared.event.Event.TheVariants as events
use Rattle.qs_world_lawful.proofs.WithinParts.{within_around}
use Rattle.qs_world_runs.specs.Traces.{TakesIn}
use Rattle.qs_world_runs.proofs.EntriesMore as more
use Rattle.qs_world_runs.proofs.RequestsLeft.{LeavesRequests}
use Rattle.qs_world_runs.proofs.WaysEntries.{Ops, ops_begun, ops_issued_far, ops_left, standing}
use Rattle.qs_world_runs.proofs.WaysServed.{came_from, comes_one, forgotten_same, marked_same, queued_more, waiting}
use Rattle.qs_world_runs.proofs.WaysServing.{ops_popped, ops_served}

pub ordinary : (act : Act) → IsOrdinary act → LeavesRequests act
ordinary (acts.Begin tid label client) is = is
ordinary (acts.Issue tid issuer member number op) is = is
ordinary (acts.Serve tid member from number reply) is = is
ordinary (acts.Restart inc pend done) is = is
ordinary act is = tt

pub none_around : (xs ys zs : List Op) → xs ++ (ys ++ zs) ≡ [] → xs ++ zs ≡ []
none_around [] [] zs is = is
none_around [] (y ∷ ys) zs is = absurd (cc is)
none_around (x ∷ xs) ys zs is = absurd (cc is)

-- ---- the entries of a step so far, and one more

module _ (n stamp : ℕ) (before : BookValue) (w : LastsWell before) where
  abbrev pub Lawful : List Act → Type 0
  Lawful entries = more.Lawful n stamp before w entries

  abbrev pub book_at : List Act → BookValue
  book_at entries = more.book_at n stamp before w entries

  -- what stands once they are lawful
  abbrev pub Standing : ℕ → ℕ → Ops → List Act → Type 0
  Standing a b ds entries = Lawful entries → HoldsOps (book_at entries) a b ds

  pub one_more : (a b : ℕ) (ds es : Ops) (entries : List Act) (act : Act) → ((book : BookValue) → LastsWell book → broken book (entry_of n stamp act) ≡ None → HoldsOps book a b ds → HoldsOps (effect book (entry_of n stamp act)) a b es)
      → Standing a b ds entries → Standing a b es (entries ++ act ∷ [])
  one_more a b ds es entries act = more.one_more n stamp before w (λ book. HoldsOps book a b ds) (λ book. HoldsOps book a b es) entries act

  -- alike where what is on the way is
  pub alike : (a b : ℕ) (ds es : Ops) (entries : List Act) → ((t : Tid) (s : ServerNo) (k : ℕ) → es t s k ≡ ds t s k) → Standing a b ds entries → Standing a b es entries
  alike a b ds es entries same stands lawful = let ops = stands lawful in record {
    stands = λ t tx s k found. subst (λ (xs : List Op). IsWithin xs (standing a b tx s k)) (sym (same t s k)) (ops.stands t tx s k found);
    none = λ t s k none. same t s k ∙ ops.none t s k none;
  }

  pub left_more : (a b : ℕ) (ds : Ops) (entries : List Act) (act : Act) → LeavesRequests act → Standing a b ds entries → Standing a b ds (entries ++ act ∷ [])
  left_more a b ds entries act leaves = one_more a b ds ds entries act (λ book lasts fine ops. ops_left a b n stamp ds book act leaves ops)

  pub begun_more : (a b : ℕ) (ds : Ops) (entries : List Act) (tid : Tid) (label : List ℕ) (client : _) → Standing a b ds entries → Standing a b ds (entries ++ acts.Begin tid label client ∷ [])
  begun_more a b ds entries tid label client = one_more a b ds ds entries (acts.Begin tid label client) (λ book lasts fine ops. ops_begun a b n stamp ds book tid label client lasts fine ops)

  -- ---- to the node, from another: behind what waits, the rest of what comes

  module _ (a : ℕ) (far : (a == n) ≡ false) where
    pub record To (rest : Ops) (t : Trace) : Type 0 where
      pub here : t.setting.node ≡ record { 0 = n }
      pub stands : Standing a n (λ tid s k. waiting a n t.queues tid s k ++ rest tid s k) t.entries

    module _ (rest : Ops) where
      abbrev ds : IpcValue → Ops
      ds queues tid s k = waiting a n queues tid s k ++ rest tid s k

      -- what is alike waits on
      requeued : (t : Trace) (queues : IpcValue) → ((tid : Tid) (s : ServerNo) (k : ℕ) → waiting a n queues tid s k ≡ waiting a n t.queues tid s k) → To rest t → Standing a n (ds queues) t.entries
      requeued t queues same h = alike a n (ds t.queues) (ds queues) t.entries (λ tid s k. ap (λ (xs : List Op). xs ++ rest tid s k) (same tid s k)) h.stands

      own_none : (t : Trace) → To rest t → (server : ServerNo) (delivery : Delivery) → delivery.from ≡ t.setting.node → (tid : Tid) (s : ServerNo) (k : ℕ) → comes_one a n server delivery tid s k ≡ []
      own_none t h server delivery own tid s k = rw (other (delivery.from.0 == a) refl) (rw (off false (server.0 == s.0) refl) (rw (off false (same_tid tid delivery.tid) refl) refl))
        where
          off : (p q : Bool) → p ≡ false → (q && p) ≡ false
          off p true is = is
          off p false is = refl

          turned : (i j : ℕ) → (i == j) ≡ true → i ≡ n → (j == n) ≡ true
          turned i j same is = grind (arith, nat_tests, same, is)

          other : (b : Bool) → (delivery.from.0 == a) ≡ b → b ≡ false
          other false is = refl
          other true is = absurd (cc (sym far ∙ turned delivery.from.0 a is (ap (λ (m : NodeNo). m.0) (own ∙ h.here))))

      pub to_kept : IsKept (To rest)
      to_kept = record {
        enters = λ t act is h. record { here = h.here; stands = left_more a n (ds t.queues) t.entries act (ordinary act is) h.stands };
        sends = λ t to message is h. record { here = h.here; stands = h.stands };
        closes = λ t client command said there h. record { here = h.here; stands = left_more a n (ds t.queues) t.entries (acts.Answer client command.line.line said) tt h.stands };
        begins = λ t line tid there is h. record {
          here = h.here;
          stands = left_more a n (ds t.queues) (t.entries ++ acts.Begin tid line.label line.client ∷ []) (acts.Answer line.client line.line answers.Done) tt
              (begun_more a n (ds t.queues) t.entries tid line.label line.client h.stands);
        };
        refuses = λ t line h. record { here = h.here; stands = h.stands };
        marks = λ t client issued h. record { here = h.here; stands = h.stands };
        issues = λ t tid issuer member number op h. record { here = h.here; stands = issued t tid issuer member number op h };
        asks = λ t tid label issuer member number op away h. record { here = h.here; stands = issued t tid issuer member number op h };
        queues = λ t server delivery own h. record {
          here = h.here;
          stands = requeued t (ipc.enqueue server delivery t.queues)
              (λ tid s k. queued_more a n server delivery t.queues tid s k ∙ (ap (λ (xs : List Op). waiting a n t.queues tid s k ++ xs) (own_none t h server delivery own tid s k) ∙ append-nil (waiting a n t.queues tid s k))) h;
        };
        serves = λ t server delivery reply next h. record { here = h.here; stands = served t server delivery reply next h };
        leaves = λ t server h. record { here = h.here; stands = λ lawful. ops_popped a n (book_at t.entries) server t.queues rest (h.stands lawful) };
        forgets = λ t tid h. record { here = h.here; stands = requeued t _ (forgotten_same a n tid t.queues) h };
        stales = λ t peer h. record { here = h.here; stands = requeued t _ (marked_same a n peer t.queues) h };
      }
        where
          issued : (t : Trace) (tid : Tid) (issuer : ServerNo) (member : Member) (number : ℕ) (op : Op) → To rest t → Standing a n (λ u s k. waiting a n t.queues u s k ++ rest u s k) (t.entries ++ acts.Issue tid (record { node = t.setting.node; server = issuer }) member number op ∷ [])
          issued t tid issuer member number op h = one_more a n (λ u s k. waiting a n t.queues u s k ++ rest u s k) (λ u s k. waiting a n t.queues u s k ++ rest u s k) t.entries (acts.Issue tid (record { node = t.setting.node; server = issuer }) member number op)
              (λ book lasts fine ops. ops_issued_far n stamp book tid (record { node = t.setting.node; server = issuer }) member number op a n (λ u s k. waiting a n t.queues u s k ++ rest u s k) far ops) h.stands

          served : (t : Trace) (server : ServerNo) (delivery : Delivery) (reply : _) → ipc.next server t.queues ≡ Some delivery → To rest t
              → Standing a n (λ u s k. waiting a n (ipc.after_next server t.queues) u s k ++ rest u s k) (t.entries ++ acts.Serve delivery.tid (record { node = t.setting.node; server = server }) delivery.from delivery.number reply ∷ [])
          served t server delivery reply next h = subst (λ (m : NodeNo). Standing a n (λ u s k. waiting a n (ipc.after_next server t.queues) u s k ++ rest u s k) (t.entries ++ acts.Serve delivery.tid (record { node = m; server = server }) delivery.from delivery.number reply ∷ [])) (sym h.here)
              (one_more a n (λ u s k. waiting a n t.queues u s k ++ rest u s k) (λ u s k. waiting a n (ipc.after_next server t.queues) u s k ++ rest u s k) t.entries (acts.Serve delivery.tid (at_server (record { 0 = n }) server) delivery.from delivery.number reply)
              (λ book lasts fine ops. ops_served a n stamp book server delivery reply t.queues rest next ops) h.stands)

    -- it is let go, or waits behind the others
    pub to_taken : (event : Event) (rest : Ops) → TakesIn event (To (λ tid s k. came_from a event tid s k ++ rest tid s k)) (To rest)
    to_taken event rest = record {
      lets = λ t h. record { here = h.here; stands = let_go t h };
      comes = λ t line is h. record { here = h.here; stands = let_go t h };
      learns = λ t peer tid label member number issuer op is h. record { here = h.here; stands = h.stands };
      takes = λ t peer tid label member number issuer op is h. record { here = h.here; stands = taken t peer tid label member number issuer op is h };
    }
      where
        let_go : (t : Trace) → To (λ tid s k. came_from a event tid s k ++ rest tid s k) t → Standing a n (λ tid s k. waiting a n t.queues tid s k ++ rest tid s k) t.entries
        let_go t h lawful = let ops = h.stands lawful in record {
          stands = λ tid tx s k found. within_around (waiting a n t.queues tid s k) (came_from a event tid s k) (rest tid s k) (standing a n tx s k) (ops.stands tid tx s k found);
          none = λ tid s k none. none_around (waiting a n t.queues tid s k) (came_from a event tid s k) (rest tid s k) (ops.none tid s k none);
        }

        taken : (t : Trace) (peer : NodeNo) (tid : Tid) (label : List ℕ) (member : Member) (number : ℕ) (issuer : ServerNo) (op : Op) → event ≡ events.Received peer (messages.Request tid label member number issuer op) → To (λ tid s k. came_from a event tid s k ++ rest tid s k) t
            → Standing a n (λ u s k. waiting a n (ipc.enqueue member.server (record { tid = tid; from = peer; number = number; op = op; stale = false }) t.queues) u s k ++ rest u s k) t.entries
        taken t peer tid label member number issuer op is h = alike a n (λ u s k. waiting a n t.queues u s k ++ (came_from a event u s k ++ rest u s k))
            (λ u s k. waiting a n (ipc.enqueue member.server (record { tid = tid; from = peer; number = number; op = op; stale = false }) t.queues) u s k ++ rest u s k) t.entries same h.stands
          where
            one : (u : Tid) (s : ServerNo) (k : ℕ) (w x y z : Bool) → (if w && (y && (x && z)) then op ∷ [] else []) ≡ (if x then (if w && (y && z) then op ∷ [] else []) else [])
            one u s k false false y z = refl
            one u s k false true y z = refl
            one u s k true x false z = by x
              where
                by : (x : Bool) → ◌≡◌ {A = List Op} [] (if x then [] else [])
                by true = refl
                by false = refl
            one u s k true false true z = refl
            one u s k true true true z = refl

            same : (u : Tid) (s : ServerNo) (k : ℕ) → waiting a n (ipc.enqueue member.server (record { tid = tid; from = peer; number = number; op = op; stale = false }) t.queues) u s k ++ rest u s k ≡ waiting a n t.queues u s k ++ (came_from a event u s k ++ rest u s k)
            same u s k = ap (λ (xs : List Op). xs ++ rest u s k) (queued_more a n member.server (record { tid = tid; from = peer; number = number; op = op; stale = false }) t.queues u s k)
                ∙ (append_assoc (waiting a n t.queues u s k) (comes_one a n member.server (record { tid = tid; from = peer; number = number; op = op; stale = false }) u s k) (rest u s k)
                ∙ ap (λ (xs : List Op). waiting a n t.queues u s k ++ (xs ++ rest u s k)) (one u s k (same_tid u tid) (peer.0 == a) (member.server.0 == s.0) (number == k) ∙ ap (λ (e : Event). came_from a e u s k) (sym is)))
