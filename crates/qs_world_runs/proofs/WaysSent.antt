-- What is on the way from a node stands after each thing that a rule of its step does: behind what was on it, what the step sent.
use Rattle.qs_world_runs.proofs.Words.{◌≡◌, ℕ, ◌==◌, ◌&&◌, Bool, true, false, List, [], ◌∷◌, ◌++◌, map, refl, sym, ap, subst, ◌∙◌, if◌then◌else◌, append_assoc, append-nil, flat_map-append, filter, same_tid, Member, NodeNo, ServerNo, Tid, Delivery, Act, BookValue, Op, Message, Event, Sending, Parcel, parcels, at_server, is_asking_for, ops_of, LastsWell, IsKept, Trace}
use Rattle.std.proofs.lemmas.List.{map-append}
use Rattle.std.proofs.lemmas.List.Elements.{filter-append}
use Rattle.qs_book_journal.specs.declared.entry.Act.TheVariants as acts
use Rattle.qs_ops.specs.declared.answer.Answer.TheVariants as answers
use Rattle.qs_packet.specs.declared.message.Message.TheVariants as messages
use Rattle.qs_world_runs.specs.Traces.{AsksNothing, TakesIn}
use Rattle.qs_world_runs.proofs.EntriesMore.{issue_known}
use Rattle.qs_world_runs.proofs.WaysEntries.{Ops, asks_one, ops_asked, ops_issued}
use Rattle.qs_world_runs.proofs.WaysServing.{ops_served_far}
use Rattle.qs_world_runs.proofs.WaysTraced as coming
use Rattle.qs_world_runs.proofs.WaysTraced.{ordinary}

module _ (n stamp : ℕ) (before : BookValue) (w : LastsWell before) (b : ℕ) (far : (b == n) ≡ false) (way : Ops) where
  abbrev Standing : Ops → List Act → Type 0
  Standing ds entries = coming.Standing n stamp before w n b ds entries

  abbrev pub sent_ops : List Sending → Ops
  sent_ops sendings tid s k = ops_of tid s k (parcels n stamp b sendings)

  pub record From (t : Trace) : Type 0 where
    pub here : t.setting.node ≡ record { 0 = n }
    pub stands : Standing (λ tid s k. way tid s k ++ sent_ops t.messages tid s k) t.entries

  abbrev es : List Sending → Ops
  es sendings tid s k = way tid s k ++ sent_ops sendings tid s k

  -- one more message
  abbrev one_sent : NodeNo → Message → Ops
  one_sent to message tid s k = if to.0 == b then is_asking_for tid s k message else []

  more_sent : (sendings : List Sending) (to : NodeNo) (message : Message) (tid : Tid) (s : ServerNo) (k : ℕ) → sent_ops (sendings ++ record { to = to; message = message } ∷ []) tid s k ≡ sent_ops sendings tid s k ++ one_sent to message tid s k
  more_sent sendings to message tid s k =
      ap (λ (xs : List Sending). ops_of tid s k (map (λ (x : Sending). record { stamp = stamp; message = x.message }) xs)) (filter-append (λ (x : Sending). x.to.0 == b) sendings (record { to = to; message = message } ∷ []))
      ∙ by (to.0 == b)
    where
      by : (c : Bool) → ops_of tid s k (map (λ (x : Sending). record { stamp = stamp; message = x.message }) (filter (λ (x : Sending). x.to.0 == b) sendings ++ (if c then record { to = to; message = message } ∷ [] else [])))
          ≡ sent_ops sendings tid s k ++ (if c then is_asking_for tid s k message else [])
      by true = ap (ops_of tid s k) (map-append (λ (x : Sending). record { stamp = stamp; message = x.message }) (filter (λ (x : Sending). x.to.0 == b) sendings) (record { to = to; message = message } ∷ []))
          ∙ (flat_map-append (λ (p : Parcel). is_asking_for tid s k p.message) (parcels n stamp b sendings) (record { stamp = stamp; message = message } ∷ [])
          ∙ ap (λ (xs : List Op). sent_ops sendings tid s k ++ xs) (append-nil (is_asking_for tid s k message)))
      by false = ap (λ (xs : List Sending). ops_of tid s k (map (λ (x : Sending). record { stamp = stamp; message = x.message }) xs)) (append-nil (filter (λ (x : Sending). x.to.0 == b) sendings)) ∙ sym (append-nil (sent_ops sendings tid s k))

  -- a message that is no request changes nothing
  asks_none : (message : Message) → AsksNothing message → (tid : Tid) (s : ServerNo) (k : ℕ) → is_asking_for tid s k message ≡ []
  asks_none (messages.Request t label member number issuer op) is tid s k = absurd is
  asks_none message is tid s k = refl

  plain_sent : (sendings : List Sending) (to : NodeNo) (message : Message) → AsksNothing message → (tid : Tid) (s : ServerNo) (k : ℕ) → es (sendings ++ record { to = to; message = message } ∷ []) tid s k ≡ es sendings tid s k
  plain_sent sendings to message is tid s k = ap (λ (xs : List Op). way tid s k ++ xs) (more_sent sendings to message tid s k ∙ (ap (λ (xs : List Op). sent_ops sendings tid s k ++ xs) (by (to.0 == b)) ∙ append-nil (sent_ops sendings tid s k)))
    where
      by : (c : Bool) → ◌≡◌ {A = List Op} (if c then is_asking_for tid s k message else []) []
      by true = asks_none message is tid s k
      by false = refl

  pub from_kept : IsKept From
  from_kept = record {
    enters = λ t act is h. record { here = h.here; stands = coming.left_more n stamp before w n b (es t.messages) t.entries act (ordinary act is) h.stands };
    sends = λ t to message is h. record { here = h.here; stands = coming.alike n stamp before w n b (es t.messages) (es (t.messages ++ record { to = to; message = message } ∷ [])) t.entries (plain_sent t.messages to message is) h.stands };
    closes = λ t client command said there h. record { here = h.here; stands = coming.left_more n stamp before w n b (es t.messages) t.entries (acts.Answer client command.line.line said) tt h.stands };
    begins = λ t line tid there is h. record {
      here = h.here;
      stands = coming.left_more n stamp before w n b (es t.messages) (t.entries ++ acts.Begin tid line.label line.client ∷ []) (acts.Answer line.client line.line answers.Done) tt
          (coming.begun_more n stamp before w n b (es t.messages) t.entries tid line.label line.client h.stands);
    };
    refuses = λ t line h. record { here = h.here; stands = h.stands };
    marks = λ t client issued h. record { here = h.here; stands = h.stands };
    issues = λ t tid issuer member number op h. record {
      here = h.here;
      stands = coming.one_more n stamp before w n b (es t.messages) (es t.messages) t.entries (acts.Issue tid (record { node = t.setting.node; server = issuer }) member number op)
          (λ book lasts fine ops. ops_issued n stamp book tid (record { node = t.setting.node; server = issuer }) member number op b (es t.messages) ops) h.stands;
    };
    asks = λ t tid label issuer member number op away h. record { here = h.here; stands = asked t tid label issuer member number op h };
    queues = λ t server delivery own h. record { here = h.here; stands = h.stands };
    serves = λ t server delivery reply next h. record { here = h.here; stands = served t server delivery reply h };
    leaves = λ t server h. record { here = h.here; stands = h.stands };
    forgets = λ t tid h. record { here = h.here; stands = h.stands };
    stales = λ t peer h. record { here = h.here; stands = h.stands };
  }
    where
      asked : (t : Trace) (tid : Tid) (label : List ℕ) (issuer : ServerNo) (member : Member) (number : ℕ) (op : Op) → From t
          → Standing (λ u s k. way u s k ++ sent_ops (t.messages ++ record { to = member.node; message = messages.Request tid label member number issuer op } ∷ []) u s k) (t.entries ++ acts.Issue tid (record { node = t.setting.node; server = issuer }) member number op ∷ [])
      asked t tid label issuer member number op h = coming.alike n stamp before w n b (λ u s k. (way u s k ++ sent_ops t.messages u s k) ++ asks_one b tid member number op u s k)
          (λ u s k. way u s k ++ sent_ops (t.messages ++ record { to = member.node; message = messages.Request tid label member number issuer op } ∷ []) u s k) (t.entries ++ acts.Issue tid (record { node = t.setting.node; server = issuer }) member number op ∷ []) same
          (coming.one_more n stamp before w n b (λ u s k. way u s k ++ sent_ops t.messages u s k) (λ u s k. (way u s k ++ sent_ops t.messages u s k) ++ asks_one b tid member number op u s k) t.entries (acts.Issue tid (record { node = t.setting.node; server = issuer }) member number op)
          (λ book lasts fine ops. let it = issue_known n stamp book tid (record { node = t.setting.node; server = issuer }) member number op fine in
          ops_asked n stamp book tid (record { node = t.setting.node; server = issuer }) member number op b (λ u s k. way u s k ++ sent_ops t.messages u s k) it.0 it.1 ops) h.stands)
        where
          one : (w x y z : Bool) → ◌≡◌ {A = List Op} (if x then (if w && (y && z) then op ∷ [] else []) else []) (if w && ((x && y) && z) then op ∷ [] else [])
          one false true y z = refl
          one false false y z = refl
          one true true y z = refl
          one true false y z = refl

          same : (u : Tid) (s : ServerNo) (k : ℕ) → way u s k ++ sent_ops (t.messages ++ record { to = member.node; message = messages.Request tid label member number issuer op } ∷ []) u s k ≡ (way u s k ++ sent_ops t.messages u s k) ++ asks_one b tid member number op u s k
          same u s k = ap (λ (xs : List Op). way u s k ++ xs) (more_sent t.messages member.node (messages.Request tid label member number issuer op) u s k
              ∙ ap (λ (xs : List Op). sent_ops t.messages u s k ++ xs) (one (same_tid u tid) (member.node.0 == b) (member.server.0 == s.0) (number == k)))
              ∙ sym (append_assoc (way u s k) (sent_ops t.messages u s k) (asks_one b tid member number op u s k))

      served : (t : Trace) (server : ServerNo) (delivery : Delivery) (reply : _) → From t → Standing (λ u s k. way u s k ++ sent_ops t.messages u s k) (t.entries ++ acts.Serve delivery.tid (record { node = t.setting.node; server = server }) delivery.from delivery.number reply ∷ [])
      served t server delivery reply h = subst (λ (m : NodeNo). Standing (λ u s k. way u s k ++ sent_ops t.messages u s k) (t.entries ++ acts.Serve delivery.tid (record { node = m; server = server }) delivery.from delivery.number reply ∷ [])) (sym h.here)
          (coming.one_more n stamp before w n b (λ u s k. way u s k ++ sent_ops t.messages u s k) (λ u s k. way u s k ++ sent_ops t.messages u s k) t.entries (acts.Serve delivery.tid (at_server (record { 0 = n }) server) delivery.from delivery.number reply)
          (λ book lasts fine ops. ops_served_far n stamp book delivery.tid server delivery.from delivery.number reply n b (λ u s k. way u s k ++ sent_ops t.messages u s k) far ops) h.stands)

  -- what comes changes nothing
  pub from_taken : (event : Event) → TakesIn event From From
  from_taken event = record {
    lets = λ t h. h;
    comes = λ t line is h. record { here = h.here; stands = h.stands };
    learns = λ t peer tid label member number issuer op is h. record { here = h.here; stands = h.stands };
    takes = λ t peer tid label member number issuer op is h. record { here = h.here; stands = h.stands };
  }
