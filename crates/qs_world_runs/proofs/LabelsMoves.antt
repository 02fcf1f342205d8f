-- What the machine has of a transaction that began in the run, its home keeps the label of, as its owner's: so it is as a run begins, and after each
-- move. So a request that comes home tells the home of no label that it has not.
use Rattle.qs_world_runs.proofs.Words.{◌≡◌, ◌⊎◌, inl, inr, ℕ, ◌==◌, ◌<◌, ◌&&◌, Bool, true, false, List, [], ◌∷◌, ◌++◌, Option, Some, None, refl, sym, ap, subst, ◌∙◌, arith, nat_lt, if◌then◌else◌, eqb-true, eqb-false, nat_tests, is_some, same_tid-self, ClientNo, NodeNo, Tid, Act, CrashCause, Entry, KeptLabel, Inv, BookValue, find_transaction, book_after, effect, TransactionValue, Request, RequestNo, Op, Record, recovered_of, after_step, effects_of, step_work, Event, Setting, book_of, opened_from}
use Rattle.qs_world_runs.proofs.Words.{Clock, Commanded, Cut, Handed, Meet, Move, Noticed, Queues, Rise, Source, Step, Stop, cut_log, cut_with, event_of, may_move, moved, risen_host, step_with, stepped_host, stopped, entries_of, entry_of, Opening, World, start, from_client, from_node, from_notice, StepMay, step_may, node_stopped, steady_gives, Every, IsWithin, HoldsNodeAt, same_or_apart, Begins, Turning, by_entry, opening_empty, HoldsOps, step_same, Turns, MakesStep, Joined, book_in, AreOwned}
use Rattle.qs_world_runs.proofs.Words.{InStep, trace_of, eqb-self, some_same}
use Rattle.qs_book_journal.specs.declared.entry.Act.TheVariants as acts
use Rattle.qs_book_laws.proofs.Steps.{stepped}
use Rattle.qs_book_machine.specs.Lawful.{IsLawful}
use Rattle.qs_packet.specs.declared.message.Message.TheVariants as messages
use Rattle.qs_node_step.specs.State.{NodeValue}
use Rattle.qs_node_step.specs.declared.event.Event.TheVariants as events
use Rattle.qs_world_refine.proofs.EachMay.{FromNode}
use Rattle.qs_world_lawful.specs.Parcels.{IsBetween}
use Rattle.qs_world_lawful.proofs.Apart.{Apart}
use Rattle.qs_world_lawful.proofs.GivenByWorld.{message_between}
use Rattle.qs_world_lawful.proofs.Turning.{stood}
use Rattle.qs_world_runs.specs.Joined.{LabelsAt}
use Rattle.qs_world_runs.specs.Labels.{HoldsLabels, is_owned_in}
use Rattle.qs_world_runs.specs.StepLaws.{KeepsLabels}
use Rattle.qs_world_runs.proofs.JoinedParts.{book_on, lawful_more}
use Rattle.qs_world_runs.proofs.JoinedWays as ways
use Rattle.qs_world_runs.proofs.JoinedWays.{lasts_now}
use Rattle.qs_world_runs.proofs.LabelsKept.{AsksOwned, HasLabel, Labelled, step_labels}
use Rattle.qs_world_runs.proofs.StoodIdle.{requests_owned}
use Rattle.qs_world_runs.proofs.WaysEntries.{standing}
use Rattle.qs_world_runs.proofs.WaysServed.{came_from, waiting}

-- ---- what begins in a part of a history

module _ (R : Tid → Type 0) where
  -- each transaction that has an owner
  abbrev EachBegun : BookValue → Type 0
  EachBegun book = (tid : Tid) (tx : TransactionValue) → find_transaction book tid ≡ Some tx → is_some tx.owner ≡ true → R tid

  abbrev AsItBegins : Entry → Type 0
  AsItBegins entry = (tid : Tid) (label : List ℕ) (client : ClientNo) → entry.act ≡ acts.Begin tid label client → tid.home.0 ≡ entry.node.0 → R tid

  entry_begun : (book : BookValue) (entry : Entry) → AsItBegins entry → Begins book entry ⊎ Turning book entry → EachBegun book → EachBegun (effect book entry)
  entry_begun book entry begins (inl b) each tid tx found owned = by (same_or_apart b.tid tid)
    where
      by : (b.tid ≡ tid) ⊎ Apart b.tid tid → R tid
      by (inl same) = subst R same (begins b.tid b.label b.client b.act b.home)
      by (inr far) = each tid tx (sym (b.others tid far) ∙ found) owned
  entry_begun book entry begins (inr t) each tid tx found owned =
      let p = stood (Turns entry.node.0 t.now book.place) book (effect book entry) t.turned tid tx found in
      each tid p.0 p.1 (subst (λ (o : Option ClientNo). is_some o ≡ true) p.2.owner owned)

  ran_begun : (entries : List Entry) (book : BookValue) → Inv book → IsLawful book entries → Every AsItBegins entries → EachBegun book → EachBegun (book_after book entries)
  ran_begun [] book i lawful begins each = each
  ran_begun (entry ∷ entries) book i lawful begins each = ran_begun entries (effect book entry) (stepped book entry i lawful.0).inv lawful.1 begins.1 (entry_begun book entry begins.0 (by_entry book entry i lawful.0) each)

module _ (P : Opening → World → Type 0) (o : Opening) (world : World) (j : Joined P o world) where
  abbrev old : BookValue
  old = book_in o world

  -- the labels of one node, after what was entered
  labels_on : (new : World) (more : List Entry) → new.journal ≡ world.journal ++ more → IsLawful (book_of o) new.journal → (here : NodeNo) (labels later : List KeptLabel) → HoldsLabels old here labels
      → ((tid : Tid) → is_owned_in labels tid ≡ true → is_owned_in later tid ≡ true) → Every (AreOwned here later) later → Every (AsItBegins (λ (tid : Tid). tid.home ≡ here → is_owned_in later tid ≡ true)) more → HoldsLabels (book_in o new) here later
  labels_on new more journal lawful here labels later h grows owned begins = record {
    owned = owned;
    begun = subst (λ (b : BookValue). EachBegun (λ (tid : Tid). tid.home ≡ here → is_owned_in later tid ≡ true) b) (sym (book_on o world new more journal))
        (ran_begun (λ (tid : Tid). tid.home ≡ here → is_owned_in later tid ≡ true) more old (lasts_now o world j.opens j.lawful).inv (lawful_more o world new more journal lawful) begins
        (λ tid tx found some home. grows tid (h.begun tid tx found some home)));
  }

  -- where nothing begins, and each node keeps its labels
  labels_stay : (new : World) (more : List Entry) → new.size ≡ world.size → new.journal ≡ world.journal ++ more → IsLawful (book_of o) new.journal → ((R : Tid → Type 0) → Every (AsItBegins R) more)
      → ((k : ℕ) → k < world.size → (new.hosts k).node.setting.node ≡ (world.hosts k).node.setting.node) → ((k : ℕ) → k < world.size → (new.hosts k).node.kept.now.labels ≡ (world.hosts k).node.kept.now.labels) → LabelsAt o new
  labels_stay new more size journal lawful none nodes same k low = subst (λ (here : NodeNo). HoldsLabels (book_in o new) here (new.hosts k).node.kept.now.labels) (sym (nodes k k_low))
      (subst (HoldsLabels (book_in o new) (world.hosts k).node.setting.node) (sym (same k k_low))
      (labels_on new more journal lawful (world.hosts k).node.setting.node (world.hosts k).node.kept.now.labels (world.hosts k).node.kept.now.labels (j.labels k k_low) (λ tid is. is) (j.labels k k_low).owned
      (none (λ (tid : Tid). tid.home ≡ (world.hosts k).node.setting.node → is_owned_in (world.hosts k).node.kept.now.labels tid ≡ true))))
    where
      k_low : k < world.size
      k_low = subst (λ (s : ℕ). k < s) size low

  -- ---- a step

  module _ (n stamp free : ℕ) (source : Source) (event : Event) (makes : MakesStep world n stamp source event) (lawful : IsLawful old (entries_of n stamp (effects_of (world.hosts n).node event free).entries)) where
    abbrev node : NodeValue
    node = (world.hosts n).node

    its : StepMay world n source
    its = step_may world n stamp source makes.may

    at : HoldsNodeAt old world n
    at = j.held.nodes n its.low

    in_run : nat_lt n world.size ≡ true
    in_run = let low : n < world.size = its.low in grind (arith, nat_tests, low)

    -- a request that comes to its home is of what began there
    asks_owned : AsksOwned node.setting.node node.kept.now.labels event
    asks_owned peer tid label member number issuer op is home = by source makes.comes
      where
        other : (e : Event) → event ≡ e → ((events.Received peer (messages.Request tid label member number issuer op)) ≡ e → ⊥) → is_owned_in node.kept.now.labels tid ≡ true
        other e same far = absurd (far (sym is ∙ same))

        handed : (m : ℕ) → event_of world n stamp (Handed m) ≡ Some event → is_owned_in node.kept.now.labels tid ≡ true
        handed m comes = of (find_transaction old tid) refl
          where
            from : FromNode world n m event
            from = from_node world n stamp m event comes

            between : IsBetween world.size m n
            between = message_between old world n m j.channels from.parcel from.found

            peer_is : peer ≡ record { 0 = m }
            peer_is = let same : events.Received peer (messages.Request tid label member number issuer op) ≡ events.Received (record { 0 = m }) from.parcel.message = sym is ∙ from.is in cc (same)

            before : HoldsOps old m n (λ t s k. waiting m n node.queues t s k ++ (came_from m event t s k ++ ways.rest P o world j n stamp free source event makes lawful m between.from in_run between.other t s k))
            before = ways.before_it P o world j n stamp free source event makes lawful m between.from in_run between.other

            came : came_from m event tid member.server number ≡ op ∷ []
            came = ap (λ (e : Event). came_from m e tid member.server number) (is ∙ ap (λ (p : NodeNo). events.Received p (messages.Request tid label member number issuer op)) peer_is)
                ∙ here (m == m) (same_tid-self tid) (eqb-self m) (eqb-self member.server.0) (eqb-self number)
              where
                here : (a : Bool) {b c d : Bool} → b ≡ true → a ≡ true → c ≡ true → d ≡ true → (if a then (if b && (c && d) then op ∷ [] else []) else []) ≡ op ∷ []
                here a p q r s = rw (q, p, r, s) refl

            waits : List Op
            waits = waiting m n node.queues tid member.server number

            left : List Op
            left = ways.rest P o world j n stamp free source event makes lawful m between.from in_run between.other tid member.server number

            of : (x : Option TransactionValue) → find_transaction old tid ≡ x → is_owned_in node.kept.now.labels tid ≡ true
            of None none = absurd (some waits left (subst (λ (xs : List Op). waits ++ (xs ++ left) ≡ []) came (before.none tid member.server number none)))
              where
                some : (xs ys : List Op) → xs ++ (op ∷ ys) ≡ [] → ⊥
                some [] ys e = cc e
                some (x ∷ xs) ys e = cc e
            of (Some tx) found = owner tx.owner refl
              where
                never : (xs ys : List Op) → IsWithin (xs ++ (op ∷ ys)) [] → ⊥
                never [] ys e = e
                never (x ∷ xs) ys e = e

                within : IsWithin (waits ++ (came_from m event tid member.server number ++ left)) (standing m n tx member.server number)
                within = before.stands tid tx member.server number found

                empty : tx.owner ≡ None → standing m n tx member.server number ≡ []
                empty none = ap (λ (rs : List (RequestNo × List Request)). standing m n (record tx { requests = rs }) member.server number) (requests_owned o j.opens world.journal j.lawful tid tx found none).1

                owner : (c : Option ClientNo) → tx.owner ≡ c → is_owned_in node.kept.now.labels tid ≡ true
                owner None none = absurd (never waits left (subst (IsWithin (waits ++ (op ∷ left))) (empty none) (subst (λ (xs : List Op). IsWithin (waits ++ (xs ++ left)) (standing m n tx member.server number)) came within)))
                owner (Some c) owned = (j.labels n its.low).begun tid tx found (ap is_some owned) home

        by : (s : Source) → event_of world n stamp s ≡ Some event → is_owned_in node.kept.now.labels tid ≡ true
        by (Commanded k) comes = let from = from_client world n k event (steady_gives world j.shown.steady j.shown.listed) comes in other _ from.is (λ e. cc e)
        by (Handed m) comes = handed m comes
        by Queues comes = other events.ServeAll (sym (some_same comes)) (λ e. cc e)
        by Clock comes = other events.Tick (sym (some_same comes)) (λ e. cc e)
        by (Noticed m new) comes = other _ (from_notice world n stamp m new event comes).is (λ e. cc e)

    labelled : Labelled node.setting.node node.kept.now.labels (trace_of (step_work node event free))
    labelled = step_labels node event free (j.labels n its.low).owned asks_owned

    setting_is : (after_step node event free).setting ≡ node.setting
    setting_is = step_same node event free

    pub own_labels : Every (AreOwned (after_step node event free).setting.node (after_step node event free).kept.saved.labels) (after_step node event free).kept.saved.labels
    own_labels = subst (λ (s : Setting). Every (AreOwned s.node (after_step node event free).kept.saved.labels) (after_step node event free).kept.saved.labels) (sym setting_is) labelled.owned

    -- what it begins
    all_begun : (here : NodeNo) (labels : List KeptLabel) (es : List Act) → Every (HasLabel labels) es → Every (AsItBegins (λ (tid : Tid). tid.home ≡ here → is_owned_in labels tid ≡ true)) (entries_of n stamp es)
    all_begun here labels [] all = tt
    all_begun here labels (act ∷ es) all = ((λ tid label client is home at_home. subst (HasLabel labels) is all.0), all_begun here labels es all.1)

    -- the others begin nothing of their own in it
    none_begun : (k : ℕ) → (k == n) ≡ false → k < world.size → (labels : List KeptLabel) (es : List Act) → Every (AsItBegins (λ (tid : Tid). tid.home ≡ (world.hosts k).node.setting.node → is_owned_in labels tid ≡ true)) (entries_of n stamp es)
    none_begun k far low labels [] = tt
    none_begun k far low labels (act ∷ es) = ((λ tid label client is home at_home. absurd (eqb-false k n far (sym (j.held.nodes k low).node ∙ (ap (λ (h : NodeNo). h.0) (sym at_home) ∙ home)))), none_begun k far low labels es)

    stepped_labels : IsLawful (book_of o) (step_with world n stamp free source (Some event)).journal → LabelsAt o (step_with world n stamp free source (Some event))
    stepped_labels whole k low = by (k == n) refl
      where
        own : HoldsLabels (book_in o (step_with world n stamp free source (Some event))) (after_step node event free).setting.node (after_step node event free).kept.now.labels
        own = subst (λ (s : Setting). HoldsLabels (book_in o (step_with world n stamp free source (Some event))) s.node (after_step node event free).kept.now.labels) (sym setting_is)
            (labels_on (step_with world n stamp free source (Some event)) (entries_of n stamp (effects_of node event free).entries) refl whole node.setting.node node.kept.now.labels (after_step node event free).kept.now.labels (j.labels n its.low) labelled.grows labelled.owned
            (all_begun node.setting.node (after_step node event free).kept.now.labels (effects_of node event free).entries labelled.begun))

        far_off : (k == n) ≡ false → HoldsLabels (book_in o (step_with world n stamp free source (Some event))) (world.hosts k).node.setting.node (world.hosts k).node.kept.now.labels
        far_off far = labels_on (step_with world n stamp free source (Some event)) (entries_of n stamp (effects_of node event free).entries) refl whole (world.hosts k).node.setting.node (world.hosts k).node.kept.now.labels (world.hosts k).node.kept.now.labels
            (j.labels k low) (λ tid is. is) (j.labels k low).owned (none_begun k far low (world.hosts k).node.kept.now.labels (effects_of node event free).entries)

        by : (b : Bool) → (k == n) ≡ b → HoldsLabels (book_in o (step_with world n stamp free source (Some event)))
            (if b then stepped_host stamp (after_step node event free) (effects_of node event free) (world.hosts n) else world.hosts k).node.setting.node
            (if b then stepped_host stamp (after_step node event free) (effects_of node event free) (world.hosts n) else world.hosts k).node.kept.now.labels
        by true near = own
        by false far = far_off far

  -- ---- each move

  crashed : (n stamp : ℕ) (cause : CrashCause) (log : List Record) → IsLawful (book_of o) (stopped world n stamp cause log).journal → LabelsAt o (stopped world n stamp cause log)
  crashed n stamp cause log lawful = labels_stay (stopped world n stamp cause log) (entry_of n stamp (acts.Crash cause) ∷ []) refl refl lawful (λ R. ((λ tid label client is home. absurd (cc is)), tt))
      (λ k low. ap (λ (m : NodeValue). m.setting.node) (node_stopped world n stamp cause log k)) (λ k low. ap (λ (m : NodeValue). m.kept.now.labels) (node_stopped world n stamp cause log k))

  pub labels_moved : (move : Move) → may_move world move ≡ true → IsLawful (book_of o) (moved move world).journal → LabelsAt o (moved move world)
  labels_moved (Step n stamp free source) may lawful = by (event_of world n stamp source) refl lawful
    where
      by : (e : Option Event) → event_of world n stamp source ≡ e → IsLawful (book_of o) (moved (Step n stamp free source) world).journal → LabelsAt o (moved (Step n stamp free source) world)
      by None none lawful = subst (λ (e : Option Event). LabelsAt o (step_with world n stamp free source e)) (sym none) j.labels
      by (Some event) comes lawful = subst (λ (e : Option Event). LabelsAt o (step_with world n stamp free source e)) (sym comes)
          (stepped_labels n stamp free source event (record { may = may; comes = comes }) (lawful_more o world (step_with world n stamp free source (Some event)) (entries_of n stamp (effects_of (world.hosts n).node event free).entries) refl whole) whole)
        where
          whole : IsLawful (book_of o) (step_with world n stamp free source (Some event)).journal
          whole = subst (λ (e : Option Event). IsLawful (book_of o) (step_with world n stamp free source e).journal) comes lawful
  labels_moved (Cut n stamp free source is_kept cause) may lawful = by (event_of world n stamp source) lawful
    where
      by : (e : Option Event) → IsLawful (book_of o) (cut_with world n stamp free is_kept cause e).journal → LabelsAt o (cut_with world n stamp free is_kept cause e)
      by None lawful = j.labels
      by (Some event) lawful = crashed n stamp cause (cut_log (world.hosts n) is_kept (effects_of (world.hosts n).node event free)) lawful
  labels_moved (Stop n stamp cause) may lawful = crashed n stamp cause (world.hosts n).log lawful
  labels_moved (Rise n stamp inc) may lawful = labels_stay (moved (Rise n stamp inc) world) _ refl refl lawful (λ R. ((λ tid label client is home. absurd (cc is)), tt)) (λ k low. nodes k (k == n) refl) (λ k low. same k low (k == n) refl)
    where
      nodes : (k : ℕ) (b : Bool) → (k == n) ≡ b → (if b then risen_host stamp inc (recovered_of (world.hosts n).log) (world.hosts n) else world.hosts k).node.setting.node ≡ (world.hosts k).node.setting.node
      nodes k true near = ap (λ (i : ℕ). (world.hosts i).node.setting.node) (sym (eqb-true k n near))
      nodes k false far = refl

      same : (k : ℕ) → k < world.size → (b : Bool) → (k == n) ≡ b → (if b then risen_host stamp inc (recovered_of (world.hosts n).log) (world.hosts n) else world.hosts k).node.kept.now.labels ≡ (world.hosts k).node.kept.now.labels
      same k low true near = ap (λ (i : ℕ). (world.hosts i).node.kept.saved.labels) (sym (eqb-true k n near)) ∙ ap (λ (kept : _). kept.labels) (j.held.nodes k low).accepted
      same k low false far = refl
  labels_moved (Meet n stamp m inc) may lawful = labels_stay (moved (Meet n stamp m inc) world) [] refl (sym (nil world.journal)) lawful (λ R. tt) (λ k low. ap (λ (v : NodeValue). v.setting.node) (met_node k (k == n) refl)) (λ k low. ap (λ (v : NodeValue). v.kept.now.labels) (met_node k (k == n) refl))
    where
      nil : (xs : List Entry) → xs ++ [] ≡ xs
      nil [] = refl
      nil (x ∷ xs) = ap (λ (rest : List Entry). x ∷ rest) (nil xs)

      met_node : (k : ℕ) (b : Bool) → (k == n) ≡ b → (if b then record (world.hosts n) { stamp = stamp } else world.hosts k).node ≡ (world.hosts k).node
      met_node k true near = ap (λ (i : ℕ). (world.hosts i).node) (sym (eqb-true k n near))
      met_node k false far = refl

-- ---- as a run begins nothing has an owner, and no label is kept

pub labels_start : (o : Opening) → LabelsAt o (start o)
labels_start o n low = record { owned = tt; begun = λ tid tx found some home. absurd (cc (sym some ∙ ap is_some (opening_empty (opened_from o 0 o.size) tid tx found).owner)) }

pub steps_labels : (P : Opening → World → Type 0) → InStep P KeepsLabels
steps_labels P o world n stamp free source event j makes lawful = own_labels P o world j n stamp free source event makes lawful
