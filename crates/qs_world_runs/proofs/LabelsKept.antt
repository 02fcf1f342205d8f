-- A step keeps the labels that its node has, keeps the label of what it begins as its owner's, and learns none of a transaction of its own that has
-- no owner: so it is after each thing that a rule does.
use Rattle.qs_world_runs.proofs.Words.{◌≡◌, ℕ, Bool, true, false, ◌||◌, List, [], ◌∷◌, ◌++◌, Some, None, refl, sym, ap, subst, ◌∙◌, list_any-append, list_any, ⊤, same_tid-self, ClientNo, Member, NodeNo, ServerNo, Tid, Act, KeptLabel, Op, step_work, Event, Every, every_on, every_more, AreOwned, IsKept, IsOrdinary, Trace, trace_of, same_Some}
use Rattle.qs_book_journal.specs.declared.entry.Act.TheVariants as acts
use Rattle.qs_ops.specs.declared.answer.Answer.TheVariants as answers
use Rattle.qs_packet.specs.declared.message.Message.TheVariants as messages
use Rattle.qs_node_step.specs.State.{NodeValue}
use Rattle.qs_node_step.specs.declared.event.Event.TheVariants as events
use Rattle.qs_world_runs.specs.Labels.{is_owned_as, is_owned_in}
use Rattle.qs_world_runs.specs.Traces.{TakesIn, entered, noted}
use Rattle.qs_world_runs.proofs.TraceStages.{step_traced}

-- what begins has its owner's label
abbrev pub HasLabel : List KeptLabel → Act → Type 0
HasLabel labels (acts.Begin tid label client) = is_owned_in labels tid ≡ true
HasLabel labels act = ⊤

pub record Labelled (here : NodeNo) (was : List KeptLabel) (t : Trace) : Type 0 where
  pub grows : (tid : Tid) → is_owned_in was tid ≡ true → is_owned_in t.labels tid ≡ true
  pub owned : Every (AreOwned here t.labels) t.labels
  pub begun : Every (HasLabel t.labels) t.entries

-- ---- one more label

module _ (labels : List KeptLabel) (label : KeptLabel) where
  or_before : (tid : Tid) → is_owned_in labels tid ≡ true → is_owned_in (labels ++ label ∷ []) tid ≡ true
  or_before tid is = list_any-append (is_owned_as tid) labels (label ∷ []) ∙ ap (λ (b : Bool). b || list_any (is_owned_as tid) (label ∷ [])) is

  or_last : (tid : Tid) → is_owned_as tid label ≡ true → is_owned_in (labels ++ label ∷ []) tid ≡ true
  or_last tid is = list_any-append (is_owned_as tid) labels (label ∷ []) ∙ of (list_any (is_owned_as tid) labels) (is_owned_as tid label) is
    where
      of : (b c : Bool) → c ≡ true → (b || (c || false)) ≡ true
      of true c is = refl
      of false c is = rw is refl

  has_before : (act : Act) → HasLabel labels act → HasLabel (labels ++ label ∷ []) act
  has_before (acts.Begin tid name client) is = or_before tid is
  has_before act is = tt

ordinary : (labels : List KeptLabel) (act : Act) → IsOrdinary act → HasLabel labels act
ordinary labels (acts.Begin tid label client) is = absurd is
ordinary labels act is = tt

owned_one : (tid : Tid) (label : List ℕ) (client : ClientNo) → is_owned_as tid (record { label = label; tid = Some tid; owner = Some client }) ≡ true
owned_one tid label client = same_tid-self tid

module _ (here : NodeNo) (was : List KeptLabel) where
  enters : (t : Trace) (act : Act) → HasLabel t.labels act → Labelled here was t → Labelled here was (entered act t)
  enters t act has l = record { grows = l.grows; owned = l.owned; begun = every_more (HasLabel t.labels) t.entries (act ∷ []) l.begun (has, tt) }

  notes : (t : Trace) (label : KeptLabel) → ((tid : Tid) → label.tid ≡ Some tid → tid.home ≡ here → is_owned_in (t.labels ++ label ∷ []) tid ≡ true) → Labelled here was t → Labelled here was (noted label t)
  notes t label its l = record {
    grows = λ tid is. or_before t.labels label tid (l.grows tid is);
    owned = every_more (AreOwned here (t.labels ++ label ∷ [])) t.labels (label ∷ [])
        (every_on (AreOwned here t.labels) (AreOwned here (t.labels ++ label ∷ [])) (λ other so tid is home. or_before t.labels label tid (so tid is home)) t.labels l.owned) (its, tt);
    begun = every_on (HasLabel t.labels) (HasLabel (t.labels ++ label ∷ [])) (has_before t.labels label) t.entries l.begun;
  }

  pub labelled_kept : IsKept (Labelled here was)
  labelled_kept = record {
    enters = λ t act is l. enters t act (ordinary t.labels act is) l;
    sends = λ t to message is l. record { grows = l.grows; owned = l.owned; begun = l.begun };
    closes = λ t client command said there l. let e = enters t (acts.Answer client command.line.line said) tt l in record { grows = e.grows; owned = e.owned; begun = e.begun };
    begins = λ t line tid there is l. (
        let own : KeptLabel = record { label = line.label; tid = Some tid; owner = Some line.client } in
        let n : Labelled here was (noted own t) = notes t own (λ other same home. or_last t.labels own other (subst (λ (x : Tid). is_owned_as other (record { label = line.label; tid = Some x; owner = Some line.client }) ≡ true) (sym (same_Some tid other same)) (owned_one other line.label line.client))) l in
        let b : Labelled here was (entered (acts.Begin tid line.label line.client) (noted own t)) = enters (noted own t) (acts.Begin tid line.label line.client) (or_last t.labels own tid (owned_one tid line.label line.client)) n in
        let e : Labelled here was (entered (acts.Answer line.client line.line answers.Done) (entered (acts.Begin tid line.label line.client) (noted own t))) = enters (entered (acts.Begin tid line.label line.client) (noted own t)) (acts.Answer line.client line.line answers.Done) tt b in
        record { grows = e.grows; owned = e.owned; begun = e.begun });
    refuses = λ t line l. notes t (record { label = line.label; tid = None; owner = Some line.client }) (λ tid none home. absurd (cc none)) l;
    marks = λ t client issued l. record { grows = l.grows; owned = l.owned; begun = l.begun };
    issues = λ t tid issuer member number op l. enters t (acts.Issue tid (record { node = t.setting.node; server = issuer }) member number op) tt l;
    asks = λ t tid label issuer member number op away l. let e = enters t (acts.Issue tid (record { node = t.setting.node; server = issuer }) member number op) tt l in record { grows = e.grows; owned = e.owned; begun = e.begun };
    queues = λ t server delivery own l. record { grows = l.grows; owned = l.owned; begun = l.begun };
    serves = λ t server delivery reply next l. let e = enters t (acts.Serve delivery.tid (record { node = t.setting.node; server = server }) delivery.from delivery.number reply) tt l in record { grows = e.grows; owned = e.owned; begun = e.begun };
    leaves = λ t server l. record { grows = l.grows; owned = l.owned; begun = l.begun };
    forgets = λ t tid l. record { grows = l.grows; owned = l.owned; begun = l.begun };
    stales = λ t peer l. record { grows = l.grows; owned = l.owned; begun = l.begun };
  }

  -- a request that comes of a transaction of this node's tells a label of what has its owner's already
  abbrev pub AsksOwned : Event → Type 0
  AsksOwned event = (peer : NodeNo) (tid : Tid) (label : List ℕ) (member : Member) (number : ℕ) (issuer : ServerNo) (op : Op) → event ≡ events.Received peer (messages.Request tid label member number issuer op) → tid.home ≡ here → is_owned_in was tid ≡ true

  pub labelled_taken : (event : Event) → AsksOwned event → TakesIn event (Labelled here was) (Labelled here was)
  labelled_taken event asks = record {
    lets = λ t l. l;
    comes = λ t line is l. record { grows = l.grows; owned = l.owned; begun = l.begun };
    learns = λ t peer tid label member number issuer op is l. notes t (record { label = label; tid = Some tid; owner = None }) (λ other same home.
        or_before t.labels (record { label = label; tid = Some tid; owner = None }) other (l.grows other
        (subst (λ (x : Tid). is_owned_in was x ≡ true) (same_Some tid other same) (asks peer tid label member number issuer op is (ap (λ (x : Tid). x.home) (same_Some tid other same) ∙ home))))) l;
    takes = λ t peer tid label member number issuer op is l. record { grows = l.grows; owned = l.owned; begun = l.begun };
  }

-- ---- the whole step

pub step_labels : (node : NodeValue) (event : Event) (free : ℕ) → Every (AreOwned node.setting.node node.kept.now.labels) node.kept.now.labels → AsksOwned node.setting.node node.kept.now.labels event
    → Labelled node.setting.node node.kept.now.labels (trace_of (step_work node event free))
step_labels node event free owned asks = step_traced (Labelled here was) (Labelled here was) (labelled_kept here was) (labelled_kept here was) node event free (labelled_taken here was event asks) (record { grows = λ tid is. is; owned = owned; begun = tt })
  where
    here : NodeNo
    here = node.setting.node

    was : List KeptLabel
    was = node.kept.now.labels
