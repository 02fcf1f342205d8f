-- What stands in the middle of a rule stands on through all that rules are made of, as long as their entries are lawful.
use Rattle.qs_world_lawful.proofs.Words.{◌≡◌, ◌⊎◌, inl, inr, ◌<◌, ◌^◌, ℕ, Bool, true, false, List, [], ◌∷◌, ◌++◌, Option, Some, None, refl, sym, ap, subst, ◌∙◌, fold, append_assoc, if◌then◌else◌, append-nil, slice_get, NodeNo, Tid, Act, Entry, opening_holds, Inv, after_both, ran, BookValue, IsLawful, book_after, broken, effect, opening, Cause, Message, where_undecided, is_other, send, send_each, Work, here, with_manager, Sending, Setting, is_undecided, Manager, Participant, entries_of, entry_of}
use Rattle.qs_world_lawful.proofs.Words.{InRun, IsSent, HoldsBeside, IsTrueCause, book_at, entries_so_far, Every, GoesTo, IsSaid, none_is}
use Rattle.qs_packet.specs.declared.message.Message.TheVariants as messages
use Rattle.qs_node_step.specs.Answering.{was_committed}
use Rattle.qs_node_step.specs.Bringing.{send_next}
use Rattle.qs_node_step.specs.State.{NodeValue, part_of}
use Rattle.qs_tm.specs.Manager as tm
use Rattle.qs_world_lawful.specs.Amid.{GoesOn}
use Rattle.qs_world_lawful.proofs.Apart.{Apart, same_or_apart}
use Rattle.qs_world_lawful.proofs.BesideActs.{steps_self}
use Rattle.qs_world_lawful.proofs.BesideParts.{PartOn, PartStep, part_same, tid_on}
use Rattle.qs_world_lawful.proofs.Faces.{part_apart, part_changed, part_unknown}
use Rattle.qs_world_lawful.proofs.Growing.{book_now}
use Rattle.qs_world_lawful.proofs.LogFrames.{every_on}
use Rattle.qs_world_lawful.proofs.LogKeeps.{book_is, lawful_before, lawful_since}
use Rattle.qs_world_lawful.proofs.LogRecords.{every_append}
use Rattle.qs_world_lawful.proofs.SaidStays.{said_stays}

-- ---- a machine of a run

pub joined : (es more : List Entry) (book : BookValue) → IsLawful book es → IsLawful (book_after book es) more → IsLawful book (es ++ more)
joined [] more book a b = b
joined (e ∷ es) more book a b = (a.0, joined es more (effect book e) a.1 b)

pub inv_in : (book : BookValue) → InRun book → Inv book
inv_in book r = subst Inv (sym r.is) (ran r.history (opening r.opened) (opening_holds r.opened r.coherent) r.lawful).inv

-- what a message says is so for good
pub said_on : (before : BookValue) → InRun before → (es more : List Entry) → IsLawful before es → IsLawful (book_after before es) more → (message : Message) → IsSaid (book_after before es) message → IsSaid (book_after (book_after before es) more) message
said_on before r es more = subst (λ (b : BookValue). IsLawful b es → IsLawful (book_after b es) more → (message : Message) → IsSaid (book_after b es) message → IsSaid (book_after (book_after b es) more) message) (sym r.is) core
  where
    start : BookValue
    start = book_after (opening r.opened) r.history

    core : IsLawful start es → IsLawful (book_after start es) more → (message : Message) → IsSaid (book_after start es) message → IsSaid (book_after (book_after start es) more) message
    core lawful then_lawful message = subst (λ (b : BookValue). IsSaid b message → IsSaid (book_after b more) message) (after_both r.history es (opening r.opened))
        (said_stays r.opened (r.history ++ es) more r.coherent (joined r.history es (opening r.opened) r.lawful lawful)
        (subst (λ (b : BookValue). IsLawful b more) (sym (after_both r.history es (opening r.opened))) then_lawful) message)

module _ (stamp : ℕ) (before : BookValue) (run : InRun before) where
  abbrev pub Goes : Work → Work → Type 0
  Goes work new = GoesOn stamp before work new

  i : Inv before
  i = inv_in before run

  lawful_then : (work new : Work) (more : List Act) → new.out.entries ≡ work.out.entries ++ more → new.node.setting ≡ work.node.setting → IsLawful before (entries_so_far stamp new) → IsLawful before (entries_so_far stamp work)
  lawful_then work new more grows same lawful = lawful_before stamp before i [] [] work new more grows same lawful

  -- what was said is so after more entries
  pub says_on : (work new : Work) (more : List Act) → new.out.entries ≡ work.out.entries ++ more → new.node.setting ≡ work.node.setting → IsLawful before (entries_so_far stamp new) → (message : Message)
      → IsSaid (book_at stamp before work) message → IsSaid (book_at stamp before new) message
  says_on work new more grows same lawful message is = subst (λ (b : BookValue). IsSaid b message) (sym (book_is stamp before i [] [] work new more grows same))
      (said_on before run (entries_so_far stamp work) (entries_of (here work).0 stamp more) (lawful_then work new more grows same lawful) (lawful_since stamp before i [] [] work new more grows same lawful) message is)

  sent_on : (work new : Work) (more : List Act) → new.out.entries ≡ work.out.entries ++ more → new.node.setting ≡ work.node.setting → IsLawful before (entries_so_far stamp new) → (sendings : List Sending)
      → Every (IsSent (book_at stamp before work) work.node.setting) sendings → Every (IsSent (book_at stamp before new) new.node.setting) sendings
  sent_on work new more grows same lawful sendings all = every_on (IsSent (book_at stamp before work) work.node.setting) (IsSent (book_at stamp before new) new.node.setting)
      (λ s is. record { other = ap (λ (t : Setting). is_other t s.to) same ∙ is.other; goes = is.goes; says = says_on work new more grows same lawful s.message is.says }) sendings all

  -- ---- how rules are put together

  pub goes_self : (work : Work) → Goes work work
  goes_self work = record { more = []; entries = sym (append-nil work.out.entries); setting = refl; logged = refl; keeps = λ lawful h. h; sends = λ lawful h all. all }

  pub goes_then : (work mid new : Work) → Goes work mid → Goes mid new → Goes work new
  goes_then work mid new a b = record {
    more = a.more ++ b.more;
    entries = b.entries ∙ (ap (λ (acted : List Act). acted ++ b.more) a.entries ∙ append_assoc work.out.entries a.more b.more);
    setting = b.setting ∙ a.setting;
    logged = b.logged ∙ a.logged;
    keeps = λ lawful h. b.keeps lawful (a.keeps (lawful_then mid new b.more b.entries b.setting lawful) h);
    sends = λ lawful h all. b.sends lawful (a.keeps (lawful_then mid new b.more b.entries b.setting lawful) h) (a.sends (lawful_then mid new b.more b.entries b.setting lawful) h all);
  }

  pub goes_if : (b : Bool) (work x y : Work) → (b ≡ true → Goes work x) → (b ≡ false → Goes work y) → Goes work (if b then x else y)
  goes_if true work x y p q = p refl
  goes_if false work x y p q = q refl

  pub goes_elim : {A : Type 0} (o : Option A) (work new : Work) (g : A → Work) → (o ≡ None → Goes work new) → ((a : A) → o ≡ Some a → Goes work (g a)) → Goes work (elim o [ None ↦ new | Some a ↦ g a ])
  goes_elim None work new g p q = p refl
  goes_elim (Some a) work new g p q = q a refl

  pub goes_fold : {A : Type 0} (f : Work → A → Work) → ((work : Work) (a : A) → Goes work (f work a)) → (xs : List A) (work : Work) → Goes work (fold f work xs)
  goes_fold f each [] work = goes_self work
  goes_fold f each (x ∷ xs) work = goes_then work (f work x) (fold f (f work x) xs) (each work x) (goes_fold f each xs (f work x))

  pub goes_where : (tid : Tid) (rule : Participant → Work → Work) (work : Work) → ((part : Participant) → part_of tid work ≡ Some part → part.outcome ≡ None → Goes work (rule part work)) → Goes work (where_undecided tid rule work)
  goes_where tid rule work each = goes_elim (part_of tid work) work work (λ part. if is_undecided part then rule part work else work) (λ none. goes_self work)
      (λ part known. goes_if (is_undecided part) work (rule part work) work (λ is. each part known (none_is part.outcome is)) (λ is. goes_self work))

  -- ---- what enters nothing

  pub goes_still : (work new : Work) → new.out.entries ≡ work.out.entries → new.out.messages ≡ work.out.messages → new.node.setting ≡ work.node.setting → new.node.committed ≡ work.node.committed
      → (HoldsBeside (book_at stamp before work) work.node → HoldsBeside (book_at stamp before work) new.node) → Goes work new
  goes_still work new entries sendings setting logged keeps = record {
    more = [];
    entries = grows;
    setting = setting;
    logged = logged;
    keeps = λ lawful h. subst (λ (b : BookValue). HoldsBeside b new.node) (sym (book_is stamp before i [] [] work new [] grows setting)) (keeps h);
    sends = λ lawful h all. subst (Every (IsSent (book_at stamp before new) new.node.setting)) (sym sendings) (sent_on work new [] grows setting lawful work.out.messages all);
  }
    where
      grows : new.out.entries ≡ work.out.entries ++ []
      grows = entries ∙ sym (append-nil work.out.entries)

  -- ---- a message

  pub goes_send : (to : NodeNo) (message : Message) (work : Work) → GoesTo to.0 message → (HoldsBeside (book_at stamp before work) work.node → IsSaid (book_at stamp before work) message) → Goes work (send to message work)
  goes_send to message work goes says = goes_if (is_other work.node.setting to) work sent work told (λ is. goes_self work)
    where
      sent : Work
      sent = record work { out = record work.out { messages = work.out.messages ++ record { to = to; message = message } ∷ [] } }

      told : is_other work.node.setting to ≡ true → Goes work sent
      told other = record {
        more = [];
        entries = sym (append-nil work.out.entries);
        setting = refl;
        logged = refl;
        keeps = λ lawful h. h;
        sends = λ lawful h all. every_append (IsSent (book_at stamp before work) work.node.setting) work.out.messages (record { to = to; message = message } ∷ []) all (record { other = other; goes = goes; says = says h }, tt);
      }

  pub goes_sends : (nodes : List NodeNo) (message : Message) (work : Work) → ((to : NodeNo) → GoesTo to.0 message) → ((w : Work) → w.node ≡ work.node → w.out.entries ≡ work.out.entries → HoldsBeside (book_at stamp before w) w.node → IsSaid (book_at stamp before w) message)
      → Goes work (send_each nodes message work)
  goes_sends nodes message work goes says = each nodes work refl refl
    where
      node_sent : (b : Bool) (w : Work) (to : NodeNo) → (if b then record w { out = record w.out { messages = w.out.messages ++ record { to = to; message = message } ∷ [] } } else w).node ≡ w.node
      node_sent true w to = refl
      node_sent false w to = refl

      entries_sent : (b : Bool) (w : Work) (to : NodeNo) → (if b then record w { out = record w.out { messages = w.out.messages ++ record { to = to; message = message } ∷ [] } } else w).out.entries ≡ w.out.entries
      entries_sent true w to = refl
      entries_sent false w to = refl

      each : (nodes : List NodeNo) (w : Work) → w.node ≡ work.node → w.out.entries ≡ work.out.entries → Goes w (fold (send_next message) w nodes)
      each [] w at es = goes_self w
      each (to ∷ nodes) w at es = goes_then w (send to message w) (fold (send_next message) (send to message w) nodes) (goes_send to message w (goes to) (says w at es))
          (each nodes (send to message w) (node_sent (is_other w.node.setting to) w to ∙ at) (entries_sent (is_other w.node.setting to) w to ∙ es))

  -- ---- one entry

  pub goes_entry : (work new : Work) (act : Act) → new.node.setting ≡ work.node.setting → new.node.committed ≡ work.node.committed → new.out.entries ≡ work.out.entries ++ act ∷ [] → new.out.messages ≡ work.out.messages
      → (broken (book_at stamp before work) (entry_of (here work).0 stamp act) ≡ None → Inv (book_at stamp before work)
      → ((tid : Tid) (cause : Cause) → IsTrueCause (book_at stamp before work) tid cause → IsTrueCause (effect (book_at stamp before work) (entry_of (here work).0 stamp act)) tid cause)
      → HoldsBeside (book_at stamp before work) work.node → HoldsBeside (effect (book_at stamp before work) (entry_of (here work).0 stamp act)) new.node) → Goes work new
  goes_entry work new act setting logged grows sendings keeps = record {
    more = act ∷ [];
    entries = grows;
    setting = setting;
    logged = logged;
    keeps = λ lawful h.
        let fine : broken (book_at stamp before work) (entry_of (here work).0 stamp act) ≡ None = (lawful_since stamp before i [] [] work new (act ∷ []) grows setting lawful).0 in
        let was_lawful : IsLawful before (entries_so_far stamp work) = lawful_then work new (act ∷ []) grows setting lawful in
        subst (λ (b : BookValue). HoldsBeside b new.node) (sym (book_now stamp before work new act setting grows))
        (keeps fine (ran (entries_so_far stamp work) before i was_lawful).inv
        (λ tid cause is. said_on before run (entries_so_far stamp work) (entry_of (here work).0 stamp act ∷ []) was_lawful (fine, tt) (messages.VotedAbort tid cause) is) h);
    sends = λ lawful h all. subst (Every (IsSent (book_at stamp before new) new.node.setting)) (sym sendings) (sent_on work new (act ∷ []) grows setting lawful work.out.messages all);
  }

  -- ---- the node alone

  pub alike_committed : (node fresh : NodeValue) (t : Tid) → fresh.kept.now.outcomes ≡ node.kept.now.outcomes → fresh.committed ≡ node.committed → was_committed t fresh ≡ was_committed t node
  alike_committed node fresh t outcomes committed = rw (outcomes, committed) refl

  -- what changes neither transactions nor outcomes nor clocks
  pub beside_alike : (book : BookValue) (node fresh : NodeValue) → fresh.setting ≡ node.setting → fresh.manager ≡ node.manager → fresh.kept.now.outcomes ≡ node.kept.now.outcomes → fresh.committed ≡ node.committed
      → fresh.servers.timers.timers.ticks ≡ node.servers.timers.timers.ticks → HoldsBeside book node → HoldsBeside book fresh
  beside_alike book node fresh setting manager outcomes committed ticks h = record {
    state = h.state;
    there = subst (λ (s : Setting). slice_get book.nodes s.node.0 ≡ Some h.state) (sym setting) h.there;
    inc = h.inc ∙ ap (λ (s : Setting). s.inc) (sym setting);
    owners = h.owners;
    at = λ t. tid_on book book h.state h.state node fresh t setting (λ cause is. is) (λ is. is) (steps_self node.setting.node node.setting.inc book t) (λ is. alike_committed node fresh t outcomes committed ∙ is) (h.at t)
        (part_same node fresh t (ap (tm.part_of t) manager));
    clock = record { ticks = ticks ∙ (h.clock.ticks ∙ ap (λ (m : Manager). m.ticks) (sym manager)); room = subst (λ (m : Manager). m.ticks < 2 ^ 62) (sym manager) h.clock.room };
  }

  pub goes_alike : (work new : Work) → new.out ≡ work.out → new.node.setting ≡ work.node.setting → new.node.manager ≡ work.node.manager → new.node.kept.now.outcomes ≡ work.node.kept.now.outcomes → new.node.committed ≡ work.node.committed
      → new.node.servers.timers.timers.ticks ≡ work.node.servers.timers.timers.ticks → Goes work new
  goes_alike work new out setting manager outcomes committed ticks = goes_still work new (ap (λ o. o.entries) out) (ap (λ o. o.messages) out) setting committed
      (beside_alike (book_at stamp before work) work.node new.node setting manager outcomes committed ticks)

  -- what changes what is kept of one transaction
  pub beside_part : (book : BookValue) (node : NodeValue) (tid : Tid) (f : Participant → Participant) → ((p : Participant) → tm.part_of tid node.manager ≡ Some p → PartOn p (f p)) → HoldsBeside book node
      → HoldsBeside book (record node { manager = tm.with_part tid f node.manager })
  beside_part book node tid f on h = record {
    state = h.state;
    there = h.there;
    inc = h.inc;
    owners = h.owners;
    at = λ t. tid_on book book h.state h.state node fresh t refl (λ cause is. is) (λ is. is) (steps_self node.setting.node node.setting.inc book t) (λ is. is) (h.at t) (of t (same_or_apart tid t));
    clock = record { ticks = h.clock.ticks; room = h.clock.room };
  }
    where
      fresh : NodeValue
      fresh = record node { manager = tm.with_part tid f node.manager }

      own : PartStep node fresh tid
      own = record { none = λ is. part_unknown tid f node.manager is; some = λ p known. (f p, part_changed tid f node.manager p known, on p known) }

      of : (t : Tid) → (tid ≡ t) ⊎ Apart tid t → PartStep node fresh t
      of t (inl same) = subst (PartStep node fresh) same own
      of t (inr far) = part_same node fresh t (part_apart tid t f node.manager far)

  pub goes_part : (tid : Tid) (f : Participant → Participant) (work : Work) → ((p : Participant) → part_of tid work ≡ Some p → PartOn p (f p)) → Goes work (with_manager (tm.with_part tid f) work)
  goes_part tid f work on = goes_still work (with_manager (tm.with_part tid f) work) refl refl refl refl (beside_part (book_at stamp before work) work.node tid f on)
