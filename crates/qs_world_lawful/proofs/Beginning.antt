-- The rule by which a client begins a transaction, but for its answer.
use Rattle.qs_world_lawful.proofs.Words.{◌≡◌, ◌⊎◌, inl, inr, ℕ, ◌+◌, ◌≤◌, ◌<◌, true, List, [], Option, Some, None, refl, sym, ap, subst, ◌∙◌, arith, le_refl, true≢false, slice_get, is_some, find, is_at, tid_cmp, ClientNo, NodeNo, Tid, tid_exact, tid_itself, lookup_put, lookup_put_apart, changed_at_here, TransactionValue, begun, BookValue, find_transaction, ticks_at, is_fresh, begun_participant, Participant, KeptLabel, Decided, enter, put_label, label_at, has_label, Work, with_manager, face_of, IsEmpty}
use Rattle.qs_world_lawful.proofs.Words.{Holds, HoldsTid, HoldsAt, HoldsClients, IsOwner, IsAsking, HasEnded, HoldsWork, book_at, HoldsServers, Delivery, share_of, is_seen, seen_in, HoldsWaits, HoldsWaitsAt, IsWithin, waiting_ops, is_idle, some_same, false≢true}
use Rattle.qs_book_journal.specs.declared.entry.Act.TheVariants as acts
use Rattle.qs_book_machine.specs.Nodes as machine
use Rattle.qs_tm.specs.Manager as tm
use Rattle.qs_node_step.specs.State.{NodeValue}
use Rattle.qs_world_lawful.specs.Holds.{HasBegun}
use Rattle.qs_world_lawful.proofs.Apart.{Apart, same_or_apart}
use Rattle.qs_world_lawful.proofs.Clauses.{may_begin}
use Rattle.qs_world_lawful.proofs.Faces.{put_apart}
use Rattle.qs_world_lawful.proofs.Frames.{SameFace, at_each}
use Rattle.qs_world_lawful.proofs.Growing.{entered, book_with}
use Rattle.qs_world_lawful.proofs.Steps.{next_again, changed_length}
use Rattle.qs_world_lawful.proofs.Alike.{other_state}
use Rattle.qs_world_lawful.proofs.CrossedTables.{servers_alike}
use Rattle.qs_world_lawful.proofs.Begins.{begun_tid, label_stays, label_more}
use Rattle.qs_base_lemmas.proofs.Tests.{le_one_more}

module _ (stamp : ℕ) (before : BookValue) (work : Work) (label : List ℕ) (client : ClientNo) (h : HoldsWork stamp before work) (fresh : is_fresh (book_at stamp before work).labels label ≡ true) where
  abbrev tid : Tid
  tid = tm.next_tid work.node.manager

  abbrev entry_label : KeptLabel
  entry_label = record { label = label; tid = Some tid; owner = Some client }

  -- the work with the transaction begun
  abbrev pub begun_work : Work
  begun_work = enter (acts.Begin tid label client) (put_label entry_label (with_manager (tm.begin client) work))

  abbrev node : NodeValue
  node = work.node

  abbrev new : NodeValue
  new = begun_work.node

  abbrev book : BookValue
  book = book_at stamp before work

  abbrev new_book : BookValue
  new_book = book_with stamp before work (acts.Begin tid label client)

  abbrev here : NodeNo
  here = node.setting.node

  abbrev tx : TransactionValue
  tx = begun label client (ticks_at (slice_get book.nodes here.0))

  -- no transaction has the next identifier
  unknown : find_transaction book tid ≡ None
  unknown = by (find_transaction book tid) refl
    where
      too_many : (n : ℕ) → n + 1 ≤ n → ⊥
      too_many n e = grind (arith, e)

      not_less : (a b : ℕ) → a ≡ b → a < b → ⊥
      not_less a b e less = grind (arith, e, less)

      no : HasBegun node.setting.inc node.manager.begun tid → ⊥
      no (inl less) = not_less tid.inc node.setting.inc h.holds.same.in_inc less
      no (inr k) = too_many node.manager.begun k.1

      by : (o : Option TransactionValue) → find_transaction book tid ≡ o → o ≡ None
      by None is = refl
      by (Some x) is = absurd (no (h.holds.begun tid h.holds.same.at (ap is_some is)))

  none : IsEmpty (face_of node tid)
  none = subst (λ (o : Option TransactionValue). HoldsAt here node.setting.inc tid o (face_of node tid)) unknown (h.holds.at tid)

  found_apart : (t : Tid) → Apart tid t → find_transaction new_book t ≡ find_transaction book t
  found_apart t far = lookup_put_apart tid_cmp tid tx (tid_exact tid) (is_at (tid_cmp t)) far.at book.transactions

  found_here : find_transaction new_book tid ≡ Some tx
  found_here = lookup_put tid_cmp tid tx (tid_itself tid) book.transactions

  -- what stood in the machine stands there still
  found_on : (t : Tid) (x : TransactionValue) → find_transaction book t ≡ Some x → find_transaction new_book t ≡ Some x
  found_on t x is = by (same_or_apart tid t)
    where
      clash : None ≡ Some x → ⊥
      clash e = cc e

      by : (tid ≡ t) ⊎ Apart tid t → find_transaction new_book t ≡ Some x
      by (inl same) = absurd (clash (sym unknown ∙ subst (λ (u : Tid). find_transaction book u ≡ Some x) (sym same) is))
      by (inr far) = found_apart t far ∙ is

  faces : (t : Tid) → Apart tid t → SameFace (face_of node t) (face_of new t)
  faces t far = record { known = put_apart tid t (begun_participant client node.manager.ticks) (record node.manager { begun = node.manager.begun + 1 }) far; local = refl; changes = refl; loans = refl; waiting = λ server. refl }

  own : HoldsAt here node.setting.inc tid (find_transaction new_book tid) (face_of new tid)
  own =
      subst (λ (o : Option TransactionValue). HoldsAt here node.setting.inc tid o (face_of new tid)) (sym found_here)
      (subst (λ (o : Option Participant). HoldsTid here node.setting.inc tid tx (record (face_of node tid) { known = o })) (sym (lookup_put tid_cmp tid (begun_participant client node.manager.ticks) (tid_itself tid) node.manager.known))
      (begun_tid here node.setting.inc tid label client (ticks_at (slice_get book.nodes here.0)) node.manager.ticks (face_of node tid) none))

  begun_on : (t : Tid) → t.home ≡ here → is_some (find_transaction new_book t) ≡ true → HasBegun node.setting.inc (node.manager.begun + 1) t
  begun_on t home is = by (same_or_apart tid t)
    where
      weaker : HasBegun node.setting.inc node.manager.begun t → HasBegun node.setting.inc (node.manager.begun + 1) t
      weaker (inl less) = inl less
      weaker (inr k) = inr (k.0, le_one_more t.seq node.manager.begun k.1)

      by : (tid ≡ t) ⊎ Apart tid t → HasBegun node.setting.inc (node.manager.begun + 1) t
      by (inl same) = subst (λ (u : Tid). HasBegun node.setting.inc (node.manager.begun + 1) u) same (inr (h.holds.same.in_inc, le_refl (node.manager.begun + 1)))
      by (inr far) = weaker (h.holds.begun t home (sym (ap is_some (found_apart t far)) ∙ is))

  owner_on : (t : Tid) (c : ClientNo) → IsOwner book t c → IsOwner new_book t c
  owner_on t c o = record { tx = o.tx; found = found_on t o.tx o.found; owns = o.owns }

  labels_on : (l : List ℕ) (b : KeptLabel) (t : Tid) (c : ClientNo) → label_at l new ≡ Some b → b.tid ≡ Some t → b.owner ≡ Some c → IsOwner new_book t c
  labels_on l b t c is of owned = by (label_more l entry_label node.kept.now.labels b is)
    where
      mine : entry_label ≡ b → IsOwner new_book t c
      mine same =
          subst (λ (u : Tid). IsOwner new_book u c) (some_same (ap (λ (x : KeptLabel). x.tid) same ∙ of))
          (record { tx = tx; found = found_here; owns = ap (λ (x : KeptLabel). x.owner) same ∙ owned })

      by : (find (has_label l) node.kept.now.labels ≡ Some b) ⊎ (entry_label ≡ b) → IsOwner new_book t c
      by (inl was) = owner_on t c (h.holds.clients.labels l b t c was of owned)
      by (inr same) = mine same

  ended_on : (t : Tid) (decided : Decided) → HasEnded book t decided → HasEnded new_book t decided
  ended_on t decided e = record { tx = e.tx; found = found_on t e.tx e.found; as_kept = e.as_kept; told = λ c owns. let k = e.told c owns in record { owner = k.owner; there = k.there; known = k.known } }

  asking_on : (t : Tid) (c : ClientNo) (part : Participant) → t.home ≡ here → tm.part_of t new.manager ≡ Some part → part.outcome ≡ None → part.asked ≡ true → IsOwner new_book t c → IsAsking new t c
  asking_on t c part at is undecided asked owns = by (same_or_apart tid t)
    where
      on : IsAsking node t c → IsAsking new t c
      on a = record {
        command = a.command;
        waits = a.waits;
        commits = a.commits;
        unissued = a.unissued;
        begun = a.begun;
        labelled = label_stays a.command.line.label entry_label node.kept.now.labels a.begun a.labelled;
        of = a.of;
        owned = a.owned;
      }

      by : (tid ≡ t) ⊎ Apart tid t → IsAsking new t c
      by (inl same) =
          let it : Some (begun_participant client node.manager.ticks) ≡ Some part =
          sym (lookup_put tid_cmp tid (begun_participant client node.manager.ticks) (tid_itself tid) node.manager.known) ∙ subst (λ (u : Tid). tm.part_of u new.manager ≡ Some part) (sym same) is in
          absurd (false≢true (ap (λ (p : Participant). p.asked) (some_same it) ∙ asked))
      by (inr far) = on (h.holds.clients.asking t c part at (sym (faces t far).known ∙ is) undecided asked (record { tx = owns.tx; found = sym (found_apart t far) ∙ owns.found; owns = owns.owns }))

  clients : HoldsClients new_book new
  clients = record {
    apart = h.holds.clients.apart;
    lines = λ c command is. let b = h.holds.clients.lines c command is in record { owner = b.owner; there = b.there; less = b.less };
    labels = labels_on;
    outcomes = λ t decided is. ended_on t decided (h.holds.clients.outcomes t decided is);
    asking = asking_on;
  }

  seen_on : (n : ℕ) (t : Tid) → is_seen new_book here n t ≡ is_seen book here n t
  seen_on n t = by (same_or_apart tid t)
    where
      by : (tid ≡ t) ⊎ Apart tid t → is_seen new_book here n t ≡ is_seen book here n t
      by (inl same) = subst (λ (u : Tid). is_seen new_book here n u ≡ is_seen book here n u) same (ap (seen_in here n) found_here ∙ sym (ap (seen_in here n) unknown))
      by (inr far) = ap (seen_in here n) (found_apart t far)

  waits_on : (t : Tid) → HoldsWaitsAt here node.setting.inc t (find_transaction new_book t) (face_of new t).waiting new.servers
  waits_on t = by (same_or_apart tid t)
    where
      idle : is_idle (share_of node.servers.files.table tid) ≡ true
      idle = subst (λ (o : Option TransactionValue). HoldsWaitsAt here node.setting.inc tid o (face_of node tid).waiting node.servers) unknown (h.holds.waits tid)

      nothing : 0 ≤ 1
      nothing = grind arith

      own_waits : HoldsWaits here node.setting.inc tid tx (face_of node tid).waiting node.servers
      own_waits = record {
        whole = λ is. absurd (true≢false (sym is));
        due = λ busy. absurd (true≢false (sym idle ∙ busy));
        within = λ server at near. subst (λ (ds : List Delivery). IsWithin (waiting_ops at ds) []) (sym (none.waiting server)) tt;
        once = λ server at is. nothing;
        fits = λ server at near. tt;
      }

      by : (tid ≡ t) ⊎ Apart tid t → HoldsWaitsAt here node.setting.inc t (find_transaction new_book t) (face_of new t).waiting new.servers
      by (inl same) = subst (λ (u : Tid). HoldsWaitsAt here node.setting.inc u (find_transaction new_book u) (face_of new u).waiting new.servers) same
          (subst (λ (o : Option TransactionValue). HoldsWaitsAt here node.setting.inc tid o (face_of node tid).waiting node.servers) (sym found_here) own_waits)
      by (inr far) = subst (λ (o : Option TransactionValue). HoldsWaitsAt here node.setting.inc t o (face_of node t).waiting node.servers) (sym (found_apart t far)) (h.holds.waits t)

  still : HoldsServers (is_seen new_book here) h.holds.state node.servers
  still = servers_alike (is_seen book here) (is_seen new_book here) h.holds.state node.servers seen_on h.holds.servers

  held : Holds stamp new_book new
  held = record {
    order = next_again stamp here.0 book new_book refl refl h.holds.order;
    run = changed_length here.0 _ book.nodes ∙ h.holds.run;
    state = record h.holds.state { begun = tid.seq };
    there = changed_at_here (λ (s : machine.NodeValue). record s { begun = tid.seq }) book.nodes here.0 h.holds.state h.holds.there;
    same = record { up = h.holds.same.up; inc = h.holds.same.inc; begun = refl; extra = h.holds.same.extra; keep = h.holds.same.keep; at = h.holds.same.at; in_inc = h.holds.same.in_inc };
    at = at_each here node.setting.inc book new_book node new tid h.holds.at found_apart faces own;
    begun = begun_on;
    clients = clients;
    servers = other_state (is_seen new_book here) h.holds.state (record h.holds.state { begun = tid.seq }) node.servers refl refl refl refl refl refl still.doubts still;
    waits = waits_on;
  }

  pub by_begin : HoldsWork stamp before begun_work
  by_begin = entered stamp before work begun_work (acts.Begin tid label client) h refl refl (may_begin stamp book node h.holds label client fresh) held
