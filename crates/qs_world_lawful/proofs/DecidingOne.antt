-- The home decides: the rule as a whole, but for what its servers learn and whom it tells.
use Rattle.qs_world_lawful.proofs.Words.{◌≡◌, ◌⊎◌, inl, inr, ℕ, Bool, true, false, List, [], ◌∷◌, ◌++◌, Option, Some, None, refl, sym, ap, subst, ◌∙◌, nat_lt, true≢false, slice_get, slice_set, is_some, option_map, find, is_at, tid_cmp, ClientNo, NodeNo, Outcome, Tid, Cause, changed_alike, changed_at_either, changed_at_here, TransactionValue, decided_at, is_open, is_outcome, cell_of, Cell, BookValue, find_transaction, told, told_owner, owner_of, changed_at, broken, Owner, Record, Participant}
use Rattle.qs_world_lawful.proofs.Words.{kept_outcome, is_outcome_of, enter, log_if, tid_of, outcome_answer, keep_outcome, Work, with_manager, Decided, entry_of, face_of, Holds, HoldsTid, HoldsClients, IsBehind, IsOwner, MayBeTold, HasEnded, IsAsking, HoldsWork, book_at, some_same}
use Rattle.qs_base.specs.declared.identifiers.Outcome.TheVariants as outcomes
use Rattle.qs_book_journal.specs.declared.entry.Act.TheVariants as acts
use Rattle.qs_book_machine.specs.declared.transaction.Cell.TheVariants as cells
use Rattle.qs_tm.specs.Manager as tm
use Rattle.qs_tm.specs.Outcomes as outcome_rules
use Rattle.qs_node_step.specs.State.{NodeValue}
use Rattle.qs_node_kept.specs.Keeping.{with_now}
use Rattle.qs_world_lawful.specs.Face.{Face}
use Rattle.qs_world_lawful.proofs.Apart.{Apart, same_or_apart}
use Rattle.qs_world_lawful.proofs.Bare.{held_bare, bare_part}
use Rattle.qs_world_lawful.proofs.Clauses.{of_tid}
use Rattle.qs_world_lawful.proofs.CommitsWhole.{committed_whole}
use Rattle.qs_world_lawful.proofs.Faces.{part_apart, part_changed}
use Rattle.qs_world_lawful.proofs.Frames.{found_alike}
use Rattle.qs_world_lawful.proofs.Growing.{entered, book_with}
use Rattle.qs_world_lawful.proofs.States.{state_itself}
use Rattle.qs_world_lawful.proofs.Steps.{one_changed, servers_still, waits_of, found_now, found_apart}
use Rattle.qs_world_lawful.proofs.Told.{known_still, known_now}

-- ---- the transaction itself

no_open : (outcome : Outcome) → is_open (cell_of outcome) ≡ true → ⊥
no_open outcomes.Commit is = cc is
no_open outcomes.Abort is = cc is

as_cell : (outcome : Outcome) → is_outcome outcome (cell_of outcome) ≡ true
as_cell outcomes.Commit = refl
as_cell outcomes.Abort = refl

decided_tid : (place : ℕ) (outcome : Outcome) (cause : Option Cause) (here : NodeNo) (inc : ℕ) (tid : Tid) (tx : TransactionValue) (face : Face) (part : Participant) → part.outcome ≡ None → HoldsTid here inc tid tx (record face { known = Some part })
    → HoldsTid here inc tid (decided_at place outcome cause tx) (record face { known = Some (outcome_rules.decided outcome part) })
decided_tid place outcome cause here inc tid tx face part unknown h = record {
  sized = h.sized;
  members = λ held server kept. let m = h.members refl server kept in record { covers = m.covers; voted = m.voted; votes = m.votes; learns = m.learns; ends = m.ends };
  asked = h.asked;
  outcome = λ o is. subst (λ (x : Outcome). is_outcome x (cell_of outcome) ≡ true) (some_same is) (as_cell outcome);
  silent = λ is. absurd (nothing (sym unknown ∙ h.silent is));
  local = h.local;
  sent = λ held. h.sent refl;
  pending = h.pending;
  noted = λ held. h.noted refl;
  queued = h.queued;
  made = h.made;
  yielded = h.yielded;
  home = λ near in_inc. record {
    runs = λ is. refl;
    undecided = λ p same none. absurd (clash (ap (λ (q : Participant). q.outcome) (some_same same) ∙ none));
    asked = λ p same is. absurd (no_open outcome is);
  };
}
  where
    nothing : None ≡ Some outcomes.Abort → ⊥
    nothing e = cc e

    clash : Some outcome ≡ None → ⊥
    clash e = cc e

-- ---- what is kept of outcomes

module _ (t : Tid) (d : Decided) where
  kept_more : (ds : List Decided) (was : Decided) → find (is_outcome_of t) (ds ++ d ∷ []) ≡ Some was → (find (is_outcome_of t) ds ≡ Some was) ⊎ ((is_outcome_of t d ≡ true) × (d ≡ was))
  kept_more [] was is = by (is_outcome_of t d) refl is
    where
      by : (b : Bool) → is_outcome_of t d ≡ b → find (is_outcome_of t) (d ∷ []) ≡ Some was → (None ≡ Some was) ⊎ ((is_outcome_of t d ≡ true) × (d ≡ was))
      by true so e = inr (so, some_same (rw so at e))
      by false so e = absurd (cc (rw so at e))
  kept_more (x ∷ ds) was is = by (is_outcome_of t x) refl (kept_more ds was)
    where
      by : (b : Bool) → is_outcome_of t x ≡ b → (find (is_outcome_of t) (ds ++ d ∷ []) ≡ Some was → (find (is_outcome_of t) ds ≡ Some was) ⊎ ((is_outcome_of t d ≡ true) × (d ≡ was)))
          → (find (is_outcome_of t) (x ∷ ds) ≡ Some was) ⊎ ((is_outcome_of t d ≡ true) × (d ≡ was))
      by true so more = inl (rw so (rw so at is))
      by false so more = past (more (rw so at is))
        where
          past : (find (is_outcome_of t) ds ≡ Some was) ⊎ ((is_outcome_of t d ≡ true) × (d ≡ was)) → (find (is_outcome_of t) (x ∷ ds) ≡ Some was) ⊎ ((is_outcome_of t d ≡ true) × (d ≡ was))
          past (inl e) = inl (rw so e)
          past (inr e) = inr e

-- ---- the rule

module _ (stamp : ℕ) (before : BookValue) (work : Work) (tid : Tid) (outcome : Outcome) (cause : Option Cause) (rec : Option Record) (part : Participant) (tx : TransactionValue) (h : HoldsWork stamp before work)
    (known : tm.part_of tid work.node.manager ≡ Some part) (found : find_transaction (book_at stamp before work) tid ≡ Some tx)
    (unknown : part.outcome ≡ None) (still : is_open tx.cell ≡ true)
    -- the machine keeps what its owner may be told
    (slot : (client : ClientNo) → tx.owner ≡ Some client → is_some (slice_get (book_at stamp before work).owners client.0) ≡ true) where
  abbrev node : NodeValue
  node = work.node

  abbrev here : NodeNo
  here = node.setting.node

  abbrev d : Decided
  d = record { tid = tid; outcome = outcome; cause = cause }

  -- the node but for its log
  abbrev decided_node : NodeValue
  decided_node = record node { manager = tm.decide tid outcome node.manager; kept = with_now (λ k. record k { outcomes = node.kept.now.outcomes ++ d ∷ [] }) node.kept }

  abbrev book : BookValue
  book = book_at stamp before work

  abbrev new_book : BookValue
  new_book = book_with stamp before work (acts.Decide tid outcome cause)

  abbrev f : TransactionValue → TransactionValue
  f = decided_at book.place outcome cause

  owners : new_book.owners ≡ told_owner tx.owner outcome cause book.owners
  owners = ap (λ (o : Option TransactionValue). told_owner (owner_of o) outcome cause book.owners) found

  owned_alike : (t : Tid) → option_map (λ (x : TransactionValue). x.owner) (find_transaction new_book t) ≡ option_map (λ (x : TransactionValue). x.owner) (find_transaction book t)
  owned_alike t = changed_alike (is_at (tid_cmp tid)) (λ (x : TransactionValue). x.owner) f (λ x. refl) (is_at (tid_cmp t)) book.transactions

  owner_on : (t : Tid) (c : ClientNo) → IsOwner book t c → IsOwner new_book t c
  owner_on t c o = let now = found_alike (λ (x : TransactionValue). x.owner) (find_transaction new_book t) (find_transaction book t) o.tx (owned_alike t) o.found in record { tx = now.0; found = now.1; owns = now.2 ∙ o.owns }

  owner_back : (t : Tid) (c : ClientNo) → IsOwner new_book t c → IsOwner book t c
  owner_back t c o = let was = found_alike (λ (x : TransactionValue). x.owner) (find_transaction book t) (find_transaction new_book t) o.tx (sym (owned_alike t)) o.found in record { tx = was.0; found = was.1; owns = was.2 ∙ o.owns }

  -- an owner is as it was, or was told
  owner_either : (c : ℕ) (owner : Owner) → slice_get book.owners c ≡ Some owner → (slice_get new_book.owners c ≡ Some owner) ⊎ (slice_get new_book.owners c ≡ Some (told outcome cause owner))
  owner_either c owner there = by tx.owner (ap (λ (os : List Owner). slice_get os c) owners)
    where
      by : (o : Option ClientNo) → slice_get new_book.owners c ≡ slice_get (told_owner o outcome cause book.owners) c → (slice_get new_book.owners c ≡ Some owner) ⊎ (slice_get new_book.owners c ≡ Some (told outcome cause owner))
      by None is = inl (is ∙ there)
      by (Some client) is = of (slice_get book.owners client.0) refl
        where
          of : (o : Option Owner) → slice_get book.owners client.0 ≡ o → (slice_get new_book.owners c ≡ Some owner) ⊎ (slice_get new_book.owners c ≡ Some (told outcome cause owner))
          of None none = inl (is ∙ (ap (λ (o : Option Owner). slice_get (elim o [ None ↦ book.owners | Some x ↦ slice_set book.owners client.0 (told outcome cause x) ]) c) none ∙ there))
          of (Some own) has = at (changed_at_either (told outcome cause) book.owners client.0 c own has)
            where
              at : ((c ≡ client.0) × (slice_get book.owners c ≡ Some own) × (slice_get (changed_at client.0 (told outcome cause) book.owners) c ≡ Some (told outcome cause own))) ⊎ (slice_get (changed_at client.0 (told outcome cause) book.owners) c ≡ slice_get book.owners c)
                  → (slice_get new_book.owners c ≡ Some owner) ⊎ (slice_get new_book.owners c ≡ Some (told outcome cause owner))
              at (inl same) = inr (is ∙ (same.2 ∙ ap (λ (o : Owner). Some (told outcome cause o)) (some_same (sym same.1 ∙ there))))
              at (inr same) = inl (is ∙ (same ∙ there))

  told_line : (o : Outcome) (x : Option Cause) (owner : Owner) → (told o x owner).line ≡ owner.line
  told_line outcomes.Commit x owner = refl
  told_line outcomes.Abort None owner = refl
  told_line outcomes.Abort (Some c) owner = refl

  behind_on : (c : ClientNo) (line : ℕ) → IsBehind book c line → IsBehind new_book c line
  behind_on c line b = by (owner_either c.0 b.owner b.there)
    where
      by : (slice_get new_book.owners c.0 ≡ Some b.owner) ⊎ (slice_get new_book.owners c.0 ≡ Some (told outcome cause b.owner)) → IsBehind new_book c line
      by (inl is) = record { owner = b.owner; there = is; less = b.less }
      by (inr is) = record { owner = told outcome cause b.owner; there = is; less = ap (λ (n : ℕ). nat_lt n line) (told_line outcome cause b.owner) ∙ b.less }

  told_on : (c : ClientNo) (was : Decided) → MayBeTold book c was → MayBeTold new_book c was
  told_on c was k = by (owner_either c.0 k.owner k.there)
    where
      by : (slice_get new_book.owners c.0 ≡ Some k.owner) ⊎ (slice_get new_book.owners c.0 ≡ Some (told outcome cause k.owner)) → MayBeTold new_book c was
      by (inl is) = record { owner = k.owner; there = is; known = k.known }
      by (inr is) = record { owner = told outcome cause k.owner; there = is; known = known_still outcome cause k.owner (outcome_answer was) k.known }

  -- nothing was kept of it
  none_kept : (was : Decided) → kept_outcome tid node ≡ Some was → ⊥
  none_kept was is = no was.outcome tx.cell still (subst (λ (x : TransactionValue). is_outcome was.outcome x.cell ≡ true) (some_same (sym (h.holds.clients.outcomes tid was is).found ∙ found)) (h.holds.clients.outcomes tid was is).as_kept)
    where
      no : (o : Outcome) (c : Cell) → is_open c ≡ true → is_outcome o c ≡ true → ⊥
      no outcomes.Commit cells.Open e s = cc s
      no outcomes.Abort cells.Open e s = cc s
      no o cells.Commit e s = cc e
      no o cells.Abort e s = cc e

  found_own : find_transaction new_book tid ≡ Some (f tx)
  found_own = found_now stamp book new_book node decided_node h.holds tid f tx found refl

  ended_own : HasEnded new_book tid d
  ended_own = record { tx = f tx; found = found_own; as_kept = as_cell outcome; told = λ c owns. told_own c owns }
    where
      told_own : (c : ClientNo) → tx.owner ≡ Some c → MayBeTold new_book c d
      told_own c owns = by (slice_get book.owners c.0) refl (slot c owns)
        where
          by : (o : Option Owner) → slice_get book.owners c.0 ≡ o → is_some o ≡ true → MayBeTold new_book c d
          by None is e = absurd (cc e)
          by (Some owner) is e = record {
            owner = told outcome cause owner;
            there = ap (λ (os : List Owner). slice_get os c.0) (owners ∙ ap (λ (o : Option ClientNo). told_owner o outcome cause book.owners) owns) ∙ changed_at_here (told outcome cause) book.owners c.0 owner is;
            known = known_now tid outcome cause owner;
          }

  ended_on : (t : Tid) (was : Decided) → kept_outcome t decided_node ≡ Some was → HasEnded new_book t was
  ended_on t was is = by (kept_more t d node.kept.now.outcomes was is)
    where
      by : (find (is_outcome_of t) node.kept.now.outcomes ≡ Some was) ⊎ ((is_outcome_of t d ≡ true) × (d ≡ was)) → HasEnded new_book t was
      by (inl old) = of (same_or_apart tid t)
        where
          of : (tid ≡ t) ⊎ Apart tid t → HasEnded new_book t was
          of (inl same) = absurd (none_kept was (subst (λ (u : Tid). find (is_outcome_of u) node.kept.now.outcomes ≡ Some was) (sym same) old))
          of (inr far) = let e = h.holds.clients.outcomes t was old in
              record { tx = e.tx; found = found_apart stamp book new_book node decided_node h.holds tid f tx found refl t far ∙ e.found; as_kept = e.as_kept; told = λ c owns. told_on c was (e.told c owns) }
      by (inr new) = subst (λ (x : Decided). HasEnded new_book t x) new.1 (of (same_or_apart tid t))
        where
          of : (tid ≡ t) ⊎ Apart tid t → HasEnded new_book t d
          of (inl same) = subst (λ (u : Tid). HasEnded new_book u d) same ended_own
          of (inr far) = absurd (true≢false (sym new.0 ∙ far.of))

  asking_on : (t : Tid) (c : ClientNo) (p : Participant) → t.home ≡ here → tm.part_of t decided_node.manager ≡ Some p → p.outcome ≡ None → p.asked ≡ true → IsOwner new_book t c → IsAsking decided_node t c
  asking_on t c p at is none asked owns = by (same_or_apart tid t)
    where
      clash : Some outcome ≡ None → ⊥
      clash e = cc e

      on : IsAsking node t c → IsAsking decided_node t c
      on a = record { command = a.command; waits = a.waits; commits = a.commits; unissued = a.unissued; begun = a.begun; labelled = a.labelled; of = a.of; owned = a.owned }

      by : (tid ≡ t) ⊎ Apart tid t → IsAsking decided_node t c
      by (inl same) =
          let it : Some (outcome_rules.decided outcome part) ≡ Some p =
          sym (part_changed tid (outcome_rules.decided outcome) node.manager part known) ∙ subst (λ (u : Tid). tm.part_of u decided_node.manager ≡ Some p) (sym same) is in
          absurd (clash (ap (λ (q : Participant). q.outcome) (some_same it) ∙ none))
      by (inr far) = on (h.holds.clients.asking t c p at (sym (part_apart tid t (outcome_rules.decided outcome) node.manager far) ∙ is) none asked (owner_back t c owns))

  clients : HoldsClients new_book decided_node
  clients = record {
    apart = h.holds.clients.apart;
    lines = λ c command is. behind_on c command.line.line (h.holds.clients.lines c command is);
    labels = λ label begun t c is of owned. owner_on t c (h.holds.clients.labels label begun t c is of owned);
    outcomes = ended_on;
    asking = asking_on;
  }

  own : HoldsTid here node.setting.inc tid (f tx) (face_of decided_node tid)
  own =
      subst (λ (o : Option Participant). HoldsTid here node.setting.inc tid (f tx) (record (face_of node tid) { known = o })) (sym (part_changed tid (outcome_rules.decided outcome) node.manager part known))
      (decided_tid book.place outcome cause here node.setting.inc tid tx (face_of node tid) part unknown
      (subst (λ (o : Option Participant). HoldsTid here node.setting.inc tid tx (record (face_of node tid) { known = o })) known (of_tid stamp book node h.holds tid tx found)))

  held : broken book (entry_of here.0 stamp (acts.Decide tid outcome cause)) ≡ None → Holds stamp new_book decided_node
  held lawful = one_changed stamp book new_book node decided_node h.holds tid f tx found refl h.holds.state (state_itself h.holds.state) h.holds.there refl refl refl
      (record { setting = refl; at = refl; in_inc = refl }) refl
      (λ t far. record { known = part_apart tid t (outcome_rules.decided outcome) node.manager far; local = refl; changes = refl; loans = refl; waiting = λ s. refl }) own clients
      (servers_still tid f (λ x. refl) book new_book refl here h.holds.state node.servers h.holds.servers) (λ t far. refl)
      (let k = waits_of stamp book node h.holds tid tx found in record { whole = λ is. committed_whole stamp book node h.holds tid tx found outcome cause is lawful; due = k.due; within = k.within; once = k.once; fits = k.fits })

  abbrev pub decided_work : Work
  decided_work = enter (acts.Decide tid outcome cause) (keep_outcome tid outcome cause (log_if rec (with_manager (tm.decide tid outcome) work)))

  pub by_decide : broken book (entry_of here.0 stamp (acts.Decide tid outcome cause)) ≡ None → HoldsWork stamp before decided_work
  by_decide lawful = by rec
    where
      by : (o : Option Record) → HoldsWork stamp before (enter (acts.Decide tid outcome cause) (keep_outcome tid outcome cause (log_if o (with_manager (tm.decide tid outcome) work))))
      by None = entered stamp before work _ (acts.Decide tid outcome cause) h refl refl lawful (held lawful)
      by (Some r) = entered stamp before work _ (acts.Decide tid outcome cause) h refl refl lawful
          (held_bare stamp new_book decided_node (tm.logged (tid_of r) r decided_node.manager) (bare_part (tid_of r) (outcome_rules.logged r) (λ p. refl) decided_node.manager) (held lawful))
